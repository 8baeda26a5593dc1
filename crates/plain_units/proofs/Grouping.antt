-- A unit with its declarations by their groups is the regrouped one, where it is no column unit.
use Rattle.std.proofs.Common.{◌≡◌, refl, ap, sym, ◌∙◌, List, ◌++◌, Bool, true, false}
use Rattle.std.specs.Prelude.{[], ◌&&◌, not}
use Rattle.std.specs.List.{filter}
use Rattle.std.proofs.lemmas.List.{append_assoc}
use mathlib.Core.Path.{fun_ext}
use Rattle.claw_meaning.specs.Syntax.{Decl, Unit}
use Rattle.claw_meaning.specs.Units.{is_column_unit, is_column_of, is_listed, data_of, directive_of, is_word_parallelize, is_intent_in, is_array_decl}
use Rattle.claw_meaning.specs.Interface.{is_constant_decl, is_shared_decl, is_fresh}
use Rattle.plain_units.specs.Regrouped.{regrouped}
use Rattle.plain_units.specs.Groups.{is_shared, is_in_group, in_groups, with_groups}
use Rattle.plain_units.specs.declared.regrouping.Group.TheVariants.{Constants, Shared, Others, Made}
use Rattle.plain_units.proofs.Declared.{written_is}

-- the groups, where this tells the second one's declarations
abbrev groups_by : (Decl → Bool) → List Decl → List Decl
groups_by shared ds =
    filter is_constant_decl ds
    ++ (filter shared ds
    ++ (filter (λ d. (not (is_constant_decl d) && not (shared d)) && not (is_fresh d.name)) ds
    ++ filter (λ d. (not (is_constant_decl d) && not (shared d)) && is_fresh d.name) ds))

and_true : (a : Bool) → a && true ≡ a
and_true true = refl
and_true false = refl

module _ (u : Unit) (e : is_column_unit u ≡ false) where
  shared_is : is_shared_decl u ≡ is_shared
  shared_is =
      fun_ext (λ d.
      ap (λ b. is_intent_in d.intent && (not (is_array_decl d) && not (b && (is_listed u.dummies d.name && is_column_of (data_of (directive_of is_word_parallelize u.marks)) u d.name)))) e
      ∙ ap (λ b. is_intent_in d.intent && b) (and_true (not (is_array_decl d))))

  groups_are : in_groups u.decls ≡ groups_by is_shared u.decls
  groups_are =
      append_assoc (filter (is_in_group Constants) u.decls ++ filter (is_in_group Shared) u.decls) (filter (is_in_group Others) u.decls) (filter (is_in_group Made) u.decls)
      ∙ append_assoc (filter (is_in_group Constants) u.decls) (filter (is_in_group Shared) u.decls) (filter (is_in_group Others) u.decls ++ filter (is_in_group Made) u.decls)

  pub with_groups_is : with_groups u ≡ regrouped u
  with_groups_is =
      let p : in_groups u.decls ≡ (regrouped u).decls = groups_are ∙ ap (λ s. groups_by s u.decls) (sym shared_is) ∙ sym (written_is u e) in
      λ i. record { name = u.name; dummies = u.dummies; result = u.result; uses = u.uses; decls = p i; marks = []; body = u.body; host = u.host }
