-- A column unit that is written with the source's interface keeps its name, host, and the kind of its name.
use Rattle.std.proofs.Common.{◌≡◌, refl, ap, sym, ◌∙◌, subst, List, [], ◌∷◌, ◌++◌, map, Bool, true, false, Option, Some, None}
use Rattle.std.specs.Prelude.{if◌then◌else◌, ◌&&◌, not, is_some}
use Rattle.std.specs.List.{IsDistinct}
use Rattle.std.specs.Option.{option_or, option_map}
use Rattle.std.specs.Str.{bytes_eq}
use Rattle.std.proofs.lemmas.Bool.{false≢true}
use Rattle.std.proofs.lemmas.List.Folds.{find-append}
use Rattle.std.proofs.lemmas.Slice.Eq.{bytes_eq-Decides}
use mathlib.Core.Path.{ap₂}
use Rattle.fort_arith.specs.declared.kind.Kind.TheVariants.{I4}
use Rattle.fort_tree.specs.declared.unit.Intent.{Intent}
use Rattle.fort_tree.specs.declared.unit.Intent.TheVariants.{In}
use Rattle.claw_meaning.specs.Syntax.{Text, Decl, Expr, Numeral, Boolean, Name, Reference, Signed, Binary, Paren, Unit, Program}
use Rattle.claw_meaning.specs.Scope.{Entity, Unknown, Variable, Constant, Procedure, or_else, entity_of, decl_named, used, module_gives, host_gives, module_at, procedure_of, unit_within, visible}
use Rattle.claw_meaning.specs.Kinds.{kind_of_decl, result_name}
use Rattle.claw_meaning.specs.Columns.{unknown_name, added_for, upper_written}
use Rattle.claw_meaning.specs.Units.{is_column_unit}
use Rattle.claw_meaning.specs.Interface.{Widening, widening, no_widening, widening_of, wide_decl, is_constant_decl, is_shared_decl, is_fresh, integer_decl, added_decl, id_decl, written_decls, UnitInterface}
use Rattle.plain_units.specs.Translated.{TranslatesUnit, column}
use Rattle.plain_units.proofs.Declared.{plain, fresh, group, kept, filtered}

-- The added dummy isn't declared

undeclared : (home : Text) (o : Option Decl) (rest : Entity) → or_else (entity_of home o) rest ≡ Unknown → o ≡ None
undeclared home None rest e = refl
undeclared home (Some d) rest e = absurd (go (is_some d.value) e)
  where
    go : (b : Bool) → or_else (if b then Constant d else Variable home d) rest ≡ Unknown → ⊥
    go true e = cc
    go false e = cc

unseen : (a : Entity) (z x : Text) → unknown_name a z ≡ Some x → (a ≡ Unknown) × (z ≡ x)
unseen Unknown z x e = (refl, cc)
unseen (Variable home d) z x e = absurd (cc)
unseen (Constant d) z x e = absurd (cc)
unseen (Procedure v) z x e = absurd (cc)

none_some : {A : Type 0} (a : A) → None ≡ Some a → ⊥
none_some a e = cc

module _ (p : Program) (u : Unit) where
  added_unseen : (e : Option Expr) (x : Text) → added_for p u e ≡ Some x → decl_named u.decls x ≡ None
  added_unseen None x e = absurd (none_some x e)
  added_unseen (Some (Numeral n suffix)) x e = absurd (none_some x e)
  added_unseen (Some (Boolean b)) x e = absurd (none_some x e)
  added_unseen (Some (Name z)) x e =
      let t = unseen (visible p u z) z x e in
      undeclared u.name (decl_named u.decls x) (or_else (used (module_gives p) u.uses x) (or_else (host_gives p (module_at p u.host) x) (procedure_of (unit_within p None x)))) (subst (λ y. visible p u y ≡ Unknown) t.1 t.0)
  added_unseen (Some (Reference z subs)) x e = absurd (none_some x e)
  added_unseen (Some (Signed sign a)) x e = absurd (none_some x e)
  added_unseen (Some (Binary op a b)) x e = absurd (none_some x e)
  added_unseen (Some (Paren a)) x e = absurd (none_some x e)

  no_added : (wide : Text → Bool) (x : Text) → (widening_of p u wide).added ≡ Some x → decl_named u.decls x ≡ None
  no_added wide x = go (is_column_unit u)
    where
      go : (b : Bool) → (if b then widening p u wide else no_widening).added ≡ Some x → decl_named u.decls x ≡ None
      go true e = added_unseen (upper_written u) x e
      go false e = absurd (none_some x e)

-- The kind of a name that the written declarations give

module _ (u : Unit) (w : Widening) where
  wide_name : (d : Decl) → (wide_decl w d).name ≡ d.name
  wide_name d = go (w.wide d.name)
    where
      go : (b : Bool) → (if b then wide_decl (record w { wide = λ x. true }) d else d).name ≡ d.name
      go true = refl
      go false = refl

  wide_kind : (d : Decl) → (wide_decl w d).kind ≡ d.kind
  wide_kind d = go (w.wide d.name)
    where
      go : (b : Bool) → (if b then wide_decl (record w { wide = λ x. true }) d else d).kind ≡ d.kind
      go true = refl
      go false = refl

  named_wide : (x : Text) (ds : List Decl) → decl_named (map (wide_decl w) ds) x ≡ option_map (wide_decl w) (decl_named ds x)
  named_wide x [] = refl
  named_wide x (d ∷ ds) =
      ap (λ n. if bytes_eq n x then Some (wide_decl w d) else decl_named (map (wide_decl w) ds) x) (wide_name d) ∙ go (bytes_eq d.name x) (named_wide x ds)
    where
      go : (b : Bool) → decl_named (map (wide_decl w) ds) x ≡ option_map (wide_decl w) (decl_named ds x) → (if b then Some (wide_decl w d) else decl_named (map (wide_decl w) ds) x) ≡ option_map (wide_decl w) (if b then Some d else decl_named ds x)
      go true h = refl
      go false h = h

  -- what is found for a name that is declared so
  abbrev written_of : Option Decl → Option Decl → Option Decl → Option Decl
  written_of o added id =
      option_or (kept is_constant_decl o)
      (option_or (option_or (kept (is_shared_decl u) o) added)
      (option_or (option_or (option_map (wide_decl w) (kept (plain u) o)) (option_map (wide_decl w) (kept (fresh u) o))) id))

  written_named : (x : Text) → IsDistinct bytes_eq (map (λ d. d.name) u.decls) → decl_named (written_decls u w) x ≡ written_of (decl_named u.decls x) (decl_named (added_decl w.added) x) (decl_named (id_decl u w) x)
  written_named x h =
      find-append (λ d. bytes_eq d.name x) (group u is_constant_decl) ((group u (is_shared_decl u) ++ added_decl w.added) ++ ((map (wide_decl w) (group u (plain u)) ++ map (wide_decl w) (group u (fresh u))) ++ id_decl u w))
      ∙ ap₂ option_or (filtered is_constant_decl x u.decls h)
      (find-append (λ d. bytes_eq d.name x) (group u (is_shared_decl u) ++ added_decl w.added) ((map (wide_decl w) (group u (plain u)) ++ map (wide_decl w) (group u (fresh u))) ++ id_decl u w)
      ∙ ap₂ option_or
      (find-append (λ d. bytes_eq d.name x) (group u (is_shared_decl u)) (added_decl w.added) ∙ ap (λ o. option_or o (decl_named (added_decl w.added) x)) (filtered (is_shared_decl u) x u.decls h))
      (find-append (λ d. bytes_eq d.name x) (map (wide_decl w) (group u (plain u)) ++ map (wide_decl w) (group u (fresh u))) (id_decl u w)
      ∙ ap (λ o. option_or o (decl_named (id_decl u w) x))
      (find-append (λ d. bytes_eq d.name x) (map (wide_decl w) (group u (plain u))) (map (wide_decl w) (group u (fresh u)))
      ∙ ap₂ option_or
      (named_wide x (group u (plain u)) ∙ ap (option_map (wide_decl w)) (filtered (plain u) x u.decls h))
      (named_wide x (group u (fresh u)) ∙ ap (option_map (wide_decl w)) (filtered (fresh u) x u.decls h)))))

  one_kind : (y : Text) (intent : Option Intent) (b : Bool) → kind_of_decl (if b then Some (integer_decl y intent) else None) ≡ I4
  one_kind y intent true = refl
  one_kind y intent false = refl

  added_kind : (x : Text) (a : Option Text) → kind_of_decl (decl_named (added_decl a) x) ≡ I4
  added_kind x None = refl
  added_kind x (Some y) = one_kind y (Some In) (bytes_eq y x)

  id_kind : (x : Text) (b : Bool) → kind_of_decl (decl_named (if b then integer_decl w.id None ∷ [] else []) x) ≡ I4
  id_kind x true = one_kind w.id None (bytes_eq w.id x)
  id_kind x false = refl

  kinds_of : (o added id : Option Decl) → (is_some o ≡ true → added ≡ None) → kind_of_decl added ≡ I4 → kind_of_decl id ≡ I4 → kind_of_decl (written_of o added id) ≡ kind_of_decl o
  kinds_of None None id h a i = i
  kinds_of None (Some d) id h a i = a
  kinds_of (Some d) added id h a i = subst (λ x. kind_of_decl (written_of (Some d) x id) ≡ d.kind) (sym (h refl)) (go (is_constant_decl d) (is_shared_decl u d) (is_fresh d.name))
    where
      go : (a b c : Bool) → kind_of_decl (option_or (if a then Some d else None) (option_or (option_or (if b then Some d else None) None) (option_or (option_or (option_map (wide_decl w) (if (not a && not b) && not c then Some d else None)) (option_map (wide_decl w) (if (not a && not b) && c then Some d else None))) id))) ≡ d.kind
      go true b c = refl
      go false true c = refl
      go false false true = wide_kind d
      go false false false = wide_kind d

  none_added : (x : Text) (a : Option Text) → ((y : Text) → a ≡ Some y → decl_named u.decls y ≡ None) → is_some (decl_named u.decls x) ≡ true → decl_named (added_decl a) x ≡ None
  none_added x None h e = refl
  none_added x (Some y) h e = go (bytes_eq y x) refl
    where
      go : (b : Bool) → bytes_eq y x ≡ b → (if bytes_eq y x then Some (integer_decl y (Some In)) else None) ≡ None
      go true q = absurd (false≢true (sym (ap is_some (subst (λ z. decl_named u.decls z ≡ None) ((bytes_eq-Decides y x).0 q) (h y refl))) ∙ e))
      go false q = ap (λ b. if b then Some (integer_decl y (Some In)) else None) q

  written_kind : (x : Text) → IsDistinct bytes_eq (map (λ d. d.name) u.decls) → ((y : Text) → w.added ≡ Some y → decl_named u.decls y ≡ None) → kind_of_decl (decl_named (written_decls u w) x) ≡ kind_of_decl (decl_named u.decls x)
  written_kind x h n =
      ap kind_of_decl (written_named x h)
      ∙ kinds_of (decl_named u.decls x) (decl_named (added_decl w.added) x) (decl_named (id_decl u w) x) (none_added x w.added n) (added_kind x w.added) (id_kind x (is_column_unit u))

pub column_translated : (p : Program) (u t : Unit) (wide : Text → Bool) → is_column_unit u ≡ true → UnitInterface p u t (widening_of p u wide) → IsDistinct bytes_eq (map (λ d. d.name) u.decls) → TranslatesUnit u t
column_translated p u t wide e i h =
    column e i.name i.host
    (ap₂ (λ ds n. kind_of_decl (decl_named ds n)) i.decls (ap₂ result_name i.name i.result)
    ∙ written_kind u (widening_of p u wide) (result_name u.name u.result) h (no_added p u wide))
