-- A name that is declared once has the same declaration in the three groups.
use Rattle.std.proofs.Common.{◌≡◌, refl, ap, sym, ◌∙◌, List, [], ◌∷◌, ◌++◌, map, Bool, true, false, Option, Some, None}
use Rattle.std.specs.Prelude.{if◌then◌else◌, ◌&&◌, not}
use Rattle.std.specs.List.{filter, IsDistinct, AllByRecursion}
use Rattle.std.specs.Option.{option_or}
use Rattle.std.specs.Str.{bytes_eq}
use Rattle.std.specs.Bool.{Decides}
use Rattle.std.proofs.lemmas.Bool.{false≢true}
use Rattle.std.proofs.lemmas.List.{map-id, append-nil}
use Rattle.std.proofs.lemmas.List.Folds.{find-append}
use Rattle.std.proofs.lemmas.Slice.Eq.{bytes_eq-Decides}
use mathlib.Core.Path.{ap₂}
use Rattle.claw_meaning.specs.Syntax.{Text, Decl, Unit}
use Rattle.claw_meaning.specs.Scope.{decl_named}
use Rattle.claw_meaning.specs.Units.{is_column_unit}
use Rattle.claw_meaning.specs.Interface.{no_widening, wide_decl, integer_decl, written_decls, is_constant_decl, is_shared_decl, is_other_decl, is_fresh}
use Rattle.claw_meaning.specs.Erasure.{grouped}

module _ (u : Unit) where
  abbrev pub plain : Decl → Bool
  plain d = is_other_decl u d && not (is_fresh d.name)

  abbrev pub fresh : Decl → Bool
  fresh d = is_other_decl u d && is_fresh d.name

  abbrev pub group : (Decl → Bool) → List Decl
  group p = filter p u.decls

  abbrev widened : List Decl → List Decl
  widened ds = map (wide_decl no_widening) ds

  -- Without columns the written declarations are the three groups alone.
  pub written_is : is_column_unit u ≡ false → written_decls u no_widening ≡ grouped u u.decls
  written_is e =
      ap (λ b. group is_constant_decl ++ ((group (is_shared_decl u) ++ []) ++ ((widened (group plain) ++ widened (group fresh)) ++ (if b then integer_decl [] None ∷ [] else [])))) e
      ∙ ap (λ s. group is_constant_decl ++ (s ++ ((widened (group plain) ++ widened (group fresh)) ++ []))) (append-nil (group (is_shared_decl u)))
      ∙ ap (λ s. group is_constant_decl ++ (group (is_shared_decl u) ++ s)) (append-nil (widened (group plain) ++ widened (group fresh)) ∙ ap₂ (λ a b. a ++ b) (map-id (group plain)) (map-id (group fresh)))

abbrev pub kept : (Decl → Bool) → Option Decl → Option Decl
kept p None = None
kept p (Some d) = if p d then Some d else None

-- where another declaration has the name, none of these has
not_here : (k x y : Text) → k ≡ x → bytes_eq k y ≡ false → bytes_eq y x ≡ false
not_here k x y e h = go (bytes_eq y x) (bytes_eq-Decides y x)
  where
    go : (b : Bool) → Decides b (y ≡ x) → b ≡ false
    go true d = absurd (false≢true (sym h ∙ (bytes_eq-Decides k y).1 (e ∙ sym (d.0 refl))))
    go false d = refl

absent : (p : Decl → Bool) (k x : Text) (ds : List Decl) → k ≡ x → AllByRecursion (λ y. bytes_eq k y ≡ false) (map (λ d. d.name) ds) → decl_named (filter p ds) x ≡ None
absent p k x [] e h = refl
absent p k x (d ∷ ds) e h = go (p d) (not_here k x d.name e h.0) (absent p k x ds e h.1)
  where
    go : (b : Bool) → bytes_eq d.name x ≡ false → decl_named (filter p ds) x ≡ None → decl_named (if b then d ∷ filter p ds else filter p ds) x ≡ None
    go true q i = ap (λ a. if a then Some d else decl_named (filter p ds) x) q ∙ i
    go false q i = i

pub filtered : (p : Decl → Bool) (x : Text) (ds : List Decl) → IsDistinct bytes_eq (map (λ d. d.name) ds) → decl_named (filter p ds) x ≡ kept p (decl_named ds x)
unfolding IsDistinct
filtered p x [] h = refl
filtered p x (d ∷ ds) h = go (bytes_eq d.name x) (p d) refl refl (filtered p x ds h.1) (λ e. absent p d.name x ds ((bytes_eq-Decides d.name x).0 e) h.0)
  where
    go : (a b : Bool) → bytes_eq d.name x ≡ a → p d ≡ b → decl_named (filter p ds) x ≡ kept p (decl_named ds x) → (bytes_eq d.name x ≡ true → decl_named (filter p ds) x ≡ None)
        → decl_named (if b then d ∷ filter p ds else filter p ds) x ≡ kept p (if a then Some d else decl_named ds x)
    go true true e f i n = ap (λ a. if a then Some d else decl_named (filter p ds) x) e ∙ sym (ap (λ b. if b then Some d else None) f)
    go true false e f i n = n e ∙ sym (ap (λ b. if b then Some d else None) f)
    go false true e f i n = ap (λ a. if a then Some d else decl_named (filter p ds) x) e ∙ i
    go false false e f i n = i

-- each declaration is in one of the groups
one_of : (d : Decl) (a b c : Bool) → option_or (if a then Some d else None) (option_or (if b then Some d else None) (option_or (if (not a && not b) && not c then Some d else None) (if (not a && not b) && c then Some d else None))) ≡ Some d
one_of d true b c = refl
one_of d false true c = refl
one_of d false false true = refl
one_of d false false false = refl

module _ (u : Unit) where
  chosen_from : (w : Option Decl) → option_or (kept is_constant_decl w) (option_or (kept (is_shared_decl u) w) (option_or (kept (plain u) w) (kept (fresh u) w))) ≡ w
  chosen_from None = refl
  chosen_from (Some d) = one_of d (is_constant_decl d) (is_shared_decl u d) (is_fresh d.name)

  pub grouped_decl : (x : Text) → IsDistinct bytes_eq (map (λ d. d.name) u.decls) → decl_named (grouped u u.decls) x ≡ decl_named u.decls x
  grouped_decl x h =
      find-append (λ d. bytes_eq d.name x) (group u is_constant_decl) (group u (is_shared_decl u) ++ (group u (plain u) ++ group u (fresh u)))
      ∙ ap₂ option_or (filtered is_constant_decl x u.decls h)
      (find-append (λ d. bytes_eq d.name x) (group u (is_shared_decl u)) (group u (plain u) ++ group u (fresh u))
      ∙ ap₂ option_or (filtered (is_shared_decl u) x u.decls h)
      (find-append (λ d. bytes_eq d.name x) (group u (plain u)) (group u (fresh u))
      ∙ ap₂ option_or (filtered (plain u) x u.decls h) (filtered (fresh u) x u.decls h)))
      ∙ chosen_from (decl_named u.decls x)
