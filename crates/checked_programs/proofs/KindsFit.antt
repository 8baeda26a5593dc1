-- In a sound program each expression has a kind, and each step has the kinds that it needs.
use Rattle.std.proofs.Common.{◌≡◌, ℤ, List, [], ◌∷◌, Bool, true, false, cond, Option, None, Some, refl, sym, ap, subst, ◌∙◌}
use Rattle.std.proofs.lemmas.Bool.{false≢true, not-false}
use denote.Enum.Bare.{same_true}
use Rattle.std.specs.Prelude.{flat_map, is_some}
use Rattle.std.specs.List.{filter}
use Rattle.fort_arith.specs.contracts.kind.Kind.{the_type as kind_type}
use Rattle.fort_arith.specs.declared.kind.Kind.{Kind}
use Rattle.fort_arith.specs.declared.kind.Kind.TheVariants.{I1, I2, I4, I8, Logical}
use Rattle.fort_arith.specs.Range.{is_whole}
use Rattle.fort_tree.specs.declared.choice.Mode.{Mode}
use Rattle.fort_tree.specs.declared.unit.File.{File}
use Rattle.claw_meaning.specs.Syntax as plain
use Rattle.claw_meaning.specs.Syntax.{Text}
use Rattle.claw_meaning.specs.Scope.{Entity}
use Rattle.sound_programs.specs.KindFaults.{kind_faults_of_part, actual_differs, kind_of_actual, kind_fault_of_actual, is_case_fault, case_fault, values_of, Numbers, numbers_in, overlap, overlaps, first_value, overlapping, needs_of_left, needs_of_step, kind_faults_in_step}
use Rattle.sound_programs.specs.Kinding.{kind, is_integer}
use Rattle.sound_programs.specs.Laws.{Each, entity_of}
use Rattle.sound_programs.specs.Placed.{Expr, Numeral, Boolean, Name, Reference, Signed, Binary, Paren, Subscripts, No_more, One, Section, Range, Single, Span, Unit, first}
use Rattle.sound_programs.specs.Placing.{placed}
use Rattle.sound_programs.specs.Scopes.{unit_of}
use Rattle.sound_programs.specs.Sound.{Sound}
use Rattle.sound_programs.specs.Walks.{Stands, Step, Assigns, Calls, Tests, Chooses, Repeats, Site, reference, call_site, is_function_site, sites, Actual, matched, actuals_of, actuals, steps_of, left_of, parts_read, parts_of, read_by, beside, in_subscripts, single_subscripts, in_head}
use Rattle.sound_programs.proofs.WithinLists.{each_append, each_of_each, each_kept, each_by, each_right, both_of}
use Rattle.sound_programs.proofs.Empties.{left_empty, right_empty, no_head, each_from, each_empty, not_placed, then_true}
use Rattle.checked_programs.specs.Fitting.{EachTwo, AreOfOneSort, CaseFits, HasValue, ShareNoNumber, HasKind, WholesFit, ActualFits, HasFittingKinds, KindsFit, KindsAreKnown}
use Rattle.checked_programs.proofs.DeclsKnown.{declarations_known}
use Rattle.checked_programs.proofs.KindsKnown.{IsSettled, StepIsSettled, all_known}
use Rattle.checked_programs.proofs.PartsFit.{InsideHasKinds, each_single, each_bound, is_whole_part, is_logical_part, all_whole, part_fits}

module _ (entity : Text → Entity) where
  -- ---- Actuals

  -- where an actual is an expression, it has a kind
  abbrev ActualHasKind : Actual → Type 0
  ActualHasKind a = (e : Expr) → a.expr ≡ Some e → HasKind entity e

  given_known : (a b : Expr) → HasKind entity a → Some a ≡ Some b → HasKind entity b
  given_known a b h e = subst (λ o. is_some (kind_of_actual entity o) ≡ true) e h

  not_given : {A : Type 0} (b : Expr) → None ≡ Some b → A
  not_given b e = absurd (false≢true (ap is_some e))

  all_matched : (dummies : List Text) (decls : List plain.Decl) (args : Subscripts) → Each (in_subscripts args) (HasKind entity) → Each (matched dummies decls args) ActualHasKind
  all_matched dummies decls args all = go dummies args (each_single (HasKind entity) args all)
    where
      go : (xs : List Text) (args : Subscripts) → Each (single_subscripts args) (HasKind entity) → Each (matched xs decls args) ActualHasKind
      go [] args all = tt
      go (x ∷ xs) No_more all = tt
      go (x ∷ xs) (One e rest) all = ((λ b h. given_known e b all.0 h), go xs rest all.1)
      go (x ∷ xs) (Section lower upper at rest) all = ((λ b h. not_given b h), go xs rest all)

  of_unit : (o : Option plain.Unit) (args : Subscripts) → Each (in_subscripts args) (HasKind entity) → Each (actuals_of o args) ActualHasKind
  of_unit None args all = tt
  of_unit (Some v) args all = all_matched v.dummies v.decls args all

  -- the arguments of a reference have kinds
  abbrev SiteHasKinds : Site → Type 0
  SiteHasKinds s = Each (in_subscripts s.args) (HasKind entity)

  at_reference : (e : Expr) → InsideHasKinds entity e → Each (reference e) SiteHasKinds
  at_reference (Reference x subs at) h = (h, tt)
  at_reference (Numeral n suffix at) h = tt
  at_reference (Boolean b at) h = tt
  at_reference (Name x at) h = tt
  at_reference (Signed sign e at) h = tt
  at_reference (Binary op a b) h = tt
  at_reference (Paren e at) h = tt

  at_call : (step : Step) → Each (read_by step) (HasKind entity) → Each (call_site step) SiteHasKinds
  at_call (Assigns left right) h = tt
  at_call (Calls name args) h = (h, tt)
  at_call (Tests e) h = tt
  at_call (Chooses e ranges) h = tt
  at_call (Repeats head mark) h = tt

  actuals_known : (step : Step) → StepIsSettled entity step → Each (flat_map (actuals entity) (sites entity step)) ActualHasKind
  actuals_known step settled =
      let inside : Each (parts_read step) (IsSettled entity) = each_right (IsSettled entity) (left_of step) (parts_read step) settled.inside in
      let functions : Each (flat_map reference (parts_read step)) SiteHasKinds =
      each_of_each (IsSettled entity) SiteHasKinds reference (parts_read step) (λ e h. at_reference e h.1) inside in
      each_of_each SiteHasKinds ActualHasKind (actuals entity) (sites entity step) (λ s h. of_unit (unit_of (entity s.name.name)) s.args h)
      (each_append SiteHasKinds (call_site step) (filter (is_function_site entity) (flat_map reference (parts_read step))) (at_call step settled.reads)
      (each_kept SiteHasKinds (is_function_site entity) (flat_map reference (parts_read step)) functions))

  kind_is : (o : Option Kind) (d : plain.Decl) → is_some o ≡ true → actual_differs entity o (Some d) ≡ false → o ≡ Some d.kind
  kind_is None d known h = absurd (false≢true known)
  kind_is (Some k) d known h = ap Some (same_true kind_type tt k d.kind (not-false _ h))

  agrees : (o : Option Expr) (p : Option plain.Decl) → actual_differs entity (kind_of_actual entity o) p ≡ false → ((e : Expr) → o ≡ Some e → HasKind entity e)
      → (e : Expr) (d : plain.Decl) → o ≡ Some e → p ≡ Some d → kind entity e ≡ Some d.kind
  agrees o p h known e d a b =
      kind_is (kind entity e) d (known e a)
      (subst (λ q. actual_differs entity (kind_of_actual entity (Some e)) q ≡ false) b (subst (λ q. actual_differs entity (kind_of_actual entity q) p ≡ false) a h))

  actual_fits : (a : Actual) → (kind_fault_of_actual entity a ≡ []) × ActualHasKind a → ActualFits entity a
  actual_fits a h = agrees a.expr a.dummy (not_placed _ _ h.0) h.1

  -- ---- Cases

  case_fits : (o : Option Kind) (value : Option ℤ) → is_integer o ≡ true → is_case_fault entity o value ≡ false → CaseFits o value
  case_fits o None whole h = absurd (false≢true (sym h))
  case_fits None (Some n) whole h = absurd (false≢true whole)
  case_fits (Some k) (Some n) whole h = (k, n, refl, refl, then_true _ _ h whole)

  kept_apart : (x y : Numbers entity) (b : Range) → cond (overlap entity x y) (first_value entity b) [] ≡ [] → HasValue b → overlap entity x y ≡ false
  kept_apart x y b none has = go (overlap entity x y) none
    where
      some_value : (b : Range) → HasValue b → first_value entity b ≡ [] → ⊥
      some_value (Single e) has none = no_head (first e) [] none
      some_value (Span (Some lower) upper) has none = no_head (first lower) [] none
      some_value (Span None (Some upper)) has none = no_head (first upper) [] none
      some_value (Span None None) has none = has

      go : (t : Bool) → cond t (first_value entity b) [] ≡ [] → t ≡ false
      go true none = absurd (some_value b has none)
      go false none = refl

  share_no_number : (a b : Range) → overlaps entity a b ≡ [] → ShareNoNumber entity a b
  share_no_number a b none has =
      each_from _ (numbers_in entity a) (λ x e. each_from _ (numbers_in entity b) (λ y h. kept_apart x y b h has) e) none

  none_share : (ranges : List Range) → overlapping entity ranges ≡ [] → EachTwo (ShareNoNumber entity) ranges
  none_share [] none = tt
  none_share (a ∷ rest) none = (
    each_from (overlaps entity a) rest (λ b h. share_no_number a b h) (left_empty _ _ none),
    none_share rest (right_empty _ _ none),
  )

  -- ---- Steps

  whole_sorts : (j : Kind) (o : Option Kind) → is_whole j ≡ true → is_integer o ≡ true → AreOfOneSort (Some j) o
  whole_sorts j None h k = absurd (false≢true k)
  whole_sorts j (Some i) h k = (j, i, refl, refl, h ∙ sym k)

  sorts : (o : Option Kind) (right : Expr) → is_some o ≡ true → HasKind entity right → needs_of_left entity o right ≡ [] → AreOfOneSort o (kind entity right)
  sorts None right known inside none = absurd (false≢true known)
  sorts (Some I1) right known inside none = whole_sorts I1 _ refl (is_whole_part entity right inside (left_empty _ _ none))
  sorts (Some I2) right known inside none = whole_sorts I2 _ refl (is_whole_part entity right inside (left_empty _ _ none))
  sorts (Some I4) right known inside none = whole_sorts I4 _ refl (is_whole_part entity right inside (left_empty _ _ none))
  sorts (Some I8) right known inside none = whole_sorts I8 _ refl (is_whole_part entity right inside (left_empty _ _ none))
  sorts (Some Logical) right known inside none = (Logical, Logical, refl, is_logical_part entity right inside none, refl)

  wholes_fit : (step : Step) → StepIsSettled entity step → needs_of_step entity step ≡ [] → WholesFit entity step
  wholes_fit (Assigns left right) settled none =
      sorts (kind entity left) right settled.lefts.0 (each_right (HasKind entity) (beside left) (right ∷ []) settled.reads).0 none
  wholes_fit (Calls name args) settled none = all_whole entity _ (each_bound (HasKind entity) args settled.reads) none
  wholes_fit (Tests e) settled none = is_logical_part entity e settled.reads.0 none
  wholes_fit (Chooses e ranges) settled none =
      let rest = right_empty _ _ none in
      let whole = is_whole_part entity e settled.reads.0 (left_empty _ _ none) in (
        whole,
        each_from (case_fault entity (kind entity e)) (flat_map (values_of entity) ranges) (λ v h. case_fits _ _ whole (not_placed _ _ h)) (left_empty _ _ rest),
        none_share ranges (right_empty _ _ rest),
      )
  wholes_fit (Repeats head mark) settled none = all_whole entity (in_head head) settled.reads none

  kinds_of_step : (step : Step) → StepIsSettled entity step → kind_faults_in_step entity step ≡ [] → HasFittingKinds entity step
  kinds_of_step step settled none =
      let rest = right_empty _ _ none in
      record {
        wholes = wholes_fit step settled (left_empty _ _ none);
        parts = each_by (parts_of step) (λ e h. part_fits entity e h.0.1 h.1)
            (both_of _ _ (parts_of step) settled.inside (each_empty (kind_faults_of_part entity) (parts_of step) (left_empty _ _ rest)));
        actuals = each_by (flat_map (actuals entity) (sites entity step)) actual_fits
            (both_of _ _ (flat_map (actuals entity) (sites entity step))
            (each_empty (kind_fault_of_actual entity) (flat_map (actuals entity) (sites entity step)) (right_empty _ _ rest))
            (actuals_known step settled));
      }

pub kinds_fit : (mode : Mode) (file : File) → Sound mode file → KindsFit file
kinds_fit mode file sound =
    each_by (placed file).units (λ (u : Unit) h. each_by (steps_of u) (λ (s : Stands) k. kinds_of_step (entity_of file u) s.step k.0 k.1) h) (all_known mode file sound)

pub kinds_are_known : (mode : Mode) (file : File) → Sound mode file → KindsAreKnown file
kinds_are_known mode file sound =
    let known = all_known mode file sound in
    record {
      expressions = each_by (placed file).units (λ (u : Unit) h.
          each_by (steps_of u) (λ (s : Stands) k. each_append (HasKind (entity_of file u)) (left_of s.step) (read_by s.step) k.0.lefts k.0.reads) h) known;
      inside = each_by (placed file).units (λ (u : Unit) h.
          each_by (steps_of u) (λ (s : Stands) k.
          each_by (parts_of s.step) (λ (e : Expr) (i : IsSettled (entity_of file u) e). i.0) k.0.inside) h) known;
      declarations = declarations_known mode file sound;
    }
