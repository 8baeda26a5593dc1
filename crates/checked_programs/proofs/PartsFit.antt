-- A part of an expression in which no fault of kinds stands takes what it needs, and has a kind, where what stands right inside
-- it has kinds.
use Rattle.std.proofs.Common.{◌≡◌, ℕ, List, [], ◌∷◌, ◌++◌, Bool, true, false, ◌&&◌, ◌||◌, not, cond, Option, None, Some, refl, sym, ap, subst, ◌∙◌}
use Rattle.std.proofs.lemmas.Bool.{false≢true, not-false}
use denote.Enum.Bare.{same_true}
use Rattle.std.specs.Prelude.{⊤, flat_map, is_some, is_none}
use Rattle.fort_arith.specs.contracts.kind.Kind.{the_type as kind_type}
use Rattle.fort_arith.specs.declared.kind.Kind.{Kind}
use Rattle.fort_arith.specs.declared.kind.Kind.TheVariants.{I1, I2, I4, I8, Logical}
use Rattle.fort_arith.specs.declared.op.Op.{Op}
use Rattle.fort_arith.specs.declared.op.Intrinsic.{Intrinsic}
use Rattle.fort_arith.specs.declared.op.Intrinsic.TheVariants.{Abs, Int, Max, Min, Mod, Modulo, Sign, Size, Sum}
use Rattle.fort_arith.specs.Operators.{is_arithmetic, is_relation}
use Rattle.fort_tree.specs.Intrinsic.{intrinsic_named}
use Rattle.fort_tree.specs.Same.{same_kind}
use Rattle.fort_tree.specs.declared.expr.Unary.{Unary}
use Rattle.fort_tree.specs.declared.expr.Unary.TheVariants.{Plus, Minus, Not}
use Rattle.claw_meaning.specs.Syntax.{Text}
use Rattle.claw_meaning.specs.Scope.{Entity}
use Rattle.sound_programs.specs.ArgumentFaults.{takes, intrinsic_takes}
use Rattle.sound_programs.specs.KindFaults.{needs_integer, needs_logical, needs_of_operator, needs_of_sign, second_of_int, first_of_other_kind, differing_kinds, kinds_differ_or_logical, first_argument, kind_faults_of_intrinsic, kind_faults_of_reference, kind_faults_of_part}
use Rattle.sound_programs.specs.Kinding.{kind, kinds_in, is_integer, is_logical, integer, greater_of, agreed, common_kind, first_kind, kind_of_int, kind_of_entity, kind_of_intrinsic, kind_of_reference, kind_of_sign}
use Rattle.sound_programs.specs.Laws.{Each}
use Rattle.sound_programs.specs.Placed.{Expr, Numeral, Boolean, Name, Reference, Signed, Binary, Paren, Subscripts, No_more, One, Section, first, after_first}
use Rattle.sound_programs.specs.RankFaults.{range_as_argument}
use Rattle.sound_programs.specs.Scopes.{is_array}
use Rattle.sound_programs.specs.Walks.{Site, reference, in_limit, in_subscripts, single_subscripts, section_bounds, section_places, count_of}
use Rattle.sound_programs.proofs.WithinLists.{each_append, each_by, each_right, each_left}
use Rattle.sound_programs.proofs.Empties.{left_empty, right_empty, no_head, not_placed, then_true, not_none}
use Rattle.checked_programs.specs.Fitting.{EachTwo, NamesKind, HasKind, IsInteger, IsLogical, FitsOperator, FitsSign, AreOfOneKind, ArgumentsFit, SubscriptsFit, PartFits}

-- ---- Kinds that are known

whole_if_known : (o : Option Kind) → is_some o ≡ true → is_logical o ≡ false → is_integer o ≡ true
whole_if_known None known h = known
whole_if_known (Some I1) known h = refl
whole_if_known (Some I2) known h = refl
whole_if_known (Some I4) known h = refl
whole_if_known (Some I8) known h = refl
whole_if_known (Some Logical) known h = absurd (false≢true (sym h))

logical_if_known : (o : Option Kind) → is_some o ≡ true → is_integer o ≡ false → o ≡ Some Logical
logical_if_known None known h = absurd (false≢true known)
logical_if_known (Some I1) known h = absurd (false≢true (sym h))
logical_if_known (Some I2) known h = absurd (false≢true (sym h))
logical_if_known (Some I4) known h = absurd (false≢true (sym h))
logical_if_known (Some I8) known h = absurd (false≢true (sym h))
logical_if_known (Some Logical) known h = refl

pub integer_is : (o : Option Kind) → is_integer o ≡ true → integer o ≡ o
integer_is o h = ap (λ b. cond b o None) h

pub integer_known : (o : Option Kind) → is_integer o ≡ true → is_some o ≡ true
integer_known None h = h
integer_known (Some k) h = refl

same_kinds : (a b : Option Kind) → is_integer a ≡ true → is_integer b ≡ true → same_kind a b ≡ true → a ≡ b
same_kinds None b h k e = absurd (false≢true h)
same_kinds (Some i) None h k e = absurd (false≢true k)
same_kinds (Some i) (Some j) h k e = ap Some (same_true kind_type tt i j e)

same_itself : (o : Option Kind) → is_integer o ≡ true → is_integer o && same_kind o o ≡ true
same_itself None h = h
same_itself (Some I1) h = refl
same_itself (Some I2) h = refl
same_itself (Some I4) h = refl
same_itself (Some I8) h = refl
same_itself (Some Logical) h = h

both_known : (a b : Option Kind) → is_some a ≡ true → is_some b ≡ true → is_some (greater_of a b) ≡ true
both_known None b h k = h
both_known (Some i) None h k = k
both_known (Some i) (Some j) h k = refl

pub greater_known : (a b : Option Kind) → is_integer a ≡ true → is_integer b ≡ true → is_some (greater_of (integer a) (integer b)) ≡ true
greater_known a b h k =
    both_known (integer a) (integer b) (ap is_some (integer_is a h) ∙ integer_known a h) (ap is_some (integer_is b k) ∙ integer_known b k)

-- ---- Subscripts and arguments

module _ (Q : Expr → Type 0) where
  pub each_single : (subs : Subscripts) → Each (in_subscripts subs) Q → Each (single_subscripts subs) Q
  each_single No_more all = tt
  each_single (One e rest) all = (all.0, each_single rest all.1)
  each_single (Section lower upper at rest) all =
      each_single rest (each_right Q (in_limit upper) (in_subscripts rest) (each_right Q (in_limit lower) (in_limit upper ++ in_subscripts rest) all))

  pub each_bound : (subs : Subscripts) → Each (in_subscripts subs) Q → Each (section_bounds subs) Q
  each_bound No_more all = tt
  each_bound (One e rest) all = each_bound rest all.1
  each_bound (Section lower upper at rest) all =
      let behind : Each (in_limit upper ++ in_subscripts rest) Q = each_right Q (in_limit lower) (in_limit upper ++ in_subscripts rest) all in
      each_append Q (in_limit lower) (in_limit upper ++ section_bounds rest)
      (each_left Q (in_limit lower) (in_limit upper ++ in_subscripts rest) all)
      (each_append Q (in_limit upper) (section_bounds rest)
      (each_left Q (in_limit upper) (in_subscripts rest) behind)
      (each_bound rest (each_right Q (in_limit upper) (in_subscripts rest) behind)))

module _ (entity : Text → Entity) where
  -- what stands right inside a part has kinds
  abbrev pub InsideHasKinds : Expr → Type 0
  InsideHasKinds (Numeral n suffix at) = ⊤
  InsideHasKinds (Boolean b at) = ⊤
  InsideHasKinds (Name x at) = ⊤
  InsideHasKinds (Reference x subs at) = Each (in_subscripts subs) (HasKind entity)
  InsideHasKinds (Signed sign e at) = HasKind entity e
  InsideHasKinds (Binary op a b) = HasKind entity a × HasKind entity b
  InsideHasKinds (Paren e at) = HasKind entity e

  -- ---- What a part takes

  pub is_whole_part : (e : Expr) → HasKind entity e → needs_integer entity e ≡ [] → IsInteger entity e
  is_whole_part e known none = whole_if_known _ known (not_placed _ _ none)

  pub is_logical_part : (e : Expr) → HasKind entity e → needs_logical entity e ≡ [] → IsLogical entity e
  is_logical_part e known none = logical_if_known _ known (not_placed _ _ none)

  pub all_whole : (es : List Expr) → Each es (HasKind entity) → flat_map (needs_integer entity) es ≡ [] → Each es (IsInteger entity)
  all_whole [] known none = tt
  all_whole (e ∷ es) known none = (is_whole_part e known.0 (left_empty _ _ none), all_whole es known.1 (right_empty _ _ none))

  two_of_one : (k : Option Kind) (es : List Expr) → Each es (λ e. k ≡ kind entity e) → EachTwo (λ a b. kind entity a ≡ kind entity b) es
  two_of_one k [] all = tt
  two_of_one k (e ∷ es) all = (each_by es (λ b same. sym all.0 ∙ same) all.1, two_of_one k es all.1)

  of_this : (k o : Option Kind) → is_integer k ≡ true → is_integer o ≡ true → is_integer o && not (same_kind k o) ≡ false → k ≡ o
  of_this k o h whole none = same_kinds k o h whole (then_true _ _ none whole)

  all_of_this : (k : Option Kind) → is_integer k ≡ true → (es : List Expr) → first_of_other_kind entity k es ≡ [] → Each es (IsInteger entity) → Each es (λ e. k ≡ kind entity e)
  all_of_this k whole [] none all = tt
  all_of_this k whole (e ∷ es) none all = go (all_of_this k whole es) (is_integer (kind entity e) && not (same_kind k (kind entity e))) refl
    where
      go : (first_of_other_kind entity k es ≡ [] → Each es (IsInteger entity) → Each es (λ e. k ≡ kind entity e))
          → (b : Bool) → is_integer (kind entity e) && not (same_kind k (kind entity e)) ≡ b → Each (e ∷ es) (λ e. k ≡ kind entity e)
      go rest true h = absurd (no_head (first e) [] (subst (λ b. cond b (first e ∷ []) (first_of_other_kind entity k es) ≡ []) h none))
      go rest false h =
          (of_this k (kind entity e) whole all.0 h, rest (subst (λ b. cond b (first e ∷ []) (first_of_other_kind entity k es) ≡ []) h none) all.1)

  of_one_kind : (es : List Expr) → differing_kinds entity es ≡ [] → Each es (IsInteger entity) → EachTwo (λ a b. kind entity a ≡ kind entity b) es
  of_one_kind [] none all = tt
  of_one_kind (e ∷ es) none all =
      let same : Each es (λ b. kind entity e ≡ kind entity b) =
      all_of_this (kind entity e) all.0 es (subst (λ b. cond b (first_of_other_kind entity (kind entity e) es) (differing_kinds entity es) ≡ []) all.0 none) all.1 in
      (same, two_of_one (kind entity e) es same)

  fits_operator : (op : Op) (e : Expr) → HasKind entity e → needs_of_operator entity op e ≡ [] → FitsOperator entity op e
  fits_operator op e known none = go (is_arithmetic op || is_relation op) none
    where
      go : (b : Bool) → cond b (needs_integer entity e) (needs_logical entity e) ≡ [] → (b ≡ true → IsInteger entity e) × (b ≡ false → IsLogical entity e)
      go true none = ((λ h. is_whole_part e known none), λ h. absurd (false≢true (sym h)))
      go false none = ((λ h. absurd (false≢true h)), λ h. is_logical_part e known none)

  fits_sign : (sign : Unary) (e : Expr) → HasKind entity e → needs_of_sign entity sign e ≡ [] → FitsSign entity sign e
  fits_sign Plus e known none = is_whole_part e known none
  fits_sign Minus e known none = is_whole_part e known none
  fits_sign Not e known none = is_logical_part e known none

  are_of_one_kind : (args : Subscripts) → Each (in_subscripts args) (HasKind entity) → kinds_differ_or_logical entity args ≡ [] → AreOfOneKind entity (single_subscripts args)
  are_of_one_kind args known none =
      let whole : Each (single_subscripts args) (IsInteger entity) = all_whole _ (each_single (HasKind entity) args known) (left_empty _ _ none) in
      (whole, of_one_kind (single_subscripts args) (right_empty _ _ none) whole)

  names_kind : (args : Subscripts) → second_of_int entity args ≡ [] → NamesKind args
  names_kind No_more none = tt
  names_kind (One e rest) none = not_none _ (not_placed _ _ none)
  names_kind (Section lower upper at rest) none = tt

  first_known : (args : Subscripts) → Each (in_subscripts args) (HasKind entity) → Each (first_argument entity args) (HasKind entity)
  first_known No_more known = tt
  first_known (One e rest) known = (known.0, tt)
  first_known (Section lower upper at rest) known = tt

  arguments_fit : (which : Intrinsic) (args : Subscripts) → Each (in_subscripts args) (HasKind entity) → kind_faults_of_intrinsic entity which args ≡ [] → ArgumentsFit entity which args
  arguments_fit Size args known none = tt
  arguments_fit Int args known none = (
    all_whole _ (first_known args known) (left_empty _ _ none),
    names_kind _ (right_empty _ _ none),
  )
  arguments_fit Sum args known none = are_of_one_kind args known none
  arguments_fit Abs args known none = are_of_one_kind args known none
  arguments_fit Max args known none = are_of_one_kind args known none
  arguments_fit Min args known none = are_of_one_kind args known none
  arguments_fit Mod args known none = are_of_one_kind args known none
  arguments_fit Modulo args known none = are_of_one_kind args known none
  arguments_fit Sign args known none = are_of_one_kind args known none

  subscripts_fit : (which : Option Intrinsic) (array : Bool) (subs : Subscripts) → Each (in_subscripts subs) (HasKind entity) → kind_faults_of_reference entity which array subs ≡ [] → SubscriptsFit entity which array subs
  subscripts_fit (Some which) array subs known none = arguments_fit which subs known none
  subscripts_fit None true subs known none = all_whole _ (each_single (HasKind entity) subs known) none
  subscripts_fit None false subs known none = tt

  pub part_fits : (e : Expr) → InsideHasKinds e → kind_faults_of_part entity e ≡ [] → PartFits entity e
  part_fits (Numeral n suffix at) known none = not-false _ (not_placed _ _ none)
  part_fits (Boolean b at) known none = tt
  part_fits (Name x at) known none = tt
  part_fits (Reference x subs at) known none = (
    subscripts_fit (intrinsic_named x) (is_array (entity x)) subs known (left_empty _ _ none),
    all_whole _ (each_bound (HasKind entity) subs known) (right_empty _ _ none),
  )
  part_fits (Signed sign e at) known none = fits_sign sign e known none
  part_fits (Binary op a b) known none = (
    fits_operator op a known.0 (left_empty _ _ none),
    fits_operator op b known.1 (right_empty _ _ none),
  )
  part_fits (Paren e at) known none = tt

  -- ---- The kind of a part

  -- the kind of arguments of one kind is that of the first
  common_is : (e : Expr) (rest : Subscripts) → section_places rest ≡ [] → AreOfOneKind entity (e ∷ single_subscripts rest) → common_kind (kind entity e ∷ kinds_in entity rest) ≡ kind entity e
  common_is e No_more none fit = integer_is (kind entity e) fit.0.0
  common_is e (One b rest) none fit =
      ap (agreed (kind entity e)) (common_is b rest none (fit.0.1, fit.1.1) ∙ sym fit.1.0.0)
      ∙ ap (λ t. cond t (kind entity e) None) (same_itself (kind entity e) fit.0.0)
  common_is e (Section lower upper at rest) none fit = absurd (no_head at (section_places rest) none)

  common_known : (args : Subscripts) → section_places args ≡ [] → AreOfOneKind entity (single_subscripts args) → (count_of args ≡ 0 → ⊥) → is_some (common_kind (kinds_in entity args)) ≡ true
  common_known No_more none fit some = absurd (some refl)
  common_known (One e rest) none fit some = ap is_some (common_is e rest none fit) ∙ integer_known (kind entity e) fit.0.0
  common_known (Section lower upper at rest) none fit some = absurd (no_head at (section_places rest) none)

  sum_known : (args : Subscripts) → section_places args ≡ [] → AreOfOneKind entity (single_subscripts args) → (count_of args ≡ 0 → ⊥) → is_some (first_kind (kinds_in entity args)) ≡ true
  sum_known No_more none fit some = absurd (some refl)
  sum_known (One e rest) none fit some = ap is_some (integer_is (kind entity e) fit.0.0) ∙ integer_known (kind entity e) fit.0.0
  sum_known (Section lower upper at rest) none fit some = absurd (no_head at (section_places rest) none)

  int_known : (args : Subscripts) → section_places args ≡ [] → NamesKind (after_first args) → is_some (kind_of_int args) ≡ true
  int_known No_more none fit = refl
  int_known (One e No_more) none fit = refl
  int_known (One e (One b rest)) none fit = fit
  int_known (One e (Section lower upper at rest)) none fit = absurd (no_head at (section_places rest) none)
  int_known (Section lower upper at rest) none fit = absurd (no_head at (section_places rest) none)

  takes_some : (which : Intrinsic) (n : ℕ) → takes which n ≡ true → n ≡ 0 → ⊥
  takes_some Abs n h e = false≢true (subst (λ i. takes Abs i ≡ true) e h)
  takes_some Sum n h e = false≢true (subst (λ i. takes Sum i ≡ true) e h)
  takes_some Int n h e = false≢true (subst (λ i. takes Int i ≡ true) e h)
  takes_some Size n h e = false≢true (subst (λ i. takes Size i ≡ true) e h)
  takes_some Max n h e = false≢true (subst (λ i. takes Max i ≡ true) e h)
  takes_some Min n h e = false≢true (subst (λ i. takes Min i ≡ true) e h)
  takes_some Mod n h e = false≢true (subst (λ i. takes Mod i ≡ true) e h)
  takes_some Modulo n h e = false≢true (subst (λ i. takes Modulo i ≡ true) e h)
  takes_some Sign n h e = false≢true (subst (λ i. takes Sign i ≡ true) e h)

  intrinsic_known : (which : Intrinsic) (args : Subscripts) → section_places args ≡ [] → ArgumentsFit entity which args → takes which (count_of args) ≡ true
      → is_some (kind_of_intrinsic which args (kinds_in entity args)) ≡ true
  intrinsic_known Int args none fit counted = int_known args none fit.1
  intrinsic_known Size args none fit counted = refl
  intrinsic_known Sum args none fit counted = sum_known args none fit (takes_some Sum _ counted)
  intrinsic_known Abs args none fit counted = common_known args none fit (takes_some Abs _ counted)
  intrinsic_known Max args none fit counted = common_known args none fit (takes_some Max _ counted)
  intrinsic_known Min args none fit counted = common_known args none fit (takes_some Min _ counted)
  intrinsic_known Mod args none fit counted = common_known args none fit (takes_some Mod _ counted)
  intrinsic_known Modulo args none fit counted = common_known args none fit (takes_some Modulo _ counted)
  intrinsic_known Sign args none fit counted = common_known args none fit (takes_some Sign _ counted)

  reference_known : (which : Option Intrinsic) (array : Bool) (named : Option Kind) (subs : Subscripts)
      → (which ≡ None → is_some named ≡ true) → cond (is_none which && array) [] (section_places subs) ≡ [] → SubscriptsFit entity which array subs → intrinsic_takes which (count_of subs) ≡ true
      → is_some (kind_of_reference which named subs (kinds_in entity subs)) ≡ true
  reference_known None array named subs h ranges fit counted = h refl
  reference_known (Some which) array named subs h ranges fit counted = intrinsic_known which subs ranges fit counted

  sign_known : (sign : Unary) (e : Expr) → FitsSign entity sign e → is_some (kind_of_sign sign (kind entity e)) ≡ true
  sign_known Plus e fit = ap is_some (integer_is (kind entity e) fit) ∙ integer_known (kind entity e) fit
  sign_known Minus e fit = ap is_some (integer_is (kind entity e) fit) ∙ integer_known (kind entity e) fit
  sign_known Not e fit = refl

  operation_known : (arithmetic relation : Bool) (a b : Option Kind) → (arithmetic || relation ≡ true → is_integer a ≡ true) → (arithmetic || relation ≡ true → is_integer b ≡ true)
      → is_some (cond arithmetic (greater_of (integer a) (integer b)) (Some Logical)) ≡ true
  operation_known true relation a b h k = greater_known a b (h refl) (k refl)
  operation_known false relation a b h k = refl

  -- a name is of something that has a kind, unless it is that of an intrinsic before its arguments
  abbrev pub NamedHasKind : Expr → Type 0
  NamedHasKind (Name x at) = is_some (kind_of_entity (entity x)) ≡ true
  NamedHasKind (Reference x subs at) = intrinsic_named x ≡ None → is_some (kind_of_entity (entity x)) ≡ true
  NamedHasKind other = ⊤

  -- what the faults leave of a part
  pub record IsFaultless (e : Expr) : Type 0 where
    pub named : NamedHasKind e
    pub kinds : kind_faults_of_part entity e ≡ []
    pub ranges : range_as_argument entity e ≡ []
    pub counts : Each (reference e) (λ (s : Site). not (intrinsic_takes (intrinsic_named s.name.name) (count_of s.args)) ≡ false)

  pub part_known : (e : Expr) → InsideHasKinds e → IsFaultless e → HasKind entity e
  part_known (Numeral n suffix at) known none = refl
  part_known (Boolean b at) known none = refl
  part_known (Name x at) known none = none.named
  part_known (Reference x subs at) known none =
      reference_known (intrinsic_named x) (is_array (entity x)) (kind_of_entity (entity x)) subs none.named none.ranges
      (part_fits (Reference x subs at) known none.kinds).0 (not-false _ none.counts.0)
  part_known (Signed sign e at) known none = sign_known sign e (part_fits (Signed sign e at) known none.kinds)
  part_known (Binary op a b) known none =
      let fit = part_fits (Binary op a b) known none.kinds in operation_known (is_arithmetic op) (is_relation op) (kind entity a) (kind entity b) fit.0.0 fit.1.0
  part_known (Paren e at) known none = known
