-- The kinds and ranks of a sound program: each expression has a kind, and what stands in each of its steps fits where it
-- stands.
use Rattle.std.specs.Prelude.{◌≡◌, ℤ, pos, IsTrue, true, false, List, [], ◌∷◌, ◌++◌, length, flat_map, Option, Some, None, ◌||◌, Bool, is_some, nat_lt, ⊤}
use Rattle.std.specs.Option.{option_to_list}
use Rattle.fort_arith.specs.declared.kind.Kind.{Kind}
use Rattle.fort_arith.specs.declared.kind.Kind.TheVariants.{Logical}
use Rattle.fort_arith.specs.declared.op.Op.{Op}
use Rattle.fort_arith.specs.declared.op.Intrinsic.{Intrinsic}
use Rattle.fort_arith.specs.declared.op.Intrinsic.TheVariants.{Abs, Int, Max, Min, Mod, Modulo, Sign, Size, Sum}
use Rattle.fort_arith.specs.Operators.{is_arithmetic, is_relation}
use Rattle.fort_arith.specs.Range.{is_whole, in_kind}
use Rattle.fort_tree.specs.Intrinsic.{intrinsic_named}
use Rattle.fort_tree.specs.declared.expr.Unary.{Unary}
use Rattle.fort_tree.specs.declared.expr.Unary.TheVariants.{Plus, Minus, Not}
use Rattle.fort_tree.specs.declared.unit.File.{File}
use Rattle.claw_meaning.specs.Syntax as plain
use Rattle.claw_meaning.specs.Syntax.{Text}
use Rattle.claw_meaning.specs.Scope.{Entity}
use Rattle.claw_meaning.specs.Kinds.{or_default}
use Rattle.sound_programs.specs.KindFaults.{first_argument, case_value, values_of, numbers_in, overlap}
use Rattle.sound_programs.specs.Kinding.{kind, is_integer, kind_named_by}
use Rattle.sound_programs.specs.Laws.{Each, entity_of}
use Rattle.sound_programs.specs.Placed.{Expr, Numeral, Boolean, Name, Reference, Signed, Binary, Paren, Subscripts, No_more, One, Section, Decl, Range, Single, Span, Unit, after_first, bare_program}
use Rattle.sound_programs.specs.Placing.{placed}
use Rattle.sound_programs.specs.RankFaults.{takes_sections, is_used_well, own_lists, is_array_reference}
use Rattle.sound_programs.specs.Ranking.{Operand, operands, rank, rank_of_first, rank_of_entity}
use Rattle.sound_programs.specs.Scopes.{scopes, decls_of, entity_in, is_array}
use Rattle.sound_programs.specs.Walks.{Stands, Step, Assigns, Calls, Tests, Chooses, Repeats, Actual, actuals, sites, steps_of, left_of, read_by, parts, parts_of, bounds_in, single_subscripts, section_bounds, section_places, count_of, in_head}

-- of each two of a list
abbrev pub EachTwo : {A : Type 0} → (A → A → Type 0) → List A → Type 0
EachTwo R [] = ⊤
EachTwo R (x ∷ rest) = Each rest (R x) × EachTwo R rest

-- in each step of each unit of a file, under what names are in the unit
abbrev pub EachStep : File → ((Text → Entity) → Unit → Stands → Type 0) → Type 0
EachStep file P = Each (placed file).units (λ u. Each (steps_of u) (λ s. P (entity_of file u) u s))

-- Kinds

-- both INTEGER or both LOGICAL
abbrev pub AreOfOneSort : Option Kind → Option Kind → Type 0
AreOfOneSort a b = (j : Kind) × (k : Kind) × (a ≡ Some j) × (b ≡ Some k) × (is_whole j ≡ is_whole k)

-- the value of a case is a number, and lies in the kind of the SELECT's expression
abbrev pub CaseFits : Option Kind → Option ℤ → Type 0
CaseFits o value = (k : Kind) × (n : ℤ) × (o ≡ Some k) × (value ≡ Some n) × IsTrue (in_kind k n)

-- a range of a case in which some value is written
abbrev pub HasValue : Range → Type 0
HasValue (Single e) = ⊤
HasValue (Span (Some lower) upper) = ⊤
HasValue (Span None (Some upper)) = ⊤
HasValue (Span None None) = ⊥

-- the second argument of INT is a literal that names a kind
abbrev pub NamesKind : Subscripts → Type 0
NamesKind No_more = ⊤
NamesKind (One e rest) = IsTrue (is_some (kind_named_by e))
NamesKind (Section lower upper at rest) = ⊤

module _ (entity : Text → Entity) where
  -- no fault leaves its kind open
  abbrev pub HasKind : Expr → Type 0
  HasKind e = IsTrue (is_some (kind entity e))

  abbrev pub IsInteger : Expr → Type 0
  IsInteger e = IsTrue (is_integer (kind entity e))

  abbrev pub IsLogical : Expr → Type 0
  IsLogical e = kind entity e ≡ Some Logical

  -- an operand of arithmetic or of a relation is INTEGER, one of a logical operation LOGICAL
  abbrev pub FitsOperator : Op → Expr → Type 0
  FitsOperator op e =
      ((is_arithmetic op || is_relation op) ≡ true → IsInteger e) × ((is_arithmetic op || is_relation op) ≡ false → IsLogical e)

  abbrev pub FitsSign : Unary → Expr → Type 0
  FitsSign Plus e = IsInteger e
  FitsSign Minus e = IsInteger e
  FitsSign Not e = IsLogical e

  -- INTEGER, and of one kind
  abbrev pub AreOfOneKind : List Expr → Type 0
  AreOfOneKind args = Each args IsInteger × EachTwo (λ a b. kind entity a ≡ kind entity b) args

  abbrev pub ArgumentsFit : Intrinsic → Subscripts → Type 0
  ArgumentsFit Size args = ⊤
  ArgumentsFit Int args = Each (first_argument entity args) IsInteger × NamesKind (after_first args)
  ArgumentsFit Sum args = AreOfOneKind (single_subscripts args)
  ArgumentsFit Abs args = AreOfOneKind (single_subscripts args)
  ArgumentsFit Max args = AreOfOneKind (single_subscripts args)
  ArgumentsFit Min args = AreOfOneKind (single_subscripts args)
  ArgumentsFit Mod args = AreOfOneKind (single_subscripts args)
  ArgumentsFit Modulo args = AreOfOneKind (single_subscripts args)
  ArgumentsFit Sign args = AreOfOneKind (single_subscripts args)

  -- the arguments of an intrinsic, and the subscripts of an array
  abbrev pub SubscriptsFit : Option Intrinsic → Bool → Subscripts → Type 0
  SubscriptsFit (Some which) array args = ArgumentsFit which args
  SubscriptsFit None true subs = Each (single_subscripts subs) IsInteger
  SubscriptsFit None false subs = ⊤

  -- what a part of an expression takes
  abbrev pub PartFits : Expr → Type 0
  PartFits (Numeral n suffix at) = IsTrue (in_kind (or_default suffix) (pos n))
  PartFits (Boolean b at) = ⊤
  PartFits (Name x at) = ⊤
  PartFits (Reference x subs at) = SubscriptsFit (intrinsic_named x) (is_array (entity x)) subs × Each (section_bounds subs) IsInteger
  PartFits (Signed sign e at) = FitsSign sign e
  PartFits (Binary op a b) = FitsOperator op a × FitsOperator op b
  PartFits (Paren e at) = ⊤

  -- two ranges of one SELECT have no number in common
  abbrev pub ShareNoNumber : Range → Range → Type 0
  ShareNoNumber a b = HasValue b → Each (numbers_in entity a) (λ x. Each (numbers_in entity b) (λ y. overlap entity x y ≡ false))

  -- What a step takes: a test is LOGICAL, the expression of a SELECT, the three of a DO and the bounds of sections INTEGER, and a
  -- value is assigned to a variable of its own sort.
  abbrev pub WholesFit : Step → Type 0
  WholesFit (Assigns left right) = AreOfOneSort (kind entity left) (kind entity right)
  WholesFit (Calls name args) = Each (section_bounds args) IsInteger
  WholesFit (Tests e) = IsLogical e
  WholesFit (Chooses e ranges) =
      IsInteger e × Each (flat_map (values_of entity) ranges) (λ v. CaseFits (kind entity e) (case_value entity v)) × EachTwo ShareNoNumber ranges
  WholesFit (Repeats head mark) = Each (in_head head) IsInteger

  -- an actual is of its dummy's kind
  abbrev pub ActualFits : Actual → Type 0
  ActualFits a = (e : Expr) (d : plain.Decl) → a.expr ≡ Some e → a.dummy ≡ Some d → kind entity e ≡ Some d.kind

  pub record HasFittingKinds (step : Step) : Type 0 where
    pub wholes : WholesFit step
    pub parts : Each (parts_of step) PartFits
    pub actuals : Each (flat_map (actuals entity) (sites entity step)) ActualFits

-- the kinds in all steps of a program
abbrev pub KindsFit : File → Type 0
KindsFit file = EachStep file (λ entity u s. HasFittingKinds entity s.step)

-- the bounds of declarations, and the values of PARAMETERs
abbrev pub in_decls : List Decl → List Expr
in_decls decls = bounds_in decls ++ flat_map (λ d. option_to_list d.value) decls

-- Each expression in a step has a kind: the left side of an assignment, whatever is read, and each part of it. So have the
-- bounds and values of the declarations of each unit and module, and each part of them.
pub record KindsAreKnown (file : File) : Type 0 where
  pub expressions : EachStep file (λ entity u s. Each (left_of s.step ++ read_by s.step) (HasKind entity))
  pub inside : EachStep file (λ entity u s. Each (parts_of s.step) (HasKind entity))
  pub declarations : Each (scopes (placed file)) (λ s. Each (flat_map parts (in_decls (decls_of s))) (HasKind (entity_in (bare_program (placed file)) s)))

-- Ranks

module _ (entity : Text → Entity) where
  -- array operands of one list have one rank
  abbrev pub AreOfOneRank : List Operand → Type 0
  AreOfOneRank os = Each os (λ o. o.rank ≡ rank_of_first entity os)

  abbrev pub IsScalar : Expr → Type 0
  IsScalar e = rank entity e ≡ 0

  -- each array operand of the expression has its rank
  abbrev pub IsOfOneRank : Expr → Type 0
  IsOfOneRank e = AreOfOneRank (operands entity e)

  -- Subscripts and arguments. An array has as many subscripts as dimensions, which are scalar. A section stands behind the
  -- name of an array alone, its bounds are scalar. SUM and SIZE are of arrays. Each subscript, bound, argument of SUM and actual
  -- of a function has operands of one rank.
  pub record SubscriptsAreRanked (x : Text) (subs : Subscripts) : Type 0 where
    pub counted : takes_sections entity x ≡ true → count_of subs ≡ rank_of_entity (entity x)
    pub intrinsic : IsTrue (is_used_well entity (intrinsic_named x) subs)
    pub sections : takes_sections entity x ≡ false → section_places subs ≡ []
    pub subscripts : takes_sections entity x ≡ true → Each (single_subscripts subs) IsScalar
    pub bounds : Each (section_bounds subs) IsScalar
    pub operands : Each (own_lists entity (intrinsic_named x) (single_subscripts subs) ++ section_bounds subs) IsOfOneRank

  abbrev pub PartIsRanked : Expr → Type 0
  PartIsRanked (Numeral n suffix at) = ⊤
  PartIsRanked (Boolean b at) = ⊤
  PartIsRanked (Name x at) = ⊤
  PartIsRanked (Reference x subs at) = SubscriptsAreRanked x subs
  PartIsRanked (Signed sign e at) = ⊤
  PartIsRanked (Binary op a b) = ⊤
  PartIsRanked (Paren e at) = ⊤

  -- The two sides of an assignment are one list of operands, and a scalar takes a scalar. Tests, the expression of a SELECT and
  -- the three of a DO are scalar. No argument of a CALL is a range.
  abbrev pub WholesAreRanked : Step → Type 0
  WholesAreRanked (Assigns left right) = AreOfOneRank (operands entity left ++ operands entity right) × (IsScalar left → IsScalar right)
  WholesAreRanked (Calls name args) =
      Each (single_subscripts args ++ section_bounds args) IsOfOneRank × (section_places args ≡ []) × Each (section_bounds args) IsScalar
  WholesAreRanked (Tests e) = IsScalar e
  WholesAreRanked (Chooses e ranges) = IsScalar e
  WholesAreRanked (Repeats head mark) = Each (in_head head) IsScalar

  -- an actual has its dummy's rank, and an array that is passed is the name of one or a section
  abbrev pub ActualIsRanked : Actual → Type 0
  ActualIsRanked a =
      (e : Expr) (d : plain.Decl) → a.expr ≡ Some e → a.dummy ≡ Some d
      → (rank entity e ≡ length d.shape) × (IsTrue (nat_lt 0 (rank entity e)) → IsTrue (is_array_reference entity e))

  pub record HasFittingRanks (step : Step) : Type 0 where
    pub wholes : WholesAreRanked step
    pub parts : Each (parts_of step) PartIsRanked
    pub actuals : Each (flat_map (actuals entity) (sites entity step)) ActualIsRanked

-- the ranks in all steps of a program
abbrev pub RanksFit : File → Type 0
RanksFit file = EachStep file (λ entity u s. HasFittingRanks entity s.step)
