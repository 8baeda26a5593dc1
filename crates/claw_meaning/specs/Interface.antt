-- How a unit of the written program is declared: its dummies, declarations, guard, and its references to wide variables.
use Rattle.std.specs.Prelude.{◌≡◌, ◌↔◌, ℕ, zero, suc, List, [], ◌∷◌, ◌++◌, map, length, codes, Option, Some, None, Bool, true, false, ◌&&◌, ◌||◌, not, if◌then◌else◌, is_some, is_none, nat_eq, slice_get, take, ⊤}
use Rattle.std.specs.List.{filter, list_any}
use Rattle.std.specs.Str.{bytes_eq}
use Rattle.fort_arith.specs.declared.kind.Kind.TheVariants.{I4}
use Rattle.fort_arith.specs.declared.op.Op.TheVariants.{Lt, Le}
use Rattle.fort_tree.specs.declared.unit.Intent.{Intent}
use Rattle.fort_tree.specs.declared.unit.Intent.TheVariants.{In}
use Rattle.fort_tree.specs.Intrinsic.{intrinsic_named}
use Rattle.claw_meaning.specs.Syntax.{Text, Expr, Numeral, Boolean, Name, Reference, Signed, Binary, Paren, Subscripts, No_more, At, Section, Between, Limit, Unbounded, Bounded, Dimension, Decl, Head, Directive, Stmt, Assign, Call, If, Select, Do, Block, Piece, Exit, Cycle, Return, Stmts, Done, Then, Arms, No_arm, Arm, Cases, No_case, Case, Otherwise, Nothing_else, Else, Range, Single, Span, Unit, Module, Program}
use Rattle.claw_meaning.specs.Units.{is_word_define, is_word_parallelize, directive_of, is_column_unit, is_column_dummy, is_intent_in, is_array_decl, is_listed}
use Rattle.claw_meaning.specs.Columns.{place_of, added_dummy, upper_written, lower_of_define}
use Rattle.claw_meaning.specs.Dependence.{Varies, is_size, called_in, is_column_called}

-- What widening a unit means for its names

pub record Widening : Type 0 where
  pub wide : Text → Bool
  pub place : Text → ℕ  -- from 0
  pub id : Text
  pub lower : Option Expr
  pub upper : Option Expr
  pub added : Option Text

abbrev pub first_name : List Text → Text
first_name [] = []
first_name (x ∷ xs) = x

abbrev pub id_of : Option Directive → Text
id_of None = []
id_of (Some d) = first_name d.names

abbrev pub lower_in : Option Directive → Option Expr
lower_in None = None
lower_in (Some d) = d.lower

-- the widening of a column unit, by its wide variables
abbrev pub widening : Program → Unit → (Text → Bool) → Widening
widening p u wide = record {
  wide = wide;
  place = place_of u;
  id = id_of (directive_of is_word_define u.marks);
  lower = lower_in (directive_of is_word_define u.marks);
  upper = upper_written u;
  added = added_dummy p u;
}

-- a unit that is no column unit has no wide variables
abbrev pub no_widening : Widening
no_widening = record { wide = λ x. false; place = λ x. 0; id = []; lower = None; upper = None; added = None }

abbrev pub widening_of : Program → Unit → (Text → Bool) → Widening
widening_of p u wide = if is_column_unit u then widening p u wide else no_widening

-- these are the wide variables: those that depend on the column
abbrev pub AreWide : Program → Unit → (Text → Bool) → Type 0
AreWide p u wide = (x : Text) → (wide x ≡ true) ↔ Varies p u x

-- Declarations

abbrev pub inserted_at : {A : Type 0} → ℕ → A → List A → List A
inserted_at zero new xs = new ∷ xs
inserted_at (suc k) new [] = new ∷ []
inserted_at (suc k) new (x ∷ xs) = x ∷ inserted_at k new xs

-- some dimension has no upper bound
abbrev pub is_assumed : List Dimension → Bool
is_assumed shape = list_any (λ d. is_none d.upper) shape

-- the dimension of the columns, written `lower:upper`, or `lower:` beside an assumed shape
abbrev pub new_dimension : Widening → List Dimension → Dimension
new_dimension w shape = record { lower = w.lower; upper = if is_assumed shape then None else w.upper }

abbrev pub wide_decl : Widening → Decl → Decl
wide_decl w d = if w.wide d.name then record d { shape = inserted_at (w.place d.name) (new_dimension w d.shape) d.shape } else d

-- names that a compiler made
abbrev pub is_fresh : Text → Bool
is_fresh x = bytes_eq (take 5 x) (codes "claw_")

abbrev pub is_constant_decl : Decl → Bool
is_constant_decl d = is_some d.value

-- a scalar IN dummy that isn't a column dummy
abbrev pub is_shared_decl : Unit → Decl → Bool
is_shared_decl u d = is_intent_in d.intent && (not (is_array_decl d) && not (is_column_dummy u d.name))

abbrev pub is_other_decl : Unit → Decl → Bool
is_other_decl u d = not (is_constant_decl d) && not (is_shared_decl u d)

-- a scalar default INTEGER
abbrev pub integer_decl : Text → Option Intent → Decl
integer_decl x intent = record { name = x; kind = I4; intent = intent; shape = []; value = None }

abbrev pub added_decl : Option Text → List Decl
added_decl None = []
added_decl (Some x) = integer_decl x (Some In) ∷ []

abbrev pub id_decl : Unit → Widening → List Decl
id_decl u w = if is_column_unit u then integer_decl w.id None ∷ [] else []

-- three groups, each in the order of the source: PARAMETERs; shared scalar IN dummies, the added one last; all others, the
-- names that the compiler made next to last and the dimension last
abbrev pub written_decls : Unit → Widening → List Decl
written_decls u w =
    filter is_constant_decl u.decls
    ++ ((filter (is_shared_decl u) u.decls ++ added_decl w.added)
    ++ ((map (wide_decl w) (filter (λ d. is_other_decl u d && not (is_fresh d.name)) u.decls)
    ++ map (wide_decl w) (filter (λ d. is_other_decl u d && is_fresh d.name) u.decls))
    ++ id_decl u w))

abbrev pub added_name : Option Text → List Text
added_name None = []
added_name (Some x) = x ∷ []

-- The guard

abbrev pub or_number : Option Expr → Expr
or_number None = Numeral 1 None
or_number (Some e) = e

-- `if (upper < lower) return`
abbrev pub guard : Widening → Stmt
guard w = If (Arm (Binary Lt (or_number w.upper) (or_number w.lower)) (Then Return Done) No_arm) Nothing_else

abbrev pub first_statement : Stmts → Option Stmt
first_statement Done = None
first_statement (Then s rest) = Some s

-- References

-- the subscript at this place is the name of the dimension
abbrev pub HasAt : ℕ → Text → Subscripts → Type 0
HasAt zero id (At (Name x) rest) = x ≡ id
HasAt zero id other = ⊥
HasAt (suc k) id (At e rest) = HasAt k id rest
HasAt (suc k) id (Section lower upper rest) = HasAt k id rest
HasAt (suc k) id other = ⊥

-- SIZE of a wide variable asks by number for another dimension than the columns'
abbrev pub AsksOther : Widening → Subscripts → Type 0
AsksOther w (At (Name x) No_more) = w.wide x ≡ false
AsksOther w (At (Name x) (At (Numeral n suffix) No_more)) = (w.wide x && nat_eq n (suc (w.place x))) ≡ false
AsksOther w other = ⊤

abbrev pub RefersWide : Widening → Bool → Text → Subscripts → Type 0 → Type 0
RefersWide w true x subs Inside = AsksOther w subs
RefersWide w false x subs Inside = (w.wide x ≡ true → HasAt (w.place x) w.id subs) × Inside

-- each reference to a wide variable has the dimension at its place
module _ (w : Widening) where
  abbrev mutual
    pub HasDimension : Expr → Type 0
    HasDimension (Numeral n suffix) = ⊤
    HasDimension (Boolean b) = ⊤
    HasDimension (Name x) = w.wide x ≡ false
    HasDimension (Reference x subs) = RefersWide w (is_size (intrinsic_named x)) x subs (AllHaveDimension subs)
    HasDimension (Signed sign e) = HasDimension e
    HasDimension (Binary op a b) = HasDimension a × HasDimension b
    HasDimension (Paren e) = HasDimension e

    pub AllHaveDimension : Subscripts → Type 0
    AllHaveDimension No_more = ⊤
    AllHaveDimension (At e rest) = HasDimension e × AllHaveDimension rest
    AllHaveDimension (Section lower upper rest) = LimitHasDimension lower × LimitHasDimension upper × AllHaveDimension rest
    AllHaveDimension (Between m n rest) = AllHaveDimension rest

    pub LimitHasDimension : Limit → Type 0
    LimitHasDimension Unbounded = ⊤
    LimitHasDimension (Bounded e) = HasDimension e

  -- an actual of a call of a column unit may be the bare name of a wide variable
  abbrev pub ActualHasDimension : Expr → Type 0
  ActualHasDimension (Name x) = ⊤
  ActualHasDimension other = HasDimension other

  abbrev pub ActualsHaveDimension : Subscripts → Type 0
  ActualsHaveDimension No_more = ⊤
  ActualsHaveDimension (At e rest) = ActualHasDimension e × ActualsHaveDimension rest
  ActualsHaveDimension (Section lower upper rest) = ActualsHaveDimension rest
  ActualsHaveDimension (Between m n rest) = ActualsHaveDimension rest

  abbrev pub OptionHasDimension : Option Expr → Type 0
  OptionHasDimension None = ⊤
  OptionHasDimension (Some e) = HasDimension e

  abbrev pub HeadHasDimension : Head → Type 0
  HeadHasDimension h = HasDimension h.from × HasDimension h.to × OptionHasDimension h.step

  abbrev pub CallHasDimension : Bool → Subscripts → Type 0
  CallHasDimension true args = ActualsHaveDimension args
  CallHasDimension false args = AllHaveDimension args

  module _ (is_column : Text → Bool) where
    abbrev mutual
      pub StmtHasDimension : Stmt → Type 0
      StmtHasDimension (Assign left right) = HasDimension left × HasDimension right
      StmtHasDimension (Call x args forward) = CallHasDimension (is_column x) args
      StmtHasDimension (If arms other) = ArmsHaveDimension arms × OtherwiseHasDimension other
      StmtHasDimension (Select e cases other) = HasDimension e × CasesHaveDimension cases × OtherwiseHasDimension other
      StmtHasDimension (Do h body mark) = HeadHasDimension h × StmtsHaveDimension body
      StmtHasDimension (Block d body) = StmtsHaveDimension body
      StmtHasDimension (Piece body) = StmtsHaveDimension body
      StmtHasDimension Exit = ⊤
      StmtHasDimension Cycle = ⊤
      StmtHasDimension Return = ⊤

      pub StmtsHaveDimension : Stmts → Type 0
      StmtsHaveDimension Done = ⊤
      StmtsHaveDimension (Then s rest) = StmtHasDimension s × StmtsHaveDimension rest

      pub ArmsHaveDimension : Arms → Type 0
      ArmsHaveDimension No_arm = ⊤
      ArmsHaveDimension (Arm test body rest) = HasDimension test × StmtsHaveDimension body × ArmsHaveDimension rest

      pub CasesHaveDimension : Cases → Type 0
      CasesHaveDimension No_case = ⊤
      CasesHaveDimension (Case ranges body rest) = StmtsHaveDimension body × CasesHaveDimension rest

      pub OtherwiseHasDimension : Otherwise → Type 0
      OtherwiseHasDimension Nothing_else = ⊤
      OtherwiseHasDimension (Else body) = StmtsHaveDimension body

-- Units

abbrev pub column_called : Program → Unit → Text → Bool
column_called p u x = is_column_called (called_in p u x)

abbrev pub HasGuard : Bool → Widening → Unit → Type 0
HasGuard true w t = first_statement t.body ≡ Some (guard w)
HasGuard false w t = ⊤

-- how unit t of the target is declared and refers, where unit u of the directed source is widened so
pub record UnitInterface (p : Program) (u t : Unit) (w : Widening) : Type 0 where
  pub name : t.name ≡ u.name
  pub host : t.host ≡ u.host
  pub result : t.result ≡ u.result
  pub uses : t.uses ≡ u.uses
  pub dummies : t.dummies ≡ u.dummies ++ added_name w.added
  pub decls : t.decls ≡ written_decls u w
  pub guard : HasGuard (is_column_unit u) w t
  pub references : StmtsHaveDimension w (column_called p u) t.body

-- The target has the directed source's modules and units, in its order, and each unit's interface. `wide` are the wide
-- variables of each unit, by its number.
pub record Interface (source target : Program) (wide : ℕ → Text → Bool) : Type 0 where
  pub modules : target.modules ≡ source.modules
  pub order : target.order ≡ source.order
  pub count : length target.units ≡ length source.units
  pub varying : (i : ℕ) (u : Unit) → slice_get source.units i ≡ Some u → is_column_unit u ≡ true → AreWide source u (wide i)
  pub units : (i : ℕ) (u t : Unit) → slice_get source.units i ≡ Some u → slice_get target.units i ≡ Some t → UnitInterface source u t (widening_of source u (wide i))
