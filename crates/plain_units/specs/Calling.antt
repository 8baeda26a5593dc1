-- What statements call: the names in their CALLs, and those that they refer to with parentheses, but for the intrinsic
-- functions.
use Rattle.std.specs.Prelude.{◌≡◌, Option, Some, None, Bool, false, ◌||◌, ⊤}
use Rattle.fort_tree.specs.Intrinsic.{intrinsic_named}
use Rattle.claw_meaning.specs.Syntax.{Text, Expr, Numeral, Boolean, Name, Reference, Signed, Binary, Paren, Subscripts, No_more, At, Section, Between, Limit, Unbounded, Bounded, Head, Stmt, Assign, Call, If, Select, Do, Block, Piece, Exit, Cycle, Return, Stmts, Done, Then, Arms, No_arm, Arm, Cases, No_case, Case, Otherwise, Nothing_else, Else, Unit, Program}
use Rattle.claw_meaning.specs.Scope.{Entity, Procedure, visible, unit_named}
use Rattle.claw_meaning.specs.Dependence.{called_in, is_column_called}

-- each name that is referred to with parentheses is so
module _ (IsSo : Text → Type 0) where
  abbrev mutual
    pub Refers : Expr → Type 0
    Refers (Numeral n suffix) = ⊤
    Refers (Boolean b) = ⊤
    Refers (Name x) = ⊤
    Refers (Reference x subs) = (intrinsic_named x ≡ None → IsSo x) × AllRefer subs
    Refers (Signed sign e) = Refers e
    Refers (Binary op a b) = Refers a × Refers b
    Refers (Paren e) = Refers e

    pub AllRefer : Subscripts → Type 0
    AllRefer No_more = ⊤
    AllRefer (At e rest) = Refers e × AllRefer rest
    AllRefer (Section lower upper rest) = LimitRefers lower × LimitRefers upper × AllRefer rest
    AllRefer (Between m n rest) = AllRefer rest

    pub LimitRefers : Limit → Type 0
    LimitRefers Unbounded = ⊤
    LimitRefers (Bounded e) = Refers e

  abbrev pub OptionRefers : Option Expr → Type 0
  OptionRefers None = ⊤
  OptionRefers (Some e) = Refers e

  abbrev pub HeadRefers : Head → Type 0
  HeadRefers h = Refers h.from × Refers h.to × OptionRefers h.step

-- each name in a CALL is so, and each that is referred to is so
module _ (IsCalled IsReferred : Text → Type 0) where
  abbrev mutual
    pub Calls : Stmt → Type 0
    Calls (Assign left right) = Refers IsReferred left × Refers IsReferred right
    Calls (Call x args forward) = IsCalled x × AllRefer IsReferred args
    Calls (If arms other) = ArmsCall arms × OtherwiseCalls other
    Calls (Select e cases other) = Refers IsReferred e × CasesCall cases × OtherwiseCalls other
    Calls (Do h body mark) = HeadRefers IsReferred h × AllCall body
    Calls (Block d body) = AllCall body
    Calls (Piece body) = AllCall body
    Calls Exit = ⊤
    Calls Cycle = ⊤
    Calls Return = ⊤

    pub AllCall : Stmts → Type 0
    AllCall Done = ⊤
    AllCall (Then s rest) = Calls s × AllCall rest

    pub ArmsCall : Arms → Type 0
    ArmsCall No_arm = ⊤
    ArmsCall (Arm test body rest) = Refers IsReferred test × AllCall body × ArmsCall rest

    pub CasesCall : Cases → Type 0
    CasesCall No_case = ⊤
    CasesCall (Case ranges body rest) = AllCall body × CasesCall rest

    pub OtherwiseCalls : Otherwise → Type 0
    OtherwiseCalls Nothing_else = ⊤
    OtherwiseCalls (Else body) = AllCall body

-- A run finds a unit by the name of the unit that is visible.
abbrev pub unit_run : Program → Entity → Option Unit
unit_run p (Procedure v) = unit_named p v.name
unit_run p other = None

-- the unit that is visible under the name is a column unit, or the one that a run finds
abbrev pub runs_column : Program → Unit → Text → Bool
runs_column p u x = is_column_called (called_in p u x) || is_column_called (unit_run p (visible p u x))

-- the unit calls no column unit
abbrev pub CallsPlain : Program → Unit → Type 0
CallsPlain p u = AllCall (λ x. runs_column p u x ≡ false) (λ x. runs_column p u x ≡ false) u.body
