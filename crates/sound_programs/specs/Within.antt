-- That all places in a placed tree have a property: those of its expressions, names, statements, directives, declarations, USE
-- lines with the names behind ONLY, dummies, results and headers.
use Rattle.std.specs.Prelude.{⊤, List, Option, Some, None, Bool, IsTrue}
use Rattle.std.specs.List.{AllByRecursion}
use Rattle.fort_tree.specs.declared.place.Place.{Place}
use Rattle.fort_tree.specs.declared.stmt.Named.{Named}
use Rattle.fort_tree.specs.declared.unit.Use.{Use}
use Rattle.sound_programs.specs.Placed.{Expr, Numeral, Boolean, Name, Reference, Signed, Binary, Paren, Subscripts, No_more, One, Section, Limit, Unbounded, Bounded, Dimension, Decl, Directive, Head, Range, Single, Span, Stmt, Assign, Call, If, Select, Do, Block, Piece, Exit, Cycle, Return, Stmts, Done, Then, Arms, No_arm, Arm, Cases, No_case, Case, Otherwise, Nothing_else, Else, Unit, Module, Program}
use Rattle.sound_programs.specs.Faults.{Found}

-- where there is one, it has the property
abbrev pub InOption : {A : Type 0} → (A → Type 0) → Option A → Type 0
InOption P None = ⊤
InOption P (Some a) = P a

module _ (P : Place → Type 0) where
  abbrev mutual
    pub AllInExpr : Expr → Type 0
    AllInExpr (Numeral n kind at) = P at
    AllInExpr (Boolean b at) = P at
    AllInExpr (Name x at) = P at
    AllInExpr (Reference x subs at) = P at × AllInSubscripts subs
    AllInExpr (Signed sign e at) = P at × AllInExpr e
    AllInExpr (Binary op a b) = AllInExpr a × AllInExpr b
    AllInExpr (Paren e at) = P at × AllInExpr e

    pub AllInSubscripts : Subscripts → Type 0
    AllInSubscripts No_more = ⊤
    AllInSubscripts (One e rest) = AllInExpr e × AllInSubscripts rest
    AllInSubscripts (Section lower upper at rest) = P at × (AllInLimit lower × (AllInLimit upper × AllInSubscripts rest))

    pub AllInLimit : Limit → Type 0
    AllInLimit Unbounded = ⊤
    AllInLimit (Bounded e) = AllInExpr e

  abbrev pub AllInOption : Option Expr → Type 0
  AllInOption e = InOption AllInExpr e

  abbrev pub AllInDimension : Dimension → Type 0
  AllInDimension d = AllInOption d.lower × AllInOption d.upper

  abbrev pub AllInDecl : Decl → Type 0
  AllInDecl d = P d.at × (AllByRecursion AllInDimension d.shape × AllInOption d.value)

  abbrev pub AllInDirective : Directive → Type 0
  AllInDirective d = P d.at × (AllInOption d.lower × AllInOption d.upper)

  abbrev pub AllInHead : Head → Type 0
  AllInHead h = P h.at × (AllInExpr h.from × (AllInExpr h.to × AllInOption h.step))

  abbrev pub AllInRange : Range → Type 0
  AllInRange (Single e) = AllInExpr e
  AllInRange (Span lower upper) = AllInOption lower × AllInOption upper

  abbrev pub AtNamed : Named → Type 0
  AtNamed n = P n.at

  abbrev mutual
    pub AllInStmt : Stmt → Type 0
    AllInStmt (Assign at left right) = P at × (AllInExpr left × AllInExpr right)
    AllInStmt (Call at name args forward) = P at × (AtNamed name × AllInSubscripts args)
    AllInStmt (If at arms other) = P at × (AllInArms arms × AllInOtherwise other)
    AllInStmt (Select at on cases other) = P at × (AllInExpr on × (AllInCases cases × AllInOtherwise other))
    AllInStmt (Do at head body mark) = P at × (AllInHead head × (AllInStmts body × InOption AllInDirective mark))
    AllInStmt (Block at mark body) = P at × (AllInDirective mark × AllInStmts body)
    AllInStmt (Piece body) = AllInStmts body
    AllInStmt (Exit at) = P at
    AllInStmt (Cycle at) = P at
    AllInStmt (Return at) = P at

    pub AllInStmts : Stmts → Type 0
    AllInStmts Done = ⊤
    AllInStmts (Then s rest) = AllInStmt s × AllInStmts rest

    pub AllInArms : Arms → Type 0
    AllInArms No_arm = ⊤
    AllInArms (Arm test body rest) = AllInExpr test × (AllInStmts body × AllInArms rest)

    pub AllInCases : Cases → Type 0
    AllInCases No_case = ⊤
    AllInCases (Case ranges body rest) = AllByRecursion AllInRange ranges × (AllInStmts body × AllInCases rest)

    pub AllInOtherwise : Otherwise → Type 0
    AllInOtherwise Nothing_else = ⊤
    AllInOtherwise (Else body) = AllInStmts body

  -- of the module that it names, and of each name behind ONLY
  abbrev pub AllInUse : Use → Type 0
  AllInUse u = P u.at × InOption (AllByRecursion AtNamed) u.only

  pub record AllInUnit (u : Unit) : Type 0 where
    pub at : P u.at
    pub dummies : AllByRecursion AtNamed u.dummies
    pub result : InOption AtNamed u.result
    pub uses : AllByRecursion AllInUse u.uses
    pub decls : AllByRecursion AllInDecl u.decls
    pub marks : AllByRecursion AllInDirective u.marks
    pub body : AllInStmts u.body

  pub record AllInModule (m : Module) : Type 0 where
    pub at : P m.at
    pub uses : AllByRecursion AllInUse m.uses
    pub decls : AllByRecursion AllInDecl m.decls

  -- all places of a program have the property
  abbrev pub AllPlaces : Program → Type 0
  AllPlaces p = AllByRecursion AllInModule p.modules × AllByRecursion AllInUnit p.units

-- Of a property that a test decides

-- all places of a program pass
abbrev pub AllPass : (Place → Bool) → Program → Type 0
AllPass test = AllPlaces (λ at. IsTrue (test at))

-- the places of these faults pass
abbrev pub FaultsPass : (Place → Bool) → List Found → Type 0
FaultsPass test faults = AllByRecursion (λ fault. IsTrue (test fault.at)) faults
