-- What it is to have no directives, part by part.
use Rattle.std.proofs.Common.{◌≡◌, Option, None, Some, Bool, true, false, refl}
use Rattle.std.specs.Prelude.{⊤, is_none, not}
use Rattle.std.proofs.lemmas.Bool.{and_parts, false≢true}
use Rattle.claw_meaning.specs.Syntax.{Directive, Stmt, Assign, Call, If, Select, Do, Block, Piece, Exit, Cycle, Return, Stmts, Done, Then, Arms, No_arm, Arm, Cases, No_case, Case, Otherwise, Nothing_else, Else}
use Rattle.plain_units.specs.Undirected.{is_undirected, are_undirected, arms_undirected, cases_undirected, otherwise_undirected}

abbrev mutual
  pub Undirected : Stmt → Type 0
  Undirected (Assign left right) = ⊤
  Undirected (Call x args forward) = forward ≡ false
  Undirected (If arms other) = ArmsAreUndirected arms × OtherwiseIsUndirected other
  Undirected (Select e cases other) = CasesAreUndirected cases × OtherwiseIsUndirected other
  Undirected (Do h body mark) = StmtsAreUndirected body × (mark ≡ None)
  Undirected (Block d body) = ⊥
  Undirected (Piece body) = ⊥
  Undirected Exit = ⊤
  Undirected Cycle = ⊤
  Undirected Return = ⊤

  pub StmtsAreUndirected : Stmts → Type 0
  StmtsAreUndirected Done = ⊤
  StmtsAreUndirected (Then s rest) = Undirected s × StmtsAreUndirected rest

  pub ArmsAreUndirected : Arms → Type 0
  ArmsAreUndirected No_arm = ⊤
  ArmsAreUndirected (Arm test body rest) = StmtsAreUndirected body × ArmsAreUndirected rest

  pub CasesAreUndirected : Cases → Type 0
  CasesAreUndirected No_case = ⊤
  CasesAreUndirected (Case ranges body rest) = StmtsAreUndirected body × CasesAreUndirected rest

  pub OtherwiseIsUndirected : Otherwise → Type 0
  OtherwiseIsUndirected Nothing_else = ⊤
  OtherwiseIsUndirected (Else body) = StmtsAreUndirected body

not_true : (b : Bool) → not b ≡ true → b ≡ false
not_true true h = absurd (false≢true h)
not_true false h = refl

no_mark : (mark : Option Directive) → is_none mark ≡ true → mark ≡ None
no_mark None h = refl
no_mark (Some d) h = absurd (false≢true h)

mutual
  one_undirected : (s : Stmt) → is_undirected s ≡ true → Undirected s
  one_undirected (Assign left right) h = tt
  one_undirected (Call x args forward) h = not_true forward h
  one_undirected (If arms other) h = let p = and_parts (arms_undirected arms) (otherwise_undirected other) h in (arms_are arms p.0, otherwise_is other p.1)
  one_undirected (Select e cases other) h = let p = and_parts (cases_undirected cases) (otherwise_undirected other) h in (cases_are cases p.0, otherwise_is other p.1)
  one_undirected (Do head body mark) h = let p = and_parts (is_none mark) (are_undirected body) h in (all_undirected body p.1, no_mark mark p.0)
  one_undirected (Block d body) h = absurd (false≢true h)
  one_undirected (Piece body) h = absurd (false≢true h)
  one_undirected Exit h = tt
  one_undirected Cycle h = tt
  one_undirected Return h = tt

  pub all_undirected : (s : Stmts) → are_undirected s ≡ true → StmtsAreUndirected s
  all_undirected Done h = tt
  all_undirected (Then s rest) h = let p = and_parts (is_undirected s) (are_undirected rest) h in (one_undirected s p.0, all_undirected rest p.1)

  arms_are : (a : Arms) → arms_undirected a ≡ true → ArmsAreUndirected a
  arms_are No_arm h = tt
  arms_are (Arm test body rest) h = let p = and_parts (are_undirected body) (arms_undirected rest) h in (all_undirected body p.0, arms_are rest p.1)

  cases_are : (c : Cases) → cases_undirected c ≡ true → CasesAreUndirected c
  cases_are No_case h = tt
  cases_are (Case ranges body rest) h = let p = and_parts (are_undirected body) (cases_undirected rest) h in (all_undirected body p.0, cases_are rest p.1)

  otherwise_is : (o : Otherwise) → otherwise_undirected o ≡ true → OtherwiseIsUndirected o
  otherwise_is Nothing_else h = tt
  otherwise_is (Else body) h = all_undirected body h
