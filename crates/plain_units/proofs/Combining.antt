-- What is known of the names in CALLs and what is known of those that are referred to, together.
use Rattle.std.specs.Prelude.{⊤}
use Rattle.claw_meaning.specs.Syntax.{Text, Stmt, Assign, Call, If, Select, Do, Block, Piece, Exit, Cycle, Return, Stmts, Done, Then, Arms, No_arm, Arm, Cases, No_case, Case, Otherwise, Nothing_else, Else}
use Rattle.plain_units.specs.Calling.{Calls, AllCall, ArmsCall, CasesCall, OtherwiseCalls}

module _ (C R : Text → Type 0) where
  mutual
    together_in : (s : Stmt) → Calls C (λ x. ⊤) s → Calls (λ x. ⊤) R s → Calls C R s
    together_in (Assign left right) c r = r
    together_in (Call x args forward) c r = (c.0, r.1)
    together_in (If arms other) c r = (in_arms arms c.0 r.0, in_otherwise other c.1 r.1)
    together_in (Select e cases other) c r = (r.0, in_cases cases c.1 r.1, in_otherwise other c.2 r.2)
    together_in (Do h body mark) c r = (r.0, together body c.1 r.1)
    together_in (Block d body) c r = together body c r
    together_in (Piece body) c r = together body c r
    together_in Exit c r = tt
    together_in Cycle c r = tt
    together_in Return c r = tt

    pub together : (s : Stmts) → AllCall C (λ x. ⊤) s → AllCall (λ x. ⊤) R s → AllCall C R s
    together Done c r = tt
    together (Then s rest) c r = (together_in s c.0 r.0, together rest c.1 r.1)

    in_arms : (a : Arms) → ArmsCall C (λ x. ⊤) a → ArmsCall (λ x. ⊤) R a → ArmsCall C R a
    in_arms No_arm c r = tt
    in_arms (Arm test body rest) c r = (r.0, together body c.1 r.1, in_arms rest c.2 r.2)

    in_cases : (k : Cases) → CasesCall C (λ x. ⊤) k → CasesCall (λ x. ⊤) R k → CasesCall C R k
    in_cases No_case c r = tt
    in_cases (Case ranges body rest) c r = (together body c.0 r.0, in_cases rest c.1 r.1)

    in_otherwise : (o : Otherwise) → OtherwiseCalls C (λ x. ⊤) o → OtherwiseCalls (λ x. ⊤) R o → OtherwiseCalls C R o
    in_otherwise Nothing_else c r = tt
    in_otherwise (Else body) c r = together body c r
