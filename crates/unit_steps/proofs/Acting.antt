-- The steps of statements are the same, whatever DOs stand around them.
use Rattle.std.proofs.Common.{◌≡◌, List, [], ◌∷◌, ◌++◌, map, refl, sym, ap, ◌∙◌}
use Rattle.std.proofs.lemmas.List.{map-append}
use Rattle.claw_meaning.specs.Syntax.{Text}
use Rattle.sound_programs.specs.Placed.{Stmt, Assign, Call, If, Select, Do, Block, Piece, Exit, Cycle, Return, Stmts, Done, Then, Arms, No_arm, Arm, Cases, No_case, Case, Otherwise, Nothing_else, Else}
use Rattle.sound_programs.specs.Walks.{Step, Tests, Chooses, Repeats, Stands, ranges_of, steps, steps_in, steps_in_arms, steps_in_cases, steps_in_otherwise}
use Rattle.unit_steps.specs.Acts.{acts, acts_in, acts_in_arms, acts_in_cases, acts_in_otherwise}

abbrev alone : List Stands → List Step
alone list = map (λ s. s.step) list

two : (xs ys : List Stands) (first second : List Step) → first ≡ alone xs → second ≡ alone ys → first ++ second ≡ alone (xs ++ ys)
two xs ys first second e h = (λ t. e t ++ h t) ∙ sym (map-append (λ s. s.step) xs ys)

mutual
  acts_are : (loops : List Text) (s : Stmt) → acts s ≡ alone (steps loops s)
  acts_are loops (Assign at left right) = refl
  acts_are loops (Call at name args forward) = refl
  acts_are loops (If at arms other) = two (steps_in_arms loops arms) (steps_in_otherwise loops other) _ _ (arms_are loops arms) (otherwise_are loops other)
  acts_are loops (Select at on cases other) =
      ap (λ l. Chooses on (ranges_of cases) ∷ l) (two (steps_in_cases loops cases) (steps_in_otherwise loops other) _ _ (cases_are loops cases) (otherwise_are loops other))
  acts_are loops (Do at head body mark) = ap (λ l. Repeats head mark ∷ l) (body_are (head.variable ∷ loops) body)
  acts_are loops (Block at mark body) = body_are loops body
  acts_are loops (Piece body) = body_are loops body
  acts_are loops (Exit at) = refl
  acts_are loops (Cycle at) = refl
  acts_are loops (Return at) = refl

  body_are : (loops : List Text) (ss : Stmts) → acts_in ss ≡ alone (steps_in loops ss)
  body_are loops Done = refl
  body_are loops (Then s rest) = two (steps loops s) (steps_in loops rest) _ _ (acts_are loops s) (body_are loops rest)

  arms_are : (loops : List Text) (arms : Arms) → acts_in_arms arms ≡ alone (steps_in_arms loops arms)
  arms_are loops No_arm = refl
  arms_are loops (Arm test body rest) = ap (λ l. Tests test ∷ l) (two (steps_in loops body) (steps_in_arms loops rest) _ _ (body_are loops body) (arms_are loops rest))

  cases_are : (loops : List Text) (cases : Cases) → acts_in_cases cases ≡ alone (steps_in_cases loops cases)
  cases_are loops No_case = refl
  cases_are loops (Case ranges body rest) = two (steps_in loops body) (steps_in_cases loops rest) _ _ (body_are loops body) (cases_are loops rest)

  otherwise_are : (loops : List Text) (other : Otherwise) → acts_in_otherwise other ≡ alone (steps_in_otherwise loops other)
  otherwise_are loops Nothing_else = refl
  otherwise_are loops (Else body) = body_are loops body

pub steps_are : (ss : Stmts) → acts_in ss ≡ map (λ s. s.step) (steps_in [] ss)
steps_are ss = body_are [] ss
