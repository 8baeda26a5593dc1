-- In a program into which forms nest each left side, in each step of each unit, is a name, with subscripts or without.
use Rattle.std.proofs.Common.{List, [], ◌∷◌, map}
use Rattle.fort_tree.specs.declared.choice.Mode.{Mode}
use Rattle.fort_tree.specs.declared.unit.File.{File}
use Rattle.fort_tree.specs.declared.unit.Unit as unit
use Rattle.claw_meaning.specs.Syntax.{Text}
use Rattle.sound_programs.specs.Laws.{Each}
use Rattle.sound_programs.specs.Placed.{Stmt, Assign, Call, If, Select, Do, Block, Piece, Exit, Cycle, Return, Stmts, Done, Then, Arms, No_arm, Arm, Cases, No_case, Case, Otherwise, Nothing_else, Else}
use Rattle.sound_programs.specs.Placing.{placed, placed_stmts, placed_unit}
use Rattle.sound_programs.specs.Sound.{IsNested}
use Rattle.sound_programs.specs.Walks.{Stands, steps, steps_in, steps_in_arms, steps_in_cases, steps_in_otherwise, steps_of, left_of}
use Rattle.sound_programs.proofs.LeftSides.{IsLeft, HasLefts, HaveLefts, ArmsHaveLefts, CasesHaveLefts, OtherwiseHasLefts, LeftsIn, nested_lefts}
use Rattle.sound_programs.proofs.WithinLists.{each_append}

abbrev StepHasLeft : Stands → Type 0
StepHasLeft s = Each (left_of s.step) IsLeft

mutual
  each_left_in : (around : List Text) (s : Stmt) → HasLefts s → Each (steps around s) StepHasLeft
  each_left_in around (Assign at left right) h = ((h, tt), tt)
  each_left_in around (Call at name args forward) h = (tt, tt)
  each_left_in around (If at arms other) h =
      each_append StepHasLeft (steps_in_arms around arms) (steps_in_otherwise around other) (each_left_in_arms around arms h.0) (each_left_in_otherwise around other h.1)
  each_left_in around (Select at on cases other) h = (
    tt,
    each_append StepHasLeft (steps_in_cases around cases) (steps_in_otherwise around other) (each_left_in_cases around cases h.0) (each_left_in_otherwise around other h.1),
  )
  each_left_in around (Do at head body mark) h = (tt, each_left_in_body (head.variable ∷ around) body h)
  each_left_in around (Block at mark body) h = each_left_in_body around body h
  each_left_in around (Piece body) h = each_left_in_body around body h
  each_left_in around (Exit at) h = tt
  each_left_in around (Cycle at) h = tt
  each_left_in around (Return at) h = tt

  each_left_in_body : (around : List Text) (body : Stmts) → HaveLefts body → Each (steps_in around body) StepHasLeft
  each_left_in_body around Done h = tt
  each_left_in_body around (Then s rest) h = each_append StepHasLeft (steps around s) (steps_in around rest) (each_left_in around s h.0) (each_left_in_body around rest h.1)

  each_left_in_arms : (around : List Text) (arms : Arms) → ArmsHaveLefts arms → Each (steps_in_arms around arms) StepHasLeft
  each_left_in_arms around No_arm h = tt
  each_left_in_arms around (Arm test body rest) h = (
    tt,
    each_append StepHasLeft (steps_in around body) (steps_in_arms around rest) (each_left_in_body around body h.0) (each_left_in_arms around rest h.1),
  )

  each_left_in_cases : (around : List Text) (cases : Cases) → CasesHaveLefts cases → Each (steps_in_cases around cases) StepHasLeft
  each_left_in_cases around No_case h = tt
  each_left_in_cases around (Case ranges body rest) h =
      each_append StepHasLeft (steps_in around body) (steps_in_cases around rest) (each_left_in_body around body h.0) (each_left_in_cases around rest h.1)

  each_left_in_otherwise : (around : List Text) (other : Otherwise) → OtherwiseHasLefts other → Each (steps_in_otherwise around other) StepHasLeft
  each_left_in_otherwise around Nothing_else h = tt
  each_left_in_otherwise around (Else body) h = each_left_in_body around body h

each_unit : (us : List unit.Unit) → Each us (λ u. LeftsIn u.body) → Each (map placed_unit us) (λ u. Each (steps_of u) StepHasLeft)
each_unit [] h = tt
each_unit (u ∷ us) h = (each_left_in_body [] (placed_stmts u.body) h.0, each_unit us h.1)

pub lefts_of_file : (mode : Mode) (file : File) → IsNested mode file → Each (placed file).units (λ u. Each (steps_of u) (λ s. Each (left_of s.step) IsLeft))
lefts_of_file mode file nested = each_unit file.units (nested_lefts mode nested.1)
