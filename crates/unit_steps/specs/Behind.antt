-- The placed trees behind references.
use Rattle.std.specs.Prelude.{List, map}
use Rattle.std.specs.Option.{option_map}
use denote.Ref.{Bor}
use Rattle.fort_tree.specs.declared.expr.Expr as tree_expr
use Rattle.sound_programs.specs.Placed.{Expr}
use Rattle.sound_programs.specs.Placing.{placed_directive, placed_expr, placed_head, placed_subs}
use Rattle.sound_programs.specs.Walks as walks
use Rattle.unit_steps.specs.declared.step.Step.{Step}
use Rattle.unit_steps.specs.declared.step.Step.TheVariants.{Assigns, Calls, Tests, Chooses, Repeats}
use Rattle.unit_steps.specs.Acts.{cases_placed}

abbrev pub expr_behind : Bor tree_expr.Expr → Expr
expr_behind r = placed_expr r.now

-- the expressions
abbrev pub exprs : List (Bor tree_expr.Expr) → List Expr
exprs list = map (λ r. placed_expr r.now) list

abbrev pub placed_step : Step → walks.Step
placed_step (Assigns left right) = walks.Assigns (placed_expr left.now) (placed_expr right.now)
placed_step (Calls name args) = walks.Calls name.now (placed_subs args.now)
placed_step (Tests test) = walks.Tests (placed_expr test.now)
placed_step (Chooses on cases) = walks.Chooses (placed_expr on.now) (walks.ranges_of (cases_placed cases.now))
placed_step (Repeats head mark) = walks.Repeats (placed_head head.now) (option_map placed_directive mark.now)

abbrev pub placed_steps : List Step → List walks.Step
placed_steps list = map placed_step list
