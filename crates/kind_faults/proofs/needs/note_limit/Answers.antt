use Rattle.std.proofs.Common.{List, Option, ◌++◌, sym, ap, ◌∙◌}
use Rattle.std.specs.Prelude.{flat_map}
use Rattle.fort_tree.specs.declared.expr.Expr as tree_expr
use Rattle.sound_programs.specs.Faults.{found}
use Rattle.sound_programs.specs.Placed.{Expr}
use Rattle.sound_programs.specs.Placing.{limit, placed_option}
use Rattle.sound_programs.specs.Walks.{in_limit}
use Rattle.fort_names.specs.Leasts.{noted}
use Rattle.fort_names.specs.Sights.{means}
use Rattle.kind_faults.specs.Needs.{code_of, unmet}
use Rattle.kind_faults.proofs.needs.note_limit.Goals as goal

-- src/needs.rt
pub returns-in-Some : goal.returns-in-Some
returns-in-Some c =
    λ (rest : List Expr). c.note_next.ensures rest
    ∙ ap (λ (o : Option tree_expr.Expr). noted (found (code_of c.args.need) (flat_map (unmet (means c.args.sight.now) c.args.need) (in_limit (limit (placed_option o)) ++ rest))) c.args.least.now) (sym c.in-Some.is)
