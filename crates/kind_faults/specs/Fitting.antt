-- In what actual arguments are to fit their dummies.
use Rattle.std.specs.Prelude.{List, [], Option, None, Some}
use Rattle.fort_tree.specs.declared.fault.Code.{Code}
use Rattle.fort_tree.specs.declared.fault.Code.TheVariants.{E32, E33}
use Rattle.fort_tree.specs.declared.place.Place.{Place}
use Rattle.claw_meaning.specs.Syntax.{Text}
use Rattle.claw_meaning.specs.Scope.{Entity}
use Rattle.sound_programs.specs.KindFaults.{actual_differs}
use Rattle.sound_programs.specs.Kinding.{kind}
use Rattle.sound_programs.specs.Placed.{Expr, first}
use Rattle.sound_programs.specs.Places.{where_place}
use Rattle.sound_programs.specs.RankFaults.{is_rank_fault}
use Rattle.sound_programs.specs.Walks.{Actual}
use Rattle.kind_faults.specs.declared.actuals.Fit.{Fit}
use Rattle.kind_faults.specs.declared.actuals.Fit.TheVariants.{Kind, Rank}

abbrev pub code_of_fit : Fit → Code
code_of_fit Kind = E32
code_of_fit Rank = E33

abbrev pub expr_unfit : (Text → Entity) → Fit → Expr → Actual → List Place
expr_unfit entity Kind e a = where_place (actual_differs entity (kind entity e) a.dummy) a.at
expr_unfit entity Rank e a = where_place (is_rank_fault entity e a.dummy) (first e)

-- a range fits
abbrev pub unfit_if_any : (Text → Entity) → Fit → Option Expr → Actual → List Place
unfit_if_any entity fit None a = []
unfit_if_any entity fit (Some e) a = expr_unfit entity fit e a

-- where an actual doesn't fit
abbrev pub unfit : (Text → Entity) → Fit → Actual → List Place
unfit entity fit a = unfit_if_any entity fit a.expr a
