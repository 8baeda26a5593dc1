use Rattle.std.proofs.Common.{◌≡◌, ◌++◌, drop, map}
use Rattle.claw_meaning.specs.Plain.{plain_decl}
use Rattle.sound_programs.specs.Placing.{placed_subs}
use Rattle.sound_programs.specs.Walks as walks
use Rattle.argument_faults.specs.Actuals.{placed_actuals}
use Rattle.argument_faults.proofs.actuals.matched.Given as goal

abbrev pub invariant-loop-i : goal.invariant-loop-i
invariant-loop-i l =
    placed_actuals l.list.items ++ walks.matched (map (λ d. d.name) (drop l.i l.dummies)) (map plain_decl l.callee.decls) (placed_subs (drop l.i l.args))
    ≡ walks.matched (map (λ d. d.name) l.dummies) (map plain_decl l.callee.decls) (placed_subs l.args)
