use Rattle.std.proofs.Common.{◌≡◌, drop, map}
use Rattle.std.specs.Prelude.{flat_map}
use Rattle.fort_tree.specs.declared.stmt.Named.{Named}
use Rattle.claw_meaning.specs.Plain.{plain_decl}
use Rattle.sound_programs.specs.Faults.{found}
use Rattle.sound_programs.specs.Placing.{placed_subs}
use Rattle.sound_programs.specs.Walks.{matched}
use Rattle.fort_names.specs.Leasts.{noted}
use Rattle.fort_names.specs.Sights.{means}
use Rattle.kind_faults.specs.Fitting.{code_of_fit, unfit}
use Rattle.kind_faults.proofs.actuals.note_actuals.Given as goal

abbrev pub invariant-loop-i : goal.invariant-loop-i
invariant-loop-i l =
    noted (found (code_of_fit l.fit) (flat_map (unfit (means l.sight) l.fit) (matched (map (λ (d : Named). d.name) (drop l.i l.dummies)) (map plain_decl l.callee.decls) (placed_subs (drop l.i l.args))))) l.least
    ≡ noted (found (code_of_fit l.fit) (flat_map (unfit (means l.sight) l.fit) (matched (map (λ (d : Named). d.name) l.dummies) (map plain_decl l.callee.decls) (placed_subs l.args)))) l.fn.least
