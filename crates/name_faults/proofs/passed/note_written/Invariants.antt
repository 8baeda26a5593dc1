use Rattle.std.proofs.Common.{◌≡◌, ◌++◌, drop, map}
use Rattle.claw_meaning.specs.Plain.{plain_decl}
use Rattle.sound_programs.specs.Placing.{placed_subs}
use Rattle.name_faults.specs.Passing.{written_names}
use Rattle.name_faults.proofs.passed.note_written.Given as goal

abbrev pub invariant-loop-index : goal.invariant-loop-index
invariant-loop-index l =
    l.into.items ++ written_names (map (λ d. d.name) (drop l.index l.dummies)) (map plain_decl l.callee.decls) (placed_subs (drop l.index l.args))
    ≡ l.fn.into.items ++ written_names (map (λ d. d.name) l.dummies) (map plain_decl l.callee.decls) (placed_subs l.args)
