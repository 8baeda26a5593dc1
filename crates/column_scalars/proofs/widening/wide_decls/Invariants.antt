use Rattle.std.proofs.Common.{◌≡◌, ◌++◌, map, take}
use Rattle.claw_meaning.specs.Plain.{plain_decl, plain_directive}
use Rattle.column_scalars.specs.Widened.{wide_decl_by}
use Rattle.column_scalars.proofs.widening.wide_decls.Given as goal

abbrev pub invariant-loop-decl : goal.invariant-loop-decl
invariant-loop-decl l = map plain_decl l.all ≡ map plain_decl l.initial.all ++ map (λ d. wide_decl_by (plain_directive l.define) (plain_decl d)) (take l.decl-index l.decls)
