use Rattle.std.proofs.Common.{◌≡◌, drop}
use Rattle.scalar_units.specs.Unbuilt.{noted, of_decls}
use Rattle.scalar_units.proofs.unbuilt.note_decls.Given as goal

abbrev pub invariant-loop-decl : goal.invariant-loop-decl
invariant-loop-decl l = noted (of_decls l.unit (drop l.decl-index l.decl-items)) l.least ≡ noted (of_decls l.fn.unit l.fn.unit.decls) l.fn.least
