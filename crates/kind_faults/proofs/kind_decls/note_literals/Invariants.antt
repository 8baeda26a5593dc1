use Rattle.std.proofs.Common.{◌≡◌, drop}
use Rattle.fort_names.specs.Leasts.{noted}
use Rattle.fort_tree.specs.declared.fault.Code.TheVariants.{E32}
use Rattle.sound_programs.specs.Faults.{found}
use Rattle.sound_programs.specs.KindFaults.{literals_in}
use Rattle.unit_steps.specs.Behind.{exprs}
use Rattle.kind_faults.proofs.kind_decls.note_literals.Given as goal

abbrev pub invariant-loop-expr : goal.invariant-loop-expr
invariant-loop-expr l = noted (found E32 (literals_in (exprs (drop l.expr-index l.whole)))) l.least ≡ noted (found E32 (literals_in (exprs l.fn.whole))) l.fn.least
