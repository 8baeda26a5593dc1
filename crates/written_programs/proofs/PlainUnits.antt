-- Each unit of a program that has no directives can be written.
use Rattle.std.proofs.Common.{List, subst, Contains}
use Rattle.fort_tree.specs.declared.choice.Mode.{Mode}
use Rattle.fort_tree.specs.declared.statement.Line.{Line}
use Rattle.fort_tree.specs.declared.unit.File.{File}
use Rattle.fort_units.specs.Program.{mode_of, IsProgram}
use Rattle.claw_meaning.specs.Plain.{plain_file}
use Rattle.claw_meaning.specs.Syntax as plain
use Rattle.plain_units.specs.Regrouped.{regrouped}
use Rattle.plain_units.specs.Undirected.{IsUndirected}
use Rattle.written_programs.specs.Writable.{CanBeWritten}
use Rattle.written_programs.proofs.EachUnit.{IsSaidUnit, a_unit}
use Rattle.written_programs.proofs.UnitsWritten.{unit_written}

-- where it has no directives, it can be written
abbrev pub CanRegroup : plain.Unit → Type 0
CanRegroup u = IsUndirected u → CanBeWritten (regrouped u)

pub can_regroup : (mode : Mode) {u : plain.Unit} → IsSaidUnit mode u → CanRegroup u
can_regroup mode s = subst CanRegroup s.same (λ n. unit_written mode s.nest n s.said)

pub plain_unit_written : (lines : List Line) (file : File) (u : plain.Unit) → IsProgram lines file → Contains (plain_file file).units u → IsUndirected u → CanBeWritten (regrouped u)
plain_unit_written lines file u p c = can_regroup (mode_of lines) (a_unit u p c)
