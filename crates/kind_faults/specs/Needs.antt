-- What is asked of expressions.
use Rattle.std.specs.Prelude.{List}
use Rattle.fort_tree.specs.declared.fault.Code.{Code}
use Rattle.fort_tree.specs.declared.fault.Code.TheVariants.{E32, E33}
use Rattle.fort_tree.specs.declared.place.Place.{Place}
use Rattle.claw_meaning.specs.Syntax.{Text}
use Rattle.claw_meaning.specs.Scope.{Entity}
use Rattle.sound_programs.specs.KindFaults.{needs_integer, needs_logical}
use Rattle.sound_programs.specs.Placed.{Expr}
use Rattle.sound_programs.specs.RankFaults.{needs_scalar}
use Rattle.sound_programs.specs.Ranking.{operands, differing}
use Rattle.kind_faults.specs.declared.needs.Need.{Need}
use Rattle.kind_faults.specs.declared.needs.Need.TheVariants.{Integer, Logical, Scalar, OneRank}

abbrev pub code_of : Need → Code
code_of Integer = E32
code_of Logical = E32
code_of Scalar = E33
code_of OneRank = E33

-- where an expression isn't what is asked
abbrev pub unmet : (Text → Entity) → Need → Expr → List Place
unmet entity Integer e = needs_integer entity e
unmet entity Logical e = needs_logical entity e
unmet entity Scalar e = needs_scalar entity e
unmet entity OneRank e = differing (operands entity e)
