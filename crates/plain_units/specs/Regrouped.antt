-- A unit without columns as it is written: its declarations in their three groups, all else as it is.
use Rattle.std.specs.Prelude.{[]}
use Rattle.claw_meaning.specs.Syntax.{Unit}
use Rattle.claw_meaning.specs.Interface.{written_decls, no_widening}

abbrev pub regrouped : Unit → Unit
regrouped u = record {
  name = u.name;
  dummies = u.dummies;
  result = u.result;
  uses = u.uses;
  decls = written_decls u no_widening;
  marks = [];
  body = u.body;
  host = u.host;
}
