-- The groups of a plain unit's declarations, in the order in which they are written.
use Rattle.std.specs.Prelude.{[], List, ◌++◌, Bool, ◌&&◌, not}
use Rattle.std.specs.List.{filter}
use Rattle.claw_meaning.specs.Syntax.{Decl, Unit}
use Rattle.claw_meaning.specs.Units.{is_intent_in, is_array_decl}
use Rattle.claw_meaning.specs.Interface.{is_constant_decl, is_fresh}
use Rattle.plain_units.specs.declared.regrouping.Group.{Group}
use Rattle.plain_units.specs.declared.regrouping.Group.TheVariants.{Constants, Shared, Others, Made}

-- a scalar IN dummy
abbrev pub is_shared : Decl → Bool
is_shared d = is_intent_in d.intent && not (is_array_decl d)

abbrev pub is_other : Decl → Bool
is_other d = not (is_constant_decl d) && not (is_shared d)

abbrev pub is_in_group : Group → Decl → Bool
is_in_group Constants d = is_constant_decl d
is_in_group Shared d = is_shared d
is_in_group Others d = is_other d && not (is_fresh d.name)
is_in_group Made d = is_other d && is_fresh d.name

abbrev pub in_groups : List Decl → List Decl
in_groups ds = ((filter (is_in_group Constants) ds ++ filter (is_in_group Shared) ds) ++ filter (is_in_group Others) ds) ++ filter (is_in_group Made) ds

abbrev pub with_groups : Unit → Unit
with_groups u = record {
  name = u.name;
  dummies = u.dummies;
  result = u.result;
  uses = u.uses;
  decls = in_groups u.decls;
  marks = [];
  body = u.body;
  host = u.host;
}
