use Rattle.std.proofs.Common.{◌≡◌, ◌++◌, map, take}
use Rattle.std.specs.List.{filter}
use Rattle.claw_meaning.specs.Plain.{plain_decl}
use Rattle.plain_units.specs.Groups.{is_in_group}
use Rattle.plain_units.proofs.regrouping.add_group.Given as goal

abbrev pub invariant-loop-decl : goal.invariant-loop-decl
invariant-loop-decl l = map plain_decl l.all ≡ map plain_decl l.initial.all ++ filter (is_in_group l.group) (map plain_decl (take l.decl-index l.decls))
