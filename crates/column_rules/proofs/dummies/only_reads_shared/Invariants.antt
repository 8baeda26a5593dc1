use Rattle.std.proofs.Common.{◌≡◌, drop, map, not}
use Rattle.std.specs.List.{list_all}
use Rattle.claw_meaning.specs.Plain.{plain_decl, plain_unit}
use Rattle.column_rules.specs.Rules.{writes_shared}
use Rattle.column_rules.proofs.dummies.only_reads_shared.Given as goal

abbrev pub invariant-loop-decl : goal.invariant-loop-decl
invariant-loop-decl l =
    list_all (λ d. not (writes_shared (plain_unit l.unit) d)) (map plain_decl (drop l.decl-index l.unit.decls))
    ≡ list_all (λ d. not (writes_shared (plain_unit l.unit) d)) (map plain_decl l.unit.decls)
