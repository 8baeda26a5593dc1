use Rattle.std.proofs.Common.{◌≡◌, ◌||◌, drop, map}
use Rattle.claw_meaning.specs.Syntax.{Text}
use Rattle.claw_meaning.specs.Units.{is_listed}
use Rattle.fort_names.specs.NameLists.{has}
use Rattle.name_faults.proofs.values.declared_names.Given as goal

abbrev pub invariant-loop-decl : goal.invariant-loop-decl
invariant-loop-decl l = (x : Text) → (has l.names x || is_listed (map (λ d. d.name) (drop l.decl-index l.decls)) x) ≡ is_listed (map (λ d. d.name) l.decls) x
