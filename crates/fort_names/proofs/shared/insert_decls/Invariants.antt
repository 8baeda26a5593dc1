use Rattle.std.proofs.Common.{◌≡◌, drop, map}
use Rattle.fort_names.specs.Sharing.{inserted}
use Rattle.fort_names.proofs.shared.insert_decls.Given as goal

abbrev pub invariant-loop-decl : goal.invariant-loop-decl
invariant-loop-decl l = inserted l.names (map (λ d. d.name) (drop l.decl-index l.decls)) ≡ inserted l.fn.names (map (λ d. d.name) l.fn.decls)
