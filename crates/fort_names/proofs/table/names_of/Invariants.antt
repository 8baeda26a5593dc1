use Rattle.std.proofs.Common.{◌≡◌, ◌++◌, drop, map}
use Rattle.fort_names.proofs.table.names_of.Given as goal

abbrev pub invariant-loop-decl : goal.invariant-loop-decl
invariant-loop-decl l = l.names.items ++ map (λ d. d.name) (drop l.decl-index l.decls) ≡ map (λ d. d.name) l.decls
