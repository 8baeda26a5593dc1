use Rattle.std.proofs.Common.{◌≡◌, ◌++◌, drop}
use Rattle.fort_names.specs.Declaring.{names_of_decls}
use Rattle.fort_names.proofs.declarations.names_of.Given as goal

abbrev pub invariant-loop-decl : goal.invariant-loop-decl
invariant-loop-decl l = l.names ++ names_of_decls (drop l.decl-index l.decls) ≡ names_of_decls l.decls
