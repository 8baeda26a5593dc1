use Rattle.std.proofs.Common.{◌≡◌, ◌++◌, drop, map}
use Rattle.fort_names.specs.Declaring.{names_of_decls}
use Rattle.fort_names.proofs.declarations.names_of_each.Given as goal

abbrev pub invariant-loop-one : goal.invariant-loop-one
invariant-loop-one l = l.lists.items ++ map (λ m. names_of_decls m.decls) (drop l.one-index l.modules) ≡ map (λ m. names_of_decls m.decls) l.modules
