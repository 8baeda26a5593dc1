use Rattle.std.proofs.Common.{◌≡◌, ◌++◌, drop}
use Rattle.std.specs.Option.{option_copied}
use Rattle.fort_names.specs.Tables.{decl_entities, columns_of}
use Rattle.fort_names.proofs.table.entities_of.Given as goal

abbrev pub invariant-loop-index : goal.invariant-loop-index
invariant-loop-index l =
    l.list ++ decl_entities l.home (columns_of (option_copied l.unit)) l.index (drop l.index l.decls) ≡ decl_entities l.home (columns_of (option_copied l.unit)) 0 l.decls
