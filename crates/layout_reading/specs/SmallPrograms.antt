-- A small program and its text.
use Rattle.std.specs.Prelude.{ℕ, List, [], ◌∷◌, None, codes}
use Rattle.fort_tree.specs.declared.unit.File.{File}
use Rattle.fort_tree.specs.declared.unit.Item.TheVariants as item
use Rattle.fort_tree.specs.declared.unit.Unit as tree_unit
use Rattle.fort_tree.specs.Unplaced.{nowhere}

-- a SUBROUTINE `a` that does nothing
abbrev pub idle : tree_unit.Unit
idle = record {
  name = codes "a";
  at = nowhere;
  dummies = [];
  result = None;
  uses = [];
  decls = [];
  marks = [];
  body = [];
  host = None;
}

abbrev pub idle_file : File
idle_file = record { modules = []; units = idle ∷ []; order = item.Unit 0 ∷ [] }

abbrev pub idle_text : List ℕ
idle_text = codes "subroutine a()\n  implicit none\nend subroutine a\n"
