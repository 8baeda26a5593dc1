-- The forms of the small text nest.
use Rattle.std.proofs.Common.{ℕ, List, [], ◌∷◌, map, None, Some, false, refl}
use Rattle.fort_tree.specs.declared.choice.Mode.TheVariants.{Source}
use Rattle.fort_tree.specs.declared.statement.Statement as layers
use Rattle.fort_tree.specs.declared.stmt.Stmt.TheVariants as tree
use Rattle.fort_tree.specs.declared.unit.File.{File}
use Rattle.fort_tree.specs.declared.unit.Item.TheVariants as item
use Rattle.sound_programs.specs.Nesting.{arm, calls, returns, done, more, simple, if_then, directed, else_last, no_more_uses, unsaid, no_more_decls, unmarked, unpaired, bare, subroutine, no_more, unit_first, Nests}
use Rattle.form_nesting.specs.Forms.{form_of}
use Rattle.form_nesting.specs.SmallForms.{here, named, truth, fusion, head, small_forms}

small_file : List ℕ → File
small_file name = record {
  modules = [];
  units =
      record {
        name = name;
        at = here;
        dummies = [];
        result = None;
        uses = [];
        decls = [];
        marks = [];
        body =
            tree.Loop here (head name) (tree.Call here (named name) [] false ∷ []) (Some fusion)
            ∷ tree.If here (arm truth (tree.Return here ∷ []) ∷ []) (Some [])
            ∷ [];
        host = None;
      }
      ∷ [];
  order = item.Unit 0 ∷ [];
}

pub small_nests : (name : List ℕ) → (file : File) × Nests Source (map form_of (small_forms name)) file
unfolding small_file layers.out-Statement denote.Hole.Carrier.out
small_nests name = (
  small_file name,
  unit_first
      (subroutine
      (record {
        after_uses = _;
        after_implicit = _;
        after_decls = _;
        among_uses = [];
        among_decls = [];
        used = no_more_uses;
        implicit = unsaid;
        declared = no_more_decls;
        paired = refl;
        marked = unmarked;
      })
      unpaired
      (more (directed refl (more (simple (calls (named name) [])) done)) (more (if_then (more (simple (returns refl)) done) (else_last done)) done))
      (bare refl))
      no_more,
)
