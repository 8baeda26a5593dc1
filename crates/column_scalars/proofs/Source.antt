-- What the source unit's names mean, and what its statements do.
use Rattle.std.proofs.Common.{refl, ap, sym, ◌∙◌}
use Rattle.std.specs.Prelude.{⊤}
use Rattle.courses.specs.Course.{Normal}
use Rattle.claw_meaning.specs.Syntax.{Text, Name, Program}
use Rattle.claw_meaning.specs.Scene.{Callee, Scene}
use Rattle.claw_meaning.specs.Statements.{meanings}
use Rattle.claw_meaning.specs.Units.{Given, scene_of}
use Rattle.column_scalars.specs.Scalars.{Scalars, IsScalars, source_unit, assignments, dummy_decl}
use Rattle.column_scalars.specs.Model.{SourceDoes, scalar_of, ran}
use Rattle.column_scalars.proofs.Ends.{ending, does_as}
use Rattle.column_scalars.proofs.Assigning.{spelled_names, runs}
use Rattle.column_scalars.proofs.Scenes.{AreScalars, scalars_lie}
use Rattle.column_scalars.proofs.Lookups.{source_decl, means}

abbrev source_scene : Program → Scalars → (Text → Callee) → Given → Scene
source_scene p u callee given = scene_of p callee (source_unit u) given

source_means : (p : Program) (u : Scalars) → IsScalars u → (callee : Text → Callee) (given : Given) → AreScalars (source_scene p u callee given) u.name u.dummies
source_means p u i callee given x h =
    let t = source_decl u.declared x (i.all_declared x h) in
    means p callee (source_unit u) given x (dummy_decl x t.0) refl t.1

pub source_does : (u : Scalars) → IsScalars u → SourceDoes u
source_does u i p callee given o s j =
    let c : Scene = source_scene p u callee given in
    does_as Normal (assignments u.assigned) c o s j (ran (scalar_of u.name) u.assigned s)
    (ap (λ b. ending (meanings c b) o s j) (sym (spelled_names u.assigned))
    ∙ runs c u.dummies Name (scalar_of u.name) (λ t. ⊤) (scalars_lie c u.name u.dummies (source_means p u i callee given)) u.assigned i.assigned o s j tt)
