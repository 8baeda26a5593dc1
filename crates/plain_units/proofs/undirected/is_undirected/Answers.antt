use Rattle.std.proofs.Common.{◌≡◌, refl, sym, ◌∙◌, List, [], ◌∷◌, map}
use Rattle.std.proofs.lemmas.Bool.{false≢true}
use Rattle.fort_tree.specs.declared.stmt.Directive.{Directive}
use Rattle.claw_meaning.specs.Plain.{plain_directive}
use Rattle.plain_units.proofs.undirected.is_undirected.Goals as goal

no_marks : (ds : List Directive) → map plain_directive ds ≡ [] → ds ≡ []
no_marks [] e = refl
no_marks (d ∷ ds) e = absurd (cc)

-- src/undirected.rt
pub returns-else-is_empty : goal.returns-else-is_empty
returns-else-is_empty c = (λ t. absurd (false≢true (sym c.if-is_empty.false ∙ t)), λ h. c.is_empty.ensures.1 (no_marks c.args.unit.now.marks h.0))
