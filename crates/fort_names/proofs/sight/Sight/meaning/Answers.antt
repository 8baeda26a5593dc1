use Rattle.std.proofs.Common.{◌∙◌, ap, subst}
use Rattle.fort_names.specs.Meanings.{meant, IsNumbered}
use Rattle.fort_names.specs.Sights.{means, file_of}
use Rattle.fort_names.specs.Spots.{found_at}
use Rattle.fort_names.proofs.Meant.{entity_means}
use Rattle.fort_names.proofs.sight.Sight.meaning.Goals as goal

-- src/sight.rt
pub returns : goal.returns
returns c =
    let x = c.args.name.now in
    let f = c.self.inside.file.now in
    record {
      is = c.meaning_of_entity.ensures.is
          ∙ (λ i. meant f (c.name.ensures i) ((c.find_at.ensures ∙ ap (λ s. found_at s c.self.inside.spot x) c.shared.ensures.is ∙ c.self.invariant.finds.each x) i))
          ∙ entity_means f c.self.inside.spot x
          ∙ ap (λ s. means s x) c.self.view_is;
      numbered = subst (λ s. IsNumbered (file_of s) c.meaning_of_entity.result) c.self.view_is c.meaning_of_entity.ensures.numbered;
    }
