use Rattle.std.proofs.Common.{◌≡◌, ◌∙◌, true}
use Rattle.std.specs.Str.{bytes_eq}
use Rattle.indexmap.specs.IndexMap.{get}
use Rattle.fort_tree.specs.declared.fault.Code.TheVariants.{E34}
use Rattle.fort_names.specs.Circles.{falls, rank_in}
use Rattle.fort_names.proofs.Circling.{no_circle}
use Rattle.fort_names.proofs.CirclesAre.{noted_circles, no_circles}
use Rattle.fort_names.proofs.cycles.note_cycles.Goals.{then-not-is_falling+in_ok-note_links, else-not-is_falling}
use Rattle.fort_names.proofs.cycles.note_cycles.Goals as goal

-- src/cycles.rt
pub returns : goal.returns
returns c =
    let file = c.args.file.now in
    let modules = c.items-modules.result.now in
    let links = c.in_ok-links.links.items in
    elim c.if-not-is_falling.branch [
      | then-not-is_falling+in_ok-note_links w ↦
          w.least-is
          ∙ noted_circles E34 file modules links w.as_slice-then-not-is_falling.result.now c.args.least.now w.note_links.new.least c.items-modules.ensures c.in_ok-links.ensures
          w.as_slice-then-not-is_falling.ensures.value w.in_ok-note_links.ensures
      | else-not-is_falling w ↦
          let falling : falls (λ x. rank_in (get bytes_eq c.in_ok-ranks.ranks x)) c.as_slice-2.result.now ≡ true = cc (c.is_falling.ensures, w.if-not-is_falling.false) in
          w.least-is
          ∙ no_circles E34 file modules links c.as_slice-2.result.now c.args.least.now c.items-modules.ensures c.in_ok-links.ensures c.as_slice-2.ensures.value
          (no_circle (λ x. rank_in (get bytes_eq c.in_ok-ranks.ranks x)) c.as_slice-2.result.now falling)
    ]
