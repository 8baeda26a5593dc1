use Rattle.std.proofs.Common.{◌≡◌, ◌<◌, length, arith, refl, ◌∙◌}
use Rattle.std.specs.Str.{bytes_eq}
use Rattle.indexmap.specs.IndexMap.{get}
use Rattle.fort_tree.specs.declared.fault.Code.TheVariants.{E31}
use Rattle.sound_programs.specs.Faults.{found}
use Rattle.fort_names.specs.Leasts.{noted}
use Rattle.sound_programs.specs.Scopes.{place_of_only}
use Rattle.fort_names.specs.Sharing.{gives}
use Rattle.fort_names.specs.Using.{used_first, used_only}
use Rattle.fort_names.proofs.FirstOf.{next_places}
use Rattle.fort_names.proofs.used_names.note_used_only.Goals as goal

-- src/used_names.rt
pub loop-named-preserved : goal.loop-named-preserved
loop-named-preserved c =
    let items = c.args.only.now in
    let s = c.args.shared.now in
    let line = c.args.line.now in
    let firsts = get bytes_eq c.args.firsts.now in
    let n = c.named-item.result in
    let within : c.loop-named.named-index < length items = omega arith in
    let first : c.copied.result ≡ get bytes_eq c.args.firsts.now n.name = cc (c.copied.ensures, c.get.ensures.value) in
    next_places E31 (used_only s firsts line items) (λ m. used_first (firsts m.name) (gives s line.name m.name) (place_of_only items m.name line.at)) (λ a l. refl) items c.loop-named.named-index n within c.named-item.is
    c.loop-named.least c.note_used_first.new.least
    (c.note_used_first.ensures ∙ (λ i. noted (found E31 (used_first (first i) (c.gives.ensures i) (place_of_only items n.name line.at))) c.loop-named.least)) ∙ c.loop-named.invariant
