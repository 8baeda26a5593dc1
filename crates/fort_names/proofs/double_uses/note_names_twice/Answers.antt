use Rattle.std.proofs.Common.{◌≡◌, ◌<◌, length, arith, refl, ap, sym, ◌∙◌, [], true, false, if◌then◌else◌}
use Rattle.fort_tree.specs.declared.fault.Code.TheVariants.{E31}
use Rattle.sound_programs.specs.Faults.{found}
use Rattle.fort_names.specs.Leasts.{noted}
use Rattle.fort_names.specs.NameLists.{has}
use Rattle.fort_names.specs.Using.{name_twice, names_twice}
use Rattle.fort_names.proofs.FirstOf.{next_places}
use Rattle.fort_names.proofs.double_uses.note_names_twice.Goals.{then-has, else-has}
use Rattle.fort_names.proofs.double_uses.note_names_twice.Goals as goal

-- src/double_uses.rt
pub loop-named-preserved : goal.loop-named-preserved
loop-named-preserved c =
    let items = c.args.only.now in
    let s = c.args.shared.now in
    let contested = c.args.contested.now in
    let lines = c.args.lines.now in
    let n = c.named-item.result in
    let within : c.loop-named.named-index < length items = omega arith in
    let one : c.if-has.least ≡ noted (found E31 (if has c.args.contested.now c.named-item.result.name then name_twice c.args.shared.now c.args.lines.now c.named-item.result.name else [])) c.loop-named.least =
    elim c.if-has.branch [
      | then-has w ↦
          let there : true ≡ has c.args.contested.now c.named-item.result.name = sym (sym c.has.ensures.there ∙ w.if-has.true) in
          w.least-is ∙ w.note_name_twice.ensures ∙ ap (λ t. noted (found E31 (if t then name_twice s lines n.name else [])) c.loop-named.least) there
      | else-has w ↦
          let there : false ≡ has c.args.contested.now c.named-item.result.name = sym (sym c.has.ensures.there ∙ w.if-has.false) in
          w.least-is ∙ ap (λ t. noted (found E31 (if t then name_twice s lines n.name else [])) c.loop-named.least) there
    ] in
    next_places E31 (names_twice s contested lines) (λ a. if has contested a.name then name_twice s lines a.name else []) (λ a l. refl) items c.loop-named.named-index n within c.named-item.is
    c.loop-named.least c.if-has.least one ∙ c.loop-named.invariant
