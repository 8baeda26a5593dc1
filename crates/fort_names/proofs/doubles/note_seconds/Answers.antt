use Rattle.std.proofs.Common.{◌≡◌, ◌<◌, ◌+◌, length, arith, ap, sym, subst, ◌∙◌, take, [], ◌∷◌, ◌++◌, cond, Some}
use Rattle.std.proofs.lemmas.List.{take_more}
use Rattle.std.specs.Str.{bytes_eq}
use Rattle.indexmap.specs.IndexMap.{get}
use Rattle.fort_tree.specs.declared.fault.Code.TheVariants.{E31}
use Rattle.sound_programs.specs.DeclarationFaults.{seconds}
use Rattle.sound_programs.specs.Faults.{found}
use Rattle.sound_programs.specs.Places.{earlier_of}
use Rattle.fort_names.specs.Leasts.{noted}
use Rattle.fort_names.specs.Twice.{second_place, IsFirstPlace}
use Rattle.fort_names.proofs.Seconds.{note_more, place_more}
use Rattle.fort_names.proofs.doubles.note_seconds.Goals as goal

-- src/doubles.rt
pub loop-one-preserved : goal.loop-one-preserved
loop-one-preserved c =
    let items = c.args.named.now in
    let i = c.loop-one.one-index in
    let one = c.one-item.result in
    let firsts = get bytes_eq c.loop-one.firsts in
    let within : i < length items = omega arith in
    let more : take (i + 1) items ≡ take i items ++ one ∷ [] = take_more items i one within ∙ ap (λ x. take i items ++ x ∷ []) (sym c.one-item.is) in
    let before : c.copied-before.result ≡ get bytes_eq c.loop-one.firsts one.name = cc (c.copied-before.ensures, c.get.ensures.value) in
    record {
      firsts =
          subst (λ l. IsFirstPlace l (get bytes_eq c.insert.new.self)) (sym more)
          (place_more (take i items) one firsts (get bytes_eq c.insert.new.self) c.loop-one.invariant.firsts
          (λ x. c.in_ok-insert.ensures.updates.0 x ∙ ap (λ v. cond (bytes_eq one.name x) (Some v) (firsts x)) (c.note_second-first.ensures.first ∙ ap (earlier_of one.at) before)));
      noted =
          note_more E31 (take i items) one firsts c.loop-one.invariant.firsts c.args.least.now c.loop-one.least c.note_second-first.new.least c.loop-one.invariant.noted
          (c.note_second-first.ensures.noted ∙ ap (λ o. noted (found E31 (second_place o one.at)) c.loop-one.least) before)
          ∙ ap (λ l. noted (found E31 (seconds l)) c.args.least.now) (sym more);
    }
