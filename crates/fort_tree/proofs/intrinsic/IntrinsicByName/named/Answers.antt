use Rattle.std.proofs.Common.{◌≡◌, codes, arith, sym, refl, ◌∙◌}
use Rattle.std.proofs.lemmas.Slice.Eq.{text_from_reads}
use Rattle.fort_tree.proofs.intrinsic.IntrinsicByName.named.Goals as goal

pub returns-in-modulo : goal.returns-in-modulo
returns-in-modulo c =
    let text : c.text.result.now ≡ codes "modulo" =
    text_from_reads c.text.result.now (codes "modulo") (omega arith)
    (omega arith, (omega arith, (omega arith, (omega arith, (omega arith, (omega arith, tt)))))) in
    rw (sym c.text.ensures.text ∙ text) refl
