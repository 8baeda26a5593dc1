use Rattle.std.proofs.Common.{sym, ◌∙◌}
use Rattle.fort_tokens.proofs.TextLemmas.{too-large}
use Rattle.fort_tokens.proofs.words.is_small.Goals as goal

pub returns-then-value-digit : goal.returns-then-value-digit
returns-then-value-digit c = too-large c.loop-byte.value c.loop-byte.byte-index c.from-digit.result c.args.text.now c.loop-byte-test.true
    (sym c.is_ascii_digit.ensures.value ∙ c.if-not-is_ascii_digit.false) c.from-digit.ensures c.if-value-digit.true c.loop-byte.invariant.same
