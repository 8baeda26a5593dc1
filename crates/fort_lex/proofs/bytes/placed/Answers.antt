use Rattle.std.proofs.Common.{◌≡◌, ℕ, ◌+◌, ◌++◌, ◌∷◌, [], List, length, take, get_or, sym, ap, ◌∙◌, arith}
use Rattle.std.proofs.lemmas.List.{take_more}
use Rattle.std.proofs.lemmas.List.{length-take-le}
use Rattle.fort_tokens.specs.declared.character.Char.{Char}
use Rattle.fort_lex.specs.Rows.{placed, blanked, place}
use Rattle.fort_lex.proofs.Placing.{placed-more}
use Rattle.fort_lex.proofs.bytes.placed.Goals as goal

pub loop-byte-preserved : goal.loop-byte-preserved
loop-byte-preserved c =
    let i : ℕ = c.loop-byte.byte-index in
    let bytes = c.args.bytes.now in
    let column : c.loop-byte.column ≡ c.args.start + i = c.loop-byte.invariant.0 in
    let so_far = c.loop-byte.invariant.1 in
    let long : length (take i bytes) ≡ i = length-take-le i bytes (omega (arith, c.loop-byte-test.true)) in
    let at : c.args.start + 1 + length (take i bytes) ≡ c.loop-byte.column + 1 = omega (arith, column, long) in
    let more = placed-more c.args.file c.args.line (c.args.start + 1) (take i bytes) (get_or bytes i 0) in
    let longer = take_more bytes i 0 c.loop-byte-test.true in
    let with : List Char → ℕ → ℕ → List Char = λ chars b k. chars ++ record { byte = b; at = place c.args.file c.args.line k } ∷ [] in (
      omega (arith, column),
      c.in_ok-push.ensures.ok
          ∙ ap (λ b. with c.loop-byte.chars b (c.loop-byte.column + 1)) c.blanked.ensures
          ∙ ap (with c.loop-byte.chars (blanked (get_or bytes i 0))) (sym at)
          ∙ ap (λ x. with x (blanked (get_or bytes i 0)) (c.args.start + 1 + length (take i bytes))) so_far
          ∙ sym more ∙ ap (placed c.args.file c.args.line (c.args.start + 1)) (sym longer),
    )
