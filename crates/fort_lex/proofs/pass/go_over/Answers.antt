use Rattle.std.proofs.Common.{◌≡◌, ◌<◌, ℕ, List, ◌+◌, ◌-◌, take, drop, length, ap, sym, ◌∙◌, arith}
use Rattle.fort_lex.specs.Rows.{lines_from, without_return}
use Rattle.fort_lex.specs.Machine.{PassState, lines_taken, line_taken, text_ended}
use Rattle.fort_lex.specs.Shown.{shown_pass}
use Rattle.fort_lex.proofs.Lining.{line-end, line-more, text-end}
use Rattle.fort_lex.proofs.pass.go_over.Goals as goal
use Rattle.fort_lex.proofs.pass.go_over.Goals.{then-byte-eq10+in_ok-take_line, else-byte-eq10}

pub loop-i-preserved : goal.loop-i-preserved
loop-i-preserved c =
    let f : ℕ = c.args.file in
    let text : List ℕ = c.args.text.now in
    let i : ℕ = c.loop-i.i in
    let inside : i < length text = c.loop-i-test.true in
    let goes = c.loop-i.invariant in
    elim c.if-byte-eq10.branch [
      | then-byte-eq10+in_ok-take_line w ↦
          let line : List ℕ = take (i - c.loop-i.start) (drop c.loop-i.start text) in
          let one : lines_taken f c.args.mode c.loop-i.number (shown_pass c.loop-i.pass) (lines_from line (drop i text))
          ≡ lines_taken f c.args.mode (c.loop-i.number + 1) (line_taken f c.args.mode c.loop-i.number (shown_pass c.loop-i.pass) (without_return line)) (lines_from (take (i + 1 - (i + 1)) (drop (i + 1) text)) (drop (i + 1) text)) =
          ap (lines_taken f c.args.mode c.loop-i.number (shown_pass c.loop-i.pass)) (line-end c.loop-i.start i text inside w.if-byte-eq10.true) in
          let pass : shown_pass c.if-byte-eq10.pass ≡ line_taken f c.args.mode c.loop-i.number (shown_pass c.loop-i.pass) (without_return line) =
          ap shown_pass w.pass-is ∙ w.in_ok-take_line.ensures ∙ ap (line_taken f c.args.mode c.loop-i.number (shown_pass c.loop-i.pass)) w.without_return.ensures.value in
          let after : ℕ → PassState → ℕ → PassState = λ n p s. lines_taken f c.args.mode n p (lines_from (take (i + 1 - s) (drop s text)) (drop (i + 1) text)) in (
            omega (arith, w.start-is),
            omega (arith, w.number-is, goes.1),
            ap (λ p. after c.if-byte-eq10.number p c.if-byte-eq10.start) pass
                ∙ ap (λ n. after n (line_taken f c.args.mode c.loop-i.number (shown_pass c.loop-i.pass) (without_return line)) c.if-byte-eq10.start) w.number-is
                ∙ ap (after (c.loop-i.number + 1) (line_taken f c.args.mode c.loop-i.number (shown_pass c.loop-i.pass) (without_return line))) w.start-is
                ∙ sym one ∙ goes.2,
          )
      | else-byte-eq10 w ↦
          let after : ℕ → PassState → ℕ → PassState = λ n p s. lines_taken f c.args.mode n p (lines_from (take (i + 1 - s) (drop s text)) (drop (i + 1) text)) in (
            omega (arith, w.start-is, goes.0),
            omega (arith, w.number-is, goes.1),
            ap (λ p. after c.if-byte-eq10.number p c.if-byte-eq10.start) (ap shown_pass w.pass-is)
                ∙ ap (λ n. after n (shown_pass c.loop-i.pass) c.if-byte-eq10.start) w.number-is
                ∙ ap (after c.loop-i.number (shown_pass c.loop-i.pass)) w.start-is
                ∙ ap (lines_taken f c.args.mode c.loop-i.number (shown_pass c.loop-i.pass)) (sym (line-more c.loop-i.start i text goes.0 inside w.if-byte-eq10.false))
                ∙ goes.2,
          )
    ]

pub returns : goal.returns
returns c =
    c.in_ok-end.ensures
    ∙ ap (text_ended c.args.mode)
    (c.in_ok-take_line-2.ensures
    ∙ sym (ap (lines_taken c.args.file c.args.mode c.loop-i.number (shown_pass c.loop-i.pass)) (text-end c.loop-i.start c.loop-i.i c.args.text.now c.loop-i-test.false))
    ∙ c.loop-i.invariant.2)
