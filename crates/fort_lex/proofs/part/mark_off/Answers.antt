use Rattle.std.proofs.Common.{◌≡◌, drop, sym, ap, ◌∙◌, arith, eq-eqb}
use Rattle.fort_lex.specs.Joined.{all_blank}
use Rattle.fort_lex.proofs.Marking.{marked-at, unmarked-at, only-blanks, test-false}
use Rattle.fort_lex.proofs.part.mark_off.Goals as goal
use Rattle.fort_lex.proofs.part.mark_off.Goals.{else-end-gt0-via-then-end-gt0+else-line-end-eq38, else-end-gt0-via-else-end-gt0}

pub returns-then-line-end-eq38-clause-value : goal.returns-then-line-end-eq38-clause-value
returns-then-line-end-eq38-clause-value c =
    sym (marked-at c.args.line.now c.end_of_text-end.result c.if-end-gt0.true c.end_of_text-end.ensures.within (eq-eqb _ 38 c.if-line-end-eq38.true) c.end_of_text-end.ensures.behind)

pub returns-else-end-gt0-clause-value : goal.returns-else-end-gt0-clause-value
returns-else-end-gt0-clause-value c =
    elim c.else-end-gt0.branch [
      | else-end-gt0-via-then-end-gt0+else-line-end-eq38 w ↦
          sym (unmarked-at c.args.line.now c.end_of_text-end.result w.if-end-gt0.true c.end_of_text-end.ensures.within (test-false _ 38 w.if-line-end-eq38.false)
          (c.end_of_text-end.ensures.last w.if-end-gt0.true) c.end_of_text-end.ensures.behind)
      | else-end-gt0-via-else-end-gt0 w ↦
          let none : c.end_of_text-end.result ≡ 0 = omega arith in
          sym (only-blanks c.args.line.now (ap (λ n. all_blank (drop n c.args.line.now)) (sym none) ∙ c.end_of_text-end.ensures.behind))
    ]
