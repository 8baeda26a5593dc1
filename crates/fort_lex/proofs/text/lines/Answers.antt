use Rattle.std.proofs.Common.{◌≡◌, [], map, None, Some, sym, ap, ◌∙◌, subst}
use Rattle.fort_tokens.proofs.Feeding.{reads}
use Rattle.fort_lex.specs.Lines.{written, HasLines, IsFirstTextFault}
use Rattle.fort_lex.specs.Machine.{gone_over, lines_of, first_fault}
use Rattle.fort_lex.specs.Going.{FirstOf}
use Rattle.fort_lex.proofs.Passing.{goes}
use Rattle.fort_lex.proofs.text.lines.Goals as goal

pub returns-in-Some-clause-fault : goal.returns-in-Some-clause-fault
returns-in-Some-clause-fault c fault e =
    let g = goes reads c.args.file c.args.mode c.args.text.now in
    let is : first_fault (gone_over c.args.file c.args.mode c.args.text.now) ≡ Some c.in-Some.fault =
    ap first_fault (sym c.in_ok-pass.ensures) ∙ sym c.first_fault.ensures ∙ c.in-Some.is in
    let same : c.in-Some.fault ≡ fault = cc in
    subst (IsFirstTextFault c.args.file c.args.mode c.args.text.now) same
    (record {
      lines = lines_of (gone_over c.args.file c.args.mode c.args.text.now);
      faults = g.faults;
      are = g.are;
      is_first = subst (λ o. FirstOf o g.faults) is g.is_first;
    })

pub returns-clause-ok : goal.returns-clause-ok
returns-clause-ok c =
    let g = goes reads c.args.file c.args.mode c.args.text.now in
    let is : first_fault (gone_over c.args.file c.args.mode c.args.text.now) ≡ None =
    ap first_fault (sym c.in_ok-pass.ensures) ∙ sym c.first_fault.ensures ∙ c.in_default.is in
    let none : g.faults ≡ [] = subst (λ o. FirstOf o g.faults) is g.is_first in
    let are : lines_of (gone_over c.args.file c.args.mode c.args.text.now) ≡ map written c.in_ok-lines.lines =
    ap lines_of (sym c.in_ok-pass.ensures) ∙ sym c.in_ok-lines.ensures in (
      c.in_ok-lines.lines,
      c.in_ok-append.ensures.ok,
      subst (λ xs. HasLines c.args.file c.args.mode c.args.text.now xs []) are
          (subst (HasLines c.args.file c.args.mode c.args.text.now (lines_of (gone_over c.args.file c.args.mode c.args.text.now))) none g.are),
    )
