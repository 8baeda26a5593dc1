use Rattle.std.proofs.Common.{◌≡◌, sym, ◌∙◌, subst, Some, true}
use Rattle.std.proofs.lemmas.Bool.{true≢false}
use Rattle.fort_grammar.specs.Choose.{same}
use Rattle.fort_grammar.specs.Engine.{Opened}
use Rattle.fort_grammar.specs.Token.{token_class}
use Rattle.fort_grammar.proofs.Theory.{same-eq, same-refl}
use Rattle.fort_grammar.proofs.Steps.{opened-token, moves, mismatch, beyond, stuck}
use Rattle.fort_grammar.proofs.engine.advance.Goals as goal

pub returns-in_ok-shift-in-Token : goal.returns-in_ok-shift-in-Token
returns-in_ok-shift-in-Token g c =
    let o = subst (λ q. Opened g.row.B.Denot g.B.Build.shifted g.B.Build.applied c.in_ok-class.field-0 (Some q) c.args.stack.now c.args.values.now c.expand.new.stack c.expand.new.values) c.class_of-wanted.ensures c.in_ok-class.ensures in
    let h = opened-token g.row.B.Denot g.B.Build.shifted g.B.Build.applied c.in_ok-class.field-0 c.in-Token.class (Some (token_class c.args.token.now)) c.args.stack.now c.expand.new.stack c.args.values.now c.expand.new.values c.in-Token.is o in
    moves g.row.B.Denot g.B.Build.shifted g.B.Build.applied c.args.token.now c.in-Token.class c.args.stack.now c.expand.new.stack c.args.values.now c.expand.new.values c.shift.new.self c.in_ok-shift-in-Token.ensures
    (sym c.class_of-wanted.ensures ∙ sym (same-eq c.in-Token.class c.class_of-wanted.result (sym c.is-fits.ensures ∙ c.if-fits.true))) h.0 h.1

pub returns-else-fits : goal.returns-else-fits
returns-else-fits g c =
    let o = subst (λ q. Opened g.row.B.Denot g.B.Build.shifted g.B.Build.applied c.in_ok-class.field-0 (Some q) c.args.stack.now c.args.values.now c.expand.new.stack c.expand.new.values) c.class_of-wanted.ensures c.in_ok-class.ensures in
    let h = opened-token g.row.B.Denot g.B.Build.shifted g.B.Build.applied c.in_ok-class.field-0 c.in-Token.class (Some (token_class c.args.token.now)) c.args.stack.now c.expand.new.stack c.args.values.now c.expand.new.values c.in-Token.is o in
    mismatch g.row.B.Denot g.B.Build.shifted g.B.Build.applied c.args.token.now c.in-Token.class c.args.stack.now c.expand.new.stack c.args.values.now c.expand.new.values
    (λ e. true≢false (sym (subst (λ q. same c.in-Token.class q ≡ true) (sym (c.class_of-wanted.ensures ∙ e)) (same-refl c.in-Token.class)) ∙ (sym c.is-fits.ensures ∙ c.if-fits.false))) h.1 h.2

pub returns-in-End : goal.returns-in-End
returns-in-End g c =
    let o = subst (λ q. Opened g.row.B.Denot g.B.Build.shifted g.B.Build.applied c.in_ok-class.field-0 (Some q) c.args.stack.now c.args.values.now c.expand.new.stack c.expand.new.values) c.class_of-wanted.ensures c.in_ok-class.ensures in
    beyond g.row.B.Denot g.B.Build.shifted g.B.Build.applied c.in_ok-class.field-0 c.args.token.now c.args.stack.now c.expand.new.stack c.args.values.now c.expand.new.values c.in-End.is o

pub returns-in-Stuck : goal.returns-in-Stuck
returns-in-Stuck g c =
    let o = subst (λ q. Opened g.row.B.Denot g.B.Build.shifted g.B.Build.applied c.in_ok-class.field-0 (Some q) c.args.stack.now c.args.values.now c.expand.new.stack c.expand.new.values) c.class_of-wanted.ensures c.in_ok-class.ensures in
    stuck g.row.B.Denot g.B.Build.shifted g.B.Build.applied c.in_ok-class.field-0 c.args.token.now c.args.stack.now c.expand.new.stack c.args.values.now c.expand.new.values c.in-Stuck.is o
