use Rattle.std.proofs.Common.{◌+◌, ◌∙◌, ap}
use Rattle.fort_tree.specs.declared.fault.Code.TheVariants.{E10, E20, E70}
use Rattle.fort_expr.specs.declared.parsing.Outcome.TheVariants.{Syntax, Outside, PastLimit}
use Rattle.fort_expr.specs.Faults.{place_at}
use Rattle.fort_expr.proofs.Answering.{fault-at, from-part}
use Rattle.fort_expr.proofs.parsing.expression.Goals as goal

pub returns-in-Syntax : goal.returns-in-Syntax
returns-in-Syntax c = (
  Syntax c.in-Syntax.count,
  fault-at c.args.line.now.tokens (c.args.at + c.in-Syntax.count) E10 0 c.new.result c.place_at.result c.new.ensures (c.place_at.ensures ∙ ap (λ l. place_at l (c.args.at + c.in-Syntax.count)) c.items-tokens.ensures),
  from-part (Syntax c.in-Syntax.count) c.in_ok-expr.field-0 c.args.line.now.mode c.args.line.now.tokens c.items-tokens.result.now c.args.at c.in-Syntax.is c.items-tokens.ensures c.in_ok-expr.ensures,
)

pub returns-in-Outside : goal.returns-in-Outside
returns-in-Outside c = (
  Outside c.in-Outside.count c.in-Outside.item,
  fault-at c.args.line.now.tokens (c.args.at + c.in-Outside.count) E20 c.in-Outside.item c.outside_profile.result c.place_at-in-Outside.result c.outside_profile.ensures (c.place_at-in-Outside.ensures ∙ ap (λ l. place_at l (c.args.at + c.in-Outside.count)) c.items-tokens.ensures),
  from-part (Outside c.in-Outside.count c.in-Outside.item) c.in_ok-expr.field-0 c.args.line.now.mode c.args.line.now.tokens c.items-tokens.result.now c.args.at c.in-Outside.is c.items-tokens.ensures c.in_ok-expr.ensures,
)

pub returns-in-PastLimit : goal.returns-in-PastLimit
returns-in-PastLimit c = (
  PastLimit c.in-PastLimit.count,
  fault-at c.args.line.now.tokens (c.args.at + c.in-PastLimit.count) E70 0 c.new-in-PastLimit.result c.place_at-in-PastLimit.result c.new-in-PastLimit.ensures (c.place_at-in-PastLimit.ensures ∙ ap (λ l. place_at l (c.args.at + c.in-PastLimit.count)) c.items-tokens.ensures),
  from-part (PastLimit c.in-PastLimit.count) c.in_ok-expr.field-0 c.args.line.now.mode c.args.line.now.tokens c.items-tokens.result.now c.args.at c.in-PastLimit.is c.items-tokens.ensures c.in_ok-expr.ensures,
)
