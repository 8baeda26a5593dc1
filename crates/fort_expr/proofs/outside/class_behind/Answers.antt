use Rattle.std.proofs.Common.{◌+◌, ◌∙◌, sym, ap, Some, option_map, arith}
use Rattle.std.proofs.lemmas.Option.{slice_get-get_or, slice_get_past}
use Rattle.fort_grammar.specs.Token.{token_class}
use Rattle.fort_expr.proofs.outside.class_behind.Goals as goal

pub returns-then-next-tokens : goal.returns-then-next-tokens
returns-then-next-tokens c = ap Some (c.class_of.ensures ∙ ap token_class c.index-tokens-next.is) ∙ ap (option_map token_class) (sym (slice_get-get_or c.args.tokens.now (c.args.i + 1) _ c.if-next-tokens.true))

pub returns-else-next-tokens : goal.returns-else-next-tokens
returns-else-next-tokens c = ap (option_map token_class) (sym (slice_get_past c.args.tokens.now (c.args.i + 1) (omega (arith, c.if-next-tokens.false))))
