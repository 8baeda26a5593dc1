use Rattle.std.proofs.Common.{◌≡◌, [], length, map, ap, sym, ◌∙◌}
use Rattle.std.proofs.lemmas.List.{append-nil, map-id}
use Rattle.std.proofs.lemmas.Iterator.Consumers.{YieldsList-end}
use Rattle.std.proofs.lemmas.Iterator.Adapters.{YieldsList-from_vec}
use Rattle.fort_lex.specs.Lines.{written, in_order}
use Rattle.fort_lex.proofs.merging.in_order.Goals as goal

pub returns : goal.returns
returns c =
    let items = c.into_iter-line-iterator.ensures.into_iter_gives.0 ∙ c.into_vec-line-items.ensures in
    let seen = YieldsList-end (YieldsList-from_vec {s = c.into_iter-line-iterator.result} c.args.statements items (c.into_iter-line-iterator.result.rest.ok.0 ∙ ap length items))
    c.loop-line.yielded c.loop-line.line-iterator c.loop-line.yielded_by c.next.result c.next.new.self c.in-None.is c.next.ensures.steps in
    let all : c.loop-line.yielded ≡ c.args.statements = sym (map-id c.loop-line.yielded) ∙ seen.0 in
    c.in_ok-move_all.ensures
    ∙ sym (c.loop-line.invariant [])
    ∙ ap (λ x. in_order x (map written c.args.directives.items)) (append-nil (map written c.loop-line.yielded) ∙ ap (map written) all)
