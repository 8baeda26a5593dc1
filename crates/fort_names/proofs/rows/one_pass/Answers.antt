use Rattle.std.proofs.Common.{◌+◌, ◌<◌, arith, subst, sym, ap, ◌∙◌, length, take, drop, get_or, refl, slice_get, slice_set}
use Rattle.std.specs.Option.{option_and_then}
use Rattle.fort_names.specs.Tables.{module_origin}
use Rattle.fort_names.proofs.Passes.{Passing, further, at_end}
use Rattle.fort_names.proofs.rows.one_pass.Goals as goal

-- src/rows.rt
pub index_mut-requires : goal.index_mut-requires
index_mut-requires c =
    let i = c.loop-number.number-index in
    let order = c.args.order.now in
    let inside : get_or order i 0 < length c.loop-number.row.items =
    (further c.args.declared.now c.args.modules.now c.args.name.now order i (get_or order i 0) c.loop-number.row.items (omega arith) refl c.loop-number.invariant).0 in
    omega (arith, inside)

pub loop-number-preserved : goal.loop-number-preserved
loop-number-preserved c =
    let i = c.loop-number.number-index in
    let order = c.args.order.now in
    let d = c.args.declared.now in
    let ms = c.args.modules.now in
    let x = c.args.name.now in
    let p = get_or order i 0 in
    subst (λ o. Passing d ms x (take (i + 1) order) (drop (i + 1) order) (slice_set c.loop-number.row.items p o))
    (sym (c.origin_at-origin.ensures ∙ ap (λ row. option_and_then (module_origin d row x p) (slice_get ms p)) c.as_slice.ensures.value))
    (further d ms x order i p c.loop-number.row.items (omega arith) refl c.loop-number.invariant).1

pub returns : goal.returns
returns c =
    c.from_vec.ensures
    ∙ at_end c.args.declared.now c.args.modules.now c.args.name.now c.args.order.now c.loop-number.number-index c.loop-number.row.items (omega arith) c.requires.order c.requires.whole c.loop-number.invariant
