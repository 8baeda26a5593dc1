use Rattle.std.proofs.Common.{◌≡◌, ◌+◌, ◌<◌, length, arith, refl, sym, ap, subst, ◌∙◌}
use Rattle.std.specs.Prelude.{slice_get}
use Rattle.std.proofs.lemmas.Option.{slice_get_read}
use Rattle.argument_faults.specs.ModuleNames.{rows_of}
use Rattle.argument_faults.proofs.NamedUpTo.{AreNamedUpTo, named_more, named_all}
use Rattle.argument_faults.proofs.reached.all_variables.Goals as goal

-- src/reached.rt
pub variables_of-requires-clause-there : goal.variables_of-requires-clause-there
variables_of-requires-clause-there c =
    let items = c.items-unit-items.result.now in
    let within : c.loop-number.number < length items = omega arith in
    ap (λ l. slice_get l c.loop-number.number) (sym c.items-unit-items.ensures) ∙ slice_get_read items (length items) c.loop-number.number c.unit-item.result refl within c.unit-item.is

-- src/reached.rt
pub loop-number-preserved : goal.loop-number-preserved
loop-number-preserved c =
    let items = c.items-unit-items.result.now in
    let n = c.loop-number.number in
    let within : n < length items = omega arith in
    subst (λ l. AreNamedUpTo c.args.file.now (n + 1) (rows_of l)) (sym c.in_ok-push.ensures.items)
    (named_more c.args.file.now n c.loop-number.rows.items c.in_ok-variables_of.field-0 c.unit-item.result
    (ap (λ l. slice_get l n) (sym c.items-unit-items.ensures) ∙ slice_get_read items (length items) n c.unit-item.result refl within c.unit-item.is) c.in_ok-variables_of.ensures c.loop-number.invariant)

-- src/reached.rt
pub returns : goal.returns
returns c =
    let all : c.loop-number.number ≡ length c.args.file.now.units = omega (arith, ap length c.items-unit-items.ensures) in
    named_all c.args.file.now c.loop-number.number (rows_of c.loop-number.rows.items) all c.loop-number.invariant
