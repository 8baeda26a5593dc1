use Rattle.std.proofs.Common.{◌≡◌, ap, sym, ◌∙◌, None, Some}
use Rattle.std.specs.Prelude.{slice_get}
use Rattle.std.specs.Option.{option_copied}
use Rattle.fort_spell.specs.Stream.{rows_shown}
use Rattle.fort_spell.specs.Units.{item_rows, listed_module, listed_unit, units_of}
use Rattle.fort_spell.proofs.Streams.{put_is, put_nothing}
use Rattle.fort_spell.proofs.units.put_item.Goals as goal

pub returns-in-None : goal.returns-in-None
returns-in-None g c =
    let file = c.args.file.now in
    let e : slice_get file.modules c.in-Module.number ≡ None = ap (λ l. slice_get l c.in-Module.number) (sym c.items.ensures) ∙ sym c.module_at.ensures ∙ ap option_copied c.in-None.is in
    put_is _ (put_nothing rows_shown _ _ _) (ap (λ i. item_rows file i 0) c.in-Module.is ∙ ap (λ o. listed_module (units_of c.in-Module.number file.units) o 0) e)

pub returns-in-Some : goal.returns-in-Some
returns-in-Some g c =
    let file = c.args.file.now in
    let e : slice_get file.modules c.in-Module.number ≡ Some c.in-Some.host.now = ap (λ l. slice_get l c.in-Module.number) (sym c.items.ensures) ∙ sym c.module_at.ensures ∙ ap option_copied c.in-Some.is in
    put_is _ c.put_module.ensures (ap (λ i. item_rows file i 0) c.in-Module.is ∙ ap (λ o. listed_module (units_of c.in-Module.number file.units) o 0) e
    ∙ ap (λ us. listed_module (units_of c.in-Module.number us) (Some c.in-Some.host.now) 0) (sym c.items-in-Some.ensures))

pub returns-in-None-unit_at : goal.returns-in-None-unit_at
returns-in-None-unit_at g c =
    let file = c.args.file.now in
    let e : slice_get file.units c.in-Unit.number ≡ None = ap (λ l. slice_get l c.in-Unit.number) (sym c.items-in-Unit.ensures) ∙ sym c.unit_at.ensures ∙ ap option_copied c.in-None-unit_at.is in
    put_is _ (put_nothing rows_shown _ _ _) (ap (λ i. item_rows file i 0) c.in-Unit.is ∙ ap (λ o. listed_unit o 0) e)

pub returns-in-Some-unit_at : goal.returns-in-Some-unit_at
returns-in-Some-unit_at g c =
    let file = c.args.file.now in
    let e : slice_get file.units c.in-Unit.number ≡ Some c.in-Some-unit_at.unit.now = ap (λ l. slice_get l c.in-Unit.number) (sym c.items-in-Unit.ensures) ∙ sym c.unit_at.ensures ∙ ap option_copied c.in-Some-unit_at.is in
    put_is _ c.put_unit.ensures (ap (λ i. item_rows file i 0) c.in-Unit.is ∙ ap (λ o. listed_unit o 0) e)
