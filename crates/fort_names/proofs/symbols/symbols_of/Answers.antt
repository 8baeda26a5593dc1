use Rattle.std.proofs.Common.{◌∙◌, refl}
use Rattle.fort_names.proofs.Seeing.{symbols_are}
use Rattle.fort_names.proofs.symbols.symbols_of.Goals as goal

-- src/symbols.rt
pub returns : goal.returns
returns c =
    symbols_are c.args.file.now c.items-modules.result.now c.items.result.now c.in_ok-shared.shared.value
    (record { shared = c.in_ok-shared.shared; units = c.in_ok-unit_list.unit_list; modules = c.in_ok-module_list.module_list })
    c.items-modules.ensures c.items.ensures (c.in_ok-shared.ensures.ok ∙ c.in_ok-of.ensures) refl c.in_ok-unit_list.ensures c.in_ok-module_list.ensures
