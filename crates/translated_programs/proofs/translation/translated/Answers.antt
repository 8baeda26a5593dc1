use Rattle.std.proofs.Common.{sym, subst}
use Rattle.sound_programs.specs.Laws.{Each}
use Rattle.translated_programs.specs.Translated.{HasItsDimension}
use Rattle.translated_programs.proofs.BuiltUnits.{dimensions}
use Rattle.translated_programs.proofs.translation.translated.Goals as goal

-- src/translation.rt
pub translated_units-requires : goal.translated_units-requires
translated_units-requires c = subst (λ us. Each us HasItsDimension) (sym c.items.ensures) (dimensions c.built_units_are_column_scalars.ensures c.args.file.now c.requires)
