use Rattle.translated_programs.proofs.Translating.{are_translatable}
use Rattle.translated_programs.proofs.laws.units_are_translated.Goals as goal

-- src/laws.rt
pub returns : goal.returns
returns c mode file sound none = are_translatable c.laws_of_units.ensures mode file sound none
