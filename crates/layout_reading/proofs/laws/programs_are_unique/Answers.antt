use Rattle.layout_reading.proofs.OneReading.{one_reading}
use Rattle.layout_reading.proofs.laws.programs_are_unique.Goals as goal

pub returns : goal.returns
returns c = one_reading c.reading_is_unique.ensures c.forms_nest_into_one_file.ensures
