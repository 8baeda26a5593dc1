use Rattle.translated_programs.proofs.Translating.{is_made}
use Rattle.translated_programs.proofs.laws.sound_programs_are_translated.Goals as goal

-- src/laws.rt
pub returns-clause-interface : goal.returns-clause-interface
returns-clause-interface c mode file target sound none is = (is_made c.laws_of_units.ensures mode file target sound none is).interface

pub returns-clause-erased : goal.returns-clause-erased
returns-clause-erased c mode file target sound none is = (is_made c.laws_of_units.ensures mode file target sound none is).erased

pub returns-clause-spread : goal.returns-clause-spread
returns-clause-spread c mode file target sound none is = (is_made c.laws_of_units.ensures mode file target sound none is).spread

pub returns-clause-kept : goal.returns-clause-kept
returns-clause-kept c mode file target sound none is = (is_made c.laws_of_units.ensures mode file target sound none is).kept

pub returns-clause-orderly : goal.returns-clause-orderly
returns-clause-orderly c mode file target sound none is = (is_made c.laws_of_units.ensures mode file target sound none is).orderly
