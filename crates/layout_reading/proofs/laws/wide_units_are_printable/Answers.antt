use Rattle.layout_reading.proofs.SourcesWritten.{sources_writable}
use Rattle.layout_reading.proofs.WidePrinted.{wide_printable}
use Rattle.layout_reading.proofs.laws.wide_units_are_printable.Goals as goal

pub returns-clause-printable : goal.returns-clause-printable
returns-clause-printable c = wide_printable

pub returns-clause-spelled : goal.returns-clause-spelled
returns-clause-spelled c = sources_writable
