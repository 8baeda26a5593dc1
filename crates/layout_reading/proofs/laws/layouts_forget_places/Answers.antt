use Rattle.std.proofs.Common.{ap}
use Rattle.fort_spell.specs.Rows.{text}
use Rattle.layout_reading.proofs.PlainRows.{same_file_rows}
use Rattle.layout_reading.proofs.laws.layouts_forget_places.Goals as goal

pub returns : goal.returns
returns c these those e = ap text (same_file_rows these those e)
