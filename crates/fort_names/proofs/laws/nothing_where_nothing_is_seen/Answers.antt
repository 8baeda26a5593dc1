use Rattle.fort_names.proofs.Seeing.{unit_seen, module_seen}
use Rattle.fort_names.proofs.laws.nothing_where_nothing_is_seen.Goals as goal

-- src/laws.rt
pub returns : goal.returns
returns c = record { units = λ f u x. unit_seen f u x; modules = λ f n m x at. module_seen f n m x at }
