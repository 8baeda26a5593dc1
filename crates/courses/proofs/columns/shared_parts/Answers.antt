use Rattle.courses.proofs.Lockstep_laws.{lockstep_shared}
use Rattle.courses.proofs.columns.shared_parts.Goals as goal

pub returns : goal.returns
returns c = λ k vary cols pre post w c r m h t. lockstep_shared vary cols pre post w c r m h t
