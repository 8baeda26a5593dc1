use Rattle.courses.proofs.Calls.{call_does}
use Rattle.courses.proofs.readings.calls_by_copy.Goals as goal

pub returns : goal.returns
returns c = λ k l f vs xs es g o s j. call_does f vs xs es g o s j
