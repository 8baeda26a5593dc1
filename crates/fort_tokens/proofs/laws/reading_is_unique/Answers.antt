use Rattle.std.proofs.Common.{refl}
use Rattle.fort_tokens.proofs.Unique.{unique}
use Rattle.fort_tokens.proofs.laws.reading_is_unique.Goals as goal

pub returns : goal.returns
returns c line these those here there r q = unique r q refl
