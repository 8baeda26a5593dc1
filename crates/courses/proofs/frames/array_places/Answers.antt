use Rattle.courses.proofs.Bounds.{place_within, within_inserted}
use Rattle.courses.proofs.frames.array_places.Goals as goal

pub returns-clause-within : goal.returns-clause-within
returns-clause-within c = place_within

pub returns-clause-wide : goal.returns-clause-wide
returns-clause-wide c = within_inserted
