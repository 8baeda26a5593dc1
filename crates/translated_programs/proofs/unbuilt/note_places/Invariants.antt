use Rattle.std.proofs.Common.{◌≡◌, drop}
use Rattle.scalar_units.specs.Unbuilt.{noted}
use Rattle.translated_programs.proofs.unbuilt.note_places.Given as goal

abbrev pub invariant-loop-place : goal.invariant-loop-place
invariant-loop-place l = noted (drop l.place-index l.places) l.least ≡ noted l.fn.places l.fn.least
