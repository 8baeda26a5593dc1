use Rattle.std.proofs.Common.{◌≡◌, ◌≤◌, ◌+◌, take}
use Rattle.claw_words.specs.Command.{texts_of}
use Rattle.claw_top.specs.Cause.{WereRead}
use Rattle.claw_top.specs.Limits.{most_bytes, total_length}
use Rattle.claw_top.specs.Outcome.{bytes_of}
use Rattle.claw_top.proofs.loading.load_all.Given as goal

abbrev pub invariant-loop-name : goal.invariant-loop-name
invariant-loop-name g l = record {
  room : l.room + total_length (bytes_of l.sources.items) ≡ most_bytes;
  same_files : g.F.Shelf.files l.shelf ≡ g.F.Shelf.files l.initial.shelf;
  faults_later : g.F.Shelf.faults l.initial.shelf ≤ g.F.Shelf.faults l.shelf;
  read_later : g.F.Shelf.bytes_read l.initial.shelf ≤ g.F.Shelf.bytes_read l.shelf;
  read : WereRead (g.F.Shelf.files l.initial.shelf) (g.F.Shelf.bytes_read l.initial.shelf) (g.F.Shelf.bytes_read l.shelf) (texts_of (take l.name-index l.names)) (bytes_of l.sources.items);
}
