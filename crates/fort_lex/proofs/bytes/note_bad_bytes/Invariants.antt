use Rattle.std.proofs.Common.{◌≡◌, ◌+◌, drop}
use Rattle.fort_lex.specs.Rows.{bad_bytes}
use Rattle.fort_lex.specs.Machine.{noted}
use Rattle.fort_lex.proofs.bytes.note_bad_bytes.Given as goal

abbrev pub invariant-loop-byte : goal.invariant-loop-byte
invariant-loop-byte l =
    (l.column ≡ l.byte-index)
    × (noted l.first (bad_bytes l.file l.line (l.byte-index + 1) (drop l.byte-index l.bytes)) ≡ noted l.fn.first (bad_bytes l.file l.line 1 l.bytes))
