use Rattle.std.proofs.Common.{◌≡◌, ◌+◌, take}
use Rattle.fort_lex.specs.Rows.{placed as placed_bytes}
use Rattle.fort_lex.proofs.bytes.placed.Given as goal

abbrev pub invariant-loop-byte : goal.invariant-loop-byte
invariant-loop-byte l = (l.column ≡ l.start + l.byte-index) × (l.chars ≡ placed_bytes l.file l.line (l.start + 1) (take l.byte-index l.bytes))
