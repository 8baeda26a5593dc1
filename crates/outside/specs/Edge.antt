-- What a shelf over the runtime's files is seen as.
use Rattle.std.specs.Prelude.{ℕ}

-- the counts of faults and of bytes that were read
pub record ReadCounts : Type 0 where
  pub faults : ℕ
  pub bytes_read : ℕ
