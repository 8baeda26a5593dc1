-- What a shelf and a sink in memory are seen as.
use Rattle.std.specs.Prelude.{ℕ, List}
use Rattle.outside.specs.Files.{Files}

-- the files, the numbers of the loads that fail, and the counts of loads, faults and bytes
pub record ShelfState : Type 0 where
  pub files : Files
  pub failing : List ℕ
  pub calls : ℕ
  pub faults : ℕ
  pub bytes_read : ℕ

-- the bytes that were taken, how many there is room for, how many a put may take, the numbers of the puts that fail, and the counts of puts and faults
pub record SinkState : Type 0 where
  pub taken : List ℕ
  pub room : ℕ
  pub most : ℕ
  pub failing : List ℕ
  pub calls : ℕ
  pub faults : ℕ
