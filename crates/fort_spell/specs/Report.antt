-- The names in reports.
use Rattle.std.specs.Prelude.{ℕ, List, [], slice_get, unwrap_or}
use Rattle.std.specs.Option.{option_map}
use Rattle.outside.specs.Files.{Files}

-- the name of the file at an index
abbrev pub name_at : Files → ℕ → List ℕ
name_at files index = unwrap_or (option_map (λ file. file.0) (slice_get files index)) []
