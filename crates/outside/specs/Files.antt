-- What a shelf tells of its files, and what a load does.
use Rattle.std.specs.Prelude.{◌≡◌, ℕ, ◌<◌, ◌≤◌, ◌+◌, ◌-◌, ◌^◌, min, List, length, Some, None, find, IfSome, IsSomeAnd}
use Rattle.std.specs.Str.{bytes_eq}
use Rattle.std.specs.Io.{StartsWith, appended_bytes}
use Rattle.std.specs.Option.{option_map}
use Rattle.std.specs.declared.option.Option.{Option}
use Rattle.outside.specs.Counts.{RoseBy}

-- names, each with its bytes
abbrev pub Files : Type 0
Files = List (List ℕ × List ℕ)

-- the bytes of the first file of that name
abbrev pub file_at : Files → List ℕ → Option (List ℕ)
file_at files name = option_map (λ file. file.1) (find (λ file. bytes_eq file.0 name) files)

-- The shelf tells its files, and has none of that name.
abbrev pub Lacks : Option Files → List ℕ → Type 0
Lacks None name = ⊥
Lacks (Some files) name = file_at files name ≡ None

-- The shelf tells its files, and the one of that name is longer than the room.
abbrev pub IsLonger : Option Files → List ℕ → ℕ → Type 0
IsLonger None name room = ⊥
IsLonger (Some files) name room = IsSomeAnd (file_at files name) (λ text. room < length text)

-- A load may refuse a file as too long: a told file is longer than the room, and of an untold one more bytes were read.
abbrev pub MayBeTooLong : Option Files → List ℕ → ℕ → ℕ → ℕ → Type 0
MayBeTooLong None name room before now = RoseBy (room + 1) before now
MayBeTooLong (Some files) name room before now = IsLonger (Some files) name room

-- A load appended a whole file, of at most `room` bytes, and counted its bytes. Where files are told, it is the told one.
pub record Loaded (files : Option Files) (name : List ℕ) (room : ℕ) (before now : ℕ) (old new : List ℕ) : Type 0 where
  pub grown : StartsWith new old
  pub fits : length (appended_bytes old new) ≤ room
  pub told : IfSome files (λ fs. file_at fs name ≡ Some (appended_bytes old new))
  pub counted : min now (2 ^ 64 - 1) ≡ min (before + length (appended_bytes old new)) (2 ^ 64 - 1)
