-- Array operands, gathered one after the other: the rank of the first, and the first that differs from it.
use Rattle.std.specs.Prelude.{ℕ, List, [], ◌∷◌, Option, None, Some, nat_eq, if◌then◌else◌}
use Rattle.fort_tree.specs.declared.place.Place.{Place}
use Rattle.sound_programs.specs.Ranking.{Operand}
use Rattle.fort_kinds.specs.declared.ranking.Ranks.{Ranks}

abbrev pub or_place : Option Place → Option Place → Option Place
or_place None other = other
or_place (Some at) other = Some at

abbrev pub other_rank : ℕ → Operand → Option Place
other_rank n o = if nat_eq o.rank n then None else Some o.at

abbrev pub with_operand : Option ℕ → Option Place → Operand → Ranks
with_operand None other o = record { first = Some o.rank; other = other }
with_operand (Some n) other o = record { first = Some n; other = or_place other (other_rank n o) }

abbrev pub gathered : Ranks → List Operand → Ranks
gathered r [] = r
gathered r (o ∷ os) = gathered (with_operand r.first r.other o) os

abbrev pub none_yet : Ranks
none_yet = record { first = None; other = None }

abbrev pub or_zero : Option ℕ → ℕ
or_zero None = 0
or_zero (Some n) = n
