-- What several lines give under one name: each gives it from a module, which has a number, and names it at a place.
use Rattle.std.specs.Prelude.{ℕ, List, [], ◌∷◌, Option, Some, None, Bool, false, not, nat_eq, if◌then◌else◌}
use Rattle.fort_tree.specs.declared.place.Place.{Place}
use Rattle.sound_programs.specs.Places.{is_earlier}
use Rattle.fort_names.specs.Leasts.{places_at}

-- another module than that of the number
abbrev pub is_other : ℕ → Option ℕ → Bool
is_other m None = false
is_other m (Some n) = not (nat_eq m n)

-- the first place so far where the name is given, and the module, after one more
abbrev pub earlier_use : Option (Place × ℕ) → Option ℕ → Place → Option (Place × ℕ)
earlier_use first None place = first
earlier_use None (Some m) place = Some (place, m)
earlier_use (Some f) (Some m) place = Some (if is_earlier place f.0 then (place, m) else f)

-- after these
abbrev pub first_use : {A : Type 0} → (A → Option ℕ) → (A → Place) → Option (Place × ℕ) → List A → Option (Place × ℕ)
first_use from at first [] = first
first_use from at first (a ∷ l) = first_use from at (earlier_use first (from a) (at a)) l

-- where the name is given from another module than at the first place
abbrev pub other_uses : {A : Type 0} → (A → Option ℕ) → (A → Place) → Option (Place × ℕ) → List A → List Place
other_uses from at None l = []
other_uses from at (Some f) l = places_at (λ a. is_other f.1 (from a)) at l
