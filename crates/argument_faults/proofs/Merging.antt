-- To note the least of some faults is to note them all.
use Rattle.std.proofs.Common.{◌≡◌, Bool, true, false, List, [], ◌∷◌, Option, None, Some, refl, sym, ap, ◌∙◌, arith, if◌then◌else◌}
use Rattle.std.specs.Option.{option_map, option_to_list}
use Rattle.std.proofs.lemmas.Bool.{false≢true}
use Rattle.fort_tree.specs.declared.fault.Code.TheVariants.{E3A}
use Rattle.fort_tree.specs.declared.place.Place.{Place}
use Rattle.sound_programs.specs.Faults.{Found, found, is_before}
use Rattle.fort_names.specs.declared.least.At.{At}
use Rattle.fort_names.specs.FoundAt.{found_of}
use Rattle.fort_names.specs.Leasts.{note, noted}
use Rattle.fort_names.proofs.FirstOf.{before_chain, before_between}
use Rattle.argument_faults.specs.ModuleWrites.{IsFirstWrite}

-- the least of three, from either side
three : (before : Found → Found → Bool) → ((a b c : Found) → before a b ≡ true → before b c ≡ true → before a c ≡ true) → ((a b c : Found) → before a c ≡ true → before b c ≡ false → before a b ≡ true)
    → (a m y : Found) (p q r : Bool) → before y m ≡ p → before m a ≡ q → before y a ≡ r
    → (if before (if before y m then y else m) a then (if before y m then y else m) else a) ≡ (if before y (if before m a then m else a) then y else (if before m a then m else a))
three before chain between a m y true true r e h k = grind (arith, e, h, chain y m a)
three before chain between a m y true false r e h k = grind (arith, e, h)
three before chain between a m y false true r e h k = grind (arith, e, h)
three before chain between a m y false false true e h k = absurd (false≢true (sym e ∙ between y m a k h))
three before chain between a m y false false false e h k = grind (arith, e, h, k)

note_lesser : (r : Option Found) (m y : Found) → note r (if is_before y m then y else m) ≡ note (note r m) y
note_lesser None m y = refl
note_lesser (Some a) m y = ap Some (three is_before before_chain before_between a m y (is_before y m) (is_before m a) (is_before y a) refl refl refl)

merge_from : (m : Found) (xs : List Found) (r : Option Found) → noted (option_to_list (noted xs (Some m))) r ≡ noted xs (note r m)
merge_from m [] r = refl
merge_from m (y ∷ ys) r = merge_from (if is_before y m then y else m) ys r ∙ ap (noted ys) (note_lesser r m y)

merge : (xs : List Found) (r : Option Found) → noted (option_to_list (noted xs None)) r ≡ noted xs r
merge [] r = refl
merge (x ∷ xs) r = merge_from x xs r

pub first_write : (places : List Place) (least : Option Found) (first : Option At) → option_map found_of first ≡ least → least ≡ noted (found E3A places) None → IsFirstWrite places first
first_write places least first e h = record { same = λ r. ap (λ o. noted (option_to_list o) r) (e ∙ h) ∙ merge (found E3A places) r }
