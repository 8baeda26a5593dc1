-- Small courses under orders and schedules, by computation.
use Rattle.std.proofs.Common.{◌≡◌, pos, refl, [], ◌∷◌}
use Rattle.courses.specs.Element.{Whole, same_element, put, merged}
use Rattle.courses.specs.Interaction.{Reads, Writes, store_of}
use Rattle.courses.specs.Interleaving.{goes_on, ends_up}
use Rattle.courses.specs.Course.{line, loop_runs}
use Rattle.courses.specs.Weaving.{rising, woven_line, store_woven}
use Rattle.courses.specs.Plans.{Each, orders_of, from_one}
use Rattle.courses.specs.Samples.{sum_element, dummy_element, carried, carried_inside, from_zero}

pub in_order : store_of (line (carried sum_element)) rising from_zero 0 sum_element ≡ Whole (pos 2)
unfolding from_zero same_element put sum_element
in_order = refl

pub backwards : store_of (line (carried sum_element)) (orders_of (Each (2 ∷ 1 ∷ []))) from_zero 0 sum_element ≡ Whole (pos 2)
unfolding from_zero same_element put sum_element
backwards = refl

pub woven : store_woven (carried sum_element) (from_one (1 ∷ 2 ∷ 1 ∷ 2 ∷ [])) from_zero sum_element ≡ Whole (pos 1)
unfolding from_zero same_element put sum_element goes_on ends_up merged
woven = refl

pub line_woven : store_of (woven_line (carried sum_element) (from_one (1 ∷ 2 ∷ 1 ∷ 2 ∷ []))) rising from_zero 0 sum_element ≡ Whole (pos 1)
unfolding from_zero same_element put sum_element
line_woven = refl

pub one_by_one : store_woven (carried sum_element) (from_one (1 ∷ 1 ∷ 8 ∷ 2 ∷ 1 ∷ [])) from_zero sum_element ≡ Whole (pos 2)
unfolding from_zero same_element put sum_element goes_on ends_up merged
one_by_one = refl

pub touched : loop_runs (carried sum_element) rising from_zero 0 ≡ ((Reads sum_element ∷ Writes sum_element ∷ []) ∷ (Reads sum_element ∷ Writes sum_element ∷ []) ∷ []) ∷ []
unfolding from_zero same_element put sum_element
touched = refl

pub in_order_inside : store_of (line carried_inside) rising from_zero 0 sum_element ≡ Whole (pos 2)
unfolding from_zero same_element put sum_element dummy_element
in_order_inside = refl

pub woven_inside : store_woven carried_inside (from_one (1 ∷ 2 ∷ 1 ∷ 2 ∷ [])) from_zero sum_element ≡ Whole (pos 1)
unfolding from_zero same_element put sum_element dummy_element goes_on ends_up merged
woven_inside = refl

pub line_woven_inside : store_of (woven_line carried_inside (from_one (1 ∷ 2 ∷ 1 ∷ 2 ∷ []))) rising from_zero 0 sum_element ≡ Whole (pos 1)
unfolding from_zero same_element put sum_element dummy_element
line_woven_inside = refl

pub touched_inside : loop_runs carried_inside rising from_zero 0 ≡ ((Reads dummy_element ∷ Writes dummy_element ∷ []) ∷ (Reads dummy_element ∷ Writes dummy_element ∷ []) ∷ []) ∷ []
unfolding from_zero same_element put sum_element dummy_element merged
touched_inside = refl
