-- The outcome of one run of a unit.
use Rattle.std.specs.Prelude.{◌≡◌, ℕ, ℤ, pos, negsuc, ◌≤◌, ◌≤ℤ◌, List, [], ◌∷◌, Option, Some, None, Bool, if◌then◌else◌, ⊤}
use Rattle.std.specs.Option.{option_map}
use Rattle.courses.specs.Element.{Value, Element, Store}
use Rattle.courses.specs.Interaction.{Note, Own_reads, Own_writes, Turn, Makes, Event, Reads, Writes, Announces, Interaction, answer_of, store_of, log_of}
use Rattle.courses.specs.Logs.{touches, turns}
use Rattle.courses.specs.Course.{Signal, Way, Course, line, loop_runs}
use Rattle.courses.specs.Weaving.{AllApart, rising, woven_line}
use Rattle.courses.specs.Ranges.{extent}
use Rattle.courses.specs.Plans.{Plan, orders_of}
use Rattle.claw_meaning.specs.Syntax.{Text, Unit, Program}
use Rattle.claw_meaning.specs.Scene.{Bounds}
use Rattle.claw_meaning.specs.Units.{callees, body_course}
use Rattle.claw_meaning.specs.Frames.{Frame, with_store, given_by_frame, started}

pub record Outcome : Type 0 where
  -- what the dummies and module variables hold at the end; none where the run traps
  pub end : Option Frame
  -- what the result of a function holds at the end
  pub result : Option Value
  -- all that it does, in time, up to its end or its trap
  pub log : List Event
  -- for each execution of a marked loop, the touches of each iteration of what isn't the iterations' own
  pub loops : List (List (List Event))

-- what an element named so holds, where a function ends
abbrev pub result_held : Unit → Option Text → Store → Option Value
result_held u None s = None
result_held u (Some result) s = Some (s (record { home = u.name; name = result; index = [] }))

abbrev pub result_or_none : {A : Type 0} → Option A → Option Value → Option Value
result_or_none None v = None
result_or_none (Some a) v = v

abbrev pub unit_course : Program → Unit → Frame → Course Way
unit_course p u frame = body_course p (callees p) u (given_by_frame frame)

-- One run of a unit from a frame, its marked loops in the plan's orders.
abbrev pub exec : Program → Unit → Frame → Plan → Outcome
exec p u frame plan =
    let course = unit_course p u frame in
    let o = orders_of plan in
    let s = started u frame in
    let last = store_of (line course) o s 0 in
    record {
      end = option_map (λ g. with_store u.name frame last) (answer_of (line course) o s 0);
      result = result_or_none (answer_of (line course) o s 0) (result_held u u.result last);
      log = log_of (line course) o s 0;
      loops = loop_runs course o s 0;
    }

-- One run of a unit under a schedule of single accesses: in each marked loop the iteration that each word of the schedule
-- names, from 0, makes its next access; after the schedule the iterations run to their ends in increasing order.
abbrev pub woven_exec : Program → Unit → Frame → List ℕ → Outcome
woven_exec p u frame schedule =
    let course = unit_course p u frame in
    let i = woven_line course schedule in
    let s = started u frame in
    let last = store_of i rising s 0 in
    record {
      end = option_map (λ g. with_store u.name frame last) (answer_of i rising s 0);
      result = result_or_none (answer_of i rising s 0) (result_held u u.result last);
      log = log_of i rising s 0;
      loops = [];
    }

-- the statements and iterations begun
abbrev pub turns_of : Outcome → ℕ
turns_of r = turns r.log

-- In each loop run, in any unit that is reached through calls, no two iterations touch one element of a variable that
-- isn't their own, unless both only read it.
abbrev pub Apart : Outcome → Type 0
Apart r = AllApart r.loops

-- Small runs: every array that a run makes or is given has bounds of 32 bits, as its declaration gives them, and extents too.

abbrev pub IsSmallNumber : ℤ → Type 0
IsSmallNumber n = (negsuc 2147483647 ≤ℤ n) × (n ≤ℤ pos 2147483647)

abbrev pub HasSmallBounds : Bounds → Type 0
HasSmallBounds [] = ⊤
HasSmallBounds (b ∷ bs) = IsSmallNumber b.0 × IsSmallNumber b.1 × (extent b.0 b.1 ≤ 2147483647) × HasSmallBounds bs

abbrev pub HasSmallArrays : List Event → Type 0
HasSmallArrays [] = ⊤
HasSmallArrays (Announces (Makes bounds) ∷ ts) = HasSmallBounds bounds × HasSmallArrays ts
HasSmallArrays (Announces (Own_reads e) ∷ ts) = HasSmallArrays ts
HasSmallArrays (Announces (Own_writes e) ∷ ts) = HasSmallArrays ts
HasSmallArrays (Announces Turn ∷ ts) = HasSmallArrays ts
HasSmallArrays (Reads e ∷ ts) = HasSmallArrays ts
HasSmallArrays (Writes e ∷ ts) = HasSmallArrays ts

abbrev pub IsSmall : Outcome → Type 0
IsSmall r = HasSmallArrays r.log
