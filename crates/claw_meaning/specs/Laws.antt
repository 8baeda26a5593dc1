-- What the laws of runs state.
use Rattle.std.specs.Prelude.{◌≡◌, ℕ, List, Option, Some, true, is_some}
use Rattle.courses.specs.Element.{Element, Store}
use Rattle.courses.specs.Interaction.{answer_of, store_of, log_of}
use Rattle.courses.specs.Logs.{Agree, Alike}
use Rattle.courses.specs.Renaming.{KeepsApart, RenamedRun, renamed, view}
use Rattle.courses.specs.Course.{Course, line}
use Rattle.courses.specs.Frames.{IsFrame, look, filled}
use Rattle.courses.specs.Weaving.{AreApart, IsOrderly, Prefixes}
use Rattle.courses.specs.Plans.{Plan, orders_of}
use Rattle.claw_meaning.specs.Syntax.{Text, Unit, Program}
use Rattle.claw_meaning.specs.Frames.{Frame, entries, with_store, started}
use Rattle.claw_meaning.specs.Runs.{exec, woven_exec, unit_course, Apart}

-- From a store that agrees on what a run reads, its course answers, goes on and does what it does from the frame.
abbrev pub RunsAreLocal : Type 0
RunsAreLocal =
    (p : Program) (u : Unit) (frame : Frame) (plan : Plan) (s : Store) → Agree (exec p u frame plan).log (started u frame) s → Alike (line (unit_course p u frame)) (orders_of plan) 0 (started u frame) s

-- A unit whose variables lie elsewhere does there what it does here.
abbrev pub RunsCanMove : Type 0
RunsCanMove =
    (p : Program) (u : Unit) (frame : Frame) (plan : Plan) (move : Element → Element) (s : Store) → KeepsApart move → RenamedRun move (line (unit_course p u frame)) (orders_of plan) s 0

-- Where the iterations of each marked loop are apart whatever they are told, a run is apart under every plan, up to a trap too.
abbrev pub RunsAreApart : Type 0
RunsAreApart = (p : Program) (u : Unit) (frame : Frame) → AreApart (unit_course p u frame) → (plan : Plan) → Apart (exec p u frame plan)

-- Where the marked loops are orderly, every schedule of single accesses ends as every plan does, with the same result, and in
-- each marked loop, those in callees too, each iteration's events are under the schedule a prefix of those that it makes alone
-- from the loop's opening store.
pub record SchedulesAgree (p : Program) (u : Unit) (frame : Frame) (plan : Plan) (schedule : List ℕ) : Type 0 where
  pub end : (woven_exec p u frame schedule).end ≡ (exec p u frame plan).end
  pub result : (woven_exec p u frame schedule).result ≡ (exec p u frame plan).result
  pub prefix : Prefixes (unit_course p u frame) schedule (started u frame)

abbrev pub OrderlyRunsAgree : Type 0
OrderlyRunsAgree =
    (p : Program) (u : Unit) (frame : Frame) → IsOrderly (unit_course p u frame) → (plan : Plan) (schedule : List ℕ) → SchedulesAgree p u frame plan schedule

-- The frame of a store is the store looked up, and a frame holds what its own store holds.
pub record FramesAreStores (unit : Text) (frame : Frame) (s : Store) : Type 0 where
  pub filled : entries unit (with_store unit frame s) ≡ filled (entries unit frame) s
  pub kept : IsFrame (entries unit frame) → with_store unit frame (look (entries unit frame)) ≡ frame
