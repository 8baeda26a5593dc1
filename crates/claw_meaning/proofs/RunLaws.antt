-- Runs under schedules end as under plans; and frames are stores.
use Rattle.std.proofs.Common.{◌≡◌, ℕ, refl, sym, ap, ◌∙◌, List, [], ◌∷◌, map, Option, Some, None, Bool, true, false, is_some}
use Rattle.std.specs.Option.{option_map}
use Rattle.std.proofs.lemmas.Bool.{true≢false, false≢true}
use Rattle.courses.specs.Element.{Value, Store}
use Rattle.courses.specs.Interaction.{Interaction, Orders, answer_of, store_of}
use Rattle.courses.specs.Course.{Course, Way, Signal, line}
use Rattle.courses.specs.Weaving.{IsOrderly, rising, woven_line, LinesAlike}
use Rattle.courses.specs.Plans.{Plan, orders_of}
use Rattle.courses.specs.Frames.{Entry, IsFrame, places, look, filled}
use Rattle.courses.proofs.Planned.{fair_plan}
use Rattle.courses.proofs.Two_lines.{lines_alike}
use Rattle.courses.proofs.Wovens.{woven_alike}
use Rattle.courses.proofs.Framed.{filled_look}
use Rattle.claw_meaning.specs.Syntax.{Text, Unit, Program}
use Rattle.claw_meaning.specs.Frames.{Held, Frame, entries, with_store, started, home_of}
use Rattle.claw_meaning.specs.Runs.{exec, woven_exec, unit_course, result_held, result_or_none}
use Rattle.claw_meaning.specs.Laws.{SchedulesAgree, FramesAreStores}

-- two ends are one where the answers are one, and where there is one the stores are
ends_alike : {A : Type 0} (unit : Text) (frame : Frame) (a b : Option A) (s t : Store) → a ≡ b → (is_some b ≡ true → s ≡ t) → option_map (λ g. with_store unit frame s) a ≡ option_map (λ g. with_store unit frame t) b
ends_alike unit frame None None s t h g = refl
ends_alike unit frame (Some x) (Some y) s t h g = ap (λ u. Some (with_store unit frame u)) (g refl)
ends_alike unit frame None (Some y) s t h g = ap (λ o. option_map (λ x. with_store unit frame s) o) h ∙ ap (λ u. Some (with_store unit frame u)) (g refl)
ends_alike unit frame (Some x) None s t h g = ap (λ o. option_map (λ y. with_store unit frame s) o) h

-- and so are two results
results_alike : {A : Type 0} (u : Unit) (a b : Option A) (s t : Store) → a ≡ b → (is_some b ≡ true → s ≡ t) → result_or_none a (result_held u u.result s) ≡ result_or_none b (result_held u u.result t)
results_alike u None None s t h g = refl
results_alike u (Some x) (Some y) s t h g = ap (result_held u u.result) (g refl)
results_alike u None (Some y) s t h g = absurd (false≢true (ap is_some h))
results_alike u (Some x) None s t h g = absurd (true≢false (ap is_some h))

pub schedules_agree : (p : Program) (u : Unit) (frame : Frame) → IsOrderly (unit_course p u frame) → (plan : Plan) (schedule : List ℕ) → SchedulesAgree p u frame plan schedule
schedules_agree p u frame h plan schedule =
    let course = unit_course p u frame in
    let alike = lines_alike course h schedule (orders_of plan) (fair_plan plan) (started u frame) 0 in
    record {
      end = ends_alike u.name frame _ _ _ _ alike.answer alike.store;
      result = results_alike u _ _ _ _ alike.answer alike.store;
      prefix = (woven_alike course h schedule (orders_of plan) (fair_plan plan) (started u frame) 0).prefix;
    }

pub entries_filled : (unit : Text) (frame : Frame) (s : Store) → entries unit (with_store unit frame s) ≡ filled (entries unit frame) s
entries_filled unit [] s = refl
entries_filled unit (h ∷ hs) s = ap (λ rest. record { home = home_of unit h.key.of_module; name = h.key.name; bounds = h.cells.bounds; items = map (λ is. s (record { home = home_of unit h.key.of_module; name = h.key.name; index = is })) (places h.cells.bounds) } ∷ rest) (entries_filled unit hs s)

-- the same variables, with these lists of values
refilled : Frame → List Entry → Frame
refilled [] fs = []
refilled (h ∷ hs) [] = []
refilled (h ∷ hs) (f ∷ fs) = record { key = h.key; cells = record { kind = h.cells.kind; bounds = h.cells.bounds; values = f.items } } ∷ refilled hs fs

refilled_store : (unit : Text) (frame : Frame) (s : Store) → with_store unit frame s ≡ refilled frame (filled (entries unit frame) s)
unfolding refilled
refilled_store unit [] s = refl
refilled_store unit (h ∷ hs) s = ap (λ rest. record { key = h.key; cells = record { kind = h.cells.kind; bounds = h.cells.bounds; values = map (λ is. s (record { home = home_of unit h.key.of_module; name = h.key.name; index = is })) (places h.cells.bounds) } } ∷ rest) (refilled_store unit hs s)

refilled_own : (unit : Text) (frame : Frame) → refilled frame (entries unit frame) ≡ frame
unfolding refilled
refilled_own unit [] = refl
refilled_own unit (h ∷ hs) = ap (λ rest. h ∷ rest) (refilled_own unit hs)

pub frames_are_stores_so : (unit : Text) (frame : Frame) (s : Store) → FramesAreStores unit frame s
frames_are_stores_so unit frame s = record {
  filled = entries_filled unit frame s;
  kept = λ is. refilled_store unit frame (look (entries unit frame)) ∙ (ap (refilled frame) (filled_look (entries unit frame) is) ∙ refilled_own unit frame);
}
