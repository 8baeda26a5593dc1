-- What a run of a plain unit in the target ends with.
use Rattle.std.proofs.Common.{◌≡◌, ℕ, ap, sym, ◌∙◌, subst, List, length, false, Some}
use Rattle.std.specs.Prelude.{◌&&◌, if◌then◌else◌, slice_get}
use Rattle.std.specs.Option.{option_map}
use Rattle.std.specs.Str.{bytes_eq}
use Rattle.std.proofs.lemmas.Bool.{false≢true}
use mathlib.Core.Path.{ap₂, fun_ext}
use Rattle.courses.specs.Element.{Undefined}
use Rattle.courses.specs.Interaction.{answer_of, store_of}
use Rattle.courses.specs.Course.{Way, line}
use Rattle.courses.specs.Weaving.{AllApart}
use Rattle.courses.specs.Frames.{look}
use Rattle.courses.specs.Plans.{Plan, Up, orders_of}
use Rattle.claw_meaning.specs.Syntax.{Unit, Module, Item, Program}
use Rattle.claw_meaning.specs.Units.{is_column_unit, callees, callees_to, body_course}
use Rattle.claw_meaning.specs.Frames.{Frame, entries, with_store, given_by_frame, is_out_decl, started}
use Rattle.claw_meaning.specs.Runs.{exec, Apart, unit_course, result_held, result_or_none}
use Rattle.claw_meaning.specs.Kept.{KeepsUnit}
use Rattle.plain_units.specs.Regrouped.{regrouped}
use Rattle.plain_units.specs.Translated.{Translates, IsPlain, ArePlain}
use Rattle.plain_units.proofs.Alike.{Alike, EndsAlike, ends_alike, runs_none}
use Rattle.plain_units.proofs.Seeing.{same_decl, Row, plain_row, column_row, Rows, rows_of, rows_length, row_at, target}
use Rattle.plain_units.proofs.Entering.{body_alike, callees_alike}

module _ (p : Program) (ts : List Unit) (rows : Rows p p.units ts) (u : Unit) (e : is_column_unit u ≡ false) (h : IsPlain p u) (frame : Frame) where
  abbrev q : Program
  q = target p ts rows

  abbrev v : Unit
  v = regrouped u

  courses_alike : Alike Way (unit_course p u frame) (unit_course q v frame)
  courses_alike =
      subst (λ n. Alike Way (unit_course p u frame) (body_course q (callees_to q n) v (given_by_frame frame))) (sym (rows_length p p.units ts rows))
      (body_alike p ts rows u e h (callees p) (callees_to q (length p.units)) (callees_alike p ts rows (length p.units)) (given_by_frame frame))

  same_start : started v frame ≡ started u frame
  same_start = fun_ext (λ x. ap (λ d. if bytes_eq x.home u.name && is_out_decl d then Undefined else look (entries u.name frame) x) (same_decl u x.name e h.once))

  module _ (plan : Plan) where
    ends : EndsAlike (unit_course p u frame) (unit_course q v frame) (orders_of Up) (orders_of plan) (started u frame) 0 0
    ends = ends_alike (unit_course p u frame) (unit_course q v frame) courses_alike (orders_of Up) (orders_of plan) (started u frame) 0 0

    pub keeps : KeepsUnit p q u v plan frame
    keeps = record {
      end =
          ap (λ s. option_map (λ g. with_store u.name frame (store_of (line (unit_course q v frame)) (orders_of plan) s 0)) (answer_of (line (unit_course q v frame)) (orders_of plan) s 0)) same_start
          ∙ ap₂ (λ a s. option_map (λ g. with_store u.name frame s) a) (sym ends.answer) (sym ends.store);
      result =
          ap (λ s. result_or_none (answer_of (line (unit_course q v frame)) (orders_of plan) s 0) (result_held u u.result (store_of (line (unit_course q v frame)) (orders_of plan) s 0))) same_start
          ∙ ap₂ (λ a s. result_or_none a (result_held u u.result s)) (sym ends.answer) (sym ends.store);
    }

    pub apart : Apart (exec q v frame plan)
    apart = subst AllApart (sym (runs_none (unit_course p u frame) (unit_course q v frame) courses_alike (orders_of plan) (started v frame) 0)) tt

-- A translated program is the target of its rows.

abbrev program_with : List Module → List Unit → List Item → Program
program_with modules units order = record { modules = modules; units = units; order = order }

is_target : (s t : Program) → Translates s t → program_with s.modules t.units s.order ≡ t
is_target s t h = ap₂ (λ m o. program_with m t.units o) (sym h.modules) (sym h.order)

abbrev pub Does : Program → Program → Unit → Unit → Plan → Frame → Type 0
Does s t u v plan frame = KeepsUnit s t u v plan frame × Apart (exec t v frame plan)

row_does : (s : Program) (ts : List Unit) (rows : Rows s s.units ts) (u v : Unit) → Row s u v → is_column_unit u ≡ false → (plan : Plan) (frame : Frame) → Does s (target s ts rows) u v plan frame
row_does s ts rows _ _ (plain_row {u} e h) k plan frame = (keeps s ts rows u e h frame plan, apart s ts rows u e h frame plan)
row_does s ts rows _ _ (column_row e a b c) k plan frame = absurd (false≢true (sym k ∙ e))

pub plain_does : (s t : Program) → Translates s t → ArePlain s → (i : ℕ) (u v : Unit) → slice_get s.units i ≡ Some u → slice_get t.units i ≡ Some v → is_column_unit u ≡ false → (plan : Plan) (frame : Frame) → Does s t u v plan frame
plain_does s t h are i u v a b k plan frame =
    let rows = rows_of s s.units t.units h.units are in
    subst (λ x. Does s x u v plan frame) (is_target s t h) (row_does s t.units rows u v (row_at s s.units t.units rows i u v a b) k plan frame)
