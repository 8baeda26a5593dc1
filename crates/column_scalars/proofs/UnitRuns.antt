-- Where the run of a unit ends, by what its statements do; and the columns of a range.
use Rattle.std.proofs.Common.{◌≡◌, ℕ, ℤ, pos, negsuc, ◌+ℤ◌, ◌-ℤ◌, ◌<ℤ◌, ◌≤ℤ◌, int_lt, refl, ap, sym, ◌∙◌, List, [], ◌∷◌, Option, Some, None, Bool, true, false, arith}
use Rattle.std.specs.Prelude.{if◌then◌else◌}
use Rattle.std.specs.Option.{option_map}
use Rattle.std.specs.Int.{int_gap}
use Rattle.std.proofs.lemmas.Int.{ints}
use mathlib.Core.Path.{ap₂}
use Rattle.courses.specs.Element.{Store}
use Rattle.courses.specs.Interaction.{Orders, answer_of, store_of}
use Rattle.courses.specs.Course.{Way, Signal, Course, line}
use Rattle.courses.specs.Plans.{Plan, orders_of}
use Rattle.courses.specs.Ranges.{wholes_from, wholes}
use Rattle.claw_meaning.specs.Syntax.{Decl, Stmts, Unit, Program}
use Rattle.claw_meaning.specs.Scene.{Scene}
use Rattle.claw_meaning.specs.Statements.{meanings}
use Rattle.claw_meaning.specs.Units.{Given, making, callees, scene_of, raised_upper}
use Rattle.claw_meaning.specs.Frames.{Frame, with_store, given_by_frame, started}
use Rattle.claw_meaning.specs.Runs.{exec}
use Rattle.column_scalars.specs.Model.{DoesAs}

-- what a unit makes at its beginning changes neither its answer nor its store
making_answer : (p : Program) (v : Unit) (given : Given) (ds : List Decl) (r : Course Way) (o : Orders) (s : Store) (j : ℕ) → answer_of (line (making p v given ds r)) o s j ≡ answer_of (line r) o s j
making_answer p v given [] r o s j = refl
making_answer p v given (d ∷ ds) r o s j = making_answer p v given ds r o s j

making_store : (p : Program) (v : Unit) (given : Given) (ds : List Decl) (r : Course Way) (o : Orders) (s : Store) (j : ℕ) → store_of (line (making p v given ds r)) o s j ≡ store_of (line r) o s j
making_store p v given [] r o s j = refl
making_store p v given (d ∷ ds) r o s j = making_store p v given ds r o s j

statements_end : (F : Store → Frame) (signal : Signal) (body : Stmts) (c : Scene) (o : Orders) (s : Store) (j : ℕ) (result : Option Store) → DoesAs signal body c o s j result → option_map (λ g. F (store_of (line (meanings c body)) o s j)) (answer_of (line (meanings c body)) o s j) ≡ option_map F result
statements_end F signal body c o s j None d = ap (option_map (λ g. F (store_of (line (meanings c body)) o s j))) d.answer
statements_end F signal body c o s j (Some t) d = ap (option_map (λ g. F (store_of (line (meanings c body)) o s j))) d.answer ∙ ap (λ q. Some (F q)) (d.store t refl)

-- a run ends as its statements do
pub run_ends : (p : Program) (v : Unit) (frame : Frame) (plan : Plan) (signal : Signal) (result : Option Store) → DoesAs signal v.body (scene_of p (callees p) v (given_by_frame frame)) (orders_of plan) (started v frame) 0 result → (exec p v frame plan).end ≡ option_map (with_store v.name frame) result
run_ends p v frame plan signal result d =
    ap₂ (λ q a. option_map (λ g. with_store v.name frame q) a)
    (making_store p v (given_by_frame frame) v.decls (meanings (scene_of p (callees p) v (given_by_frame frame)) v.body) (orders_of plan) (started v frame) 0)
    (making_answer p v (given_by_frame frame) v.decls (meanings (scene_of p (callees p) v (given_by_frame frame)) v.body) (orders_of plan) (started v frame) 0)
    ∙ statements_end (with_store v.name frame) signal v.body (scene_of p (callees p) v (given_by_frame frame)) (orders_of plan) (started v frame) 0 result d

-- Ranges of columns

no_gap : (a b : ℤ) → b ≤ℤ a → int_gap a b ≡ 0
no_gap (pos a) (pos b) h = omega (arith, ints)
no_gap (pos a) (negsuc b) h = refl
no_gap (negsuc a) (pos b) h = omega (arith, ints)
no_gap (negsuc a) (negsuc b) h = omega (arith, ints)

pub no_column : (low high : ℤ) → high <ℤ low → wholes low high ≡ []
no_column low high h = ap (wholes_from low) (no_gap low (high +ℤ pos 1) (omega (arith, ints)))

-- the declared bounds hold the columns
pub raised_columns : (low high : ℤ) → wholes (raised_upper (low, high)).0 (raised_upper (low, high)).1 ≡ wholes low high
raised_columns low high = go (int_lt high (low -ℤ pos 1)) refl
  where
    go : (b : Bool) → int_lt high (low -ℤ pos 1) ≡ b → wholes low (if int_lt high (low -ℤ pos 1) then low -ℤ pos 1 else high) ≡ wholes low high
    go true h = rw h (no_column low (low -ℤ pos 1) (omega (arith, ints)) ∙ sym (no_column low high (omega (arith, ints))))
    go false h = rw h refl
