-- The unit for all columns runs no marked loop: its column loop bears no mark, and it calls nothing.
use Rattle.std.proofs.Common.{◌≡◌, ℕ, zero, suc, ℤ, pos, ◌+ℤ◌, refl, ap₂, sym, subst, ◌∙◌, List, [], ◌∷◌, Option, Some, None, Bool, true, false, Contains}
use Rattle.std.specs.Prelude.{⊤, if◌then◌else◌}
use Rattle.std.specs.Ordering.{int_eq}
use Rattle.fort_arith.specs.declared.kind.Kind.{Kind}
use Rattle.fort_arith.specs.declared.kind.Kind.TheVariants.{I4}
use Rattle.fort_arith.specs.declared.op.Op.{Op}
use Rattle.fort_arith.specs.declared.op.Op.TheVariants.{Lt}
use Rattle.fort_arith.specs.Operators.{is_arithmetic, is_relation, applied}
use Rattle.fort_arith.specs.Range.{fitted}
use Rattle.fort_tree.specs.declared.expr.Unary.{Unary}
use Rattle.fort_tree.specs.declared.expr.Unary.TheVariants.{Plus, Minus, Not}
use Rattle.fort_tree.specs.Intrinsic.{intrinsic_named}
use Rattle.courses.specs.Element.{Value, Undefined, Whole, Truth, Element, Store, put}
use Rattle.courses.specs.Interaction.{Orders}
use Rattle.courses.specs.Course.{Sort, Way, Answer, Signal, Normal, Exits, Cycles, Returns, Course, Give, Fail, Get, Put, Tell, Loop, Scope, and_then, loop_runs}
use Rattle.courses.specs.Weaving.{AllApart}
use Rattle.courses.specs.Plans.{Plan, orders_of}
use Rattle.claw_meaning.specs.Syntax.{Text, Expr, Numeral, Boolean, Name, Reference, Signed, Binary, Paren, At, No_more, Decl, Done, Then, Return, Unit, Program}
use Rattle.claw_meaning.specs.Scene.{Bounds, Variable, Meant, Scene, Callee, element}
use Rattle.claw_meaning.specs.Evaluation.{kind_in, value, place, settled, shapes, shape_among, shapes_of_reference, shapes_of_all, defined, with_whole, with_truth, with_exact, given_whole, converted, with_sign, operated, checked, read, named, indexed_place, referred, values, subscripts, arguments}
use Rattle.claw_meaning.specs.Statements.{assigned, assignment, meaning, meanings, then_run, after_turn, chosen, turns, trips, loop, looped as loop_of, with_scalar, head_evaluated, bounds_converted}
use Rattle.claw_meaning.specs.Units.{Given, making, scene_of, callees}
use Rattle.claw_meaning.specs.Frames.{Frame, given_by_frame, started}
use Rattle.claw_meaning.specs.Runs.{exec, Apart}
use Rattle.column_scalars.specs.Scalars.{Scalars, IsScalars, IsSum, AreSums, in_column, wide_assignments, number, guard, column_loop, looped, wide_decl, wide_unit}
use Rattle.column_scalars.proofs.Sums.{said, said_settles}
use Rattle.column_scalars.proofs.Assigning.{spelled, spelled_wide}
use Rattle.column_scalars.proofs.Scenes.{integer_of}
use Rattle.column_scalars.proofs.Lookups.{means}
use Rattle.column_scalars.proofs.Listed.{no_intrinsic}
use Rattle.column_scalars.proofs.Naming.{column_name}
use Rattle.column_scalars.proofs.Wide.{upper_means, id_means}

-- whatever the replies, no marked loop is run and nothing is called
abbrev pub HasNoLoop : {k : Sort} → Course k → Type 0
HasNoLoop (Give a) = ⊤
HasNoLoop Fail = ⊤
HasNoLoop (Get e f) = (v : Value) → HasNoLoop (f v)
HasNoLoop (Put e v r) = HasNoLoop r
HasNoLoop (Tell t r) = HasNoLoop r
HasNoLoop (Loop n own body r) = ⊥
HasNoLoop (Scope p q h) = ⊥

no_runs : {k : Sort} (q : Course k) → HasNoLoop q → (o : Orders) (s : Store) (j : ℕ) → loop_runs q o s j ≡ []
no_runs (Give a) h o s j = refl
no_runs Fail h o s j = refl
no_runs (Get e f) h o s j = no_runs (f (s e)) (h (s e)) o s j
no_runs (Put e v r) h o s j = no_runs r h o (put s e v) j
no_runs (Tell t r) h o s j = no_runs r h o s j
no_runs (Loop n own body r) h o s j = absurd h
no_runs (Scope p q f) h o s j = absurd h

none_then : {k l : Sort} (q : Course k) (g : Answer k → Course l) → HasNoLoop q → ((a : Answer k) → HasNoLoop (g a)) → HasNoLoop (and_then q g)
none_then (Give a) g h t = t a
none_then Fail g h t = tt
none_then (Get e f) g h t = λ v. none_then (f v) g (h v) t
none_then (Put e v r) g h t = none_then r g h t
none_then (Tell u r) g h t = none_then r g h t
none_then (Loop n own body r) g h t = absurd h
none_then (Scope p q f) g h t = absurd h

-- Values

either : {k : Sort} (b : Bool) (q r : Course k) → HasNoLoop q → HasNoLoop r → HasNoLoop (if b then q else r)
either true q r h t = h
either false q r h t = t

none_defined : (v : Value) → HasNoLoop (defined v)
none_defined Undefined = tt
none_defined (Whole n) = tt
none_defined (Truth b) = tt

none_whole : {k : Sort} (v : Value) (g : ℤ → Course k) → ((n : ℤ) → HasNoLoop (g n)) → HasNoLoop (with_whole v g)
none_whole Undefined g h = tt
none_whole (Whole n) g h = h n
none_whole (Truth b) g h = tt

none_truth : {k : Sort} (v : Value) (g : Bool → Course k) → ((b : Bool) → HasNoLoop (g b)) → HasNoLoop (with_truth v g)
none_truth Undefined g h = tt
none_truth (Whole n) g h = tt
none_truth (Truth b) g h = h b

none_exact : {k : Sort} (r : Option ℤ) (g : ℤ → Course k) → ((n : ℤ) → HasNoLoop (g n)) → HasNoLoop (with_exact r g)
none_exact None g h = tt
none_exact (Some n) g h = h n

none_converted : {k : Sort} (kind : Kind) (v : Value) (g : Value → Course k) → ((w : Value) → HasNoLoop (g w)) → HasNoLoop (converted kind v g)
none_converted kind Undefined g h = tt
none_converted kind (Whole n) g h = none_exact (fitted kind n) (λ m. g (Whole m)) (λ m. h (Whole m))
none_converted kind (Truth b) g h = h (Truth b)

none_signed : (sign : Unary) (kind : Kind) (v : Value) → HasNoLoop (with_sign sign kind v)
none_signed Plus kind v = none_whole v given_whole (λ n. tt)
none_signed Minus kind v = none_whole v _ (λ n. none_exact _ given_whole (λ m. tt))
none_signed Not kind v = none_truth v _ (λ b. tt)

none_operated : (op : Op) (kind : Kind) (a b : Value) → HasNoLoop (operated op kind a b)
none_operated op kind a b =
    either (is_arithmetic op) _ _ (none_whole a _ (λ m. none_whole b _ (λ n. none_exact (applied op kind m n) given_whole (λ k. tt))))
    (either (is_relation op) _ _ (none_whole a _ (λ m. none_whole b _ (λ n. tt))) (none_truth a _ (λ m. none_truth b _ (λ n. tt))))

none_checked : {k : Sort} (v : Variable) (is : List ℤ) (g : Element → Course k) → ((e : Element) → HasNoLoop (g e)) → HasNoLoop (checked v is g)
none_checked v is g h = either _ (g (element v is)) Fail (h (element v is)) tt

none_read : (v : Variable) (is : List ℤ) → HasNoLoop (read v is)
none_read v is = none_checked v is (λ e. Get e defined) (λ e w. none_defined w)

none_next : (signal : Signal) (r : Course Way) → HasNoLoop r → HasNoLoop (then_run signal r)
none_next Normal r h = h
none_next Exits r h = tt
none_next Cycles r h = tt
none_next Returns r h = tt

-- Sums, where each name is written so

pub record AreUnmarked (c : Scene) (names : List Text) (shown : Text → Expr) : Type 0 where
  pub settles : {k : Sort} (x : Text) → Contains names x → (g : Expr → Course k) → settled c (shown x) g ≡ g (shown x)
  pub scalar : (x : Text) → Contains names x → shapes c (shown x) ≡ []
  pub reads : (x : Text) → Contains names x → HasNoLoop (value c (shown x) [])
  pub places : (x : Text) → Contains names x → (g : Element → Course Way) → ((e : Element) → HasNoLoop (g e)) → HasNoLoop (place c (shown x) [] g)

module _ (c : Scene) (names : List Text) (shown : Text → Expr) (l : AreUnmarked c names shown) where
  none_sum : (e : Expr) → IsSum names e → HasNoLoop (value c (said shown e) [])
  none_sum (Numeral n suffix) h = tt
  none_sum (Boolean b) h = absurd h
  none_sum (Name x) h = l.reads x h
  none_sum (Reference x subs) h = absurd h
  none_sum (Signed sign e) h = none_then (value c (said shown e) []) _ (none_sum e h.1) (λ v. none_signed sign _ v)
  none_sum (Binary op a b) h = none_then (value c (said shown a) []) _ (none_sum a h.1) (λ v. none_then (value c (said shown b) []) _ (none_sum b h.2) (λ w. none_operated op _ v w))
  none_sum (Paren e) h = absurd h

  none_assigned : (x : Text) (e : Expr) → Contains names x → IsSum names e → HasNoLoop (assignment c (shown x) (said shown e))
  none_assigned x e h k =
      let one : HasNoLoop (assigned c (shown x) (said shown e) []) =
      none_then (value c (said shown e) []) _ (none_sum e k) (λ v. l.places x h _ (λ a. none_converted (kind_in c (shown x)) v _ (λ w. tt))) in
      let shaped : HasNoLoop (assigned c (shown x) (said shown e) (shape_among (shapes c (shown x)))) =
      subst (λ shape. HasNoLoop (assigned c (shown x) (said shown e) (shape_among shape))) (sym (l.scalar x h)) one in
      let right = said_settles c names shown (λ m y t f. l.settles {k = m} y t f) Way e k (λ r. assigned c (shown x) r (shape_among (shapes c (shown x)))) in
      subst (λ q. HasNoLoop q) (sym (l.settles x h (λ left. settled c (said shown e) (λ r. assigned c left r (shape_among (shapes c left)))) ∙ right)) shaped

  none_spelled : (assigned : List (Text × Expr)) → AreSums names assigned → HasNoLoop (meanings c (spelled shown assigned))
  none_spelled [] h = tt
  none_spelled (a ∷ rest) h =
      none_then (assignment c (shown a.0) (said shown a.1)) (λ g. then_run g (meanings c (spelled shown rest))) (none_assigned a.0 a.1 h.0 h.1) (λ g. none_next g _ (none_spelled rest h.2))

-- The statements of the unit for all columns

none_turns : (e : Element) (n : ℕ) (at by : ℤ) (r : Course Way) → HasNoLoop r → HasNoLoop (turns e n at by r)
none_turns e zero at by r h = tt
none_turns e (suc n) at by r h = none_then r _ h (after (none_turns e n (at +ℤ by) by r h))
  where
    after : HasNoLoop (turns e n (at +ℤ by) by r) → (g : Signal) → HasNoLoop (after_turn g (turns e n (at +ℤ by) by r))
    after t Normal = t
    after t Exits = tt
    after t Cycles = t
    after t Returns = tt

none_counted : (e : Element) (m1 m2 m3 : ℤ) (r : Course Way) → HasNoLoop r → HasNoLoop (loop_of None e m1 m2 m3 r)
none_counted e m1 m2 m3 r h = either (int_eq m3 (pos 0)) Fail _ tt (none_then (turns e (trips m1 m2 m3) m1 m3 r) _ (none_turns e (trips m1 m2 m3) m1 m3 r h) (λ g. tt))

none_bounds : (kind : Kind) (a b d : Value) (g : ℤ → ℤ → ℤ → Course Way) → ((m1 m2 m3 : ℤ) → HasNoLoop (g m1 m2 m3)) → HasNoLoop (bounds_converted kind a b d g)
none_bounds kind a b d g h =
    none_converted kind a _ (λ a'. none_converted kind b _ (λ b'. none_converted kind d _ (λ d'. none_whole a' _ (λ m1. none_whole b' _ (λ m2. none_whole d' _ (λ m3. h m1 m2 m3))))))

none_named : (m : Meant) (home x : Text) → m ≡ integer_of home x [] → HasNoLoop (named m [])
none_named m home x e = subst (λ w. HasNoLoop (named w [])) (sym e) (none_read (record { home = home; name = x; kind = I4; bounds = [] }) [])

none_looped : (c : Scene) (home id upper : Text) (lower : ℕ) (r : Course Way) → c.meant id ≡ integer_of home id [] → c.meant upper ≡ integer_of home upper [] → HasNoLoop r → HasNoLoop (loop c (record { variable = id; from = number lower; to = Name upper; step = None }) None r)
none_looped c home id upper lower r m n h =
    subst (λ w. HasNoLoop (with_scalar w (λ e kind. head_evaluated c kind (record { variable = id; from = number lower; to = Name upper; step = None }) (λ m1 m2 m3. loop_of None e m1 m2 m3 r)))) (sym m)
    (none_then (value c (Name upper) []) _ (none_named (c.meant upper) home upper n) (λ b. none_bounds I4 (Whole (pos lower)) b (Whole (pos 1)) _ (λ m1 m2 m3. none_counted _ m1 m2 m3 r h)))

none_guard : (c : Scene) (home upper : Text) (lower : ℕ) → c.meant upper ≡ integer_of home upper [] → HasNoLoop (meaning c (guard lower upper))
none_guard c home upper lower m =
    none_then (value c (Binary Lt (Name upper) (number lower)) []) _
    (none_then (value c (Name upper) []) _ (none_named (c.meant upper) home upper m) (λ v. none_operated Lt (kind_in c (Binary Lt (Name upper) (number lower))) v (Whole (pos lower))))
    (λ v. none_truth v _ way)
  where
    way : (b : Bool) → HasNoLoop (chosen b (meanings c (Then Return Done)) (Give {k = Way} Normal))
    way true = tt
    way false = tt

-- a default INTEGER with these bounds
abbrev array : Text → Text → Bounds → Variable
array home x bounds = record { home = home; name = x; kind = I4; bounds = bounds }

-- each of these names is one, of whatever bounds
abbrev pub AreHeld : Scene → Text → List Text → Type 0
AreHeld c home names = (x : Text) → Contains names x → (bounds : Bounds) × (c.meant x ≡ integer_of home x bounds)

columns_unmarked : (c : Scene) (home id : Text) (names : List Text) → c.meant id ≡ integer_of home id [] → ((x : Text) → Contains names x → intrinsic_named x ≡ None) → AreHeld c home names → AreUnmarked c names (in_column id)
columns_unmarked c home id names m plain arrays = record {
  settles = λ x h g. refl;
  scalar = λ x h. ap₂ (λ w n. shapes_of_reference w n (At (Name id) No_more) (shapes_of_all c (At (Name id) No_more))) (plain x h) (arrays x h).1;
  reads = λ x h.
      subst (λ w. HasNoLoop (referred c (c.meant x) w (kind_in c (in_column id x)) (At (Name id) No_more) (λ os. values c (At (Name id) No_more) os) (subscripts c (At (Name id) No_more) []) (λ ds g. arguments c (At (Name id) No_more) ds g) [])) (sym (plain x h))
      (subst (λ w. HasNoLoop (referred c w None (kind_in c (in_column id x)) (At (Name id) No_more) (λ os. values c (At (Name id) No_more) os) (subscripts c (At (Name id) No_more) []) (λ ds g. arguments c (At (Name id) No_more) ds g) [])) (sym (arrays x h).1)
      (none_then (subscripts c (At (Name id) No_more) []) _ the_subscript (λ is. none_read (array home x (arrays x h).0) is)));
  places = λ x h g f.
      subst (λ w. HasNoLoop (indexed_place w (subscripts c (At (Name id) No_more) []) g)) (sym (arrays x h).1)
      (none_then (subscripts c (At (Name id) No_more) []) _ the_subscript (λ is. none_checked (array home x (arrays x h).0) is g f));
}
  where
    the_subscript : HasNoLoop (subscripts c (At (Name id) No_more) [])
    the_subscript = none_then (value c (Name id) []) _ (none_named (c.meant id) home id m) (λ v. none_whole v _ (λ i. tt))

none_body : (c : Scene) (home id upper : Text) (lower : ℕ) (names : List Text) → c.meant id ≡ integer_of home id [] → c.meant upper ≡ integer_of home upper [] → AreUnmarked c names (in_column id) → (assigned : List (Text × Expr)) → AreSums names assigned → HasNoLoop (meanings c (looped lower upper id assigned))
none_body c home id upper lower names m n l [] h = tt
none_body c home id upper lower names m n l (a ∷ rest) h =
    none_then (meaning c (column_loop lower upper id (wide_assignments id (a ∷ rest)))) (λ g. then_run g (Give {k = Way} Normal))
    (none_looped c home id upper lower (meanings c (wide_assignments id (a ∷ rest))) m n (subst (λ q. HasNoLoop (meanings c q)) (spelled_wide id (a ∷ rest)) (none_spelled c names (in_column id) l (a ∷ rest) h)))
    (λ g. none_next g (Give {k = Way} Normal) tt)

none_made : (p : Program) (v : Unit) (given : Given) (ds : List Decl) (r : Course Way) → HasNoLoop r → HasNoLoop (making p v given ds r)
none_made p v given [] r h = h
none_made p v given (d ∷ ds) r h = none_made p v given ds r h

-- in whatever program it stands, and whatever it is given
pub unmarked_runs : (u : Scalars) → IsScalars u → (p : Program) (frame : Frame) (plan : Plan) → (exec p (wide_unit u) frame plan).loops ≡ []
unmarked_runs u w p frame plan =
    no_runs (making p (wide_unit u) given (wide_unit u).decls (meanings scene (wide_unit u).body))
    (none_made p (wide_unit u) given (wide_unit u).decls (meanings scene (wide_unit u).body)
    (none_then (meaning scene (guard u.lower u.upper)) (λ g. then_run g (meanings scene (looped u.lower u.upper u.id u.assigned))) (none_guard scene u.name u.upper u.lower (upper_means p u callee given))
    (λ g. none_next g (meanings scene (looped u.lower u.upper u.id u.assigned)) (none_body scene u.name u.id u.upper u.lower u.dummies (id_means p u w callee given) (upper_means p u callee given) lies u.assigned w.assigned))))
    (orders_of plan) (started (wide_unit u) frame) 0
  where
    given : Given
    given = given_by_frame frame

    callee : Text → Callee
    callee = callees p

    scene : Scene
    scene = scene_of p callee (wide_unit u) given

    arrays : AreHeld scene u.name u.dummies
    arrays x h = let t = column_name u w x h in (_, means p callee (wide_unit u) given x (wide_decl u.lower u.upper (x, t.intent)) refl t.wide)

    lies : AreUnmarked scene u.dummies (in_column u.id)
    lies = columns_unmarked scene u.name u.id u.dummies (id_means p u w callee given) (no_intrinsic u.dummies w.plain) arrays

pub apart_runs : (u : Scalars) → IsScalars u → (p : Program) (frame : Frame) (plan : Plan) → Apart (exec p (wide_unit u) frame plan)
apart_runs u w p frame plan = subst AllApart (sym (unmarked_runs u w p frame plan)) tt
