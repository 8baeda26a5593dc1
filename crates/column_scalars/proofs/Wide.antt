-- What the names of the unit for all columns mean, and what its statements do.
use Rattle.std.proofs.Common.{◌≡◌, ℕ, ℤ, pos, ◌-ℤ◌, ◌<ℤ◌, ◌≤ℤ◌, ◌≤◌, int_lt, int_le, refl, ap, sym, ◌∙◌, subst, List, [], ◌∷◌, ◌++◌, Option, Some, None, Bool, true, false, cond, ◌&&◌, if◌then◌else◌, arith, Contains, ⊎_elim}
use Rattle.std.proofs.lemmas.Int.{ints}
use Rattle.std.specs.Option.{option_and_then}
use Rattle.fort_arith.specs.declared.kind.Kind.TheVariants.{I4}
use Rattle.fort_arith.specs.declared.op.Op.TheVariants.{Lt}
use Rattle.fort_arith.specs.Range.{fitted, in_kind, least, greatest}
use Rattle.fort_arith.specs.Operators.{compared}
use Rattle.fort_tree.specs.declared.unit.Intent.TheVariants.{In}
use Rattle.fort_tree.specs.Intrinsic.{intrinsic_named}
use Rattle.courses.specs.Element.{Value, Whole, Element, Store}
use Rattle.courses.specs.Interaction.{Orders}
use Rattle.courses.specs.Course.{Way, Item, Normal, Returns, Course, Give, and_then}
use Rattle.courses.specs.Ranges.{wholes}
use Rattle.claw_meaning.specs.Syntax.{Text, Expr, Name, Binary, Stmts, Done, Then, Return, Head, Program}
use Rattle.claw_meaning.specs.Scope.{decl_named}
use Rattle.claw_meaning.specs.Scene.{Callee, Scene}
use Rattle.claw_meaning.specs.Evaluation.{kind_in, named, defined, with_whole, with_truth, with_exact, operated, converted}
use Rattle.claw_meaning.specs.Statements.{meaning, meanings, then_run, chosen, bounds_converted, looped as loop_of, counted, loop, with_scalar, head_evaluated}
use Rattle.claw_meaning.specs.Units.{Given, scene_of, known_in_unit, known_here, or_number, raised_upper}
use Rattle.column_scalars.specs.Scalars.{Scalars, IsScalars, NoIntrinsics, wide_unit, dummy_decl, wide_decl, wide_decls, local_decl, in_column, number, guard, looped, wide_assignments}
use Rattle.column_scalars.specs.Model.{WideDoesSo, scalar_of, cell_of, ran, ran_all}
use Rattle.column_scalars.proofs.Ends.{ending, ending_then, ended, does_as}
use Rattle.column_scalars.proofs.Members.{none_is, member_cases}
use Rattle.column_scalars.proofs.Assigning.{spelled_wide, runs}
use Rattle.column_scalars.proofs.Scenes.{AreArrays, cells_lie, integer_of}
use Rattle.column_scalars.proofs.Lookups.{named_first, named_later, array_decl, behind_arrays, sees, means}
use Rattle.column_scalars.proofs.Turns.{all_turns}

-- Names

abbrev pub wide_scene : Program → Scalars → (Text → Callee) → Given → Scene
wide_scene p u callee given = scene_of p callee (wide_unit u) given

upper_decl : (u : Scalars) → decl_named (wide_unit u).decls u.upper ≡ Some (dummy_decl u.upper In)
upper_decl u = named_first (dummy_decl u.upper In) (wide_decls u.lower u.upper u.declared ++ local_decl u.id ∷ []) u.upper refl

pub upper_means : (p : Program) (u : Scalars) (callee : Text → Callee) (given : Given) → (wide_scene p u callee given).meant u.upper ≡ integer_of u.name u.upper []
upper_means p u callee given = means p callee (wide_unit u) given u.upper (dummy_decl u.upper In) refl (upper_decl u)

pub id_means : (p : Program) (u : Scalars) → IsScalars u → (callee : Text → Callee) (given : Given) → (wide_scene p u callee given).meant u.id ≡ integer_of u.name u.id []
id_means p u i callee given =
    means p callee (wide_unit u) given u.id (local_decl u.id) refl
    (named_later (dummy_decl u.upper In) (wide_decls u.lower u.upper u.declared ++ local_decl u.id ∷ []) u.id (λ e. i.apart (sym e))
    ∙ behind_arrays u.lower u.upper u.declared (local_decl u.id ∷ []) u.id (λ h. i.id (i.declared_dummies u.id h))
    ∙ named_first (local_decl u.id) [] u.id refl)

known : (p : Program) (u : Scalars) (given : Given) → known_in_unit p (wide_unit u) given.value u.upper ≡ given.value u.upper
known p u given = ap (λ e. known_here given.value e u.upper) (sees p (wide_unit u) u.upper (dummy_decl u.upper In) refl (upper_decl u))

test_true : (b : Bool) → (b ≡ false → ⊥) → b ≡ true
test_true true h = refl
test_true false h = absurd (h refl)

test_false : (b : Bool) → (b ≡ true → ⊥) → b ≡ false
test_false true h = absurd (h refl)
test_false false h = refl

le_test : (x y : ℤ) → x ≤ℤ y → int_le x y ≡ true
le_test x y h = test_true (int_le x y) (λ e. omega (arith, ints))

lt_test : (x y : ℤ) → x <ℤ y → int_lt x y ≡ true
lt_test x y h = test_true (int_lt x y) (λ e. omega (arith, ints))

ge_test : (x y : ℤ) → y ≤ℤ x → int_lt x y ≡ false
ge_test x y h = test_false (int_lt x y) (λ e. omega (arith, ints))

not_raised : (lower upper : ℤ) → lower ≤ℤ upper → int_lt upper (lower -ℤ pos 1) ≡ false
not_raised lower upper h = ge_test upper (lower -ℤ pos 1) (omega (arith, ints))

array_means : (p : Program) (u : Scalars) → IsScalars u → (callee : Text → Callee) (given : Given) (upper : ℤ) → given.value u.upper ≡ Some upper → pos u.lower ≤ℤ upper → (x : Text) → Contains u.dummies x
    → (wide_scene p u callee given).meant x ≡ integer_of u.name x ((pos u.lower, upper) ∷ [])
array_means p u i callee given upper g l x h =
    let t = array_decl u.lower u.upper u.declared (local_decl u.id ∷ []) x (i.all_declared x h) in
    let low : ℤ = pos u.lower in
    means p callee (wide_unit u) given x (wide_decl u.lower u.upper (x, t.0)) refl
    (named_later (dummy_decl u.upper In) (wide_decls u.lower u.upper u.declared ++ local_decl u.id ∷ []) x (λ e. i.upper (subst (Contains u.dummies) (sym e) h)) ∙ t.1)
    ∙ ap (λ k. integer_of u.name x (raised_upper (low, or_number low k) ∷ [])) (known p u given ∙ g)
    ∙ ap (λ b. integer_of u.name x ((low, if b then low -ℤ pos 1 else upper) ∷ [])) (not_raised low upper l)

plain_names : (names : List Text) → NoIntrinsics names → (x : Text) → Contains names x → intrinsic_named x ≡ None
plain_names [] p x h = absurd (none_is x h)
plain_names (y ∷ ys) p x h =
    ⊎_elim (λ e. subst (λ z. intrinsic_named z ≡ None) e p.0) (λ k. plain_names ys p.1 x k) (member_cases y ys x h)

wide_arrays : (p : Program) (u : Scalars) → IsScalars u → (callee : Text → Callee) (given : Given) (upper : ℤ) → given.value u.upper ≡ Some upper → pos u.lower ≤ℤ upper → AreArrays (wide_scene p u callee given) u.name u.id u.dummies (pos u.lower) upper
wide_arrays p u i callee given upper g l = record {
  dimension = id_means p u i callee given;
  arrays = array_means p u i callee given upper g l;
  plain = plain_names u.dummies i.plain;
}

-- The body of a column

inside_bounds : (lower upper c : ℤ) → lower ≤ℤ c → c ≤ℤ upper → (int_le lower c && int_le c upper) && true ≡ true
inside_bounds lower upper c a b = go (int_le lower c) (int_le c upper) (le_test lower c a) (le_test c upper b)
  where
    go : (p q : Bool) → p ≡ true → q ≡ true → (p && q) && true ≡ true
    go p q e f = rw (e, f)

column_body : (p : Program) (u : Scalars) → IsScalars u → (callee : Text → Callee) (given : Given) (upper : ℤ) → given.value u.upper ≡ Some upper → pos u.lower ≤ℤ upper
    → (c : ℤ) → pos u.lower ≤ℤ c → c ≤ℤ upper → (o : Orders) (s : Store) (j : ℕ) → s (scalar_of u.name u.id) ≡ Whole c
    → ending (meanings (wide_scene p u callee given) (wide_assignments u.id u.assigned)) o s j ≡ ended Normal j (ran (cell_of u.name c) u.assigned s)
column_body program u i callee given upper g l c a b o s j p =
    let scene : Scene = wide_scene program u callee given in
    ap (λ q. ending (meanings scene q) o s j) (sym (spelled_wide u.id u.assigned))
    ∙ runs scene u.dummies (in_column u.id) (cell_of u.name c) (λ t. t (scalar_of u.name u.id) ≡ Whole c)
    (cells_lie scene u.name u.id u.dummies (pos u.lower) upper c (wide_arrays program u i callee given upper g l) (inside_bounds (pos u.lower) upper c a b)) u.assigned i.assigned o s j p

-- The head of the loop

fits : (n : ℤ) → in_kind I4 n ≡ true → fitted I4 n ≡ Some n
unfolding fitted
fits n h = ap (λ b. cond b (Some n) None) h

one_in_kind : in_kind I4 (pos 1) ≡ true
unfolding in_kind least greatest
one_in_kind = refl

literal_in_kind : (n : ℕ) → n ≤ 2147483647 → in_kind I4 (pos n) ≡ true
unfolding in_kind least greatest
literal_in_kind n h = le_test (pos n) (pos 2147483647) (omega (arith, ints))

bounds_fit : (a b : ℤ) → in_kind I4 a ≡ true → in_kind I4 b ≡ true → (g : ℤ → ℤ → ℤ → Course Way) (o : Orders) (s : Store) (j : ℕ) → ending (bounds_converted I4 (Whole a) (Whole b) (Whole (pos 1)) g) o s j ≡ ending (g a b (pos 1)) o s j
bounds_fit a b f h g o s j =
    ap (λ r. ending (with_exact r (λ a'. converted I4 (Whole b) (λ b'. converted I4 (Whole (pos 1)) (λ d'. with_whole (Whole a') (λ m1. with_whole b' (λ m2. with_whole d' (λ m3. g m1 m2 m3))))))) o s j) (fits a f)
    ∙ ap (λ r. ending (with_exact r (λ b'. converted I4 (Whole (pos 1)) (λ d'. with_whole (Whole b') (λ m2. with_whole d' (λ m3. g a m2 m3))))) o s j) (fits b h)
    ∙ ap (λ r. ending (with_exact r (λ d'. with_whole (Whole d') (λ m3. g a b m3))) o s j) (fits (pos 1) one_in_kind)

loop_runs : (c : Scene) (home id upper : Text) (lower : ℕ) (high : ℤ) → c.meant id ≡ integer_of home id [] → c.meant upper ≡ integer_of home upper [] → lower ≤ 2147483647 → in_kind I4 high ≡ true
    → (r : Course Way) (o : Orders) (s : Store) (j : ℕ) → s (scalar_of home upper) ≡ Whole high
    → ending (loop c (record { variable = id; from = number lower; to = Name upper; step = None }) None r) o s j ≡ ending (counted (scalar_of home id) (pos lower) high (pos 1) r) o s j
loop_runs c home id upper lower high m n l k r o s j p =
    let head : Head = record { variable = id; from = number lower; to = Name upper; step = None } in
    let g : Element → ℤ → ℤ → ℤ → Course Way = λ e m1 m2 m3. loop_of None e m1 m2 m3 r in
    ap (λ w. ending (with_scalar w (λ e kind. head_evaluated c kind head (g e))) o s j) m
    ∙ ap (λ w. ending (and_then (named w []) (λ b. bounds_converted I4 (Whole (pos lower)) b (Whole (pos 1)) (g (scalar_of home id)))) o s j) n
    ∙ ap (λ v. ending (and_then (defined v) (λ b. bounds_converted I4 (Whole (pos lower)) b (Whole (pos 1)) (g (scalar_of home id)))) o s j) p
    ∙ bounds_fit (pos lower) high (literal_in_kind lower l) k (g (scalar_of home id)) o s j

-- The guard

guard_tests : (c : Scene) (home upper : Text) (lower : ℕ) (high : ℤ) → c.meant upper ≡ integer_of home upper [] → (o : Orders) (s : Store) (j : ℕ) → s (scalar_of home upper) ≡ Whole high
    → ending (meaning c (guard lower upper)) o s j ≡ ending (chosen (int_lt high (pos lower)) (Give {k = Way} Returns) (Give {k = Way} Normal)) o s j
unfolding compared
guard_tests c home upper lower high m o s j p =
    let test : Value → Course Item = λ v. operated Lt (kind_in c (Binary Lt (Name upper) (number lower))) v (Whole (pos lower)) in
    let left : Course Way = meanings c (Then Return Done) in
    let way : Value → Course Way = λ v. with_truth v (λ b. chosen b left (Give {k = Way} Normal)) in
    ap (λ w. ending (and_then (and_then (named w []) test) way) o s j) m
    ∙ ap (λ v. ending (and_then (and_then (defined v) test) way) o s j) p
    ∙ go (int_lt high (pos lower))
  where
    go : (b : Bool) → ending (chosen b (meanings c (Then Return Done)) (Give {k = Way} Normal)) o s j ≡ ending (chosen b (Give {k = Way} Returns) (Give {k = Way} Normal)) o s j
    go true = refl
    go false = refl

-- All of it

normal_stays : (o : Orders) (j : ℕ) (result : Option Store) → option_and_then (λ y. ending (then_run y.answer (Give {k = Way} Normal)) o y.store y.next) (ended Normal j result) ≡ ended Normal j result
normal_stays o j None = refl
normal_stays o j (Some t) = refl

looped_runs : (c : Scene) (home id upper : Text) (lower : ℕ) (high : ℤ) → c.meant id ≡ integer_of home id [] → c.meant upper ≡ integer_of home upper [] → lower ≤ 2147483647 → in_kind I4 high ≡ true → pos lower ≤ℤ high
    → (assigned : List (Text × Expr))
    → ((k : ℤ) → pos lower ≤ℤ k → k ≤ℤ high → (o : Orders) (s : Store) (j : ℕ) → s (scalar_of home id) ≡ Whole k → ending (meanings c (wide_assignments id assigned)) o s j ≡ ended Normal j (ran (cell_of home k) assigned s))
    → (o : Orders) (s : Store) (j : ℕ) → s (scalar_of home upper) ≡ Whole high
    → ending (meanings c (looped lower upper id assigned)) o s j ≡ ended Normal j (ran_all home id assigned (wholes (pos lower) high) s)
looped_runs c home id upper lower high m n l k h [] body o s j p = refl
looped_runs c home id upper lower high m n l k h (a ∷ rest) body o s j p =
    let r : Course Way = meanings c (wide_assignments id (a ∷ rest)) in
    ending_then (loop c (record { variable = id; from = number lower; to = Name upper; step = None }) None r) (λ g. then_run g (Give {k = Way} Normal)) o s j
    ∙ ap (option_and_then (λ y. ending (then_run y.answer (Give {k = Way} Normal)) o y.store y.next))
    (loop_runs c home id upper lower high m n l k r o s j p ∙ all_turns home id (a ∷ rest) r (pos lower) high body h o s j)
    ∙ normal_stays o j (ran_all home id (a ∷ rest) (wholes (pos lower) high) s)

guarded : (c : Scene) (home upper : Text) (lower : ℕ) (high : ℤ) (rest : Stmts) → c.meant upper ≡ integer_of home upper [] → (o : Orders) (s : Store) (j : ℕ) → s (scalar_of home upper) ≡ Whole high → (b : Bool) → int_lt high (pos lower) ≡ b
    → ending (meanings c (Then (guard lower upper) rest)) o s j ≡ option_and_then (λ y. ending (then_run y.answer (meanings c rest)) o y.store y.next) (ending (chosen b (Give {k = Way} Returns) (Give {k = Way} Normal)) o s j)
guarded c home upper lower high rest m o s j p b e =
    ending_then (meaning c (guard lower upper)) (λ g. then_run g (meanings c rest)) o s j
    ∙ ap (option_and_then (λ y. ending (then_run y.answer (meanings c rest)) o y.store y.next))
    (guard_tests c home upper lower high m o s j p ∙ ap (λ t. ending (chosen t (Give {k = Way} Returns) (Give {k = Way} Normal)) o s j) e)

pub wide_does : (u : Scalars) → IsScalars u → WideDoesSo u
wide_does u i program callee given upper o s j g k p =
    let c : Scene = wide_scene program u callee given in
    let rest : Stmts = looped u.lower u.upper u.id u.assigned in
    let guards = guarded c u.name u.upper u.lower upper rest (upper_means program u callee given) o s j p in
    record {
      none = λ h. does_as Returns (Then (guard u.lower u.upper) rest) c o s j (Some s) (guards true (lt_test upper (pos u.lower) h));
      some = λ h. does_as Normal (Then (guard u.lower u.upper) rest) c o s j (ran_all u.name u.id u.assigned (wholes (pos u.lower) upper) s)
          (guards false (ge_test upper (pos u.lower) h)
          ∙ looped_runs c u.name u.id u.upper u.lower upper (id_means program u i callee given) (upper_means program u callee given) i.lower k h u.assigned (column_body program u i callee given upper g h) o s j p);
    }
