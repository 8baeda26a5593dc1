-- Two scenes in which names mean the same and callees are alike: expressions and statements without directives have alike
-- courses in both.
use Rattle.std.proofs.Common.{◌≡◌, ℕ, ℤ, pos, ◌+ℤ◌, refl, sym, List, [], ◌∷◌, Bool, true, false, Option, Some, None}
use Rattle.std.specs.Prelude.{◌&&◌, ◌||◌, is_none}
use Rattle.std.specs.List.{list_any}
use Rattle.std.proofs.lemmas.Bool.{false≢true}
use Rattle.fort_arith.specs.declared.kind.Kind.{Kind}
use Rattle.fort_arith.specs.declared.op.Intrinsic.{Intrinsic}
use Rattle.fort_arith.specs.declared.op.Intrinsic.TheVariants.{Abs, Int, Max, Min, Mod, Modulo, Sign, Size, Sum}
use Rattle.fort_tree.specs.Intrinsic.{intrinsic_named}
use Rattle.courses.specs.Element.{Value, Element}
use Rattle.courses.specs.Interaction.{Turn}
use Rattle.courses.specs.Course.{Sort, Number, Item, Way, Many, Normal, Exits, Cycles, Returns, Course, and_then}
use Rattle.claw_meaning.specs.Syntax.{Text, Expr, Numeral, Boolean, Name, Reference, Signed, Binary, Paren, Subscripts, No_more, At, Section, Between, Limit, Unbounded, Bounded, Head, Directive, Stmt, Assign, Call, If, Select, Do, Block, Piece, Exit, Cycle, Return, Stmts, Done, Then, Arms, No_arm, Arm, Cases, No_case, Case, Otherwise, Nothing_else, Else}
use Rattle.claw_meaning.specs.Scene.{Bounds, Meant, Unmeant, Held, Known, Called, Dummy, Passed, Callee, Scene, bounds_meant}
use Rattle.claw_meaning.specs.Evaluation.{kind_in, with_whole, referred, intrinsic, extent_asked, array_named, dimension_asked, is_variable, shapes, shapes_of_all, shape_among, agree, offsets_of, value, values, subscripts, place, arguments, function_called, first_bounds, other_bounds, settled, all_settled, limit_settled}
use Rattle.claw_meaning.specs.Statements.{Stored, one_assigned, all_assigned, assigned, assignment, tested, step_settled, step_value, head_evaluated, loop, holds, called, subroutine_called, meaning, meanings, first_true, first_holding, meaning_otherwise}
use Rattle.plain_units.specs.Undirected.{is_undirected, are_undirected, arms_undirected, cases_undirected, otherwise_undirected}
use Rattle.plain_units.specs.Calling.{Refers, AllRefer, LimitRefers, OptionRefers, HeadRefers, Calls, AllCall, ArmsCall, CasesCall, OtherwiseCalls}
use Rattle.plain_units.proofs.Alike.{Alike, gives, fails, tells, alike_then}
use Rattle.plain_units.proofs.Parts.{AlikeCallees, callees, if_alike, with_whole_alike, with_truth_alike, converted_alike, whole_same, truth_same, with_sign_same, operated_same, read_same, named_same, named_place_alike, indexed_place_alike, with_extent_same, elemental_same, sum_alike, passed_alike, function_alike, subroutine_alike, put_stored_same, then_run_alike, chosen_alike, unmarked_alike, with_scalar_alike, bounds_alike}

pub both : (a b : Bool) → a && b ≡ true → (a ≡ true) × (b ≡ true)
both true b h = (refl, h)
both false b h = absurd (false≢true h)

pub both_false : (a b : Bool) → a || b ≡ false → (a ≡ false) × (b ≡ false)
both_false false b h = (refl, h)
both_false true b h = absurd (false≢true (sym h))

module _ (m : Text → Meant) (f f' : Text → Callee) (IsSo : Text → Type 0)
    (alike_callees : (x unit : Text) (kind : Kind) → IsSo x → m x ≡ Called unit kind → AlikeCallees (f unit) (f' unit)) where
  abbrev c : Scene
  c = record { meant = m; callee = f }

  abbrev c' : Scene
  c' = record { meant = m; callee = f' }

  -- Expressions

  intrinsic_alike : (which : Intrinsic) (kind : Kind) (subs : Subscripts) (at at' : List ℤ → Course (Many Item)) → ((o : List ℤ) → Alike (Many Item) (at o) (at' o)) → (offsets : List ℤ)
      → Alike Item (intrinsic c which kind subs at offsets) (intrinsic c' which kind subs at' offsets)
  intrinsic_alike Size kind subs at at' h offsets = with_extent_same (extent_asked (bounds_meant (m (array_named subs))) (dimension_asked subs))
  intrinsic_alike Sum kind subs at at' h offsets = sum_alike kind at at' h (shapes_of_all c subs)
  intrinsic_alike Abs kind subs at at' h offsets = alike_then (at offsets) (at' offsets) _ _ (h offsets) (elemental_same Abs kind)
  intrinsic_alike Int kind subs at at' h offsets = alike_then (at offsets) (at' offsets) _ _ (h offsets) (elemental_same Int kind)
  intrinsic_alike Max kind subs at at' h offsets = alike_then (at offsets) (at' offsets) _ _ (h offsets) (elemental_same Max kind)
  intrinsic_alike Min kind subs at at' h offsets = alike_then (at offsets) (at' offsets) _ _ (h offsets) (elemental_same Min kind)
  intrinsic_alike Mod kind subs at at' h offsets = alike_then (at offsets) (at' offsets) _ _ (h offsets) (elemental_same Mod kind)
  intrinsic_alike Modulo kind subs at at' h offsets = alike_then (at offsets) (at' offsets) _ _ (h offsets) (elemental_same Modulo kind)
  intrinsic_alike Sign kind subs at at' h offsets = alike_then (at offsets) (at' offsets) _ _ (h offsets) (elemental_same Sign kind)

  abbrev Arguing : Sort → Type 0
  Arguing k = List Dummy → (List Passed → Course k) → Course k

  abbrev ArgueAlike : {k : Sort} → Arguing k → Arguing k → Type 0
  ArgueAlike {k} a a' = (ds : List Dummy) (g h : List Passed → Course k) → ((ps : List Passed) → Alike k (g ps) (h ps)) → Alike k (a ds g) (a' ds h)

  function_argued : (a a' : Arguing Item) → ArgueAlike {k = Item} a a' → (g h : Callee) → AlikeCallees g h → Alike Item (a g.dummies (function_called g)) (a' h.dummies (function_called h))
  function_argued a a' argue _ _ (callees dummies owns r q alike) = argue dummies _ _ (function_alike _ _ (callees dummies owns r q alike))

  subroutine_argued : (a a' : Arguing Way) → ArgueAlike {k = Way} a a' → (g h : Callee) → AlikeCallees g h → Alike Way (a g.dummies (subroutine_called g)) (a' h.dummies (subroutine_called h))
  subroutine_argued a a' argue _ _ (callees dummies owns r q alike) = argue dummies _ _ (subroutine_alike _ _ (callees dummies owns r q alike))

  referred_alike : (n : Meant) (which : Option Intrinsic) → (which ≡ None → (unit : Text) (kind : Kind) → n ≡ Called unit kind → AlikeCallees (f unit) (f' unit)) → (kind : Kind) (subs : Subscripts)
      (at at' : List ℤ → Course (Many Item)) (q q' : Course (Many Number)) (a a' : Arguing Item)
      → ((o : List ℤ) → Alike (Many Item) (at o) (at' o)) → Alike (Many Number) q q' → ArgueAlike {k = Item} a a' → (offsets : List ℤ)
      → Alike Item (referred c n which kind subs at q a offsets) (referred c' n which kind subs at' q' a' offsets)
  referred_alike n (Some which) t kind subs at at' q q' a a' i j k offsets = intrinsic_alike which kind subs at at' i offsets
  referred_alike Unmeant None t kind subs at at' q q' a a' i j k offsets = fails
  referred_alike (Held v) None t kind subs at at' q q' a a' i j k offsets = alike_then q q' _ _ j (read_same v)
  referred_alike (Known kind' value) None t kind subs at at' q q' a a' i j k offsets = fails
  referred_alike (Called unit kind') None t kind subs at at' q q' a a' i j k offsets = function_argued a a' k (f unit) (f' unit) (t refl unit kind' refl)

  mutual
    pub value_alike : (e : Expr) → Refers IsSo e → (offsets : List ℤ) → Alike Item (value c e offsets) (value c' e offsets)
    value_alike (Numeral n suffix) h offsets = whole_same (pos n)
    value_alike (Boolean b) h offsets = truth_same b
    value_alike (Name x) h offsets = named_same (m x) offsets
    value_alike (Reference x subs) h offsets =
        referred_alike (m x) (intrinsic_named x) (λ plain unit kind e. alike_callees x unit kind (h.0 plain) e) (kind_in c (Reference x subs)) subs _ _ _ _ _ _
        (λ os. values_alike subs h.1 os) (subscripts_alike subs h.1 offsets) (λ ds g g' a. arguments_alike subs h.1 ds g g' a) offsets
    value_alike (Signed sign e) h offsets = alike_then (value c e offsets) (value c' e offsets) _ _ (value_alike e h offsets) (with_sign_same sign (kind_in c e))
    value_alike (Binary op a b) h offsets =
        alike_then (value c a offsets) (value c' a offsets) _ _ (value_alike a h.0 offsets) (λ v. alike_then (value c b offsets) (value c' b offsets) _ _ (value_alike b h.1 offsets) (λ w. operated_same op (kind_in c (Binary op a b)) v w))
    value_alike (Paren e) h offsets = value_alike e h offsets

    pub values_alike : (subs : Subscripts) → AllRefer IsSo subs → (offsets : List ℤ) → Alike (Many Item) (values c subs offsets) (values c' subs offsets)
    values_alike No_more h offsets = gives {k = Many Item} []
    values_alike (At e rest) h offsets =
        alike_then (value c e offsets) (value c' e offsets) _ _ (value_alike e h.0 offsets) (λ v. alike_then (values c rest offsets) (values c' rest offsets) _ _ (values_alike rest h.1 offsets) (λ vs. gives {k = Many Item} (v ∷ vs)))
    values_alike (Section lower upper rest) h offsets = fails
    values_alike (Between n k rest) h offsets = fails

    pub subscripts_alike : (subs : Subscripts) → AllRefer IsSo subs → (offsets : List ℤ) → Alike (Many Number) (subscripts c subs offsets) (subscripts c' subs offsets)
    subscripts_alike No_more h offsets = gives {k = Many Number} []
    subscripts_alike (At e rest) h offsets =
        alike_then (value c e []) (value c' e []) _ _ (value_alike e h.0 []) (λ v. with_whole_alike v _ _ (λ i. alike_then (subscripts c rest offsets) (subscripts c' rest offsets) _ _ (subscripts_alike rest h.1 offsets) (λ is. gives {k = Many Number} (i ∷ is))))
    subscripts_alike (Section lower upper rest) h offsets = fails
    subscripts_alike (Between n k rest) h [] = fails
    subscripts_alike (Between n k rest) h (o ∷ offsets) =
        alike_then (subscripts c rest offsets) (subscripts c' rest offsets) _ _ (subscripts_alike rest h offsets) (λ is. gives {k = Many Number} ((n +ℤ o) ∷ is))

    pub place_alike : {s : Sort} (e : Expr) → Refers IsSo e → (offsets : List ℤ) (g g' : Element → Course s) → ((x : Element) → Alike s (g x) (g' x)) → Alike s (place c e offsets g) (place c' e offsets g')
    place_alike (Numeral n suffix) h offsets g g' a = fails
    place_alike (Boolean b) h offsets g g' a = fails
    place_alike (Name x) h offsets g g' a = named_place_alike (m x) offsets g g' a
    place_alike (Reference x subs) h offsets g g' a = indexed_place_alike (m x) (subscripts c subs offsets) (subscripts c' subs offsets) g g' (subscripts_alike subs h.1 offsets) a
    place_alike (Signed sign e) h offsets g g' a = fails
    place_alike (Binary op l r) h offsets g g' a = fails
    place_alike (Paren e) h offsets g g' a = fails

    pub arguments_alike : {s : Sort} (subs : Subscripts) → AllRefer IsSo subs → (ds : List Dummy) (g g' : List Passed → Course s) → ((ps : List Passed) → Alike s (g ps) (g' ps)) → Alike s (arguments c subs ds g) (arguments c' subs ds g')
    arguments_alike No_more h ds g g' a = a []
    arguments_alike (At e rest) h [] g g' a = fails
    arguments_alike (At e rest) h (d ∷ ds) g g' a =
        passed_alike d (is_variable c e) (shape_among (shapes c e)) (value c e []) (value c' e []) (λ os k. place c e os k) (λ os k. place c' e os k) _ _
        (value_alike e h.0 []) (λ os k k' b. place_alike e h.0 os k k' b) (λ p. arguments_alike rest h.1 ds (λ ps. g (p ∷ ps)) (λ ps. g' (p ∷ ps)) (λ ps. a (p ∷ ps)))
    arguments_alike (Section lower upper rest) h ds g g' a = fails
    arguments_alike (Between n k rest) h ds g g' a = fails

  mutual
    pub settled_alike : {s : Sort} (e : Expr) → Refers IsSo e → (g g' : Expr → Course s) → ((o : Expr) → Refers IsSo o → Alike s (g o) (g' o)) → Alike s (settled c e g) (settled c' e g')
    settled_alike (Numeral n suffix) h g g' a = a (Numeral n suffix) tt
    settled_alike (Boolean b) h g g' a = a (Boolean b) tt
    settled_alike (Name x) h g g' a = a (Name x) tt
    settled_alike (Reference x subs) h g g' a = all_settled_alike subs h.1 (bounds_meant (m x)) (λ o. g (Reference x o)) (λ o. g' (Reference x o)) (λ o i. a (Reference x o) (h.0, i))
    settled_alike (Signed sign e) h g g' a = settled_alike e h (λ o. g (Signed sign o)) (λ o. g' (Signed sign o)) (λ o i. a (Signed sign o) i)
    settled_alike (Binary op l r) h g g' a =
        settled_alike l h.0 (λ x. settled c r (λ y. g (Binary op x y))) (λ x. settled c' r (λ y. g' (Binary op x y)))
        (λ x i. settled_alike r h.1 (λ y. g (Binary op x y)) (λ y. g' (Binary op x y)) (λ y j. a (Binary op x y) (i, j)))
    settled_alike (Paren e) h g g' a = settled_alike e h (λ o. g (Paren o)) (λ o. g' (Paren o)) (λ o i. a (Paren o) i)

    pub all_settled_alike : {s : Sort} (subs : Subscripts) → AllRefer IsSo subs → (bs : Bounds) (g g' : Subscripts → Course s) → ((o : Subscripts) → AllRefer IsSo o → Alike s (g o) (g' o)) → Alike s (all_settled c subs bs g) (all_settled c' subs bs g')
    all_settled_alike No_more h bs g g' a = a No_more tt
    all_settled_alike (At e rest) h bs g g' a =
        settled_alike e h.0 (λ x. all_settled c rest (other_bounds bs) (λ y. g (At x y))) (λ x. all_settled c' rest (other_bounds bs) (λ y. g' (At x y)))
        (λ x i. all_settled_alike rest h.1 (other_bounds bs) (λ y. g (At x y)) (λ y. g' (At x y)) (λ y j. a (At x y) (i, j)))
    all_settled_alike (Section lower upper rest) h bs g g' a =
        limit_alike lower h.0 (first_bounds bs).0 (λ n. limit_settled c upper (first_bounds bs).1 (λ k. all_settled c rest (other_bounds bs) (λ y. g (Between n k y)))) (λ n. limit_settled c' upper (first_bounds bs).1 (λ k. all_settled c' rest (other_bounds bs) (λ y. g' (Between n k y))))
        (λ n. limit_alike upper h.1 (first_bounds bs).1 (λ k. all_settled c rest (other_bounds bs) (λ y. g (Between n k y))) (λ k. all_settled c' rest (other_bounds bs) (λ y. g' (Between n k y)))
        (λ k. all_settled_alike rest h.2 (other_bounds bs) (λ y. g (Between n k y)) (λ y. g' (Between n k y)) (λ y j. a (Between n k y) j)))
    all_settled_alike (Between n k rest) h bs g g' a = all_settled_alike rest h (other_bounds bs) (λ y. g (Between n k y)) (λ y. g' (Between n k y)) (λ y j. a (Between n k y) j)

    pub limit_alike : {s : Sort} (l : Limit) → LimitRefers IsSo l → (declared : ℤ) (g g' : ℤ → Course s) → ((n : ℤ) → Alike s (g n) (g' n)) → Alike s (limit_settled c l declared g) (limit_settled c' l declared g')
    limit_alike Unbounded h declared g g' a = a declared
    limit_alike (Bounded e) h declared g g' a =
        settled_alike e h (λ o. and_then (value c o []) (λ v. with_whole v g)) (λ o. and_then (value c' o []) (λ v. with_whole v g'))
        (λ o i. alike_then (value c o []) (value c' o []) _ _ (value_alike o i []) (λ v. with_whole_alike v g g' a))

  -- Assignments

  one_alike : {s : Sort} (left right : Expr) → Refers IsSo left → Refers IsSo right → (offsets : List ℤ) (g g' : Stored → Course s) → ((x : Stored) → Alike s (g x) (g' x)) → Alike s (one_assigned c left right offsets g) (one_assigned c' left right offsets g')
  one_alike left right h i offsets g g' a =
      alike_then (value c right offsets) (value c' right offsets) _ _ (value_alike right i offsets)
      (λ v. place_alike left h offsets _ _ (λ e. converted_alike (kind_in c left) v _ _ (λ w. a (record { at = e; gets = w }))))

  all_alike : {s : Sort} (left right : Expr) → Refers IsSo left → Refers IsSo right → (os : List (List ℤ)) (g g' : List Stored → Course s) → ((xs : List Stored) → Alike s (g xs) (g' xs)) → Alike s (all_assigned c left right os g) (all_assigned c' left right os g')
  all_alike left right h i [] g g' a = a []
  all_alike left right h i (o ∷ os) g g' a = one_alike left right h i o _ _ (λ x. all_alike left right h i os (λ xs. g (x ∷ xs)) (λ xs. g' (x ∷ xs)) (λ xs. a (x ∷ xs)))

  assigned_alike : (left right : Expr) → Refers IsSo left → Refers IsSo right → (shape : List ℕ) → Alike Way (assigned c left right shape) (assigned c' left right shape)
  assigned_alike left right h i [] = one_alike left right h i [] _ _ (λ x. put_stored_same (x ∷ []))
  assigned_alike left right h i (n ∷ ns) =
      if_alike (agree ((n ∷ ns) ∷ shapes c right)) _ _ _ _ (all_alike left right h i (offsets_of (n ∷ ns)) _ _ put_stored_same) fails

  assignment_alike : (left right : Expr) → Refers IsSo left → Refers IsSo right → Alike Way (assignment c left right) (assignment c' left right)
  assignment_alike left right h i =
      settled_alike left h _ _ (λ l j. settled_alike right i _ _ (λ r k. assigned_alike l r j k (shape_among (shapes c l))))

  -- Control

  tested_alike : (e : Expr) → Refers IsSo e → (g g' : Bool → Course Way) → ((b : Bool) → Alike Way (g b) (g' b)) → Alike Way (tested c e g) (tested c' e g')
  tested_alike e h g g' a = settled_alike e h _ _ (λ o i. alike_then (value c o []) (value c' o []) _ _ (value_alike o i []) (λ v. with_truth_alike v g g' a))

  step_settled_alike : (e : Option Expr) → OptionRefers IsSo e → (g g' : Option Expr → Course Way) → ((o : Option Expr) → OptionRefers IsSo o → Alike Way (g o) (g' o)) → Alike Way (step_settled c e g) (step_settled c' e g')
  step_settled_alike None h g g' a = a None tt
  step_settled_alike (Some e) h g g' a = settled_alike e h _ _ (λ o i. a (Some o) i)

  step_value_alike : (e : Option Expr) → OptionRefers IsSo e → (g g' : Value → Course Way) → ((v : Value) → Alike Way (g v) (g' v)) → Alike Way (step_value c e g) (step_value c' e g')
  step_value_alike None h g g' a = a _
  step_value_alike (Some e) h g g' a = alike_then (value c e []) (value c' e []) g g' (value_alike e h []) a

  head_alike : (kind : Kind) (d : Head) → HeadRefers IsSo d → (g g' : ℤ → ℤ → ℤ → Course Way) → ((m1 m2 m3 : ℤ) → Alike Way (g m1 m2 m3) (g' m1 m2 m3)) → Alike Way (head_evaluated c kind d g) (head_evaluated c' kind d g')
  head_alike kind d h g g' a =
      settled_alike d.from h.0 _ _ (λ from i. settled_alike d.to h.1 _ _ (λ to j. step_settled_alike d.step h.2 _ _ (λ step k.
      alike_then (value c from []) (value c' from []) _ _ (value_alike from i []) (λ x. alike_then (value c to []) (value c' to []) _ _ (value_alike to j []) (λ y. step_value_alike step k _ _ (λ z. bounds_alike kind x y z g g' a))))))

  loop_alike : (d : Head) → HeadRefers IsSo d → (mark : Option Directive) → is_none mark ≡ true → (r r' : Course Way) → Alike Way r r' → Alike Way (loop c d mark r) (loop c' d mark r')
  loop_alike d h None e r r' a = with_scalar_alike (m d.variable) _ _ (λ x kind. head_alike kind d h _ _ (λ m1 m2 m3. unmarked_alike x m1 m2 m3 r r' a))
  loop_alike d h (Some mark) e r r' a = absurd (false≢true e)

  called_alike : (n : Meant) → ((unit : Text) (kind : Kind) → n ≡ Called unit kind → AlikeCallees (f unit) (f' unit)) → (args : Subscripts) → AllRefer IsSo args → Alike Way (called c n args) (called c' n args)
  called_alike Unmeant t args h = fails
  called_alike (Held v) t args h = fails
  called_alike (Known kind value) t args h = fails
  called_alike (Called unit kind) t args h =
      all_settled_alike args h [] _ _ (λ o i. subroutine_argued (λ ds g. arguments c o ds g) (λ ds g. arguments c' o ds g) (λ ds g g' a. arguments_alike o i ds g g' a) (f unit) (f' unit) (t unit kind refl))

  mutual
    pub meaning_alike : (s : Stmt) → Calls IsSo IsSo s → is_undirected s ≡ true → Alike Way (meaning c s) (meaning c' s)
    meaning_alike (Assign left right) h u = tells Turn _ _ (assignment_alike left right h.0 h.1)
    meaning_alike (Call x args forward) h u = tells Turn _ _ (called_alike (m x) (λ unit kind e. alike_callees x unit kind h.0 e) args h.1)
    meaning_alike (If arms other) h u =
        let w = both (arms_undirected arms) (otherwise_undirected other) u in
        tells Turn _ _ (first_true_alike arms h.0 w.0 _ _ (otherwise_alike other h.1 w.1))
    meaning_alike (Select e cases other) h u =
        let w = both (cases_undirected cases) (otherwise_undirected other) u in
        tells Turn _ _ (settled_alike e h.0 _ _ (λ o i. alike_then (value c o []) (value c' o []) _ _ (value_alike o i []) (λ v. with_whole_alike v _ _ (λ n. first_holding_alike cases h.1 w.0 n _ _ (otherwise_alike other h.2 w.1)))))
    meaning_alike (Do d body mark) h u =
        let w = both (is_none mark) (are_undirected body) u in
        tells Turn _ _ (loop_alike d h.0 mark w.0 _ _ (meanings_alike body h.1 w.1))
    meaning_alike (Block d body) h u = absurd (false≢true u)
    meaning_alike (Piece body) h u = absurd (false≢true u)
    meaning_alike Exit h u = tells Turn _ _ (gives {k = Way} Exits)
    meaning_alike Cycle h u = tells Turn _ _ (gives {k = Way} Cycles)
    meaning_alike Return h u = tells Turn _ _ (gives {k = Way} Returns)

    pub meanings_alike : (s : Stmts) → AllCall IsSo IsSo s → are_undirected s ≡ true → Alike Way (meanings c s) (meanings c' s)
    meanings_alike Done h u = gives {k = Way} Normal
    meanings_alike (Then s rest) h u =
        let w = both (is_undirected s) (are_undirected rest) u in
        alike_then (meaning c s) (meaning c' s) _ _ (meaning_alike s h.0 w.0) (λ g. then_run_alike g _ _ (meanings_alike rest h.1 w.1))

    pub first_true_alike : (arms : Arms) → ArmsCall IsSo IsSo arms → arms_undirected arms ≡ true → (r r' : Course Way) → Alike Way r r' → Alike Way (first_true c arms r) (first_true c' arms r')
    first_true_alike No_arm h u r r' a = a
    first_true_alike (Arm test body rest) h u r r' a =
        let w = both (are_undirected body) (arms_undirected rest) u in
        tested_alike test h.0 _ _ (λ b. chosen_alike b _ _ _ _ (meanings_alike body h.1 w.0) (first_true_alike rest h.2 w.1 r r' a))

    pub first_holding_alike : (cases : Cases) → CasesCall IsSo IsSo cases → cases_undirected cases ≡ true → (n : ℤ) (r r' : Course Way) → Alike Way r r' → Alike Way (first_holding c cases n r) (first_holding c' cases n r')
    first_holding_alike No_case h u n r r' a = a
    first_holding_alike (Case ranges body rest) h u n r r' a =
        let w = both (are_undirected body) (cases_undirected rest) u in
        if_alike (list_any (holds c n) ranges) _ _ _ _ (meanings_alike body h.0 w.0) (first_holding_alike rest h.1 w.1 n r r' a)

    pub otherwise_alike : (o : Otherwise) → OtherwiseCalls IsSo IsSo o → otherwise_undirected o ≡ true → Alike Way (meaning_otherwise c o) (meaning_otherwise c' o)
    otherwise_alike Nothing_else h u = gives {k = Way} Normal
    otherwise_alike (Else body) h u = meanings_alike body h u
