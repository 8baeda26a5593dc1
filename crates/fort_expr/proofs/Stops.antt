-- Where the parser stops, and what it keeps.
use Rattle.std.proofs.Common.{◌≡◌, ℕ, ◌+◌, ◌<◌, ◌≤◌, Bool, true, false, List, [], ◌∷◌, ◌++◌, take, length, Option, None, Some, option_map, refl, sym, ◌∙◌, ap, subst, inl, inr, append_assoc, below_more, arith}
use Rattle.std.specs.Bool.{Decides}
use Rattle.std.specs.List.{slice_get}
use Rattle.std.proofs.lemmas.Bool.{true≢false}
use Rattle.std.proofs.lemmas.List.{take_more, take_all, append-nil}
use Rattle.std.proofs.lemmas.Option.{get_or_from_slice_get, slice_get_within}
use Rattle.fort_tree.specs.declared.choice.Mode.{Mode}
use Rattle.fort_tree.specs.declared.expr.Expr.{Expr}
use Rattle.fort_tree.specs.declared.place.Place.{Place}
use Rattle.fort_tree.specs.declared.statement.Token.{Token}
use Rattle.fort_grammar.specs.declared.class.Class.{Class}
use Rattle.fort_grammar.specs.declared.engine.Step.{Step}
use Rattle.fort_grammar.specs.declared.engine.Step.TheVariants as step
use Rattle.fort_grammar.specs.declared.table.Symbol.{Symbol}
use Rattle.fort_grammar.specs.Choose.{member}
use Rattle.fort_grammar.specs.First.{Good, firsts}
use Rattle.fort_grammar.specs.Token.{token_class}
use Rattle.fort_grammar.proofs.Productive.{derivable, token_of, class-sample}
use Rattle.fort_grammar.proofs.Reach.{reachable}
use Rattle.fort_grammar.proofs.Theory.{begins}
use Rattle.fort_expr.specs.declared.build.Tracked.{Tracked}
use Rattle.fort_expr.specs.declared.parsing.Outcome.TheVariants as outcome
use Rattle.fort_expr.specs.declared.value.Shape.{Shape}
use Rattle.fort_expr.specs.declared.value.Value.{Value}
use Rattle.fort_expr.specs.declared.value.Value.TheVariants.{Operand}
use Rattle.fort_expr.specs.Expression.{IsExpr}
use Rattle.fort_expr.specs.Faults.{Begins, Run, Reads, NoExpr, CouldStand, OutsideAt, InsideAt, PastLimit, Unfinished, LimitAt, Clean, Parses}
use Rattle.fort_expr.specs.Machine.{Ahead, Back, Advances, Finishes, Spelled, Finished, Dead, Never, JudgesPast, start}
use Rattle.fort_expr.specs.Outside.{Outside, item_of}
use Rattle.fort_expr.specs.Tracks.{shift_both, apply_both, no_values, one_value}
use Rattle.fort_expr.specs.Values.{operand}
use Rattle.fort_expr.specs.Words.{front_place}
use Rattle.fort_expr.proofs.Both.{derives-both, both-expr}
use Rattle.fort_expr.proofs.Deep.{deep-at, not-deep-at}
use Rattle.fort_expr.proofs.OutsideLaws.{item-sound, item-none, item-least}

next-take : (tokens : List Token) (i : ℕ) (t : Token) → slice_get tokens i ≡ Some t → take (i + 1) tokens ≡ take i tokens ++ t ∷ []
next-take tokens i t g = take_more tokens i t (slice_get_within tokens i t g) ∙ ap (λ q. take i tokens ++ q ∷ []) (get_or_from_slice_get tokens i t t g)

next-front : (tokens : List Token) (i : ℕ) (t : Token) (w : List Token) → slice_get tokens i ≡ Some t → take (i + 1) tokens ++ w ≡ take i tokens ++ t ∷ w
next-front tokens i t w g = ap (λ q. q ++ w) (next-take tokens i t g) ∙ append_assoc (take i tokens) (t ∷ []) w

-- an expression goes on from each state
begins-at : (front : List Token) (s : List Symbol) (v : Tracked) → Back front s v → Begins front
begins-at front s v back =
    let p = derivable Tracked shift_both apply_both s v in
    let q = both-expr (front ++ p.0) p.1 (back p.0 p.1 p.2) in
    (p.0, q.0, q.1)

-- what can stand next is what FIRST of the stack says
pub decides-next : (front : List Token) (s : List Symbol) (v : Tracked) → Ahead front s v → Back front s v → (c : Class) → Decides (member c (firsts s)) (CouldStand front c)
decides-next front s v ahead back c = (to, from)
  where
    to : member c (firsts s) ≡ true → CouldStand front c
    to h =
        let p = reachable Tracked shift_both apply_both (token_of c) s (subst (λ q. member q (firsts s) ≡ true) (sym (class-sample c)) h) v in
        let same : front ++ token_of c ∷ p.0 ≡ front ++ token_of c ∷ [] ++ p.0 = sym (append_assoc front (token_of c ∷ []) p.0) in
        let q = both-expr (front ++ token_of c ∷ [] ++ p.0) p.1 (subst (λ x. Spelled start x no_values p.1) same (back (token_of c ∷ p.0) p.1 p.2)) in
        (token_of c, class-sample c, (p.0, q.0, q.1))

    from : CouldStand front c → member c (firsts s) ≡ true
    from (t, e, (z, tree, d)) =
        let same : front ++ t ∷ [] ++ z ≡ front ++ t ∷ z = append_assoc front (t ∷ []) z in
        let k = ahead (t ∷ z) (one_value tree (front_place (front ++ t ∷ [] ++ z))) (subst (λ x. Spelled start x no_values (one_value tree (front_place (front ++ t ∷ [] ++ z)))) same (derives-both d)) in
        subst (λ q. member q (firsts s) ≡ true) e (begins Tracked shift_both apply_both k)

not-begins : (tokens : List Token) (i : ℕ) (t : Token) (s : List Symbol) (v : Tracked) → slice_get tokens i ≡ Some t → Ahead (take i tokens) s v → Dead t s v → Begins (take (i + 1) tokens) → ⊥
not-begins tokens i t s v g ahead a (z, e, d) =
    let front = take (i + 1) tokens ++ z in
    a z (one_value e (front_place front)) (ahead (t ∷ z) (one_value e (front_place front)) (subst (λ q. Spelled start q no_values (one_value e (front_place front))) (next-front tokens i t z g) (derives-both d)))

run-at : (tokens : List Token) (i : ℕ) (t : Token) (s : List Symbol) (v : Tracked) → slice_get tokens i ≡ Some t →
    Ahead (take i tokens) s v → Back (take i tokens) s v → Dead t s v → Run tokens i
run-at tokens i t s v g ahead back a = record {
  within = let h : i < length tokens = slice_get_within tokens i t g in omega (arith, h);
  begins = begins-at (take i tokens) s v back;
  dead = λ k b. not-begins tokens i t s v g ahead a b;
}

all-same : (tokens : List Token) (i : ℕ) → length tokens ≤ i → take i tokens ≡ take (length tokens) tokens
all-same tokens i j = take_all i tokens j ∙ sym (take_all (length tokens) tokens (omega arith))

run-end : (tokens : List Token) (i : ℕ) (s : List Symbol) (v : Tracked) → length tokens ≤ i → Back (take i tokens) s v → Run tokens (length tokens)
run-end tokens i s v j back = record {
  within = omega arith;
  begins = subst Begins (all-same tokens i j) (begins-at (take i tokens) s v back);
  dead = λ k b. absurd (omega (arith, k));
}

no-expr : (front : List Token) (s : List Symbol) (v : Tracked) → Ahead front s v → Never s [] v → NoExpr front
no-expr front s v ahead a x g = a (one_value x (front_place front)) (ahead [] (one_value x (front_place front)) (subst (λ q. Spelled start q no_values (one_value x (front_place front))) (sym (append-nil front)) (derives-both g)))

operand-eq : (x e : Expr) (a b : Place) → Operand x a ∷ [] ≡ Operand e b ∷ [] → x ≡ e
operand-eq x e a b h = ap operand h

pub reads : (front : List Token) (s : List Symbol) (v v1 : Tracked) (r : Expr) → r ≡ operand v1.values → Ahead front s v → Back front s v → Finished s v v1 → Reads front r
reads front s v v1 r f ahead back g =
    let all : front ++ [] ≡ front = append-nil front in
    let p = both-expr front v1 (subst (λ q. Spelled start q no_values v1) all (back [] v1 g.ends)) in
    let same : r ≡ p.0 = f ∙ ap operand p.2 in
    record {
      spelled = subst (λ q. IsExpr front [] q) (sym same) p.1;
      unique = λ x d. operand-eq x p.0 (front_place front) (front_place front) (ap (λ q. q.values) (g.alone (one_value x (front_place front)) (ahead [] (one_value x (front_place front)) (subst (λ q. Spelled start q no_values (one_value x (front_place front))) (sym all) (derives-both d)))) ∙ p.2) ∙ sym same;
    }

-- What the parser keeps.
pub record Kept (mode : Mode) (tokens : List Token) (i : ℕ) (s : List Symbol) (v : Tracked) : Type 0 where
  pub good : Good s
  pub ahead : Ahead (take i tokens) s v
  pub back : Back (take i tokens) s v
  pub clean : Clean mode tokens i

-- the next token, its class's successor, and the item that the test gives
abbrev Tested : Mode → List Token → ℕ → Token → List Symbol → Option ℕ
Tested mode tokens i t s = item_of mode (λ c. member c (firsts s)) t (option_map token_class (slice_get tokens (i + 1)))

pub tested : (mode : Mode) (tokens : List Token) (i : ℕ) (t : Token) (s : List Symbol) (r o : Option ℕ) (b : Option Class) →
    r ≡ item_of mode (λ c. member c (firsts s)) t b → b ≡ option_map token_class (slice_get tokens (i + 1)) → r ≡ o → Tested mode tokens i t s ≡ o
tested mode tokens i t s r o b e f g = sym (e ∙ ap (item_of mode (λ c. member c (firsts s)) t) f) ∙ g

token-eq : (t x : Token) → Some t ≡ Some x → t ≡ x
token-eq t x h = cc

pub inside-at : (mode : Mode) (tokens : List Token) (i : ℕ) (t : Token) (s : List Symbol) (v : Tracked) → slice_get tokens i ≡ Some t → Ahead (take i tokens) s v → Back (take i tokens) s v →
    Tested mode tokens i t s ≡ None → InsideAt mode tokens i
inside-at mode tokens i t s v g ahead back h k (x, e, d) =
    item-none mode (λ c. member c (firsts s)) (CouldStand (take i tokens)) (decides-next (take i tokens) s v ahead back) t (option_map token_class (slice_get tokens (i + 1))) h k
    (subst (λ q. Outside mode (CouldStand (take i tokens)) q (option_map token_class (slice_get tokens (i + 1))) k) (token-eq x t (sym e ∙ g)) d)

pub outside-at : (mode : Mode) (tokens : List Token) (i : ℕ) (t : Token) (s : List Symbol) (v : Tracked) (k : ℕ) → slice_get tokens i ≡ Some t → Ahead (take i tokens) s v → Back (take i tokens) s v →
    Tested mode tokens i t s ≡ Some k → OutsideAt mode tokens i k × ((other : ℕ) → OutsideAt mode tokens i other → k ≤ other)
outside-at mode tokens i t s v k g ahead back h =
    let behind = option_map token_class (slice_get tokens (i + 1)) in
    let can : Class → Bool = λ c. member c (firsts s) in
    let decides = decides-next (take i tokens) s v ahead back in (
      (t, g, item-sound mode can (CouldStand (take i tokens)) decides t behind k h),
      λ other (x, e, d). item-least mode can (CouldStand (take i tokens)) decides t behind k h other
          (subst (λ q. Outside mode (CouldStand (take i tokens)) q behind other) (token-eq x t (sym e ∙ g)) d),
    )

clean-next : (mode : Mode) (tokens : List Token) (i : ℕ) → Clean mode tokens i → InsideAt mode tokens i → (LimitAt mode tokens i → ⊥) → Clean mode tokens (i + 1)
clean-next mode tokens i h a b = record {
  inside = below_more (λ j. InsideAt mode tokens j) i h.inside a;
  limited = below_more (λ j. LimitAt mode tokens j → ⊥) i h.limited b;
}

-- The exits.

pub whole-exit : (mode : Mode) (tokens : List Token) (i : ℕ) (t : Token) (s s1 : List Symbol) (v v1 : Tracked) (p : Step) (r : Expr) → slice_get tokens i ≡ Some t → p ≡ step.Whole → r ≡ operand v1.values →
    Kept mode tokens i s v → Advances p t s v s1 v1 → Parses (outcome.Value r i) mode tokens
whole-exit mode tokens i t s s1 v v1 p r g e f h a0 =
    let a = subst (λ q. Advances q t s v s1 v1) e a0 in
    (run-at tokens i t s v g h.ahead h.back a.0, h.clean, reads (take i tokens) s v v1 r f h.ahead h.back a.1)

pub syntax-exit : (mode : Mode) (tokens : List Token) (i : ℕ) (t : Token) (s s1 : List Symbol) (v v1 : Tracked) (p : Step) → slice_get tokens i ≡ Some t → p ≡ step.Stuck → Tested mode tokens i t s ≡ None →
    Kept mode tokens i s v → Advances p t s v s1 v1 → Parses (outcome.Syntax i) mode tokens
syntax-exit mode tokens i t s s1 v v1 p g e n h a0 =
    let a = subst (λ q. Advances q t s v s1 v1) e a0 in
    (run-at tokens i t s v g h.ahead h.back a.0, h.clean, inside-at mode tokens i t s v g h.ahead h.back n, no-expr (take i tokens) s v h.ahead a.1)

pub outside-stuck-exit : (mode : Mode) (tokens : List Token) (i : ℕ) (t : Token) (s s1 : List Symbol) (v v1 : Tracked) (p : Step) (k : ℕ) → slice_get tokens i ≡ Some t → p ≡ step.Stuck → Tested mode tokens i t s ≡ Some k →
    Kept mode tokens i s v → Advances p t s v s1 v1 → Parses (outcome.Outside i k) mode tokens
outside-stuck-exit mode tokens i t s s1 v v1 p k g e n h a0 =
    let a = subst (λ q. Advances q t s v s1 v1) e a0 in
    let o = outside-at mode tokens i t s v k g h.ahead h.back n in
    (begins-at (take i tokens) s v h.back, h.clean, inr (no-expr (take i tokens) s v h.ahead a.1), o.0, o.1)

moved-ahead : (tokens : List Token) (i : ℕ) (t : Token) (s s1 : List Symbol) (v v1 : Tracked) (p : Step) → slice_get tokens i ≡ Some t → p ≡ step.Moved → Ahead (take i tokens) s v →
    Advances p t s v s1 v1 → Ahead (take (i + 1) tokens) s1 v1
moved-ahead tokens i t s s1 v v1 p g e ahead a w u x =
    (subst (λ q. Advances q t s v s1 v1) e a).ahead w u (ahead (t ∷ w) u (subst (λ q. Spelled start q no_values u) (next-front tokens i t w g) x))

moved-back : (tokens : List Token) (i : ℕ) (t : Token) (s s1 : List Symbol) (v v1 : Tracked) (p : Step) → slice_get tokens i ≡ Some t → p ≡ step.Moved → Back (take i tokens) s v →
    Advances p t s v s1 v1 → Back (take (i + 1) tokens) s1 v1
moved-back tokens i t s s1 v v1 p g e back a w u x =
    subst (λ q. Spelled start q no_values u) (sym (next-front tokens i t w g)) (back (t ∷ w) u ((subst (λ q. Advances q t s v s1 v1) e a).back w u x))

pub outside-moved-exit : (mode : Mode) (tokens : List Token) (i : ℕ) (t : Token) (s s1 : List Symbol) (v v1 : Tracked) (p : Step) (k : ℕ) → slice_get tokens i ≡ Some t → p ≡ step.Moved → Tested mode tokens i t s ≡ Some k →
    Kept mode tokens i s v → Advances p t s v s1 v1 → Parses (outcome.Outside i k) mode tokens
outside-moved-exit mode tokens i t s s1 v v1 p k g e n h a0 =
    let o = outside-at mode tokens i t s v k g h.ahead h.back n in
    (begins-at (take i tokens) s v h.back, h.clean, inl (begins-at (take (i + 1) tokens) s1 v1 (moved-back tokens i t s s1 v v1 p g e h.back a0)), o.0, o.1)

inside-end : (mode : Mode) (tokens : List Token) (n : ℕ) → length tokens ≤ n → InsideAt mode tokens n
inside-end mode tokens n h k (t, e, d) = let l : n < length tokens = slice_get_within tokens n t e in omega (arith, h, l)

clean-end : (mode : Mode) (tokens : List Token) (i : ℕ) → length tokens ≤ i → Clean mode tokens i → Clean mode tokens (length tokens)
clean-end mode tokens i j h = record {
  inside = λ k l. h.inside k (omega (arith, j, l));
  limited = λ k l. h.limited k (omega (arith, j, l));
}

past-at : (mode : Mode) (tokens : List Token) (i : ℕ) (t : Token) (s1 : List Symbol) (v1 : Tracked) (b : Bool) → slice_get tokens i ≡ Some t → b ≡ true → JudgesPast b mode i (token_class t) s1 v1.shapes →
    Ahead (take (i + 1) tokens) s1 v1 → Back (take (i + 1) tokens) s1 v1 → PastLimit mode tokens i
past-at mode tokens i t s1 v1 b g l j0 ahead back =
    elim (subst (λ q. JudgesPast q mode i (token_class t) s1 v1.shapes) l j0) [
      | inl k ↦ inl k
      | inr j ↦ inr (deep-at mode tokens i t s1 v1 true refl g ahead back j)
    ]

limit-exit : (mode : Mode) (tokens : List Token) (i : ℕ) (t : Token) (s s1 : List Symbol) (v v1 : Tracked) (p : Step) (b : Bool) → slice_get tokens i ≡ Some t → p ≡ step.Moved → Tested mode tokens i t s ≡ None →
    b ≡ true → JudgesPast b mode i (token_class t) s1 v1.shapes → (Unfinished tokens i → ⊥) → Kept mode tokens i s v → Advances p t s v s1 v1 → Parses (outcome.PastLimit i) mode tokens
limit-exit mode tokens i t s s1 v v1 p b g e n l j u h a0 =
    let back = moved-back tokens i t s s1 v v1 p g e h.back a0 in
    let ahead = moved-ahead tokens i t s s1 v v1 p g e h.ahead a0 in (
      slice_get_within tokens i t g,
      begins-at (take (i + 1) tokens) s1 v1 back,
      h.clean,
      inside-at mode tokens i t s v g h.ahead h.back n,
      (past-at mode tokens i t s1 v1 b g l j ahead back, u),
    )

-- past a limit, and not the last
pub inner-limit-exit : (mode : Mode) (tokens : List Token) (i : ℕ) (t : Token) (s s1 : List Symbol) (v v1 : Tracked) (p : Step) (b : Bool) → slice_get tokens i ≡ Some t → p ≡ step.Moved → Tested mode tokens i t s ≡ None →
    b ≡ true → JudgesPast b mode i (token_class t) s1 v1.shapes → (i + 1 ≡ length tokens → ⊥) → Kept mode tokens i s v → Advances p t s v s1 v1 → Parses (outcome.PastLimit i) mode tokens
inner-limit-exit mode tokens i t s s1 v v1 p b g e n l j m h a0 = limit-exit mode tokens i t s s1 v v1 p b g e n l j (λ u. m u.0) h a0

-- past a limit, and the last of a whole expression
pub last-limit-exit : (mode : Mode) (tokens : List Token) (i : ℕ) (t : Token) (s s1 : List Symbol) (v v1 v2 : Tracked) (p : Step) (b f : Bool) → slice_get tokens i ≡ Some t → p ≡ step.Moved → Tested mode tokens i t s ≡ None →
    b ≡ true → JudgesPast b mode i (token_class t) s1 v1.shapes → i + 1 ≡ length tokens → f ≡ true → Finishes f s1 v1 v2 → Kept mode tokens i s v → Advances p t s v s1 v1 → Parses (outcome.PastLimit i) mode tokens
last-limit-exit mode tokens i t s s1 v v1 v2 p b f g e n l j m k f0 h a0 =
    limit-exit mode tokens i t s s1 v v1 p b g e n l j (λ u. u.1 whole.0 whole.1) h a0
  where
    whole : (x : Expr) × IsExpr tokens [] x
    whole =
        let a = subst (λ q. Finishes q s1 v1 v2) k f0 in
        let d = moved-back tokens i t s s1 v v1 p g e h.back a0 [] v2 a.ends in
        let same : take (i + 1) tokens ++ [] ≡ tokens = append-nil (take (i + 1) tokens) ∙ take_all (i + 1) tokens (omega (arith, m)) in
        let q = both-expr tokens v2 (subst (λ x. Spelled start x no_values v2) same d) in
        (q.0, q.1)

-- the last of an unfinished expression, past a limit or not
pub unfinished-exit : (mode : Mode) (tokens : List Token) (i : ℕ) (t : Token) (s s1 : List Symbol) (v v1 v2 : Tracked) (p : Step) (f : Bool) → slice_get tokens i ≡ Some t → p ≡ step.Moved → Tested mode tokens i t s ≡ None →
    i + 1 ≡ length tokens → f ≡ false → Finishes f s1 v1 v2 → Kept mode tokens i s v → Advances p t s v s1 v1 → Parses (outcome.Syntax (length tokens)) mode tokens
unfinished-exit mode tokens i t s s1 v v1 v2 p f g e n m k f0 h a0 =
    let a = subst (λ q. Finishes q s1 v1 v2) k f0 in
    let j : length tokens ≤ i + 1 = omega (arith, m) in
    let none : NoExpr tokens = subst NoExpr (take_all (i + 1) tokens j) (no-expr (take (i + 1) tokens) s1 v1 (moved-ahead tokens i t s s1 v v1 p g e h.ahead a0) a) in
    let clean = clean-next mode tokens i h.clean (inside-at mode tokens i t s v g h.ahead h.back n) (λ x. x.1 (m, none)) in
    (run-end tokens (i + 1) s1 v1 j (moved-back tokens i t s s1 v v1 p g e h.back a0), clean-end mode tokens (i + 1) j clean, inside-end mode tokens (length tokens) (omega arith), subst NoExpr (sym (take_all (length tokens) tokens (omega arith))) none)

pub next-kept : (mode : Mode) (tokens : List Token) (i : ℕ) (t : Token) (s s1 : List Symbol) (v v1 : Tracked) (p : Step) (b : Bool) → slice_get tokens i ≡ Some t → p ≡ step.Moved → Tested mode tokens i t s ≡ None →
    b ≡ false → JudgesPast b mode i (token_class t) s1 v1.shapes → Kept mode tokens i s v → Advances p t s v s1 v1 → Kept mode tokens (i + 1) s1 v1
next-kept mode tokens i t s s1 v v1 p b g e n f j0 h a0 =
    let ahead = moved-ahead tokens i t s s1 v v1 p g e h.ahead a0 in
    let j = subst (λ q. JudgesPast q mode i (token_class t) s1 v1.shapes) f j0 in
    record {
      good = (subst (λ q. Advances q t s v s1 v1) e a0).good;
      ahead = ahead;
      back = moved-back tokens i t s s1 v v1 p g e h.back a0;
      clean = clean-next mode tokens i h.clean (inside-at mode tokens i t s v g h.ahead h.back n) (λ x. limits ahead j x.0);
    }
  where
    limits : Ahead (take (i + 1) tokens) s1 v1 → JudgesPast false mode i (token_class t) s1 v1.shapes → PastLimit mode tokens i → ⊥
    limits ahead j (inl k) = j.0 k
    limits ahead j (inr k) = not-deep-at mode tokens i t s1 v1 false refl g ahead j.1 k

pub whole-end : (mode : Mode) (tokens : List Token) (i : ℕ) (s : List Symbol) (v v1 : Tracked) (b : Bool) (r : Expr) → length tokens ≤ i → b ≡ true → r ≡ operand v1.values →
    Kept mode tokens i s v → Finishes b s v v1 → Parses (outcome.Value r (length tokens)) mode tokens
whole-end mode tokens i s v v1 b r j e f h a0 =
    let a = subst (λ q. Finishes q s v v1) e a0 in
    (run-end tokens i s v j h.back, clean-end mode tokens i j h.clean, subst (λ q. Reads q r) (all-same tokens i j) (reads (take i tokens) s v v1 r f h.ahead h.back a))

pub syntax-end : (mode : Mode) (tokens : List Token) (i : ℕ) (s : List Symbol) (v v1 : Tracked) (b : Bool) → length tokens ≤ i → b ≡ false →
    Kept mode tokens i s v → Finishes b s v v1 → Parses (outcome.Syntax (length tokens)) mode tokens
syntax-end mode tokens i s v v1 b j e h a0 =
    let a = subst (λ q. Finishes q s v v1) e a0 in
    (run-end tokens i s v j h.back, clean-end mode tokens i j h.clean, inside-end mode tokens (length tokens) (omega arith), subst NoExpr (all-same tokens i j) (no-expr (take i tokens) s v h.ahead a))

-- Where the parser begins.
pub begun : (mode : Mode) (tokens : List Token) (s : List Symbol) (a : List Value) (b : List Shape) → s ≡ start → a ≡ [] → b ≡ [] → Kept mode tokens 0 s (record { values = a; shapes = b })
begun mode tokens s a b e f g =
    subst (λ q. Kept mode tokens 0 q (record { values = a; shapes = b })) (sym e) (subst (λ q. Kept mode tokens 0 start (record { values = q; shapes = b })) (sym f) (subst (λ q. Kept mode tokens 0 start (record { values = []; shapes = q })) (sym g)
    (record {
      good = ((λ c h. absurd (true≢false (sym h))), tt);
      ahead = λ w u d. d;
      back = λ w u d. d;
      clean = record { inside = λ i h. absurd (omega (arith, h)); limited = λ i h. absurd (omega (arith, h)) };
    })))
