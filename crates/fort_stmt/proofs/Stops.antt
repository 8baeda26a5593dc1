-- Where the parser of statements stops, and what it keeps.
use Rattle.std.proofs.Common.{◌≡◌, ℕ, ◌+◌, ◌<◌, ◌≤◌, Bool, true, false, List, [], ◌∷◌, ◌++◌, take, drop, length, Some, sym, ◌∙◌, ap, subst, append_assoc, arith}
use Rattle.std.specs.Bool.{Decides}
use Rattle.std.specs.List.{slice_get}
use Rattle.std.proofs.lemmas.Bool.{true≢false}
use Rattle.std.proofs.lemmas.List.{take_more, take_all, append-nil, take-append-drop}
use Rattle.std.proofs.lemmas.Option.{get_or_from_slice_get, slice_get_within}
use Rattle.fort_tree.specs.declared.statement.Statement.{Statement}
use Rattle.fort_tree.specs.declared.statement.Token.{Token}
use Rattle.fort_grammar.specs.declared.class.Class.{Class}
use Rattle.fort_grammar.specs.declared.engine.Step.{Step}
use Rattle.fort_grammar.specs.declared.engine.Step.TheVariants as step
use Rattle.fort_grammar.specs.declared.table.Symbol.{Symbol}
use Rattle.fort_grammar.specs.Choose.{member}
use Rattle.fort_grammar.specs.First.{Good, firsts}
use Rattle.fort_grammar.proofs.Productive.{derivable, token_of, class-sample}
use Rattle.fort_grammar.proofs.Reach.{reachable}
use Rattle.fort_grammar.proofs.Theory.{begins}
use Rattle.fort_stmt.specs.declared.value.Draft.{Draft}
use Rattle.fort_stmt.specs.declared.parsing.Outcome.TheVariants as outcome
use Rattle.fort_stmt.specs.Faults.{Begins, Run, Reads, NoStatement, CouldStand, Parses}
use Rattle.fort_stmt.specs.Form.{IsStatement}
use Rattle.fort_stmt.specs.Machine.{Ahead, Back, Advances, Finishes, Spelled, Finished, Dead, Never, start}
use Rattle.fort_stmt.specs.Values.{act_on, take_in, blank}
use Rattle.fort_stmt.proofs.Complete.{derives-form}
use Rattle.fort_stmt.proofs.Sound.{form-derived}

next-take : (tokens : List Token) (i : ℕ) (t : Token) → slice_get tokens i ≡ Some t → take (i + 1) tokens ≡ take i tokens ++ t ∷ []
next-take tokens i t g = take_more tokens i t (slice_get_within tokens i t g) ∙ ap (λ q. take i tokens ++ q ∷ []) (get_or_from_slice_get tokens i t t g)

pub next-front : (tokens : List Token) (i : ℕ) (t : Token) (w : List Token) → slice_get tokens i ≡ Some t → take (i + 1) tokens ++ w ≡ take i tokens ++ t ∷ w
next-front tokens i t w g = ap (λ q. q ++ w) (next-take tokens i t g) ∙ append_assoc (take i tokens) (t ∷ []) w

-- a statement goes on from each state
pub begins-at : (front : List Token) (s : List Symbol) (p : Draft) → Back front s p → Begins front
begins-at front s p back =
    let d = derivable Draft take_in act_on s p in
    let q = form-derived (front ++ d.0) blank d.1 (back d.0 d.1 d.2) in
    (d.0, q.0, q.1)

-- what can stand next is what FIRST of the stack says
pub decides-next : (front : List Token) (s : List Symbol) (p : Draft) → Ahead front s p → Back front s p → (c : Class) → Decides (member c (firsts s)) (CouldStand front c)
decides-next front s p ahead back c = (to, from)
  where
    to : member c (firsts s) ≡ true → CouldStand front c
    to h =
        let d = reachable Draft take_in act_on (token_of c) s (subst (λ q. member q (firsts s) ≡ true) (sym (class-sample c)) h) p in
        let same : front ++ token_of c ∷ d.0 ≡ front ++ token_of c ∷ [] ++ d.0 = sym (append_assoc front (token_of c ∷ []) d.0) in
        let q = form-derived (front ++ token_of c ∷ [] ++ d.0) blank d.1 (subst (λ x. Spelled start x blank d.1) same (back (token_of c ∷ d.0) d.1 d.2)) in
        (token_of c, class-sample c, (d.0, q.0, q.1))

    from : CouldStand front c → member c (firsts s) ≡ true
    from (t, e, (z, form, d)) =
        let same : front ++ t ∷ [] ++ z ≡ front ++ t ∷ z = append_assoc front (t ∷ []) z in
        let u = derives-form d blank in
        let k = ahead (t ∷ z) u.0 (subst (λ x. Spelled start x blank u.0) same u.1) in
        subst (λ q. member q (firsts s) ≡ true) e (begins Draft take_in act_on k)

not-begins : (tokens : List Token) (i : ℕ) (t : Token) (s : List Symbol) (p : Draft) → slice_get tokens i ≡ Some t → Ahead (take i tokens) s p → Dead t s p → Begins (take (i + 1) tokens) → ⊥
not-begins tokens i t s p g ahead a (z, form, d) =
    let u = derives-form d blank in
    a z u.0 (ahead (t ∷ z) u.0 (subst (λ q. Spelled start q blank u.0) (next-front tokens i t z g) u.1))

pub run-at : (tokens : List Token) (i : ℕ) (t : Token) (s : List Symbol) (p : Draft) → slice_get tokens i ≡ Some t →
    Ahead (take i tokens) s p → Back (take i tokens) s p → Dead t s p → Run tokens i
run-at tokens i t s p g ahead back a = record {
  within = let h : i < length tokens = slice_get_within tokens i t g in omega (arith, h);
  begins = begins-at (take i tokens) s p back;
  dead = λ k b. not-begins tokens i t s p g ahead a b;
}

pub all-same : (tokens : List Token) (i : ℕ) → length tokens ≤ i → take i tokens ≡ take (length tokens) tokens
all-same tokens i j = take_all i tokens j ∙ sym (take_all (length tokens) tokens (omega arith))

pub run-end : (tokens : List Token) (i : ℕ) (s : List Symbol) (p : Draft) → length tokens ≤ i → Back (take i tokens) s p → Run tokens (length tokens)
run-end tokens i s p j back = record {
  within = omega arith;
  begins = subst Begins (all-same tokens i j) (begins-at (take i tokens) s p back);
  dead = λ k b. absurd (omega (arith, k));
}

pub no-statement : (front : List Token) (s : List Symbol) (p : Draft) → Ahead front s p → Never s [] p → NoStatement front
no-statement front s p ahead a x d =
    let u = derives-form d blank in
    a u.0 (ahead [] u.0 (subst (λ q. Spelled start q blank u.0) (sym (append-nil front)) u.1))

-- The statement of a whole run is the draft's, and no other.
pub reads : (front : List Token) (s : List Symbol) (p q : Draft) (r : Statement) → r ≡ q.statement → Ahead front s p → Back front s p → Finished s p q → Reads front r
reads front s p q r f ahead back g =
    let all : front ++ [] ≡ front = append-nil front in
    let d = form-derived front blank q (subst (λ x. Spelled start x blank q) all (back [] q g.ends)) in
    record {
      spelled = subst (λ x. IsStatement front x) (sym d.2 ∙ sym f) d.1;
      unique = λ x e. let u = derives-form e blank in sym u.2 ∙ (ap (λ y. y.statement) (g.alone u.0 (ahead [] u.0 (subst (λ y. Spelled start y blank u.0) (sym all) u.1))) ∙ sym f);
    }

-- What the parser keeps of the tokens that it has taken.
pub record Kept (tokens : List Token) (i : ℕ) (s : List Symbol) (p : Draft) : Type 0 where
  pub good : Good s
  pub ahead : Ahead (take i tokens) s p
  pub back : Back (take i tokens) s p

pub moved : (tokens : List Token) (i : ℕ) (t : Token) (s s1 : List Symbol) (p p1 : Draft) (a : Step) → slice_get tokens i ≡ Some t → a ≡ step.Moved → Kept tokens i s p → Advances a t s p s1 p1 → Kept tokens (i + 1) s1 p1
moved tokens i t s s1 p p1 a g e h m0 =
    let m = subst (λ q. Advances q t s p s1 p1) e m0 in
    record {
      good = m.good;
      ahead = λ w u x. m.ahead w u (h.ahead (t ∷ w) u (subst (λ q. Spelled start q blank u) (next-front tokens i t w g) x));
      back = λ w u x. subst (λ q. Spelled start q blank u) (sym (next-front tokens i t w g)) (h.back (t ∷ w) u (m.back w u x));
    }

-- Where the parser begins.
pub begun : (tokens : List Token) → Kept tokens 0 start blank
begun tokens = record {
  good = ((λ c h. absurd (true≢false (sym h))), tt);
  ahead = λ w u d. d;
  back = λ w u d. d;
}

cut : (tokens : List Token) (n : ℕ) (s : Statement) → IsStatement tokens s → Begins (take n tokens)
cut tokens n s d = (drop n tokens, s, subst (λ q. IsStatement q s) (sym (take-append-drop n tokens)) d)

-- The exits.

dead-exit : (tokens : List Token) (i : ℕ) (t : Token) (s : List Symbol) (p : Draft) → slice_get tokens i ≡ Some t → Kept tokens i s p → Dead t s p → Parses (outcome.Syntax i) tokens
dead-exit tokens i t s p g h a =
    let r = run-at tokens i t s p g h.ahead h.back a in
    (r, λ x d. r.dead (slice_get_within tokens i t g) (cut tokens (i + 1) x d))

pub whole-exit : (tokens : List Token) (i : ℕ) (t : Token) (s s1 : List Symbol) (p p1 : Draft) (a : Step) → slice_get tokens i ≡ Some t → a ≡ step.Whole → Kept tokens i s p → Advances a t s p s1 p1 → Parses (outcome.Syntax i) tokens
whole-exit tokens i t s s1 p p1 a g e h m0 = let m = subst (λ q. Advances q t s p s1 p1) e m0 in dead-exit tokens i t s p g h m.0

pub stuck-exit : (tokens : List Token) (i : ℕ) (t : Token) (s s1 : List Symbol) (p p1 : Draft) (a : Step) → slice_get tokens i ≡ Some t → a ≡ step.Stuck → Kept tokens i s p → Advances a t s p s1 p1 → Parses (outcome.Syntax i) tokens
stuck-exit tokens i t s s1 p p1 a g e h m0 = let m = subst (λ q. Advances q t s p s1 p1) e m0 in dead-exit tokens i t s p g h m.0

pub form-end : (tokens : List Token) (i : ℕ) (s : List Symbol) (p p1 : Draft) (b : Bool) (r : Statement) → length tokens ≤ i → b ≡ true → r ≡ p1.statement → Kept tokens i s p → Finishes b s p p1 → Parses (outcome.Form r) tokens
form-end tokens i s p p1 b r j e f h m0 =
    subst (λ q. Reads q r) (take_all i tokens j) (reads (take i tokens) s p p1 r f h.ahead h.back (subst (λ q. Finishes q s p p1) e m0))

pub syntax-end : (tokens : List Token) (i : ℕ) (s : List Symbol) (p p1 : Draft) (b : Bool) → length tokens ≤ i → b ≡ false → Kept tokens i s p → Finishes b s p p1 → Parses (outcome.Syntax (length tokens)) tokens
syntax-end tokens i s p p1 b j e h m0 =
    (run-end tokens i s p j h.back, subst NoStatement (take_all i tokens j) (no-statement (take i tokens) s p h.ahead (subst (λ q. Finishes q s p p1) e m0)))
