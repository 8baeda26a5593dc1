-- Where the judgement stops, and what it keeps.
use Rattle.std.proofs.Common.{◌≡◌, ℕ, ◌+◌, ◌<◌, ◌≤◌, Bool, true, false, List, [], ◌∷◌, ◌++◌, take, drop, length, Option, None, Some, sym, ◌∙◌, ap, subst, append_assoc, below_more, arith}
use Rattle.std.specs.Bool.{Decides}
use Rattle.std.specs.List.{slice_get}
use Rattle.std.proofs.lemmas.Bool.{true≢false}
use Rattle.std.proofs.lemmas.List.{take_more, take_all, append-nil, take-append-drop}
use Rattle.std.proofs.lemmas.Option.{get_or_from_slice_get, slice_get_within}
use Rattle.fort_tree.specs.declared.choice.Mode.{Mode}
use Rattle.fort_tree.specs.declared.statement.Statement.{Statement}
use Rattle.fort_tree.specs.declared.statement.Token.{Token}
use Rattle.fort_grammar.specs.declared.class.Class.{Class}
use Rattle.fort_grammar.specs.declared.engine.Step.{Step}
use Rattle.fort_grammar.specs.declared.engine.Step.TheVariants as step
use Rattle.fort_grammar.specs.declared.table.Symbol.{Symbol}
use Rattle.fort_grammar.specs.Choose.{member}
use Rattle.fort_grammar.specs.Engine as engine
use Rattle.fort_grammar.specs.First.{Good, firsts}
use Rattle.fort_grammar.proofs.Productive.{derivable, token_of, class-sample}
use Rattle.fort_grammar.proofs.Reach.{reachable}
use Rattle.fort_grammar.proofs.Theory.{begins}
use Rattle.fort_stmt.specs.declared.judging.Extent.{Extent}
use Rattle.fort_stmt.specs.declared.judging.Extent.TheVariants as extent
use Rattle.fort_stmt.specs.declared.judging.Judgement.TheVariants as judgement
use Rattle.fort_stmt.specs.declared.outline.Outline.{Outline}
use Rattle.fort_stmt.specs.declared.outline.Outline.TheVariants as outline
use Rattle.fort_stmt.specs.declared.sort.Sort.{Sort}
use Rattle.fort_stmt.specs.Faults.{Begins, Run, NoStatement, CouldStand, InsideAt, Inside, Extends, Judges}
use Rattle.fort_stmt.specs.Form.{IsStatement}
use Rattle.fort_stmt.specs.Machine.{start}
use Rattle.fort_stmt.specs.Outline.{outline_of, sketch_on, pass, first_name, sort_with}
use Rattle.fort_stmt.specs.Outside.{Outside, item_of}
use Rattle.fort_stmt.specs.Sort.{sort_of}
use Rattle.fort_stmt.proofs.Outlines.{Sketched, derives-outline, outline-derived, statement-sorted}
use Rattle.fort_stmt.proofs.OutsideLaws.{item-sound, item-none, item-least}

-- The engine's words at outlines.

abbrev Dead : Token → List Symbol → Outline → Type 0
Dead = engine.Dead Outline pass sketch_on

abbrev Never : List Symbol → List Token → Outline → Type 0
Never = engine.Never Outline pass sketch_on

abbrev pub Finishes : Bool → List Symbol → Outline → Outline → Type 0
Finishes = engine.Finishes Outline pass sketch_on

abbrev pub Advances : Step → Token → List Symbol → Outline → List Symbol → Outline → Type 0
Advances = engine.Advances Outline pass sketch_on

-- What the state derives, and what a statement is behind the tokens so far, are the same.
abbrev Ahead : List Token → List Symbol → Outline → Type 0
Ahead front s p = (w : List Token) (u : Outline) → Sketched start (front ++ w) outline.Contains u → Sketched s w p u

abbrev Back : List Token → List Symbol → Outline → Type 0
Back front s p = (w : List Token) (u : Outline) → Sketched s w p u → Sketched start (front ++ w) outline.Contains u

next-take : (tokens : List Token) (i : ℕ) (t : Token) → slice_get tokens i ≡ Some t → take (i + 1) tokens ≡ take i tokens ++ t ∷ []
next-take tokens i t g = take_more tokens i t (slice_get_within tokens i t g) ∙ ap (λ q. take i tokens ++ q ∷ []) (get_or_from_slice_get tokens i t t g)

next-front : (tokens : List Token) (i : ℕ) (t : Token) (w : List Token) → slice_get tokens i ≡ Some t → take (i + 1) tokens ++ w ≡ take i tokens ++ t ∷ w
next-front tokens i t w g = ap (λ q. q ++ w) (next-take tokens i t g) ∙ append_assoc (take i tokens) (t ∷ []) w

at-start : {w x : List Token} {u : Outline} → w ≡ x → Sketched start w outline.Contains u → Sketched start x outline.Contains u
at-start {u = u} e d = subst (λ q. Sketched start q outline.Contains u) e d

-- a statement goes on from each state
begins-at : (front : List Token) (s : List Symbol) (p : Outline) → Back front s p → Begins front
begins-at front s p back =
    let d = derivable Outline pass sketch_on s p in
    let q = outline-derived (front ++ d.0) d.1 (back d.0 d.1 d.2) in
    (d.0, q.0, q.1)

-- what can stand next is what FIRST of the stack says
decides-next : (front : List Token) (s : List Symbol) (p : Outline) → Ahead front s p → Back front s p → (c : Class) → Decides (member c (firsts s)) (CouldStand front c)
decides-next front s p ahead back c = (to, from)
  where
    to : member c (firsts s) ≡ true → CouldStand front c
    to h =
        let d = reachable Outline pass sketch_on (token_of c) s (subst (λ q. member q (firsts s) ≡ true) (sym (class-sample c)) h) p in
        let same : front ++ token_of c ∷ d.0 ≡ front ++ token_of c ∷ [] ++ d.0 = sym (append_assoc front (token_of c ∷ []) d.0) in
        let q = outline-derived (front ++ token_of c ∷ [] ++ d.0) d.1 (at-start same (back (token_of c ∷ d.0) d.1 d.2)) in
        (token_of c, class-sample c, (d.0, q.0, q.1))

    from : CouldStand front c → member c (firsts s) ≡ true
    from (t, e, (z, form, d)) =
        let same : front ++ t ∷ [] ++ z ≡ front ++ t ∷ z = append_assoc front (t ∷ []) z in
        let k = ahead (t ∷ z) (outline_of form) (at-start same (derives-outline d)) in
        subst (λ q. member q (firsts s) ≡ true) e (begins Outline pass sketch_on k)

not-begins : (tokens : List Token) (i : ℕ) (t : Token) (s : List Symbol) (p : Outline) → slice_get tokens i ≡ Some t → Ahead (take i tokens) s p → Dead t s p → Begins (take (i + 1) tokens) → ⊥
not-begins tokens i t s p g ahead a (z, form, d) = a z (outline_of form) (ahead (t ∷ z) (outline_of form) (at-start (next-front tokens i t z g) (derives-outline d)))

run-at : (tokens : List Token) (i : ℕ) (t : Token) (s : List Symbol) (p : Outline) → slice_get tokens i ≡ Some t →
    Ahead (take i tokens) s p → Back (take i tokens) s p → Dead t s p → Run tokens i
run-at tokens i t s p g ahead back a = record {
  within = let h : i < length tokens = slice_get_within tokens i t g in omega (arith, h);
  begins = begins-at (take i tokens) s p back;
  dead = λ k b. not-begins tokens i t s p g ahead a b;
}

all-same : (tokens : List Token) (i : ℕ) → length tokens ≤ i → take i tokens ≡ take (length tokens) tokens
all-same tokens i j = take_all i tokens j ∙ sym (take_all (length tokens) tokens (omega arith))

run-end : (tokens : List Token) (i : ℕ) (s : List Symbol) (p : Outline) → length tokens ≤ i → Back (take i tokens) s p → Run tokens (length tokens)
run-end tokens i s p j back = record {
  within = omega arith;
  begins = subst Begins (all-same tokens i j) (begins-at (take i tokens) s p back);
  dead = λ k b. absurd (omega (arith, k));
}

no-statement : (front : List Token) (s : List Symbol) (p : Outline) → Ahead front s p → Never s [] p → NoStatement front
no-statement front s p ahead a x d = a (outline_of x) (ahead [] (outline_of x) (at-start (sym (append-nil front)) (derives-outline d)))

cut : (tokens : List Token) (n : ℕ) (s : Statement) → IsStatement tokens s → Begins (take n tokens)
cut tokens n s d = (drop n tokens, s, subst (λ q. IsStatement q s) (sym (take-append-drop n tokens)) d)

-- What the judgement keeps of the tokens that it has taken.
pub record Kept (mode : Mode) (tokens : List Token) (i : ℕ) (s : List Symbol) (p : Outline) : Type 0 where
  pub good : Good s
  pub ahead : Ahead (take i tokens) s p
  pub back : Back (take i tokens) s p
  pub inside : Inside mode tokens i

-- the item that the test gives the next token
abbrev pub Tested : Mode → List Token → ℕ → Token → List Symbol → Option ℕ
Tested mode tokens i t s = item_of mode (take i tokens) (λ c. member c (firsts s)) t (drop (i + 1) tokens)

pub tested : (mode : Mode) (tokens : List Token) (i : ℕ) (t : Token) (s : List Symbol) (a b : List Token) (r o : Option ℕ) →
    r ≡ item_of mode a (λ c. member c (firsts s)) t b → a ≡ take i tokens → b ≡ drop (i + 1) tokens → r ≡ o → Tested mode tokens i t s ≡ o
tested mode tokens i t s a b r o e f g h = sym (e ∙ (ap (λ q. item_of mode q (λ c. member c (firsts s)) t b) f ∙ ap (λ q. item_of mode (take i tokens) (λ c. member c (firsts s)) t q) g)) ∙ h

token-eq : (t x : Token) → Some t ≡ Some x → t ≡ x
token-eq t x h = cc

inside-at : (mode : Mode) (tokens : List Token) (i : ℕ) (t : Token) (s : List Symbol) (p : Outline) → slice_get tokens i ≡ Some t → Kept mode tokens i s p → Tested mode tokens i t s ≡ None → InsideAt mode tokens i
inside-at mode tokens i t s p g kept h k (x, e, d) =
    item-none mode (take i tokens) (λ c. member c (firsts s)) (CouldStand (take i tokens)) (decides-next (take i tokens) s p kept.ahead kept.back) t (drop (i + 1) tokens) h k
    (subst (λ q. Outside mode (take i tokens) (CouldStand (take i tokens)) q (drop (i + 1) tokens) k) (token-eq x t (sym e ∙ g)) d)

inside-next : (mode : Mode) (tokens : List Token) (i : ℕ) (t : Token) (s : List Symbol) (p : Outline) → slice_get tokens i ≡ Some t → Kept mode tokens i s p → Tested mode tokens i t s ≡ None → Inside mode tokens (i + 1)
inside-next mode tokens i t s p g kept h = below_more (λ j. InsideAt mode tokens j) i kept.inside (inside-at mode tokens i t s p g kept h)

-- The exits.

pub outside-exit : (o : Outline) (mode : Mode) (tokens : List Token) (i : ℕ) (t : Token) (s : List Symbol) (p : Outline) (k : ℕ) → slice_get tokens i ≡ Some t → Kept mode tokens i s p → Tested mode tokens i t s ≡ Some k →
    Extends (extent.Outside i k) mode tokens o
outside-exit o mode tokens i t s p k g kept h =
    let front = take i tokens in
    let behind = drop (i + 1) tokens in
    let can : Class → Bool = λ c. member c (firsts s) in
    let decides = decides-next front s p kept.ahead kept.back in (
      begins-at front s p kept.back,
      kept.inside,
      (t, g, item-sound mode front can (CouldStand front) decides t behind k h),
      λ other (x, e, d). item-least mode front can (CouldStand front) decides t behind k h other (subst (λ q. Outside mode front (CouldStand front) q behind other) (token-eq x t (sym e ∙ g)) d),
    )

dead-exit : (o : Outline) (mode : Mode) (tokens : List Token) (i : ℕ) (t : Token) (s : List Symbol) (p : Outline) → slice_get tokens i ≡ Some t → Kept mode tokens i s p → Tested mode tokens i t s ≡ None → Dead t s p →
    Extends (extent.Syntax i) mode tokens o
dead-exit o mode tokens i t s p g kept n a =
    let r = run-at tokens i t s p g kept.ahead kept.back a in
    (r, λ x d. r.dead (slice_get_within tokens i t g) (cut tokens (i + 1) x d), inside-next mode tokens i t s p g kept n)

pub whole-exit : (o : Outline) (mode : Mode) (tokens : List Token) (i : ℕ) (t : Token) (s s1 : List Symbol) (p p1 : Outline) (a : Step) → slice_get tokens i ≡ Some t → Kept mode tokens i s p → Tested mode tokens i t s ≡ None →
    a ≡ step.Whole → Advances a t s p s1 p1 → Extends (extent.Syntax i) mode tokens o
whole-exit o mode tokens i t s s1 p p1 a g kept n e m = dead-exit o mode tokens i t s p g kept n (subst (λ q. Advances q t s p s1 p1) e m).0

pub stuck-exit : (o : Outline) (mode : Mode) (tokens : List Token) (i : ℕ) (t : Token) (s s1 : List Symbol) (p p1 : Outline) (a : Step) → slice_get tokens i ≡ Some t → Kept mode tokens i s p → Tested mode tokens i t s ≡ None →
    a ≡ step.Stuck → Advances a t s p s1 p1 → Extends (extent.Syntax i) mode tokens o
stuck-exit o mode tokens i t s s1 p p1 a g kept n e m = dead-exit o mode tokens i t s p g kept n (subst (λ q. Advances q t s p s1 p1) e m).0

pub moved : (mode : Mode) (tokens : List Token) (i : ℕ) (t : Token) (s s1 : List Symbol) (p p1 : Outline) (a : Step) → slice_get tokens i ≡ Some t → Kept mode tokens i s p → Tested mode tokens i t s ≡ None →
    a ≡ step.Moved → Advances a t s p s1 p1 → Kept mode tokens (i + 1) s1 p1
moved mode tokens i t s s1 p p1 a g kept n e m0 =
    let m = subst (λ q. Advances q t s p s1 p1) e m0 in
    record {
      good = m.good;
      ahead = λ w u x. m.ahead w u (kept.ahead (t ∷ w) u (at-start (next-front tokens i t w g) x));
      back = λ w u x. at-start (sym (next-front tokens i t w g)) (kept.back (t ∷ w) u (m.back w u x));
      inside = inside-next mode tokens i t s p g kept n;
    }

inside-end : (mode : Mode) (tokens : List Token) (i : ℕ) → length tokens ≤ i → Inside mode tokens i → Inside mode tokens (length tokens + 1)
inside-end mode tokens i j h = below_more (λ k. InsideAt mode tokens k) (length tokens) (λ k l. h k (omega (arith, j, l))) past
  where
    past : InsideAt mode tokens (length tokens)
    past k (t, e, d) = let l : length tokens < length tokens = slice_get_within tokens (length tokens) t e in omega (arith, l)

pub syntax-end : (o : Outline) (mode : Mode) (tokens : List Token) (i : ℕ) (s : List Symbol) (p p1 : Outline) (b : Bool) → length tokens ≤ i → Kept mode tokens i s p → b ≡ false → Finishes b s p p1 →
    Extends (extent.Syntax (length tokens)) mode tokens o
syntax-end o mode tokens i s p p1 b j kept e f = (
  run-end tokens i s p j kept.back,
  subst NoStatement (take_all i tokens j) (no-statement (take i tokens) s p kept.ahead (subst (λ q. Finishes q s p p1) e f)),
  inside-end mode tokens i j kept.inside,
)

pub whole-end : (mode : Mode) (tokens : List Token) (i : ℕ) (s : List Symbol) (p p1 : Outline) (b : Bool) → length tokens ≤ i → Kept mode tokens i s p → b ≡ true → Finishes b s p p1 →
    Extends extent.Whole mode tokens p1
whole-end mode tokens i s p p1 b j kept e f =
    let ends : Sketched s [] p p1 = (subst (λ q. Finishes q s p p1) e f).ends in
    (outline-derived tokens p1 (at-start (append-nil (take i tokens) ∙ take_all i tokens j) (kept.back [] p1 ends)), λ m q. kept.inside m (omega (arith, j, q)))

-- The names.

some-sort : (a b : Sort) → Some a ≡ Some b → a ≡ b
some-sort a b h = cc

none-sort : (k : Sort) → Some k ≡ None → ⊥
none-sort k h = cc

-- what the outline and the first name give
given : (mode : Mode) (tokens : List Token) (o : Outline) (n : Option (List ℕ)) (r : Option Sort) (h : Extends extent.Whole mode tokens o) → n ≡ first_name tokens → r ≡ sort_with o n → Some (sort_of h.0.0) ≡ r
given mode tokens o n r h g e = sym (statement-sorted h.0.1) ∙ (ap (λ q. sort_with q (first_name tokens)) h.0.2 ∙ (ap (sort_with o) (sym g) ∙ sym e))

pub form-end : (mode : Mode) (tokens : List Token) (o : Outline) (n : Option (List ℕ)) (r : Option Sort) (k : Sort) (x : Extent) → x ≡ extent.Whole → Extends x mode tokens o → n ≡ first_name tokens → r ≡ sort_with o n → r ≡ Some k →
    Judges (judgement.Form k) mode tokens
form-end mode tokens o n r k x w h0 g e l =
    let h : Extends extent.Whole mode tokens o = subst (λ q. Extends q mode tokens o) w h0 in
    ((h.0.0, h.0.1, some-sort (sort_of h.0.0) k (given mode tokens o n r h g e ∙ l)), h.1)

pub no-name : (mode : Mode) (tokens : List Token) (o : Outline) (n : Option (List ℕ)) (r : Option Sort) (x : Extent) → x ≡ extent.Whole → Extends x mode tokens o → n ≡ first_name tokens → r ≡ sort_with o n → r ≡ None → ⊥
no-name mode tokens o n r x w h0 g e l =
    let h : Extends extent.Whole mode tokens o = subst (λ q. Extends q mode tokens o) w h0 in
    none-sort (sort_of h.0.0) (given mode tokens o n r h g e ∙ l)

-- Where the judgement begins.
pub begun : (mode : Mode) (tokens : List Token) (s : List Symbol) (o : Outline) → s ≡ start → o ≡ outline.Contains → Kept mode tokens 0 s o
begun mode tokens s o e f = subst (λ q. Kept mode tokens 0 q o) (sym e) (subst (λ q. Kept mode tokens 0 start q) (sym f) (record {
  good = ((λ c h. absurd (true≢false (sym h))), tt);
  ahead = λ w u d. d;
  back = λ w u d. d;
  inside = λ i h. absurd (omega (arith, h));
}))
