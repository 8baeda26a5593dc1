-- The first fault is the earlier of that of form or profile and the first token past a limit.
use Rattle.std.proofs.Common.{◌≡◌, ◌⊎◌, ℕ, ◌+◌, ◌-◌, ◌<◌, ◌≤◌, min, Bool, false, List, ◌++◌, take, drop, length, Option, None, Some, nat_lt, refl, sym, ◌∙◌, ap, subst, inl, inr, append_assoc, arith}
use Rattle.std.specs.Option.{is_some}
use Rattle.std.proofs.lemmas.Bool.{true≢false, cases_lt, cases_Bool, cases_order, cond-true, cond-false, ltb-true, ltb-false}
use Rattle.std.proofs.lemmas.List.{take-append-drop, take-take}
use Rattle.std.proofs.lemmas.Option.{slice_get_within}
use Rattle.fort_tree.specs.declared.choice.Mode.{Mode}
use Rattle.fort_tree.specs.declared.fault.Code.{Code}
use Rattle.fort_tree.specs.declared.fault.Code.TheVariants as code
use Rattle.fort_tree.specs.declared.statement.Token.{Token}
use Rattle.fort_stmt.specs.declared.judging.Extent.{Extent}
use Rattle.fort_stmt.specs.declared.judging.Extent.TheVariants as extent
use Rattle.fort_stmt.specs.declared.judging.Judgement.{Judgement}
use Rattle.fort_stmt.specs.declared.judging.Judgement.TheVariants as judgement
use Rattle.fort_stmt.specs.declared.reading.Wrong.{Wrong}
use Rattle.fort_stmt.specs.declared.outline.Outline.{Outline}
use Rattle.fort_stmt.specs.Faults.{Begins, Run, NoStatement, OutsideAt, Inside, Extends, Judges}
use Rattle.fort_stmt.specs.Form.{IsStatement}
use Rattle.fort_stmt.specs.Limits.{PastLimit, FirstPastLimit}
use Rattle.fort_stmt.specs.Verdict.{HasFault, outside, syntax, limit, rank, NotBehind, IsFirst, of_form, of_limit, earlier}

-- a statement can begin with fewer tokens too
begins-shorter : (tokens : List Token) (a b : ℕ) → a ≤ b → Begins (take b tokens) → Begins (take a tokens)
begins-shorter tokens a b h (z, s, d) =
    let front = take b tokens in
    let cut : take a front ≡ take a tokens = take-take a b tokens h in
    let all : take a tokens ++ (drop a front ++ z) ≡ front ++ z = sym (append_assoc (take a tokens) (drop a front) z) ∙ ap (λ q. q ++ z) (ap (λ q. q ++ drop a front) (sym cut) ∙ take-append-drop a front) in
    (drop a front ++ z, s, subst (λ q. IsStatement q s) (sym all) d)

run-behind : (tokens : List Token) (r q : ℕ) → Run tokens r → q < length tokens → Begins (take (q + 1) tokens) → q < r
run-behind tokens r q h l b = elim (cases_lt q r) [ inl k ↦ k | inr k ↦ absurd (h.dead (omega (arith, l, k)) (begins-shorter tokens (r + 1) (q + 1) (omega (arith, k)) b)) ]

run-from : (tokens : List Token) (r n : ℕ) → Run tokens r → n ≤ length tokens → Begins (take n tokens) → n ≤ r
run-from tokens r n h l b = elim (cases_lt r n) [ inl k ↦ absurd (h.dead (omega (arith, l, k)) (begins-shorter tokens (r + 1) n (omega (arith, k)) b)) | inr k ↦ k ]

at-or-behind : (i j : ℕ) (c d : Code) (k m : ℕ) → i ≤ j → (rank c < rank d) ⊎ ((c ≡ d) × (k ≤ m)) → NotBehind i c k j d m
at-or-behind i j c d k m h e = elim (cases_order i j) [
  | inl s ↦ inr (s, e)
  | inr s ↦ elim s [ inl l ↦ inl l | inr l ↦ absurd (omega (arith, h, l)) ]
]

within : (mode : Mode) (tokens : List Token) (i item : ℕ) → OutsideAt mode tokens i item → i < length tokens
within mode tokens i item (t, e, d) = slice_get_within tokens i t e

inside-behind : (mode : Mode) (tokens : List Token) (n j item : ℕ) → Inside mode tokens n → OutsideAt mode tokens j item → n ≤ j
inside-behind mode tokens n j item h o = elim (cases_lt j n) [ inl k ↦ absurd (h j k item o) | inr k ↦ k ]

-- The first token past a limit is the first fault.
limit-first : (mode : Mode) (tokens : List Token) (q : ℕ) → FirstPastLimit mode tokens (Some q) → ((j item : ℕ) → OutsideAt mode tokens j item → q < j) → (NoStatement tokens → q < length tokens - 1) →
    IsFirst (Some (of_limit q)) mode tokens
limit-first mode tokens q h outs last = (h.0, record { has = limit h.0 h.1 h.2; first = others })
  where
    others : (j : ℕ) (d : Code) (m : ℕ) → HasFault mode tokens j d m → NotBehind q code.E70 0 j d m
    others j d m (outside b o) = inl (outs j m o)
    others j d m (syntax {n = n} r s) = inl (let a : q < n = run-behind tokens n q r h.0 h.1 in let b : q < length tokens - 1 = last s in omega (arith, a, b))
    others j d m (limit l b p) = at-or-behind q j code.E70 code.E70 0 0 (elim (cases_lt j q) [ inl k ↦ absurd (h.3 j k p) | inr k ↦ k ]) (inr (refl, omega arith))

-- no token before n that can be reached is past a limit
abbrev LimitsFrom : Mode → List Token → ℕ → Type 0
LimitsFrom mode tokens n = (j : ℕ) → j < length tokens → Begins (take (j + 1) tokens) → PastLimit mode tokens j → n ≤ j

outside-first : (o : Outline) (mode : Mode) (tokens : List Token) (n item : ℕ) → Extends (extent.Outside n item) mode tokens o → LimitsFrom mode tokens n → IsFirst (of_form (extent.Outside n item) (length tokens - 1)) mode tokens
outside-first o mode tokens n item h limits = (within mode tokens n item h.2, record { has = outside h.0 h.2; first = others })
  where
    others : (j : ℕ) (d : Code) (m : ℕ) → HasFault mode tokens j d m → NotBehind n code.E20 item j d m
    others j d m (outside b o) = elim (cases_order n j) [
      | inl s ↦ inr (s, inr (refl, h.3 m (subst (λ q. OutsideAt mode tokens q m) (sym s) o)))
      | inr s ↦ elim s [ inl l ↦ inl l | inr l ↦ absurd (h.1 j l m o) ]
    ]
    others j d m (syntax {n = r} run s) =
        let l : n < length tokens = within mode tokens n item h.2 in
        let a : n ≤ r = run-from tokens r n run (omega (arith, l)) h.0 in
        at-or-behind n (min r (length tokens - 1)) code.E20 code.E10 item 0 (omega (arith, l, a)) (inl (omega arith))
    others j d m (limit l b p) = at-or-behind n j code.E20 code.E70 item 0 (limits j l b p) (inl (omega arith))

runs-equal : (tokens : List Token) (n r : ℕ) → Run tokens n → Run tokens r → n ≡ r
runs-equal tokens n r a b =
    let h : n ≤ r = run-from tokens r n b a.within a.begins in
    let k : r ≤ n = run-from tokens n r a b.within b.begins in
    omega (arith, h, k)

syntax-first : (o : Outline) (mode : Mode) (tokens : List Token) (n : ℕ) → 0 < length tokens → Extends (extent.Syntax n) mode tokens o → LimitsFrom mode tokens (min n (length tokens - 1)) →
    IsFirst (of_form (extent.Syntax n) (length tokens - 1)) mode tokens
syntax-first o mode tokens n some h limits = (omega (arith, some), record { has = syntax h.0 h.1; first = others })
  where
    last : ℕ
    last = min n (length tokens - 1)

    others : (j : ℕ) (d : Code) (m : ℕ) → HasFault mode tokens j d m → NotBehind (min n (length tokens - 1)) code.E10 0 j d m
    others j d m (outside b o) = inl (let a : n + 1 ≤ j = inside-behind mode tokens (n + 1) j m h.2 o in omega (arith, a))
    others j d m (syntax {n = r} run s) = inr (ap (λ q. min q (length tokens - 1)) (runs-equal tokens n r h.0 run), inr (refl, omega arith))
    others j d m (limit l b p) = at-or-behind (min n (length tokens - 1)) j code.E10 code.E70 0 0 (limits j l b p) (inl (omega arith))

form-sound : (o : Outline) (mode : Mode) (tokens : List Token) → Extends extent.Whole mode tokens o → FirstPastLimit mode tokens None → IsFirst None mode tokens
form-sound o mode tokens h none = (others, h.0.0, h.0.1)
  where
    others : (j : ℕ) (d : Code) (m : ℕ) → HasFault mode tokens j d m → ⊥
    others j d m (outside b o) = h.1 j (within mode tokens j m o) m o
    others j d m (syntax run s) = s h.0.0 h.0.1
    others j d m (limit l b p) = none j l b p

none-from : (mode : Mode) (tokens : List Token) (n : ℕ) → FirstPastLimit mode tokens None → LimitsFrom mode tokens n
none-from mode tokens n h j l b p = absurd (h j l b p)

some-from : (mode : Mode) (tokens : List Token) (n q : ℕ) → FirstPastLimit mode tokens (Some q) → n ≤ q → LimitsFrom mode tokens n
some-from mode tokens n q h e j l b p = elim (cases_lt j q) [ inl k ↦ absurd (h.3 j k p) | inr k ↦ omega (arith, e, k) ]

-- which of the two comes first
choose-first : (mode : Mode) (tokens : List Token) (w : Wrong) (q : ℕ) → (q < w.at → IsFirst (Some (of_limit q)) mode tokens) → (w.at ≤ q → IsFirst (Some w) mode tokens) → IsFirst (earlier (Some w) (Some q)) mode tokens
choose-first mode tokens w q a b = elim (cases_Bool (nat_lt q w.at)) [
  | inl t ↦ subst (λ o. IsFirst o mode tokens) (sym (cond-true (nat_lt q w.at) (Some (of_limit q)) (Some w) t)) (a (ltb-true q w.at t))
  | inr f ↦ subst (λ o. IsFirst o mode tokens) (sym (cond-false (nat_lt q w.at) (Some (of_limit q)) (Some w) f)) (b (ltb-false q w.at f))
]

combined : (o : Outline) (mode : Mode) (tokens : List Token) (x : Extent) (p : Option ℕ) → 0 < length tokens → Extends x mode tokens o → FirstPastLimit mode tokens p → IsFirst (earlier (of_form x (length tokens - 1)) p) mode tokens
combined o mode tokens extent.Whole None some h f = form-sound o mode tokens h f
combined o mode tokens extent.Whole (Some q) some h f = limit-first mode tokens q f (λ j item d. absurd (h.1 j (within mode tokens j item d) item d)) (λ s. absurd (s h.0.0 h.0.1))
combined o mode tokens (extent.Syntax n) None some h f = syntax-first o mode tokens n some h (none-from mode tokens (min n (length tokens - 1)) f)
combined o mode tokens (extent.Syntax n) (Some q) some h f = choose-first mode tokens (record { at = min n (length tokens - 1); code = code.E10; item = 0 }) q
    (λ l. limit-first mode tokens q f (λ j item d. let a : n + 1 ≤ j = inside-behind mode tokens (n + 1) j item h.2 d in omega (arith, a, l)) (λ s. omega (arith, l)))
    (λ l. syntax-first o mode tokens n some h (some-from mode tokens (min n (length tokens - 1)) q f l))
combined o mode tokens (extent.Outside n item) None some h f = outside-first o mode tokens n item h (none-from mode tokens n f)
combined o mode tokens (extent.Outside n item) (Some q) some h f = choose-first mode tokens (record { at = n; code = code.E20; item = item }) q
    (λ l. limit-first mode tokens q f (λ j other d. let a : n ≤ j = inside-behind mode tokens n j other h.1 d in omega (arith, a, l)) (λ s. let a : n < length tokens = within mode tokens n item h.2 in omega (arith, a, l)))
    (λ l. outside-first o mode tokens n item h (some-from mode tokens n q f l))

pub combined-by : (mode : Mode) (tokens : List Token) (w r : Option Wrong) (p : Option ℕ) → 0 < length tokens → (x : Extent) × (o : Outline) × Extends x mode tokens o × (w ≡ of_form x (length tokens - 1)) → FirstPastLimit mode tokens p →
    r ≡ earlier w p → IsFirst r mode tokens
combined-by mode tokens w r p some (x, o, h, e) f g = subst (λ q. IsFirst q mode tokens) (sym (g ∙ ap (λ q. earlier q p) e)) (combined o mode tokens x p some h f)

-- A judgement of the items is one of the tokens.
pub judges-at : (mode : Mode) (tokens items : List Token) (j k : Judgement) → items ≡ tokens → j ≡ k → Judges j mode items → Judges k mode tokens
judges-at mode tokens items j k e f h = subst (Judges k mode) e (subst (λ q. Judges q mode items) f h)

pub not-outside : (mode : Mode) (tokens : List Token) (n item : ℕ) → Judges (judgement.Outside n item) mode tokens → Inside mode tokens (length tokens) → ⊥
not-outside mode tokens n item h inside = inside n (within mode tokens n item h.2) item h.2

pub none-of : {A : Type 0} (o : Option A) (b : Bool) → b ≡ is_some o → b ≡ false → o ≡ None
none-of None b e f = refl
none-of (Some x) b e f = absurd (true≢false (sym e ∙ f))
