-- The closing run: which depth closing parentheses give.
use Rattle.std.proofs.Common.{◌≡◌, ℕ, ◌+◌, ◌<◌, Bool, true, false, List, [], ◌∷◌, ◌++◌, Option, None, Some, refl, sym, ap, ◌∙◌, subst, inl, inr, arith}
use Rattle.std.specs.Prelude.{nat_lt}
use Rattle.std.proofs.lemmas.Bool.{true≢false, ltb-true}
use Rattle.fort_grammar.specs.declared.table.Action.{Action}
use Rattle.fort_grammar.specs.declared.class.Class.{Class}
use Rattle.fort_grammar.specs.declared.class.Class.TheVariants as class
use Rattle.fort_grammar.specs.declared.table.Part.{Part}
use Rattle.fort_grammar.specs.declared.table.Symbol.{Symbol}
use Rattle.fort_grammar.specs.declared.table.Symbol.TheVariants.{Take, Call, Build}
use Rattle.fort_tree.specs.declared.statement.Token.{Token}
use Rattle.fort_expr.specs.declared.value.Shape.{Shape}
use Rattle.fort_expr.specs.declared.value.Shape.TheVariants.{Written}
use Rattle.fort_grammar.specs.Table.{Choice, table}
use Rattle.fort_grammar.specs.Choose.{member, chosen}
use Rattle.fort_grammar.specs.Derives.{In, done, take, build, row}
use Rattle.fort_grammar.specs.First.{all_first, firsts, nulls}
use Rattle.fort_grammar.specs.Sets.{weight}
use Rattle.fort_expr.specs.Shapes.{shift_shape, apply_shape, top_depth}
use Rattle.fort_expr.specs.Closing.{Shaped, Closers, ClosesAt}
use Rattle.fort_grammar.proofs.Productive.{token_of, class-sample}
use Rattle.fort_grammar.specs.Token.{token_class}
use Rattle.fort_grammar.proofs.Theory.{begins, inv-nil, inv-take, inv-build, inv-call, firsts-append, nulls-append, within-member, then-use, in-first, row_of, order_of, chosen-ready, chosen-in, some-eq, some-none, Begins}

-- No part begins with a closing parenthesis.
no_close : (n : Part) → member class.Close (all_first (table n)) ≡ false
no_close Part.Statement = refl
no_close _ = refl

closing-row : (n : Part) (ss : List Symbol) (z : List Token) (v u : List Shape) → Closers z → Shaped (Call n ∷ ss) z v u →
    (r : Choice) × (chosen None (table n) ≡ Some r) × Shaped (r.symbols ++ ss) z v u
closing-row n ss z v u c d =
    let k = inv-call (List Shape) shift_shape apply_shape d in
    (k.0, chosen-ready n None (table n) (order_of n) k.0 k.1 (empty k.0 k.1 z c (begins (List Shape) shift_shape apply_shape k.2)), k.2)
  where
    empty : (r : Choice) → In r (table n) → (z : List Token) → Closers z → Begins (r.symbols ++ ss) z → r.empty ≡ true
    empty r i [] c b = then-use (nulls r.symbols) r.empty (row_of n r i).empty (nulls-append r.symbols ss b).0
    empty r i (t ∷ z) c b = elim (firsts-append (token_class t) r.symbols ss b) [
      | inl m ↦ absurd (true≢false (sym (in-first (token_class t) r (table n) i (within-member (token_class t) (firsts r.symbols) r.first (row_of n r i).first m))
          ∙ (ap (λ q. member q (all_first (table n))) c.0 ∙ no_close n)))
      | inr m ↦ then-use (nulls r.symbols) r.empty (row_of n r i).empty m.0
    ]

-- what the closing run keeps
pub record Runs (s0 : List Symbol) (v0 : List Shape) (s : List Symbol) (v : List Shape) : Type 0 where
  pub ahead : (z : List Token) (u : List Shape) → Closers z → Shaped s0 z v0 u → (y : List Token) × Closers y × Shaped s y v u
  pub back : (y : List Token) (u : List Shape) → Closers y → Shaped s y v u → (z : List Token) × Closers z × Shaped s0 z v0 u

pub runs-refl : (s : List Symbol) (v : List Shape) → Runs s v s v
runs-refl s v = record { ahead = λ z u c d. (z, c, d); back = λ z u c d. (z, c, d) }

pub runs-close : (s0 : List Symbol) (v0 : List Shape) (y : Symbol) (s ss : List Symbol) (v v1 : List Shape) → s ≡ y ∷ ss → y ≡ Take class.Close → v1 ≡ Written ∷ v → Runs s0 v0 s v → Runs s0 v0 ss v1
runs-close s0 v0 y s ss v v1 e f g h0 =
    let h = subst (λ q. Runs s0 v0 q v) (e ∙ ap (λ q. q ∷ ss) f) h0 in
    subst (λ q. Runs s0 v0 ss q) (sym g) (record {
      ahead = λ z u c d. let p = h.ahead z u c d in taken p.0 u p.1 p.2;
      back = λ z u c d. h.back (token_of class.Close ∷ z) u (class-sample class.Close, c) (take (token_of class.Close) (class-sample class.Close) d);
    })
  where
    taken : (y : List Token) (u : List Shape) → Closers y → Shaped (Take class.Close ∷ ss) y v u → (x : List Token) × Closers x × Shaped ss x (Written ∷ v) u
    taken y u c d = let k = inv-take (List Shape) shift_shape apply_shape d in
        let b : Closers (k.0 ∷ k.1) = subst Closers k.2 c in (k.1, b.1, k.4)

pub runs-build : (s0 : List Symbol) (v0 : List Shape) (x : Action) (y : Symbol) (s ss : List Symbol) (v v1 : List Shape) → s ≡ y ∷ ss → y ≡ Build x → v1 ≡ apply_shape x v → Runs s0 v0 s v → Runs s0 v0 ss v1
runs-build s0 v0 x y s ss v v1 e f g h0 =
    let h = subst (λ q. Runs s0 v0 q v) (e ∙ ap (λ q. q ∷ ss) f) h0 in
    subst (λ q. Runs s0 v0 ss q) (sym g) (record {
      ahead = λ z u c d. let p = h.ahead z u c d in (p.0, p.1, inv-build (List Shape) shift_shape apply_shape p.2);
      back = λ z u c d. h.back z u c (build d);
    })

pub runs-call : (s0 : List Symbol) (v0 : List Shape) (n : Part) (r : Choice) (y : Symbol) (s ss s1 xs : List Symbol) (v : List Shape) → s ≡ y ∷ ss → y ≡ Call n → chosen None (table n) ≡ Some r → r.symbols ≡ xs → s1 ≡ xs ++ ss → Runs s0 v0 s v → Runs s0 v0 s1 v
runs-call s0 v0 n r y s ss s1 xs v e f c p g h0 =
    let h = subst (λ q. Runs s0 v0 q v) (e ∙ ap (λ q. q ∷ ss) f) h0 in
    subst (λ q. Runs s0 v0 q v) (ap (λ q. q ++ ss) p ∙ sym g) (record {
      ahead = λ z u k d. let j = h.ahead z u k d in let w = closing-row n ss j.0 v u j.1 j.2 in
          (j.0, j.1, subst (λ q. Shaped (q.symbols ++ ss) j.0 v u) (some-eq w.0 r (sym w.1 ∙ c)) w.2);
      back = λ z u k d. h.back z u k (row r (chosen-in None (table n) r c) d);
    })

pub runs-stuck : (s0 : List Symbol) (v0 : List Shape) (n : Part) (y : Symbol) (s ss : List Symbol) (v : List Shape) → s ≡ y ∷ ss → y ≡ Call n → chosen None (table n) ≡ None → Runs s0 v0 s v →
    (z : List Token) (u : List Shape) → Closers z → Shaped s0 z v0 u → ⊥
runs-stuck s0 v0 n y s ss v e f c h0 z u k d =
    let h = subst (λ q. Runs s0 v0 q v) (e ∙ ap (λ q. q ∷ ss) f) h0 in
    let j = h.ahead z u k d in let w = closing-row n ss j.0 v u j.1 j.2 in some-none w.0 (sym w.1 ∙ c)

pub runs-take : (s0 : List Symbol) (v0 : List Shape) (c : Class) (y : Symbol) (s ss : List Symbol) (v : List Shape) → s ≡ y ∷ ss → y ≡ Take c → (c ≡ class.Close → ⊥) → Runs s0 v0 s v →
    (z : List Token) (u : List Shape) → Closers z → Shaped s0 z v0 u → ⊥
runs-take s0 v0 c y s ss v e f ne h0 z u k d =
    let h = subst (λ q. Runs s0 v0 q v) (e ∙ ap (λ q. q ∷ ss) f) h0 in
    let j = h.ahead z u k d in
    let p = inv-take (List Shape) shift_shape apply_shape j.2 in
    let b : Closers (p.0 ∷ p.1) = subst Closers p.2 j.1 in
    ne (sym p.3 ∙ b.0)

pub runs-end : (s0 : List Symbol) (v0 : List Shape) (s : List Symbol) (v : List Shape) (d : ℕ) → s ≡ [] → d ≡ top_depth v → Runs s0 v0 s v → ClosesAt d s0 v0
runs-end s0 v0 s v d e f h0 =
    let h = subst (λ q. Runs s0 v0 q v) e h0 in
    let b = h.back [] v tt done in
    record {
      some = (b.0, v, b.1, b.2);
      all = λ z u c k. let j = h.ahead z u c k in ap top_depth (sym (inv-nil (List Shape) shift_shape apply_shape j.2).1) ∙ sym f;
    }

-- the measure of the closing run

abbrev pub size : List Symbol → ℕ
size [] = 0
size (Take c ∷ ss) = 1 + size ss
size (Build x ∷ ss) = 1 + size ss
size (Call n ∷ ss) = weight n + size ss

size-append : (xs ys : List Symbol) → size (xs ++ ys) ≡ size xs + size ys
size-append [] ys = omega arith
size-append (Take c ∷ xs) ys = let h : size (xs ++ ys) ≡ size xs + size ys = size-append xs ys in omega arith
size-append (Build x ∷ xs) ys = let h : size (xs ++ ys) ≡ size xs + size ys = size-append xs ys in omega arith
size-append (Call n ∷ xs) ys = let h : size (xs ++ ys) ≡ size xs + size ys = size-append xs ys in omega arith

abbrev small : Part → Option Choice → Bool
small n None = true
small n (Some r) = nat_lt (size r.symbols) (weight n)

all_small : (n : Part) → small n (chosen None (table n)) ≡ true
all_small Part.Statement = refl
all_small _ = refl

pub size-call : (n : Part) (r : Choice) (y : Symbol) (s ss s1 xs : List Symbol) → s ≡ y ∷ ss → y ≡ Call n → chosen None (table n) ≡ Some r → r.symbols ≡ xs → s1 ≡ xs ++ ss → size s1 < size s
size-call n r y s ss s1 xs e f c p g =
    let a : size r.symbols < weight n = ltb-true (size r.symbols) (weight n) (subst (λ q. small n q ≡ true) c (all_small n)) in
    let b : size (r.symbols ++ ss) ≡ size r.symbols + size ss = size-append r.symbols ss in
    let k : s1 ≡ r.symbols ++ ss = g ∙ ap (λ q. q ++ ss) (sym p) in
    let l : s ≡ Call n ∷ ss = e ∙ ap (λ q. q ∷ ss) f in
    let i : size s1 ≡ size (r.symbols ++ ss) = ap size k in
    let j : size s ≡ weight n + size ss = ap size l in
    omega arith
