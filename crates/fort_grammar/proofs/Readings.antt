-- What is known of tokens that are read from the left.
use Rattle.std.proofs.Common.{◌≡◌, ◌⊎◌, ℕ, ◌+◌, ◌≤◌, false, true, inl, inr, length, List, [], ◌∷◌, ◌++◌, Some, refl, sym, ◌∙◌, ap, subst, append_assoc, arith}
use Rattle.std.proofs.lemmas.Bool.{or_left}
use Rattle.std.proofs.lemmas.List.{length-append}
use Rattle.fort_tree.specs.declared.statement.Token.{Token}
use Rattle.fort_grammar.specs.declared.class.Class.{Class}
use Rattle.fort_grammar.specs.declared.table.Action.{Action}
use Rattle.fort_grammar.specs.declared.table.Part.{Part}
use Rattle.fort_grammar.specs.declared.table.Symbol.{Symbol}
use Rattle.fort_grammar.specs.declared.table.Symbol.TheVariants.{Take, Call, Build}
use Rattle.fort_grammar.specs.Choose.{same, chosen}
use Rattle.fort_grammar.specs.Derives.{In, Derives}
use Rattle.fort_grammar.specs.Derives as derives
use Rattle.fort_grammar.specs.Engine.{look_of}
use Rattle.fort_grammar.specs.First.{Good}
use Rattle.fort_grammar.specs.Reads.{Reads, last, take, build, row}
use Rattle.fort_grammar.specs.Table.{Choice, table}
use Rattle.fort_grammar.specs.Token.{token_class}
use Rattle.fort_grammar.proofs.Theory.{Begins, begins-build, begins-call, begins-ready, chosen-ready, good-call, order_of, same-refl, some-eq}

heads : (t x : Token) (w v : List Token) → t ∷ w ≡ x ∷ v → t ≡ x
heads t x w v h = cc

tails : (t x : Token) (w v : List Token) → t ∷ w ≡ x ∷ v → w ≡ v
tails t x w v h = cc

nil-cons : (t : Token) (w : List Token) → [] ≡ t ∷ w → ⊥
nil-cons t w h = cc

first-symbol : (t x : Symbol) (w v : List Symbol) → t ∷ w ≡ x ∷ v → t ≡ x
first-symbol t x w v h = cc

other-symbols : (t x : Symbol) (w v : List Symbol) → t ∷ w ≡ x ∷ v → w ≡ v
other-symbols t x w v h = cc

-- Symbols whose tokens stand before z; the values that they leave are u.
pub data Through (V : Type 0) (shift : Token → V → V) (apply : Action → V → V) (z : List Token) (u : V) : List Symbol → List Token → V → Type 0 where
  done : Through V shift apply z u [] z u
  taken : {c : Class} {rest : List Symbol} {w : List Token} {v : V} (t : Token) → token_class t ≡ c → Through V shift apply z u rest w (shift t v) → Through V shift apply z u (Take c ∷ rest) (t ∷ w) v
  built : {x : Action} {rest : List Symbol} {w : List Token} {v : V} → Through V shift apply z u rest w (apply x v) → Through V shift apply z u (Build x ∷ rest) w v
  by_row : {n : Part} {rest : List Symbol} {w : List Token} {v : V} (r : Choice) → In r (table n) → Through V shift apply z u (r.symbols ++ rest) w v → Through V shift apply z u (Call n ∷ rest) w v

module _ (V : Type 0) (shift : Token → V → V) (apply : Action → V → V) where
  abbrev Rd : List Token → List Symbol → V → List Symbol → List Token → V → Type 0
  Rd z b u ss w v = Reads V shift apply z b u ss w v

  abbrev Der : List Symbol → List Token → V → V → Type 0
  Der ss w v u = Derives V shift apply ss w v u

  -- what is read, and what the rest derives
  pub join : {z : List Token} {b : List Symbol} {u q : V} {ss : List Symbol} {w : List Token} {v : V} → Rd z b u ss w v → Der b z u q → Der ss w v q
  join {z = z} {b = b} {q = q} (last t e h) d = derives.take t e (subst (λ x. Der b z x q) (sym h) d)
  join (take t e r) d = derives.take t e (join r d)
  join (build r) d = derives.build (join r d)
  join (row x i r) d = derives.row x i (join r d)

  -- what is read, and what is read from there on
  pub further : {y z : List Token} {b c : List Symbol} {m u : V} {ss : List Symbol} {w : List Token} {v : V} → Rd y b m ss w v → Rd z c u b y m → Rd z c u ss w v
  further {y = y} {z = z} {b = b} {c = c} {u = u} (last t e h) d = take t e (subst (λ x. Rd z c u b y x) (sym h) d)
  further (take t e r) d = take t e (further r d)
  further (build r) d = build (further r d)
  further (row x i r) d = row x i (further r d)

  -- a derivation is read up to any token
  pub cut : {ss : List Symbol} {w : List Token} {v q : V} → Der ss w v q → (x : Token) (inner z : List Token) → w ≡ x ∷ inner ++ z → (b : List Symbol) × (u : V) × Rd z b u ss w v × Der b z u q
  cut derives.done x inner z h = absurd (nil-cons x (inner ++ z) h)
  cut {q = q} (derives.take {c = c} {rest = ss} {w = w} {v = v} t e d) x [] z h =
      let k : w ≡ z = tails t x w z h in
      (ss, shift t v, subst (λ y. Rd z ss (shift t v) (Take c ∷ ss) (t ∷ y) v) (sym k) (last t e refl), subst (λ y. Der ss y (shift t v) q) k d)
  cut (derives.take {w = w} t e d) x (y ∷ ys) z h = let p = cut d y ys z (tails t x w (y ∷ ys ++ z) h) in (p.0, p.1, take t e p.2, p.3)
  cut (derives.build d) x inner z h = let p = cut d x inner z h in (p.0, p.1, build p.2, p.3)
  cut (derives.row r i d) x inner z h = let p = cut d x inner z h in (p.0, p.1, row r i p.2, p.3)

  -- symbols below stay as they are
  pub above : {z : List Token} {b : List Symbol} {u : V} (rs : List Symbol) {ss : List Symbol} {w : List Token} {v : V} → Rd z b u ss w v → Rd z (b ++ rs) u (ss ++ rs) w v
  above rs (last t e h) = last t e h
  above rs (take t e r) = take t e (above rs r)
  above rs (build r) = build (above rs r)
  above {z = z} {b = b} {u = u} rs (row {rest = ss} {w = w} {v = v} r i d) = row r i (subst (λ q. Rd z (b ++ rs) u q w v) (append_assoc r.symbols ss rs) (above rs d))

  -- a token at least is read
  pub longer : {z : List Token} {b : List Symbol} {u : V} {ss : List Symbol} {w : List Token} {v : V} → Rd z b u ss w v → (x : Token) × (inner : List Token) × (w ≡ x ∷ inner ++ z)
  longer (last t e h) = (t, [], refl)
  longer (take t e r) = let p = longer r in (t, p.0 ∷ p.1, ap (λ q. t ∷ q) p.2)
  longer (build r) = longer r
  longer (row x i r) = longer r

  not-itself : {z : List Token} {b : List Symbol} {u : V} {ss : List Symbol} {w : List Token} {v : V} → Rd z b u ss w v → w ≡ z → ⊥
  not-itself {z = z} {w = w} r h =
      let p = longer r in
      let e : z ≡ p.0 ∷ p.1 ++ z = sym h ∙ p.2 in
      let l : length z ≡ length (p.0 ∷ p.1) + length z = ap length e ∙ length-append (p.0 ∷ p.1) z in
      omega (arith, l)

  -- an action behind what is derived
  pub acted : {ss : List Symbol} {w : List Token} {v u : V} (x : Action) → Der ss w v u → Der (ss ++ Build x ∷ []) w v (apply x u)
  acted x derives.done = derives.build derives.done
  acted x (derives.take t e d) = derives.take t e (acted x d)
  acted x (derives.build d) = derives.build (acted x d)
  acted x (derives.row {rest = ss} {w = w} {v = v} {u = u} r i d) = derives.row r i (subst (λ q. Der q w v (apply x u)) (append_assoc r.symbols ss (Build x ∷ [])) (acted x d))

  pub through : {ss : List Symbol} {w : List Token} {v u : V} → Der ss w v u → Through V shift apply [] u ss w v
  through derives.done = done
  through (derives.take t e d) = taken t e (through d)
  through (derives.build d) = built (through d)
  through (derives.row r i d) = by_row r i (through d)

  pub no-longer : {z : List Token} {u : V} {ss : List Symbol} {w : List Token} {v : V} → Through V shift apply z u ss w v → length z ≤ length w
  no-longer done = omega arith
  no-longer (taken {w = w} t e d) = let h = no-longer d in omega (arith, h)
  no-longer (built d) = no-longer d
  no-longer (by_row r i d) = no-longer d

  -- What is read goes by the rows that the tokens call for, so it is one.

  Taken : List Token → List Symbol → V → Class → List Symbol → List Token → V → Type 0
  Taken z b u c ss w v = (t : Token) × (rest : List Token) × (w ≡ t ∷ rest) × (token_class t ≡ c) × (((rest ≡ z) × (ss ≡ b) × (shift t v ≡ u)) ⊎ Rd z b u ss rest (shift t v))

  of-take : {z : List Token} {b ss : List Symbol} {c : Class} {w : List Token} {u v : V} → Rd z b u (Take c ∷ ss) w v → Taken z b u c ss w v
  unfolding Taken
  of-take (last t e h) = (t, _, refl, e, inl (refl, refl, h))
  of-take (take t e r) = (t, _, refl, e, inr r)

  pub of-build : {z : List Token} {b ss : List Symbol} {x : Action} {w : List Token} {u v : V} → Rd z b u (Build x ∷ ss) w v → Rd z b u ss w (apply x v)
  of-build (build r) = r

  of-call : {z : List Token} {b ss : List Symbol} {n : Part} {w : List Token} {u v : V} → Rd z b u (Call n ∷ ss) w v → (r : Choice) × In r (table n) × Rd z b u (r.symbols ++ ss) w v
  of-call (row r i d) = (r, i, d)

  pub begins : {z : List Token} {b : List Symbol} {u : V} {ss : List Symbol} {w : List Token} {v : V} → Rd z b u ss w v → Begins ss w
  begins (last {c = c} t e h) = or_left (same c (token_class t)) false (subst (λ k. same c k ≡ true) (sym e) (same-refl c))
  begins (take {c = c} t e r) = or_left (same c (token_class t)) false (subst (λ k. same c k ≡ true) (sym e) (same-refl c))
  begins (build {x = x} {rest = ss} {w = w} r) = begins-build x ss w (begins r)
  begins (row {n = n} {rest = ss} {w = w} r i d) = begins-call n r ss w i (begins d)

  called : {z : List Token} {b : List Symbol} {u : V} {w : List Token} {v : V} (n : Part) (r : Choice) (ss : List Symbol) → Good (Call n ∷ ss) → In r (table n) → Rd z b u (r.symbols ++ ss) w v → chosen (look_of w) (table n) ≡ Some r
  called {w = w} n r ss g i d = chosen-ready n (look_of w) (table n) (order_of n) r i (begins-ready n r ss w i g (begins d))

  pub one-reading : {z : List Token} {b c : List Symbol} {u y : V} {ss : List Symbol} {w : List Token} {v : V} → Good ss → Rd z b u ss w v → Rd z c y ss w v → (b ≡ c) × (u ≡ y)
  unfolding Taken
  one-reading {z = z} {c = c} {y = y} g (last {v = v} t e h) k =
      let p = of-take k in
      let same_token : t ≡ p.0 = heads t p.0 z p.1 p.2 in
      let same_rest : z ≡ p.1 = tails t p.0 z p.1 p.2 in
      elim p.4 [
        | inl (a, d, f) ↦ (d, sym h ∙ (ap (λ q. shift q v) same_token ∙ f))
        | inr r ↦ absurd (not-itself r (sym same_rest))
      ]
  one-reading {z = z} {c = c} {y = y} g (take {rest = ss} {w = w} {v = v} t e r) k =
      let p = of-take k in
      let same_token : t ≡ p.0 = heads t p.0 w p.1 p.2 in
      let same_rest : w ≡ p.1 = tails t p.0 w p.1 p.2 in
      elim p.4 [
        | inl (a, d, f) ↦ absurd (not-itself r (same_rest ∙ a))
        | inr j ↦ one-reading g r (subst (λ q. Rd z c y ss w (shift q v)) (sym same_token) (subst (λ q. Rd z c y ss q (shift p.0 v)) (sym same_rest) j))
      ]
  one-reading g (build r) k = one-reading g r (of-build k)
  one-reading {z = z} {c = c} {y = y} g (row {n = n} {rest = ss} {w = w} {v = v} r i d) k =
      let p = of-call k in
      let e : p.0 ≡ r = some-eq p.0 r (sym (called n p.0 ss g p.1 p.2) ∙ called n r ss g i d) in
      one-reading (good-call n r ss i g) d (subst (λ q. Rd z c y (q.symbols ++ ss) w v) e p.2)

  -- Of two lists of symbols, one behind the other, the tokens end within the first or behind it.
  Split : List Token → List Symbol → V → List Symbol → List Symbol → List Token → V → Type 0
  Split z b u xs ys w v = ((p : List Symbol) × (b ≡ p ++ ys) × Rd z p u xs w v) ⊎ ((y : List Token) × (m : V) × Through V shift apply y m xs w v × Rd z b u ys y m)

  splits : {z : List Token} {b : List Symbol} {u : V} {s : List Symbol} {w : List Token} {v : V} → Rd z b u s w v → (xs ys : List Symbol) → s ≡ xs ++ ys → Split z b u xs ys w v
  unfolding Split
  splits {z = z} {b = b} {u = u} {w = w} {v = v} r [] ys h = inr (w, v, done, subst (λ q. Rd z b u q w v) h r)
  splits {z = z} {b = b} {u = u} (last {c = c} {v = v} t e h) (x ∷ xs) ys k =
      let f : Take c ≡ x = first-symbol (Take c) x b (xs ++ ys) k in
      inl (xs, other-symbols (Take c) x b (xs ++ ys) k, subst (λ q. Rd z xs u (q ∷ xs) (t ∷ z) v) f (last t e h))
  splits {z = z} {u = u} (take {c = c} {rest = ss} {w = w} {v = v} t e r) (x ∷ xs) ys k =
      let f : Take c ≡ x = first-symbol (Take c) x ss (xs ++ ys) k in
      elim (splits r xs ys (other-symbols (Take c) x ss (xs ++ ys) k)) [
        | inl (p, g, d) ↦ inl (p, g, subst (λ q. Rd z p u (q ∷ xs) (t ∷ w) v) f (take t e d))
        | inr (y, m, d, j) ↦ inr (y, m, subst (λ q. Through V shift apply y m (q ∷ xs) (t ∷ w) v) f (taken t e d), j)
      ]
  splits {z = z} {u = u} (build {x = a} {rest = ss} {w = w} {v = v} r) (x ∷ xs) ys k =
      let f : Build a ≡ x = first-symbol (Build a) x ss (xs ++ ys) k in
      elim (splits r xs ys (other-symbols (Build a) x ss (xs ++ ys) k)) [
        | inl (p, g, d) ↦ inl (p, g, subst (λ q. Rd z p u (q ∷ xs) w v) f (build d))
        | inr (y, m, d, j) ↦ inr (y, m, subst (λ q. Through V shift apply y m (q ∷ xs) w v) f (built d), j)
      ]
  splits {z = z} {u = u} (row {n = n} {rest = ss} {w = w} {v = v} o i r) (x ∷ xs) ys k =
      let f : Call n ≡ x = first-symbol (Call n) x ss (xs ++ ys) k in
      elim (splits r (o.symbols ++ xs) ys (ap (λ q. o.symbols ++ q) (other-symbols (Call n) x ss (xs ++ ys) k) ∙ sym (append_assoc o.symbols xs ys))) [
        | inl (p, g, d) ↦ inl (p, g, subst (λ q. Rd z p u (q ∷ xs) w v) f (row o i d))
        | inr (y, m, d, j) ↦ inr (y, m, subst (λ q. Through V shift apply y m (q ∷ xs) w v) f (by_row o i d), j)
      ]

  pub split : {z : List Token} {b : List Symbol} {w : List Token} {u v : V} (xs ys : List Symbol) → Rd z b u (xs ++ ys) w v →
      ((p : List Symbol) × (b ≡ p ++ ys) × Rd z p u xs w v) ⊎ ((y : List Token) × (m : V) × Through V shift apply y m xs w v × Rd z b u ys y m)
  unfolding Split
  split xs ys r = splits r xs ys refl

-- The same at other values.

module _ (V U : Type 0) (shift : Token → V → V) (apply : Action → V → V) (other_shift : Token → U → U) (other_apply : Action → U → U) where
  pub relabelled : {ss : List Symbol} {w : List Token} {v u : V} → Derives V shift apply ss w v u → (k : U) → (m : U) × Derives U other_shift other_apply ss w k m
  relabelled derives.done k = (k, derives.done)
  relabelled (derives.take t e d) k = let p = relabelled d (other_shift t k) in (p.0, derives.take t e p.1)
  relabelled (derives.build {x = x} d) k = let p = relabelled d (other_apply x k) in (p.0, derives.build p.1)
  relabelled (derives.row r i d) k = let p = relabelled d k in (p.0, derives.row r i p.1)

  -- where what is seen of the values is built as they are
  module _ (see : V → U) (sees_shift : (t : Token) (v : V) → see (shift t v) ≡ other_shift t (see v)) (sees_apply : (x : Action) (v : V) → see (apply x v) ≡ other_apply x (see v)) where
    pub seen : {ss : List Symbol} {w : List Token} {v u : V} → Derives V shift apply ss w v u → Derives U other_shift other_apply ss w (see v) (see u)
    seen derives.done = derives.done
    seen (derives.take {rest = ss} {w = w} {v = v} {u = u} t e d) = derives.take t e (subst (λ q. Derives U other_shift other_apply ss w q (see u)) (sees_shift t v) (seen d))
    seen (derives.build {x = x} {rest = ss} {w = w} {v = v} {u = u} d) = derives.build (subst (λ q. Derives U other_shift other_apply ss w q (see u)) (sees_apply x v) (seen d))
    seen (derives.row r i d) = derives.row r i (seen d)

    pub unseen : {ss : List Symbol} {w : List Token} {k m : U} → Derives U other_shift other_apply ss w k m → (v : V) → k ≡ see v → (u : V) × Derives V shift apply ss w v u × (see u ≡ m)
    unseen derives.done v h = (v, derives.done, sym h)
    unseen (derives.take t e d) v h = let p = unseen d (shift t v) (ap (other_shift t) h ∙ sym (sees_shift t v)) in (p.0, derives.take t e p.1, p.2)
    unseen (derives.build {x = x} d) v h = let p = unseen d (apply x v) (ap (other_apply x) h ∙ sym (sees_apply x v)) in (p.0, derives.build p.1, p.2)
    unseen (derives.row r i d) v h = let p = unseen d v h in (p.0, derives.row r i p.1, p.2)

    pub unseen-reading : {z : List Token} {b : List Symbol} {m : U} {ss : List Symbol} {w : List Token} {k : U} → Reads U other_shift other_apply z b m ss w k → (v : V) → k ≡ see v → (u : V) × Reads V shift apply z b u ss w v × (see u ≡ m)
    unseen-reading (last t e q) v h = (shift t v, last t e refl, sees_shift t v ∙ (ap (other_shift t) (sym h) ∙ q))
    unseen-reading (take t e r) v h = let p = unseen-reading r (shift t v) (ap (other_shift t) h ∙ sym (sees_shift t v)) in (p.0, take t e p.1, p.2)
    unseen-reading (build {x = x} r) v h = let p = unseen-reading r (apply x v) (ap (other_apply x) h ∙ sym (sees_apply x v)) in (p.0, build p.1, p.2)
    unseen-reading (row r i d) v h = let p = unseen-reading d v h in (p.0, row r i p.1, p.2)
