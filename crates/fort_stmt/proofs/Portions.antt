-- Where a portion stands on top of the symbols that are wanted, the tokens that were read have it.
use Rattle.std.proofs.Common.{◌≡◌, ℕ, zero, suc, ◌<◌, ◌≤◌, Bool, true, false, ◌&&◌, inl, inr, length, List, [], ◌∷◌, ◌++◌, map, Option, None, Some, option_map, refl, sym, ◌∙◌, ap, subst, arith}
use Rattle.std.proofs.lemmas.Bool.{true≢false, and_parts}
use Rattle.fort_tree.specs.declared.expr.Expr.{Expr}
use Rattle.fort_tree.specs.declared.expr.Sub.{Sub}
use Rattle.fort_tree.specs.declared.statement.Token.{Token}
use Rattle.fort_tree.specs.Expr.{depth_of, sub_depth_of}
use Rattle.fort_grammar.specs.declared.class.Class.{Class}
use Rattle.fort_grammar.specs.declared.class.Class.TheVariants as class
use Rattle.fort_grammar.specs.declared.table.Action.{Action}
use Rattle.fort_grammar.specs.declared.table.Action.TheVariants as act
use Rattle.fort_grammar.specs.declared.table.Part.{Part}
use Rattle.fort_grammar.specs.declared.table.Part.TheVariants as part
use Rattle.fort_grammar.specs.declared.table.Symbol.{Symbol}
use Rattle.fort_grammar.specs.declared.table.Symbol.TheVariants.{Take, Call, Build}
use Rattle.fort_grammar.specs.Choose.{same, member}
use Rattle.fort_grammar.specs.Derives.{In, here, there}
use Rattle.fort_grammar.specs.First.{firsts}
use Rattle.fort_grammar.specs.Reads.{Reads, last, take, build, row}
use Rattle.fort_grammar.specs.Table.{Choice, table}
use Rattle.fort_grammar.specs.Token.{token_class}
use Rattle.fort_grammar.proofs.Readings.{Through, done, taken, built, by_row, join, longer, no-longer, of-build, split, through}
use Rattle.fort_grammar.proofs.Theory.{Begins, begins, inv-take, same-refl, then, then-use}
use Rattle.fort_expr.specs.declared.value.Value.{Value}
use Rattle.fort_expr.specs.declared.value.Value.TheVariants.{Operand, Subscript}
use Rattle.fort_expr.specs.Closing.{Closers}
use Rattle.fort_expr.specs.Expression.{IsExpr, IsReferred, IsSub, IsList, a_name, an_intrinsic, one, more}
use Rattle.fort_expr.specs.Machine.{Plain}
use Rattle.fort_expr.specs.Shapes.{cap, shape, top_depth}
use Rattle.fort_expr.specs.Values.{shift, apply}
use Rattle.fort_expr.specs.Words.{front_place}
use Rattle.fort_expr.proofs.Sound as within
use Rattle.fort_expr.proofs.Sound.{Means, whole, a_sub, Referring, referring, row-mean, expr-derived, fin}
use Rattle.fort_stmt.specs.declared.limits.Cut.{Cut}
use Rattle.fort_stmt.specs.declared.limits.Cut.TheVariants as cuts
use Rattle.fort_stmt.specs.Cuts.{grown, above_action, cut_of}
use Rattle.fort_stmt.specs.Form.{IsTarget, target, apart, together}
use Rattle.fort_stmt.specs.Limits.{Portion, left_side, expression, argument, HasDepth, side_depth, expression_depth, argument_depth, InAction, at_left_side, at_right_side, first_argument, next_argument, Stands, in_action, behind_if, behind_test, behind_else_if, do_first, do_second, do_third, behind_select}

-- Symbols without an end of a portion, and parts from which none is reached.

abbrev pub plain_action : Action → Bool
plain_action act.Whole = false
plain_action act.Arguments = false
plain_action _ = true

abbrev pub plain_part : Part → Bool
plain_part part.Statement = false
plain_part part.Assignment = false
plain_part part.Target = false
plain_part part.ArgumentsOption = false
plain_part part.IfRest = false
plain_part part.Action = false
plain_part part.ElseRest = false
plain_part part.StepOption = false
plain_part _ = true

abbrev pub plain : List Symbol → Bool
plain [] = true
plain (Take c ∷ ss) = plain ss
plain (Build x ∷ ss) = plain_action x && plain ss
plain (Call n ∷ ss) = plain_part n && plain ss

abbrev all_plain : List Choice → Bool
all_plain [] = true
all_plain (r ∷ rs) = plain r.symbols && all_plain rs

rows_plain : (n : Part) → then (plain_part n) (all_plain (table n)) ≡ true
rows_plain part.Statement = refl
rows_plain _ = refl

row-plain : (rs : List Choice) → all_plain rs ≡ true → (r : Choice) → In r rs → plain r.symbols ≡ true
row-plain [] h r i = elim i [ ]
row-plain (q ∷ rs) h r here = (and_parts (plain q.symbols) (all_plain rs) h).0
row-plain (q ∷ rs) h r (there i) = row-plain rs (and_parts (plain q.symbols) (all_plain rs) h).1 r i

and-true : (a b : Bool) → a ≡ true → b ≡ true → a && b ≡ true
and-true true b h k = k
and-true false b h k = absurd (true≢false (sym h))

plain-append : (xs ys : List Symbol) → plain xs ≡ true → plain ys ≡ true → plain (xs ++ ys) ≡ true
plain-append [] ys h k = k
plain-append (Take c ∷ xs) ys h k = plain-append xs ys h k
plain-append (Build x ∷ xs) ys h k = let p = and_parts (plain_action x) (plain xs) h in and-true (plain_action x) (plain (xs ++ ys)) p.0 (plain-append xs ys p.1 k)
plain-append (Call n ∷ xs) ys h k = let p = and_parts (plain_part n) (plain xs) h in and-true (plain_part n) (plain (xs ++ ys)) p.0 (plain-append xs ys p.1 k)

pub reads-plain : {z : List Token} {b : List Symbol} {u : List Value} {ss : List Symbol} {w : List Token} {v : List Value} → plain ss ≡ true → Reads (List Value) shift apply z b u ss w v → plain b ≡ true
reads-plain h (last t e g) = h
reads-plain h (take t e r) = reads-plain h r
reads-plain h (build {x = x} {rest = ss} r) = reads-plain (and_parts (plain_action x) (plain ss) h).1 r
reads-plain h (row {n = n} {rest = ss} r i d) =
    let p = and_parts (plain_part n) (plain ss) h in
    reads-plain (plain-append r.symbols ss (row-plain (table n) (then-use (plain_part n) (all_plain (table n)) (rows_plain n) p.0) r i) p.1) d

-- The cut of such symbols.

above-plain : (x : Action) (o : Option Cut) → plain_action x ≡ true → above_action x o ≡ option_map (grown (Build x)) o
above-plain act.Whole o h = absurd (true≢false (sym h))
above-plain act.Arguments o h = absurd (true≢false (sym h))
above-plain _ o h = refl

pub no-cut : (ss : List Symbol) → plain ss ≡ true → cut_of ss ≡ None
no-cut [] h = refl
no-cut (Take c ∷ ss) h = ap (option_map (grown (Take c))) (no-cut ss h)
no-cut (Build x ∷ ss) h = let p = and_parts (plain_action x) (plain ss) h in above-plain x (cut_of ss) p.0 ∙ ap (option_map (grown (Build x))) (no-cut ss p.1)
no-cut (Call n ∷ ss) h = ap (option_map (grown (Call n))) (no-cut ss (and_parts (plain_part n) (plain ss) h).1)

-- the cut where a portion ends below
pub cut-under : (p ss : List Symbol) → plain p ≡ true → cut_of ss ≡ Some (cuts.Portion []) → cut_of (p ++ ss) ≡ Some (cuts.Portion p)
cut-under [] ss h k = k
cut-under (Take x ∷ p) ss h k = ap (option_map (grown (Take x))) (cut-under p ss h k)
cut-under (Build x ∷ p) ss h k = let q = and_parts (plain_action x) (plain p) h in above-plain x (cut_of (p ++ ss)) q.0 ∙ ap (option_map (grown (Build x))) (cut-under p ss q.1 k)
cut-under (Call n ∷ p) ss h k = ap (option_map (grown (Call n))) (cut-under p ss (and_parts (plain_part n) (plain p) h).1 k)

some-portion : (c d : List Symbol) → Some (cuts.Portion c) ≡ Some (cuts.Portion d) → c ≡ d
some-portion c d h = cc

none-portion : (c : List Symbol) → None ≡ Some (cuts.Portion c) → ⊥
none-portion c h = cc

arguments-portion : (c : List Symbol) → Some cuts.Arguments ≡ Some (cuts.Portion c) → ⊥
arguments-portion c h = cc

tail-portion : (c : List Symbol) → Some cuts.Tail ≡ Some (cuts.Portion c) → ⊥
tail-portion c h = cc

-- What parts mean, whatever stands behind them.

pub means-through : {z : List Token} {u : List Value} {ss : List Symbol} {w : List Token} {v : List Value} → Through (List Value) shift apply z u ss w v → Means ss w z v u
means-through done = within.done
means-through (taken t e d) = within.take t e (means-through d)
means-through (built d) = within.build (means-through d)
means-through {z = z} {u = u} (by_row {n = n} {rest = ss} {w = w} {v = v} r i d) =
    let k = within.split r.symbols ss w z v u (means-through d) in
    within.call (row-mean n r i w k.0 v k.1 k.2) k.3

through-expr : {w z : List Token} {v u : List Value} → Means (Call part.Expr ∷ []) w z v u → (e : Expr) × IsExpr w z e
through-expr (within.call (whole {w = x} {e = e} d) m) = fin m (λ y k. (a : Expr) × IsExpr x y a) (e, d)

side-referring : {t : Token} {w z : List Token} {v u : List Value} → IsReferred (token_class t) → Referring t w z v u → (e : Expr) × IsTarget (t ∷ w) z e × (u ≡ Operand e t.at ∷ v)
side-referring {t = t} r (referring {e = e} d) = (e, target t r d, refl)

side-means : {c : Class} {w z : List Token} {v u : List Value} → IsReferred c → Means (Take c ∷ Call part.RefTail ∷ []) w z v u → (e : Expr) × IsTarget w z e × (u ≡ Operand e (front_place w) ∷ v)
side-means {v = v} r (within.take {x = x} t e (within.call {y = y} {m = m} f k)) =
    let a : IsReferred (token_class t) = subst IsReferred (sym e) r in
    let g : (b : Expr) × IsTarget (t ∷ x) y b × (m ≡ Operand b t.at ∷ v) = side-referring a (f t v a refl) in
    fin k (λ z u. (b : Expr) × IsTarget (t ∷ x) z b × (u ≡ Operand b t.at ∷ v)) g

sub-means : {w z : List Token} {v u : List Value} → Means (Call part.Sub ∷ []) w z v u → (a : Sub) × IsSub w z a × (u ≡ Subscript a ∷ v)
sub-means {v = v} (within.call (a_sub {w = x} {s = s} d) m) = fin m (λ z u. (a : Sub) × IsSub x z a × (u ≡ Subscript a ∷ v)) (s, d, refl)

-- No closing parenthesis begins an expression or an argument.

no-expr : (z : List Token) (ss : List Symbol) → Closers z → Begins (Call part.Expr ∷ ss) z → ⊥
no-expr [] ss c h = true≢false (sym h)
no-expr (t ∷ z) ss c h = true≢false (sym (subst (λ k. member k (firsts (Call part.Expr ∷ ss)) ≡ true) c.0 h))

no-sub : (z : List Token) (ss : List Symbol) → Closers z → Begins (Call part.Sub ∷ ss) z → ⊥
no-sub [] ss c h = true≢false (sym h)
no-sub (t ∷ z) ss c h = true≢false (sym (subst (λ k. member k (firsts (Call part.Sub ∷ ss)) ≡ true) c.0 h))

-- What the tokens W have that are read up to z, where z closes the cut and leaves the values q.
pub record Located (z : List Token) (q : List Value) (W : List Token) : Type 0 where
  pub portion : Portion
  pub first : Token
  pub others : List Token
  pub depth : ℕ
  pub stands : Stands portion W (first ∷ others ++ z)
  pub has_depth : HasDepth portion (first ∷ others ++ z) depth
  pub shaped : top_depth (map shape q) ≡ cap depth

module _ (z : List Token) (u q : List Value) (closing : Closers z) where
  abbrev Rd : List Symbol → List Symbol → List Token → List Value → Type 0
  Rd b ss w v = Reads (List Value) shift apply z b u ss w v

  -- Where the symbols b are wanted, the cut of them is a portion of the tokens W.
  record Claim (W : List Token) (b : List Symbol) : Type 0 where
    portion : (ss : List Symbol) → cut_of b ≡ Some (cuts.Portion ss) → Plain ss z u q → Located z q W

  none-claim : {W : List Token} {b : List Symbol} → cut_of b ≡ None → Claim W b
  none-claim e = record { portion = λ c h d. absurd (none-portion c (sym e ∙ h)) }

  clear-claim : {W : List Token} {b : List Symbol} {ss : List Symbol} {w : List Token} {v : List Value} → plain ss ≡ true → Rd b ss w v → Claim W b
  clear-claim {b = b} h r = none-claim (no-cut b (reads-plain h r))

  -- Nothing closes the cut.
  at-stop : {W : List Token} {b : List Symbol} (k : List Symbol) → cut_of b ≡ Some (cuts.Portion k) → (Plain k z u q → ⊥) → Claim W b
  at-stop k e f = record { portion = λ c h d. absurd (f (subst (λ s. Plain s z u q) (sym (some-portion k c (sym e ∙ h))) d)) }

  take-claim : {W : List Token} {b : List Symbol} (c : Class) (ss : List Symbol) → same c class.Close ≡ false → cut_of b ≡ Some (cuts.Portion (Take c ∷ ss)) → Claim W b
  take-claim c ss e h = at-stop (Take c ∷ ss) h (λ d.
      let p = inv-take (List Value) shift apply d in
      let a : Closers (p.0 ∷ p.1) = subst Closers p.2 closing in
      true≢false (sym (same-refl class.Close) ∙ (ap (λ x. same x class.Close) (sym a.0 ∙ p.3) ∙ e)))

  expr-stop : {W : List Token} {b : List Symbol} → cut_of b ≡ Some (cuts.Portion (Call part.Expr ∷ [])) → Claim W b
  expr-stop h = at-stop (Call part.Expr ∷ []) h (λ d. no-expr z [] closing (begins (List Value) shift apply d))

  sub-stop : {W : List Token} {b : List Symbol} → cut_of b ≡ Some (cuts.Portion (Call part.Sub ∷ [])) → Claim W b
  sub-stop h = at-stop (Call part.Sub ∷ []) h (λ d. no-sub z [] closing (begins (List Value) shift apply d))

  located : (x : Portion) (d : ℕ) (W y : List Token) → Stands x W y → HasDepth x y d → (t : Token) × (inner : List Token) × (y ≡ t ∷ inner ++ z) → top_depth (map shape q) ≡ cap d → Located z q W
  located x d W y s h (t, inner, e) g = record {
    portion = x;
    first = t;
    others = inner;
    depth = d;
    stands = subst (Stands x W) e s;
    has_depth = subst (λ k. HasDepth x k d) e h;
    shaped = g;
  }

  -- the claim at a cut
  at-cut : (W : List Token) (b p ss : List Symbol) → b ≡ p ++ ss → plain p ≡ true → cut_of ss ≡ Some (cuts.Portion []) → (Plain p z u q → Located z q W) → Claim W b
  at-cut W b p ss e h k f = record { portion = λ c g d. f (subst (λ x. Plain x z u q) (some-portion c p (sym g ∙ (ap cut_of e ∙ cut-under p ss h k))) d) }

  expr-inside : (W Y : List Token) (R p : List Symbol) (b : List Symbol) (v : List Value) → Stands expression W Y → b ≡ p ++ Build act.Whole ∷ R → Rd p (Call part.Expr ∷ []) Y v → Claim W b
  expr-inside W Y R p b v s e r = at-cut W b p (Build act.Whole ∷ R) e (reads-plain refl r) refl (λ d.
      let x = expr-derived Y v q (join (List Value) shift apply r d) in
      located expression (depth_of x.0) W Y s (expression_depth x.1) (longer (List Value) shift apply r) (ap (λ k. top_depth (map shape k)) x.2))

  expr-claim : {W Y : List Token} {R : List Symbol} {b : List Symbol} {v : List Value} → Stands expression W Y → Rd b (Call part.Expr ∷ Build act.Whole ∷ R) Y v →
      ((y : List Token) (m : List Value) (e : Expr) → IsExpr Y y e → Rd b R y m → Claim W b) → Claim W b
  expr-claim {W} {Y} {R} {b} {v} s r next = elim (split (List Value) shift apply (Call part.Expr ∷ []) (Build act.Whole ∷ R) r) [
    | inl (p, e, d) ↦ expr-inside W Y R p b v s e d
    | inr (y, m, d, k) ↦ let x = through-expr (means-through d) in next y (apply act.Whole m) x.0 x.1 (of-build (List Value) shift apply k)
  ]

  side-inside : (W Y : List Token) (R p : List Symbol) (b : List Symbol) (v : List Value) (c : Class) → IsReferred c → Stands left_side W Y → b ≡ p ++ Build act.Whole ∷ R → Rd p (Take c ∷ Call part.RefTail ∷ []) Y v → Claim W b
  side-inside W Y R p b v c a s e r = at-cut W b p (Build act.Whole ∷ R) e (reads-plain refl r) refl (λ d.
      let x = side-means a (means-through (through (List Value) shift apply (join (List Value) shift apply r d))) in
      located left_side (depth_of x.0) W Y s (side_depth x.1) (longer (List Value) shift apply r) (ap (λ k. top_depth (map shape k)) x.2))

  side-claim : {W Y : List Token} {R : List Symbol} {b : List Symbol} {v : List Value} (c : Class) → IsReferred c → Stands left_side W Y → Rd b (Take c ∷ Call part.RefTail ∷ Build act.Whole ∷ R) Y v →
      ((y : List Token) (m : List Value) (e : Expr) → IsTarget Y y e → Rd b R y m → Claim W b) → Claim W b
  side-claim {W} {Y} {R} {b} {v} c a s r next = elim (split (List Value) shift apply (Take c ∷ Call part.RefTail ∷ []) (Build act.Whole ∷ R) r) [
    | inl (p, e, d) ↦ side-inside W Y R p b v c a s e d
    | inr (y, m, d, k) ↦ let x = side-means a (means-through d) in next y (apply act.Whole m) x.0 x.1 (of-build (List Value) shift apply k)
  ]

  target-claim : {W Y : List Token} {R : List Symbol} {b : List Symbol} {v : List Value} → Stands left_side W Y → Rd b (Call part.Target ∷ R) Y v →
      ((y : List Token) (m : List Value) (e : Expr) → IsTarget Y y e → Rd b R y m → Claim W b) → Claim W b
  target-claim s (row r here d) next = side-claim class.Name (a_name refl) s d next
  target-claim s (row r (there here) d) next = side-claim class.Intrinsic (an_intrinsic refl) s d next
  target-claim s (row r (there (there i)) d) next = elim i [ ]

  sub-inside : (W Y : List Token) (ss p : List Symbol) (b : List Symbol) (v : List Value) → cut_of ss ≡ Some (cuts.Portion []) → Stands argument W Y → b ≡ p ++ ss → Rd p (Call part.Sub ∷ []) Y v → Claim W b
  sub-inside W Y ss p b v k s e r = at-cut W b p ss e (reads-plain refl r) k (λ d.
      let x = sub-means (means-through (through (List Value) shift apply (join (List Value) shift apply r d))) in
      located argument (sub_depth_of x.0) W Y s (argument_depth x.1) (longer (List Value) shift apply r) (ap (λ k. top_depth (map shape k)) x.2))

  sub-claim : {W Y : List Token} {ss : List Symbol} {b : List Symbol} {v : List Value} → cut_of ss ≡ Some (cuts.Portion []) → Stands argument W Y → Rd b (Call part.Sub ∷ ss) Y v →
      ((y : List Token) (m : List Value) (a : Sub) → length y ≤ length Y → IsSub Y y a → Rd b ss y m → Claim W b) → Claim W b
  sub-claim {W} {Y} {ss} {b} {v} k s r next = elim (split (List Value) shift apply (Call part.Sub ∷ []) ss r) [
    | inl (p, e, d) ↦ sub-inside W Y ss p b v k s e d
    | inr (y, m, d, j) ↦ let x = sub-means (means-through d) in next y m x.0 (no-longer (List Value) shift apply d) x.1 j
  ]

  -- behind the last argument
  close-claim : {W : List Token} (R : List Symbol) {y : List Token} {b : List Symbol} {v : List Value} → plain R ≡ true → Rd b (Take class.Close ∷ Build act.Arguments ∷ Build act.Call ∷ R) y v → Claim W b
  close-claim R h (last q e g) = record { portion = λ c k d. absurd (arguments-portion c k) }
  close-claim R h (take q e d) = clear-claim h (of-build (List Value) shift apply d)

  -- behind an argument
  list-claim : (n : ℕ) {W w : List Token} (c f p : Token) (R : List Symbol) {y : List Token} {l : List Sub} {b : List Symbol} {v : List Value} → length y < n → plain R ≡ true →
      token_class c ≡ class.Call → token_class f ≡ class.Name → token_class p ≡ class.Open → ((x : Portion) (y : List Token) → InAction x (c ∷ f ∷ p ∷ w) y → Stands x W y) → IsList w y l →
      Rd b (Call part.SubTail ∷ Take class.Close ∷ Build act.Arguments ∷ Build act.Call ∷ R) y v → Claim W b
  list-claim zero c f p R s h e g o lift l r = absurd (omega (arith, s))
  list-claim (suc n) c f p R s h e g o lift l (row r here (last k i j)) = sub-stop refl
  list-claim (suc n) c f p R s h e g o lift l (row r here (take k i d)) = sub-claim refl (lift argument _ (next_argument c f p k e g o l i)) d
      (λ y m a t x q. list-claim n c f p R (omega (arith, s, t)) h e g o lift (more k l i x) (of-build (List Value) shift apply q))
  list-claim (suc n) c f p R s h e g o lift l (row r (there here) d) = close-claim R h d
  list-claim (suc n) c f p R s h e g o lift l (row r (there (there i)) d) = elim i [ ]

  -- behind the name of a CALL
  arguments-claim : {W w : List Token} (c f : Token) (R : List Symbol) {b : List Symbol} {v : List Value} → plain R ≡ true → token_class c ≡ class.Call → token_class f ≡ class.Name →
      ((x : Portion) (y : List Token) → InAction x (c ∷ f ∷ w) y → Stands x W y) → Rd b (Call part.ArgumentsOption ∷ Build act.Call ∷ R) w v → Claim W b
  arguments-claim c f R h e g lift (row r here (last p o i)) = record { portion = λ k j d. absurd (tail-portion k j) }
  arguments-claim c f R h e g lift (row r here (take p o (row k here d))) = sub-claim refl (lift argument _ (first_argument c f p e g o)) d
      (λ y m a t x q. list-claim (suc (length y)) c f p R (omega arith) h e g o lift (one x) (of-build (List Value) shift apply q))
  arguments-claim c f R h e g lift (row r here (take p o (row k (there here) d))) = close-claim R h (of-build (List Value) shift apply d)
  arguments-claim c f R h e g lift (row r here (take p o (row k (there (there i)) d))) = elim i [ ]
  arguments-claim c f R h e g lift (row r (there here) d) = clear-claim h d
  arguments-claim c f R h e g lift (row r (there (there i)) d) = elim i [ ]

  call-claim : (W : List Token) (R : List Symbol) {Y : List Token} {b : List Symbol} {v : List Value} → plain R ≡ true → ((x : Portion) (y : List Token) → InAction x Y y → Stands x W y) →
      Rd b (Take class.Call ∷ Take class.Name ∷ Call part.ArgumentsOption ∷ Build act.Call ∷ R) Y v → Claim W b
  call-claim W R h lift (last c e g) = none-claim (ap (λ o. option_map (grown (Take class.Name)) (option_map (grown (Call part.ArgumentsOption)) (above_action act.Call o))) (no-cut R h))
  call-claim W R h lift (take c e (last n f g)) = none-claim (ap (λ o. option_map (grown (Call part.ArgumentsOption)) (above_action act.Call o)) (no-cut R h))
  call-claim W R h lift (take c e (take n f r)) = arguments-claim c n R h e f lift r

  right-claim : (W : List Token) (R : List Symbol) {Y y : List Token} {a : Expr} {b : List Symbol} {v : List Value} → plain R ≡ true → ((x : Portion) (y : List Token) → InAction x Y y → Stands x W y) → IsTarget Y y a →
      Rd b (Take class.Equals ∷ Call part.Expr ∷ Build act.Whole ∷ Build act.Assign ∷ R) y v → Claim W b
  right-claim W R h lift s (last o e g) = expr-stop refl
  right-claim W R h lift s (take o e r) = expr-claim (lift expression _ (at_right_side o s e)) r (λ y m x d k. clear-claim h k)

  assignment-claim : (W : List Token) (R : List Symbol) {Y : List Token} {b : List Symbol} {v : List Value} → plain R ≡ true → ((x : Portion) (y : List Token) → InAction x Y y → Stands x W y) →
      Rd b (Call part.Assignment ∷ R) Y v → Claim W b
  assignment-claim W R h lift (row r here d) = target-claim (lift left_side _ at_left_side) d (λ y m e s k. right-claim W R h lift s k)
  assignment-claim W R h lift (row r (there i) d) = elim i [ ]

  action-claim : (W : List Token) (R : List Symbol) {Y : List Token} {b : List Symbol} {v : List Value} → plain R ≡ true → ((x : Portion) (y : List Token) → InAction x Y y → Stands x W y) →
      Rd b (Call part.Action ∷ R) Y v → Claim W b
  action-claim W R h lift (row r here d) = assignment-claim W R h lift d
  action-claim W R h lift (row r (there here) d) = call-claim W R h lift d
  action-claim W R h lift (row r (there (there here)) d) = clear-claim h d
  action-claim W R h lift (row r (there (there (there here))) d) = clear-claim h d
  action-claim W R h lift (row r (there (there (there (there here)))) d) = clear-claim h d
  action-claim W R h lift (row r (there (there (there (there (there i))))) d) = elim i [ ]

  -- behind the test of an IF
  rest-claim : {w y : List Token} {e : Expr} {b : List Symbol} {v : List Value} (i p : Token) → token_class i ≡ class.If → token_class p ≡ class.Open → IsExpr w y e →
      Rd b (Take class.Close ∷ Call part.IfRest ∷ []) y v → Claim (i ∷ p ∷ w) b
  rest-claim i p e f s (last o g h) = none-claim refl
  rest-claim i p e f s (take o g (row r here d)) = clear-claim refl d
  rest-claim i p e f s (take o g (row r (there here) d)) = action-claim _ (Build act.IfAction ∷ []) refl (λ x y a. behind_test i p o e f s g a) d
  rest-claim i p e f s (take o g (row r (there (there j)) d)) = elim j [ ]

  if-claim : {w : List Token} {b : List Symbol} {v : List Value} → Rd b (Take class.If ∷ Take class.Open ∷ Call part.Expr ∷ Build act.Whole ∷ Take class.Close ∷ Call part.IfRest ∷ []) w v → Claim w b
  if-claim (last i e g) = take-claim class.Open (Call part.Expr ∷ []) refl refl
  if-claim (take i e (last p f g)) = expr-stop refl
  if-claim (take i e (take p f r)) = expr-claim (behind_if i p e f) r (λ y m x s k. rest-claim i p e f s k)

  else-claim : {w : List Token} {b : List Symbol} {v : List Value} → Rd b (Take class.Else ∷ Call part.ElseRest ∷ []) w v → Claim w b
  else-claim (last t e g) = none-claim refl
  else-claim (take t e (row r here (last j f g))) = take-claim class.Open (Call part.Expr ∷ []) refl refl
  else-claim (take t e (row r here (take j f (last p k g)))) = expr-stop refl
  else-claim (take t e (row r here (take j f (take p k d)))) = expr-claim (behind_else_if p (apart t j e f) k) d (λ y m x s l. clear-claim refl l)
  else-claim (take t e (row r (there here) d)) = clear-claim refl d
  else-claim (take t e (row r (there (there i)) d)) = elim i [ ]

  elseif-claim : {w : List Token} {b : List Symbol} {v : List Value} → Rd b (Take class.Elseif ∷ Take class.Open ∷ Call part.Expr ∷ Build act.Whole ∷ Take class.Close ∷ Take class.Then ∷ Build act.ElseIf ∷ []) w v → Claim w b
  elseif-claim (last t e g) = take-claim class.Open (Call part.Expr ∷ []) refl refl
  elseif-claim (take t e (last p k g)) = expr-stop refl
  elseif-claim (take t e (take p k d)) = expr-claim (behind_else_if p (together t e) k) d (λ y m x s l. clear-claim refl l)

  select-claim : {w : List Token} {b : List Symbol} {v : List Value} → Rd b (Take class.Select ∷ Take class.Case ∷ Take class.Open ∷ Call part.Expr ∷ Build act.Whole ∷ Take class.Close ∷ Build act.Select ∷ []) w v → Claim w b
  select-claim (last t e g) = take-claim class.Case (Take class.Open ∷ Call part.Expr ∷ []) refl refl
  select-claim (take t e (last c f g)) = take-claim class.Open (Call part.Expr ∷ []) refl refl
  select-claim (take t e (take c f (last p k g))) = expr-stop refl
  select-claim (take t e (take c f (take p k d))) = expr-claim (behind_select p (apart t c e f) k) d (λ y m x s l. clear-claim refl l)

  selectcase-claim : {w : List Token} {b : List Symbol} {v : List Value} → Rd b (Take class.Selectcase ∷ Take class.Open ∷ Call part.Expr ∷ Build act.Whole ∷ Take class.Close ∷ Build act.Select ∷ []) w v → Claim w b
  selectcase-claim (last t e g) = take-claim class.Open (Call part.Expr ∷ []) refl refl
  selectcase-claim (take t e (last p k g)) = expr-stop refl
  selectcase-claim (take t e (take p k d)) = expr-claim (behind_select p (together t e) k) d (λ y m x s l. clear-claim refl l)

  step-claim : {w x y : List Token} {a c : Expr} {b : List Symbol} {v : List Value} (d n o k : Token) → token_class d ≡ class.Do → token_class n ≡ class.Name → token_class o ≡ class.Equals → IsExpr w (k ∷ x) a →
      token_class k ≡ class.Comma → IsExpr x y c → Rd b (Call part.StepOption ∷ Build act.Do ∷ []) y v → Claim (d ∷ n ∷ o ∷ w) b
  step-claim d n o k e f g s h l (row r here (last j i q)) = expr-stop refl
  step-claim d n o k e f g s h l (row r here (take j i m)) = expr-claim (do_third d n o k j e f g s h l i) m (λ y p x t q. clear-claim refl q)
  step-claim d n o k e f g s h l (row r (there here) m) = clear-claim refl m
  step-claim d n o k e f g s h l (row r (there (there i)) m) = elim i [ ]

  second-claim : {w y : List Token} {a : Expr} {b : List Symbol} {v : List Value} (d n o : Token) → token_class d ≡ class.Do → token_class n ≡ class.Name → token_class o ≡ class.Equals → IsExpr w y a →
      Rd b (Take class.Comma ∷ Call part.Expr ∷ Build act.Whole ∷ Call part.StepOption ∷ Build act.Do ∷ []) y v → Claim (d ∷ n ∷ o ∷ w) b
  second-claim d n o e f g s (last k h i) = expr-stop refl
  second-claim d n o e f g s (take k h r) = expr-claim (do_second d n o k e f g s h) r (λ y m x t j. step-claim d n o k e f g s h t j)

  do-claim : {w : List Token} {b : List Symbol} {v : List Value} →
      Rd b (Take class.Do ∷ Take class.Name ∷ Take class.Equals ∷ Call part.Expr ∷ Build act.Whole ∷ Take class.Comma ∷ Call part.Expr ∷ Build act.Whole ∷ Call part.StepOption ∷ Build act.Do ∷ []) w v → Claim w b
  do-claim (last d e h) = take-claim class.Name (Take class.Equals ∷ Call part.Expr ∷ []) refl refl
  do-claim (take d e (last n f h)) = take-claim class.Equals (Call part.Expr ∷ []) refl refl
  do-claim (take d e (take n f (last o g h))) = expr-stop refl
  do-claim (take d e (take n f (take o g r))) = expr-claim (do_first d n o e f g) r (λ y m x s k. second-claim d n o e f g s k)

  statement-claim : {w : List Token} {b : List Symbol} {v : List Value} → Rd b (Call part.Statement ∷ []) w v → Claim w b
  statement-claim (row r here d) = clear-claim refl d
  statement-claim (row r (there here) d) = clear-claim refl d
  statement-claim (row r (there (there here)) d) = clear-claim refl d
  statement-claim (row r (there (there (there here))) d) = clear-claim refl d
  statement-claim (row r (there (there (there (there here)))) d) = clear-claim refl d
  statement-claim (row r (there (there (there (there (there here))))) d) = clear-claim refl d
  statement-claim (row r (there (there (there (there (there (there here)))))) d) = clear-claim refl d
  statement-claim (row r (there (there (there (there (there (there (there here))))))) d) = clear-claim refl d
  statement-claim (row r (there (there (there (there (there (there (there (there here)))))))) d) = clear-claim refl d
  statement-claim (row r (there (there (there (there (there (there (there (there (there here))))))))) d) = clear-claim refl d
  statement-claim (row r (there (there (there (there (there (there (there (there (there (there here)))))))))) d) = clear-claim refl d
  statement-claim (row r (there (there (there (there (there (there (there (there (there (there (there here))))))))))) d) = clear-claim refl d
  statement-claim (row r (there (there (there (there (there (there (there (there (there (there (there (there here)))))))))))) d) = clear-claim refl d
  statement-claim (row r (there (there (there (there (there (there (there (there (there (there (there (there (there here))))))))))))) d) = clear-claim refl d
  statement-claim (row r (there (there (there (there (there (there (there (there (there (there (there (there (there (there here)))))))))))))) d) = assignment-claim _ [] refl (λ x y a. in_action a) d
  statement-claim (row r (there (there (there (there (there (there (there (there (there (there (there (there (there (there (there here))))))))))))))) d) = call-claim _ [] refl (λ x y a. in_action a) d
  statement-claim (row r (there (there (there (there (there (there (there (there (there (there (there (there (there (there (there (there here)))))))))))))))) d) = if-claim d
  statement-claim (row r (there (there (there (there (there (there (there (there (there (there (there (there (there (there (there (there (there here))))))))))))))))) d) = else-claim d
  statement-claim (row r (there (there (there (there (there (there (there (there (there (there (there (there (there (there (there (there (there (there here)))))))))))))))))) d) = elseif-claim d
  statement-claim (row r (there (there (there (there (there (there (there (there (there (there (there (there (there (there (there (there (there (there (there here))))))))))))))))))) d) = do-claim d
  statement-claim (row r (there (there (there (there (there (there (there (there (there (there (there (there (there (there (there (there (there (there (there (there here)))))))))))))))))))) d) = clear-claim refl d
  statement-claim (row r (there (there (there (there (there (there (there (there (there (there (there (there (there (there (there (there (there (there (there (there (there here))))))))))))))))))))) d) = clear-claim refl d
  statement-claim (row r (there (there (there (there (there (there (there (there (there (there (there (there (there (there (there (there (there (there (there (there (there (there here)))))))))))))))))))))) d) = clear-claim refl d
  statement-claim (row r (there (there (there (there (there (there (there (there (there (there (there (there (there (there (there (there (there (there (there (there (there (there (there here))))))))))))))))))))))) d) = select-claim d
  statement-claim (row r (there (there (there (there (there (there (there (there (there (there (there (there (there (there (there (there (there (there (there (there (there (there (there (there here)))))))))))))))))))))))) d) = selectcase-claim d
  statement-claim (row r (there (there (there (there (there (there (there (there (there (there (there (there (there (there (there (there (there (there (there (there (there (there (there (there (there here))))))))))))))))))))))))) d) = clear-claim refl d
  statement-claim (row r (there (there (there (there (there (there (there (there (there (there (there (there (there (there (there (there (there (there (there (there (there (there (there (there (there (there i)))))))))))))))))))))))))) d) = elim i [ ]

  -- The cut of what is read of a statement is a portion.
  pub found : {w : List Token} {b : List Symbol} {v : List Value} → Rd b (Call part.Statement ∷ []) w v → (ss : List Symbol) → cut_of b ≡ Some (cuts.Portion ss) → Plain ss z u q → Located z q w
  found r = (statement-claim r).portion
