-- Puts one after the other.
use Rattle.std.proofs.Common.{◌≡◌, ℕ, ◌+◌, zero, suc, ◌<◌, ◌≤◌, Bool, true, false, List, [], ◌∷◌, ◌++◌, length, refl, sym, ap, ◌∙◌, arith, subst, append_assoc, Some, None, nat_le}
use Rattle.std.specs.declared.option.Option.{Option}
use Rattle.std.specs.Prelude.{Result, Ok, Err, OnOk, OnErr, IsErr, take, drop, codes}
use Rattle.std.proofs.lemmas.List.{append-nil, take-append-drop}
use Rattle.std.proofs.lemmas.Grind.{common_steps}
use Rattle.std.proofs.lemmas.Bool.Decides.{nat_tests}
use Rattle.std.proofs.lemmas.Bool.{true≢false}
use Rattle.std.proofs.Common.{length-append}
use Rattle.std.proofs.lemmas.List.{length-replicate, length-drop}
use Rattle.outside.specs.Counts.{Rose}
use Rattle.outside.specs.Taken.{Took, TookPrefix}
use Rattle.fort_spell.specs.Stream.{Went, Broke, Rested, ways, Left, Put, Opened, Closed, bytes_alone, rows_shown, starting}
use Rattle.fort_spell.specs.declared.line.Margin.{Margin}
use Rattle.fort_spell.specs.Text.{blanks, first_margin, margin_text, sentinel_text}
use Rattle.fort_spell.specs.Pieces.{Piece, Token, text_of, piece}
use Rattle.fort_spell.specs.Rows.{Row, laid, lead, line, margin, row, text}
use Rattle.fort_spell.specs.declared.line.Sentinel.TheVariants as sentinel

pub took_both : (a b c : Option (List ℕ)) (x y : List ℕ) → Took a b x → Took b c y → Took a c (x ++ y)
took_both None b c x y p q = rw (q, p) refl
took_both (Some t) b c x y p q = rw (q, p) (ap (λ z. Some z) (append_assoc t x y))

pub took_none : (a : Option (List ℕ)) → Took a a []
took_none None = refl
took_none (Some t) = ap (λ z. Some z) (sym (append-nil t))

rose_later : (f g h : ℕ) → Rose f g → g ≤ h → Rose f h
rose_later f g h p q = omega arith

later_rose : (f g h : ℕ) → f ≤ g → Rose g h → Rose f h
later_rose f g h p q = omega arith

went_both : {K : Type 0} {a b c : Option (List ℕ)} {f g h : ℕ} {u v w : K → List ℕ} → Went a b f g u v → Went b c g h v w → Went a c f h u w
went_both {a = a} {b = b} {c = c} {u = u} {w = w} p q = record {
  bytes = p.bytes ++ q.bytes;
  taken = took_both a b c p.bytes q.bytes p.taken q.taken;
  whole = λ k. append_assoc p.bytes q.bytes (w k) ∙ ap (λ z. p.bytes ++ z) (q.whole k) ∙ p.whole k;
  later = omega (arith, p.later, q.later);
}

went_broke : {K : Type 0} {a b c : Option (List ℕ)} {f g h : ℕ} {u v : K → List ℕ} → Went a b f g u v → Broke b c g h v → Broke a c f h u
went_broke {a = a} {b = b} {c = c} {f = f} {g = g} {h = h} {u = u} p q = record {
  bytes = p.bytes ++ q.bytes;
  taken = took_both a b c p.bytes q.bytes p.taken q.taken;
  prefix = λ k. ((q.prefix k).0, ((q.prefix k).1.0, append_assoc p.bytes q.bytes (q.prefix k).0 ∙ ap (λ z. p.bytes ++ z) (q.prefix k).1.1 ∙ p.whole k));
  rose = later_rose f g h p.later q.rose;
  later = omega (arith, p.later, q.later);
}

broke_rested : {K : Type 0} {a b c : Option (List ℕ)} {f g h : ℕ} {u : K → List ℕ} → Broke a b f g u → Rested b c g h → Broke a c f h u
broke_rested {a = a} {f = f} {g = g} {h = h} p q = record {
  bytes = p.bytes;
  taken = q.same ∙ p.taken;
  prefix = p.prefix;
  rose = rose_later f g h p.rose q.later;
  later = omega (arith, p.later, q.later);
}

pub ways_both : {K Q R S E : Type 0} (x : Result Q E) (y : Result R E) (z : Result S E) (a b c : Option (List ℕ)) (f g h : ℕ) (u : Q → K → List ℕ) (v : R → K → List ℕ) (w : S → K → List ℕ) → ways x y a b f g u v → ways y z b c g h v w → ways x z a c f h u w
ways_both (Ok x) (Ok y) (Ok z) a b c f g h u v w p q = went_both p q
ways_both (Ok x) (Ok y) (Err z) a b c f g h u v w p q = went_broke p q
ways_both (Ok x) (Err y) (Ok z) a b c f g h u v w p q = absurd q
ways_both (Ok x) (Err y) (Err z) a b c f g h u v w p q = broke_rested p q
ways_both (Err x) (Ok y) z a b c f g h u v w p q = absurd p
ways_both (Err x) (Err y) (Ok z) a b c f g h u v w p q = absurd q
ways_both (Err x) (Err y) (Err z) a b c f g h u v w p q = record { same = q.same ∙ p.same; later = omega (arith, p.later, q.later) }

-- More pieces or rows stand behind.
pub ways_within : {K L Q R E : Type 0} (x : Result Q E) (y : Result R E) (a b : Option (List ℕ)) (f g : ℕ) (u : Q → K → List ℕ) (v : R → K → List ℕ) (w : L → K) → ways x y a b f g u v → ways x y a b f g (λ s k. u s (w k)) (λ s k. v s (w k))
ways_within (Ok x) (Ok y) a b f g u v w p = record { bytes = p.bytes; taken = p.taken; whole = λ k. p.whole (w k); later = p.later }
ways_within (Ok x) (Err y) a b f g u v w p = record { bytes = p.bytes; taken = p.taken; prefix = λ k. p.prefix (w k); rose = p.rose; later = p.later }
ways_within (Err x) (Ok y) a b f g u v w p = p
ways_within (Err x) (Err y) a b f g u v w p = record { same = p.same; later = p.later }

-- More text stands behind.
pub ways_behind : {K Q R E : Type 0} (x : Result Q E) (y : Result R E) (a b : Option (List ℕ)) (f g : ℕ) (u : Q → K → List ℕ) (v : R → K → List ℕ) (t : K → List ℕ) → ways x y a b f g u v → ways x y a b f g (λ s k. u s k ++ t k) (λ s k. v s k ++ t k)
ways_behind (Ok x) (Ok y) a b f g u v t p = record { bytes = p.bytes; taken = p.taken; whole = λ k. sym (append_assoc p.bytes (v y k) (t k)) ∙ ap (λ z. z ++ t k) (p.whole k); later = p.later }
ways_behind (Ok x) (Err y) a b f g u v t p = record { bytes = p.bytes; taken = p.taken; prefix = λ k. ((p.prefix k).0 ++ t k, (omega (arith, length-append (p.prefix k).0 (t k), (p.prefix k).1.0), sym (append_assoc p.bytes (p.prefix k).0 (t k)) ∙ ap (λ z. z ++ t k) (p.prefix k).1.1)); rose = p.rose; later = p.later }
ways_behind (Err x) (Ok y) a b f g u v t p = p
ways_behind (Err x) (Err y) a b f g u v t p = record { same = p.same; later = p.later }

-- The same text in other words.
pub ways_as : {K Q R E : Type 0} (x : Result Q E) (y : Result R E) (a b : Option (List ℕ)) (f g : ℕ) (u w : Q → K → List ℕ) (v t : R → K → List ℕ) → ((s : Q) (k : K) → u s k ≡ w s k) → ((s : R) (k : K) → v s k ≡ t s k) → ways x y a b f g u v → ways x y a b f g w t
ways_as (Ok x) (Ok y) a b f g u w v t d e p = record { bytes = p.bytes; taken = p.taken; whole = λ k. ap (λ z. p.bytes ++ z) (sym (e y k)) ∙ p.whole k ∙ d x k; later = p.later }
ways_as (Ok x) (Err y) a b f g u w v t d e p = record { bytes = p.bytes; taken = p.taken; prefix = λ k. ((p.prefix k).0, ((p.prefix k).1.0, (p.prefix k).1.1 ∙ d x k)); rose = p.rose; later = p.later }
ways_as (Err x) (Ok y) a b f g u w v t d e p = p
ways_as (Err x) (Err y) a b f g u w v t d e p = record { same = p.same; later = p.later }

-- A part and the next one.
pub put_both : {K Q E : Type 0} {shown : Q → K → List ℕ} {x y z : Result Q E} {a b c : Option (List ℕ)} {f g h : ℕ} (u v : K → K) → Put shown x y a b f g u → Put shown y z b c g h v → Put shown x z a c f h (λ k. u (v k))
put_both {shown = shown} {x = x} {y = y} {z = z} {a = a} {b = b} {c = c} {f = f} {g = g} {h = h} u v p q = record {
  way = ways_both x y z a b c f g h (λ s k. shown s (u (v k))) (λ s k. shown s (v k)) shown (ways_within x y a b f g (λ s k. shown s (u k)) shown v p.way) q.way;
}

-- One more part of what is left.
pub put_next : {K Q E : Type 0} {shown : Q → K → List ℕ} {x y z : Result Q E} {a b c : Option (List ℕ)} {f g h : ℕ} (whole rest u v : K → K) → Left shown x y a b f g whole rest → Put shown y z b c g h u → rest ≡ (λ k. u (v k)) → Left shown x z a c f h whole v
put_next {shown = shown} {x = x} {y = y} {z = z} {a = a} {b = b} {c = c} {f = f} {g = g} {h = h} whole rest u v p q e = record {
  way = ways_both x y z a b c f g h (λ s k. shown s (whole k)) (λ s k. shown s (u (v k))) (λ s k. shown s (v k))
      (subst (λ r. ways x y a b f g (λ s k. shown s (whole k)) (λ s k. shown s (r k))) e p.way) (ways_within y z b c g h (λ s k. shown s (u k)) shown v q.way);
}

-- Nothing is put.
ways_nothing : {K Q E : Type 0} (x : Result Q E) (a : Option (List ℕ)) (f : ℕ) (u : Q → K → List ℕ) → ways x x a a f f u u
ways_nothing (Ok x) a f u = record { bytes = []; taken = took_none a; whole = λ k. refl; later = omega arith }
ways_nothing (Err x) a f u = record { same = refl; later = omega arith }

pub put_nothing : {K Q E : Type 0} (shown : Q → K → List ℕ) (x : Result Q E) (a : Option (List ℕ)) (f : ℕ) → Put shown x x a a f f (λ k. k)
put_nothing shown x a f = record { way = ways_nothing x a f shown }

-- A list begins.
pub left_first : {K Q E : Type 0} {shown : Q → K → List ℕ} {x y : Result Q E} {a b : Option (List ℕ)} {f g : ℕ} (whole u v : K → K) → Put shown x y a b f g u → whole ≡ (λ k. u (v k)) → Left shown x y a b f g whole v
left_first {shown = shown} {x = x} {y = y} {a = a} {b = b} {f = f} {g = g} whole u v p e = record {
  way = subst (λ r. ways x y a b f g (λ s k. shown s (r k)) (λ s k. shown s (v k))) (sym e) (ways_within x y a b f g (λ s k. shown s (u k)) shown v p.way);
}

pub left_all : {K Q E : Type 0} (shown : Q → K → List ℕ) (x : Result Q E) (a : Option (List ℕ)) (f : ℕ) (whole : K → K) → Left shown x x a a f f whole whole
left_all shown x a f whole = record { way = ways_nothing x a f (λ s k. shown s (whole k)) }

-- A list ends.
pub left_none : {K Q E : Type 0} {shown : Q → K → List ℕ} {x y : Result Q E} {a b : Option (List ℕ)} {f g : ℕ} (whole rest : K → K) → Left shown x y a b f g whole rest → rest ≡ (λ k. k) → Put shown x y a b f g whole
left_none {shown = shown} {x = x} {y = y} {a = a} {b = b} {f = f} {g = g} whole rest p e = record {
  way = subst (λ r. ways x y a b f g (λ s k. shown s (whole k)) (λ s k. shown s (r k))) e p.way;
}

-- The same part in other words.
pub put_as : {K Q E : Type 0} {shown : Q → K → List ℕ} {x y : Result Q E} {a b : Option (List ℕ)} {f g : ℕ} (u v : K → K) → Put shown x y a b f g u → ((k : K) → u k ≡ v k) → Put shown x y a b f g v
put_as {shown = shown} {x = x} {y = y} {a = a} {b = b} {f = f} {g = g} u v p e = record {
  way = ways_as x y a b f g (λ s k. shown s (u k)) (λ s k. shown s (v k)) shown shown (λ s k. ap (shown s) (e k)) (λ s k. refl) p.way;
}

-- ROWS

-- A row is put: it is opened, its pieces are put, and it is closed.
pub row_put : {E : Type 0} {x : Result (Unit {0}) E} {y z : Result ℕ E} {w : Result (Unit {0}) E} {a b c d : Option (List ℕ)} {f g h i : ℕ} {m : Margin} (u : List Piece → List Piece) →
    Opened m x y a b f g → Put (laid m) y z b c g h u → Closed z w c d h i → Put rows_shown x w a d f i (λ rs. record { margin = m; pieces = u [] } ∷ rs)
unfolding laid
row_put {x = x} {y = y} {z = z} {w = w} {a = a} {b = b} {c = c} {d = d} {f = f} {g = g} {h = h} {i = i} {m = m} u o p q =
    let opens : ways x y a b f g (λ s (rs : List Row). line (record { margin = m; pieces = u [] }) ++ text rs) (λ s rs. laid m s (u []) ++ text rs)
    = ways_behind x y a b f g (λ s (rs : List Row). line (record { margin = m; pieces = u [] })) (λ s rs. laid m s (u [])) text (ways_within x y a b f g _ _ (λ rs. u []) o.way) in
    let goes : ways y z b c g h (λ s (rs : List Row). laid m s (u []) ++ text rs) (λ s rs. laid m s [] ++ text rs)
    = ways_behind y z b c g h (λ s (rs : List Row). laid m s (u [])) (λ s rs. laid m s []) text (ways_within y z b c g h _ _ (λ rs. []) p.way) in
    let ends : ways z w c d h i (λ s (rs : List Row). laid m s [] ++ text rs) (λ s rs. text rs)
    = ways_within z w c d h i (λ s k. codes "\n" ++ k) bytes_alone text q.way in
    record { way = ways_both x y w a b d f g i _ _ _ opens (ways_both y z w b c d g h i _ _ _ goes ends) }

-- BYTES

bytes_way : {E : Type 0} (r : Result (Unit {0}) E) (a b : Option (List ℕ)) (f g : ℕ) (w : List ℕ) → f ≤ g → OnOk r (Took a b w) → OnErr r (TookPrefix a b w) → OnErr r (Rose f g) →
    ways (Ok (tt {0})) r a b f g (λ s k. w ++ k) (bytes_alone {Q = Unit {0}})
bytes_way (Ok u) a b f g w later took part rose = record { bytes = w; taken = took; whole = λ k. refl; later = later }
bytes_way (Err e) a b f g w later took part rose = record {
  bytes = take part.count w;
  taken = part.taken;
  prefix = λ k. (drop part.count w ++ k, (omega (arith, length-append (drop part.count w) k, length-drop part.count w, part.within), sym (append_assoc (take part.count w) (drop part.count w) k) ∙ ap (λ z. z ++ k) (take-append-drop part.count w)));
  rose = rose;
  later = later;
}

pub bytes_put : {E : Type 0} (x r : Result (Unit {0}) E) (a b : Option (List ℕ)) (f g : ℕ) (w : List ℕ) (u : Unit {0}) → x ≡ Ok u → f ≤ g → OnOk r (Took a b w) → OnErr r (TookPrefix a b w) → OnErr r (Rose f g) →
    Put bytes_alone x r a b f g (λ k. w ++ k)
bytes_put x r a b f g w u e later took part rose = record { way = subst (λ (z : Result (Unit {0}) _). ways z r a b f g (λ s k. w ++ k) (bytes_alone {Q = Unit {0}})) (sym e) (bytes_way r a b f g w later took part rose) }

pub blanks_next : (n : ℕ) (k : List ℕ) → blanks n ++ (codes " " ++ k) ≡ blanks (n + 1) ++ k
blanks_next zero k = refl
blanks_next (suc n) k = let e : suc n + 1 ≡ suc (n + 1) = omega arith in rw e (ap (λ z. 32 ∷ z) (blanks_next n k))

pub lead_blanks : (s : Bool) (n : ℕ) (k : List ℕ) → n ≡ length (lead s) → blanks n ++ k ≡ lead s ++ k
lead_blanks true n k e = rw e refl
lead_blanks false n k e = rw e refl

-- From bytes to what is shown.

shown_ok : {K Q E : Type 0} (shown : Q → K → List ℕ) (p q : Q) (r : Result (Unit {0}) E) (u : Unit {0}) (a b : Option (List ℕ)) (f g : ℕ) (w : List ℕ → List ℕ) (part : K → K) → r ≡ Ok u →
    ((k : K) → w (shown q k) ≡ shown p (part k)) → ways (starting {E = E}) r a b f g (λ s k. w k) (bytes_alone {Q = Unit {0}}) → Went a b f g (λ k. shown p (part k)) (λ k. shown q k)
shown_ok {E = E} shown p q r u a b f g w part e same way =
    let went : Went a b f g (λ k. w k) (λ k. k) = subst (λ (z : Result (Unit {0}) E). ways (starting {E = E}) z a b f g (λ s k. w k) (bytes_alone {Q = Unit {0}})) e way in
    record { bytes = went.bytes; taken = went.taken; whole = λ k. went.whole (shown q k) ∙ same k; later = went.later }

shown_err : {K Q E : Type 0} (shown : Q → K → List ℕ) (p q : Q) (r : Result (Unit {0}) E) (d : E) (a b : Option (List ℕ)) (f g : ℕ) (w : List ℕ → List ℕ) (part : K → K) → r ≡ Err d →
    ((k : K) → w (shown q k) ≡ shown p (part k)) → ways (starting {E = E}) r a b f g (λ s k. w k) (bytes_alone {Q = Unit {0}}) → Broke a b f g (λ k. shown p (part k))
shown_err {E = E} shown p q r d a b f g w part e same way =
    let broke : Broke a b f g (λ k. w k) = subst (λ (z : Result (Unit {0}) E). ways (starting {E = E}) z a b f g (λ s k. w k) (bytes_alone {Q = Unit {0}})) e way in
    record { bytes = broke.bytes; taken = broke.taken; prefix = λ k. ((broke.prefix (shown q k)).0, ((broke.prefix (shown q k)).1.0, (broke.prefix (shown q k)).1.1 ∙ same k)); rose = broke.rose; later = broke.later }

pub shown_put : {K Q E : Type 0} (shown : Q → K → List ℕ) (x : Result Q E) (p q : Q) (r : Result (Unit {0}) E) (u : Unit {0}) (a b : Option (List ℕ)) (f g : ℕ) (w : List ℕ → List ℕ) (part : K → K) → x ≡ Ok p → r ≡ Ok u →
    ((k : K) → w (shown q k) ≡ shown p (part k)) → Put bytes_alone (starting {E = E}) r a b f g w → Put shown x (Ok q) a b f g part
shown_put {Q = Q} {E = E} shown x p q r u a b f g w part e h same put =
    record { way = subst (λ (z : Result Q E). ways z (Ok q) a b f g (λ s k. shown s (part k)) shown) (sym e) (shown_ok shown p q r u a b f g w part h same put.way) }

broken_way : {K Q E : Type 0} (shown : Q → K → List ℕ) (y : Result Q E) (p : Q) (a b : Option (List ℕ)) (f g : ℕ) (part : K → K) → IsErr y → Broke a b f g (λ k. shown p (part k)) → ways (Ok p) y a b f g (λ s k. shown s (part k)) shown
broken_way shown (Ok y) p a b f g part e broke = absurd (true≢false (sym e))
broken_way shown (Err y) p a b f g part e broke = broke

pub shown_broken : {K Q E : Type 0} (shown : Q → K → List ℕ) (x y : Result Q E) (p q : Q) (r : Result (Unit {0}) E) (d : E) (a b : Option (List ℕ)) (f g : ℕ) (w : List ℕ → List ℕ) (part : K → K) → x ≡ Ok p → r ≡ Err d → IsErr y →
    ((k : K) → w (shown q k) ≡ shown p (part k)) → Put bytes_alone (starting {E = E}) r a b f g w → Put shown x y a b f g part
shown_broken {Q = Q} {E = E} shown x y p q r d a b f g w part e h i same put =
    record {
      way = subst (λ (z : Result Q E). ways z y a b f g (λ s k. shown s (part k)) shown) (sym e)
          (broken_way shown y p a b f g part i (shown_err shown p q r d a b f g w part h same put.way));
    }

-- TOKENS

fits : (n : ℕ) → n ≤ 130 → nat_le n 130 ≡ true
fits n h = grind (arith, nat_tests)

breaks : (n : ℕ) → 130 < n → nat_le n 130 ≡ false
breaks n h = grind (arith, nat_tests)

widths : (t : Token) (x y : List ℕ) → text_of t ≡ x ++ y → length (text_of t) ≡ length x + length y
widths t x y e = ap length e ∙ length-append x y

pub token_beside : (m : Margin) (col c : ℕ) (s : Bool) (t : Token) (x y : List ℕ) → text_of t ≡ x ++ y → c ≡ col + length (lead s) + length x + length y → c ≤ 130 → (k : List Piece) →
    lead s ++ (x ++ (y ++ laid m c k)) ≡ laid m col (piece s t k)
unfolding laid
token_beside m col c s t x y e n h k =
    let same : c ≡ col + length (lead s) + length (text_of t) = omega (arith, n, widths t x y e) in
    let small : col + length (lead s) + length (text_of t) ≤ 130 = omega (arith, same, h) in
    rw (fits (col + length (lead s) + length (text_of t)) small)
    (ap (λ z. lead s ++ z) (sym (append_assoc x y (laid m c k)) ∙ ap (λ z. z ++ laid m c k) (sym e) ∙ ap (λ z. text_of t ++ laid m z k) same))

pub token_broken : (m : Margin) (col c : ℕ) (s : Bool) (t : Token) (x y : List ℕ) → text_of t ≡ x ++ y → c ≡ length (margin_text m) + length x + length y → 130 < col + length (lead s) + length x + length y → (k : List Piece) →
    codes " &\n" ++ (blanks (m.indent + 4) ++ (sentinel_text m.sentinel ++ (x ++ (y ++ laid m c k)))) ≡ laid m col (piece s t k)
unfolding laid
token_broken m col c s t x y e n h k =
    let same : c ≡ length (margin_text m) + length (text_of t) = omega (arith, n, widths t x y e) in
    let large : 130 < col + length (lead s) + length (text_of t) = omega (arith, h, widths t x y e) in
    rw (breaks (col + length (lead s) + length (text_of t)) large)
    (ap (λ z. codes " &\n" ++ z) (sym (append_assoc (blanks (m.indent + 4)) (sentinel_text m.sentinel) (x ++ (y ++ laid m c k)))
    ∙ ap (λ z. margin_text m ++ z) (sym (append_assoc x y (laid m c k)) ∙ ap (λ z. z ++ laid m c k) (sym e) ∙ ap (λ z. text_of t ++ laid m z k) same)))

-- The pieces of a node are those of its parts.
pub put_is : {K Q E : Type 0} {shown : Q → K → List ℕ} {x y : Result Q E} {a b : Option (List ℕ)} {f g : ℕ} {u : K → K} (part : K → K) → Put shown x y a b f g u → part ≡ u → Put shown x y a b f g part
put_is {shown = shown} {x = x} {y = y} {a = a} {b = b} {f = f} {g = g} {u = u} part p e = subst (λ w. Put shown x y a b f g w) (sym e) p

-- The first line of a row begins.

opened_ok_way : {E : Type 0} (m : Margin) (x : Result (Unit {0}) E) (u : Unit {0}) (a b : Option (List ℕ)) (f g : ℕ) → ways x (Ok u) a b f g (λ s k. first_margin m ++ k) (bytes_alone {Q = Unit {0}}) →
    ways x (Ok (length (first_margin m))) a b f g (λ s k. line (record { margin = m; pieces = k })) (laid m)
opened_ok_way m (Ok x) u a b f g p = record { bytes = p.bytes; taken = p.taken; whole = λ k. p.whole (laid m (length (first_margin m)) k); later = p.later }
opened_ok_way m (Err x) u a b f g p = absurd p

opened_err_way : {E : Type 0} (m : Margin) (x : Result (Unit {0}) E) (e : E) (y : Result ℕ E) (a b : Option (List ℕ)) (f g : ℕ) → IsErr y → ways x (Err e) a b f g (λ s k. first_margin m ++ k) (bytes_alone {Q = Unit {0}}) →
    ways x y a b f g (λ s k. line (record { margin = m; pieces = k })) (laid m)
opened_err_way m x e (Ok y) a b f g i p = absurd (true≢false (sym i))
opened_err_way m (Ok x) e (Err y) a b f g i p = record { bytes = p.bytes; taken = p.taken; prefix = λ k. p.prefix (laid m (length (first_margin m)) k); rose = p.rose; later = p.later }
opened_err_way m (Err x) e (Err y) a b f g i p = record { same = p.same; later = p.later }

margin_as : {E : Type 0} (m : Margin) (x r : Result (Unit {0}) E) (a b : Option (List ℕ)) (f g : ℕ) (w : List ℕ) → w ≡ sentinel_text m.sentinel → Put bytes_alone x r a b f g (λ k. blanks m.indent ++ (w ++ k)) → Put bytes_alone x r a b f g (λ k. first_margin m ++ k)
margin_as m x r a b f g w e p = put_as _ _ p (λ k. ap (λ z. blanks m.indent ++ (z ++ k)) e ∙ sym (append_assoc (blanks m.indent) (sentinel_text m.sentinel) k))

pub opened_ok : {E : Type 0} (m : Margin) (x r : Result (Unit {0}) E) (u : Unit {0}) (c : ℕ) (a b : Option (List ℕ)) (f g : ℕ) (w : List ℕ) → w ≡ sentinel_text m.sentinel → r ≡ Ok u → c ≡ length (first_margin m) →
    Put bytes_alone x r a b f g (λ k. blanks m.indent ++ (w ++ k)) → Opened m x (Ok c) a b f g
opened_ok {E = E} m x r u c a b f g w e i n p = record {
  way = subst (λ z. ways x (Ok z) a b f g (λ s k. line (record { margin = m; pieces = k })) (laid m)) (sym n)
      (opened_ok_way m x u a b f g (subst (λ (z : Result (Unit {0}) E). ways x z a b f g (λ s k. first_margin m ++ k) (bytes_alone {Q = Unit {0}})) i (margin_as m x r a b f g w e p).way));
}

pub opened_err : {E : Type 0} (m : Margin) (x r : Result (Unit {0}) E) (d : E) (y : Result ℕ E) (a b : Option (List ℕ)) (f g : ℕ) (w : List ℕ) → w ≡ sentinel_text m.sentinel → r ≡ Err d → IsErr y →
    Put bytes_alone x r a b f g (λ k. blanks m.indent ++ (w ++ k)) → Opened m x y a b f g
opened_err {E = E} m x r d y a b f g w e i n p = record {
  way = opened_err_way m x d y a b f g n (subst (λ (z : Result (Unit {0}) E). ways x z a b f g (λ s k. first_margin m ++ k) (bytes_alone {Q = Unit {0}})) i (margin_as m x r a b f g w e p).way);
}

closed_way : {E : Type 0} (x : ℕ) (r : Result (Unit {0}) E) (a b : Option (List ℕ)) (f g : ℕ) (w : List ℕ) → ways (Ok (tt {0})) r a b f g (λ s k. w ++ k) (bytes_alone {Q = Unit {0}}) → ways (Ok x) r a b f g (λ s k. w ++ k) (bytes_alone {Q = Unit {0}})
closed_way x (Ok r) a b f g w p = p
closed_way x (Err r) a b f g w p = p

pub closed_by : {E : Type 0} (y : Result ℕ E) (c : ℕ) (r : Result (Unit {0}) E) (a b : Option (List ℕ)) (f g : ℕ) → y ≡ Ok c → Put bytes_alone (Ok (tt {0})) r a b f g (λ k. codes "\n" ++ k) → Closed y r a b f g
closed_by {E = E} y c r a b f g e p = record {
  way = subst (λ (z : Result ℕ E). ways z r a b f g (λ s k. codes "\n" ++ k) (bytes_alone {Q = Unit {0}})) (sym e) (closed_way c r a b f g (codes "\n") p.way);
}

pub margin_width : (m : Margin) (w : List ℕ) → w ≡ sentinel_text m.sentinel → m.indent + length w ≡ length (first_margin m)
margin_width m w e = ap (λ z. m.indent + length z) e ∙ ap (λ n. n + length (sentinel_text m.sentinel)) (sym (length-replicate m.indent 32)) ∙ sym (length-append (blanks m.indent) (sentinel_text m.sentinel))

-- A statement's row is put.
pub row_of : {E : Type 0} {n : ℕ} {x : Result (Unit {0}) E} {y z : Result ℕ E} {w : Result (Unit {0}) E} {a b c d : Option (List ℕ)} {f g h i : ℕ} {m : Margin} (u : List Piece → List Piece) → m ≡ margin sentinel.Absent n →
    Opened m x y a b f g → Put (laid m) y z b c g h u → Closed z w c d h i → Put rows_shown x w a d f i (λ rs. row n (u []) rs)
row_of {x = x} {w = w} {a = a} {d = d} {f = f} {i = i} u e o p q = subst (λ m. Put rows_shown x w a d f i (λ rs. record { margin = m; pieces = u [] } ∷ rs)) e (row_put u o p q)

-- ALL IS PUT

end_took : {E : Type 0} (r : Result (Unit {0}) E) (a b : Option (List ℕ)) (f g : ℕ) (u : List Row → List Row) → ways (starting {E = E}) r a b f g (λ s k. text (u k)) (rows_shown {Q = Unit {0}}) → OnOk r (Took a b (text (u [])))
end_took (Ok x) a b f g u p = subst (λ z. Took a b z) (sym (append-nil p.bytes) ∙ p.whole []) p.taken
end_took (Err x) a b f g u p = tt

take_front : (x y : List ℕ) → take (length x) (x ++ y) ≡ x
take_front x y = grind (arith, common_steps)

prefix_of : (x y z : List ℕ) → x ++ y ≡ z → take (length x) z ≡ x
prefix_of x y z e = ap (take (length x)) (sym e) ∙ take_front x y

end_part : {E : Type 0} (r : Result (Unit {0}) E) (a b : Option (List ℕ)) (f g : ℕ) (u : List Row → List Row) → ways (starting {E = E}) r a b f g (λ s k. text (u k)) (rows_shown {Q = Unit {0}}) → OnErr r (TookPrefix a b (text (u [])))
end_part (Ok x) a b f g u p = tt
end_part (Err x) a b f g u p = record {
  count = length p.bytes;
  within = omega (arith, ap length (p.prefix []).1.1, length-append p.bytes (p.prefix []).0, (p.prefix []).1.0);
  taken = subst (λ z. Took a b z) (sym (prefix_of p.bytes (p.prefix []).0 (text (u [])) (p.prefix []).1.1)) p.taken;
}

end_rose : {E : Type 0} (r : Result (Unit {0}) E) (a b : Option (List ℕ)) (f g : ℕ) (u : List Row → List Row) → ways (starting {E = E}) r a b f g (λ s k. text (u k)) (rows_shown {Q = Unit {0}}) → OnErr r (Rose f g)
end_rose (Ok x) a b f g u p = tt
end_rose (Err x) a b f g u p = p.rose

end_later : {E : Type 0} (r : Result (Unit {0}) E) (a b : Option (List ℕ)) (f g : ℕ) (u : List Row → List Row) → ways (starting {E = E}) r a b f g (λ s k. text (u k)) (rows_shown {Q = Unit {0}}) → f ≤ g
end_later (Ok x) a b f g u p = p.later
end_later (Err x) a b f g u p = p.later

-- What all rows say of the sink.
pub record Ended {E : Type 0} (r : Result (Unit {0}) E) (a b : Option (List ℕ)) (f g : ℕ) (all : List ℕ) : Type 0 where
  pub later : f ≤ g
  pub took : OnOk r (Took a b all)
  pub part : OnErr r (TookPrefix a b all)
  pub rose : OnErr r (Rose f g)

pub ended : {E : Type 0} (r : Result (Unit {0}) E) (a b : Option (List ℕ)) (f g : ℕ) (u : List Row → List Row) → Put rows_shown (starting {E = E}) r a b f g u → Ended r a b f g (text (u []))
ended r a b f g u p = record { later = end_later r a b f g u p.way; took = end_took r a b f g u p.way; part = end_part r a b f g u p.way; rose = end_rose r a b f g u p.way }
