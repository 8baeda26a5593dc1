-- The test of the table, and what follows from it.
use Rattle.std.proofs.Common.{◌≡◌, ℕ, ◌+◌, ◌<◌, ◌≤◌, Bool, true, false, cond, ◌&&◌, ◌⊎◌, inl, inr, List, [], ◌∷◌, ◌++◌, refl, sym, ◌∙◌, ap, subst, Option, None, Some, arith, get_or}
use Rattle.std.specs.Prelude.{nat_lt}
use Rattle.std.proofs.lemmas.Bool.{cond-true, cond-false, and_parts, and_from, or_cases, or_parts, or_left, or_right, cases_Bool, eq-eqb, eqb-true, ltb-true, true≢false}
use Rattle.fort_grammar.specs.declared.table.Action.{Action}
use Rattle.fort_grammar.specs.declared.class.Class.{Class}
use Rattle.fort_grammar.specs.declared.class.Class.TheVariants.{Other}
use Rattle.fort_grammar.specs.declared.table.Part.{Part}
use Rattle.fort_grammar.specs.declared.table.Symbol.{Symbol}
use Rattle.fort_grammar.specs.declared.table.Symbol.TheVariants.{Take, Call, Build}
use Rattle.fort_tree.specs.declared.statement.Token.{Token}
use Rattle.fort_grammar.specs.Table.{Choice, table}
use Rattle.fort_grammar.specs.Class.{code, classes}
use Rattle.fort_grammar.specs.Token.{token_class}
use Rattle.fort_grammar.specs.Choose.{same, member, suits, chosen}
use Rattle.fort_grammar.specs.Derives.{In, Derives, here, there, done, take, build, row}
use Rattle.fort_grammar.specs.Sets.{follow, weight}
use Rattle.fort_grammar.specs.First.{only, all_first, any_empty, firsts, nulls, Good, cost}
use Rattle.fort_grammar.specs.Engine.{look_of}

-- Sets of classes.

abbrev pub within : List Class → List Class → Bool
within [] ys = true
within (x ∷ xs) ys = member x ys && within xs ys

abbrev pub apart : List Class → List Class → Bool
apart [] ys = true
apart (x ∷ xs) ys = cond (member x ys) false (apart xs ys)

abbrev pub then : Bool → Bool → Bool
then true b = b
then false b = true

-- The test of a table.

abbrev pub follows : Part → List Symbol → Bool
follows n [] = true
follows n (Take c ∷ ss) = follows n ss
follows n (Build x ∷ ss) = follows n ss
follows n (Call m ∷ ss) = within (firsts ss) (follow m) && (then (nulls ss) (within (follow n) (follow m)) && follows n ss)

abbrev pub row_covers : Part → Choice → Bool
row_covers n r = within (firsts r.symbols) r.first && (then (nulls r.symbols) r.empty && (follows n r.symbols && nat_lt (cost r.symbols) (weight n)))

abbrev pub row_fits : Part → Choice → Bool
row_fits n r = within r.first (firsts r.symbols) && (then r.empty (nulls r.symbols) && row_covers n r)

abbrev pub rows_fit : Part → List Choice → Bool
rows_fit n [] = true
rows_fit n (r ∷ rs) = row_fits n r && rows_fit n rs

abbrev pub is_nil : List Choice → Bool
is_nil [] = true
is_nil (r ∷ rs) = false

abbrev pub ordered : Part → List Choice → Bool
ordered n [] = true
ordered n (r ∷ rs) = apart r.first (all_first rs) && (then r.empty (is_nil rs) && (then (any_empty rs) (apart r.first (follow n)) && ordered n rs))

abbrev pub fits : Part → Bool
fits n = rows_fit n (table n) && ordered n (table n)

-- the table passes the test
pub table_fits : (n : Part) → fits n ≡ true
table_fits Part.Statement = refl
table_fits _ = refl

-- Lemmas on sets.

cond-false-head : (b d : Bool) → cond b false d ≡ true → (b ≡ false) × (d ≡ true)
cond-false-head true d h = absurd (true≢false (sym h))
cond-false-head false d h = (refl, h)

pub then-use : (a b : Bool) → then a b ≡ true → a ≡ true → b ≡ true
then-use true b h e = h
then-use false b h e = absurd (true≢false (sym e))

pub only-use : (c : Class) (b : Bool) (xs : List Class) → member c (only b xs) ≡ true → (b ≡ true) × (member c xs ≡ true)
only-use c true xs h = (refl, h)
only-use c false xs h = absurd (true≢false (sym h))

only-make : (c : Class) (b : Bool) (xs : List Class) → b ≡ true → member c xs ≡ true → member c (only b xs) ≡ true
only-make c true xs e h = h
only-make c false xs e h = absurd (true≢false (sym e))

abbrev decode : ℕ → Class
decode n = get_or classes n Other

decode-code : (c : Class) → decode (code c) ≡ c
decode-code Class.Open = refl
decode-code _ = refl

pub same-eq : (x c : Class) → same x c ≡ true → x ≡ c
same-eq x c h = sym (decode-code x) ∙ (ap decode (eqb-true (code x) (code c) h) ∙ decode-code c)

pub same-refl : (c : Class) → same c c ≡ true
same-refl c = eq-eqb (code c) (code c) refl

pub member-append : (c : Class) (xs ys : List Class) → member c (xs ++ ys) ≡ true → (member c xs ≡ true) ⊎ (member c ys ≡ true)
member-append c [] ys h = inr h
member-append c (x ∷ xs) ys h = elim (or_cases (same x c) (member c (xs ++ ys)) h) [ inl e ↦ inl (or_left (same x c) (member c xs) e) | inr e ↦ elim (member-append c xs ys e) [ inl m ↦ inl (or_right (same x c) (member c xs) m) | inr m ↦ inr m ] ]

member-left : (c : Class) (xs ys : List Class) → member c xs ≡ true → member c (xs ++ ys) ≡ true
member-left c [] ys h = absurd (true≢false (sym h))
member-left c (x ∷ xs) ys h = elim (or_cases (same x c) (member c xs) h) [ inl e ↦ or_left (same x c) (member c (xs ++ ys)) e | inr e ↦ or_right (same x c) (member c (xs ++ ys)) (member-left c xs ys e) ]

member-right : (c : Class) (xs ys : List Class) → member c ys ≡ true → member c (xs ++ ys) ≡ true
member-right c [] ys h = h
member-right c (x ∷ xs) ys h = or_right (same x c) (member c (xs ++ ys)) (member-right c xs ys h)

pub within-member : (c : Class) (xs ys : List Class) → within xs ys ≡ true → member c xs ≡ true → member c ys ≡ true
within-member c [] ys h m = absurd (true≢false (sym m))
within-member c (x ∷ xs) ys h m = let p = and_parts (member x ys) (within xs ys) h in
    elim (or_cases (same x c) (member c xs) m) [ inl e ↦ subst (λ d. member d ys ≡ true) (same-eq x c e) p.0 | inr e ↦ within-member c xs ys p.1 e ]

apart-member : (c : Class) (xs ys : List Class) → apart xs ys ≡ true → member c xs ≡ true → member c ys ≡ true → ⊥
apart-member c [] ys h m n = true≢false (sym m)
apart-member c (x ∷ xs) ys h m n = let p = cond-false-head (member x ys) (apart xs ys) h in
    elim (or_cases (same x c) (member c xs) m) [ inl e ↦ true≢false (subst (λ d. true ≡ member d ys) (sym (same-eq x c e)) (sym n) ∙ p.0) | inr e ↦ apart-member c xs ys p.1 e n ]

-- What the test of the table says of each row.

pub record RowFits (n : Part) (r : Choice) : Type 0 where
  pub no_more : within r.first (firsts r.symbols) ≡ true
  pub no_emptier : then r.empty (nulls r.symbols) ≡ true
  pub first : within (firsts r.symbols) r.first ≡ true
  pub empty : then (nulls r.symbols) r.empty ≡ true
  pub follows : follows n r.symbols ≡ true
  pub cost : nat_lt (cost r.symbols) (weight n) ≡ true

row-fits : (n : Part) (r : Choice) → row_fits n r ≡ true → RowFits n r
row-fits n r h0 =
    let x = and_parts (within r.first (firsts r.symbols)) (then r.empty (nulls r.symbols) && row_covers n r) h0 in
    let y = and_parts (then r.empty (nulls r.symbols)) (row_covers n r) x.1 in
    let h = y.1 in
    let a = and_parts (within (firsts r.symbols) r.first) (then (nulls r.symbols) r.empty && (follows n r.symbols && nat_lt (cost r.symbols) (weight n))) h in
    let b = and_parts (then (nulls r.symbols) r.empty) (follows n r.symbols && nat_lt (cost r.symbols) (weight n)) a.1 in
    let c = and_parts (follows n r.symbols) (nat_lt (cost r.symbols) (weight n)) b.1 in
    record { no_more = x.0; no_emptier = y.0; first = a.0; empty = b.0; follows = c.0; cost = c.1 }

rows-fit : (n : Part) (rs : List Choice) → rows_fit n rs ≡ true → (r : Choice) → In r rs → RowFits n r
rows-fit n [] h r i = elim i [ ]
rows-fit n (q ∷ rs) h r here = row-fits n q (and_parts (row_fits n q) (rows_fit n rs) h).0
rows-fit n (q ∷ rs) h r (there i) = rows-fit n rs (and_parts (row_fits n q) (rows_fit n rs) h).1 r i

pub row_of : (n : Part) (r : Choice) → In r (table n) → RowFits n r
row_of n r i = rows-fit n (table n) (and_parts (rows_fit n (table n)) (ordered n (table n)) (table_fits n)).0 r i

pub order_of : (n : Part) → ordered n (table n) ≡ true
order_of n = (and_parts (rows_fit n (table n)) (ordered n (table n)) (table_fits n)).1

pub in-first : (c : Class) (r : Choice) (rs : List Choice) → In r rs → member c r.first ≡ true → member c (all_first rs) ≡ true
in-first c r [] i m = elim i [ ]
in-first c r (q ∷ rs) here m = member-left c q.first (all_first rs) m
in-first c r (q ∷ rs) (there i) m = member-right c q.first (all_first rs) (in-first c r rs i m)

in-empty : (r : Choice) (rs : List Choice) → In r rs → r.empty ≡ true → any_empty rs ≡ true
in-empty r [] i m = elim i [ ]
in-empty r (q ∷ rs) here m = or_left q.empty (any_empty rs) m
in-empty r (q ∷ rs) (there i) m = or_right q.empty (any_empty rs) (in-empty r rs i m)

-- What begins two lists of symbols, one behind the other.

pub firsts-append : (c : Class) (xs ys : List Symbol) → member c (firsts (xs ++ ys)) ≡ true →
    (member c (firsts xs) ≡ true) ⊎ ((nulls xs ≡ true) × (member c (firsts ys) ≡ true))
firsts-append c [] ys h = inr (refl, h)
firsts-append c (Take d ∷ xs) ys h = inl h
firsts-append c (Build x ∷ xs) ys h = firsts-append c xs ys h
firsts-append c (Call n ∷ xs) ys h =
    elim (member-append c (all_first (table n)) (only (any_empty (table n)) (firsts (xs ++ ys))) h) [
      | inl m ↦ inl (member-left c (all_first (table n)) (only (any_empty (table n)) (firsts xs)) m)
      | inr m ↦ let p = only-use c (any_empty (table n)) (firsts (xs ++ ys)) m in elim (firsts-append c xs ys p.1) [
        | inl k ↦ inl (member-right c (all_first (table n)) (only (any_empty (table n)) (firsts xs)) (only-make c (any_empty (table n)) (firsts xs) p.0 k))
        | inr k ↦ inr (and_from (any_empty (table n)) (nulls xs) p.0 k.0, k.1)
      ]
    ]

pub nulls-append : (xs ys : List Symbol) → nulls (xs ++ ys) ≡ true → (nulls xs ≡ true) × (nulls ys ≡ true)
nulls-append [] ys h = (refl, h)
nulls-append (Take d ∷ xs) ys h = absurd (true≢false (sym h))
nulls-append (Build x ∷ xs) ys h = nulls-append xs ys h
nulls-append (Call n ∷ xs) ys h =
    let p = and_parts (any_empty (table n)) (nulls (xs ++ ys)) h in
    let q = nulls-append xs ys p.1 in
    (and_from (any_empty (table n)) (nulls xs) p.0 q.0, q.1)

-- The first token is one that can begin the symbols, and where there is none the symbols can be empty.
abbrev pub Begins : List Symbol → List Token → Type 0
Begins ss [] = nulls ss ≡ true
Begins ss (t ∷ w) = member (token_class t) (firsts ss) ≡ true

pub begins-build : (x : Action) (ss : List Symbol) (w : List Token) → Begins ss w → Begins (Build x ∷ ss) w
begins-build x ss [] h = h
begins-build x ss (t ∷ w) h = h

pub begins-call : (n : Part) (r : Choice) (ss : List Symbol) (w : List Token) → In r (table n) → Begins (r.symbols ++ ss) w → Begins (Call n ∷ ss) w
begins-call n r ss [] i h =
    let p = nulls-append r.symbols ss h in
    and_from (any_empty (table n)) (nulls ss) (in-empty r (table n) i (then-use (nulls r.symbols) r.empty (row_of n r i).empty p.0)) p.1
begins-call n r ss (t ∷ w) i h = elim (firsts-append (token_class t) r.symbols ss h) [
  | inl m ↦ member-left (token_class t) (all_first (table n)) (only (any_empty (table n)) (firsts ss)) (in-first (token_class t) r (table n) i (within-member (token_class t) (firsts r.symbols) r.first (row_of n r i).first m))
  | inr m ↦ member-right (token_class t) (all_first (table n)) (only (any_empty (table n)) (firsts ss)) (only-make (token_class t) (any_empty (table n)) (firsts ss)
      (in-empty r (table n) i (then-use (nulls r.symbols) r.empty (row_of n r i).empty m.0)) m.1)
]

good-append : (n : Part) (xs ys : List Symbol) → follows n xs ≡ true → ((c : Class) → member c (firsts ys) ≡ true → member c (follow n) ≡ true) → Good ys → Good (xs ++ ys)
good-append n [] ys h f g = g
good-append n (Take c ∷ xs) ys h f g = good-append n xs ys h f g
good-append n (Build x ∷ xs) ys h f g = good-append n xs ys h f g
good-append n (Call m ∷ xs) ys h f g =
    let p = and_parts (within (firsts xs) (follow m)) (then (nulls xs) (within (follow n) (follow m)) && follows n xs) h in
    let q = and_parts (then (nulls xs) (within (follow n) (follow m))) (follows n xs) p.1 in (
      λ c k. elim (firsts-append c xs ys k) [
        | inl e ↦ within-member c (firsts xs) (follow m) p.0 e
        | inr e ↦ within-member c (follow n) (follow m) (then-use (nulls xs) (within (follow n) (follow m)) q.0 e.0) (f c e.1)
      ],
      good-append n xs ys q.1 f g,
    )

pub good-call : (n : Part) (r : Choice) (ss : List Symbol) → In r (table n) → Good (Call n ∷ ss) → Good (r.symbols ++ ss)
good-call n r ss i g = good-append n r.symbols ss (row_of n r i).follows g.0 g.1

-- A row that the next token calls for.
abbrev pub Ready : Part → Option Class → Choice → Type 0
Ready n None r = r.empty ≡ true
Ready n (Some c) r = (member c r.first ≡ true) ⊎ ((r.empty ≡ true) × (member c (follow n) ≡ true))

ready-suits : (n : Part) (look : Option Class) (r : Choice) → Ready n look r → suits look r ≡ true
ready-suits n None r h = h
ready-suits n (Some c) r (inl h) = or_left (member c r.first) r.empty h
ready-suits n (Some c) r (inr h) = or_right (member c r.first) r.empty h.0

in-nil : (r : Choice) (rs : List Choice) → In r rs → is_nil rs ≡ true → ⊥
in-nil r [] i h = elim i [ ]
in-nil r (q ∷ rs) i h = true≢false (sym h)

-- No row above the one that is called for suits.
no-other : (n : Part) (look : Option Class) (q r : Choice) (rs : List Choice) → ordered n (q ∷ rs) ≡ true → In r rs → Ready n look r → suits look q ≡ true → ⊥
no-other n look q r rs h i ready s =
    let p = and_parts (apart q.first (all_first rs)) (then q.empty (is_nil rs) && (then (any_empty rs) (apart q.first (follow n)) && ordered n rs)) h in
    let p2 = and_parts (then q.empty (is_nil rs)) (then (any_empty rs) (apart q.first (follow n)) && ordered n rs) p.1 in
    let p3 = and_parts (then (any_empty rs) (apart q.first (follow n))) (ordered n rs) p2.1 in
    go look ready s p.0 p2.0 p3.0
  where
    last : then q.empty (is_nil rs) ≡ true → q.empty ≡ true → ⊥
    last k e = in-nil r rs i (then-use q.empty (is_nil rs) k e)

    go : (look : Option Class) → Ready n look r → suits look q ≡ true → apart q.first (all_first rs) ≡ true → then q.empty (is_nil rs) ≡ true → then (any_empty rs) (apart q.first (follow n)) ≡ true → ⊥
    go None ready s k1 k2 k3 = last k2 s
    go (Some c) (inl m) s k1 k2 k3 = elim (or_cases (member c q.first) q.empty s) [
      | inl e ↦ apart-member c q.first (all_first rs) k1 e (in-first c r rs i m)
      | inr e ↦ last k2 e
    ]
    go (Some c) (inr m) s k1 k2 k3 = elim (or_cases (member c q.first) q.empty s) [
      | inl e ↦ apart-member c q.first (follow n) (then-use (any_empty rs) (apart q.first (follow n)) k3 (in-empty r rs i m.0)) e m.1
      | inr e ↦ last k2 e
    ]

ordered-tail : (n : Part) (q : Choice) (rs : List Choice) → ordered n (q ∷ rs) ≡ true → ordered n rs ≡ true
ordered-tail n q rs h =
    let p = and_parts (apart q.first (all_first rs)) (then q.empty (is_nil rs) && (then (any_empty rs) (apart q.first (follow n)) && ordered n rs)) h in
    let p2 = and_parts (then q.empty (is_nil rs)) (then (any_empty rs) (apart q.first (follow n)) && ordered n rs) p.1 in
    (and_parts (then (any_empty rs) (apart q.first (follow n))) (ordered n rs) p2.1).1

pub chosen-ready : (n : Part) (look : Option Class) (rs : List Choice) → ordered n rs ≡ true → (r : Choice) → In r rs → Ready n look r → chosen look rs ≡ Some r
chosen-ready n look [] h r i ready = elim i [ ]
chosen-ready n look (q ∷ rs) h r here ready = cond-true (suits look q) (Some q) (chosen look rs) (ready-suits n look q ready)
chosen-ready n look (q ∷ rs) h r (there i) ready = elim (cases_Bool (suits look q)) [
  | inl s ↦ absurd (no-other n look q r rs h i ready s)
  | inr s ↦ cond-false (suits look q) (Some q) (chosen look rs) s ∙ chosen-ready n look rs (ordered-tail n q rs h) r i ready
]

pub some-eq : (q r : Choice) → Some q ≡ Some r → q ≡ r
some-eq q r h = cc

none-some : (c : Class) → None ≡ Some c → ⊥
none-some c h = cc

some-class : (b c : Class) → Some b ≡ Some c → b ≡ c
some-class b c h = cc

pub some-none : (q : Choice) → Some q ≡ None → ⊥
some-none q h = cc

pub chosen-in : (look : Option Class) (rs : List Choice) (r : Choice) → chosen look rs ≡ Some r → In r rs
chosen-in look [] r h = cc
chosen-in look (q ∷ rs) r h = elim (cases_Bool (suits look q)) [
  | inl s ↦ let e : q ≡ r = some-eq q r (sym (cond-true (suits look q) (Some q) (chosen look rs) s) ∙ h) in subst (λ x. In x (q ∷ rs)) e here
  | inr s ↦ there (chosen-in look rs r (sym (cond-false (suits look q) (Some q) (chosen look rs) s) ∙ h))
]

pub begins-ready : (n : Part) (r : Choice) (ss : List Symbol) (w : List Token) → In r (table n) → Good (Call n ∷ ss) → Begins (r.symbols ++ ss) w → Ready n (look_of w) r
begins-ready n r ss [] i g h = then-use (nulls r.symbols) r.empty (row_of n r i).empty (nulls-append r.symbols ss h).0
begins-ready n r ss (t ∷ w) i g h = elim (firsts-append (token_class t) r.symbols ss h) [
  | inl m ↦ inl (within-member (token_class t) (firsts r.symbols) r.first (row_of n r i).first m)
  | inr m ↦ inr (then-use (nulls r.symbols) r.empty (row_of n r i).empty m.0, g.0 (token_class t) m.1)
]

-- Where the next token can begin the symbols, the rows lead to it.

pub firsts-left : (c : Class) (xs ys : List Symbol) → member c (firsts xs) ≡ true → member c (firsts (xs ++ ys)) ≡ true
firsts-left c [] ys h = absurd (true≢false (sym h))
firsts-left c (Take d ∷ xs) ys h = h
firsts-left c (Build x ∷ xs) ys h = firsts-left c xs ys h
firsts-left c (Call n ∷ xs) ys h = elim (member-append c (all_first (table n)) (only (any_empty (table n)) (firsts xs)) h) [
  | inl m ↦ member-left c (all_first (table n)) (only (any_empty (table n)) (firsts (xs ++ ys))) m
  | inr m ↦ let p = only-use c (any_empty (table n)) (firsts xs) m in
      member-right c (all_first (table n)) (only (any_empty (table n)) (firsts (xs ++ ys))) (only-make c (any_empty (table n)) (firsts (xs ++ ys)) p.0 (firsts-left c xs ys p.1))
]

pub firsts-right : (c : Class) (xs ys : List Symbol) → nulls xs ≡ true → member c (firsts ys) ≡ true → member c (firsts (xs ++ ys)) ≡ true
firsts-right c [] ys e h = h
firsts-right c (Take d ∷ xs) ys e h = absurd (true≢false (sym e))
firsts-right c (Build x ∷ xs) ys e h = firsts-right c xs ys e h
firsts-right c (Call n ∷ xs) ys e h =
    let p = and_parts (any_empty (table n)) (nulls xs) e in
    member-right c (all_first (table n)) (only (any_empty (table n)) (firsts (xs ++ ys))) (only-make c (any_empty (table n)) (firsts (xs ++ ys)) p.0 (firsts-right c xs ys p.1 h))

pub first-in : (c : Class) (rs : List Choice) → member c (all_first rs) ≡ true → (r : Choice) × In r rs × (member c r.first ≡ true)
first-in c [] h = absurd (true≢false (sym h))
first-in c (q ∷ rs) h = elim (member-append c q.first (all_first rs) h) [
  | inl m ↦ (q, here, m)
  | inr m ↦ let p = first-in c rs m in (p.0, there p.1, p.2)
]

pub empty-in : (rs : List Choice) → any_empty rs ≡ true → (r : Choice) × In r rs × (r.empty ≡ true)
empty-in [] h = absurd (true≢false (sym h))
empty-in (q ∷ rs) h = elim (or_cases q.empty (any_empty rs) h) [
  | inl m ↦ (q, here, m)
  | inr m ↦ let p = empty-in rs m in (p.0, there p.1, p.2)
]

chosen-suits : (look : Option Class) (rs : List Choice) (r : Choice) → chosen look rs ≡ Some r → suits look r ≡ true
chosen-suits look [] r h = cc
chosen-suits look (q ∷ rs) r h = elim (cases_Bool (suits look q)) [
  | inl s ↦ let e : q ≡ r = some-eq q r (sym (cond-true (suits look q) (Some q) (chosen look rs) s) ∙ h) in subst (λ x. suits look x ≡ true) e s
  | inr s ↦ chosen-suits look rs r (sym (cond-false (suits look q) (Some q) (chosen look rs) s) ∙ h)
]

-- a row that the token calls for is the one that is chosen
ready-chosen : (n : Part) (c : Class) (q r : Choice) → In q (table n) → Ready n (Some c) q → chosen (Some c) (table n) ≡ Some r → q ≡ r
ready-chosen n c q r i ready h = some-eq q r (sym (chosen-ready n (Some c) (table n) (order_of n) q i ready) ∙ h)

pub leads : (n : Part) (c : Class) (r : Choice) (ss : List Symbol) → Good (Call n ∷ ss) → chosen (Some c) (table n) ≡ Some r →
    member c (firsts (Call n ∷ ss)) ≡ true → member c (firsts (r.symbols ++ ss)) ≡ true
leads n c r ss g h m = elim (member-append c (all_first (table n)) (only (any_empty (table n)) (firsts ss)) m) [
  | inl k ↦ let p = first-in c (table n) k in
      let e : p.0 ≡ r = ready-chosen n c p.0 r p.1 (inl p.2) h in
      let j : member c (firsts p.0.symbols) ≡ true = within-member c p.0.first (firsts p.0.symbols) (row_of n p.0 p.1).no_more p.2 in
      subst (λ q. member c (firsts (q.symbols ++ ss)) ≡ true) e (firsts-left c p.0.symbols ss j)
  | inr k ↦ let o = only-use c (any_empty (table n)) (firsts ss) k in
      let p = empty-in (table n) o.0 in
      let e : p.0 ≡ r = ready-chosen n c p.0 r p.1 (inr (p.2, g.0 c o.1)) h in
      let j : nulls p.0.symbols ≡ true = then-use p.0.empty (nulls p.0.symbols) (row_of n p.0 p.1).no_emptier p.2 in
      subst (λ q. member c (firsts (q.symbols ++ ss)) ≡ true) e (firsts-right c p.0.symbols ss j o.1)
]

pub leads-none : (n : Part) (c : Class) (ss : List Symbol) → Good (Call n ∷ ss) → chosen (Some c) (table n) ≡ None → member c (firsts (Call n ∷ ss)) ≡ true → ⊥
leads-none n c ss g h m = elim (member-append c (all_first (table n)) (only (any_empty (table n)) (firsts ss)) m) [
  | inl k ↦ let p = first-in c (table n) k in some-none p.0 (sym (chosen-ready n (Some c) (table n) (order_of n) p.0 p.1 (inl p.2)) ∙ h)
  | inr k ↦ let o = only-use c (any_empty (table n)) (firsts ss) k in
      let p = empty-in (table n) o.0 in
      some-none p.0 (sym (chosen-ready n (Some c) (table n) (order_of n) p.0 p.1 (inr (p.2, g.0 c o.1))) ∙ h)
]

-- The row that is chosen at a token is the one chosen at the end, or the token can begin it.
pub chosen-at-end : (n : Part) (c : Class) (r : Choice) (ss : List Symbol) → chosen (Some c) (table n) ≡ Some r →
    (member c (firsts (r.symbols ++ ss)) ≡ true) ⊎ (chosen None (table n) ≡ Some r)
chosen-at-end n c r ss h = elim (or_cases (member c r.first) r.empty (chosen-suits (Some c) (table n) r h)) [
  | inl m ↦ inl (firsts-left c r.symbols ss (within-member c r.first (firsts r.symbols) (row_of n r (chosen-in (Some c) (table n) r h)).no_more m))
  | inr m ↦ inr (chosen-ready n None (table n) (order_of n) r (chosen-in (Some c) (table n) r h) m)
]

chosen-none : (c : Class) (rs : List Choice) → chosen (Some c) rs ≡ None → chosen None rs ≡ None
chosen-none c [] h = refl
chosen-none c (q ∷ rs) h = elim (cases_Bool (suits (Some c) q)) [
  | inl s ↦ absurd (some-none q (sym (cond-true (suits (Some c) q) (Some q) (chosen (Some c) rs) s) ∙ h))
  | inr s ↦ cond-false q.empty (Some q) (chosen None rs) (or_parts (member c q.first) q.empty s).1
      ∙ chosen-none c rs (sym (cond-false (suits (Some c) q) (Some q) (chosen (Some c) rs) s) ∙ h)
]

pub none-at-end : (n : Part) (c : Class) → chosen (Some c) (table n) ≡ None → chosen None (table n) ≡ None
none-at-end n c h = chosen-none c (table n) h

cost-append : (xs ys : List Symbol) → cost (xs ++ ys) ≤ cost xs + cost ys
cost-append [] ys = omega arith
cost-append (Take c ∷ xs) ys = omega arith
cost-append (Build x ∷ xs) ys = let h : cost (xs ++ ys) ≤ cost xs + cost ys = cost-append xs ys in omega arith
cost-append (Call n ∷ xs) ys = let h : cost (xs ++ ys) ≤ cost xs + cost ys = cost-append xs ys in omega arith

pub cost-row : (n : Part) (r : Choice) → In r (table n) → (ss : List Symbol) → cost (r.symbols ++ ss) < weight n + cost ss
cost-row n r i ss =
    let a : cost (r.symbols ++ ss) ≤ cost r.symbols + cost ss = cost-append r.symbols ss in
    let b : cost r.symbols < weight n = ltb-true (cost r.symbols) (weight n) (row_of n r i).cost in
    omega arith

pub cost-call : (n : Part) (r : Choice) (k : Option Class) (ss : List Symbol) → chosen k (table n) ≡ Some r → cost (r.symbols ++ ss) < weight n + cost ss
cost-call n r k ss h = cost-row n r (chosen-in k (table n) r h) ss

module _ (V : Type 0) (shift : Token → V → V) (apply : Action → V → V) where
  pub begins : {ss : List Symbol} {w : List Token} {v u : V} → Derives V shift apply ss w v u → Begins ss w
  begins done = refl
  begins (take {c = c} t e d) = or_left (same c (token_class t)) false (subst (λ k. same c k ≡ true) (sym e) (same-refl c))
  begins (build {x = x} {rest = ss} {w = w} d) = begins-build x ss w (begins d)
  begins (row {n = n} {rest = ss} {w = w} r i d) = begins-call n r ss w i (begins d)

  pub inv-nil : {w : List Token} {v u : V} → Derives V shift apply [] w v u → (w ≡ []) × (v ≡ u)
  inv-nil done = (refl, refl)

  pub inv-take : {c : Class} {ss : List Symbol} {w : List Token} {v u : V} → Derives V shift apply (Take c ∷ ss) w v u →
      (t : Token) × (rest : List Token) × (w ≡ t ∷ rest) × ((token_class t) ≡ c) × Derives V shift apply ss rest (shift t v) u
  inv-take (take {w = rest} t e d) = (t, rest, refl, e, d)

  pub inv-build : {x : Action} {ss : List Symbol} {w : List Token} {v u : V} → Derives V shift apply (Build x ∷ ss) w v u → Derives V shift apply ss w (apply x v) u
  inv-build (build d) = d

  pub inv-call : {n : Part} {ss : List Symbol} {w : List Token} {v u : V} → Derives V shift apply (Call n ∷ ss) w v u →
      (r : Choice) × In r (table n) × Derives V shift apply (r.symbols ++ ss) w v u
  inv-call (row r i d) = (r, i, d)

  -- What is derived goes by the row that the next token calls for.
  pub expands : (n : Part) (r : Choice) (ss : List Symbol) (w : List Token) (v u : V) → Good (Call n ∷ ss) →
      chosen (look_of w) (table n) ≡ Some r → Derives V shift apply (Call n ∷ ss) w v u → Derives V shift apply (r.symbols ++ ss) w v u
  expands n r ss w v u g h d =
      let k = inv-call d in
      let ready = begins-ready n k.0 ss w k.1 g (begins k.2) in
      let e : k.0 ≡ r = some-eq k.0 r (sym (chosen-ready n (look_of w) (table n) (order_of n) k.0 k.1 ready) ∙ h) in
      subst (λ q. Derives V shift apply (q.symbols ++ ss) w v u) e k.2

  pub expands-none : (n : Part) (ss : List Symbol) (w : List Token) (v u : V) → Good (Call n ∷ ss) →
      chosen (look_of w) (table n) ≡ None → Derives V shift apply (Call n ∷ ss) w v u → ⊥
  expands-none n ss w v u g h d =
      let k = inv-call d in
      let ready = begins-ready n k.0 ss w k.1 g (begins k.2) in
      let e = sym (chosen-ready n (look_of w) (table n) (order_of n) k.0 k.1 ready) ∙ h in
      some-none k.0 e
