-- FIRST is exact: each token of a class in FIRST of the symbols begins tokens that derive them.
use Rattle.std.proofs.Common.{◌≡◌, ℕ, zero, suc, ◌+◌, ◌<◌, true, false, inl, inr, List, [], ◌∷◌, ◌++◌, sym, arith}
use Rattle.std.proofs.lemmas.Bool.{or_cases, true≢false}
use Rattle.fort_tree.specs.declared.statement.Token.{Token}
use Rattle.fort_grammar.specs.declared.class.Class.{Class}
use Rattle.fort_grammar.specs.declared.table.Action.{Action}
use Rattle.fort_grammar.specs.declared.table.Part.{Part}
use Rattle.fort_grammar.specs.declared.table.Symbol.{Symbol}
use Rattle.fort_grammar.specs.declared.table.Symbol.TheVariants.{Take, Call, Build}
use Rattle.fort_grammar.specs.Table.{Choice, table}
use Rattle.fort_grammar.specs.Choose.{same, member}
use Rattle.fort_grammar.specs.First.{only, all_first, any_empty, firsts, nulls, cost}
use Rattle.fort_grammar.specs.Derives.{In, Derives, take, build, row}
use Rattle.fort_grammar.specs.Sets.{weight}
use Rattle.fort_grammar.specs.Token.{token_class}
use Rattle.fort_grammar.proofs.Theory.{same-eq, member-append, only-use, first-in, empty-in, firsts-left, firsts-right, within-member, then-use, row_of, cost-row}
use Rattle.fort_grammar.proofs.Productive.{derivable}

-- a row from which the class can be reached
row-for : (n : Part) (c : Class) (ss : List Symbol) → member c (firsts (Call n ∷ ss)) ≡ true → (r : Choice) × In r (table n) × (member c (firsts (r.symbols ++ ss)) ≡ true)
row-for n c ss m = elim (member-append c (all_first (table n)) (only (any_empty (table n)) (firsts ss)) m) [
  | inl k ↦ let p = first-in c (table n) k in
      (p.0, p.1, firsts-left c p.0.symbols ss (within-member c p.0.first (firsts p.0.symbols) (row_of n p.0 p.1).no_more p.2))
  | inr k ↦ let o = only-use c (any_empty (table n)) (firsts ss) k in
      let p = empty-in (table n) o.0 in
      (p.0, p.1, firsts-right c p.0.symbols ss (then-use p.0.empty (nulls p.0.symbols) (row_of n p.0 p.1).no_emptier p.2) o.1)
]

module _ (V : Type 0) (shift : Token → V → V) (apply : Action → V → V) where
  reach : (k : ℕ) (t : Token) (ss : List Symbol) → cost ss < k → member (token_class t) (firsts ss) ≡ true → (v : V) → (w : List Token) × (u : V) × Derives V shift apply ss (t ∷ w) v u
  reach zero t ss h m v = absurd (omega (arith, h))
  reach (suc k) t [] h m v = absurd (true≢false (sym m))
  reach (suc k) t (Take c ∷ ss) h m v =
      let e : c ≡ token_class t = same-eq c (token_class t) (elim (or_cases (same c (token_class t)) false m) [ inl j ↦ j | inr j ↦ absurd (true≢false (sym j)) ]) in
      let p = derivable V shift apply ss (shift t v) in (p.0, p.1, take t (sym e) p.2)
  reach (suc k) t (Build x ∷ ss) h m v = let p = reach k t ss (omega (arith, h)) m (apply x v) in (p.0, p.1, build p.2)
  reach (suc k) t (Call n ∷ ss) h m v =
      let r = row-for n (token_class t) ss m in
      let a : cost (r.0.symbols ++ ss) < weight n + cost ss = cost-row n r.0 r.1 ss in
      let p = reach k t (r.0.symbols ++ ss) (omega (arith, h, a)) r.2 v in (p.0, p.1, row r.0 r.1 p.2)

  pub reachable : (t : Token) (ss : List Symbol) → member (token_class t) (firsts ss) ≡ true → (v : V) → (w : List Token) × (u : V) × Derives V shift apply ss (t ∷ w) v u
  reachable t ss m v = reach (suc (cost ss)) t ss (omega arith) m v
