use Rattle.std.proofs.Common.{◌≡◌, ℕ, zero, suc, ◌<◌, Bool, true, false, ◌&&◌, ◌||◌, inl, inr, List, [], ◌∷◌, ◌++◌, refl, sym, arith}
use Rattle.std.specs.Prelude.{IsTrue, nat_lt}
use Rattle.std.proofs.lemmas.Bool.{and_parts, or_cases, true≢false, ltb-true}
use Rattle.fort_grammar.specs.declared.table.Action.{Action}
use Rattle.fort_grammar.specs.declared.class.Class.{Class}
use Rattle.fort_grammar.specs.declared.table.Part.{Part}
use Rattle.fort_grammar.specs.declared.table.Symbol.{Symbol}
use Rattle.fort_grammar.specs.declared.table.Symbol.TheVariants.{Take, Call, Build}
use Rattle.fort_tree.specs.declared.statement.Token.{Token}
use Rattle.fort_grammar.specs.Table.{Choice, table}
use Rattle.fort_grammar.specs.Token.{text_class, token_class}
use Rattle.fort_grammar.specs.Class.{sample}
use Rattle.fort_tree.specs.Token.{is_token}
use Rattle.fort_tree.specs.Unplaced.{nowhere}
use Rattle.fort_grammar.specs.Derives.{In, Derives, here, there, done, take, build, row}
use Rattle.fort_grammar.specs.Sets.{rank}

-- Each part has a row all of whose parts have a lower rank, so something derives it.

abbrev pub ranked : ℕ → List Symbol → Bool
ranked k [] = true
ranked k (Take c ∷ ss) = ranked k ss
ranked k (Build x ∷ ss) = ranked k ss
ranked k (Call n ∷ ss) = nat_lt (rank n) k && ranked k ss

abbrev pub some_ranked : ℕ → List Choice → Bool
some_ranked k [] = false
some_ranked k (r ∷ rs) = ranked k r.symbols || some_ranked k rs

pub sample-whole : (c : Class) → IsTrue (is_token (sample c))
sample-whole Class.Open = refl
sample-whole _ = refl

-- a token of the class
abbrev pub token_of : Class → Token
token_of c = record { text = sample c; at = nowhere; whole = sample-whole c }

pub class-sample : (c : Class) → token_class (token_of c) ≡ c
unfolding text_class
class-sample Class.Open = refl
class-sample _ = refl

table_ranked : (n : Part) → some_ranked (rank n) (table n) ≡ true
table_ranked Part.Statement = refl
table_ranked _ = refl

ranked-row : (k : ℕ) (rs : List Choice) → some_ranked k rs ≡ true → (r : Choice) × In r rs × (ranked k r.symbols ≡ true)
ranked-row k [] h = absurd (true≢false (sym h))
ranked-row k (r ∷ rs) h = elim (or_cases (ranked k r.symbols) (some_ranked k rs) h) [
  | inl e ↦ (r, here, e)
  | inr e ↦ let p = ranked-row k rs e in (p.0, there p.1, p.2)
]

module _ (V : Type 0) (shift : Token → V → V) (apply : Action → V → V) where
  abbrev pub Derivable : List Symbol → Type 0
  Derivable ss = (v : V) → (w : List Token) × (u : V) × Derives V shift apply ss w v u

  abbrev PartDerivable : Part → Type 0
  PartDerivable n = (rest : List Symbol) → Derivable rest → Derivable (Call n ∷ rest)

  walk : (k : ℕ) → ((m : Part) → rank m < k → PartDerivable m) → (ss : List Symbol) → ranked k ss ≡ true → (rest : List Symbol) → Derivable rest → Derivable (ss ++ rest)
  walk k parts [] h rest d v = d v
  walk k parts (Take c ∷ ss) h rest d v =
      let p = walk k parts ss h rest d (shift (token_of c) v) in (token_of c ∷ p.0, p.1, take (token_of c) (class-sample c) p.2)
  walk k parts (Build x ∷ ss) h rest d v = let p = walk k parts ss h rest d (apply x v) in (p.0, p.1, build p.2)
  walk k parts (Call n ∷ ss) h rest d v =
      let q = and_parts (nat_lt (rank n) k) (ranked k ss) h in
      parts n (ltb-true (rank n) k q.0) (ss ++ rest) (λ x. walk k parts ss q.1 rest d x) v

  part : (k : ℕ) (n : Part) → rank n < k → PartDerivable n
  part zero n h rest d v = absurd (omega (arith, h))
  part (suc k) n h rest d v =
      let r = ranked-row (rank n) (table n) (table_ranked n) in
      let p = walk (rank n) (λ m j. part k m (omega (arith, j, h))) r.0.symbols r.2 rest d v in
      (p.0, p.1, row r.0 r.1 p.2)

  -- something derives any symbols
  pub derivable : (ss : List Symbol) → Derivable ss
  derivable [] v = ([], v, done)
  derivable (Take c ∷ ss) v =
      let p = derivable ss (shift (token_of c) v) in (token_of c ∷ p.0, p.1, take (token_of c) (class-sample c) p.2)
  derivable (Build x ∷ ss) v = let p = derivable ss (apply x v) in (p.0, p.1, build p.2)
  derivable (Call n ∷ ss) v = part (suc (rank n)) n (omega arith) ss (derivable ss) v
