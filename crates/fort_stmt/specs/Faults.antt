-- Which tokens are a statement, and where the first token stands with which none can go on.
use Rattle.std.specs.Prelude.{◌≡◌, ℕ, ◌+◌, ◌<◌, ◌≤◌, length, take, drop, List, [], ◌∷◌, ◌++◌, Some}
use Rattle.std.specs.List.{slice_get}
use Rattle.fort_tree.specs.declared.choice.Mode.{Mode}
use Rattle.fort_tree.specs.declared.statement.Statement.{Statement}
use Rattle.fort_tree.specs.declared.statement.Token.{Token}
use Rattle.fort_grammar.specs.declared.class.Class.{Class}
use Rattle.fort_grammar.specs.Token.{token_class}
use Rattle.fort_stmt.specs.declared.judging.Extent.{Extent}
use Rattle.fort_stmt.specs.declared.judging.Extent.TheVariants as extent
use Rattle.fort_stmt.specs.declared.judging.Judgement.{Judgement}
use Rattle.fort_stmt.specs.declared.judging.Judgement.TheVariants as judgement
use Rattle.fort_stmt.specs.declared.parsing.Outcome.{Outcome}
use Rattle.fort_stmt.specs.declared.parsing.Outcome.TheVariants as outcome
use Rattle.fort_stmt.specs.declared.outline.Outline.{Outline}
use Rattle.fort_stmt.specs.declared.sort.Sort.{Sort}
use Rattle.fort_stmt.specs.Form.{IsStatement}
use Rattle.fort_stmt.specs.Outline.{outline_of}
use Rattle.fort_stmt.specs.Outside.{Outside}
use Rattle.fort_stmt.specs.Sort.{sort_of}

-- a statement can begin with these tokens
abbrev pub Begins : List Token → Type 0
Begins w = (z : List Token) × (s : Statement) × IsStatement (w ++ z) s

-- The first n tokens are the longest run with which a statement can begin.
pub record Run (tokens : List Token) (n : ℕ) : Type 0 where
  pub within : n ≤ length tokens
  pub begins : Begins (take n tokens)
  pub dead : n < length tokens → Begins (take (n + 1) tokens) → ⊥

-- The tokens are this statement and no other.
pub record Reads (tokens : List Token) (s : Statement) : Type 0 where
  pub spelled : IsStatement tokens s
  pub unique : (x : Statement) → IsStatement tokens x → x ≡ s

abbrev pub NoStatement : List Token → Type 0
NoStatement tokens = (s : Statement) → IsStatement tokens s → ⊥

-- a token of the class could stand behind these
abbrev pub CouldStand : List Token → Class → Type 0
CouldStand front c = (t : Token) × (token_class t ≡ c) × Begins (front ++ t ∷ [])

-- What the tokens give by their form alone.
abbrev pub Parses : Outcome → List Token → Type 0
Parses (outcome.Form s) tokens = Reads tokens s
Parses (outcome.Syntax n) tokens = Run tokens n × NoStatement tokens

-- The token with this number is outside the profile, with the item.
abbrev pub OutsideAt : Mode → List Token → ℕ → ℕ → Type 0
OutsideAt mode tokens i item = (t : Token) × (slice_get tokens i ≡ Some t) × Outside mode (take i tokens) (CouldStand (take i tokens)) t (drop (i + 1) tokens) item

abbrev pub InsideAt : Mode → List Token → ℕ → Type 0
InsideAt mode tokens i = (item : ℕ) → OutsideAt mode tokens i item → ⊥

-- None of the first n tokens is outside the profile.
abbrev pub Inside : Mode → List Token → ℕ → Type 0
Inside mode tokens n = (i : ℕ) → i < n → InsideAt mode tokens i

-- The tokens are a statement of this sort.
abbrev pub HasSort : List Token → Sort → Type 0
HasSort tokens k = (s : Statement) × IsStatement tokens s × (sort_of s ≡ k)

-- How far the tokens are a statement, which has this outline, of the profile. At one token the profile comes first.
abbrev pub Extends : Extent → Mode → List Token → Outline → Type 0
Extends extent.Whole mode tokens o = ((s : Statement) × IsStatement tokens s × (outline_of s ≡ o)) × Inside mode tokens (length tokens)
Extends (extent.Syntax n) mode tokens o = Run tokens n × NoStatement tokens × Inside mode tokens (n + 1)
Extends (extent.Outside n item) mode tokens o =
    Begins (take n tokens) × Inside mode tokens n × OutsideAt mode tokens n item × ((other : ℕ) → OutsideAt mode tokens n other → item ≤ other)

-- What the tokens are by their form and the profile.
abbrev pub Judges : Judgement → Mode → List Token → Type 0
Judges (judgement.Form k) mode tokens = HasSort tokens k × Inside mode tokens (length tokens)
Judges (judgement.Syntax n) mode tokens = Run tokens n × NoStatement tokens × Inside mode tokens (n + 1)
Judges (judgement.Outside n item) mode tokens =
    Begins (take n tokens) × Inside mode tokens n × OutsideAt mode tokens n item × ((other : ℕ) → OutsideAt mode tokens n other → item ≤ other)
