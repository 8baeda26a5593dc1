-- What the reader of statements answers for a line.
use Rattle.std.specs.Prelude.{◌≡◌, ◌⊎◌, ℕ, ◌+◌, ◌-◌, ◌<◌, ◌≤◌, min, cond, nat_lt, length, take, List, Option, None, Some, Result, Ok, Err}
use Rattle.fort_tree.specs.declared.choice.Mode.{Mode}
use Rattle.fort_tree.specs.declared.fault.Code.{Code}
use Rattle.fort_tree.specs.declared.fault.Code.TheVariants as code
use Rattle.fort_tree.specs.declared.fault.Fault.{Fault}
use Rattle.fort_tree.specs.declared.fault.Stop.{Stop}
use Rattle.fort_tree.specs.declared.fault.Stop.TheVariants as stop
use Rattle.fort_tree.specs.declared.statement.Line.{Line}
use Rattle.fort_tree.specs.declared.statement.Statement.{Statement}
use Rattle.fort_tree.specs.declared.statement.Token.{Token}
use Rattle.fort_expr.specs.Faults.{FaultAt}
use Rattle.fort_stmt.specs.declared.judging.Extent.{Extent}
use Rattle.fort_stmt.specs.declared.judging.Extent.TheVariants as extent
use Rattle.fort_stmt.specs.declared.reading.Wrong.{Wrong}
use Rattle.fort_stmt.specs.declared.sort.Sort.{Sort}
use Rattle.fort_stmt.specs.Faults.{Begins, Run, Reads, NoStatement, OutsideAt, Inside, HasSort}
use Rattle.fort_stmt.specs.Form.{IsStatement}
use Rattle.fort_stmt.specs.Limits.{PastLimit}

-- The tokens of a statement have this fault, of this item, at the token with this number.
pub data HasFault (mode : Mode) (tokens : List Token) : ℕ → Code → ℕ → Type 0 where
  -- a token outside the profile, behind tokens with which a statement can begin
  outside : {i item : ℕ} → Begins (take i tokens) → OutsideAt mode tokens i item → HasFault mode tokens i code.E20 item
  -- no statement: at the first token with which none can begin, or at the last where all of them begin one
  syntax : {n : ℕ} → Run tokens n → NoStatement tokens → HasFault mode tokens (min n (length tokens - 1)) code.E10 0
  -- a token past a limit, up to which a statement can begin
  limit : {i : ℕ} → i < length tokens → Begins (take (i + 1) tokens) → PastLimit mode tokens i → HasFault mode tokens i code.E70 0

-- At one token E20 comes before E10, and that before E70.
abbrev pub rank : Code → ℕ
rank code.E20 = 0
rank code.E10 = 1
rank _ = 2

-- the first fault is not behind the second: by token, then by code, then by item
abbrev pub NotBehind : ℕ → Code → ℕ → ℕ → Code → ℕ → Type 0
NotBehind i c k j d m = (i < j) ⊎ ((i ≡ j) × ((rank c < rank d) ⊎ ((c ≡ d) × (k ≤ m))))

-- the first fault of the tokens
pub record FirstFault (mode : Mode) (tokens : List Token) (i : ℕ) (c : Code) (k : ℕ) : Type 0 where
  pub has : HasFault mode tokens i c k
  pub first : (j : ℕ) (d : Code) (m : ℕ) → HasFault mode tokens j d m → NotBehind i c k j d m

abbrev pub NoFault : Mode → List Token → Type 0
NoFault mode tokens = (j : ℕ) (d : Code) (m : ℕ) → HasFault mode tokens j d m → ⊥

-- the first fault of the tokens, if they have one; else they are a statement
abbrev pub IsFirst : Option Wrong → Mode → List Token → Type 0
IsFirst None mode tokens = NoFault mode tokens × (s : Statement) × IsStatement tokens s
IsFirst (Some w) mode tokens = (w.at < length tokens) × FirstFault mode tokens w.at w.code w.item

-- E10 at the `&` whose next line is missing
pub record Unfinished (line : Line) (fault : Fault) : Type 0 where
  pub sound : NoFault line.mode line.tokens
  pub at : line.unfinished ≡ Some fault.place
  pub code : fault.code ≡ code.E10
  pub item : fault.item ≡ 0
  pub first : fault.first ≡ None
  pub second : fault.second ≡ None

-- the first fault of the line's tokens
pub record Faulty (line : Line) (fault : Fault) : Type 0 where
  pub number : ℕ
  pub first_fault : FirstFault line.mode line.tokens number fault.code fault.item
  pub stands : FaultAt line.tokens number fault.code fault.item fault

-- The answer for a line: its one statement, or its first fault. An `&` without a next line stands behind all tokens.
abbrev pub Answers : Result Statement Stop → Line → Type 0
Answers (Ok s) line = Reads line.tokens s × NoFault line.mode line.tokens × (line.unfinished ≡ None)
Answers (Err (stop.Fault fault)) line = Faulty line fault ⊎ Unfinished line fault
Answers (Err stop.NoMemory) line = Unit {0}

-- The line is a whole statement of this sort and of the profile. Its limits are set aside.
pub record IsSketch (line : Line) (k : Sort) : Type 0 where
  pub sort : HasSort line.tokens k
  pub inside : Inside line.mode line.tokens (length line.tokens)
  pub finished : line.unfinished ≡ None

abbrev pub Sketches : Option Sort → Line → Type 0
Sketches (Some k) line = IsSketch line k
Sketches None line = (k : Sort) → IsSketch line k → ⊥

-- What the code chooses, where a statement's last token has this number.

abbrev pub of_form : Extent → ℕ → Option Wrong
of_form extent.Whole last = None
of_form (extent.Syntax n) last = Some (record { at = min n last; code = code.E10; item = 0 })
of_form (extent.Outside n item) last = Some (record { at = n; code = code.E20; item = item })

abbrev pub of_limit : ℕ → Wrong
of_limit i = record { at = i; code = code.E70; item = 0 }

abbrev pub earlier : Option Wrong → Option ℕ → Option Wrong
earlier w None = w
earlier None (Some i) = Some (of_limit i)
earlier (Some w) (Some i) = cond (nat_lt i w.at) (Some (of_limit i)) (Some w)
