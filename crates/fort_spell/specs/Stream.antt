-- What a printer puts. Between two calls it has come to a state, or the sink has failed; then nothing more is put.
use Rattle.std.specs.Prelude.{◌≡◌, ℕ, ◌<◌, ◌≤◌, List, ◌++◌, length, Result, Ok, Err, codes}
use Rattle.std.specs.declared.option.Option.{Option}
use Rattle.fort_spell.specs.declared.line.Margin.{Margin}
use Rattle.fort_spell.specs.Rows.{Row, laid, line, text}
use Rattle.outside.specs.Counts.{Rose}
use Rattle.outside.specs.Taken.{Took}

-- The sink took exactly the bytes that lie between the text of the part before and that of what is left of it,
-- whatever stands behind.
pub record Went {K : Type 0} (before now : Option (List ℕ)) (faults risen : ℕ) (part rest : K → List ℕ) : Type 0 where
  pub bytes : List ℕ
  pub taken : Took before now bytes
  pub whole : (k : K) → bytes ++ rest k ≡ part k
  pub later : faults ≤ risen

-- The sink took a first part that is shorter than the text of the part, whatever stands behind, and failed.
pub record Broke {K : Type 0} (before now : Option (List ℕ)) (faults risen : ℕ) (part : K → List ℕ) : Type 0 where
  pub bytes : List ℕ
  pub taken : Took before now bytes
  pub prefix : (k : K) → (rest : List ℕ) × ((0 < length rest) × (bytes ++ rest ≡ part k))
  pub rose : Rose faults risen
  pub later : faults ≤ risen

-- The sink had failed already, and took nothing.
pub record Rested (before now : Option (List ℕ)) (faults risen : ℕ) : Type 0 where
  pub same : now ≡ before
  pub later : faults ≤ risen

-- From a state to a state: `part` is the text that stood before the call, `rest` the text that is left.
abbrev pub ways : {K Q R E : Type 0} → (from : Result Q E) → (to : Result R E) → (before now : Option (List ℕ)) → (faults risen : ℕ) → (part : Q → K → List ℕ) → (rest : R → K → List ℕ) → Type 0
ways (Ok a) (Ok b) before now faults risen part rest = Went before now faults risen (part a) (rest b)
ways (Ok a) (Err e) before now faults risen part rest = Broke before now faults risen (part a)
ways (Err d) (Ok b) before now faults risen part rest = ⊥
ways (Err d) (Err e) before now faults risen part rest = Rested before now faults risen

-- The text that is shown of bytes: themselves.
abbrev pub bytes_alone : {Q : Type 0} → Q → List ℕ → List ℕ
bytes_alone state k = k

-- The text that is shown of rows.
abbrev pub rows_shown : {Q : Type 0} → Q → List Row → List ℕ
rows_shown state rows = text rows

-- A part is put. `shown` is the text of pieces, or of rows, from a state on.
pub record Put {K Q E : Type 0} (shown : Q → K → List ℕ) (from to : Result Q E) (before now : Option (List ℕ)) (faults risen : ℕ) (part : K → K) : Type 0 where
  pub way : ways from to before now faults risen (λ a k. shown a (part k)) shown

-- Some of a part is put, and the rest is left.
pub record Left {K Q E : Type 0} (shown : Q → K → List ℕ) (from to : Result Q E) (before now : Option (List ℕ)) (faults risen : ℕ) (part rest : K → K) : Type 0 where
  pub way : ways from to before now faults risen (λ a k. shown a (part k)) (λ b k. shown b (rest k))

-- A row is opened: what its first line begins with is put, and its pieces are left.
pub record Opened {E : Type 0} (margin : Margin) (from : Result (Unit {0}) E) (to : Result ℕ E) (before now : Option (List ℕ)) (faults risen : ℕ) : Type 0 where
  pub way : ways from to before now faults risen (λ a k. line (record { margin = margin; pieces = k })) (laid margin)

-- A row is closed: the end of its last line is put.
pub record Closed {E : Type 0} (from : Result ℕ E) (to : Result (Unit {0}) E) (before now : Option (List ℕ)) (faults risen : ℕ) : Type 0 where
  pub way : ways from to before now faults risen (λ a k. codes "\n" ++ k) bytes_alone

-- Nothing has failed yet.
abbrev pub starting : {E : Type 0} → Result (Unit {0}) E
starting = Ok tt
