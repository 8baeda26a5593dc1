-- The forms behind those that nest, and that the forms of a unit stand in one file.
use Rattle.std.proofs.Common.{◌≡◌, ℕ, ◌≤◌, ◌⊎◌, inl, inr, List, ◌∷◌, length, refl, ◌∙◌, arith}
use Rattle.fort_tree.specs.declared.choice.Mode.{Mode}
use Rattle.fort_tree.specs.declared.stmt.Arm.{Arm}
use Rattle.fort_tree.specs.declared.stmt.Case as tree_case
use Rattle.fort_tree.specs.declared.stmt.Directive.{Directive}
use Rattle.fort_tree.specs.declared.stmt.Stmt.{Stmt}
use Rattle.fort_tree.specs.declared.unit.Decl.{Decl}
use Rattle.fort_tree.specs.declared.unit.Unit as unit
use Rattle.fort_tree.specs.declared.unit.Use.{Use}
use Rattle.sound_programs.specs.Forms.{Form}
use Rattle.sound_programs.specs.Nesting.{Inside, Body, done, more, One, simple, forwarded, if_action, if_then, selects, loops, directed, block, Arms, end_if, else_last, else_if, Cases, end_select, case_of, default, Uses, no_more_uses, uses, directs_use, Implicit, unsaid, said, Declares, no_more_decls, declares, directs_decl, Marked, unmarked, marked, Head-part, IsUnit, subroutine, function, AreUnits, no_more_units, a_unit, Contained, contains_none, contains}
use Rattle.fort_units.specs.Passing.{file_of}
use Rattle.fort_units.specs.Shown.{item_of, FilesFrom}

-- the second list is the first one's end
pub data Tail : List Form → List Form → Type 0 where
  same : {rest : List Form} → Tail rest rest
  behind : {f : Form} {forms rest : List Form} → Tail forms rest → Tail (f ∷ forms) rest

pub joined : {forms next rest : List Form} → Tail forms next → Tail next rest → Tail forms rest
joined same k = k
joined (behind h) k = behind (joined h k)

-- without the form that it begins with
pub past : {f : Form} {forms rest : List Form} → Tail forms (f ∷ rest) → Tail forms rest
past h = joined h (behind same)

module _ (mode : Mode) where
  mutual
    pub body_tail : {around : Inside} {forms rest : List Form} {ss : List Stmt} → Body mode around forms ss rest → Tail forms rest
    body_tail done = same
    body_tail (more one others) = joined (one_tail one) (body_tail others)

    pub one_tail : {around : Inside} {forms rest : List Form} {s : Stmt} → One mode around forms s rest → Tail forms rest
    one_tail (simple a) = behind same
    one_tail (forwarded a) = behind (behind same)
    one_tail (if_action a) = behind same
    one_tail (if_then b a) = behind (joined (body_tail b) (arms_tail a))
    one_tail (selects c) = behind (cases_tail c)
    one_tail (loops b) = behind (past (body_tail b))
    one_tail (directed w b) = behind (behind (past (body_tail b)))
    one_tail (block w e b) = behind (past (body_tail b))

    pub arms_tail : {around : Inside} {forms rest : List Form} {arms : List Arm} {other : _} → Arms mode around forms arms other rest → Tail forms rest
    arms_tail end_if = behind same
    arms_tail (else_last b) = behind (past (body_tail b))
    arms_tail (else_if b a) = behind (joined (body_tail b) (arms_tail a))

    pub cases_tail : {around : Inside} {forms rest : List Form} {cases : List tree_case.Case} {other : _} → Cases mode around forms cases other rest → Tail forms rest
    cases_tail end_select = behind same
    cases_tail (case_of r b c) = behind (joined (body_tail b) (cases_tail c))
    cases_tail (default b c) = behind (joined (body_tail b) (cases_tail c))

  pub uses_tail : {forms rest : List Form} {lines : List Use} {marks : List Directive} → Uses mode forms lines marks rest → Tail forms rest
  uses_tail no_more_uses = same
  uses_tail (uses h) = behind (uses_tail h)
  uses_tail (directs_use d h) = behind (uses_tail h)

  pub implicit_tail : {forms rest : List Form} → Implicit mode forms rest → Tail forms rest
  implicit_tail unsaid = same
  implicit_tail said = behind same

  pub declares_tail : {forms rest : List Form} {decls : List Decl} {marks : List Directive} → Declares mode forms decls marks rest → Tail forms rest
  declares_tail no_more_decls = same
  declares_tail (declares e h) = behind (declares_tail h)
  declares_tail (directs_decl d h) = behind (declares_tail h)

  pub marked_tail : {forms rest : List Form} {marks : List Directive} → Marked mode forms marks rest → Tail forms rest
  marked_tail unmarked = same
  marked_tail (marked m w) = behind same

  pub head_tail : {forms rest : List Form} {lines : List Use} {decls : List Decl} {pair mark : List Directive} → Head-part mode forms lines decls pair mark rest → Tail forms rest
  head_tail h = joined (uses_tail h.used) (joined (implicit_tail h.implicit) (joined (declares_tail h.declared) (marked_tail h.marked)))

  pub unit_tail : {host : _} {forms rest : List Form} {u : unit.Unit} → IsUnit mode host forms u rest → Tail forms rest
  unit_tail (subroutine h p b e) = behind (joined (head_tail h) (past (body_tail b)))
  unit_tail (function h b e) = behind (joined (head_tail h) (past (body_tail b)))

  pub units_tail : {host : _} {forms rest : List Form} {us : List unit.Unit} → AreUnits mode host forms us rest → Tail forms rest
  units_tail no_more_units = same
  units_tail (a_unit u us) = joined (unit_tail u) (units_tail us)

  pub contained_tail : {number : ℕ} {forms rest : List Form} {us : List unit.Unit} → Contained mode number forms us rest → Tail forms rest
  contained_tail contains_none = same
  contained_tail (contains us) = behind (units_tail us)

-- ---- Files

abbrev pub form_file : Form → ℕ
form_file f = file_of (item_of f)

-- the forms up to the second list stand in the file
abbrev pub InFile : ℕ → List Form → List Form → Type 0
InFile file forms rest = (x : Form) (xs : List Form) → Tail forms (x ∷ xs) → Tail xs rest → form_file x ≡ file

pub first_in : {file : ℕ} {f : Form} {forms rest : List Form} → InFile file (f ∷ forms) rest → Tail forms rest → form_file f ≡ file
first_in h t = h _ _ same t

pub rest_in : {file : ℕ} {f : Form} {forms rest : List Form} → InFile file (f ∷ forms) rest → InFile file forms rest
rest_in h x xs a b = h x xs (behind a) b

pub front_in : {file : ℕ} {forms next rest : List Form} → InFile file forms rest → Tail next rest → InFile file forms next
front_in h t x xs a b = h x xs a (joined b t)

pub back_in : {file : ℕ} {forms next rest : List Form} → InFile file forms rest → Tail forms next → InFile file next rest
back_in h t x xs a b = h x xs (joined t a) b

record After (n : ℕ) (x : Form) (xs : List Form) : Type 0 where
  no_earlier : n ≤ form_file x
  from : FilesFrom (form_file x) xs

after : (n : ℕ) {forms : List Form} {x : Form} {xs : List Form} → Tail forms (x ∷ xs) → FilesFrom n forms → After n x xs
after n same h = record { no_earlier = h.0; from = h.1 }
after n (behind {f = f} t) h =
    let a = after (form_file f) t h.1 in
    let first = h.0 in
    let next = a.no_earlier in record { no_earlier = omega arith; from = a.from }

-- Two ends of one list, and one is the end of the other.
either_first : {forms these those : List Form} → Tail forms these → Tail forms those → Tail these those ⊎ Tail those these
either_first same k = inl k
either_first h same = inr h
either_first (behind h) (behind k) = either_first h k

no_longer : {forms rest : List Form} → Tail forms rest → length rest ≤ length forms
no_longer same = omega arith
no_longer (behind t) = let less = no_longer t in omega arith

none_later : {x end : Form} {xs rest : List Form} → Tail (x ∷ xs) (end ∷ rest) → FilesFrom (form_file x) xs → form_file x ≤ form_file end
none_later same h = omega arith
none_later (behind t) h = (after _ t h).no_earlier

none_behind : {x end : Form} {xs rest : List Form} → Tail (end ∷ rest) (x ∷ xs) → Tail xs rest → form_file x ≡ form_file end
none_behind same k = refl
none_behind (behind t) k =
    let short = no_longer t in
    let long = no_longer k in
    absurd (omega arith)

-- what a header and an END of one file have between them stands in that file
pub between : (n : ℕ) {file : ℕ} {header end : Form} {forms rest : List Form} → FilesFrom n (header ∷ forms) → Tail forms (end ∷ rest) → form_file header ≡ file → form_file end ≡ file →
    InFile file (header ∷ forms) rest
between n {header = header} h t e f x xs a b =
    let here = after (form_file header) a (start, h.1) in
    let first = here.no_earlier in
    elim (either_first a (behind t)) [ inl k ↦ (let last = none_later k here.from in omega arith) | inr k ↦ none_behind k b ∙ f ]
  where
    start : form_file header ≤ form_file header
    start = omega arith

-- so do the forms behind
pub files_behind : (n : ℕ) {forms rest : List Form} → Tail forms rest → FilesFrom n forms → (m : ℕ) × FilesFrom m rest
files_behind n same h = (n, h)
files_behind n (behind {f = f} t) h = files_behind (form_file f) t h.1
