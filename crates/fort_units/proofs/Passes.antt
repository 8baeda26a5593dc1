-- Forms that bring no fault but that a construct or a block is too deep: single lines, and one behind the other.
use Rattle.std.proofs.Common.{◌≡◌, ℕ, ◌+◌, ◌≤◌, ◌==◌, List, [], ◌∷◌, ◌++◌, Bool, true, false, cond, max, None, refl, sym, ap, subst, ◌∙◌, append_assoc, arith}
use Rattle.std.specs.Prelude.{nat_lt}
use Rattle.std.proofs.lemmas.Bool.{eq-eqb}
use Rattle.std.proofs.lemmas.Bool.Decides.{nat_tests}
use Rattle.fort_tree.specs.declared.choice.Mode.{Mode}
use Rattle.fort_tree.specs.declared.choice.Mode.TheVariants.{Source, Target}
use Rattle.fort_tree.specs.declared.fault.Code.TheVariants.{E70}
use Rattle.fort_tree.specs.declared.fault.Fault.{Fault}
use Rattle.fort_tree.specs.declared.place.Place.{Place}
use Rattle.fort_tree.specs.declared.statement.Statement.{Statement}
use Rattle.fort_tree.specs.declared.statement.Statement.TheOpen.{Statement-F}
use Rattle.fort_tree.specs.declared.stmt.Directive.{Directive}
use Rattle.sound_programs.specs.Forms.{Form, Says, Directs}
use Rattle.fort_units.specs.declared.around.Around.{Around}
use Rattle.fort_stmt.specs.declared.sort.Sort.{Sort}
use Rattle.fort_stmt.specs.Sort.{sort_of_level}
use Rattle.fort_units.specs.Opens.{may_stand, deeper}
use Rattle.fort_units.specs.Faults.{unmet, statement_faults, unnested, at_statement, at_directive, limit, deep_from, too_deep, at_file_end, at_item}
use Rattle.fort_units.specs.Passing.{behind_sort, behind_statement, behind, file_of, top, faults_from}
use Rattle.fort_units.specs.Shown.{item_of, items_of}
use Rattle.fort_units.proofs.Shapes.{nonempty}
use Rattle.fort_units.proofs.Statements.{both_empty}
use Rattle.fort_units.proofs.Tails.{form_file}

-- ---- Lists of faults

pub none_of_both : {A : Type 0} {xs ys : List A} → xs ≡ [] → ys ≡ [] → xs ++ ys ≡ []
none_of_both {ys = ys} e f = ap (λ x. x ++ ys) e ∙ f

-- each fault is that of a limit
abbrev pub AreLimits : List Fault → Type 0
AreLimits [] = Unit {0}
AreLimits (f ∷ fs) = (f.code ≡ E70) × AreLimits fs

pub limits_join : (xs ys : List Fault) → AreLimits xs → AreLimits ys → AreLimits (xs ++ ys)
limits_join [] ys h k = k
limits_join (x ∷ xs) ys h k = (h.0, limits_join xs ys h.1 k)

-- These faults are of limits alone, and there is none exactly where so much depth is left.
pub record OnlyDeep (mode : Mode) (d n : ℕ) (found : List Fault) : Type 0 where
  pub limits : AreLimits found
  pub none : d + n ≤ limit mode → found ≡ []
  pub fits : d ≤ limit mode → found ≡ [] → d + n ≤ limit mode

pub nothing_deep : {mode : Mode} {d : ℕ} → OnlyDeep mode d 0 []
nothing_deep = record { limits = tt; none = λ h. refl; fits = λ h e. (omega arith) }

small_limit : (mode : Mode) → limit mode ≤ 64
small_limit Source = omega arith
small_limit Target = omega arith

-- the count goes on where there is room
one_more : (mode : Mode) (d : ℕ) → d + 1 ≤ limit mode → deeper d ≡ d + 1
one_more mode d h =
    let small = small_limit mode in
    let less : nat_lt d 64 ≡ true = grind (arith, nat_tests) in ap (λ b. cond b (d + 1) 64) less

pub one_deep : (mode : Mode) (at : Place) (d : ℕ) → OnlyDeep mode d 1 (deep_from mode at d)
one_deep mode at d = by_room (nat_lt d (limit mode)) refl
  where
    by_room : (b : Bool) → nat_lt d (limit mode) ≡ b → OnlyDeep mode d 1 (cond b [] (too_deep at ∷ []))
    by_room true e = record { limits = tt; none = λ h. refl; fits = λ h k. (grind (arith, nat_tests)) }
    by_room false e = record { limits = (refl, tt); none = λ h. absurd (grind (arith, nat_tests)); fits = λ h k. absurd (nonempty k) }

pub both_deep : {mode : Mode} {d n m : ℕ} {xs ys : List Fault} → OnlyDeep mode d n xs → OnlyDeep mode d m ys → OnlyDeep mode d (max n m) (xs ++ ys)
both_deep {d = d} {n = n} {m = m} {xs = xs} {ys = ys} a b = record {
  limits = limits_join xs ys a.limits b.limits;
  none = λ h. none_of_both (a.none (omega arith)) (b.none (omega arith));
  fits = λ h e.
      let parts = both_empty xs ys e in
      let first = a.fits h parts.0 in
      let second = b.fits h parts.1 in omega arith;
}

pub inner_deep : {mode : Mode} {d n : ℕ} {xs ys : List Fault} → OnlyDeep mode d 1 xs → OnlyDeep mode (deeper d) n ys → OnlyDeep mode d (n + 1) (xs ++ ys)
inner_deep {mode = mode} {d = d} {n = n} {xs = xs} {ys = ys} a b = record {
  limits = limits_join xs ys a.limits b.limits;
  none = λ h.
      let room : d + 1 ≤ limit mode = omega arith in
      let more = one_more mode d room in none_of_both (a.none room) (b.none (omega arith));
  fits = λ h e.
      let parts = both_empty xs ys e in
      let room = a.fits h parts.0 in
      let more = one_more mode d room in
      let inner = b.fits (omega arith) parts.1 in omega arith;
}

-- ---- Forms

-- From what is open before these forms to what is open behind them, the faults found are of limits alone.
pub record Passes (mode : Mode) (d n : ℕ) (before : Around) (forms : List Form) (after : Around) (rest : List Form) : Type 0 where
  pub found : List Fault
  pub deep : OnlyDeep mode d n found
  pub runs : faults_from mode before (items_of forms) ≡ found ++ faults_from mode after (items_of rest)

pub stays : {mode : Mode} {d : ℕ} {o : Around} {forms : List Form} → Passes mode d 0 o forms o forms
stays = record { found = []; deep = nothing_deep; runs = refl }

regrouped : (xs ys zs : List Fault) {before next : List Fault} → before ≡ xs ++ next → next ≡ ys ++ zs → before ≡ (xs ++ ys) ++ zs
regrouped xs ys zs e f = e ∙ (ap (λ x. xs ++ x) f ∙ sym (append_assoc xs ys zs))

pub then : {mode : Mode} {d n m : ℕ} {o p q : Around} {forms next rest : List Form} → Passes mode d n o forms p next → Passes mode d m p next q rest → Passes mode d (max n m) o forms q rest
then a b = record { found = a.found ++ b.found; deep = both_deep a.deep b.deep; runs = regrouped a.found b.found _ a.runs b.runs }

-- inside a construct that begins here
pub inside : {mode : Mode} {d n : ℕ} {o p q : Around} {forms next rest : List Form} → Passes mode d 1 o forms p next → Passes mode (deeper d) n p next q rest → Passes mode d (n + 1) o forms q rest
inside a b = record { found = a.found ++ b.found; deep = inner_deep a.deep b.deep; runs = regrouped a.found b.found _ a.runs b.runs }

pub as_deep : {mode : Mode} {d n m : ℕ} {o p : Around} {forms rest : List Form} → Passes mode d n o forms p rest → n ≡ m → Passes mode d m o forms p rest
as_deep {mode = mode} {d = d} {o = o} {p = p} {forms = forms} {rest = rest} a e = subst (λ k. Passes mode d k o forms p rest) e a

-- behind a step that brings nothing
pub quietly : {mode : Mode} {d n : ℕ} {o p q : Around} {forms next rest : List Form} → Passes mode d 0 o forms p next → Passes mode d n p next q rest → Passes mode d n o forms q rest
quietly {n = n} a b = let e : max 0 n ≡ n = omega arith in as_deep (then a b) e

-- and before one
pub and_quietly : {mode : Mode} {d n : ℕ} {o p q : Around} {forms next rest : List Form} → Passes mode d n o forms p next → Passes mode d 0 p next q rest → Passes mode d n o forms q rest
and_quietly {n = n} a b = let e : max n 0 ≡ n = omega arith in as_deep (then a b) e

-- ---- Lines

module _ (mode : Mode) where
  -- a line of the file that is open
  line_runs : (o p : Around) (f : Form) (rest : List Form) (found : List Fault) → form_file f ≡ o.file → at_item mode o (item_of f) ≡ found → behind mode o (item_of f) ≡ p →
      faults_from mode o (items_of (f ∷ rest)) ≡ found ++ faults_from mode p (items_of rest)
  line_runs o p f rest found e a b =
      let i = item_of f in
      let t : (file_of i == o.file) ≡ true = eq-eqb (file_of i) o.file e in
      ap (λ x. (cond x [] (at_file_end o) ++ at_item mode (cond x o (top (file_of i))) i) ++ faults_from mode (behind mode (cond x o (top (file_of i))) i) (items_of rest)) t
      ∙ (ap (λ x. x ++ faults_from mode (behind mode o i) (items_of rest)) a ∙ ap (λ x. found ++ faults_from mode x (items_of rest)) b)

  stands_clean : (o : Around) (at : Place) (s : Sort) (found : List Fault) → may_stand o s ≡ true → unmet o.waiting s ≡ [] → statement_faults mode o at s ≡ found → at_statement mode o at s ≡ found
  stands_clean o at s found m u f = ap (λ x. cond x (unmet o.waiting s ++ statement_faults mode o at s) (unnested at ∷ [])) m ∙ (ap (λ x. x ++ statement_faults mode o at s) u ∙ f)

  abbrev pub behind_it : Around → Place → Sort → Around
  behind_it o at s = record (behind_sort o s) { waiting = None; line = at.line }

  statement_runs : (o : Around) (at : Place) (level : Statement-F Statement) (s : Sort) (rest : List Form) (found : List Fault) → at.file ≡ o.file → sort_of_level level ≡ s → may_stand o s ≡ true →
      unmet o.waiting s ≡ [] → statement_faults mode o at s ≡ found → faults_from mode o (items_of (Says at level ∷ rest)) ≡ found ++ faults_from mode (behind_it o at s) (items_of rest)
  statement_runs o at level s rest found e is m u f =
      line_runs o (behind_it o at s) (Says at level) rest found e (ap (at_statement mode o at) is ∙ stands_clean o at s found m u f)
      (ap (behind_statement o at) is ∙ ap (λ x. cond x (behind_it o at s) (record o { line = at.line })) m)

  -- a statement that brings no fault
  pub says_quietly : {d : ℕ} (o : Around) (at : Place) (level : Statement-F Statement) (s : Sort) (rest : List Form) → at.file ≡ o.file → sort_of_level level ≡ s → may_stand o s ≡ true →
      unmet o.waiting s ≡ [] → statement_faults mode o at s ≡ [] → Passes mode d 0 o (Says at level ∷ rest) (behind_it o at s) rest
  says_quietly o at level s rest e is m u f = record { found = []; deep = nothing_deep; runs = statement_runs o at level s rest [] e is m u f }

  -- a statement with which a construct begins
  pub says_deep : (d : ℕ) (o : Around) (at : Place) (level : Statement-F Statement) (s : Sort) (rest : List Form) → at.file ≡ o.file → sort_of_level level ≡ s → may_stand o s ≡ true →
      unmet o.waiting s ≡ [] → statement_faults mode o at s ≡ deep_from mode at d → Passes mode d 1 o (Says at level ∷ rest) (behind_it o at s) rest
  says_deep d o at level s rest e is m u f = record { found = deep_from mode at d; deep = one_deep mode at d; runs = statement_runs o at level s rest (deep_from mode at d) e is m u f }

  -- a directive that brings no fault
  pub directs_quietly : {d : ℕ} (o p : Around) (x : Directive) (rest : List Form) → x.at.file ≡ o.file → at_directive mode o x.at x.word false ≡ [] → behind mode o (item_of (Directs x)) ≡ p →
      Passes mode d 0 o (Directs x ∷ rest) p rest
  directs_quietly o p x rest e a b = record { found = []; deep = nothing_deep; runs = line_runs o p (Directs x) rest [] e a b }

  -- a directive with which a block begins
  pub directs_deep : (d : ℕ) (o p : Around) (x : Directive) (rest : List Form) → x.at.file ≡ o.file → at_directive mode o x.at x.word false ≡ deep_from mode x.at d → behind mode o (item_of (Directs x)) ≡ p →
      Passes mode d 1 o (Directs x ∷ rest) p rest
  directs_deep d o p x rest e a b = record { found = deep_from mode x.at d; deep = one_deep mode x.at d; runs = line_runs o p (Directs x) rest (deep_from mode x.at d) e a b }
