-- The variables of modules behind a unit's own in a frame: no run of the unit touches them.
use Rattle.std.proofs.Common.{◌≡◌, ℤ, refl, ap, sym, ◌∙◌, List, [], ◌∷◌, ◌++◌, Contains, Some, None, Bool, true, false, ◌&&◌, ◌||◌, not, map, flat_map, cond, is_none}
use Rattle.std.specs.Prelude.{⊤, if◌then◌else◌}
use Rattle.std.specs.List.{filter}
use Rattle.std.proofs.lemmas.Bool.{false≢true}
use mathlib.Core.Path.{ap₂}
use Rattle.courses.specs.Element.{Value, Undefined, Element, Store, same_name}
use Rattle.courses.specs.Frames.{Entry, look, inside, filled, has_name, IsFrame}
use Rattle.courses.proofs.Framed.{filled_same, filled_look}
use Rattle.claw_meaning.specs.Syntax.{Text, Decl, Unit, Module, Program}
use Rattle.claw_meaning.specs.Frames.{Key, Held, Frame, home_of, entries, with_store, FitModules, module_variables}
use Rattle.std.specs.Str.{bytes_eq}
use Rattle.claw_meaning.specs.Columns.{column_place, place_of_key, column_of_held, is_added, joined_held}
use Rattle.column_scalars.specs.Scalars.{Distinct}
use Rattle.column_scalars.specs.Standing.{DeclareOnce}
use Rattle.column_scalars.proofs.MemberCases.{contains_first, contains_later, names_apart}

-- Variables that are declared once

abbrev pub has_variable : List (Text × Decl) → Text → Text → Bool
has_variable [] owner x = false
has_variable (v ∷ vs) owner x = (same_name v.0 owner && same_name v.1.name x) || has_variable vs owner x

abbrev pub AreOnce : List (Text × Decl) → Type 0
AreOnce [] = ⊤
AreOnce (v ∷ vs) = (has_variable vs v.0 v.1.name ≡ false) × AreOnce vs

-- what a module declares, PARAMETERs left out
abbrev row : Text → List Decl → List (Text × Decl)
row owner ds = map (λ d. (owner, d)) (filter (λ d. is_none d.value) ds)

abbrev rows : List Module → List (Text × Decl)
rows ms = flat_map (λ m. row m.name m.decls) ms

abbrev named : List Decl → List Text
named ds = map (λ d. d.name) ds

abbrev owners : List Module → List Text
owners ms = map (λ m. m.name) ms

both_false : (a b : Bool) → a ≡ false → b ≡ false → (a || b) ≡ false
both_false a b e f = rw (e, f) refl

and_false : (a b : Bool) → b ≡ false → (a && b) ≡ false
and_false true b e = e
and_false false b e = refl

-- another name than those, behind which nothing has it
not_in_row : (owner : Text) (ds : List Decl) (ys : List (Text × Decl)) (home x : Text) → (Contains (named ds) x → ⊥) → has_variable ys home x ≡ false → has_variable (row owner ds ++ ys) home x ≡ false
not_in_row owner [] ys home x n h = h
not_in_row owner (d ∷ ds) ys home x n h = go (is_none d.value) (not_in_row owner ds ys home x (λ t. n (contains_later d.name (named ds) x t)) h)
  where
    go : (b : Bool) → has_variable (row owner ds ++ ys) home x ≡ false → has_variable (map (λ e. (owner, e)) (cond b (d ∷ filter (λ e. is_none e.value) ds) (filter (λ e. is_none e.value) ds)) ++ ys) home x ≡ false
    go true ih = both_false (same_name owner home && same_name d.name x) (has_variable (row owner ds ++ ys) home x) (and_false (same_name owner home) (same_name d.name x) (names_apart d.name x (λ e. n (contains_first d.name x (named ds) e)))) ih
    go false ih = ih

-- another owner than theirs
not_owned : (owner : Text) (ds : List Decl) (ys : List (Text × Decl)) (home x : Text) → (owner ≡ home → ⊥) → has_variable ys home x ≡ false → has_variable (row owner ds ++ ys) home x ≡ false
not_owned owner [] ys home x n h = h
not_owned owner (d ∷ ds) ys home x n h = go (is_none d.value) (not_owned owner ds ys home x n h)
  where
    go : (b : Bool) → has_variable (row owner ds ++ ys) home x ≡ false → has_variable (map (λ e. (owner, e)) (cond b (d ∷ filter (λ e. is_none e.value) ds) (filter (λ e. is_none e.value) ds)) ++ ys) home x ≡ false
    go true ih = rw (names_apart owner home n) ih
    go false ih = ih

no_owner : (ms : List Module) (home x : Text) → (Contains (owners ms) home → ⊥) → has_variable (rows ms) home x ≡ false
no_owner [] home x n = refl
no_owner (m ∷ ms) home x n = not_owned m.name m.decls (rows ms) home x (λ e. n (contains_first m.name home (owners ms) e)) (no_owner ms home x (λ t. n (contains_later m.name (owners ms) home t)))

row_once : (owner : Text) (ds : List Decl) (ys : List (Text × Decl)) → Distinct (named ds) → ((x : Text) → has_variable ys owner x ≡ false) → AreOnce ys → AreOnce (row owner ds ++ ys)
row_once owner [] ys d n h = h
row_once owner (e ∷ ds) ys d n h = go (is_none e.value) (row_once owner ds ys d.1 n h)
  where
    go : (b : Bool) → AreOnce (row owner ds ++ ys) → AreOnce (map (λ f. (owner, f)) (cond b (e ∷ filter (λ f. is_none f.value) ds) (filter (λ f. is_none f.value) ds)) ++ ys)
    go true ih = (not_in_row owner ds ys owner e.name d.0 (n e.name), ih)
    go false ih = ih

rows_once : (ms : List Module) → Distinct (owners ms) → DeclareOnce ms → AreOnce (rows ms)
rows_once [] d h = tt
rows_once (m ∷ ms) d h = row_once m.name m.decls (rows ms) h.0 (λ x. no_owner ms m.name x d.0) (rows_once ms d.1 h.1)

pub variables_once : (p : Program) → Distinct (owners p.modules) → DeclareOnce p.modules → AreOnce (module_variables p)
variables_once p d h = rows_once p.modules d h

-- no variable's owner has this name
abbrev pub NoOwner : Text → List (Text × Decl) → Type 0
NoOwner home [] = ⊤
NoOwner home (v ∷ vs) = (v.0 ≡ home → ⊥) × NoOwner home vs

row_others : (home owner : Text) (ds : List Decl) (ys : List (Text × Decl)) → (owner ≡ home → ⊥) → NoOwner home ys → NoOwner home (row owner ds ++ ys)
row_others home owner [] ys n h = h
row_others home owner (d ∷ ds) ys n h = go (is_none d.value) (row_others home owner ds ys n h)
  where
    go : (b : Bool) → NoOwner home (row owner ds ++ ys) → NoOwner home (map (λ f. (owner, f)) (cond b (d ∷ filter (λ f. is_none f.value) ds) (filter (λ f. is_none f.value) ds)) ++ ys)
    go true ih = (n, ih)
    go false ih = ih

rows_others : (home : Text) (ms : List Module) → (Contains (owners ms) home → ⊥) → NoOwner home (rows ms)
rows_others home [] n = tt
rows_others home (m ∷ ms) n = row_others home m.name m.decls (rows ms) (λ e. n (contains_first m.name home (owners ms) e)) (rows_others home ms (λ t. n (contains_later m.name (owners ms) home t)))

pub variables_elsewhere : (home : Text) (p : Program) → (Contains (owners p.modules) home → ⊥) → NoOwner home (module_variables p)
variables_elsewhere home p n = rows_others home p.modules n

-- Their entries

-- each is a module's, and no module has this name
abbrev pub OfModules : Text → Frame → Type 0
OfModules home [] = ⊤
OfModules home (h ∷ hs) = ((owner : Text) × (h.key.of_module ≡ Some owner) × (owner ≡ home → ⊥)) × OfModules home hs

pub of_modules : (p : Program) (home : Text) (vs : List (Text × Decl)) (hs : Frame) → NoOwner home vs → FitModules p vs hs → OfModules home hs
of_modules p home [] [] n f = tt
of_modules p home [] (h ∷ hs) n f = absurd f
of_modules p home (v ∷ vs) [] n f = absurd f
of_modules p home (v ∷ vs) (h ∷ hs) n f = ((v.0, ap (λ k. k.of_module) f.0.0, n.0), of_modules p home vs hs n.1 f.1)

same_variables : (p : Program) (home : Text) (vs : List (Text × Decl)) (hs : Frame) → FitModules p vs hs → (owner x : Text) → has_name (entries home hs) owner x ≡ has_variable vs owner x
same_variables p home [] [] f owner x = refl
same_variables p home [] (h ∷ hs) f owner x = absurd f
same_variables p home (v ∷ vs) [] f owner x = absurd f
same_variables p home (v ∷ vs) (h ∷ hs) f owner x =
    ap₂ (λ (k : Key) (b : Bool). (same_name (home_of home k.of_module) owner && same_name k.name x) || b) f.0.0 (same_variables p home vs hs f.1 owner x)

pub are_frame : (p : Program) (home : Text) (vs : List (Text × Decl)) (hs : Frame) → AreOnce vs → FitModules p vs hs → IsFrame (entries home hs)
are_frame p home [] [] o f = tt
are_frame p home [] (h ∷ hs) o f = absurd f
are_frame p home (v ∷ vs) [] o f = absurd f
are_frame p home (v ∷ vs) (h ∷ hs) o f = (
  ap (λ (k : Key). has_name (entries home hs) (home_of home k.of_module) k.name) f.0.0 ∙ same_variables p home vs hs f.1 v.0 v.1.name ∙ o.0,
  f.0.1.whole,
  are_frame p home vs hs o.1 f.1,
)

-- the home of an element that isn't theirs
pub look_past : (home : Text) (hs : Frame) → OfModules home hs → (x : Text) (is : List ℤ) → look (entries home hs) (record { home = home; name = x; index = is }) ≡ Undefined
look_past home [] m x is = refl
look_past home (h ∷ hs) m x is = rw (m.0.1, names_apart m.0.0 home m.0.2) (look_past home hs m.1 x is)

pub elsewhere : (home : Text) (hs : Frame) → OfModules home hs → (e : Element) → inside (entries home hs) e ≡ true → e.home ≡ home → ⊥
elsewhere home [] m e i h = false≢true i
elsewhere home (g ∷ hs) m e i h = elsewhere home hs m.1 e (sym passed ∙ i) h
  where
    passed : inside (entries home (g ∷ hs)) e ≡ inside (entries home hs) e
    passed = rw (m.0.1, names_apart m.0.0 e.home (λ k. m.0.2 (k ∙ h))) refl

-- What is done with them

filled_entries : (home : Text) (hs : Frame) (t : Store) → filled (entries home hs) t ≡ entries home hs → with_store home hs t ≡ hs
filled_entries home [] t e = refl
filled_entries home (h ∷ hs) t e =
    ap₂ (λ a l. a ∷ l) (ap (λ vs. record { key = h.key; cells = record { kind = h.cells.kind; bounds = h.cells.bounds; values = vs } }) (ap first_items e)) (filled_entries home hs t (ap others e))
  where
    first_items : List Entry → List Value
    first_items [] = []
    first_items (f ∷ fs) = f.items

    others : List Entry → List Entry
    others [] = []
    others (f ∷ fs) = fs

-- a store that shows them as they were gives them back
pub given_back : (home : Text) (hs : Frame) (t : Store) → IsFrame (entries home hs) → ((e : Element) → inside (entries home hs) e ≡ true → t e ≡ look (entries home hs) e) → with_store home hs t ≡ hs
given_back home hs t f h = filled_entries home hs t (filled_same (entries home hs) t (look (entries home hs)) f h ∙ filled_look (entries home hs) f)

-- they have no place for the columns
no_column_place : (v : Unit) (h : Held) (owner : Text) → h.key.of_module ≡ Some owner → place_of_key v h.key ≡ None
no_column_place v h owner e = ap (λ o. if is_none o then column_place v h.key.name else None) e

-- a column has all of them
pub sliced_modules : (v : Unit) (home upper : Text) (c : ℤ) (hs : Frame) → OfModules home hs → map (λ h. column_of_held (place_of_key v h.key) c h) (filter (λ h. not (is_added (Some upper) h.key)) hs) ≡ hs
sliced_modules v home upper c [] m = refl
sliced_modules v home upper c (h ∷ hs) m =
    let rest : Frame = filter (λ g. not (is_added (Some upper) g.key)) hs in
    ap (λ o. map (λ g. column_of_held (place_of_key v g.key) c g) (cond (not (is_none o && bytes_eq h.key.name upper)) (h ∷ rest) rest)) m.0.1
    ∙ ap₂ (λ g l. g ∷ l) (ap (λ k. column_of_held k c h) (no_column_place v h m.0.0 m.0.1)) (sliced_modules v home upper c hs m.1)

-- the joined columns too
pub joined_modules : (v : Unit) (home : Text) (each : ℤ → Frame) (hs : Frame) → OfModules home hs → map (λ h. joined_held v (place_of_key v h.key) each h) hs ≡ hs
joined_modules v home each [] m = refl
joined_modules v home each (h ∷ hs) m = ap₂ (λ g l. g ∷ l) (ap (λ k. joined_held v k each h) (no_column_place v h m.0.0 m.0.1)) (joined_modules v home each hs m.1)
