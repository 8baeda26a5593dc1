-- A name that isn't among those given is declared by no module, so the rows say nothing of it.
use Rattle.std.proofs.Common.{◌≡◌, ℕ, zero, suc, Bool, true, false, ◌&&◌, ◌||◌, List, [], ◌∷◌, ◌++◌, map, length, Option, None, Some, is_some, refl, sym, ap, ◌∙◌, subst, if◌then◌else◌}
use Rattle.std.specs.List.{position, slice_get, list_any}
use Rattle.std.specs.Option.{option_map, option_and_then}
use Rattle.std.specs.Str.{bytes_eq}
use Rattle.std.proofs.lemmas.Bool.{false≢true}
use Rattle.fort_tree.specs.declared.unit.Decl.{Decl}
use Rattle.fort_tree.specs.declared.unit.File.{File}
use Rattle.fort_tree.specs.declared.unit.Module as tree_module
use Rattle.fort_tree.specs.declared.unit.Unit as tree_unit
use Rattle.fort_tree.specs.declared.unit.Use.{Use}
use Rattle.claw_meaning.specs.Syntax.{Text}
use Rattle.claw_meaning.specs.Plain.{plain_use}
use Rattle.claw_meaning.specs.Scope.{brings, same_host}
use Rattle.sound_programs.specs.Placed.{bare_program}
use Rattle.sound_programs.specs.Placing.{placed}
use Rattle.sound_programs.specs.Scopes.{or_other, origin}
use Rattle.fort_names.specs.declared.entity.Home.TheVariants as home
use Rattle.fort_names.specs.Entities.{first_decl, first_unit, declared_by}
use Rattle.fort_names.specs.NameLists.{has, with_name}
use Rattle.fort_names.specs.Tables.{columns_of, declared_of, declared_in, at_number, origin_by_name, lines_origin, module_origin, nowhere, rounds, origins}
use Rattle.fort_names.specs.Sharing.{inserted, with_modules, given_names, shared_of, row_of, or_no_row}
use Rattle.fort_names.proofs.Places.{passing, some_position, any_map, any_append, get_map}
use Rattle.fort_names.proofs.Tabled.{equal_names, either_way, in_module_found, some_decl, some_unit}
use Rattle.fort_names.proofs.Given.{Same, origins_same, row_at}

or_group : (a b c : Bool) → ((a || b) || c) ≡ (a || (b || c))
or_group true b c = refl
or_group false b c = refl

or_false : (a : Bool) → (a || false) ≡ a
or_false true = refl
or_false false = refl

or_parts : (a b : Bool) → (a || b) ≡ false → (a ≡ false) × (b ≡ false)
or_parts true b e = absurd (false≢true (sym e))
or_parts false b e = (refl, e)

-- ---- inserting

pub has_with : (names : List Text) (y x : Text) → has (with_name names y) x ≡ (has names x || bytes_eq x y)
has_with names y x = go (has names y) refl (bytes_eq x y) refl
  where
    go : (b : Bool) → has names y ≡ b → (c : Bool) → bytes_eq x y ≡ c → has (if b then names else names ++ y ∷ []) x ≡ (has names x || c)
    go true h true e = ap (has names) (equal_names x y e) ∙ h ∙ sym (ap (λ a. a || true) (ap (has names) (equal_names x y e) ∙ h))
    go true h false e = sym (or_false (has names x))
    go false h c e = any_append (bytes_eq x) names (y ∷ []) ∙ ap (λ a. has names x || a) (or_false (bytes_eq x y) ∙ e)

pub has_inserted : (names xs : List Text) (x : Text) → has (inserted names xs) x ≡ (has names x || list_any (bytes_eq x) xs)
has_inserted names [] x = sym (or_false (has names x))
has_inserted names (y ∷ ys) x =
    has_inserted (with_name names y) ys x ∙ ap (λ a. a || list_any (bytes_eq x) ys) (has_with names y x) ∙ or_group (has names x) (bytes_eq x y) (list_any (bytes_eq x) ys)

abbrev declares_it : Text → tree_module.Module → Bool
declares_it x m = list_any (bytes_eq x) (map (λ d. d.name) m.decls)

has_modules : (names : List Text) (ms : List tree_module.Module) (x : Text) → has (with_modules names ms) x ≡ (has names x || list_any (declares_it x) ms)
has_modules names [] x = sym (or_false (has names x))
has_modules names (m ∷ ms) x =
    has_modules (inserted names (map (λ d. d.name) m.decls)) ms x
    ∙ ap (λ a. a || list_any (declares_it x) ms) (has_inserted names (map (λ d. d.name) m.decls) x)
    ∙ or_group (has names x) (declares_it x m) (list_any (declares_it x) ms)

-- ---- what isn't given

none_of : {X : Type 0} (p : X → Bool) (xs : List X) (n : ℕ) (a : X) → list_any p xs ≡ false → slice_get xs n ≡ Some a → p a ≡ false
none_of p [] n a h e = absurd (cc)
none_of p (y ∷ ys) zero a h e = let same : y ≡ a = cc in ap p (sym same) ∙ (or_parts (p y) (list_any p ys) h).0
none_of p (y ∷ ys) (suc n) a h e = none_of p ys n a (or_parts (p y) (list_any p ys) h).1 e

fewer : {X : Type 0} (p q : X → Bool) → ((a : X) → q a ≡ false → p a ≡ false) → (xs : List X) → list_any q xs ≡ false → list_any p xs ≡ false
fewer p q less [] h = refl
fewer p q less (y ∷ ys) h =
    let parts = or_parts (q y) (list_any q ys) h in
    ap (λ a. a || list_any p ys) (less y parts.0) ∙ fewer p q less ys parts.1

and_false : (a b : Bool) → b ≡ false → (a && b) ≡ false
and_false true b e = e
and_false false b e = refl

some_or : {A : Type 0} (a b : Option A) → is_some a ≡ false → is_some b ≡ false → is_some (or_other a b) ≡ false
some_or None b e h = h
some_or (Some x) b e h = absurd (false≢true (sym e))

module _ (f : File) (x : Text) (absent : has (given_names f) x ≡ false) where
  parts : (has (with_modules [] f.modules) x ≡ false) × (list_any (bytes_eq x) (map (λ u. u.name) f.units) ≡ false)
  parts = or_parts (has (with_modules [] f.modules) x) (list_any (bytes_eq x) (map (λ u. u.name) f.units)) (sym (has_inserted (with_modules [] f.modules) (map (λ u. u.name) f.units) x) ∙ absent)

  no_module_declares : list_any (declares_it x) f.modules ≡ false
  no_module_declares = sym (has_modules [] f.modules x) ∙ parts.0

  no_unit : (n : ℕ) → is_some (first_unit f (Some n) x) ≡ false
  no_unit n =
      some_unit f (Some n) x ∙ some_position (λ (u : tree_unit.Unit). same_host u.host (Some n) && bytes_eq u.name x) f.units
      ∙ fewer (λ (u : tree_unit.Unit). same_host u.host (Some n) && bytes_eq u.name x) (λ (u : tree_unit.Unit). bytes_eq x u.name)
      (λ u e. and_false (same_host u.host (Some n)) (bytes_eq u.name x) (either_way u.name x ∙ e)) f.units
      (sym (any_map (bytes_eq x) (λ (u : tree_unit.Unit). u.name) f.units) ∙ parts.1)

  no_decl : (n : ℕ) (m : tree_module.Module) → declares_it x m ≡ false → is_some (first_decl (home.Module n) (columns_of None) m.decls x) ≡ false
  no_decl n m h =
      some_decl (home.Module n) (columns_of None) m.decls x ∙ some_position (λ (d : Decl). bytes_eq d.name x) m.decls
      ∙ fewer (λ (d : Decl). bytes_eq d.name x) (λ (d : Decl). bytes_eq x d.name) (λ d e. either_way d.name x ∙ e) m.decls
      (sym (any_map (bytes_eq x) (λ (d : Decl). d.name) m.decls) ∙ h)

  none_declares : (n : ℕ) → is_some (declared_in (declared_of f) n x) ≡ false
  none_declares n = ap is_some (in_module_found f n x) ∙ go (slice_get f.modules n) refl
    where
      go : (o : Option tree_module.Module) → slice_get f.modules n ≡ o → is_some (declared_by f n o x) ≡ false
      go None e = refl
      go (Some m) e =
          some_or (first_decl (home.Module n) (columns_of None) m.decls x) (first_unit f (Some n) x)
          (no_decl n m (none_of (declares_it x) f.modules n m no_module_declares e)) (no_unit n)

  no_lines : (row : List (Option ℕ)) → ((i : ℕ) → at_number row i ≡ None) → (us : List Use) → lines_origin (declared_of f).names row us x ≡ None
  no_lines row none [] = refl
  no_lines row none (u ∷ us) =
      ap (λ a. or_other a (lines_origin (declared_of f).names row us x)) (go (brings (plain_use u) x) (position (bytes_eq u.name) (declared_of f).names)) ∙ no_lines row none us
    where
      by : (o : Option ℕ) → option_and_then (at_number row) o ≡ None
      by None = refl
      by (Some i) = none i

      go : (b : Bool) (o : Option ℕ) → (if b then option_and_then (at_number row) o else None) ≡ None
      go true o = by o
      go false o = refl

  no_rounds : (k i : ℕ) → at_number (rounds (declared_of f) f.modules k x) i ≡ None
  no_rounds zero i = go f.modules i
    where
      go : (ms : List tree_module.Module) (j : ℕ) → at_number (nowhere ms) j ≡ None
      go [] j = refl
      go (m ∷ ms) zero = refl
      go (m ∷ ms) (suc j) = go ms j
  no_rounds (suc k) i = row_at (declared_of f) f.modules (rounds (declared_of f) f.modules k x) x i ∙ go (slice_get f.modules i) (no_rounds k)
    where
      go : (o : Option tree_module.Module) → ((j : ℕ) → at_number (rounds (declared_of f) f.modules k x) j ≡ None)
          → option_and_then (module_origin (declared_of f) (rounds (declared_of f) f.modules k x) x i) o ≡ None
      go None before = refl
      go (Some m) before =
          ap (λ b. if b then Some i else lines_origin (declared_of f).names (rounds (declared_of f) f.modules k x) m.uses x) (none_declares i)
          ∙ no_lines (rounds (declared_of f) f.modules k x) before m.uses

-- ---- the stored rows

module _ (f : File) (x : Text) where
  pub row_stored : (i : ℕ) → at_number (row_of (shared_of f) x) i ≡ at_number (origins (declared_of f) f.modules x) i
  row_stored i = go (position (bytes_eq x) (given_names f)) refl
    where
      go : (o : Option ℕ) → position (bytes_eq x) (given_names f) ≡ o
          → at_number (or_no_row (option_and_then (slice_get (map (origins (declared_of f) f.modules) (given_names f))) o)) i ≡ at_number (origins (declared_of f) f.modules x) i
      go None e = sym (no_rounds f x (sym (some_position (bytes_eq x) (given_names f)) ∙ ap is_some e) (suc (length f.modules)) i)
      go (Some n) e =
          let p = passing (bytes_eq x) (given_names f) n e in
          ap (λ a. at_number (or_no_row a) i) (get_map (origins (declared_of f) f.modules) (given_names f) n ∙ ap (option_map (origins (declared_of f) f.modules)) p.is)
          ∙ ap (λ y. at_number (origins (declared_of f) f.modules y) i) (sym (equal_names x p.item p.passes))

  pub stored_same : (m : Text) → Same f x (origin (bare_program (placed f)) m x) (origin_by_name (declared_of f).names (row_of (shared_of f) x) m)
  stored_same m = subst (Same f x (origin (bare_program (placed f)) m x)) (sym (go (position (bytes_eq m) (declared_of f).names))) (origins_same f x m)
    where
      go : (o : Option ℕ) → option_and_then (at_number (row_of (shared_of f) x)) o ≡ option_and_then (at_number (origins (declared_of f) f.modules x)) o
      go None = refl
      go (Some n) = row_stored n
