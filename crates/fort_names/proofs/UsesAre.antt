-- USE lines that give one name from two modules: by the names that two modules declare, or by the entities of all modules, they
-- are the same.
use Rattle.std.proofs.Common.{◌≡◌, ℕ, zero, suc, ◌+◌, Bool, true, false, not, ◌&&◌, ◌||◌, List, [], ◌∷◌, map, Option, None, Some, is_some, refl, sym, ap, ◌∙◌, subst, arith, nat_eq, eqb-true, if◌then◌else◌, cond, ◌<◌, inl, inr}
use Rattle.std.specs.Prelude.{flat_map, count_by, is_none}
use Rattle.std.specs.List.{list_any, position, slice_get, enumerate_from, filter}
use Rattle.std.specs.Option.{option_map, option_and_then}
use Rattle.std.specs.Str.{bytes_eq}
use Rattle.std.proofs.lemmas.Bool.{false≢true, and_parts, and_from, or_cases, or_left, or_right, eq-eqb, lt-ltb}
use Rattle.std.proofs.lemmas.Bool.Decides.{nat_tests}
use Rattle.std.proofs.lemmas.List.Sums.{sum_by-cons}
use Rattle.std.proofs.lemmas.Slice.Eq.{bytes_eq-Decides}
use Rattle.std.specs.Prelude.{◌⊎◌}
use Rattle.fort_tree.specs.declared.place.Place.{Place}
use Rattle.fort_tree.specs.declared.stmt.Named.{Named}
use Rattle.fort_tree.specs.declared.unit.Decl.{Decl}
use Rattle.fort_tree.specs.declared.unit.File.{File}
use Rattle.fort_tree.specs.declared.unit.Module as tree_module
use Rattle.fort_tree.specs.declared.unit.Unit as tree_unit
use Rattle.fort_tree.specs.declared.unit.Use.{Use}
use Rattle.claw_meaning.specs.Plain.{plain_use}
use Rattle.claw_meaning.specs.Scope.{brings, brought, same_host}
use Rattle.claw_meaning.specs.Syntax.{Text}
use Rattle.sound_programs.specs.DeclarationFaults.{gives_this, gives_other, uses_clash, two_uses}
use Rattle.sound_programs.specs.Placed.{Unit, bare_program}
use Rattle.sound_programs.specs.Places.{later_of, where_place}
use Rattle.sound_programs.specs.Placing.{placed, placed_decl, placed_unit, placed_module}
use Rattle.sound_programs.specs.Scopes.{Of_module, origin, same_origin, declared, named_decl, named_unit, units_within, entities_of_module, entities_of_modules, is_given, only_names, place_of_use, or_other}
use Rattle.sound_programs.proofs.Origins.{given_has_origin}
use Rattle.fort_names.specs.declared.entity.Home.TheVariants as home
use Rattle.fort_names.specs.declared.shared.Shared.{Shared}
use Rattle.fort_names.specs.Entities.{first_decl, first_unit, declared_by, module_number}
use Rattle.fort_names.specs.NameLists.{has, with_name}
use Rattle.fort_names.specs.Reached.{is_by, some_by}
use Rattle.fort_names.specs.Sharing.{shared_of, row_of, or_no_row}
use Rattle.fort_names.specs.Tables.{columns_of, declared_of, declared_in, at_number, origin_by_name}
use Rattle.fort_names.specs.TwoUses.{is_other}
use Rattle.fort_names.specs.Using.{brought_from, name_twice, first_number, has_another, is_contested, contested_from, contested_names, names_twice, only_twice, are_two_open, open_twice, uses_twice}
use Rattle.fort_names.proofs.Covering.{has_with, stored_same}
use Rattle.fort_names.proofs.Given.{Same, neither, both}
use Rattle.fort_names.proofs.Members.{Member, first, later, any_member, member_any, same_test, any_parts, any_flat, any_map, any_same, in_front, behind, of_map}
use Rattle.fort_names.proofs.Othering.{Pair, now, apart, Meeting, meeting_of, of_meeting, first_of, second_of}
use Rattle.fort_names.proofs.Places.{passing, some_position, get_map}
use Rattle.fort_names.proofs.Tabled.{equal_names, in_module_found, some_decl, some_unit}
use Rattle.fort_names.proofs.UsedSame.{later_where}

-- ---- members of lists

of_flat : {A B : Type 0} (f : A → List B) {l : List A} {a : A} {b : B} → Member l a → Member (f a) b → Member (flat_map f l) b
of_flat f (first {a} {l}) n = in_front (flat_map f l) n
of_flat f (later {a} {b} {l} m) n = behind (f b) (of_flat f m n)

of_filter : {A : Type 0} (test : A → Bool) {l : List A} {a : A} → Member l a → test a ≡ true → Member (filter test l) a
of_filter test (first {a} {l}) e = subst (λ b. Member (cond b (a ∷ filter test l) (filter test l)) a) (sym e) first
of_filter test (later {a} {b} {l} m) e = go (test b) (of_filter test m e)
  where
    go : (t : Bool) → Member (filter test l) a → Member (cond t (b ∷ filter test l) (filter test l)) a
    go true n = later n
    go false n = n

numbered : {A : Type 0} (n : ℕ) (l : List A) (k : ℕ) (a : A) → slice_get l k ≡ Some a → Member (enumerate_from n l) (n + k, a)
numbered n [] k a e = absurd (cc)
numbered {A} n (b ∷ l) zero a e =
    let same : b ≡ a = cc in
    let at : n ≡ n + 0 = omega arith in
    subst (λ p. Member ((n, b) ∷ enumerate_from (n + 1) l) p) (λ i. (at i, same i)) first
numbered n (b ∷ l) (suc k) a e =
    let at : n + 1 + k ≡ n + suc k = omega arith in
    later (subst (λ j. Member (enumerate_from (n + 1) l) (j, a)) at (numbered (n + 1) l k a e))

module _ (f : File) (x : Text) where
  -- a module and a name that it declares
  record Entity (j : ℕ) (m : tree_module.Module) : Type 0 where
    item : Named
    there : Member (declared (placed f) (Of_module j (placed_module m))) item
    named : item.name ≡ x

  some_or : {A : Type 0} (a b : Option A) → is_some (or_other a b) ≡ (is_some a || is_some b)
  some_or None b = refl
  some_or (Some y) b = refl

  declares : (j : ℕ) (m : tree_module.Module) → slice_get f.modules j ≡ Some m → is_some (declared_in (declared_of f) j x) ≡ true
      → (list_any (λ (d : Decl). bytes_eq d.name x) m.decls || list_any (λ (u : tree_unit.Unit). same_host u.host (Some j) && bytes_eq u.name x) f.units) ≡ true
  declares j m e d =
      (λ i. sym (some_position (λ (d : Decl). bytes_eq d.name x) m.decls) i || sym (some_position (λ (u : tree_unit.Unit). same_host u.host (Some j) && bytes_eq u.name x) f.units) i)
      ∙ (λ i. sym (some_decl (home.Module j) (columns_of None) m.decls x) i || sym (some_unit f (Some j) x) i)
      ∙ sym (some_or (first_decl (home.Module j) (columns_of None) m.decls x) (first_unit f (Some j) x))
      ∙ sym (ap is_some (in_module_found f j x ∙ ap (λ o. declared_by f j o x) e))
      ∙ d

  entity : (j : ℕ) (m : tree_module.Module) → slice_get f.modules j ≡ Some m → is_some (declared_in (declared_of f) j x) ≡ true → Entity j m
  entity j m e d = go (or_cases (list_any (λ (d : Decl). bytes_eq d.name x) m.decls) (list_any within f.units) (declares j m e d))
    where
      within : tree_unit.Unit → Bool
      within u = same_host u.host (Some j) && bytes_eq u.name x

      go : ◌⊎◌ (list_any (λ (d : Decl). bytes_eq d.name x) m.decls ≡ true) (list_any within f.units ≡ true) → Entity j m
      go (inl h) =
          let r : (d : Decl) × Member m.decls d × (bytes_eq d.name x ≡ true) = any_member (λ (d : Decl). bytes_eq d.name x) m.decls h in
          record {
            item = named_decl (placed_decl r.0);
            there = in_front (map named_unit (units_within (placed f) j)) (of_map named_decl (of_map placed_decl r.1));
            named = equal_names r.0.name x r.2;
          }
      go (inr h) =
          let r : (u : tree_unit.Unit) × Member f.units u × (within u ≡ true) = any_member within f.units h in
          let parts : (same_host r.0.host (Some j) ≡ true) × (bytes_eq r.0.name x ≡ true) = and_parts (same_host r.0.host (Some j)) (bytes_eq r.0.name x) r.2 in
          record {
            item = named_unit (placed_unit r.0);
            there = behind (map named_decl (map placed_decl m.decls)) (of_map named_unit (of_filter (λ (u : Unit). same_host u.host (Some j)) (of_map placed_unit r.1) parts.0));
            named = equal_names r.0.name x parts.1;
          }

  entity_there : (t : Text) (j : ℕ) → module_number f t ≡ Some j → is_some (declared_in (declared_of f) j x) ≡ true → Member (entities_of_modules (placed f)) (t, x)
  entity_there t j e d =
      let p = passing (λ (m : tree_module.Module). bytes_eq m.name t) f.modules j e in
      let named : p.item.name ≡ t = equal_names p.item.name t p.passes in
      let one = entity j p.item p.is d in
      let number : 0 + j ≡ j = omega arith in
      let module_there : Member (enumerate_from 0 (map placed_module f.modules)) (j, placed_module p.item) =
      subst (λ k. Member (enumerate_from 0 (map placed_module f.modules)) (k, placed_module p.item)) number
      (numbered 0 (map placed_module f.modules) j (placed_module p.item) (get_map placed_module f.modules j ∙ ap (option_map placed_module) p.is)) in
      subst (λ (a : Text × Text). Member (entities_of_modules (placed f)) a) (λ i. (named i, one.named i))
      (of_flat (entities_of_module (placed f)) module_there (of_map (λ (n : Named). (p.item.name, n.name)) one.there))

  -- ---- two modules that give the name

  record Parted (a b : Option Text) : Type 0 where
    other : Text
    is : b ≡ Some other
    there : Member (entities_of_modules (placed f)) (other, x)
    given : is_some a ≡ true
    differs : not (same_origin a (Some other)) ≡ true

  not_false : (t : Bool) → (t ≡ true → false ≡ true) → not t ≡ true
  not_false false h = refl
  not_false true h = h refl

  parted : {a b : Option Text} {m n : Option ℕ} → Same f x a m → Same f x b n → apart m n ≡ true → Parted a b
  parted neither q e = absurd (false≢true e)
  parted (both a i ea da) neither e = absurd (false≢true e)
  parted (both a i ea da) (both b j eb db) e = record {
    other = b;
    is = refl;
    there = entity_there b j eb db;
    given = refl;
    differs = not_false (bytes_eq a b) (λ h. let one : ◌≡◌ {A = Option ℕ} (Some i) (Some j) = sym ea ∙ ap (module_number f) (equal_names a b h) ∙ eb in let same : i ≡ j = cc in sym (ap not (eq-eqb i j same)) ∙ e);
  }

  -- and back
  names_at : (a b : Text) (i j : ℕ) → module_number f a ≡ Some i → module_number f b ≡ Some j → nat_eq i j ≡ true → a ≡ b
  names_at a b i j e h same =
      let p = passing (λ (m : tree_module.Module). bytes_eq m.name a) f.modules i e in
      let q = passing (λ (m : tree_module.Module). bytes_eq m.name b) f.modules j h in
      let item : ◌≡◌ {A = Option tree_module.Module} (Some p.item) (Some q.item) = sym p.is ∙ ap (slice_get f.modules) (eqb-true i j same) ∙ q.is in
      let one : p.item ≡ q.item = cc in
      sym (equal_names p.item.name a p.passes) ∙ ap (λ m. m.name) one ∙ equal_names q.item.name b q.passes

  numbers_apart : {a b : Option Text} {m n : Option ℕ} → Same f x a m → Same f x b n → (t : Text) → is_some a ≡ true → not (same_origin a (Some t)) ≡ true → same_origin b (Some t) ≡ true → apart m n ≡ true
  numbers_apart neither q t e h k = absurd (false≢true e)
  numbers_apart (both a i ea da) neither t e h k = absurd (false≢true k)
  numbers_apart (both a i ea da) (both b j eb db) t e h k =
      not_false (nat_eq i j) (λ same. sym (ap not (ap (λ y. bytes_eq y t) (names_at a b i j ea eb same) ∙ k)) ∙ h)

left_some : (o p : Option ℕ) → apart o p ≡ true → is_some o ≡ true
left_some None p e = absurd (false≢true e)
left_some (Some m) p e = refl

right_some : (o p : Option ℕ) → apart o p ≡ true → is_some p ≡ true
right_some None p e = absurd (false≢true e)
right_some (Some m) None e = absurd (false≢true e)
right_some (Some m) (Some n) e = refl

-- ---- a clash of two lines

module _ (f : File) (at : Place) (a b : Use) where
  clash_is : some_by at (uses_clash (placed f) (bare_program (placed f)) a b)
      ≡ list_any (λ (e : Text × Text). (gives_other (bare_program (placed f)) a e && gives_this (bare_program (placed f)) b e) && (is_by at (place_of_use a e.1) && is_by at (place_of_use b e.1))) (entities_of_modules (placed f))
  clash_is =
      any_flat (is_by at) (λ (e : Text × Text). where_place (gives_other (bare_program (placed f)) a e && gives_this (bare_program (placed f)) b e) (later_of (place_of_use a e.1) (place_of_use b e.1))) (entities_of_modules (placed f))
      ∙ any_same _ _ (entities_of_modules (placed f)) (λ (e : Text × Text). later_where at (gives_other (bare_program (placed f)) a e && gives_this (bare_program (placed f)) b e) (place_of_use a e.1) (place_of_use b e.1))

  -- what a line brings
  record Brings (x : Text) (line : Use) (n : Option ℕ) : Type 0 where
    does : brings (plain_use line) x ≡ true
    number : n ≡ origin_by_name (declared_of f).names (row_of (shared_of f) x) line.name

  brought_some : (x : Text) (line : Use) → is_some (brought_from (shared_of f) x line) ≡ true → Brings x line (brought_from (shared_of f) x line)
  brought_some x line e = go (brings (plain_use line) x) refl e
    where
      go : (t : Bool) → brings (plain_use line) x ≡ t → is_some (if t then origin_by_name (declared_of f).names (row_of (shared_of f) x) line.name else None) ≡ true
          → Brings x line (if t then origin_by_name (declared_of f).names (row_of (shared_of f) x) line.name else None)
      go true h e = record { does = h; number = refl }
      go false h e = absurd (false≢true e)

  same_text : (y : Text) → bytes_eq y y ≡ true
  same_text y = (bytes_eq-Decides y y).1 refl

  pub clash_from : (x : Text) → apart (brought_from (shared_of f) x a) (brought_from (shared_of f) x b) ≡ true → is_by at (place_of_use a x) ≡ true → is_by at (place_of_use b x) ≡ true
      → some_by at (uses_clash (placed f) (bare_program (placed f)) a b) ≡ true
  clash_from x e h k =
      let q = bare_program (placed f) in
      let one = brought_some x a (left_some (brought_from (shared_of f) x a) (brought_from (shared_of f) x b) e) in
      let two = brought_some x b (right_some (brought_from (shared_of f) x a) (brought_from (shared_of f) x b) e) in
      let p = parted f x (stored_same f x a.name) (stored_same f x b.name) ((λ i. apart (sym one.number i) (sym two.number i)) ∙ e) in
      let given : is_given q a.name x ≡ true = given_has_origin q a.name x ∙ p.given in
      let given_too : is_given q b.name x ≡ true = given_has_origin q b.name x ∙ ap is_some p.is in
      let this : same_origin (origin q b.name x) (Some p.other) ≡ true = ap (λ o. same_origin o (Some p.other)) p.is ∙ same_text p.other in
      clash_is
      ∙ member_any (λ (e : Text × Text). (gives_other q a e && gives_this q b e) && (is_by at (place_of_use a e.1) && is_by at (place_of_use b e.1))) p.there
      (and_from _ _ (and_from _ _ (and_from _ _ (and_from _ _ one.does given) p.differs) (and_from _ _ (and_from _ _ two.does given_too) this)) (and_from _ _ h k))

  pub record Clashing : Type 0 where
    pub name : Text
    pub apart_are : apart (brought_from (shared_of f) name a) (brought_from (shared_of f) name b) ≡ true
    pub one_by : is_by at (place_of_use a name) ≡ true
    pub other_by : is_by at (place_of_use b name) ≡ true

  brought_is : (x : Text) (line : Use) → brings (plain_use line) x ≡ true → brought_from (shared_of f) x line ≡ origin_by_name (declared_of f).names (row_of (shared_of f) x) line.name
  brought_is x line e = ap (λ t. if t then origin_by_name (declared_of f).names (row_of (shared_of f) x) line.name else None) e

  pub clash_to : some_by at (uses_clash (placed f) (bare_program (placed f)) a b) ≡ true → Clashing
  clash_to h =
      let q = bare_program (placed f) in
      let tested : Text × Text → Bool = λ e. (gives_other q a e && gives_this q b e) && (is_by at (place_of_use a e.1) && is_by at (place_of_use b e.1)) in
      let r : (e : Text × Text) × Member (entities_of_modules (placed f)) e × (tested e ≡ true) = any_member tested (entities_of_modules (placed f)) (sym clash_is ∙ h) in
      let t = r.0.0 in
      let x = r.0.1 in
      let halves : ((gives_other q a r.0 && gives_this q b r.0) ≡ true) × ((is_by at (place_of_use a x) && is_by at (place_of_use b x)) ≡ true) = and_parts _ _ r.2 in
      let gives : (gives_other q a r.0 ≡ true) × (gives_this q b r.0 ≡ true) = and_parts _ _ halves.0 in
      let by : (is_by at (place_of_use a x) ≡ true) × (is_by at (place_of_use b x) ≡ true) = and_parts _ _ halves.1 in
      let one : ((brings (plain_use a) x && is_given q a.name x) ≡ true) × (not (same_origin (origin q a.name x) (Some t)) ≡ true) = and_parts _ _ gives.0 in
      let two : ((brings (plain_use b) x && is_given q b.name x) ≡ true) × (same_origin (origin q b.name x) (Some t) ≡ true) = and_parts _ _ gives.1 in
      let brings_one : (brings (plain_use a) x ≡ true) × (is_given q a.name x ≡ true) = and_parts _ _ one.0 in
      let brings_two : (brings (plain_use b) x ≡ true) × (is_given q b.name x ≡ true) = and_parts _ _ two.0 in
      record {
        name = x;
        apart_are =
            (λ i. apart (brought_is x a brings_one.0 i) (brought_is x b brings_two.0 i))
            ∙ numbers_apart f x (stored_same f x a.name) (stored_same f x b.name) t (sym (given_has_origin q a.name x) ∙ brings_one.1) one.1 two.1;
        one_by = by.0;
        other_by = by.1;
      }

-- ---- all lines

-- two of the lines give one name from two modules, neither later than the place
pub record Twice (f : File) (at : Place) (lines : List Use) : Type 0 where
  pub name : Text
  pub meeting : Meeting (brought_from (shared_of f) name) (λ line. place_of_use line name) at lines

module _ (f : File) (at : Place) where
  longer : (a : Use) (lines : List Use) → Twice f at lines → Twice f at (a ∷ lines)
  longer a lines t = record {
    name = t.name;
    meeting = record {
      one = t.meeting.one;
      other = t.meeting.other;
      pair = Pair.behind t.meeting.pair;
      apart_are = t.meeting.apart_are;
      one_by = t.meeting.one_by;
      other_by = t.meeting.other_by;
    };
  }

  from_pairs : (lines : List Use) → some_by at (two_uses (placed f) (bare_program (placed f)) lines) ≡ true → Twice f at lines
  from_pairs [] h = absurd (false≢true h)
  from_pairs (a ∷ rest) h = go (from_pairs rest) (or_cases _ _ (sym (any_parts (is_by at) (flat_map (uses_clash (placed f) (bare_program (placed f)) a) rest) (two_uses (placed f) (bare_program (placed f)) rest)) ∙ h))
    where
      go : (some_by at (two_uses (placed f) (bare_program (placed f)) rest) ≡ true → Twice f at rest)
          → ◌⊎◌ (some_by at (flat_map (uses_clash (placed f) (bare_program (placed f)) a) rest) ≡ true) (some_by at (two_uses (placed f) (bare_program (placed f)) rest) ≡ true) → Twice f at (a ∷ rest)
      go further (inr k) = longer a rest (further k)
      go further (inl k) =
          let r : (b : Use) × Member rest b × (some_by at (uses_clash (placed f) (bare_program (placed f)) a b) ≡ true) =
          any_member (λ b. some_by at (uses_clash (placed f) (bare_program (placed f)) a b)) rest (sym (any_flat (is_by at) (uses_clash (placed f) (bare_program (placed f)) a) rest) ∙ k) in
          let c = clash_to f at a r.0 r.2 in
          record { name = c.name; meeting = record { one = a; other = r.0; pair = now r.1; apart_are = c.apart_are; one_by = c.one_by; other_by = c.other_by } }

  of_pair : (x : Text) {lines : List Use} {a b : Use} → Pair lines a b → apart (brought_from (shared_of f) x a) (brought_from (shared_of f) x b) ≡ true → is_by at (place_of_use a x) ≡ true
      → is_by at (place_of_use b x) ≡ true → some_by at (two_uses (placed f) (bare_program (placed f)) lines) ≡ true
  of_pair x (now {a} {b} {l} m) e h k =
      any_parts (is_by at) (flat_map (uses_clash (placed f) (bare_program (placed f)) a) l) (two_uses (placed f) (bare_program (placed f)) l)
      ∙ or_left _ _ (any_flat (is_by at) (uses_clash (placed f) (bare_program (placed f)) a) l ∙ member_any (λ c. some_by at (uses_clash (placed f) (bare_program (placed f)) a c)) m (clash_from f at a b x e h k))
  of_pair x (Pair.behind {a} {b} {c} {l} p) e h k =
      any_parts (is_by at) (flat_map (uses_clash (placed f) (bare_program (placed f)) c) l) (two_uses (placed f) (bare_program (placed f)) l)
      ∙ or_right _ _ (of_pair x p e h k)

  to_pairs : (lines : List Use) → Twice f at lines → some_by at (two_uses (placed f) (bare_program (placed f)) lines) ≡ true
  to_pairs lines t = of_pair t.name t.meeting.pair t.meeting.apart_are t.meeting.one_by t.meeting.other_by

-- ---- by the names that two modules declare

number_at_row : (row : List (Option ℕ)) (i m : ℕ) → at_number row i ≡ Some m → Member row (Some m)
number_at_row [] i m e = absurd (cc)
number_at_row (o ∷ row) zero m e = subst (Member (o ∷ row)) e first
number_at_row (o ∷ row) (suc i) m e = later (number_at_row row i m e)

first_there : {row : List (Option ℕ)} {m : ℕ} → Member row (Some m) → (n : ℕ) × (first_number row ≡ Some n)
first_there {row} {m} k = go k refl
  where
    go : {l : List (Option ℕ)} {o : Option ℕ} → Member l o → o ≡ Some m → (n : ℕ) × (first_number l ≡ Some n)
    go (first {a} {l}) e = (m, ap (λ p. first_number (p ∷ l)) e)
    go (later {a} {b} {l} j) e = by b (go j e)
      where
        by : (p : Option ℕ) → (n : ℕ) × (first_number l ≡ Some n) → (n : ℕ) × (first_number (p ∷ l) ≡ Some n)
        by None r = r
        by (Some n) r = (n, refl)

contested_row : {row : List (Option ℕ)} {i j : ℕ} → Member row (Some i) → Member row (Some j) → not (nat_eq i j) ≡ true → is_contested row ≡ true
contested_row {row} {i} {j} m n e = ap (λ o. has_another o row) k.1 ∙ go (nat_eq k.0 i) refl
  where
    k : (n : ℕ) × (first_number row ≡ Some n)
    k = first_there m

    turn : (u i j : ℕ) → nat_eq u i ≡ true → not (nat_eq i j) ≡ true → not (nat_eq u j) ≡ true
    turn u i j = grind (arith, nat_tests)

    go : (t : Bool) → nat_eq k.0 i ≡ t → list_any (is_other k.0) row ≡ true
    go true h = member_any (is_other k.0) n (turn k.0 i j h e)
    go false h = member_any (is_other k.0) m (ap not h)

has_contested : (s : Shared) (names given : List Text) (x : Text) → has (contested_from s names given) x ≡ (has names x || list_any (λ y. is_contested (row_of s y) && bytes_eq x y) given)
has_contested s names [] x = sym (or_false (has names x))
  where
    or_false : (t : Bool) → (t || false) ≡ t
    or_false true = refl
    or_false false = refl
has_contested s names (y ∷ ys) x = has_contested s (if is_contested (row_of s y) then with_name names y else names) ys x ∙ go (is_contested (row_of s y))
  where
    group : (a b c : Bool) → ((a || b) || c) ≡ (a || (b || c))
    group a b c = grind (arith, nat_tests)

    go : (t : Bool) → (has (if t then with_name names y else names) x || list_any (λ z. is_contested (row_of s z) && bytes_eq x z) ys)
        ≡ (has names x || ((t && bytes_eq x y) || list_any (λ z. is_contested (row_of s z) && bytes_eq x z) ys))
    go true = ap (λ b. b || list_any (λ z. is_contested (row_of s z) && bytes_eq x z) ys) (has_with names y x) ∙ group (has names x) (bytes_eq x y) (list_any (λ z. is_contested (row_of s z) && bytes_eq x z) ys)
    go false = refl

-- a name with a row is given
given_row : (s : Shared) (x : Text) (i m : ℕ) → at_number (row_of s x) i ≡ Some m → list_any (bytes_eq x) s.given ≡ true
given_row s x i m e = sym (some_position (bytes_eq x) s.given) ∙ go (position (bytes_eq x) s.given) e
  where
    go : (o : Option ℕ) → at_number (or_no_row (option_and_then (slice_get s.rows) o)) i ≡ Some m → is_some o ≡ true
    go None e = absurd (cc)
    go (Some n) e = refl

number_by_name : (s : Shared) (x y : Text) (m : ℕ) → origin_by_name s.declared.names (row_of s x) y ≡ Some m → (i : ℕ) × (at_number (row_of s x) i ≡ Some m)
number_by_name s x y m e = go (position (bytes_eq y) s.declared.names) e
  where
    go : (o : Option ℕ) → option_and_then (at_number (row_of s x)) o ≡ Some m → (i : ℕ) × (at_number (row_of s x) i ≡ Some m)
    go None e = absurd (cc)
    go (Some i) e = (i, e)

number_brought : (s : Shared) (x : Text) (line : Use) (m : ℕ) → brought_from s x line ≡ Some m → (i : ℕ) × (at_number (row_of s x) i ≡ Some m)
number_brought s x line m e = go (brings (plain_use line) x) e
  where
    go : (t : Bool) → (if t then origin_by_name s.declared.names (row_of s x) line.name else None) ≡ Some m → (i : ℕ) × (at_number (row_of s x) i ≡ Some m)
    go true e = number_by_name s x line.name m e
    go false e = absurd (cc)

contested_is : (s : Shared) (x : Text) (a b : Use) → apart (brought_from s x a) (brought_from s x b) ≡ true → has (contested_names s) x ≡ true
contested_is s x a b e = go (brought_from s x a) (brought_from s x b) refl refl e
  where
    go : (o p : Option ℕ) → brought_from s x a ≡ o → brought_from s x b ≡ p → apart o p ≡ true → has (contested_names s) x ≡ true
    go None p h k e = absurd (false≢true e)
    go (Some i) None h k e = absurd (false≢true e)
    go (Some i) (Some j) h k e =
        let one = number_brought s x a i h in
        let two = number_brought s x b j k in
        let contested : is_contested (row_of s x) ≡ true = contested_row (number_at_row (row_of s x) one.0 i one.1) (number_at_row (row_of s x) two.0 j two.1) e in
        let r : (y : Text) × Member s.given y × (bytes_eq x y ≡ true) = any_member (bytes_eq x) s.given (given_row s x one.0 i one.1) in
        has_contested s [] s.given x ∙ member_any (λ y. is_contested (row_of s y) && bytes_eq x y) r.1 (and_from _ _ (ap (λ y. is_contested (row_of s y)) (sym (equal_names x r.0 r.2)) ∙ contested) r.2)

-- ---- both

module _ (f : File) (at : Place) (lines : List Use) where
  by_name : (x : Text) → some_by at (name_twice (shared_of f) lines x) ≡ true → Twice f at lines
  by_name x h = record { name = x; meeting = meeting_of (brought_from (shared_of f) x) (λ line. place_of_use line x) at lines h }

  of_name : (t : Twice f at lines) → some_by at (name_twice (shared_of f) lines t.name) ≡ true
  of_name t = of_meeting (brought_from (shared_of f) t.name) (λ line. place_of_use line t.name) at lines t.meeting

  from_only : (some : List Use) → some_by at (only_twice (shared_of f) (contested_names (shared_of f)) lines some) ≡ true → Twice f at lines
  from_only some h =
      let c = contested_names (shared_of f) in
      let r : (line : Use) × Member some line × (some_by at (names_twice (shared_of f) c lines (only_names line.only)) ≡ true) =
      any_member (λ (line : Use). some_by at (names_twice (shared_of f) c lines (only_names line.only))) some (sym (any_flat (is_by at) (λ (line : Use). names_twice (shared_of f) c lines (only_names line.only)) some) ∙ h) in
      let n : (n : Named) × Member (only_names r.0.only) n × (some_by at (if has c n.name then name_twice (shared_of f) lines n.name else []) ≡ true) =
      any_member (λ (n : Named). some_by at (if has c n.name then name_twice (shared_of f) lines n.name else [])) (only_names r.0.only)
      (sym (any_flat (is_by at) (λ (n : Named). if has c n.name then name_twice (shared_of f) lines n.name else []) (only_names r.0.only)) ∙ r.2) in
      go n.0 (has c n.0.name) n.2
    where
      go : (n : Named) (t : Bool) → some_by at (if t then name_twice (shared_of f) lines n.name else []) ≡ true → Twice f at lines
      go n true h = by_name n.name h
      go n false h = absurd (false≢true h)

  from_open : some_by at (open_twice (shared_of f) (contested_names (shared_of f)) lines) ≡ true → Twice f at lines
  from_open h = go (are_two_open lines) h
    where
      go : (t : Bool) → some_by at (if t then flat_map (name_twice (shared_of f) lines) (contested_names (shared_of f)) else []) ≡ true → Twice f at lines
      go false h = absurd (false≢true h)
      go true h =
          let r : (x : Text) × Member (contested_names (shared_of f)) x × (some_by at (name_twice (shared_of f) lines x) ≡ true) =
          any_member (λ x. some_by at (name_twice (shared_of f) lines x)) (contested_names (shared_of f)) (sym (any_flat (is_by at) (name_twice (shared_of f) lines) (contested_names (shared_of f))) ∙ h) in
          by_name r.0 r.2

  -- a line with ONLY that brings the name lists it
  listed : (x : Text) (line : Use) → Member lines line → is_some line.only ≡ true → brings (plain_use line) x ≡ true → has (contested_names (shared_of f)) x ≡ true → some_by at (name_twice (shared_of f) lines x) ≡ true
      → some_by at (only_twice (shared_of f) (contested_names (shared_of f)) lines lines) ≡ true
  listed x line m some b h k =
      let c = contested_names (shared_of f) in
      any_flat (is_by at) (λ (l : Use). names_twice (shared_of f) c lines (only_names l.only)) lines
      ∙ member_any (λ (l : Use). some_by at (names_twice (shared_of f) c lines (only_names l.only))) m (go line.only some b)
    where
      go : (o : Option (List Named)) → is_some o ≡ true → brought (option_map (map (λ (n : Named). n.name)) o) x ≡ true → some_by at (names_twice (shared_of f) (contested_names (shared_of f)) lines (only_names o)) ≡ true
      go None s b = absurd (false≢true s)
      go (Some only) s b =
          let c = contested_names (shared_of f) in
          let r : (n : Named) × Member only n × (bytes_eq n.name x ≡ true) = any_member (λ (n : Named). bytes_eq n.name x) only (sym (any_map (λ y. bytes_eq y x) (λ (n : Named). n.name) only) ∙ b) in
          let same : x ≡ r.0.name = sym (equal_names r.0.name x r.2) in
          any_flat (is_by at) (λ (n : Named). if has c n.name then name_twice (shared_of f) lines n.name else []) only
          ∙ member_any (λ (n : Named). some_by at (if has c n.name then name_twice (shared_of f) lines n.name else [])) r.1
          (subst (λ y. some_by at (if has c y then name_twice (shared_of f) lines y else []) ≡ true) same (ap (λ t. some_by at (if t then name_twice (shared_of f) lines x else [])) h ∙ k))

  to_only : (t : Twice f at lines) → (line : Use) → Member lines line → is_some line.only ≡ true → is_some (brought_from (shared_of f) t.name line) ≡ true → has (contested_names (shared_of f)) t.name ≡ true
      → some_by at (uses_twice (shared_of f) (contested_names (shared_of f)) lines) ≡ true
  to_only t line m some b h =
      let c = contested_names (shared_of f) in
      any_parts (is_by at) (only_twice (shared_of f) c lines lines) (open_twice (shared_of f) c lines)
      ∙ or_left _ _ (listed t.name line m some (brings_some (brings (plain_use line) t.name) b) h (of_name t))
    where
      brings_some : (u : Bool) → is_some (if u then origin_by_name (shared_of f).declared.names (row_of (shared_of f) t.name) line.name else None) ≡ true → u ≡ true
      brings_some true e = refl
      brings_some false e = e

  to_open : (t : Twice f at lines) → are_two_open lines ≡ true → has (contested_names (shared_of f)) t.name ≡ true → some_by at (uses_twice (shared_of f) (contested_names (shared_of f)) lines) ≡ true
  to_open t e h =
      let c = contested_names (shared_of f) in
      let r : (y : Text) × Member c y × (bytes_eq t.name y ≡ true) = any_member (bytes_eq t.name) c h in
      any_parts (is_by at) (only_twice (shared_of f) c lines lines) (open_twice (shared_of f) c lines)
      ∙ or_right _ _
      (ap (λ u. some_by at (if u then flat_map (name_twice (shared_of f) lines) c else [])) e
      ∙ any_flat (is_by at) (name_twice (shared_of f) lines) c
      ∙ member_any (λ y. some_by at (name_twice (shared_of f) lines y)) r.1 (subst (λ y. some_by at (name_twice (shared_of f) lines y) ≡ true) (equal_names t.name r.0 r.2) (of_name t)))

-- lines without ONLY are counted
counted : (a : Use) (l : List Use) → count_by (λ (k : Use). is_none k.only) (a ∷ l) ≡ cond (is_none a.only) 1 0 + count_by (λ (k : Use). is_none k.only) l
counted a l = sum_by-cons (λ (k : Use). cond (is_none k.only) 1 0) a l

one_open : {lines : List Use} {b : Use} → Member lines b → is_none b.only ≡ true → 0 < count_by (λ (l : Use). is_none l.only) lines
one_open (first {a} {l}) e = let h : ◌≡◌ {A = ℕ} (cond (is_none a.only) 1 0) 1 = ap (λ t. cond t 1 0) e in let n = counted a l in omega (arith, h, n)
one_open (later {a} {b} {l} m) e = let h = one_open m e in let n = counted b l in omega (arith, h, n)

two_open : {lines : List Use} {a b : Use} → Pair lines a b → is_none a.only ≡ true → is_none b.only ≡ true → 1 < count_by (λ (l : Use). is_none l.only) lines
two_open (now {a} {b} {l} m) e h = let k : ◌≡◌ {A = ℕ} (cond (is_none a.only) 1 0) 1 = ap (λ t. cond t 1 0) e in let n = one_open m h in let t = counted a l in omega (arith, k, n, t)
two_open (Pair.behind {a} {b} {c} {l} p) e h = let n = two_open p e h in let t = counted c l in omega (arith, n, t)

module _ (f : File) (at : Place) (lines : List Use) where
  to_twice : Twice f at lines → some_by at (uses_twice (shared_of f) (contested_names (shared_of f)) lines) ≡ true
  to_twice t = go t.meeting.one.only t.meeting.other.only refl refl
    where
      contested : has (contested_names (shared_of f)) t.name ≡ true
      contested = contested_is (shared_of f) t.name t.meeting.one t.meeting.other t.meeting.apart_are

      go : (o p : Option (List Named)) → t.meeting.one.only ≡ o → t.meeting.other.only ≡ p → some_by at (uses_twice (shared_of f) (contested_names (shared_of f)) lines) ≡ true
      go (Some only) p e h =
          to_only f at lines t t.meeting.one (first_of t.meeting.pair) (ap is_some e) (left_some _ _ t.meeting.apart_are) contested
      go None (Some only) e h =
          to_only f at lines t t.meeting.other (second_of t.meeting.pair) (ap is_some h) (right_some _ _ t.meeting.apart_are) contested
      go None None e h = to_open f at lines t (lt-ltb 1 _ (two_open t.meeting.pair (ap is_none e) (ap is_none h))) contested

  pub uses_are : some_by at (uses_twice (shared_of f) (contested_names (shared_of f)) lines) ≡ some_by at (two_uses (placed f) (bare_program (placed f)) lines)
  uses_are = same_test (some_by at (uses_twice (shared_of f) (contested_names (shared_of f)) lines)) (some_by at (two_uses (placed f) (bare_program (placed f)) lines)) there (λ h. to_twice (from_pairs f at lines h))
    where
      there : some_by at (uses_twice (shared_of f) (contested_names (shared_of f)) lines) ≡ true → some_by at (two_uses (placed f) (bare_program (placed f)) lines) ≡ true
      there h = go (or_cases _ _ (sym (any_parts (is_by at) (only_twice (shared_of f) (contested_names (shared_of f)) lines lines) (open_twice (shared_of f) (contested_names (shared_of f)) lines)) ∙ h))
        where
          go : ◌⊎◌ (some_by at (only_twice (shared_of f) (contested_names (shared_of f)) lines lines) ≡ true) (some_by at (open_twice (shared_of f) (contested_names (shared_of f)) lines) ≡ true)
              → some_by at (two_uses (placed f) (bare_program (placed f)) lines) ≡ true
          go (inl k) = to_pairs f at lines (from_only f at lines lines k)
          go (inr k) = to_pairs f at lines (from_open f at lines k)
