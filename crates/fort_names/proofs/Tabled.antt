-- What is found in the tables of a file is what its declarations say.
use Rattle.std.proofs.Common.{◌≡◌, ℕ, zero, suc, ◌+◌, Bool, true, ◌&&◌, List, [], ◌∷◌, map, Option, None, Some, is_some, refl, sym, ap, ◌∙◌, arith, nat_eq}
use Rattle.std.specs.List.{position, slice_get}
use Rattle.std.specs.Option.{option_map, option_and_then}
use Rattle.std.specs.Str.{bytes_eq}
use Rattle.std.proofs.lemmas.Bool.Decides.{nat_tests}
use Rattle.std.proofs.lemmas.Cmp.{nat_list_eq_equiv}
use Rattle.std.proofs.lemmas.Slice.Eq.{bytes_eq-Decides}
use Rattle.fort_tree.specs.declared.unit.Decl.{Decl}
use Rattle.fort_tree.specs.declared.unit.File.{File}
use Rattle.fort_tree.specs.declared.unit.Module as tree_module
use Rattle.fort_tree.specs.declared.unit.Unit as tree_unit
use Rattle.claw_meaning.specs.Scope.{same_host}
use Rattle.claw_meaning.specs.Syntax.{Text}
use Rattle.sound_programs.specs.Scopes.{or_other}
use Rattle.fort_names.specs.declared.entity.Home.{Home}
use Rattle.fort_names.specs.declared.entity.Home.TheVariants as home
use Rattle.fort_names.specs.Entities.{decl_entity, unit_entity, module_entity, first_decl, first_unit, module_number, declared_by, in_module}
use Rattle.fort_names.specs.Tables.{columns_of, decl_entities, table_of, table_find, same_key, key_of, unit_entities, module_entities, module_tables, declared_of, unit_find, module_find, declared_in}
use Rattle.fort_names.proofs.Places.{position_map, position_by, passing}

pub equal_names : (x y : Text) → bytes_eq x y ≡ true → x ≡ y
equal_names x y = (bytes_eq-Decides x y).0

pub either_way : (x y : Text) → bytes_eq x y ≡ bytes_eq y x
either_way = nat_list_eq_equiv.symm

-- the first place of a name among names of things
pub named_place : {X : Type 0} (name : X → Text) (xs : List X) (x : Text) → position (bytes_eq x) (map name xs) ≡ position (λ a. bytes_eq (name a) x) xs
named_place name xs x = position_map (bytes_eq x) name xs ∙ position_by (λ a. bytes_eq x (name a)) (λ a. bytes_eq (name a) x) xs (λ a. either_way x (name a))

-- ---- numbered lists

get_decl : (at : Home) (columns : Text → Bool) (n : ℕ) (ds : List Decl) (i : ℕ) → slice_get (decl_entities at columns n ds) i ≡ option_map (λ d. decl_entity at (columns d.name) (n + i) d) (slice_get ds i)
get_decl at columns n [] i = refl
get_decl at columns n (d ∷ ds) zero = let e : n ≡ n + 0 = omega arith in ap (λ k. Some (decl_entity at (columns d.name) k d)) e
get_decl at columns n (d ∷ ds) (suc i) =
    let e : n + 1 + i ≡ n + suc i = omega arith in
    get_decl at columns (n + 1) ds i ∙ ap (λ k. option_map (λ a. decl_entity at (columns a.name) k a) (slice_get ds i)) e

get_unit : (n : ℕ) (us : List tree_unit.Unit) (i : ℕ) → slice_get (unit_entities n us) i ≡ option_map (unit_entity (n + i)) (slice_get us i)
get_unit n [] i = refl
get_unit n (u ∷ us) zero = let e : n ≡ n + 0 = omega arith in ap (λ k. Some (unit_entity k u)) e
get_unit n (u ∷ us) (suc i) =
    let e : n + 1 + i ≡ n + suc i = omega arith in
    get_unit (n + 1) us i ∙ ap (λ k. option_map (unit_entity k) (slice_get us i)) e

get_module : (n : ℕ) (ms : List tree_module.Module) (i : ℕ) → slice_get (module_entities n ms) i ≡ option_map (λ m. module_entity (n + i)) (slice_get ms i)
get_module n [] i = refl
get_module n (m ∷ ms) zero = let e : n ≡ n + 0 = omega arith in ap (λ k. Some (module_entity k)) e
get_module n (m ∷ ms) (suc i) =
    let e : n + 1 + i ≡ n + suc i = omega arith in
    get_module (n + 1) ms i ∙ ap (λ k. option_map (λ a. module_entity k) (slice_get ms i)) e

get_table : (n : ℕ) (ms : List tree_module.Module) (i : ℕ) → slice_get (module_tables n ms) i ≡ option_map (λ m. table_of (home.Module (n + i)) (columns_of None) m.decls) (slice_get ms i)
get_table n [] i = refl
get_table n (m ∷ ms) zero = let e : n ≡ n + 0 = omega arith in ap (λ k. Some (table_of (home.Module k) (columns_of None) m.decls)) e
get_table n (m ∷ ms) (suc i) =
    let e : n + 1 + i ≡ n + suc i = omega arith in
    get_table (n + 1) ms i ∙ ap (λ k. option_map (λ a. table_of (home.Module k) (columns_of None) a.decls) (slice_get ms i)) e

-- ---- declarations

module _ (at : Home) (columns : Text → Bool) (ds : List Decl) (x : Text) where
  pub decl_found : table_find (table_of at columns ds) x ≡ first_decl at columns ds x
  decl_found = ap (option_and_then (slice_get (decl_entities at columns 0 ds))) (named_place (λ d. d.name) ds x) ∙ go (position test ds) refl
    where
      test : Decl → Bool
      test d = bytes_eq d.name x

      go : (o : Option ℕ) → position (λ d. bytes_eq d.name x) ds ≡ o → option_and_then (slice_get (decl_entities at columns 0 ds)) o ≡ option_and_then (λ i. option_map (decl_entity at (columns x) i) (slice_get ds i)) o
      go None e = refl
      go (Some i) e =
          let p = passing (λ (d : Decl). bytes_eq d.name x) ds i e in
          let zero_more : 0 + i ≡ i = omega arith in
          get_decl at columns 0 ds i ∙ ap (λ k. option_map (λ d. decl_entity at (columns d.name) k d) (slice_get ds i)) zero_more
          ∙ ap (option_map (λ d. decl_entity at (columns d.name) i d)) p.is
          ∙ ap (λ y. Some (decl_entity at (columns y) i p.item)) (equal_names p.item.name x p.passes)
          ∙ sym (ap (option_map (decl_entity at (columns x) i)) p.is)

-- ---- units

same_number : (a b : Option ℕ) → same_host a b ≡ same_host b a
same_number None None = refl
same_number None (Some b) = refl
same_number (Some a) None = refl
same_number (Some a) (Some b) = eqb_symm a b
  where
    eqb_symm : (a b : ℕ) → nat_eq a b ≡ nat_eq b a
    eqb_symm a b = grind (arith, nat_tests)

pub unit_place : (us : List tree_unit.Unit) (host : Option ℕ) (x : Text) → position (same_key (host, x)) (map key_of us) ≡ position (λ u. same_host u.host host && bytes_eq u.name x) us
unit_place us host x =
    position_map (same_key (host, x)) key_of us
    ∙ position_by (λ u. same_key (host, x) (key_of u)) (λ u. same_host u.host host && bytes_eq u.name x) us
    (λ u i. same_number host u.host i && either_way x u.name i)

pub unit_found : (f : File) (host : Option ℕ) (x : Text) → unit_find (declared_of f) host x ≡ first_unit f host x
unit_found f host x =
    ap (option_and_then (slice_get (unit_entities 0 f.units))) (unit_place f.units host x) ∙ go (position (λ u. same_host u.host host && bytes_eq u.name x) f.units)
  where
    go : (o : Option ℕ) → option_and_then (slice_get (unit_entities 0 f.units)) o ≡ option_and_then (λ i. option_map (unit_entity i) (slice_get f.units i)) o
    go None = refl
    go (Some i) =
        let zero_more : 0 + i ≡ i = omega arith in
        get_unit 0 f.units i ∙ ap (λ k. option_map (unit_entity k) (slice_get f.units i)) zero_more

-- ---- modules

pub number_is : (f : File) (x : Text) → position (bytes_eq x) (map (λ m. m.name) f.modules) ≡ module_number f x
number_is f x = named_place (λ (m : tree_module.Module). m.name) f.modules x

pub module_found : (f : File) (x : Text) → module_find (declared_of f) x ≡ option_map module_entity (module_number f x)
module_found f x = ap (option_and_then (slice_get (module_entities 0 f.modules))) (number_is f x) ∙ go (module_number f x) refl
  where
    go : (o : Option ℕ) → module_number f x ≡ o → option_and_then (slice_get (module_entities 0 f.modules)) o ≡ option_map module_entity o
    go None e = refl
    go (Some i) e =
        let p = passing (λ (m : tree_module.Module). bytes_eq m.name x) f.modules i e in
        let zero_more : 0 + i ≡ i = omega arith in
        get_module 0 f.modules i ∙ ap (λ k. option_map (λ m. module_entity k) (slice_get f.modules i)) zero_more ∙ ap (option_map (λ m. module_entity i)) p.is

pub in_module_found : (f : File) (n : ℕ) (x : Text) → declared_in (declared_of f) n x ≡ in_module f n x
in_module_found f n x =
    ap (option_and_then (λ t. or_other (table_find t x) (unit_find (declared_of f) (Some n) x))) (get_table 0 f.modules n) ∙ go (slice_get f.modules n)
  where
    go : (o : Option tree_module.Module)
        → option_and_then (λ t. or_other (table_find t x) (unit_find (declared_of f) (Some n) x)) (option_map (λ m. table_of (home.Module (0 + n)) (columns_of None) m.decls) o)
        ≡ declared_by f n o x
    go None = refl
    go (Some m) =
        let zero_more : 0 + n ≡ n = omega arith in
        ap (λ k. or_other (table_find (table_of (home.Module k) (columns_of None) m.decls) x) (unit_find (declared_of f) (Some n) x)) zero_more
        ∙ (λ i. or_other (decl_found (home.Module n) (columns_of None) m.decls x i) (unit_found f (Some n) x i))

-- ---- which names are found

some_and_get : {X Y : Type 0} (p : X → Bool) (g : ℕ → X → Y) (xs : List X) → is_some (option_and_then (λ i. option_map (g i) (slice_get xs i)) (position p xs)) ≡ is_some (position p xs)
some_and_get {X} {Y} p g xs = go (position p xs) refl
  where
    go : (o : Option ℕ) → position p xs ≡ o → is_some (option_and_then (λ i. option_map (g i) (slice_get xs i)) o) ≡ is_some o
    go None e = refl
    go (Some i) e = ap (λ a. is_some (option_map (g i) a)) (passing p xs i e).is

pub some_decl : (at : Home) (columns : Text → Bool) (ds : List Decl) (x : Text) → is_some (first_decl at columns ds x) ≡ is_some (position (λ d. bytes_eq d.name x) ds)
some_decl at columns ds x = some_and_get (λ d. bytes_eq d.name x) (λ i. decl_entity at (columns x) i) ds

pub some_unit : (f : File) (host : Option ℕ) (x : Text) → is_some (first_unit f host x) ≡ is_some (position (λ u. same_host u.host host && bytes_eq u.name x) f.units)
some_unit f host x = some_and_get (λ (u : tree_unit.Unit). same_host u.host host && bytes_eq u.name x) unit_entity f.units
