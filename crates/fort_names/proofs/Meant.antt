-- What is found under a name is what the name means in the program of the file.
use Rattle.std.proofs.Common.{◌≡◌, ℕ, zero, suc, Bool, true, false, ◌&&◌, ◌||◌, cond, List, [], ◌∷◌, map, length, Option, None, Some, is_some, refl, sym, ap, ◌∙◌, subst}
use Rattle.std.specs.List.{position, find, slice_get}
use Rattle.std.specs.Option.{option_map, option_and_then}
use Rattle.std.specs.Str.{bytes_eq}
use Rattle.std.proofs.lemmas.Bool.{false≢true}
use Rattle.fort_tree.specs.declared.expr.Expr.{Expr}
use Rattle.fort_tree.specs.declared.unit.Decl.{Decl}
use Rattle.fort_tree.specs.declared.unit.File.{File}
use Rattle.fort_tree.specs.declared.unit.Module as tree_module
use Rattle.fort_tree.specs.declared.unit.Unit as tree_unit
use Rattle.claw_meaning.specs.Plain.{plain_expr, plain_decl, plain_unit, plain_module, plain_file, plain_use}
use Rattle.claw_meaning.specs.Scope.{Entity as Meant, Unknown, Variable, Constant, Procedure, or_else, entity_of, procedure_of, decl_named, unit_within, brings, used, given_by, module_at, gives, module_gives, host_gives, visible, same_host}
use Rattle.claw_meaning.specs.Syntax as plain
use Rattle.claw_meaning.specs.Syntax.{Text}
use Rattle.claw_meaning.specs.Units.{is_column_dummy}
use Rattle.sound_programs.specs.Placed.{bare_program}
use Rattle.sound_programs.specs.Placing.{placed, placed_unit, placed_module}
use Rattle.sound_programs.specs.Scopes.{Of_unit, Of_module, is_known, or_other, entity_in, visible_in_module, declares, origin_used, origin_in, origin_within, origin}
use Rattle.sound_programs.specs.Visible.{origin_of_host}
use Rattle.sound_programs.proofs.BareTrees.{unit_bare, placed_is_plain}
use Rattle.sound_programs.proofs.Origins.{known_or_else, known_decl, known_procedure}
use Rattle.fort_names.specs.declared.entity.Entity.{Entity}
use Rattle.fort_names.specs.declared.entity.Home.{Home}
use Rattle.fort_names.specs.declared.entity.Home.TheVariants as home
use Rattle.fort_names.specs.declared.spot.Spot.{Spot}
use Rattle.fort_names.specs.declared.spot.Spot.TheVariants.{InUnit, InModule}
use Rattle.fort_names.specs.Entities.{sort_of, decl_entity, unit_entity, module_entity, first_decl, first_unit, module_number, declared_by, in_module, in_unit, entity_in_unit}
use Rattle.fort_names.specs.Finding.{origin_found, found_outside}
use Rattle.fort_names.specs.Meanings.{name_of_home, variable_of, of_sort, meant}
use Rattle.fort_names.specs.Scoping.{host_number}
use Rattle.fort_names.specs.Sharing.{shared_of, row_of}
use Rattle.fort_names.specs.Sights.{means}
use Rattle.fort_names.specs.Spots.{own_name, seeing, entity_at}
use Rattle.fort_names.specs.Tables.{declared_of, declared_in, unit_find, module_find, origin_by_name}
use Rattle.fort_names.proofs.Places.{place, place_is, passing, position_map, some_position, some_find, any_map, get_map}
use Rattle.fort_names.proofs.Tabled.{equal_names, unit_found, module_found, in_module_found, some_decl, some_unit}
use Rattle.fort_names.proofs.Given.{Same, neither, both, same_or, same_lines}
use Rattle.fort_names.proofs.Covering.{stored_same}
use Rattle.fort_names.proofs.Seeing.{unit_form, host_same}

-- ---- lists

-- what a test finds stands at the first place where it passes
found_at_place : {X : Type 0} (p : X → Bool) (xs : List X) → find p xs ≡ option_and_then (slice_get xs) (place p xs)
found_at_place p [] = refl
found_at_place {X} p (x ∷ xs) = go (p x) (place p xs) (found_at_place p xs)
  where
    go : (b : Bool) (o : Option ℕ) → find p xs ≡ option_and_then (slice_get xs) o
        → cond b (Some x) (find p xs) ≡ option_and_then (slice_get (x ∷ xs)) (cond b (Some 0) (option_map suc o))
    go true o h = refl
    go false None h = h
    go false (Some k) h = h

pub find_is : {X : Type 0} (p : X → Bool) (xs : List X) → find p xs ≡ option_and_then (slice_get xs) (position p xs)
find_is p xs = found_at_place p xs ∙ ap (option_and_then (slice_get xs)) (sym (place_is p xs))

pub find_map : {X Y : Type 0} (p : Y → Bool) (g : X → Y) (xs : List X) → find p (map g xs) ≡ option_map g (find (λ x. p (g x)) xs)
find_map p g [] = refl
find_map {X} {Y} p g (x ∷ xs) = go (p (g x)) (find_map p g xs)
  where
    go : (b : Bool) → find p (map g xs) ≡ option_map g (find (λ y. p (g y)) xs)
        → cond b (Some (g x)) (find p (map g xs)) ≡ option_map g (cond b (Some x) (find (λ y. p (g y)) xs))
    go true h = refl
    go false h = h

-- ---- entities

pub or_else_group : (a b c : Meant) → or_else (or_else a b) c ≡ or_else a (or_else b c)
or_else_group Unknown b c = refl
or_else_group (Variable home d) b c = refl
or_else_group (Constant d) b c = refl
or_else_group (Procedure v) b c = refl

or_nothing : (a : Meant) → or_else a Unknown ≡ a
or_nothing Unknown = refl
or_nothing (Variable home d) = refl
or_nothing (Constant d) = refl
or_nothing (Procedure v) = refl

known_first : (a b : Meant) → is_known a ≡ true → or_else a b ≡ a
known_first Unknown b e = absurd (false≢true e)
known_first (Variable home d) b e = refl
known_first (Constant d) b e = refl
known_first (Procedure v) b e = refl

unknown_is : (a : Meant) → is_known a ≡ false → a ≡ Unknown
unknown_is Unknown e = refl
unknown_is (Variable home d) e = absurd (false≢true (sym e))
unknown_is (Constant d) e = absurd (false≢true (sym e))
unknown_is (Procedure v) e = absurd (false≢true (sym e))

-- ---- what a module declares

module _ (q : plain.Program) (x : Text) where
  -- what the module declares itself
  abbrev pub given_here : Option ℕ → Option plain.Module → Meant
  given_here number None = Unknown
  given_here number (Some host) = or_else (entity_of host.name (decl_named host.decls x)) (procedure_of (unit_within q number x))

  abbrev pub number_of : Text → Option ℕ
  number_of m = position (λ d. bytes_eq d.name m) q.modules

  -- what the first module of the name declares
  abbrev pub declared_at : Text → Meant
  declared_at m = given_here (number_of m) (module_at q (number_of m))

  -- it is what the module of the name declares, or there are neither
  pub data Comes : Meant → Option Text → Type 0 where
    from_nothing : Comes Unknown None
    from_module : (m : Text) → is_known (declared_at m) ≡ true → Comes (declared_at m) (Some m)

  pub comes_or : {a b : Meant} {c d : Option Text} → Comes a c → Comes b d → Comes (or_else a b) (or_other c d)
  comes_or from_nothing h = h
  comes_or {a} {b} (from_module m known) h = subst (λ e. Comes e (Some m)) (sym (known_first (declared_at m) b known)) (from_module m known)

  pub comes_used : (g : Text → Text → Meant) (o : Text → Text → Option Text) → ((m : Text) → Comes (g m x) (o m x)) → (us : List plain.Use) → Comes (used g us x) (origin_used o us x)
  comes_used g o each [] = from_nothing
  comes_used g o each (u ∷ us) = comes_or (go (brings u x)) (comes_used g o each us)
    where
      go : (b : Bool) → Comes (cond b (g u.name x) Unknown) (cond b (o u.name x) None)
      go true = each u.name
      go false = from_nothing

  -- where the module is the first of its name
  own_first : (n : ℕ) (host : plain.Module) → number_of host.name ≡ Some n → slice_get q.modules n ≡ Some host → declared_at host.name ≡ given_here (Some n) (Some host)
  own_first n host numbered is = ap (λ o. given_here o (module_at q o)) numbered ∙ ap (given_here (Some n)) is

  known_here : (n : ℕ) (host : plain.Module) → is_known (given_here (Some n) (Some host)) ≡ declares q (Some n) host x
  known_here n host =
      known_or_else (entity_of host.name (decl_named host.decls x)) (procedure_of (unit_within q (Some n) x))
      ∙ (λ i. known_decl host.name (decl_named host.decls x) i || known_procedure (unit_within q (Some n) x) i)

  -- the module declares it, or else its USE lines bring it
  comes_host : (n : ℕ) (host : plain.Module) (g : Text → Text → Meant) (o : Text → Text → Option Text) → ((m : Text) → Comes (g m x) (o m x))
      → number_of host.name ≡ Some n → slice_get q.modules n ≡ Some host → Comes (given_by q (Some n) (Some host) g x) (origin_in q (Some n) (Some host) o x)
  comes_host n host g o each numbered is =
      subst (λ e. Comes e (origin_in q (Some n) (Some host) o x))
      (or_else_group (entity_of host.name (decl_named host.decls x)) (procedure_of (unit_within q (Some n) x)) (used g host.uses x))
      (go (declares q (Some n) host x) refl)
    where
      go : (b : Bool) → declares q (Some n) host x ≡ b
          → Comes (or_else (given_here (Some n) (Some host)) (used g host.uses x)) (cond b (Some host.name) (origin_used o host.uses x))
      go true e =
          let known : is_known (given_here (Some n) (Some host)) ≡ true = known_here n host ∙ e in
          subst (λ a. Comes a (Some host.name))
          (own_first n host numbered is ∙ sym (known_first (given_here (Some n) (Some host)) (used g host.uses x) known))
          (from_module host.name (ap is_known (own_first n host numbered is) ∙ known))
      go false e =
          subst (λ a. Comes (or_else a (used g host.uses x)) (origin_used o host.uses x))
          (sym (unknown_is (given_here (Some n) (Some host)) (known_here n host ∙ e)))
          (comes_used g o each host.uses)

  comes_further : (g : Text → Text → Meant) (o : Text → Text → Option Text) → ((m : Text) → Comes (g m x) (o m x)) → (m : Text)
      → Comes (given_by q (number_of m) (module_at q (number_of m)) g x) (origin_in q (number_of m) (module_at q (number_of m)) o x)
  comes_further g o each m = go (number_of m) refl
    where
      go : (a : Option ℕ) → number_of m ≡ a → Comes (given_by q a (module_at q a) g x) (origin_in q a (module_at q a) o x)
      go None e = from_nothing
      go (Some n) e =
          let p = passing (λ (d : plain.Module). bytes_eq d.name m) q.modules n e in
          let named : p.item.name ≡ m = equal_names p.item.name m p.passes in
          let numbered : number_of p.item.name ≡ Some n = ap number_of named ∙ e in
          subst (λ a. Comes (given_by q (Some n) a g x) (origin_in q (Some n) a o x)) (sym p.is) (comes_host n p.item g o each numbered p.is)

  comes_gives : (k : ℕ) (m : Text) → Comes (gives q k m x) (origin_within q k m x)
  comes_gives zero m = from_nothing
  comes_gives (suc k) m = comes_further (gives q k) (origin_within q k) (comes_gives k) m

  pub comes_module : (m : Text) → Comes (module_gives q m x) (origin q m x)
  comes_module m = comes_gives (suc (length q.modules)) m

  pub comes_around : (host : Option plain.Module) → Comes (host_gives q host x) (origin_of_host q host x)
  comes_around None = from_nothing
  comes_around (Some host) = comes_module host.name

-- ---- the file's entities

module _ (f : File) (own : Text) where
  -- a first entity that means something hides the second
  meant_or : (a b : Option Entity) → is_known (meant f own a) ≡ is_some a → meant f own (or_other a b) ≡ or_else (meant f own a) (meant f own b)
  meant_or None b e = refl
  meant_or (Some a) b e = sym (known_first (meant f own (Some a)) (meant f own b) e)

  module _ (x : Text) where
    meant_decl_at : (at : Home) (h : Text) (c : Bool) (i : ℕ) → name_of_home f own at ≡ Some h → (o : Option Decl)
        → meant f own (option_map (decl_entity at c i) o) ≡ entity_of h (option_map plain_decl o)
    meant_decl_at at h c i e None = refl
    meant_decl_at at h c i e (Some d) = go d.value
      where
        go : (v : Option Expr) → of_sort f own (decl_entity at c i d) (sort_of v) ≡ cond (is_some (option_map plain_expr v)) (Constant (plain_decl d)) (Variable h (plain_decl d))
        go None = ap (λ o. variable_of o (Some d)) e
        go (Some v) = refl

    meant_decl : (at : Home) (h : Text) (columns : Text → Bool) (ds : List Decl) → name_of_home f own at ≡ Some h
        → meant f own (first_decl at columns ds x) ≡ entity_of h (decl_named (map plain_decl ds) x)
    meant_decl at h columns ds e =
        go (position (λ d. bytes_eq d.name x) ds)
        ∙ ap (λ o. entity_of h (option_map plain_decl o)) (sym (find_is (λ (d : Decl). bytes_eq d.name x) ds))
        ∙ ap (entity_of h) (sym (find_map (λ (d : plain.Decl). bytes_eq d.name x) plain_decl ds))
      where
        go : (o : Option ℕ)
            → meant f own (option_and_then (λ i. option_map (decl_entity at (columns x) i) (slice_get ds i)) o)
            ≡ entity_of h (option_map plain_decl (option_and_then (slice_get ds) o))
        go None = refl
        go (Some i) = meant_decl_at at h (columns x) i e (slice_get ds i)

    known_first_decl : (at : Home) (h : Text) (columns : Text → Bool) (ds : List Decl) → name_of_home f own at ≡ Some h
        → is_known (meant f own (first_decl at columns ds x)) ≡ is_some (first_decl at columns ds x)
    known_first_decl at h columns ds e =
        ap is_known (meant_decl at h columns ds e)
        ∙ known_decl h (decl_named (map plain_decl ds) x)
        ∙ some_find (λ (d : plain.Decl). bytes_eq d.name x) (map plain_decl ds)
        ∙ any_map (λ (d : plain.Decl). bytes_eq d.name x) plain_decl ds
        ∙ sym (some_position (λ (d : Decl). bytes_eq d.name x) ds)
        ∙ sym (some_decl at columns ds x)

    meant_unit_at : (i : ℕ) (o : Option tree_unit.Unit) → slice_get f.units i ≡ o → meant f own (option_map (unit_entity i) o) ≡ procedure_of (option_map plain_unit o)
    meant_unit_at i None e = refl
    meant_unit_at i (Some u) e = ap (λ o. procedure_of (option_map plain_unit o)) e

    meant_unit : (host : Option ℕ) → meant f own (first_unit f host x) ≡ procedure_of (unit_within (plain_file f) host x)
    meant_unit host =
        go (position (λ u. same_host u.host host && bytes_eq u.name x) f.units)
        ∙ ap (λ o. procedure_of (option_map plain_unit o)) (sym (find_is (λ (u : tree_unit.Unit). same_host u.host host && bytes_eq u.name x) f.units))
        ∙ ap procedure_of (sym (find_map (λ (u : plain.Unit). same_host u.host host && bytes_eq u.name x) plain_unit f.units))
      where
        go : (o : Option ℕ)
            → meant f own (option_and_then (λ i. option_map (unit_entity i) (slice_get f.units i)) o)
            ≡ procedure_of (option_map plain_unit (option_and_then (slice_get f.units) o))
        go None = refl
        go (Some i) = meant_unit_at i (slice_get f.units i) refl

    known_first_unit : (host : Option ℕ) → is_known (meant f own (first_unit f host x)) ≡ is_some (first_unit f host x)
    known_first_unit host =
        ap is_known (meant_unit host)
        ∙ known_procedure (unit_within (plain_file f) host x)
        ∙ some_find (λ (u : plain.Unit). same_host u.host host && bytes_eq u.name x) (map plain_unit f.units)
        ∙ any_map (λ (u : plain.Unit). same_host u.host host && bytes_eq u.name x) plain_unit f.units
        ∙ sym (some_position (λ (u : tree_unit.Unit). same_host u.host host && bytes_eq u.name x) f.units)
        ∙ sym (some_unit f host x)

    -- what a module declares
    meant_in_module : (n : ℕ) (m : tree_module.Module) → slice_get f.modules n ≡ Some m → meant f own (in_module f n x) ≡ given_here (plain_file f) x (Some n) (Some (plain_module m))
    meant_in_module n m is =
        let here : name_of_home f own (home.Module n) ≡ Some m.name = ap (option_map (λ a. a.name)) is in
        ap (λ o. meant f own (declared_by f n o x)) is
        ∙ meant_or (first_decl (home.Module n) (λ y. false) m.decls x) (first_unit f (Some n) x) (known_first_decl (home.Module n) m.name (λ y. false) m.decls here)
        ∙ (λ i. or_else (meant_decl (home.Module n) m.name (λ y. false) m.decls here i) (meant_unit (Some n) i))

    -- the number of the module and its name
    number_in_file : (m : Text) → number_of (plain_file f) x m ≡ module_number f m
    number_in_file m = position_map (λ (d : plain.Module). bytes_eq d.name m) plain_module f.modules

    meant_origin : (m : Text) (n : ℕ) → module_number f m ≡ Some n → meant f own (declared_in (declared_of f) n x) ≡ declared_at (plain_file f) x m
    meant_origin m n e =
        let p = passing (λ (a : tree_module.Module). bytes_eq a.name m) f.modules n e in
        let there : slice_get (map plain_module f.modules) n ≡ Some (plain_module p.item) = get_map plain_module f.modules n ∙ ap (option_map plain_module) p.is in
        ap (meant f own) (in_module_found f n x)
        ∙ meant_in_module n p.item p.is
        ∙ sym (ap (λ o. given_here (plain_file f) x o (module_at (plain_file f) o)) (number_in_file m ∙ e) ∙ ap (given_here (plain_file f) x (Some n)) there)

    -- in the files: an external unit; a module's name means nothing
    meant_in_files : meant f own (or_other (unit_find (declared_of f) None x) (module_find (declared_of f) x)) ≡ procedure_of (unit_within (plain_file f) None x)
    meant_in_files =
        (λ i. meant f own (or_other (unit_found f None x i) (module_found f x i)))
        ∙ meant_or (first_unit f None x) (option_map module_entity (module_number f x)) (known_first_unit None)
        ∙ ap (or_else (meant f own (first_unit f None x))) (go (module_number f x))
        ∙ or_nothing (meant f own (first_unit f None x))
        ∙ meant_unit None
      where
        go : (o : Option ℕ) → meant f own (option_map module_entity o) ≡ Unknown
        go None = refl
        go (Some n) = refl

    -- what comes from outside the unit or module
    meant_outside : (e : Meant) (o : Option Text) (n : Option ℕ) → Comes (plain_file f) x e o → Same f x o n
        → meant f own (or_other (option_and_then (λ i. declared_in (declared_of f) i x) n) (or_other (unit_find (declared_of f) None x) (module_find (declared_of f) x)))
        ≡ or_else e (procedure_of (unit_within (plain_file f) None x))
    meant_outside e o n from_nothing neither = meant_in_files
    meant_outside e o n (from_module m known) (both k i numbered there) =
        let is : meant f own (declared_in (declared_of f) i x) ≡ declared_at (plain_file f) x k = meant_origin k i numbered in
        meant_or (declared_in (declared_of f) i x) (or_other (unit_find (declared_of f) None x) (module_find (declared_of f) x)) (ap is_known is ∙ known ∙ sym there)
        ∙ (λ j. or_else (is j) (meant_in_files j))

-- ---- units and modules

-- the relation of origins, over the plain tree of the file
over_plain : (f : File) (o : plain.Program → Option Text) (x : Text) (n : Option ℕ) → Same f x (o (bare_program (placed f))) n → Same f x (o (plain_file f)) n
over_plain f o x n h = subst (λ q. Same f x (o q) n) (placed_is_plain f) h

pub unit_means : (f : File) (u : tree_unit.Unit) (x : Text) → meant f u.name (entity_in_unit f u x) ≡ entity_in (bare_program (placed f)) (Of_unit (placed_unit u)) x
unit_means f u x =
    let q = plain_file f in
    let host = host_number f.modules (declared_of f).names u.host in
    let gives_used = used (module_gives q) (map plain_use u.uses) x in
    let gives_host = host_gives q (module_at q u.host) x in
    let outside = found_outside (shared_of f) u.uses host x in
    ap (meant f u.name) (sym (unit_form f u x))
    ∙ meant_or f u.name (in_unit u x) outside (known_first_decl f u.name x home.Local u.name (is_column_dummy (plain_unit u)) u.decls refl)
    ∙ (λ i. or_else (meant_decl f u.name x home.Local u.name (is_column_dummy (plain_unit u)) u.decls refl i)
    (meant_outside f u.name x (or_else gives_used gives_host)
    (or_other (origin_used (origin q) (map plain_use u.uses) x) (origin_of_host q (module_at q u.host) x))
    (origin_found (shared_of f) u.uses host x)
    (comes_or q x (comes_used q x (module_gives q) (origin q) (comes_module q x) (map plain_use u.uses)) (comes_around q x (module_at q u.host)))
    (over_plain f (λ p. or_other (origin_used (origin p) (map plain_use u.uses) x) (origin_of_host p (module_at p u.host) x)) x (origin_found (shared_of f) u.uses host x)
    (same_or (same_lines f x (row_of (shared_of f) x) (origin (bare_program (placed f))) (stored_same f x) u.uses) (host_same f x u.host))) i))
    ∙ ap (or_else (entity_of u.name (decl_named (map plain_decl u.decls) x))) (or_else_group gives_used gives_host (procedure_of (unit_within q None x)))
    ∙ sym (λ i. visible (placed_is_plain f i) (unit_bare u i) x)

pub module_means : (f : File) (n : ℕ) (m : tree_module.Module) (x : Text)
    → meant f m.name (found_outside (shared_of f) [] (position (bytes_eq m.name) (shared_of f).declared.names) x) ≡ entity_in (bare_program (placed f)) (Of_module n (placed_module m)) x
module_means f n m x =
    meant_outside f m.name x (module_gives (plain_file f) m.name x) (origin (plain_file f) m.name x)
    (origin_by_name (declared_of f).names (row_of (shared_of f) x) m.name)
    (comes_module (plain_file f) x m.name)
    (over_plain f (λ p. origin p m.name x) x (origin_by_name (declared_of f).names (row_of (shared_of f) x) m.name) (stored_same f x m.name))
    ∙ sym (ap (λ p. visible_in_module p m.name x) (placed_is_plain f))

-- what the entity of the tables means is what the name means
pub entity_means : (f : File) (at : Spot) (x : Text) → meant f (own_name at) (entity_at f at x) ≡ means (seeing f at) x
unfolding means
entity_means f (InUnit c u) x = unit_means f u.now x
entity_means f (InModule n m) x = module_means f n m.now x
