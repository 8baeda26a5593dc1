-- Rows of origins: the module that the definition names is the one of the number in the row.
use Rattle.std.proofs.Common.{◌≡◌, ℕ, zero, suc, ◌+◌, Bool, true, false, ◌&&◌, ◌||◌, List, [], ◌∷◌, map, length, Option, None, Some, is_some, refl, sym, ap, ◌∙◌, subst, arith, if◌then◌else◌}
use Rattle.std.specs.List.{position, slice_get}
use Rattle.std.specs.Option.{option_map, option_and_then}
use Rattle.std.specs.Str.{bytes_eq}
use Rattle.fort_tree.specs.declared.unit.Decl.{Decl}
use Rattle.fort_tree.specs.declared.unit.File.{File}
use Rattle.fort_tree.specs.declared.unit.Module as tree_module
use Rattle.fort_tree.specs.declared.unit.Unit as tree_unit
use Rattle.fort_tree.specs.declared.unit.Use.{Use}
use Rattle.claw_meaning.specs.Syntax as plain
use Rattle.claw_meaning.specs.Syntax.{Text}
use Rattle.claw_meaning.specs.Plain.{plain_use}
use Rattle.claw_meaning.specs.Scope.{decl_named, unit_within, module_at, brings, same_host}
use Rattle.sound_programs.specs.Placed.{bare_use, bare_decl, bare_unit, bare_module, bare_program}
use Rattle.sound_programs.specs.Placing.{placed, placed_decl, placed_unit, placed_module}
use Rattle.sound_programs.specs.Scopes.{or_other, declares, origin_used, origin_in, origin_within, origin}
use Rattle.fort_names.specs.declared.homes.Declared.{Declared}
use Rattle.fort_names.specs.declared.entity.Home.TheVariants as home
use Rattle.fort_names.specs.Entities.{first_decl, first_unit, declared_by, module_number}
use Rattle.fort_names.specs.Tables.{columns_of, declared_of, declared_in, at_number, origin_by_name, lines_origin, module_origin, next_row, nowhere, rounds, origins}
use Rattle.fort_names.proofs.Places.{position_map, passing, some_position, some_find, any_map, get_map, length_map}
use Rattle.fort_names.proofs.Tabled.{equal_names, number_is, in_module_found, some_decl, some_unit}

some_or : {A : Type 0} (a b : Option A) → is_some (or_other a b) ≡ (is_some a || is_some b)
some_or None b = refl
some_or (Some x) b = refl

-- ---- what a module of the plain tree declares

pub some_named : (ds : List Decl) (x : Text) → is_some (decl_named (map bare_decl (map placed_decl ds)) x) ≡ is_some (position (λ d. bytes_eq d.name x) ds)
some_named ds x =
    some_find (λ (d : plain.Decl). bytes_eq d.name x) (map bare_decl (map placed_decl ds))
    ∙ any_map (λ (d : plain.Decl). bytes_eq d.name x) bare_decl (map placed_decl ds)
    ∙ any_map (λ d. bytes_eq (bare_decl d).name x) placed_decl ds
    ∙ sym (some_position (λ (d : Decl). bytes_eq d.name x) ds)

pub some_within : (f : File) (host : Option ℕ) (x : Text) → is_some (unit_within (bare_program (placed f)) host x) ≡ is_some (position (λ u. same_host u.host host && bytes_eq u.name x) f.units)
some_within f host x =
    some_find (λ (u : plain.Unit). same_host u.host host && bytes_eq u.name x) (map bare_unit (map placed_unit f.units))
    ∙ any_map (λ (u : plain.Unit). same_host u.host host && bytes_eq u.name x) bare_unit (map placed_unit f.units)
    ∙ any_map (λ u. same_host (bare_unit u).host host && bytes_eq (bare_unit u).name x) placed_unit f.units
    ∙ sym (some_position (λ (u : tree_unit.Unit). same_host u.host host && bytes_eq u.name x) f.units)

module _ (f : File) (x : Text) where
  declares_is : (n : ℕ) (m : tree_module.Module) → slice_get f.modules n ≡ Some m
      → declares (bare_program (placed f)) (Some n) (bare_module (placed_module m)) x ≡ is_some (declared_in (declared_of f) n x)
  declares_is n m e =
      (λ i. some_named m.decls x i || some_within f (Some n) x i)
      ∙ (λ i. sym (some_decl (home.Module n) (columns_of None) m.decls x) i || sym (some_unit f (Some n) x) i)
      ∙ sym (some_or (first_decl (home.Module n) (columns_of None) m.decls x) (first_unit f (Some n) x))
      ∙ sym (ap is_some (in_module_found f n x ∙ ap (λ o. declared_by f n o x) e))

-- the module and the number are one and it declares the name, or there are none
pub data Same (f : File) (x : Text) : Option Text → Option ℕ → Type 0 where
  neither : Same f x None None
  both : (m : Text) (n : ℕ) → module_number f m ≡ Some n → is_some (declared_in (declared_of f) n x) ≡ true → Same f x (Some m) (Some n)

pub same_or : {f : File} {x : Text} {a b : Option Text} {c d : Option ℕ} → Same f x a c → Same f x b d → Same f x (or_other a b) (or_other c d)
same_or neither h = h
same_or (both m n e declared) h = both m n e declared

pub q_number : (f : File) (m : Text) → position (λ d. bytes_eq d.name m) (bare_program (placed f)).modules ≡ module_number f m
q_number f m =
    position_map (λ (d : plain.Module). bytes_eq d.name m) bare_module (map placed_module f.modules)
    ∙ position_map (λ d. bytes_eq (bare_module d).name m) placed_module f.modules

map_twice : {A B C : Type 0} (g : B → C) (h : A → B) (o : Option A) → option_map g (option_map h o) ≡ option_map (λ a. g (h a)) o
map_twice g h None = refl
map_twice g h (Some a) = refl

pub q_module : (f : File) (n : ℕ) → module_at (bare_program (placed f)) (Some n) ≡ option_map (λ m. bare_module (placed_module m)) (slice_get f.modules n)
q_module f n =
    get_map bare_module (map placed_module f.modules) n ∙ ap (option_map bare_module) (get_map placed_module f.modules n)
    ∙ map_twice bare_module placed_module (slice_get f.modules n)

-- ---- rows

get_row : (d : Declared) (n : ℕ) (ms : List tree_module.Module) (row : List (Option ℕ)) (x : Text) (i : ℕ) → slice_get (next_row d n ms row x) i ≡ option_map (module_origin d row x (n + i)) (slice_get ms i)
get_row d n [] row x i = refl
get_row d n (m ∷ ms) row x zero = let e : n ≡ n + 0 = omega arith in ap (λ k. Some (module_origin d row x k m)) e
get_row d n (m ∷ ms) row x (suc i) =
    let e : n + 1 + i ≡ n + suc i = omega arith in
    get_row d (n + 1) ms row x i ∙ ap (λ k. option_map (module_origin d row x k) (slice_get ms i)) e

pub row_at : (d : Declared) (ms : List tree_module.Module) (row : List (Option ℕ)) (x : Text) (i : ℕ) → at_number (next_row d 0 ms row x) i ≡ option_and_then (module_origin d row x i) (slice_get ms i)
row_at d ms row x i = ap (option_and_then (λ o. o)) (get_row d 0 ms row x i) ∙ go (slice_get ms i)
  where
    go : (o : Option tree_module.Module) → option_and_then (λ o'. o') (option_map (module_origin d row x (0 + i)) o) ≡ option_and_then (module_origin d row x i) o
    go None = refl
    go (Some m) = let e : 0 + i ≡ i = omega arith in ap (λ k. module_origin d row x k m) e

nothing_at_first : (ms : List tree_module.Module) (i : ℕ) → at_number (nowhere ms) i ≡ None
nothing_at_first [] i = refl
nothing_at_first (m ∷ ms) zero = refl
nothing_at_first (m ∷ ms) (suc i) = nothing_at_first ms i

pub same_lines : (f : File) (x : Text) (row : List (Option ℕ)) (g : Text → Text → Option Text) → ((m : Text) → Same f x (g m x) (origin_by_name (declared_of f).names row m)) → (us : List Use)
    → Same f x (origin_used g (map bare_use us) x) (lines_origin (declared_of f).names row us x)
same_lines f x row g each [] = neither
same_lines f x row g each (u ∷ us) = same_or (go (brings (plain_use u) x)) (same_lines f x row g each us)
  where
    go : (b : Bool) → Same f x (if b then g u.name x else None) (if b then origin_by_name (declared_of f).names row u.name else None)
    go true = each u.name
    go false = neither

module _ (f : File) (x : Text) where
  by_number : (row : List (Option ℕ)) (m : Text) → origin_by_name (declared_of f).names row m ≡ option_and_then (at_number row) (module_number f m)
  by_number row m = ap (option_and_then (at_number row)) (number_is f m)

  first_round : (m : Text) → Same f x (origin_within (bare_program (placed f)) 0 m x) (origin_by_name (declared_of f).names (nowhere f.modules) m)
  first_round m = subst (Same f x None) (sym (by_number (nowhere f.modules) m ∙ go (module_number f m))) neither
    where
      go : (o : Option ℕ) → option_and_then (at_number (nowhere f.modules)) o ≡ None
      go None = refl
      go (Some n) = nothing_at_first f.modules n

  one_further : (k : ℕ) (row : List (Option ℕ)) → ((m : Text) → Same f x (origin_within (bare_program (placed f)) k m x) (origin_by_name (declared_of f).names row m)) → (m : Text)
      → Same f x (origin_within (bare_program (placed f)) (suc k) m x) (origin_by_name (declared_of f).names (next_row (declared_of f) 0 f.modules row x) m)
  one_further k row before m =
      subst (Same f x (origin_within (bare_program (placed f)) (suc k) m x)) (sym (by_number (next_row (declared_of f) 0 f.modules row x) m))
      (subst (λ o. Same f x (origin_in (bare_program (placed f)) o (module_at (bare_program (placed f)) o) (origin_within (bare_program (placed f)) k) x)
      (option_and_then (at_number (next_row (declared_of f) 0 f.modules row x)) (module_number f m))) (sym (q_number f m)) (go (module_number f m) refl))
    where
      go : (o : Option ℕ) → module_number f m ≡ o
          → Same f x (origin_in (bare_program (placed f)) o (module_at (bare_program (placed f)) o) (origin_within (bare_program (placed f)) k) x) (option_and_then (at_number (next_row (declared_of f) 0 f.modules row x)) o)
      go None e = neither
      go (Some n) e =
          let p = passing (λ (a : tree_module.Module). bytes_eq a.name m) f.modules n e in
          let named : p.item.name ≡ m = equal_names p.item.name m p.passes in
          let numbered : module_number f p.item.name ≡ Some n = ap (module_number f) named ∙ e in
          let here : module_at (bare_program (placed f)) (Some n) ≡ Some (bare_module (placed_module p.item)) =
          q_module f n ∙ ap (option_map (λ a. bare_module (placed_module a))) p.is in
          let step : at_number (next_row (declared_of f) 0 f.modules row x) n ≡ module_origin (declared_of f) row x n p.item =
          row_at (declared_of f) f.modules row x n ∙ ap (option_and_then (module_origin (declared_of f) row x n)) p.is in
          subst (Same f x (origin_in (bare_program (placed f)) (Some n) (module_at (bare_program (placed f)) (Some n)) (origin_within (bare_program (placed f)) k) x)) (sym step)
          (subst (λ a. Same f x (origin_in (bare_program (placed f)) (Some n) a (origin_within (bare_program (placed f)) k) x) (module_origin (declared_of f) row x n p.item)) (sym here)
          (subst (λ b. Same f x (if b then Some p.item.name else origin_used (origin_within (bare_program (placed f)) k) (map bare_use p.item.uses) x) (module_origin (declared_of f) row x n p.item))
          (sym (declares_is f x n p.item p.is))
          (by p.item (is_some (declared_in (declared_of f) n x)) refl numbered)))
        where
          by : (a : tree_module.Module) (b : Bool) → is_some (declared_in (declared_of f) n x) ≡ b → module_number f a.name ≡ Some n
              → Same f x (if b then Some a.name else origin_used (origin_within (bare_program (placed f)) k) (map bare_use a.uses) x)
              (if b then Some n else lines_origin (declared_of f).names row a.uses x)
          by a true h numbered = both a.name n numbered h
          by a false h numbered = same_lines f x row (origin_within (bare_program (placed f)) k) before a.uses

  each_round : (k : ℕ) (m : Text) → Same f x (origin_within (bare_program (placed f)) k m x) (origin_by_name (declared_of f).names (rounds (declared_of f) f.modules k x) m)
  each_round zero m = first_round m
  each_round (suc k) m = one_further k (rounds (declared_of f) f.modules k x) (each_round k) m

  pub origins_same : (m : Text) → Same f x (origin (bare_program (placed f)) m x) (origin_by_name (declared_of f).names (origins (declared_of f) f.modules x) m)
  origins_same m =
      let same_length : length (bare_program (placed f)).modules ≡ length f.modules = length_map bare_module (map placed_module f.modules) ∙ length_map placed_module f.modules in
      subst (λ k. Same f x (origin_within (bare_program (placed f)) (suc k) m x) (origin_by_name (declared_of f).names (origins (declared_of f) f.modules x) m)) (sym same_length)
      (each_round (suc (length f.modules)) m)
