-- The places of writes in a unit itself.
use Rattle.std.proofs.Common.{◌≡◌, Bool, true, false, ◌&&◌, cond, List, [], ◌∷◌, ◌++◌, map, Option, Some, None, refl, sym, ap, ◌∙◌}
use Rattle.std.specs.Prelude.{flat_map, is_some, not, if◌then◌else◌}
use Rattle.std.specs.List.{filter}
use Rattle.std.specs.Option.{option_to_list}
use Rattle.std.proofs.lemmas.Grind.{flat_map-append}
use Rattle.std.proofs.lemmas.List.Elements.{filter-append}
use Rattle.fort_tree.specs.declared.fault.Code.{Code}
use Rattle.fort_tree.specs.declared.fault.Code.TheVariants.{E3A}
use Rattle.fort_tree.specs.declared.place.Place.{Place}
use Rattle.fort_tree.specs.declared.stmt.Named.{Named}
use Rattle.fort_tree.specs.declared.unit.Decl.{Decl}
use Rattle.fort_tree.specs.declared.unit.File.{File}
use Rattle.fort_tree.specs.declared.unit.Unit as tree_unit
use Rattle.claw_meaning.specs.Scope.{Entity}
use Rattle.claw_meaning.specs.Syntax.{Text}
use Rattle.sound_programs.specs.ArgumentFaults.{is_fixed, is_writable, assigns_fixed, passes_fixed, function_dummies, function_writes, module_writes, reached_from}
use Rattle.sound_programs.specs.Faults.{Found, found}
use Rattle.sound_programs.specs.NameFaults.{places_where}
use Rattle.sound_programs.specs.Placed.{Expr, Numeral, Boolean, Name, Reference, Signed, Binary, Paren, Decl as Placed_decl, first, bare_program}
use Rattle.sound_programs.specs.Places.{where_place}
use Rattle.sound_programs.specs.Placing.{placed, placed_decl, placed_unit}
use Rattle.sound_programs.specs.Scopes.{Of_unit, is_dummy, is_written_intent}
use Rattle.sound_programs.specs.Walks.{Step, Assigns, Calls, Tests, Chooses, Repeats, Site, Actual, actuals, is_written, left_of, name_in, named, sites}
use Rattle.fort_names.specs.declared.least.At.{At}
use Rattle.fort_names.specs.Leasts.{noted, places_at}
use Rattle.fort_names.proofs.FirstOf.{noted_places}
use Rattle.argument_faults.specs.Reaching.{IsWrittenFrom, fault_of}
use Rattle.argument_faults.specs.Written.{fixed_on_left, unwritable_place, passed_place, passed_at, is_written_dummy}

module _ (entity : Text → Entity) where
  abbrev fixed : Named → Bool
  fixed n = is_fixed (entity n.name)

  at_one : (n : Named) → where_place (fixed n) n.at ≡ places_where fixed (n ∷ [])
  at_one n = go (fixed n)
    where
      go : (b : Bool) → where_place b n.at ≡ map (λ m. m.at) (cond b (n ∷ []) [])
      go true = refl
      go false = refl

  on_left : (e : Expr) → fixed_on_left entity (e ∷ []) ≡ places_where fixed (flat_map name_in (e ∷ []))
  on_left (Numeral n kind at) = refl
  on_left (Boolean b at) = refl
  on_left (Name x at) = at_one (named x at)
  on_left (Reference x subs at) = at_one (named x at)
  on_left (Signed sign e at) = refl
  on_left (Binary op a b) = refl
  on_left (Paren e at) = refl

  pub assigned_are : (step : Step) → fixed_on_left entity (left_of step) ≡ assigns_fixed entity step
  assigned_are (Assigns left right) = on_left left
  assigned_are (Calls name args) = refl
  assigned_are (Tests e) = refl
  assigned_are (Chooses e ranges) = refl
  assigned_are (Repeats head mark) = refl

  abbrev unwritable : Actual → List Place
  unwritable a = flat_map (λ e. where_place (not (is_writable entity e)) (first e)) (option_to_list a.expr)

  one_unwritable : (o : Option Expr) → unwritable_place entity o ≡ flat_map (λ e. where_place (not (is_writable entity e)) (first e)) (option_to_list o)
  one_unwritable None = refl
  one_unwritable (Some e) = go (not (is_writable entity e))
    where
      go : (b : Bool) → where_place b (first e) ≡ where_place b (first e) ++ []
      go true = refl
      go false = refl

  some_passed : (list : List Actual) → flat_map (passed_place entity) list ≡ flat_map unwritable (filter is_written list)
  some_passed [] = refl
  some_passed (a ∷ list) = go (is_written a) (some_passed list)
    where
      go : (b : Bool) → flat_map (passed_place entity) list ≡ flat_map unwritable (filter is_written list)
          → (if b then unwritable_place entity a.expr else []) ++ flat_map (passed_place entity) list ≡ flat_map unwritable (cond b (a ∷ filter is_written list) (filter is_written list))
      go true h = λ i. one_unwritable a.expr i ++ h i
      go false h = h

  at_sites : (ss : List Site) → flat_map (passed_at entity) ss ≡ flat_map unwritable (filter is_written (flat_map (actuals entity) ss))
  at_sites [] = refl
  at_sites (s ∷ ss) =
      (λ i. some_passed (actuals entity s) i ++ at_sites ss i)
      ∙ sym (flat_map-append unwritable (filter is_written (actuals entity s)) (filter is_written (flat_map (actuals entity) ss)))
      ∙ ap (flat_map unwritable) (sym (filter-append is_written (actuals entity s) (flat_map (actuals entity) ss)))

  pub passed_are : (step : Step) → flat_map (passed_at entity) (sites entity step) ≡ passes_fixed entity step
  passed_are step = at_sites (sites entity step)

filtered : (test : Placed_decl → Bool) (ds : List Decl) → map (λ d. d.at) (filter test (map placed_decl ds)) ≡ places_at (λ d. test (placed_decl d)) (λ d. d.at) ds
filtered test [] = refl
filtered test (d ∷ ds) = go (test (placed_decl d)) (filtered test ds)
  where
    go : (b : Bool) → map (λ d. d.at) (filter test (map placed_decl ds)) ≡ places_at (λ d. test (placed_decl d)) (λ d. d.at) ds
        → map (λ d. d.at) (cond b (placed_decl d ∷ filter test (map placed_decl ds)) (filter test (map placed_decl ds)))
        ≡ (if b then d.at ∷ places_at (λ d. test (placed_decl d)) (λ d. d.at) ds else places_at (λ d. test (placed_decl d)) (λ d. d.at) ds)
    go true h = ap (λ l. d.at ∷ l) h
    go false h = h

-- a function's dummies that aren't INTENT(IN)
pub dummies_are : (u : tree_unit.Unit) (r : Option Named) → u.result ≡ r
    → function_dummies (placed_unit u) ≡ (if is_some r then places_at (is_written_dummy u.dummies) (λ d. d.at) u.decls else [])
dummies_are u r e =
    ap (λ (o : Option Named). if is_some o then map (λ d. d.at) (filter (λ (d : Placed_decl). is_dummy (Of_unit (placed_unit u)) d.name && is_written_intent d.intent) (map placed_decl u.decls)) else []) e
    ∙ ap (λ l. if is_some r then l else []) (filtered (λ (d : Placed_decl). is_dummy (Of_unit (placed_unit u)) d.name && is_written_intent d.intent) u.decls)

-- three parts of a list
pub three_parts : (code : Code) (xs ys zs : List Place) (l0 l1 l2 l3 : Option Found) → l1 ≡ noted (found code xs) l0 → l2 ≡ noted (found code ys) l1 → l3 ≡ noted (found code zs) l2
    → l3 ≡ noted (found code (xs ++ (ys ++ zs))) l0
three_parts code xs ys zs l0 l1 l2 l3 e h k =
    k ∙ ap (noted (found code zs)) h ∙ sym (noted_places code ys zs l1) ∙ ap (noted (found code (ys ++ zs))) e ∙ sym (noted_places code xs (ys ++ zs) l0)

-- what a function, or a unit that it reaches, writes
pub function_writes_are : (f : File) (u : tree_unit.Unit) (write : Option At) → IsWrittenFrom f u write → (least : Option Found)
    → noted (if is_some u.result then fault_of write else []) least ≡ noted (found E3A (function_writes (placed f) (bare_program (placed f)) (placed_unit u))) least
function_writes_are f u write is least = go (is_some u.result)
  where
    go : (b : Bool) → noted (if b then fault_of write else []) least ≡ noted (found E3A (if b then flat_map (module_writes (bare_program (placed f))) (reached_from (placed f) u.name) else [])) least
    go true = is.same least
    go false = refl
