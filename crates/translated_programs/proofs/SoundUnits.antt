-- The units of a sound program of which nothing is unbuilt: units of column scalars that may stand in it, and plain units.
use Rattle.std.proofs.Common.{◌≡◌, [], ◌∷◌, map, Bool, true, false, None, refl, sym, ap, subst}
use Rattle.std.specs.List.{enumerate_from, IsDistinct}
use Rattle.std.specs.Str.{bytes_eq}
use Rattle.fort_tree.specs.declared.choice.Mode.{Mode}
use Rattle.fort_tree.specs.declared.unit.File.{File}
use Rattle.fort_tree.specs.declared.unit.Unit as tree
use Rattle.claw_meaning.specs.Syntax.{Text, Unit, Program}
use Rattle.claw_meaning.specs.Plain.{plain_file, plain_unit, plain_directive}
use Rattle.claw_meaning.specs.Units.{is_column_unit}
use Rattle.column_scalars.specs.Scalars.{Scalars, IsScalars, Distinct, source_unit}
use Rattle.column_scalars.specs.Standing.{StandsIn}
use Rattle.plain_units.specs.Calling.{CallsPlain}
use Rattle.plain_units.specs.Translated.{IsPlain}
use Rattle.plain_units.specs.Undirected.{IsUndirected, are_undirected}
use Rattle.sound_programs.specs.Laws.{Each}
use Rattle.sound_programs.specs.NameFaults.{undeclared_names, undeclared_in_scope, undeclared_in_step, unit_faults, unit_faults_in_step, in_each_step}
use Rattle.sound_programs.specs.Placed.{Unit as PlacedUnit, bare_unit, bare_program}
use Rattle.sound_programs.specs.Placing.{placed, placed_unit, placed_stmts}
use Rattle.sound_programs.specs.Scopes.{Of_unit, Of_module, scopes, entity_in}
use Rattle.sound_programs.specs.Sound.{Sound}
use Rattle.sound_programs.proofs.BareTrees.{unit_bare, placed_is_plain}
use Rattle.sound_programs.proofs.SoundLaws.{empty_if_nowhere, declares_once}
use Rattle.sound_programs.proofs.Empties.{left_empty, each_empty}
use Rattle.sound_programs.proofs.WithinLists.{each_by, each_two, each_right, each_of_map, each_before_map}
use Rattle.sound_programs.proofs.LeftSides.{HaveLefts, nested_lefts}
use Rattle.translated_programs.specs.NotBuilt.{names_column_unit, unbuilt}
use Rattle.translated_programs.specs.UnitLaws.{BuiltLaw, StandingLaw}
use Rattle.translated_programs.proofs.Walking.{undirected_all}
use Rattle.translated_programs.proofs.DistinctNames.{units_distinct, names_differ, NamesDiffer, found_by_name, units_declare_once, modules_declare_once}
use Rattle.translated_programs.proofs.PlainCalls.{Known, calls_plain}
use Rattle.translated_programs.proofs.BuiltUnits.{OfAny, ColumnUnit, PlainUnit, column_unit, plain_of, all_built, all_named}

-- a unit of column scalars that may stand in the program and declares each name once, or a plain unit of it
pub data Stands (p : Program) : Unit → Type 0 where
  a_column : (s : Scalars) → IsScalars s → StandsIn p s → IsDistinct bytes_eq (map (λ d. d.name) (source_unit s).decls) → Stands p (source_unit s)
  a_plain : {u : Unit} → is_column_unit u ≡ false → IsPlain p u → Stands p u

module _ (built : BuiltLaw) (mode : Mode) (file : File) (sound : Sound mode file) (none : unbuilt file ≡ []) where
  abbrev source : Program
  source = plain_file file

  abbrev bare_source : Program
  bare_source = bare_program (placed file)

  abbrev is_named : Text → Bool
  is_named = names_column_unit file

  record ColumnKnown (v : tree.Unit) : Type 0 where
    named : is_column_unit (plain_unit v) ≡ true → is_named v.name ≡ true
    subroutine : is_column_unit (plain_unit v) ≡ true → (plain_unit v).result ≡ None

  column_known : (v : tree.Unit) → (is_column_unit (plain_unit v) ≡ true → is_named v.name ≡ true) → OfAny file v → ColumnKnown v
  column_known v named of = record { named = named; subroutine = λ is. ap (λ (u : Unit). u.result) (column_unit built file v of is).plain }

  known : Each file.units (λ v. Known source is_named (plain_unit v))
  known =
      each_two file.units (λ v found rest. record { found = found; named = rest.named; subroutine = rest.subroutine }) (found_by_name file.units (units_distinct mode file sound))
      (each_two file.units (λ v named of. column_known v named of) (all_named file.units) (all_built file none))

  bare_known : Each bare_source.units (Known bare_source is_named)
  bare_known = subst (λ (p : Program). Each p.units (Known p is_named)) (sym (placed_is_plain file)) (each_of_map plain_unit (Known source is_named) file.units known)

  -- no names are undeclared, and no names are of no unit
  abbrev Declared : PlacedUnit → Type 0
  Declared u = in_each_step (undeclared_in_step (entity_in bare_source (Of_unit u))) u ≡ []

  abbrev Named : PlacedUnit → Type 0
  Named u = in_each_step (unit_faults_in_step (entity_in bare_source (Of_unit u))) u ≡ []

  all_declared : Each file.units (λ v. Declared (placed_unit v))
  all_declared =
      let p = placed file in
      let clear : undeclared_names p ≡ [] = empty_if_nowhere (undeclared_names p) sound.each_name_is_declared in
      each_before_map placed_unit Declared file.units
      (each_by p.units (λ u e. left_empty (in_each_step (undeclared_in_step (entity_in bare_source (Of_unit u))) u) _ e)
      (each_before_map Of_unit (λ s. undeclared_in_scope bare_source s ≡ []) p.units
      (each_right (λ s. undeclared_in_scope bare_source s ≡ []) (map (λ m. Of_module m.0 m.1) (enumerate_from 0 p.modules)) (map Of_unit p.units)
      (each_empty (undeclared_in_scope bare_source) (scopes p) clear))))

  all_units_named : Each file.units (λ v. Named (placed_unit v))
  all_units_named =
      let p = placed file in
      let clear : unit_faults p ≡ [] = empty_if_nowhere (unit_faults p) sound.calls_name_units in
      each_before_map placed_unit Named file.units (each_empty (λ u. in_each_step (unit_faults_in_step (entity_in bare_source (Of_unit u))) u) p.units clear)

  lefts : Each file.units (λ v. HaveLefts (placed_stmts v.body))
  lefts = nested_lefts mode sound.nested.1

  -- ---- Plain units

  undirected : (v : tree.Unit) → PlainUnit file v → IsUndirected (plain_unit v)
  undirected v is = (ap (map plain_directive) is.marks, subst (λ (u : Unit). are_undirected u.body ≡ true) (unit_bare v) (undirected_all is_named (placed_stmts v.body) is.undirected))

  calls : (v : tree.Unit) → PlainUnit file v → Declared (placed_unit v) → Named (placed_unit v) → HaveLefts (placed_stmts v.body) → CallsPlain source (plain_unit v)
  calls v is names units l =
      subst (CallsPlain source) (unit_bare v)
      (subst (λ p. CallsPlain p (bare_unit (placed_unit v))) (placed_is_plain file) (calls_plain bare_source is_named bare_known (placed_unit v) names units l is.undirected))

  abbrev PlainIs : tree.Unit → Type 0
  PlainIs v = is_column_unit (plain_unit v) ≡ false → IsPlain source (plain_unit v)

  plain_is : (v : tree.Unit) → Declared (placed_unit v) → Named (placed_unit v) → HaveLefts (placed_stmts v.body) → IsDistinct bytes_eq (map (λ d. d.name) (plain_unit v).decls) → OfAny file v → PlainIs v
  plain_is v names units l once of is = let u = plain_of file v of is in record { undirected = undirected v u; calls = calls v u names units l; once = once }

  all_plain : Each file.units PlainIs
  all_plain =
      each_two file.units (λ v rest of. rest of)
      (each_two file.units (λ v rest once. rest once)
      (each_two file.units (λ v rest l. rest l) (each_two file.units (λ v names units. plain_is v names units) all_declared all_units_named) lefts)
      (units_declare_once file (declares_once mode file sound)))
      (all_built file none)

  -- ---- Column units

  abbrev DeclaresEach : tree.Unit → Type 0
  DeclaresEach v = IsDistinct bytes_eq (map (λ d. d.name) (plain_unit v).decls)

  column_stands : StandingLaw → (v : tree.Unit) → ColumnUnit file v → NamesDiffer file v → DeclaresEach v → Stands source (plain_unit v)
  column_stands law v c names once =
      subst (Stands source) (sym c.plain)
      (a_column c.scalars c.is
      (law source c.scalars c.is c.upper (subst (λ (x : Text). Distinct (x ∷ map (λ m. m.name) source.modules)) (ap (λ (u : Unit). u.name) c.plain) names)
      (modules_declare_once file (declares_once mode file sound)))
      (subst (λ (u : Unit). IsDistinct bytes_eq (map (λ d. d.name) u.decls)) c.plain once))

  unit_stands : StandingLaw → (v : tree.Unit) (b : Bool) → is_column_unit (plain_unit v) ≡ b → OfAny file v → PlainIs v → NamesDiffer file v → DeclaresEach v → Stands source (plain_unit v)
  unit_stands law v true is of plain names once = column_stands law v (column_unit built file v of is) names once
  unit_stands law v false is of plain names once = a_plain is (plain is)

  pub all_stand : StandingLaw → Each source.units (Stands source)
  all_stand law =
      let so_far : Each file.units (λ v. NamesDiffer file v → DeclaresEach v → Stands source (plain_unit v)) =
      each_two file.units (λ v of plain names once. unit_stands law v (is_column_unit (plain_unit v)) refl of plain names once) (all_built file none) all_plain in
      each_of_map plain_unit (Stands source) file.units
      (each_two file.units (λ v rest once. rest once) (each_two file.units (λ v rest names. rest names) so_far (names_differ mode file sound)) (units_declare_once file (declares_once mode file sound)))
