-- The faults of one unit, where names are these entities.
use Rattle.std.specs.Prelude.{List, [], ◌++◌, flat_map, Option, Some, None, ◌&&◌}
use Rattle.std.specs.List.{list_any}
use Rattle.std.specs.Option.{option_to_list}
use Rattle.fort_tree.specs.declared.place.Place.{Place}
use Rattle.claw_meaning.specs.Scope.{Entity}
use Rattle.claw_meaning.specs.Syntax as plain
use Rattle.claw_meaning.specs.Syntax.{Text}
use Rattle.sound_programs.specs.ArgumentFaults.{alias_at_site, is_named_by, module_variables, shared_actuals}
use Rattle.sound_programs.specs.CallFaults.{sites_of}
use Rattle.sound_programs.specs.Placed.{Program, Unit, bare_program}
use Rattle.sound_programs.specs.Places.{where_place}
use Rattle.sound_programs.specs.Scopes.{Of_unit, entity_in, unit_of}
use Rattle.sound_programs.specs.Walks.{Step, Site, Actual, actuals, is_written, name_in, sites, steps_of}

abbrev pub behind_in : Program → (Text → Entity) → Text → List Actual → Option plain.Unit → List Place
behind_in p entity unit list None = []
behind_in p entity unit list (Some v) =
    flat_map (λ a. where_place (is_written a && list_any (is_named_by p (bare_program p) v.name) (module_variables entity unit (flat_map name_in (option_to_list a.expr)))) a.at) list

abbrev pub alias_in : Program → (Text → Entity) → Text → Site → List Place
alias_in p entity unit s = shared_actuals entity (actuals entity s) ++ behind_in p entity unit (actuals entity s) (unit_of (entity s.name.name))

abbrev pub alias_in_step : Program → (Text → Entity) → Text → Step → List Place
alias_in_step p entity unit step = flat_map (alias_in p entity unit) (sites entity step)

abbrev pub alias_in_unit : Program → (Text → Entity) → Unit → List Place
alias_in_unit p entity u = flat_map (λ s. alias_in_step p entity u.name s.step) (steps_of u)

-- in the program, where names are what they are in the unit
abbrev pub aliases_of : Program → Unit → List Place
aliases_of p u = flat_map (alias_at_site p (bare_program p) u) (sites_of (entity_in (bare_program p) (Of_unit u)) u)
