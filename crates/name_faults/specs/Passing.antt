-- The names that are passed to OUT or INOUT.
use Rattle.std.specs.Prelude.{List, ◌++◌, flat_map}
use Rattle.std.specs.List.{filter}
use Rattle.fort_tree.specs.declared.stmt.Named.{Named}
use Rattle.claw_meaning.specs.Scope.{Entity}
use Rattle.claw_meaning.specs.Syntax as plain
use Rattle.claw_meaning.specs.Syntax.{Text}
use Rattle.sound_programs.specs.Placed.{Expr, Subscripts}
use Rattle.sound_programs.specs.Walks.{Step, Site, Actual, matched, actuals, is_written, name_of_actual, reference, call_site, is_function_site, parts_read}

-- those of the actual arguments
abbrev pub written_in : List Actual → List Named
written_in args = flat_map (λ a. name_of_actual a.expr) (filter is_written args)

-- those of these arguments for these dummies
abbrev pub written_names : List Text → List plain.Decl → Subscripts → List Named
written_names xs decls args = written_in (matched xs decls args)

abbrev pub written_at : (Text → Entity) → Site → List Named
written_at entity s = written_in (actuals entity s)

abbrev pub written_at_all : (Text → Entity) → List Site → List Named
written_at_all entity sites = flat_map (written_at entity) sites

-- those of the references to functions among these
abbrev pub written_by : (Text → Entity) → List Expr → List Named
written_by entity es = written_at_all entity (filter (is_function_site entity) (flat_map reference es))

-- those of a step
abbrev pub passed_names : (Text → Entity) → Step → List Named
passed_names entity step = written_at_all entity (call_site step) ++ written_by entity (parts_read step)
