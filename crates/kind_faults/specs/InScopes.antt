-- The faults that are sought, by scope.
use Rattle.std.specs.Prelude.{List, [], ◌++◌, flat_map}
use Rattle.fort_tree.specs.declared.fault.Code.{Code}
use Rattle.fort_tree.specs.declared.fault.Code.TheVariants.{E32, E33, E37}
use Rattle.fort_tree.specs.declared.place.Place.{Place}
use Rattle.claw_meaning.specs.Syntax.{Text}
use Rattle.claw_meaning.specs.Scope.{Entity}
use Rattle.sound_programs.specs.ArgumentFaults.{counts_differ}
use Rattle.sound_programs.specs.KindFaults.{kind_faults_of_decls, literals_in, defined_bounds, kind_faults_in_step}
use Rattle.sound_programs.specs.Placed.{Unit, Program, bare_program}
use Rattle.sound_programs.specs.RankFaults.{rank_faults_of_decls, result_not_scalar, rank_faults_in_step}
use Rattle.sound_programs.specs.Scopes.{Scope, Of_unit, Of_module, scopes, decls_of, entity_in}
use Rattle.sound_programs.specs.Walks.{Step, steps_of}
use Rattle.kind_faults.specs.declared.sought.Sought.{Sought}
use Rattle.kind_faults.specs.declared.sought.Sought.TheVariants.{Kinds, Ranks, Counts}

abbrev pub code_of_sought : Sought → Code
code_of_sought Kinds = E32
code_of_sought (Ranks mode) = E33
code_of_sought Counts = E37

abbrev pub faults_of_step : (Text → Entity) → Sought → Step → List Place
faults_of_step entity Kinds step = kind_faults_in_step entity step
faults_of_step entity (Ranks mode) step = rank_faults_in_step entity step
faults_of_step entity Counts step = counts_differ entity step

-- in the statements of a unit
abbrev pub faults_of_body : (Text → Entity) → Sought → Unit → List Place
faults_of_body entity sought u = flat_map (λ s. faults_of_step entity sought s.step) (steps_of u)

-- in the declarations of a unit or a module
abbrev pub faults_of_decls : (Text → Entity) → Sought → Scope → List Place
faults_of_decls entity Kinds s = kind_faults_of_decls s entity (decls_of s)
faults_of_decls entity (Ranks mode) s = rank_faults_of_decls mode s
faults_of_decls entity Counts s = []

-- what is sought besides in a unit
abbrev pub faults_beside : Sought → Unit → List Place
faults_beside Kinds u = literals_in (defined_bounds u.marks)
faults_beside (Ranks mode) u = result_not_scalar u
faults_beside Counts u = []

abbrev pub faults_behind : (Text → Entity) → Sought → Scope → List Place
faults_behind entity sought (Of_unit u) = faults_beside sought u ++ faults_of_body entity sought u
faults_behind entity sought (Of_module n m) = []

abbrev pub faults_in : (Text → Entity) → Sought → Scope → List Place
faults_in entity sought s = faults_of_decls entity sought s ++ faults_behind entity sought s

abbrev pub faults_in_scope : Program → Sought → Scope → List Place
faults_in_scope p sought s = faults_in (entity_in (bare_program p) s) sought s

abbrev pub all_faults : Sought → Program → List Place
all_faults sought p = flat_map (faults_in_scope p sought) (scopes p)
