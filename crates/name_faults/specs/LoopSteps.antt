-- The faults of DO variables, step by step.
use Rattle.std.specs.Prelude.{List, [], ◌∷◌, ◌++◌, ◌&&◌, not, flat_map}
use Rattle.fort_tree.specs.declared.place.Place.{Place}
use Rattle.claw_meaning.specs.Scope.{Entity}
use Rattle.claw_meaning.specs.Syntax.{Text}
use Rattle.claw_meaning.specs.Units.{is_listed}
use Rattle.sound_programs.specs.LoopFaults.{is_local_integer}
use Rattle.sound_programs.specs.NameFaults.{places_where}
use Rattle.sound_programs.specs.Placed.{Decl, Stmt, Assign, Call, If, Select, Do, Block, Piece, Exit, Cycle, Return, Stmts, Done, Then, Arms, No_arm, Arm, Cases, No_case, Case, Otherwise, Nothing_else, Else, Unit}
use Rattle.sound_programs.specs.Walks.{Step, Assigns, Calls, Tests, Chooses, Repeats, ranges_of, parts, bounds_in, left_of, name_in, names_in, loop_variable}
use Rattle.fort_names.specs.NameLists.{has}
use Rattle.name_faults.specs.Passing.{passed_names}

-- those of a step inside these loops, where these are all the DO variables of the unit
abbrev pub faults_of_step : (Text → Entity) → Unit → List Text → List Text → Step → List Place
faults_of_step entity u variables loops step =
    places_where (λ n. not (is_local_integer u n.name)) (loop_variable step)
    ++ (places_where (λ n. has variables n.name && not (is_listed loops n.name)) (names_in step)
    ++ (places_where (λ n. is_listed loops n.name) (flat_map name_in (left_of step))
    ++ (places_where (λ n. is_listed loops n.name) (passed_names entity step) ++ places_where (λ n. is_listed loops n.name) (loop_variable step))))

-- those in bounds of declarations
abbrev pub places_in_bounds : List Text → List Decl → List Place
places_in_bounds variables decls = places_where (λ n. has variables n.name && not (is_listed [] n.name)) (flat_map name_in (flat_map parts (bounds_in decls)))

-- as one word
unfoldable pub step_faults : (Text → Entity) → Unit → List Text → List Text → Step → List Place
step_faults = faults_of_step

-- those of all steps of statements
module _ (faults : List Text → Step → List Place) where
  abbrev mutual
    pub in_stmt : List Text → Stmt → List Place
    in_stmt loops (Assign at left right) = faults loops (Assigns left right)
    in_stmt loops (Call at name args forward) = faults loops (Calls name args)
    in_stmt loops (If at arms other) = in_arms loops arms ++ in_otherwise loops other
    in_stmt loops (Select at on cases other) = faults loops (Chooses on (ranges_of cases)) ++ (in_cases loops cases ++ in_otherwise loops other)
    in_stmt loops (Do at head body mark) = faults loops (Repeats head mark) ++ in_stmts (head.variable ∷ loops) body
    in_stmt loops (Block at mark body) = in_stmts loops body
    in_stmt loops (Piece body) = in_stmts loops body
    in_stmt loops (Exit at) = []
    in_stmt loops (Cycle at) = []
    in_stmt loops (Return at) = []

    pub in_stmts : List Text → Stmts → List Place
    in_stmts loops Done = []
    in_stmts loops (Then s rest) = in_stmt loops s ++ in_stmts loops rest

    pub in_arms : List Text → Arms → List Place
    in_arms loops No_arm = []
    in_arms loops (Arm test body rest) = faults loops (Tests test) ++ (in_stmts loops body ++ in_arms loops rest)

    pub in_cases : List Text → Cases → List Place
    in_cases loops No_case = []
    in_cases loops (Case ranges body rest) = in_stmts loops body ++ in_cases loops rest

    pub in_otherwise : List Text → Otherwise → List Place
    in_otherwise loops Nothing_else = []
    in_otherwise loops (Else body) = in_stmts loops body
