-- Directives on statements, and calls of column units, in the statements of a unit.
use Rattle.std.specs.Prelude.{List, [], ◌∷◌, ◌++◌, Option, None, Some, Bool, ◌||◌, not}
use Rattle.fort_tree.specs.declared.place.Place.{Place}
use Rattle.fort_tree.specs.Unplaced.{nowhere}
use Rattle.claw_meaning.specs.Syntax.{Text}
use Rattle.sound_programs.specs.Placed.{Directive, Stmt, Assign, Call, If, Select, Do, Block, Piece, Exit, Cycle, Return, Stmts, Done, Then, Arms, No_arm, Arm, Cases, No_case, Case, Otherwise, Nothing_else, Else}
use Rattle.scalar_units.specs.Unbuilt.{unless}

abbrev pub place_of_mark : Option Directive → List Place
place_of_mark None = []
place_of_mark (Some d) = d.at ∷ []

-- The places of directives before loops and of blocks, and those of CALLs that stand under `parallelize forward` or name a
-- column unit. A piece, which no text has, has no place.
module _ (is_column : Text → Bool) where
  abbrev mutual
    pub directed : Stmt → List Place
    directed (Assign at left right) = []
    directed (Call at name args forward) = unless (not (forward || is_column name.name)) at
    directed (If at arms other) = directed_in_arms arms ++ directed_in_otherwise other
    directed (Select at on cases other) = directed_in_cases cases ++ directed_in_otherwise other
    directed (Do at head body mark) = place_of_mark mark ++ directed_in body
    directed (Block at mark body) = at ∷ directed_in body
    directed (Piece body) = nowhere ∷ directed_in body
    directed (Exit at) = []
    directed (Cycle at) = []
    directed (Return at) = []

    pub directed_in : Stmts → List Place
    directed_in Done = []
    directed_in (Then s rest) = directed s ++ directed_in rest

    pub directed_in_arms : Arms → List Place
    directed_in_arms No_arm = []
    directed_in_arms (Arm test body rest) = directed_in body ++ directed_in_arms rest

    pub directed_in_cases : Cases → List Place
    directed_in_cases No_case = []
    directed_in_cases (Case ranges body rest) = directed_in body ++ directed_in_cases rest

    pub directed_in_otherwise : Otherwise → List Place
    directed_in_otherwise Nothing_else = []
    directed_in_otherwise (Else body) = directed_in body
