-- Where a unit isn't one of column scalars.
use Rattle.std.specs.Prelude.{◌≡◌, Bool, true, false, not, ◌&&◌, ◌||◌, nat_lt, nat_eq, List, [], ◌∷◌, ◌++◌, map, Option, None, Some, cond}
use Rattle.std.specs.List.{list_all, flat_map, Contains}
use Rattle.fort_tree.specs.declared.place.Place.{Place}
use Rattle.fort_tree.specs.declared.stmt.Directive.{Directive}
use Rattle.fort_tree.specs.declared.stmt.Stmt.{Stmt, out-Stmt}
use Rattle.fort_tree.specs.declared.stmt.Stmt.TheOpen.{Stmt-F}
use Rattle.fort_tree.specs.declared.unit.Decl.{Decl}
use Rattle.fort_tree.specs.declared.unit.Unit as tree
use Rattle.fort_tree.specs.Unplaced.{nowhere}
use Rattle.claw_meaning.specs.Plain.{plain_unit, plain_decl, plain_directive, plain_stmt}
use Rattle.scalar_units.specs.Units.{is_header, is_declaration, is_define, is_parallelize, is_assignment}

-- the place, where the test fails
abbrev pub unless : Bool → Place → List Place
unless true at = []
unless false at = at ∷ []

abbrev pub place_of_level : {A B C : Type 0} → Stmt-F A B C → Place
place_of_level (Stmt-F.Assign at left right) = at
place_of_level (Stmt-F.Call at name args forward) = at
place_of_level (Stmt-F.If at arms other) = at
place_of_level (Stmt-F.Select at on arms other) = at
place_of_level (Stmt-F.Loop at head body mark) = at
place_of_level (Stmt-F.Block at mark body) = at
place_of_level (Stmt-F.Piece body) = nowhere
place_of_level (Stmt-F.Exit at) = at
place_of_level (Stmt-F.Cycle at) = at
place_of_level (Stmt-F.Return at) = at

-- A statement's place; a piece, which no text has, has none.
abbrev pub place_of : Stmt → Place
place_of s = place_of_level (out-Stmt s)

-- the declarations, and the statements, that aren't such a unit's
abbrev pub of_decls : tree.Unit → List Decl → List Place
of_decls u decls = flat_map (λ d. unless (is_declaration (plain_unit u) (plain_decl d)) d.at) decls

abbrev pub of_body : tree.Unit → List Stmt → List Place
of_body u body = flat_map (λ s. unless (is_assignment (plain_unit u) (plain_stmt s)) (place_of s)) body

-- the directives: `define` and `parallelize`, in this order, and no more; without them the header
abbrev pub of_marks : tree.Unit → List Directive → List Place
of_marks u [] = u.at ∷ []
of_marks u (d ∷ []) = d.at ∷ []
of_marks u (d ∷ p ∷ []) = unless (is_define (plain_unit u) (plain_directive d)) d.at ++ unless (is_parallelize (plain_unit u) (plain_directive p)) p.at
of_marks u (d ∷ p ∷ q ∷ more) = q.at ∷ []

abbrev pub of_unit : tree.Unit → List Place
of_unit u =
    unless (is_header (plain_unit u)) u.at ++ (map (λ line. line.at) u.uses ++ (of_decls u u.decls ++ (of_marks u u.marks ++ of_body u u.body)))

-- the first stands before the second: by file, then line, then column
abbrev pub is_earlier : Place → Place → Bool
is_earlier a b = nat_lt a.file b.file || (nat_eq a.file b.file && (nat_lt a.line b.line || (nat_eq a.line b.line && nat_lt a.column b.column)))

-- one of the places, which none of them stands before
pub record IsFirst (at : Place) (places : List Place) : Type 0 where
  pub is_one : Contains places at
  pub is_least : list_all (λ other. not (is_earlier other at)) places ≡ true

-- the first of the places so far, after one more
abbrev pub note : Option Place → Place → Option Place
note None at = Some at
note (Some least) at = Some (cond (is_earlier at least) at least)

-- the first of the places so far, after these
abbrev pub noted : List Place → Option Place → Option Place
noted [] least = least
noted (at ∷ places) least = noted places (note least at)
