-- How forms nest into a program: a list of forms and the tree that it makes. Each relation reads forms from the front of a
-- list, makes a tree of them, and leaves the forms behind them. Limits on tokens, nesting and depth are set aside.
use Rattle.std.specs.Prelude.{◌≡◌, ℕ, suc, ◌+◌, length, List, [], ◌∷◌, ◌++◌, Option, Some, None, Bool, true, false, IsTrue, ◌⊎◌}
use Rattle.std.specs.List.{list_all}
use Rattle.fort_arith.specs.declared.kind.Kind.{Kind}
use Rattle.fort_tree.specs.declared.choice.Mode.{Mode}
use Rattle.fort_tree.specs.declared.choice.Mode.TheVariants.{Source, Target}
use Rattle.fort_tree.specs.declared.expr.Expr.{Expr}
use Rattle.fort_tree.specs.declared.expr.Sub.{Sub}
use Rattle.fort_tree.specs.declared.place.Place.{Place}
use Rattle.fort_tree.specs.declared.statement.EndWord.{EndWord}
use Rattle.fort_tree.specs.declared.statement.EndWord.TheVariants as word
use Rattle.fort_tree.specs.declared.statement.Statement.{Statement, out-Statement}
use Rattle.fort_tree.specs.declared.statement.Statement.TheOpen.{Statement-F}
use Rattle.fort_tree.specs.declared.stmt.Arm.{Arm}
use Rattle.fort_tree.specs.declared.stmt.Case.{Case}
use Rattle.fort_tree.specs.declared.stmt.Directive.{Directive}
use Rattle.fort_tree.specs.declared.stmt.Head.{Head}
use Rattle.fort_tree.specs.declared.stmt.Named.{Named}
use Rattle.fort_tree.specs.declared.stmt.Range.{Range}
use Rattle.fort_tree.specs.declared.stmt.Stmt.{Stmt}
use Rattle.fort_tree.specs.declared.stmt.Stmt.TheVariants as tree
use Rattle.fort_tree.specs.declared.stmt.Stmt.TheViews.{roll-Arm, roll-Case}
use Rattle.fort_tree.specs.declared.unit.Decl.{Decl}
use Rattle.fort_tree.specs.declared.unit.File.{File}
use Rattle.fort_tree.specs.declared.unit.Item.{Item}
use Rattle.fort_tree.specs.declared.unit.Item.TheVariants as item
use Rattle.fort_tree.specs.declared.unit.Module.{Module}
use Rattle.fort_tree.specs.declared.unit.Unit as unit
use Rattle.fort_tree.specs.declared.unit.Use.{Use}
use Rattle.sound_programs.specs.Forms.{is_reference, Form, Says, Directs, is_forward, is_before_loop, is_loop_mark, begins_block, ends_block, is_entity, is_range, is_define, is_parallelize, is_routine}

-- Which statements may stand in a place, by what is around it
pub record Inside : Type 0 where
  pub exits : Bool  -- EXIT
  pub cycles : Bool  -- CYCLE
  pub returns : Bool  -- RETURN

-- in a unit, in no DO
abbrev pub in_unit : Inside
in_unit = record { exits = false; cycles = false; returns = true }

abbrev pub in_loop : Inside → Inside
in_loop around = record { exits = true; cycles = true; returns = around.returns }

-- a marked loop has no EXIT of its own and holds no RETURN
abbrev pub in_marked_loop : Inside
in_marked_loop = record { exits = false; cycles = true; returns = false }

abbrev pub in_loop_under : Bool → Inside → Inside
in_loop_under true around = in_marked_loop
in_loop_under false around = in_loop around

abbrev pub arm : Expr → List Stmt → Arm
arm test body = roll-Arm (record { test = test; body = body })

abbrev pub case : List Range → List Stmt → Case
case ranges body = roll-Case (record { ranges = ranges; body = body })

-- A statement that is whole by itself
pub data Simple (around : Inside) (at : Place) : Statement-F Statement → Stmt → Type 0 where
  -- a left side is a name, with subscripts or without
  assigns : (left right : Expr) → IsTrue (is_reference left) → Simple around at (Statement-F.Assign left right) (tree.Assign at left right)
  calls : (name : Named) (args : List Sub) → Simple around at (Statement-F.Call name args) (tree.Call at name args false)
  exits : IsTrue around.exits → Simple around at Statement-F.Exit (tree.Exit at)
  cycles : IsTrue around.cycles → Simple around at Statement-F.Cycle (tree.Cycle at)
  returns : IsTrue around.returns → Simple around at Statement-F.Return (tree.Return at)

module _ (mode : Mode) where
  mutual
    -- statements, as many as stand in a row
    pub data Body : Inside → List Form → List Stmt → List Form → Type 0 where
      done : {around : Inside} {rest : List Form} → Body around rest [] rest
      more : {around : Inside} {forms next rest : List Form} {s : Stmt} {ss : List Stmt} → One around forms s next → Body around next ss rest → Body around forms (s ∷ ss) rest

    pub data One : Inside → List Form → Stmt → List Form → Type 0 where
      simple : {around : Inside} {at : Place} {said : Statement-F Statement} {s : Stmt} {rest : List Form} → Simple around at said s → One around (Says at said ∷ rest) s rest
      -- `parallelize forward` directly before a CALL
      forwarded : {around : Inside} {d : Directive} {at : Place} {name : Named} {args : List Sub} {rest : List Form} → IsTrue (is_forward mode d.word) →
          One around (Directs d ∷ Says at (Statement-F.Call name args) ∷ rest) (tree.Call at name args true) rest
      -- an IF on one line is an IF with one arm, whose block is the action
      if_action : {around : Inside} {at place : Place} {test : Expr} {action : Statement} {s : Stmt} {rest : List Form} → Simple around place (out-Statement action) s →
          One around (Says at (Statement-F.IfAction test place action) ∷ rest) (tree.If at (arm test (s ∷ []) ∷ []) None) rest
      if_then : {around : Inside} {at : Place} {test : Expr} {body : List Stmt} {arms : List Arm} {other : Option (List Stmt)} {inside next rest : List Form} →
          Body around inside body next → Arms around next arms other rest →
          One around (Says at (Statement-F.IfThen test) ∷ inside) (tree.If at (arm test body ∷ arms) other) rest
      selects : {around : Inside} {at : Place} {on : Expr} {cases : List Case} {other : Option (List Stmt)} {inside rest : List Form} → Cases around inside cases other rest →
          One around (Says at (Statement-F.Select on) ∷ inside) (tree.Select at on cases other) rest
      loops : {around : Inside} {at end : Place} {head : Head} {body : List Stmt} {inside rest : List Form} → Body (in_loop around) inside body (Says end Statement-F.EndDo ∷ rest) →
          One around (Says at (Statement-F.Do head) ∷ inside) (tree.Loop at head body None) rest
      -- one directive or mark directly before a DO
      directed : {around : Inside} {d : Directive} {at end : Place} {head : Head} {body : List Stmt} {inside rest : List Form} → IsTrue (is_before_loop mode d.word) →
          Body (in_loop_under (is_loop_mark d.word) around) inside body (Says end Statement-F.EndDo ∷ rest) →
          One around (Directs d ∷ Says at (Statement-F.Do head) ∷ inside) (tree.Loop at head body (Some d)) rest
      -- statements of one list between a block's two lines
      block : {around : Inside} {d end : Directive} {body : List Stmt} {inside rest : List Form} → IsTrue (begins_block mode d.word) → IsTrue (ends_block d.word end.word) → Body around inside body (Directs end ∷ rest) →
          One around (Directs d ∷ inside) (tree.Block d.at d body) rest

    -- what follows the first block of an IF, with its END IF
    pub data Arms : Inside → List Form → List Arm → Option (List Stmt) → List Form → Type 0 where
      end_if : {around : Inside} {at : Place} {rest : List Form} → Arms around (Says at Statement-F.EndIf ∷ rest) [] None rest
      else_last : {around : Inside} {at end : Place} {body : List Stmt} {inside rest : List Form} → Body around inside body (Says end Statement-F.EndIf ∷ rest) →
          Arms around (Says at Statement-F.Else ∷ inside) [] (Some body) rest
      else_if : {around : Inside} {at : Place} {test : Expr} {body : List Stmt} {arms : List Arm} {other : Option (List Stmt)} {inside next rest : List Form} →
          Body around inside body next → Arms around next arms other rest →
          Arms around (Says at (Statement-F.ElseIf test) ∷ inside) (arm test body ∷ arms) other rest

    -- The cases of a SELECT, with its END SELECT: none or more. CASE DEFAULT stands once at most, and anywhere among them.
    pub data Cases : Inside → List Form → List Case → Option (List Stmt) → List Form → Type 0 where
      end_select : {around : Inside} {at : Place} {rest : List Form} → Cases around (Says at Statement-F.EndSelect ∷ rest) [] None rest
      case_of : {around : Inside} {at : Place} {ranges : List Range} {body : List Stmt} {cases : List Case} {other : Option (List Stmt)} {inside next rest : List Form} →
          IsTrue (list_all is_range ranges) → Body around inside body next → Cases around next cases other rest →
          Cases around (Says at (Statement-F.Case ranges) ∷ inside) (case ranges body ∷ cases) other rest
      default : {around : Inside} {at : Place} {body : List Stmt} {cases : List Case} {inside next rest : List Form} →
          Body around inside body next → Cases around next cases None rest →
          Cases around (Says at Statement-F.CaseDefault ∷ inside) cases (Some body) rest

  -- Before the first statement

  -- `define` or `parallelize`; each may stand anywhere behind the header and before the first statement
  abbrev pub IsHeadDirective : Directive → Type 0
  IsHeadDirective d = (mode ≡ Source) × (IsTrue (is_define d.word) ⊎ IsTrue (is_parallelize d.word))

  -- USE lines, with the directives among them
  pub data Uses : List Form → List Use → List Directive → List Form → Type 0 where
    no_more_uses : {rest : List Form} → Uses rest [] [] rest
    uses : {at : Place} {line : Use} {lines : List Use} {marks : List Directive} {forms rest : List Form} → Uses forms lines marks rest →
        Uses (Says at (Statement-F.Using line) ∷ forms) (line ∷ lines) marks rest
    directs_use : {d : Directive} {lines : List Use} {marks : List Directive} {forms rest : List Form} → IsHeadDirective d → Uses forms lines marks rest →
        Uses (Directs d ∷ forms) lines (d ∷ marks) rest

  -- IMPLICIT NONE, once or not at all
  pub data Implicit : List Form → List Form → Type 0 where
    unsaid : {rest : List Form} → Implicit rest rest
    said : {at : Place} {rest : List Form} → Implicit (Says at Statement-F.ImplicitNone ∷ rest) rest

  -- declarations, a line of which may declare several names, with the directives among them
  pub data Declares : List Form → List Decl → List Directive → List Form → Type 0 where
    no_more_decls : {rest : List Form} → Declares rest [] [] rest
    declares : {at : Place} {line decls : List Decl} {marks : List Directive} {forms rest : List Form} → IsTrue (list_all is_entity line) → Declares forms decls marks rest →
        Declares (Says at (Statement-F.Declare line) ∷ forms) (line ++ decls) marks rest
    directs_decl : {d : Directive} {decls : List Decl} {marks : List Directive} {forms rest : List Form} → IsHeadDirective d → Declares forms decls marks rest →
        Declares (Directs d ∷ forms) decls (d ∷ marks) rest

  -- `!$acc routine seq`, once or not at all, directly behind the declarations of a target text
  pub data Marked : List Form → List Directive → List Form → Type 0 where
    unmarked : {rest : List Form} → Marked rest [] rest
    marked : {d : Directive} {rest : List Form} → mode ≡ Target → IsTrue (is_routine d.word) → Marked (Directs d ∷ rest) (d ∷ []) rest

  -- `define` and `parallelize` come as a pair, in either order, and in a SUBROUTINE alone
  pub data Paired : List Directive → Type 0 where
    unpaired : Paired []
    defined_first : {a b : Directive} → IsTrue (is_define a.word) → IsTrue (is_parallelize b.word) → Paired (a ∷ b ∷ [])
    defined_last : {a b : Directive} → IsTrue (is_parallelize a.word) → IsTrue (is_define b.word) → Paired (a ∷ b ∷ [])

  -- what stands behind a header, up to the first statement
  pub record Head-part (forms : List Form) (lines : List Use) (decls : List Decl) (pair mark : List Directive) (rest : List Form) : Type 0 where
    pub after_uses : List Form
    pub after_implicit : List Form
    pub after_decls : List Form
    pub among_uses : List Directive
    pub among_decls : List Directive
    pub used : Uses forms lines among_uses after_uses
    pub implicit : Implicit after_uses after_implicit
    pub declared : Declares after_implicit decls among_decls after_decls
    pub paired : pair ≡ among_uses ++ among_decls
    pub marked : Marked after_decls mark rest

  -- Units

  -- An END of a unit or a module: bare, or with its word, and behind the word its name. It stands in the file of the header.
  pub data Ends (word : EndWord) (name : List ℕ) (header : Place) : Form → Type 0 where
    bare : {at : Place} → at.file ≡ header.file → Ends word name header (Says at (Statement-F.End None None))
    with_word : {at : Place} → at.file ≡ header.file → Ends word name header (Says at (Statement-F.End (Some word) None))
    with_name : {at : Place} → at.file ≡ header.file → Ends word name header (Says at (Statement-F.End (Some word) (Some name)))

  -- the name of a function's result: where RESULT is absent that of the function
  abbrev pub result_or_name : Named → Option Named → Named
  result_or_name name None = name
  result_or_name name (Some result) = result

  -- a type before FUNCTION declares the result
  abbrev pub prefix_decl : Named → Option (Kind × Place) → List Decl
  prefix_decl result None = []
  prefix_decl result (Some prefix) = record { name = result.name; at = prefix.1; kind = prefix.0; intent = None; shape = []; value = None } ∷ []

  -- a unit of the module with this number, or an external one
  pub data IsUnit (host : Option ℕ) : List Form → unit.Unit → List Form → Type 0 where
    subroutine : {at : Place} {name : Named} {dummies : List Named} {lines : List Use} {decls : List Decl} {pair mark : List Directive} {body : List Stmt}
        {head inside rest : List Form} {end : Form} →
        Head-part head lines decls pair mark inside → Paired pair → Body in_unit inside body (end ∷ rest) → Ends word.Subroutine name.name at end →
        IsUnit host (Says at (Statement-F.Subroutine name dummies) ∷ head)
        (record { name = name.name; at = name.at; dummies = dummies; result = None; uses = lines; decls = decls; marks = pair ++ mark; body = body; host = host }) rest
    function : {at : Place} {prefix : Option (Kind × Place)} {name : Named} {dummies : List Named} {result : Option Named} {lines : List Use} {decls : List Decl} {mark : List Directive} {body : List Stmt}
        {head inside rest : List Form} {end : Form} →
        Head-part head lines decls [] mark inside → Body in_unit inside body (end ∷ rest) → Ends word.Function name.name at end →
        IsUnit host (Says at (Statement-F.Function prefix name dummies result) ∷ head)
        (record {
          name = name.name;
          at = name.at;
          dummies = dummies;
          result = Some (result_or_name name result);
          uses = lines;
          decls = prefix_decl (result_or_name name result) prefix ++ decls;
          marks = mark;
          body = body;
          host = host;
        }) rest

  pub data AreUnits (host : Option ℕ) : List Form → List unit.Unit → List Form → Type 0 where
    no_more_units : {rest : List Form} → AreUnits host rest [] rest
    a_unit : {forms next rest : List Form} {u : unit.Unit} {us : List unit.Unit} → IsUnit host forms u next → AreUnits host next us rest → AreUnits host forms (u ∷ us) rest

  -- CONTAINS and the units of a module, or neither; CONTAINS may be followed by none
  pub data Contained (number : ℕ) : List Form → List unit.Unit → List Form → Type 0 where
    contains_none : {rest : List Form} → Contained number rest [] rest
    contains : {at : Place} {forms rest : List Form} {us : List unit.Unit} → AreUnits (Some number) forms us rest → Contained number (Says at Statement-F.Contains ∷ forms) us rest

  -- a module, its number and its units
  pub data IsModule (number : ℕ) : List Form → Module → List unit.Unit → List Form → Type 0 where
    a_module : {at : Place} {name : Named} {lines : List Use} {decls : List Decl} {us : List unit.Unit} {head inside rest : List Form} {end : Form} →
        Head-part head lines decls [] [] inside → Contained number inside us (end ∷ rest) → Ends word.Module name.name at end →
        IsModule number (Says at (Statement-F.Module name) ∷ head) (record { name = name.name; at = name.at; uses = lines; decls = decls }) us rest

  -- The top level. Modules and units are numbered in the order of the text, those before these forms being so many.
  pub data Nests_from : ℕ → ℕ → List Form → List Module → List unit.Unit → List Item → Type 0 where
    no_more : {m u : ℕ} → Nests_from m u [] [] [] []
    module_first : {m u : ℕ} {forms rest : List Form} {a : Module} {ms : List Module} {us vs : List unit.Unit} {order : List Item} →
        IsModule m forms a us rest → Nests_from (suc m) (u + length us) rest ms vs order →
        Nests_from m u forms (a ∷ ms) (us ++ vs) (item.Module m ∷ order)
    unit_first : {m u : ℕ} {forms rest : List Form} {ms : List Module} {a : unit.Unit} {vs : List unit.Unit} {order : List Item} →
        IsUnit None forms a rest → Nests_from m (suc u) rest ms vs order →
        Nests_from m u forms ms (a ∷ vs) (item.Unit u ∷ order)

-- these forms nest into the file
abbrev pub Nests : Mode → List Form → File → Type 0
Nests mode forms file = Nests_from mode 0 0 forms file.modules file.units file.order
