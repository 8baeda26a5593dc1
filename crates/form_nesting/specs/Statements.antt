-- What the forms between a unit's declarations and its end do to the statements so far. What the forms nest into is not said here: `Nests` says it.
use Rattle.std.specs.Prelude.{false, is_some, List, [], ◌∷◌, ◌++◌, Option, Some, None}
use Rattle.std.specs.Option.{option_and_then}
use Rattle.fort_tree.specs.declared.expr.Expr.{Expr}
use Rattle.fort_tree.specs.declared.expr.Sub.{Sub}
use Rattle.fort_tree.specs.declared.place.Place.{Place}
use Rattle.fort_tree.specs.declared.statement.Statement.{Statement}
use Rattle.fort_tree.specs.declared.statement.Statement.TheOpen.{Statement-F}
use Rattle.fort_tree.specs.declared.stmt.Head.{Head}
use Rattle.fort_tree.specs.declared.stmt.Named.{Named}
use Rattle.fort_tree.specs.declared.stmt.Stmt.{Stmt}
use Rattle.fort_tree.specs.declared.stmt.Stmt.TheVariants as tree
use Rattle.sound_programs.specs.Nesting.{arm}
use Rattle.form_nesting.specs.declared.construct.Construct.{Construct}
use Rattle.form_nesting.specs.declared.construct.Construct.TheVariants as construct
use Rattle.form_nesting.specs.declared.construct.Heading.{Heading}
use Rattle.form_nesting.specs.declared.construct.Heading.TheVariants as heading
use Rattle.form_nesting.specs.declared.statements.Statements.{Statements}
use Rattle.form_nesting.specs.declared.statements.Frame.{Frame}
use Rattle.form_nesting.specs.Constructs.{no_arms, no_cases, with_arm, with_case}

abbrev pub begun : Statements
begun = record { body = []; frames = []; waiting = None }

abbrev pub with_statement : Stmt → Statements → Statements
with_statement s ss = record ss { body = ss.body ++ s ∷ [] }

-- inside a construct that begins here
abbrev pub within : Construct → Statements → Statements
within c ss = record { body = []; frames = record { before = ss.body; construct = c } ∷ ss.frames; waiting = ss.waiting }

-- the innermost construct, its innermost list, and the statements without it
pub record Left : Type 0 where
  pub construct : Construct
  pub body : List Stmt
  pub outside : Statements

abbrev pub left_of : Statements → List Frame → Option Left
left_of ss [] = None
left_of ss (f ∷ fs) = Some (record { construct = f.construct; body = ss.body; outside = record { body = f.before; frames = fs; waiting = ss.waiting } })

abbrev pub left : Statements → Option Left
left ss = left_of ss ss.frames

abbrev pub simple : Place → Statement-F Statement → Option Stmt
simple at (Statement-F.Assign left right) = Some (tree.Assign at left right)
simple at (Statement-F.Call name args) = Some (tree.Call at name args false)
simple at Statement-F.Exit = Some (tree.Exit at)
simple at Statement-F.Cycle = Some (tree.Cycle at)
simple at Statement-F.Return = Some (tree.Return at)
simple at other = None

abbrev pub call_behind : Place → Named → List Sub → Statements → Statements
call_behind at name args ss = with_statement (tree.Call at name args (is_some ss.waiting)) (record ss { waiting = None })

abbrev pub do_behind : Place → Head → Statements → Statements
do_behind at head ss = within (construct.Do at head ss.waiting) (record ss { waiting = None })

abbrev pub if_then : Place → Expr → Statements → Statements
if_then at test ss = within (construct.If at no_arms (Some test)) ss

abbrev pub if_action : Place → Expr → Stmt → Statements → Statements
if_action at test s ss = with_statement (tree.If at (arm test (s ∷ []) ∷ []) None) ss

abbrev pub selects : Place → Expr → Statements → Statements
selects at on ss = within (construct.Select at on no_cases heading.Nothing) ss

abbrev pub end_do_of : Construct → List Stmt → Statements → Option Statements
end_do_of (construct.Do at head mark) body ss = Some (with_statement (tree.Loop at head body mark) ss)
end_do_of other body ss = None

abbrev pub end_do : Statements → Option Statements
end_do ss = option_and_then (λ l. end_do_of l.construct l.body l.outside) (left ss)

abbrev pub end_block_of : Construct → List Stmt → Statements → Option Statements
end_block_of (construct.Block mark) body ss = Some (with_statement (tree.Block mark.at mark body) ss)
end_block_of other body ss = None

abbrev pub end_block : Statements → Option Statements
end_block ss = option_and_then (λ l. end_block_of l.construct l.body l.outside) (left ss)

abbrev pub next_arm_of : Option Expr → Construct → List Stmt → Statements → Option Statements
next_arm_of test (construct.If at arms last) body ss = Some (within (construct.If at (with_arm last body arms) test) ss)
next_arm_of test other body ss = None

abbrev pub next_arm : Option Expr → Statements → Option Statements
next_arm test ss = option_and_then (λ l. next_arm_of test l.construct l.body l.outside) (left ss)

abbrev pub end_if_of : Construct → List Stmt → Statements → Option Statements
end_if_of (construct.If at arms test) body ss = Some (with_statement (tree.If at (with_arm test body arms).list (with_arm test body arms).other) ss)
end_if_of other body ss = None

abbrev pub end_if : Statements → Option Statements
end_if ss = option_and_then (λ l. end_if_of l.construct l.body l.outside) (left ss)

abbrev pub next_case_of : Heading → Construct → List Stmt → Statements → Option Statements
next_case_of next (construct.Select at on cases last) body ss = Some (within (construct.Select at on (with_case last body cases) next) ss)
next_case_of next other body ss = None

abbrev pub next_case : Heading → Statements → Option Statements
next_case next ss = option_and_then (λ l. next_case_of next l.construct l.body l.outside) (left ss)

abbrev pub end_select_of : Construct → List Stmt → Statements → Option Statements
end_select_of (construct.Select at on cases last) body ss = Some (with_statement (tree.Select at on (with_case last body cases).list (with_case last body cases).other) ss)
end_select_of other body ss = None

abbrev pub end_select : Statements → Option Statements
end_select ss = option_and_then (λ l. end_select_of l.construct l.body l.outside) (left ss)
