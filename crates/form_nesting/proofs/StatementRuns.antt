-- Forms that are statements leave the statements that they nest into.
use Rattle.std.proofs.Common.{◌≡◌, List, [], ◌∷◌, ◌++◌, Option, None, Some, true, refl, sym, ap, ◌∙◌}
use Rattle.std.specs.Option.{option_and_then}
use Rattle.std.proofs.lemmas.Bool.{false≢true}
use Rattle.std.proofs.lemmas.List.{append_assoc, append-nil}
use Rattle.fort_tree.specs.declared.choice.Mode.{Mode}
use Rattle.fort_tree.specs.declared.choice.Mode.TheVariants.{Source, Target}
use Rattle.fort_tree.specs.declared.expr.Expr.{Expr}
use Rattle.fort_tree.specs.declared.place.Place.{Place}
use Rattle.fort_tree.specs.declared.statement.Statement.{Statement}
use Rattle.fort_tree.specs.declared.statement.Statement.TheOpen.{Statement-F}
use Rattle.fort_tree.specs.declared.stmt.Arm as tree_arm
use Rattle.fort_tree.specs.declared.stmt.Case as tree_case
use Rattle.fort_tree.specs.declared.stmt.Directive.{Directive}
use Rattle.fort_tree.specs.declared.stmt.DirectiveWord.{DirectiveWord}
use Rattle.fort_tree.specs.declared.stmt.DirectiveWord.TheVariants.{Forward, Fusion, Interchange, Hoist, EndHoist, Transform, EndTransform, Cache, OpenMpLoop, OpenAccLoop}
use Rattle.fort_tree.specs.declared.stmt.Stmt.{Stmt}
use Rattle.fort_tree.specs.declared.stmt.Stmt.TheVariants as tree
use Rattle.sound_programs.specs.Forms.{Form, Says, Directs, is_forward, is_before_loop, begins_block, ends_block}
use Rattle.sound_programs.specs.Nesting.{Inside, arm, case, Simple, assigns, calls, exits, cycles, returns, Body, done, more, One, simple, forwarded, if_action, if_then, selects, loops, directed, block, Arms, end_if, else_last, else_if, Cases, end_select, case_of, default}
use Rattle.form_nesting.specs.declared.construct.Cases as open_cases
use Rattle.form_nesting.specs.declared.construct.Construct.TheVariants as construct
use Rattle.form_nesting.specs.declared.construct.Heading.{Heading}
use Rattle.form_nesting.specs.declared.construct.Heading.TheVariants as heading
use Rattle.form_nesting.specs.declared.nest.Nest.{Nest}
use Rattle.form_nesting.specs.declared.role.Role.{Role}
use Rattle.form_nesting.specs.declared.role.Role.TheVariants.{Before, Begins, Ends}
use Rattle.form_nesting.specs.declared.statements.Frame.{Frame}
use Rattle.form_nesting.specs.Constructs.{no_cases, with_case}
use Rattle.form_nesting.specs.Statements.{simple as simple_of}
use Rattle.form_nesting.specs.Steps.{act, say, role as role_of, directed as directed_by}
use Rattle.form_nesting.specs.Runs.{run}

forward_waits : (mode : Mode) (w : DirectiveWord) → is_forward mode w ≡ true → role_of w ≡ Before
forward_waits Source Forward h = refl
forward_waits mode w h = absurd (false≢true h)

directive_waits : (mode : Mode) (w : DirectiveWord) → is_before_loop mode w ≡ true → role_of w ≡ Before
directive_waits Source Forward h = refl
directive_waits Source Fusion h = refl
directive_waits Source Interchange h = refl
directive_waits Source Cache h = refl
directive_waits Target OpenMpLoop h = refl
directive_waits Target OpenAccLoop h = refl
directive_waits mode w h = absurd (false≢true h)

block_begins : (mode : Mode) (w : DirectiveWord) → begins_block mode w ≡ true → role_of w ≡ Begins
block_begins Source Hoist h = refl
block_begins Source Transform h = refl
block_begins mode w h = absurd (false≢true h)

block_ends : (w end : DirectiveWord) → ends_block w end ≡ true → role_of end ≡ Ends
block_ends w EndHoist h = refl
block_ends w EndTransform h = refl
block_ends Hoist end h = absurd (false≢true h)
block_ends Transform end h = absurd (false≢true h)
block_ends w end h = absurd (false≢true h)

-- inside these constructs, behind these statements
abbrev pub inside : Nest → List Frame → List Stmt → Nest
inside n frames body = record n { statements = record { body = body; frames = frames; waiting = None } }

simple_is : {around : Inside} {at : Place} {level : Statement-F Statement} {s : Stmt} → Simple around at level s → simple_of at level ≡ Some s
simple_is (assigns left right h) = refl
simple_is (calls name args) = refl
simple_is (exits h) = refl
simple_is (cycles h) = refl
simple_is (returns h) = refl

simple_said : {around : Inside} {at : Place} {level : Statement-F Statement} {s : Stmt} (n : Nest) (fs : List Frame) (before : List Stmt) → Simple around at level s →
    say at level (inside n fs before) ≡ Some (inside n fs (before ++ s ∷ []))
simple_said n fs before (assigns left right h) = refl
simple_said n fs before (calls name args) = refl
simple_said n fs before (exits h) = refl
simple_said n fs before (cycles h) = refl
simple_said n fs before (returns h) = refl

-- a directive has the part that its word has
pub part : (d : Directive) (r : Role) (rest : List Form) (n : Nest) → role_of d.word ≡ r → run (Directs d ∷ rest) n ≡ option_and_then (run rest) (directed_by r d n)
part d r rest n e = ap (λ w. option_and_then (run rest) (directed_by w d n)) e

-- of two blocks behind CASE DEFAULT the later one
abbrev later : Option (List Stmt) → Option (List Stmt) → Option (List Stmt)
later first None = first
later first (Some body) = Some body

later-none : (other : Option (List Stmt)) → later None other ≡ other
later-none None = refl
later-none (Some body) = refl

module _ (mode : Mode) where
  mutual
    pub body_run : {around : Inside} {forms rest : List Form} {ss : List Stmt} → Body mode around forms ss rest → (n : Nest) (fs : List Frame) (before : List Stmt) →
        run forms (inside n fs before) ≡ run rest (inside n fs (before ++ ss))
    body_run {rest = rest} done n fs before = ap (λ b. run rest (inside n fs b)) (sym (append-nil before))
    body_run {rest = rest} (more {s = s} {ss = ss} one body) n fs before =
        one_run one n fs before ∙ (body_run body n fs (before ++ s ∷ []) ∙ ap (λ b. run rest (inside n fs b)) (append_assoc before (s ∷ []) ss))

    one_run : {around : Inside} {forms rest : List Form} {s : Stmt} → One mode around forms s rest → (n : Nest) (fs : List Frame) (before : List Stmt) →
        run forms (inside n fs before) ≡ run rest (inside n fs (before ++ s ∷ []))
    one_run (simple {rest = rest} h) n fs before = ap (option_and_then (run rest)) (simple_said n fs before h)
    one_run (forwarded {d = d} {at = at} {name = name} {args = args} {rest = rest} h) n fs before =
        part d Before (Says at (Statement-F.Call name args) ∷ rest) (inside n fs before) (forward_waits mode d.word h)
    one_run (if_action {at = at} {test = test} {rest = rest} h) n fs before =
        ap (λ o. option_and_then (run rest) (act at test o (inside n fs before))) (simple_is h)
    one_run (if_then {at = at} {test = test} {body = body} b arms) n fs before =
        body_run b n (record { before = before; construct = construct.If at (record { list = []; other = None }) (Some test) } ∷ fs) []
        ∙ arms_run arms n fs before at [] test body
    one_run (selects {at = at} {on = on} {cases = cases} {other = other} {rest = rest} c) n fs before =
        cases_run c n fs before at on no_cases heading.Nothing []
        ∙ ap (λ o. run rest (inside n fs (before ++ tree.Select at on cases o ∷ []))) (later-none other)
    one_run (loops {at = at} {head = head} b) n fs before = body_run b n (record { before = before; construct = construct.Do at head None } ∷ fs) []
    one_run (directed {d = d} {at = at} {head = head} {inside = forms} h b) n fs before =
        part d Before (Says at (Statement-F.Do head) ∷ forms) (inside n fs before) (directive_waits mode d.word h)
        ∙ body_run b n (record { before = before; construct = construct.Do at head (Some d) } ∷ fs) []
    one_run (block {d = d} {end = end} {body = body} {inside = forms} {rest = rest} h e b) n fs before =
        part d Begins forms (inside n fs before) (block_begins mode d.word h)
        ∙ (body_run b n (record { before = before; construct = construct.Block d } ∷ fs) []
        ∙ part end Ends rest (inside n (record { before = before; construct = construct.Block d } ∷ fs) body) (block_ends d.word end.word e))

    arms_run : {around : Inside} {forms rest : List Form} {arms : List tree_arm.Arm} {other : Option (List Stmt)} → Arms mode around forms arms other rest →
        (n : Nest) (fs : List Frame) (before : List Stmt) (at : Place) (first : List tree_arm.Arm) (test : Expr) (body : List Stmt) →
        run forms (inside n (record { before = before; construct = construct.If at (record { list = first; other = None }) (Some test) } ∷ fs) body)
        ≡ run rest (inside n fs (before ++ tree.If at (first ++ arm test body ∷ arms) other ∷ []))
    arms_run end_if n fs before at first test body = refl
    arms_run (else_last b) n fs before at first test body =
        body_run b n (record { before = before; construct = construct.If at (record { list = first ++ arm test body ∷ []; other = None }) None } ∷ fs) []
    arms_run {rest = rest} {other = other} (else_if {test = next} {body = inner} {arms = arms} b more_arms) n fs before at first test body =
        body_run b n (record { before = before; construct = construct.If at (record { list = first ++ arm test body ∷ []; other = None }) (Some next) } ∷ fs) []
        ∙ (arms_run more_arms n fs before at (first ++ arm test body ∷ []) next inner
        ∙ ap (λ l. run rest (inside n fs (before ++ tree.If at l other ∷ []))) (append_assoc first (arm test body ∷ []) (arm next inner ∷ arms)))

    cases_run : {around : Inside} {forms rest : List Form} {cases : List tree_case.Case} {other : Option (List Stmt)} → Cases mode around forms cases other rest →
        (n : Nest) (fs : List Frame) (before : List Stmt) (at : Place) (on : Expr) (first : open_cases.Cases) (head : Heading) (body : List Stmt) →
        run forms (inside n (record { before = before; construct = construct.Select at on first head } ∷ fs) body)
        ≡ run rest (inside n fs (before ++ tree.Select at on ((with_case head body first).list ++ cases) (later (with_case head body first).other other) ∷ []))
    cases_run {rest = rest} end_select n fs before at on first head body =
        ap (λ l. run rest (inside n fs (before ++ tree.Select at on l (with_case head body first).other ∷ []))) (sym (append-nil (with_case head body first).list))
    cases_run {rest = rest} {other = other} (case_of {ranges = ranges} {body = inner} {cases = cases} h b more_cases) n fs before at on first head body =
        body_run b n (record { before = before; construct = construct.Select at on (with_case head body first) (heading.Ranges ranges) } ∷ fs) []
        ∙ (cases_run more_cases n fs before at on (with_case head body first) (heading.Ranges ranges) inner
        ∙ ap (λ l. run rest (inside n fs (before ++ tree.Select at on l (later (with_case head body first).other other) ∷ [])))
        (append_assoc (with_case head body first).list (case ranges inner ∷ []) cases))
    cases_run (default {body = inner} b more_cases) n fs before at on first head body =
        body_run b n (record { before = before; construct = construct.Select at on (with_case head body first) heading.Default } ∷ fs) []
        ∙ cases_run more_cases n fs before at on (with_case head body first) heading.Default inner
