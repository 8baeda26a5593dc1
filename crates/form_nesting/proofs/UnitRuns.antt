-- Forms that are units and modules leave the units and modules that they nest into.
use Rattle.std.proofs.Common.{◌≡◌, ℕ, length, List, [], ◌∷◌, ◌++◌, Option, None, Some, Bool, true, false, refl, sym, ap, ◌∙◌, inl, inr}
use Rattle.std.specs.Option.{option_and_then}
use Rattle.std.proofs.lemmas.Bool.{false≢true}
use Rattle.std.proofs.lemmas.List.{append_assoc, append-nil}
use Rattle.fort_arith.specs.declared.kind.Kind.{Kind}
use Rattle.fort_tree.specs.declared.choice.Mode.{Mode}
use Rattle.fort_tree.specs.declared.place.Place.{Place}
use Rattle.fort_tree.specs.declared.statement.EndWord.{EndWord}
use Rattle.fort_tree.specs.declared.stmt.Directive.{Directive}
use Rattle.fort_tree.specs.declared.stmt.DirectiveWord.{DirectiveWord}
use Rattle.fort_tree.specs.declared.stmt.DirectiveWord.TheVariants.{Define, Parallelize, Routine}
use Rattle.fort_tree.specs.declared.stmt.Named.{Named}
use Rattle.fort_tree.specs.declared.unit.Decl.{Decl}
use Rattle.fort_tree.specs.declared.unit.File.{File}
use Rattle.fort_tree.specs.declared.unit.Item.{Item}
use Rattle.fort_tree.specs.declared.unit.Item.TheVariants as item
use Rattle.fort_tree.specs.declared.unit.Module.{Module}
use Rattle.fort_tree.specs.declared.unit.Unit as unit
use Rattle.fort_tree.specs.declared.unit.Use.{Use}
use Rattle.sound_programs.specs.Forms.{Form, is_define, is_parallelize, is_routine}
use Rattle.sound_programs.specs.Nesting.{Ends, bare, with_word, with_name, IsHeadDirective, Uses, no_more_uses, uses, directs_use, Implicit, unsaid, said, Declares, no_more_decls, declares, directs_decl, Marked, unmarked, marked, Head-part, result_or_name, prefix_decl, IsUnit, subroutine, function, AreUnits, no_more_units, a_unit, Contained, contains_none, contains, IsModule, a_module}
use Rattle.form_nesting.specs.declared.nest.Nest.{Nest}
use Rattle.form_nesting.specs.declared.role.Role.TheVariants.{OfUnit}
use Rattle.form_nesting.specs.Statements.{begun}
use Rattle.form_nesting.specs.Steps.{host_of, ended, order_with_unit, prefix_decls, role as role_of, result_or_name as outcome_of}
use Rattle.form_nesting.specs.Runs.{run}
use Rattle.form_nesting.proofs.StatementRuns.{inside, body_run, part}

define_is : (w : DirectiveWord) → is_define w ≡ true → role_of w ≡ OfUnit
define_is Define h = refl
define_is w h = absurd (false≢true h)

parallelize_is : (w : DirectiveWord) → is_parallelize w ≡ true → role_of w ≡ OfUnit
parallelize_is Parallelize h = refl
parallelize_is w h = absurd (false≢true h)

routine_is : (w : DirectiveWord) → is_routine w ≡ true → role_of w ≡ OfUnit
routine_is Routine h = refl
routine_is w h = absurd (false≢true h)

-- between units, in a module or in none
abbrev pub between : File → Option Module → Nest
between file host = record { file = file; host = host; unit = None; statements = begun }

-- behind a unit's header, with these declared so far
abbrev heading : File → Option Module → unit.Unit → List Use → List Decl → List Directive → Nest
heading file host u us ds ms = record { file = file; host = host; unit = Some (record u { uses = us; decls = ds; marks = ms }); statements = begun }

-- behind a module's header
abbrev opening : File → Module → List Use → List Decl → Nest
opening file m us ds = between file (Some (record m { uses = us; decls = ds }))

is_empty : List Directive → Bool
is_empty [] = true
is_empty (d ∷ ds) = false

some_is_not_none : (d : Directive) (ds : List Directive) → d ∷ ds ≡ [] → ⊥
unfolding is_empty
some_is_not_none d ds e = false≢true (ap is_empty e)

both_empty : (ds es : List Directive) → ds ++ es ≡ [] → (ds ≡ []) × (es ≡ [])
both_empty [] es e = (refl, e)
both_empty (d ∷ ds) es e = absurd (some_is_not_none d (ds ++ es) e)

-- the unit of the module with this number, or an external one, behind the others
abbrev pub added : Option ℕ → unit.Unit → File → File
added host u file = record { modules = file.modules; units = file.units ++ u ∷ []; order = order_with_unit host (length file.units) file.order }

outcomes_are : (mode : Mode) (name : Named) (outcome : Option Named) → outcome_of name outcome ≡ result_or_name mode name outcome
outcomes_are mode name None = refl
outcomes_are mode name (Some outcome) = refl

prefixes_are : (mode : Mode) (name : Named) (prefix : Option (Kind × Place)) → prefix_decls name prefix ≡ prefix_decl mode name prefix
prefixes_are mode name None = refl
prefixes_are mode name (Some prefix) = refl

module _ (mode : Mode) where
  head_directive : (d : Directive) → IsHeadDirective mode d → role_of d.word ≡ OfUnit
  head_directive d (source, inl h) = define_is d.word h
  head_directive d (source, inr h) = parallelize_is d.word h

  uses_run : {forms rest : List Form} {lines : List Use} {marks : List Directive} → Uses mode forms lines marks rest →
      (file : File) (host : Option Module) (u : unit.Unit) (us : List Use) (ds : List Decl) (ms : List Directive) →
      run forms (heading file host u us ds ms) ≡ run rest (heading file host u (us ++ lines) ds (ms ++ marks))
  uses_run {rest = rest} no_more_uses file host u us ds ms = sym (λ i. run rest (heading file host u (append-nil us i) ds (append-nil ms i)))
  uses_run {rest = rest} {marks = marks} (uses {line = line} {lines = lines} others) file host u us ds ms =
      uses_run others file host u (us ++ line ∷ []) ds ms
      ∙ ap (λ l. run rest (heading file host u l ds (ms ++ marks))) (append_assoc us (line ∷ []) lines)
  uses_run {rest = rest} {lines = lines} (directs_use {d = d} {marks = marks} {forms = forms} h others) file host u us ds ms =
      part d OfUnit forms (heading file host u us ds ms) (head_directive d h)
      ∙ (uses_run others file host u us ds (ms ++ d ∷ [])
      ∙ ap (λ l. run rest (heading file host u (us ++ lines) ds l)) (append_assoc ms (d ∷ []) marks))

  implicit_run : {forms rest : List Form} → Implicit mode forms rest → (n : Nest) → run forms n ≡ run rest n
  implicit_run unsaid n = refl
  implicit_run said n = refl

  declares_run : {forms rest : List Form} {decls : List Decl} {marks : List Directive} → Declares mode forms decls marks rest →
      (file : File) (host : Option Module) (u : unit.Unit) (us : List Use) (ds : List Decl) (ms : List Directive) →
      run forms (heading file host u us ds ms) ≡ run rest (heading file host u us (ds ++ decls) (ms ++ marks))
  declares_run {rest = rest} no_more_decls file host u us ds ms = sym (λ i. run rest (heading file host u us (append-nil ds i) (append-nil ms i)))
  declares_run {rest = rest} {marks = marks} (declares {line = line} {decls = decls} h others) file host u us ds ms =
      declares_run others file host u us (ds ++ line) ms
      ∙ ap (λ l. run rest (heading file host u us l (ms ++ marks))) (append_assoc ds line decls)
  declares_run {rest = rest} {decls = decls} (directs_decl {d = d} {marks = marks} {forms = forms} h others) file host u us ds ms =
      part d OfUnit forms (heading file host u us ds ms) (head_directive d h)
      ∙ (declares_run others file host u us ds (ms ++ d ∷ [])
      ∙ ap (λ l. run rest (heading file host u us (ds ++ decls) l)) (append_assoc ms (d ∷ []) marks))

  marked_run : {forms rest : List Form} {mark : List Directive} → Marked mode forms mark rest →
      (file : File) (host : Option Module) (u : unit.Unit) (us : List Use) (ds : List Decl) (ms : List Directive) →
      run forms (heading file host u us ds ms) ≡ run rest (heading file host u us ds (ms ++ mark))
  marked_run {rest = rest} unmarked file host u us ds ms = ap (λ l. run rest (heading file host u us ds l)) (sym (append-nil ms))
  marked_run (marked {d = d} {rest = rest} target h) file host u us ds ms = part d OfUnit rest (heading file host u us ds ms) (routine_is d.word h)

  head_run : {forms rest : List Form} {lines : List Use} {decls : List Decl} {pair mark : List Directive} → Head-part mode forms lines decls pair mark rest →
      (file : File) (host : Option Module) (u : unit.Unit) (ds : List Decl) →
      run forms (heading file host u [] ds []) ≡ run rest (heading file host u lines (ds ++ decls) (pair ++ mark))
  head_run {rest = rest} {lines = lines} {decls = decls} {mark = mark} h file host u ds =
      uses_run h.used file host u [] ds []
      ∙ (implicit_run h.implicit (heading file host u lines ds h.among_uses)
      ∙ (declares_run h.declared file host u lines ds h.among_uses
      ∙ (marked_run h.marked file host u lines (ds ++ decls) (h.among_uses ++ h.among_decls)
      ∙ ap (λ l. run rest (heading file host u lines (ds ++ decls) (l ++ mark))) (sym h.paired))))

  -- ---- The head of a module, which has no directives

  uses_of_module : {forms rest : List Form} {lines : List Use} {marks : List Directive} → Uses mode forms lines marks rest → marks ≡ [] →
      (file : File) (m : Module) (us : List Use) (ds : List Decl) → run forms (opening file m us ds) ≡ run rest (opening file m (us ++ lines) ds)
  uses_of_module {rest = rest} no_more_uses e file m us ds = ap (λ l. run rest (opening file m l ds)) (sym (append-nil us))
  uses_of_module {rest = rest} (uses {line = line} {lines = lines} others) e file m us ds =
      uses_of_module others e file m (us ++ line ∷ []) ds
      ∙ ap (λ l. run rest (opening file m l ds)) (append_assoc us (line ∷ []) lines)
  uses_of_module (directs_use {d = d} {marks = marks} h others) e file m us ds = absurd (some_is_not_none d marks e)

  decls_of_module : {forms rest : List Form} {decls : List Decl} {marks : List Directive} → Declares mode forms decls marks rest → marks ≡ [] →
      (file : File) (m : Module) (us : List Use) (ds : List Decl) → run forms (opening file m us ds) ≡ run rest (opening file m us (ds ++ decls))
  decls_of_module {rest = rest} no_more_decls e file m us ds = ap (λ l. run rest (opening file m us l)) (sym (append-nil ds))
  decls_of_module {rest = rest} (declares {line = line} {decls = decls} h others) e file m us ds =
      decls_of_module others e file m us (ds ++ line)
      ∙ ap (λ l. run rest (opening file m us l)) (append_assoc ds line decls)
  decls_of_module (directs_decl {d = d} {marks = marks} h others) e file m us ds = absurd (some_is_not_none d marks e)

  unmarked_run : {forms rest : List Form} {mark : List Directive} → Marked mode forms mark rest → mark ≡ [] → (n : Nest) → run forms n ≡ run rest n
  unmarked_run unmarked e n = refl
  unmarked_run (marked {d = d} target h) e n = absurd (some_is_not_none d [] e)

  head_of_module : {forms rest : List Form} {lines : List Use} {decls : List Decl} → Head-part mode forms lines decls [] [] rest →
      (file : File) (m : Module) → run forms (opening file m [] []) ≡ run rest (opening file m lines decls)
  head_of_module {lines = lines} {decls = decls} h file m =
      let none : _ × _ = both_empty h.among_uses h.among_decls (sym h.paired) in
      uses_of_module h.used none.0 file m [] []
      ∙ (implicit_run h.implicit (opening file m lines [])
      ∙ (decls_of_module h.declared none.1 file m lines []
      ∙ unmarked_run h.marked refl (opening file m lines decls)))

  -- ---- Units

  end_run : {w : EndWord} {name : List ℕ} {header : Place} {end : Form} (rest : List Form) (n : Nest) → Ends mode w name header end → run (end ∷ rest) n ≡ option_and_then (run rest) (ended n)
  end_run rest n (bare e) = refl
  end_run rest n (with_word e) = refl
  end_run rest n (with_name e) = refl

  pub unit_run : {forms rest : List Form} {u : unit.Unit} (file : File) (m : Option Module) → IsUnit mode (host_of (between file m)) forms u rest →
      run forms (between file m) ≡ run rest (between (added (host_of (between file m)) u file) m)
  unit_run file m (subroutine {name = name} {dummies = dummies} {lines = lines} {decls = decls} {pair = pair} {mark = mark} {body = body} {rest = rest} h p b e) =
      let u : unit.Unit = record { name = name.name; at = name.at; dummies = dummies; result = None; uses = []; decls = []; marks = []; body = []; host = host_of (between file m) } in
      head_run h file m u []
      ∙ (body_run mode b (heading file m u lines decls (pair ++ mark)) [] []
      ∙ end_run rest (inside (heading file m u lines decls (pair ++ mark)) [] body) e)
  unit_run file m (function {prefix = prefix} {name = name} {dummies = dummies} {result = outcome} {lines = lines} {decls = decls} {mark = mark} {body = body} {head = head} {rest = rest} h b e) =
      let first : Named → List Decl → unit.Unit = λ o ds. record { name = name.name; at = name.at; dummies = dummies; result = Some o; uses = []; decls = ds; marks = []; body = []; host = host_of (between file m) } in
      let o : Named = result_or_name mode name outcome in
      let ds : List Decl = prefix_decl mode o prefix in
      let u : unit.Unit = first o ds in
      ap (λ x. run head (record (between file m) { unit = Some (first x (prefix_decls x prefix)) })) (outcomes_are mode name outcome)
      ∙ (ap (λ x. run head (record (between file m) { unit = Some (first o x) })) (prefixes_are mode o prefix)
      ∙ (head_run h file m u ds
      ∙ (body_run mode b (heading file m u lines (ds ++ decls) mark) [] []
      ∙ end_run rest (inside (heading file m u lines (ds ++ decls) mark) [] body) e)))

  -- ---- Modules

  units_run : (ms : List Module) (order : List Item) (m : Module) {forms rest : List Form} {us : List unit.Unit} → AreUnits mode (Some (length ms)) forms us rest → (before : List unit.Unit) →
      run forms (between (record { modules = ms; units = before; order = order }) (Some m)) ≡ run rest (between (record { modules = ms; units = before ++ us; order = order }) (Some m))
  units_run ms order m {rest = rest} no_more_units before = ap (λ l. run rest (between (record { modules = ms; units = l; order = order }) (Some m))) (sym (append-nil before))
  units_run ms order m {rest = rest} (a_unit {u = u} {us = us} first others) before =
      unit_run (record { modules = ms; units = before; order = order }) (Some m) first
      ∙ (units_run ms order m others (before ++ u ∷ [])
      ∙ ap (λ l. run rest (between (record { modules = ms; units = l; order = order }) (Some m))) (append_assoc before (u ∷ []) us))

  contained_run : {forms rest : List Form} {us : List unit.Unit} (file : File) (m : Module) → Contained mode (length file.modules) forms us rest →
      run forms (between file (Some m)) ≡ run rest (between (record file { units = file.units ++ us }) (Some m))
  contained_run {rest = rest} file m contains_none = ap (λ l. run rest (between (record file { units = l }) (Some m))) (sym (append-nil file.units))
  contained_run file m (contains us) = units_run file.modules file.order m us file.units

  -- a module and its units behind the others
  abbrev pub joined : Module → List unit.Unit → File → File
  joined m us file = record { modules = file.modules ++ m ∷ []; units = file.units ++ us; order = file.order ++ item.Module (length file.modules) ∷ [] }

  pub module_run : {forms rest : List Form} {a : Module} {us : List unit.Unit} (file : File) → IsModule mode (length file.modules) forms a us rest →
      run forms (between file None) ≡ run rest (between (joined a us file) None)
  module_run {us = us} file (a_module {name = name} {lines = lines} {decls = decls} {rest = rest} h c e) =
      let m : Module = record { name = name.name; at = name.at; uses = []; decls = [] } in
      let a : Module = record { name = name.name; at = name.at; uses = lines; decls = decls } in
      head_of_module h file m
      ∙ (contained_run file a c
      ∙ end_run rest (between (record file { units = file.units ++ us }) (Some a)) e)
