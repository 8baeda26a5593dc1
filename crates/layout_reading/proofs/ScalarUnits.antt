-- What a source says of a unit of column scalars lets its names and sums be written.
use Rattle.std.proofs.Common.{◌≡◌, ℕ, List, [], ◌∷◌, ◌++◌, Option, None, Some, true, false, map, sym, ap, ◌∙◌, subst, Contains}
use Rattle.std.specs.List.{AllByRecursion}
use Rattle.std.proofs.lemmas.List.Elements.{All-from_recursion, All-contains}
use Rattle.fort_tree.specs.declared.choice.Mode.{Mode}
use Rattle.fort_tree.specs.declared.expr.Expr.{Expr}
use Rattle.fort_tree.specs.declared.place.Place.{Place}
use Rattle.fort_tree.specs.declared.statement.Statement.TheOpen.{Statement-F}
use Rattle.fort_tree.specs.declared.stmt.Directive.{Directive}
use Rattle.fort_tree.specs.declared.stmt.Named.{Named}
use Rattle.fort_tree.specs.declared.stmt.Stmt.{Stmt}
use Rattle.fort_tree.specs.declared.unit.Decl.{Decl}
use Rattle.fort_tree.specs.declared.unit.Intent.{Intent}
use Rattle.fort_tree.specs.declared.unit.Unit as tree_unit
use Rattle.fort_tree.specs.declared.unit.Use.{Use}
use Rattle.claw_meaning.specs.Plain.{plain_expr, plain_stmt, plain_stmts, plain_decl, plain_unit, plain_directive}
use Rattle.claw_meaning.specs.Syntax as plain
use Rattle.sound_programs.specs.Forms.{Form, Says, Directs}
use Rattle.sound_programs.specs.Nesting as nesting
use Rattle.sound_programs.specs.Nesting.{Inside, Body, Uses, Implicit, Declares, Marked, Head-part, IsUnit}
use Rattle.column_scalars.proofs.Members.{first_is, later_is}
use Rattle.column_scalars.specs.Scalars.{Scalars, IsScalars, AreSums, source_unit, decls_of, assignments}
use Rattle.layout_reading.specs.WideUnits.{IsFreeName, IsDerived, AreWritable}
use Rattle.layout_reading.proofs.DefineNames.{DefinesFreeNames}
use Rattle.layout_reading.proofs.Elements.{one_item, more_items, each_append}
use Rattle.layout_reading.proofs.FreeNames.{HasFreeName}
use Rattle.layout_reading.proofs.PrintedTrees

-- what is known of a form gives free names and derived sums
pub record GivesNames (Known : Form → Type 0) : Type 0 where
  pub declared : (at : Place) (l : List Decl) → Known (Says at (Statement-F.Declare l)) → AllByRecursion HasFreeName l
  pub assigned : (at : Place) (left right : Expr) → Known (Says at (Statement-F.Assign left right)) → IsDerived (plain_expr right)
  pub named : (at : Place) (name : Named) (dummies : List Named) → Known (Says at (Statement-F.Subroutine name dummies)) → IsFreeName name.name
  pub defined : (d : Directive) → Known (Directs d) → DefinesFreeNames d

-- ---- Heads

module _ (Known : Form → Type 0) (known : GivesNames Known) (mode : Mode) where
  uses_ok : {fs rest : List Form} {lines : List Use} {marks : List Directive} → Uses mode fs lines marks rest → AllByRecursion Known fs → AllByRecursion DefinesFreeNames marks × AllByRecursion Known rest
  uses_ok nesting.no_more_uses h = (tt, h)
  uses_ok (nesting.uses u) h = uses_ok u h.1
  uses_ok (nesting.directs_use d u) h = let k = uses_ok u h.1 in ((known.defined _ h.0, k.0), k.1)

  implicit_ok : {fs rest : List Form} → Implicit mode fs rest → AllByRecursion Known fs → AllByRecursion Known rest
  implicit_ok nesting.unsaid h = h
  implicit_ok nesting.said h = h.1

  record DeclaresOk (decls : List Decl) (marks : List Directive) (rest : List Form) : Type 0 where
    decls_ok : AllByRecursion HasFreeName decls
    marks_ok : AllByRecursion DefinesFreeNames marks
    rest_ok : AllByRecursion Known rest

  declares_ok : {fs rest : List Form} {decls : List Decl} {marks : List Directive} → Declares mode fs decls marks rest → AllByRecursion Known fs → DeclaresOk decls marks rest
  declares_ok nesting.no_more_decls h = record { decls_ok = tt; marks_ok = tt; rest_ok = h }
  declares_ok (nesting.declares {line = line} {decls = decls} e d) h =
      let k = declares_ok d h.1 in record { decls_ok = each_append HasFreeName line decls (known.declared _ line h.0) k.decls_ok; marks_ok = k.marks_ok; rest_ok = k.rest_ok }
  declares_ok (nesting.directs_decl w d) h = let k = declares_ok d h.1 in record { decls_ok = k.decls_ok; marks_ok = (known.defined _ h.0, k.marks_ok); rest_ok = k.rest_ok }

  marked_ok : {fs rest : List Form} {mark : List Directive} → Marked mode fs mark rest → AllByRecursion Known fs → AllByRecursion DefinesFreeNames mark × AllByRecursion Known rest
  marked_ok nesting.unmarked h = (tt, h)
  marked_ok (nesting.marked m w) h = ((known.defined _ h.0, tt), h.1)

  head_ok : {fs rest : List Form} {lines : List Use} {decls : List Decl} {pair mark : List Directive} → Head-part mode fs lines decls pair mark rest → AllByRecursion Known fs → DeclaresOk decls (pair ++ mark) rest
  head_ok {pair = pair} {mark = mark} h k =
      let u = uses_ok h.used k in
      let d = declares_ok h.declared (implicit_ok h.implicit u.1) in
      let m = marked_ok h.marked d.rest_ok in
      let pair_ok : AllByRecursion DefinesFreeNames pair = subst (AllByRecursion DefinesFreeNames) (sym h.paired) (each_append DefinesFreeNames h.among_uses h.among_decls u.0 d.marks_ok) in
      record { decls_ok = d.decls_ok; marks_ok = each_append DefinesFreeNames pair mark pair_ok m.0; rest_ok = m.1 }

  -- ---- Statements

  first_stmt : {s t : plain.Stmt} {ss ts : plain.Stmts} → plain.Then s ss ≡ plain.Then t ts → s ≡ t
  first_stmt e = cc

  more_stmts : {s t : plain.Stmt} {ss ts : plain.Stmts} → plain.Then s ss ≡ plain.Then t ts → ss ≡ ts
  more_stmts e = cc

  no_stmts : {s : plain.Stmt} {ss : plain.Stmts} → plain.Done ≡ plain.Then s ss → ⊥
  no_stmts e = cc

  assigned_of : {a b x y : plain.Expr} → plain.Assign a b ≡ plain.Assign x y → b ≡ y
  assigned_of e = cc

  -- the statement is an assignment of this
  abbrev Assigns : Stmt → plain.Expr → plain.Expr → Type 0
  Assigns s left right = plain_stmt s ≡ plain.Assign left right

  derived_by : {around : Inside} {fs rest : List Form} {s : Stmt} (left right : plain.Expr) → nesting.One mode around fs s rest → AllByRecursion Known fs → Assigns s left right → IsDerived right × AllByRecursion Known rest
  derived_by left right (nesting.simple (nesting.assigns l r e)) h k = (subst IsDerived (assigned_of (sym (PrintedTrees.plain_assign _ l r) ∙ k)) (known.assigned _ l r h.0), h.1)
  derived_by left right (nesting.simple (nesting.calls name args)) h k = let e = sym (PrintedTrees.plain_call _ name args false) ∙ k in absurd cc
  derived_by left right (nesting.simple (nesting.exits e)) h k = let e = sym (PrintedTrees.plain_exit _) ∙ k in absurd cc
  derived_by left right (nesting.simple (nesting.cycles e)) h k = let e = sym (PrintedTrees.plain_cycle _) ∙ k in absurd cc
  derived_by left right (nesting.simple (nesting.returns e)) h k = let e = sym (PrintedTrees.plain_return _) ∙ k in absurd cc
  derived_by left right (nesting.forwarded {at = at} {name = name} {args = args} w) h k = let e = sym (PrintedTrees.plain_call at name args true) ∙ k in absurd cc
  derived_by left right (nesting.if_action {at = at} {test = test} {s = s} a) h k = let e = sym (PrintedTrees.plain_if at (nesting.arm test (s ∷ []) ∷ []) None) ∙ k in absurd cc
  derived_by left right (nesting.if_then {at = at} {test = test} {body = body} {arms = arms} {other = other} b a) h k = let e = sym (PrintedTrees.plain_if at (nesting.arm test body ∷ arms) other) ∙ k in absurd cc
  derived_by left right (nesting.selects {at = at} {on = on} {cases = cases} {other = other} c) h k = let e = sym (PrintedTrees.plain_select at on cases other) ∙ k in absurd cc
  derived_by left right (nesting.loops {at = at} {head = head} {body = body} b) h k = let e = sym (PrintedTrees.plain_loop at head body None) ∙ k in absurd cc
  derived_by left right (nesting.directed {d = d} {at = at} {head = head} {body = body} w b) h k = let e = sym (PrintedTrees.plain_loop at head body (Some d)) ∙ k in absurd cc
  derived_by left right (nesting.block {d = d} {body = body} w v b) h k = let e = sym (PrintedTrees.plain_block d.at d body) ∙ k in absurd cc

  body_ok : (assigned : List (plain.Text × plain.Expr)) {around : Inside} {fs rest : List Form} {ss : List Stmt} → Body mode around fs ss rest → AllByRecursion Known fs → plain_stmts ss ≡ assignments assigned →
      AllByRecursion (λ (a : plain.Text × plain.Expr). IsDerived a.1) assigned
  body_ok [] b h e = tt
  body_ok (a ∷ assigned) nesting.done h e = absurd (no_stmts e)
  body_ok (a ∷ assigned) (nesting.more s others) h e =
      let d = derived_by (plain.Name a.0) a.1 s h (first_stmt e) in (d.0, body_ok assigned others d.1 (more_stmts e))

  -- ---- Units

  declared_free : (declared : List (plain.Text × Intent)) (decls : List Decl) → AllByRecursion HasFreeName decls → map plain_decl decls ≡ decls_of declared → AllByRecursion (λ (d : plain.Text × Intent). IsFreeName d.0) declared
  declared_free [] decls h e = tt
  declared_free (x ∷ declared) [] h e = absurd cc
  declared_free (x ∷ declared) (d ∷ decls) h e =
      (subst IsFreeName (ap (λ (y : plain.Decl). y.name) (one_item e)) h.0, declared_free declared decls h.1 (more_items e))

  names_free : (declared : List (plain.Text × Intent)) → AllByRecursion (λ (d : plain.Text × Intent). IsFreeName d.0) declared → AllByRecursion IsFreeName (map (λ d. d.0) declared)
  names_free [] h = tt
  names_free (x ∷ declared) h = (h.0, names_free declared h.1)

  all_free : (xs : List plain.Text) → ((x : plain.Text) → Contains xs x → IsFreeName x) → AllByRecursion IsFreeName xs
  all_free [] h = tt
  all_free (x ∷ xs) h = (h x (first_is x xs), all_free xs (λ y k. h y (later_is x xs y k)))

  all_assigned : (names : List plain.Text) (assigned : List (plain.Text × plain.Expr)) → ((x : plain.Text) → Contains names x → IsFreeName x) → AreSums names assigned →
      AllByRecursion (λ (a : plain.Text × plain.Expr). IsDerived a.1) assigned → AllByRecursion (λ (a : plain.Text × plain.Expr). IsFreeName a.0 × IsDerived a.1) assigned
  all_assigned names [] f s h = tt
  all_assigned names (a ∷ assigned) f s h = ((f a.0 s.0, h.0), all_assigned names assigned f s.2 h.1)

  first_mark : (u : Scalars) (marks : List Directive) → AllByRecursion DefinesFreeNames marks → map plain_directive marks ≡ (source_unit u).marks → IsFreeName u.id × IsFreeName u.upper
  unfolding DefinesFreeNames
  first_mark u [] h e = absurd cc
  first_mark u (m ∷ marks) h e = h.0 u.id u.lower u.upper (one_item e)

  -- the parts of the unit give what is asked
  of_parts : (u : Scalars) (decls : List Decl) (marks : List Directive) → IsScalars u → IsFreeName u.name → AllByRecursion HasFreeName decls → AllByRecursion DefinesFreeNames marks → map plain_decl decls ≡ decls_of u.declared →
      map plain_directive marks ≡ (source_unit u).marks → AllByRecursion (λ (a : plain.Text × plain.Expr). IsDerived a.1) u.assigned → AreWritable u
  of_parts u decls marks s name d m e k a =
      let marked = first_mark u marks m k in
      let declared = declared_free u.declared decls d e in
      let names = names_free u.declared declared in
      let free : (x : plain.Text) → Contains u.dummies x → IsFreeName x =
      λ x h. All-contains IsFreeName (map (λ d. d.0) u.declared) x (All-from_recursion IsFreeName (map (λ d. d.0) u.declared) names) (s.all_declared x h) in
      record {
        name = name;
        id = marked.0;
        upper = marked.1;
        dummies = All-from_recursion IsFreeName u.dummies (all_free u.dummies free);
        declared = All-from_recursion (λ (d : plain.Text × Intent). IsFreeName d.0) u.declared declared;
        assigned = All-from_recursion (λ (a : plain.Text × plain.Expr). IsFreeName a.0 × IsDerived a.1) u.assigned (all_assigned u.dummies u.assigned free s.assigned a);
      }

  -- the names and sums of such a unit can be written
  pub unit_ok : (u : Scalars) {host : Option ℕ} {fs rest : List Form} {x : tree_unit.Unit} → IsScalars u → IsUnit mode host fs x rest → AllByRecursion Known fs → plain_unit x ≡ source_unit u → AreWritable u
  unit_ok u s (nesting.subroutine {decls = decls} {pair = pair} {mark = mark} h q b e) k same =
      let d = head_ok h k.1 in
      of_parts u decls (pair ++ mark) s (subst IsFreeName (ap (λ (x : plain.Unit). x.name) same) (known.named _ _ _ k.0)) d.decls_ok d.marks_ok (ap (λ (x : plain.Unit). x.decls) same) (ap (λ (x : plain.Unit). x.marks) same)
      (body_ok u.assigned b d.rest_ok (ap (λ (x : plain.Unit). x.body) same))
  unit_ok u s (nesting.function h b e) k same = let r = ap (λ (x : plain.Unit). x.result) same in absurd cc
