-- What holds of each of the forms that nest holds of those that are left.
use Rattle.std.proofs.Common.{List, Option, ℕ}
use Rattle.std.specs.List.{AllByRecursion}
use Rattle.fort_tree.specs.declared.choice.Mode.{Mode}
use Rattle.fort_tree.specs.declared.stmt.Arm.{Arm}
use Rattle.fort_tree.specs.declared.stmt.Case.{Case}
use Rattle.fort_tree.specs.declared.stmt.Directive.{Directive}
use Rattle.fort_tree.specs.declared.stmt.Stmt.{Stmt}
use Rattle.fort_tree.specs.declared.unit.Decl.{Decl}
use Rattle.fort_tree.specs.declared.unit.Module.{Module}
use Rattle.fort_tree.specs.declared.unit.Unit as tree_unit
use Rattle.fort_tree.specs.declared.unit.Use.{Use}
use Rattle.sound_programs.specs.Forms.{Form}
use Rattle.sound_programs.specs.Nesting as nesting
use Rattle.sound_programs.specs.Nesting.{Inside, Body, One, Arms, Cases, Uses, Implicit, Declares, Marked, Head-part, IsUnit, AreUnits, Contained, IsModule}

module _ (mode : Mode) (P : Form → Type 0) where
  abbrev Each : List Form → Type 0
  Each fs = AllByRecursion P fs

  mutual
    pub body_left : {around : Inside} {fs rest : List Form} {ss : List Stmt} → Body mode around fs ss rest → Each fs → Each rest
    body_left nesting.done h = h
    body_left (nesting.more one others) h = body_left others (one_left one h)

    one_left : {around : Inside} {fs rest : List Form} {s : Stmt} → One mode around fs s rest → Each fs → Each rest
    one_left (nesting.simple x) h = h.1
    one_left (nesting.forwarded w) h = h.1.1
    one_left (nesting.if_action x) h = h.1
    one_left (nesting.if_then inside others) h = arms_left others (body_left inside h.1)
    one_left (nesting.selects inside) h = cases_left inside h.1
    one_left (nesting.loops inside) h = (body_left inside h.1).1
    one_left (nesting.directed w inside) h = (body_left inside h.1.1).1
    one_left (nesting.block w v inside) h = (body_left inside h.1).1

    arms_left : {around : Inside} {fs rest : List Form} {arms : List Arm} {other : Option (List Stmt)} → Arms mode around fs arms other rest → Each fs → Each rest
    arms_left nesting.end_if h = h.1
    arms_left (nesting.else_last inside) h = (body_left inside h.1).1
    arms_left (nesting.else_if inside others) h = arms_left others (body_left inside h.1)

    cases_left : {around : Inside} {fs rest : List Form} {cases : List Case} {other : Option (List Stmt)} → Cases mode around fs cases other rest → Each fs → Each rest
    cases_left nesting.end_select h = h.1
    cases_left (nesting.case_of r inside others) h = cases_left others (body_left inside h.1)
    cases_left (nesting.default inside others) h = cases_left others (body_left inside h.1)

  uses_left : {fs rest : List Form} {lines : List Use} {marks : List Directive} → Uses mode fs lines marks rest → Each fs → Each rest
  uses_left nesting.no_more_uses h = h
  uses_left (nesting.uses u) h = uses_left u h.1
  uses_left (nesting.directs_use w u) h = uses_left u h.1

  implicit_left : {fs rest : List Form} → Implicit mode fs rest → Each fs → Each rest
  implicit_left nesting.unsaid h = h
  implicit_left nesting.said h = h.1

  declares_left : {fs rest : List Form} {decls : List Decl} {marks : List Directive} → Declares mode fs decls marks rest → Each fs → Each rest
  declares_left nesting.no_more_decls h = h
  declares_left (nesting.declares w d) h = declares_left d h.1
  declares_left (nesting.directs_decl w d) h = declares_left d h.1

  marked_left : {fs rest : List Form} {mark : List Directive} → Marked mode fs mark rest → Each fs → Each rest
  marked_left nesting.unmarked h = h
  marked_left (nesting.marked m w) h = h.1

  pub head_left : {fs rest : List Form} {lines : List Use} {decls : List Decl} {pair mark : List Directive} → Head-part mode fs lines decls pair mark rest → Each fs → Each rest
  head_left h k = marked_left h.marked (declares_left h.declared (implicit_left h.implicit (uses_left h.used k)))

  pub unit_left : {host : Option ℕ} {fs rest : List Form} {x : tree_unit.Unit} → IsUnit mode host fs x rest → Each fs → Each rest
  unit_left (nesting.subroutine h q b e) k = (body_left b (head_left h k.1)).1
  unit_left (nesting.function h b e) k = (body_left b (head_left h k.1)).1

  units_left : {host : Option ℕ} {fs rest : List Form} {xs : List tree_unit.Unit} → AreUnits mode host fs xs rest → Each fs → Each rest
  units_left nesting.no_more_units h = h
  units_left (nesting.a_unit u us) h = units_left us (unit_left u h)

  pub contained_left : {number : ℕ} {fs rest : List Form} {xs : List tree_unit.Unit} → Contained mode number fs xs rest → Each fs → Each rest
  contained_left nesting.contains_none h = h
  contained_left (nesting.contains us) h = units_left us h.1

  pub module_left : {number : ℕ} {fs rest : List Form} {a : Module} {xs : List tree_unit.Unit} → IsModule mode number fs a xs rest → Each fs → Each rest
  module_left (nesting.a_module h c e) k = (contained_left c (head_left h k.1)).1
