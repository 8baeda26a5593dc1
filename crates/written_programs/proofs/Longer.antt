-- A unit that nests from forms nests from them before any others, which it leaves.
use Rattle.std.proofs.Common.{List, ◌++◌, Option, ℕ}
use Rattle.fort_tree.specs.declared.choice.Mode.{Mode}
use Rattle.fort_tree.specs.declared.stmt.Arm.{Arm}
use Rattle.fort_tree.specs.declared.stmt.Case.{Case}
use Rattle.fort_tree.specs.declared.stmt.Directive.{Directive}
use Rattle.fort_tree.specs.declared.stmt.Stmt.{Stmt}
use Rattle.fort_tree.specs.declared.unit.Decl.{Decl}
use Rattle.fort_tree.specs.declared.unit.Unit as tree_unit
use Rattle.fort_tree.specs.declared.unit.Use.{Use}
use Rattle.sound_programs.specs.Forms.{Form}
use Rattle.sound_programs.specs.Nesting as nesting
use Rattle.sound_programs.specs.Nesting.{Inside, Body, One, Arms, Cases, Uses, Implicit, Declares, Marked, Head-part, Ends, IsUnit}

module _ (mode : Mode) (m : List Form) where
  mutual
    body_longer : {around : Inside} {fs rest : List Form} {ss : List Stmt} → Body mode around fs ss rest → Body mode around (fs ++ m) ss (rest ++ m)
    body_longer nesting.done = nesting.done
    body_longer (nesting.more one others) = nesting.more (one_longer one) (body_longer others)

    one_longer : {around : Inside} {fs rest : List Form} {s : Stmt} → One mode around fs s rest → One mode around (fs ++ m) s (rest ++ m)
    one_longer (nesting.simple x) = nesting.simple x
    one_longer (nesting.forwarded w) = nesting.forwarded w
    one_longer (nesting.if_action x) = nesting.if_action x
    one_longer (nesting.if_then inside others) = nesting.if_then (body_longer inside) (arms_longer others)
    one_longer (nesting.selects inside) = nesting.selects (cases_longer inside)
    one_longer (nesting.loops inside) = nesting.loops (body_longer inside)
    one_longer (nesting.directed w inside) = nesting.directed w (body_longer inside)
    one_longer (nesting.block w v inside) = nesting.block w v (body_longer inside)

    arms_longer : {around : Inside} {fs rest : List Form} {arms : List Arm} {other : Option (List Stmt)} → Arms mode around fs arms other rest → Arms mode around (fs ++ m) arms other (rest ++ m)
    arms_longer nesting.end_if = nesting.end_if
    arms_longer (nesting.else_last inside) = nesting.else_last (body_longer inside)
    arms_longer (nesting.else_if inside others) = nesting.else_if (body_longer inside) (arms_longer others)

    cases_longer : {around : Inside} {fs rest : List Form} {cases : List Case} {other : Option (List Stmt)} → Cases mode around fs cases other rest → Cases mode around (fs ++ m) cases other (rest ++ m)
    cases_longer nesting.end_select = nesting.end_select
    cases_longer (nesting.case_of r inside others) = nesting.case_of r (body_longer inside) (cases_longer others)
    cases_longer (nesting.default inside others) = nesting.default (body_longer inside) (cases_longer others)

  uses_longer : {fs rest : List Form} {lines : List Use} {marks : List Directive} → Uses mode fs lines marks rest → Uses mode (fs ++ m) lines marks (rest ++ m)
  uses_longer nesting.no_more_uses = nesting.no_more_uses
  uses_longer (nesting.uses u) = nesting.uses (uses_longer u)
  uses_longer (nesting.directs_use w u) = nesting.directs_use w (uses_longer u)

  implicit_longer : {fs rest : List Form} → Implicit mode fs rest → Implicit mode (fs ++ m) (rest ++ m)
  implicit_longer nesting.unsaid = nesting.unsaid
  implicit_longer nesting.said = nesting.said

  declares_longer : {fs rest : List Form} {decls : List Decl} {marks : List Directive} → Declares mode fs decls marks rest → Declares mode (fs ++ m) decls marks (rest ++ m)
  declares_longer nesting.no_more_decls = nesting.no_more_decls
  declares_longer (nesting.declares w d) = nesting.declares w (declares_longer d)
  declares_longer (nesting.directs_decl w d) = nesting.directs_decl w (declares_longer d)

  marked_longer : {fs rest : List Form} {mark : List Directive} → Marked mode fs mark rest → Marked mode (fs ++ m) mark (rest ++ m)
  marked_longer nesting.unmarked = nesting.unmarked
  marked_longer (nesting.marked e w) = nesting.marked e w

  head_longer : {fs rest : List Form} {lines : List Use} {decls : List Decl} {pair mark : List Directive} → Head-part mode fs lines decls pair mark rest → Head-part mode (fs ++ m) lines decls pair mark (rest ++ m)
  head_longer h = record {
    after_uses = h.after_uses ++ m;
    after_implicit = h.after_implicit ++ m;
    after_decls = h.after_decls ++ m;
    among_uses = h.among_uses;
    among_decls = h.among_decls;
    used = uses_longer h.used;
    implicit = implicit_longer h.implicit;
    declared = declares_longer h.declared;
    paired = h.paired;
    marked = marked_longer h.marked;
  }

  pub unit_longer : {host : Option ℕ} {fs rest : List Form} {x : tree_unit.Unit} → IsUnit mode host fs x rest → IsUnit mode host (fs ++ m) x (rest ++ m)
  unit_longer (nesting.subroutine h q b e) = nesting.subroutine (head_longer h) q (body_longer b) e
  unit_longer (nesting.function h b e) = nesting.function (head_longer h) (body_longer b) e
