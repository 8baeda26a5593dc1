-- How the forms of the small sound program nest.
use Rattle.std.proofs.Common.{◌≡◌, ℕ, List, [], ◌∷◌, Option, None, Some, true, refl, sym, ap, ◌∙◌}
use Rattle.std.specs.Prelude.{codes, drop}
use Rattle.fort_arith.specs.declared.op.Op.TheVariants.{Add, Mul}
use Rattle.fort_tree.specs.declared.choice.Mode.TheVariants.{Source}
use Rattle.fort_tree.specs.declared.place.Place.{Place}
use Rattle.fort_tree.specs.declared.expr.Sub.{Sub}
use Rattle.fort_tree.specs.declared.expr.Expr.TheOpen.{Expr-F}
use Rattle.fort_tree.specs.declared.expr.Expr.TheViews.{out-roll-Expr}
use Rattle.fort_tree.specs.declared.expr.Expr.TheVariants as expr
use Rattle.sound_programs.specs.Forms.{is_reference, is_reference_level}
use Rattle.sound_programs.specs.Nesting.{Nests, no_more, module_first, unit_first, a_module, subroutine, function, no_more_uses, uses, unsaid, no_more_decls, declares, unmarked, unpaired, done, more, simple, assigns, calls, loops, with_name, contains, no_more_units, a_unit}
use Rattle.sound_programs.specs.Placed.{Name, Reference, One, No_more, Binary}
use Rattle.sound_programs.specs.SmallPrograms.{place, named, number, sound, twice, s, inc, q_of_k, doubled}
use Rattle.sound_programs.specs.SoundRow.{sound_forms}
use Rattle.sound_programs.specs.Writing.{written, written_unit, written_stmt, written_stmts, written_subs, file_of}

-- a name, with subscripts or without, is a reference
refers : (x : List ℕ) (subs : Option (List Sub)) (at : Place) → is_reference (expr.Ref x subs at) ≡ true
refers x None at = ap is_reference (sym (expr.rolls-Ref x None at)) ∙ ap is_reference_level (out-roll-Expr (Expr-F.Ref x None at))
refers x (Some subs) at = ap is_reference (sym (expr.rolls-Ref x (Some subs) at)) ∙ ap is_reference_level (out-roll-Expr (Expr-F.Ref x (Some subs) at))

pub sound-nests : Nests Source sound_forms (file_of sound)
sound-nests =
    module_first {rest = drop 9 sound_forms} {us = written_unit twice ∷ []}
    (a_module
    (record {
      after_uses = drop 1 sound_forms;
      after_implicit = drop 1 sound_forms;
      after_decls = drop 2 sound_forms;
      among_uses = [];
      among_decls = [];
      used = no_more_uses;
      implicit = unsaid;
      declared = declares refl no_more_decls;
      paired = refl;
      marked = unmarked;
    })
    (contains (a_unit {us = []}
    (function {body = written_stmts twice.body}
    (record {
      after_uses = drop 4 sound_forms;
      after_implicit = drop 4 sound_forms;
      after_decls = drop 6 sound_forms;
      among_uses = [];
      among_decls = [];
      used = no_more_uses;
      implicit = unsaid;
      declared = declares refl (declares refl no_more_decls);
      paired = refl;
      marked = unmarked;
    })
    (more (simple (assigns (written (Name (codes "twice") (place 7 5))) (written (Binary Mul (Name (codes "x") (place 7 13)) (number 2 (place 7 15)))) (refers (codes "twice") None (place 7 5)))) done)
    (with_name refl))
    no_more_units))
    (with_name refl))
    (unit_first {rest = drop 18 sound_forms} {a = written_unit s}
    (subroutine {pair = []} {mark = []}
    (record {
      after_uses = drop 11 sound_forms;
      after_implicit = drop 11 sound_forms;
      after_decls = drop 13 sound_forms;
      among_uses = [];
      among_decls = [];
      used = uses no_more_uses;
      implicit = unsaid;
      declared = declares refl (declares refl no_more_decls);
      paired = refl;
      marked = unmarked;
    })
    unpaired
    (more
    (loops {body = written_stmt doubled ∷ []} {inside = drop 14 sound_forms}
    (more (simple (assigns (written (q_of_k 5)) (written (Reference (codes "twice") (One (q_of_k 18) No_more) (place 15 12))) (refers (codes "q") (Some (written_subs (One (Name (codes "k") (place 15 7)) No_more))) (place 15 5)))) done))
    (more (simple (calls (named (codes "inc") (place 17 8)) (written_subs (One (Reference (codes "q") (One (number 1 (place 17 14)) No_more) (place 17 12)) No_more)))) done))
    (with_name {at = place 18 1} refl))
    (unit_first {rest = []} {a = written_unit inc}
    (subroutine {pair = []} {mark = []}
    (record {
      after_uses = drop 19 sound_forms;
      after_implicit = drop 19 sound_forms;
      after_decls = drop 20 sound_forms;
      among_uses = [];
      among_decls = [];
      used = no_more_uses;
      implicit = unsaid;
      declared = declares refl no_more_decls;
      paired = refl;
      marked = unmarked;
    })
    unpaired
    (more (simple (assigns (written (Name (codes "y") (place 21 3))) (written (Binary Add (Name (codes "y") (place 21 7)) (number 1 (place 21 9)))) (refers (codes "y") None (place 21 3)))) done)
    (with_name {at = place 22 1} refl))
    no_more))
