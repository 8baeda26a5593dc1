use Rattle.std.proofs.Common.{◌≡◌, ◌+◌, List, [], ◌∷◌, None, Some, length, map, sym, ap, subst, ◌∙◌, arith}
use Rattle.std.specs.Option.{option_and_then}
use Rattle.std.specs.Vec.Iter.{into_iter_items}
use Rattle.std.proofs.lemmas.List.{nil_from_length}
use Rattle.fort_tree.specs.declared.unit.File.{File}
use Rattle.sound_programs.specs.Nesting.{Nests}
use Rattle.form_nesting.specs.declared.form.Form as given
use Rattle.form_nesting.specs.Forms.{form_of, statements_among}
use Rattle.form_nesting.specs.Runs.{run, step}
use Rattle.form_nesting.proofs.FileRuns.{file_run, stepping}
use Rattle.form_nesting.proofs.Growth.{Grows, grows, file_after, one_among}
use Rattle.form_nesting.proofs.UnitRuns.{between}
use Rattle.form_nesting.proofs.reading.nested.Goals as goal

pub take-requires-clause-fits : goal.take-requires-clause-fits
take-requires-clause-fits c =
    stepping (step (form_of c.in-Some.form) c.loop-form.nest) (map form_of (into_iter_items c.next.new.self)) (between c.requires.nest.0 None)
    (ap (λ (l : List given.Form). run (map form_of l) c.loop-form.nest) (sym c.in-Some.ensures.steps.0)
    ∙ (c.loop-form.invariant.runs ∙ file_run c.args.mode (map form_of c.args.forms) c.requires.nest.0 c.requires.nest.1))

pub loop-form-preserved : goal.loop-form-preserved
loop-form-preserved c =
    let grown : Grows _ _ _ = grows (form_of c.in-Some.form) c.loop-form.nest c.take.new.self c.in_ok-take.ensures in
    let fewer : length (into_iter_items c.loop-form.form-iterator) ≡ length (into_iter_items c.next.new.self) + 1 = omega (arith, ap length c.in-Some.ensures.steps.0) in
    let split : statements_among (map form_of (into_iter_items c.loop-form.form-iterator)) ≡ statements_among (form_of c.in-Some.form ∷ []) + statements_among (map form_of (into_iter_items c.next.new.self)) =
    ap (λ (l : List given.Form). statements_among (map form_of l)) c.in-Some.ensures.steps.0 ∙ one_among (form_of c.in-Some.form) (map form_of (into_iter_items c.next.new.self)) in
    record {
      counted = omega (arith, c.in-Some.ensures.steps.1, c.loop-form.invariant.counted, fewer);
      modules = omega (arith, grown.modules, split, c.loop-form.invariant.modules);
      units = omega (arith, grown.units, split, c.loop-form.invariant.units);
      runs =
          ap (option_and_then (run (map form_of (into_iter_items c.next.new.self)))) c.in_ok-take.ensures
          ∙ (ap (λ (l : List given.Form). run (map form_of l) c.loop-form.nest) (sym c.in-Some.ensures.steps.0) ∙ c.loop-form.invariant.runs);
    }

pub returns : goal.returns
returns c =
    let none : into_iter_items c.loop-form.form-iterator ≡ [] = nil_from_length _ (omega (arith, c.loop-form.invariant.counted, c.in-None.ensures.steps.0)) in
    let ends : Some c.loop-form.nest ≡ Some (between c.requires.nest.0 None) =
    ap (λ (l : List given.Form). run (map form_of l) c.loop-form.nest) (sym none)
    ∙ (c.loop-form.invariant.runs ∙ file_run c.args.mode (map form_of c.args.forms) c.requires.nest.0 c.requires.nest.1) in
    let file : c.into_file.result ≡ c.requires.nest.0 = c.into_file.ensures ∙ ap (file_after c.requires.nest.0) ends in
    subst (λ (f : File). Nests c.args.mode (map form_of c.args.forms) f) (sym file) c.requires.nest.1
