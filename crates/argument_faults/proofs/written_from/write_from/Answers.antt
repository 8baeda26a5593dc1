use Rattle.std.proofs.Common.{◌≡◌, length, Some, refl, sym, ap, subst, arith, ◌∙◌}
use Rattle.std.specs.Prelude.{slice_get}
use Rattle.std.proofs.lemmas.Option.{slice_get_read}
use Rattle.fort_tree.specs.declared.unit.Unit as tree_unit
use Rattle.sound_programs.specs.ArgumentFaults.{module_writes}
use Rattle.sound_programs.specs.Placed.{bare_program}
use Rattle.sound_programs.specs.Placing.{placed, placed_unit}
use Rattle.argument_faults.specs.ModuleWrites.{IsFirstWrite}
use Rattle.argument_faults.proofs.NamedUpTo.{one_unit}
use Rattle.argument_faults.proofs.written_from.write_from.Goals as goal

-- src/written_from.rt
pub returns : goal.returns
returns c =
    let f = c.args.file.now in
    let items = c.items.result.now in
    let here : slice_get f.units c.args.number ≡ Some c.index-items-number.result =
    ap (λ l. slice_get l c.args.number) (sym c.items.ensures) ∙ slice_get_read items (length items) c.args.number c.index-items-number.result refl (omega (arith, c.requires.number, ap length c.items.ensures)) c.index-items-number.is in
    record {
      own = c.in_ok-own.own;
      writes_own = λ u there. subst (λ (v : tree_unit.Unit). IsFirstWrite (module_writes (bare_program (placed f)) (placed_unit v)) c.in_ok-own.own) (one_unit c.index-items-number.result u (sym here ∙ there)) c.in_ok-own.ensures;
      first_of = c.first_of.ensures;
    }
