use Rattle.std.proofs.Common.{◌<◌, length, arith, ◌∙◌}
use Rattle.fort_tree.specs.declared.fault.Code.TheVariants.{E31}
use Rattle.sound_programs.specs.Faults.{found}
use Rattle.fort_names.specs.Leasts.{noted}
use Rattle.fort_names.specs.Using.{scope_twice}
use Rattle.fort_names.proofs.Bucketing.{next_lists}
use Rattle.fort_names.proofs.declarations.note_modules.Goals as goal

-- src/declarations.rt
pub loop-number-preserved : goal.loop-number-preserved
loop-number-preserved c =
    let s = c.args.shared.now in
    let contested = c.args.contested.now in
    let i = c.loop-number.number in
    let in_modules : i < length c.args.modules.now = omega arith in
    let in_lists : i < length c.args.lists.now = omega (arith, c.requires) in
    next_lists E31 s contested c.args.lists.now c.args.modules.now i c.index-lists-number.result c.index-modules-number.result in_lists in_modules c.index-lists-number.is c.index-modules-number.is
    c.loop-number.least c.note_scope.new.least
    (c.in_ok-note_scope.ensures ∙ (λ j. noted (found E31 (scope_twice s contested (c.items-names.ensures j) (c.items.ensures j))) c.loop-number.least)) ∙ c.loop-number.invariant
