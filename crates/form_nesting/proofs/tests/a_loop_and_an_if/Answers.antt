use Rattle.std.proofs.Common.{◌<◌, ◌^◌, List, map, subst, sym, arith}
use Rattle.fort_tree.specs.declared.choice.Mode.TheVariants.{Source}
use Rattle.fort_tree.specs.declared.unit.File.{File}
use Rattle.sound_programs.specs.Nesting.{Nests}
use Rattle.form_nesting.specs.declared.form.Form.{Form}
use Rattle.form_nesting.specs.Forms.{form_of, statements_among}
use Rattle.form_nesting.proofs.SmallFile.{small_nests}
use Rattle.form_nesting.proofs.tests.a_loop_and_an_if.Goals as goal

pub nested-requires-clause-few : goal.nested-requires-clause-few
nested-requires-clause-few g c = subst (λ (forms : List Form). statements_among (map form_of forms) < 2 ^ 32) (sym c.in_ok-forms.ensures) (omega arith)

pub nested-requires-clause-nest : goal.nested-requires-clause-nest
nested-requires-clause-nest g c =
    subst (λ (forms : List Form). (file : File) × Nests Source (map form_of forms) file) (sym c.in_ok-forms.ensures) (small_nests c.in_ok-name.name)
