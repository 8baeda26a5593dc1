use Rattle.std.proofs.Common.{[], refl}
use Rattle.fort_tree.specs.declared.stmt.DirectiveWord.TheVariants as word
use Rattle.claw_lines.specs.Forms as forms
use Rattle.claw_lines.specs.Forms.{nothing}
use Rattle.claw_lines.specs.Examples.{column, forward_line, forwarded, dimension_line, dimensioned, forward_with_data, hoist_of_nothing, data_of_a, empty_list, last_word, bounds_and_word, dimension_j}
use Rattle.claw_lines.proofs.PartLaws.{some-is, parts-stuck}
use Rattle.claw_lines.proofs.Asking.{line-is, line_not, parts-none, dimension-both}
use Rattle.claw_lines.proofs.laws.lines_by_example.Goals as goal

pub returns-clause-forward : goal.returns-clause-forward
returns-clause-forward c = line-is (column 1) forward_line (word.Forward, []) forwarded refl (forms.of_parts refl forms.end refl)

pub returns-clause-dimension : goal.returns-clause-dimension
returns-clause-dimension c =
    line-is (column 1) dimension_line (word.Define, bounds_and_word) dimensioned refl (dimension-both (column 1) bounds_and_word [] (dimension_j, last_word) nothing refl refl forms.end)

pub returns-clause-forward_alone : goal.returns-clause-forward_alone
returns-clause-forward_alone c =
    line_not (column 1) forward_with_data (word.Forward, data_of_a) refl
    (parts-none (column 1) word.Forward data_of_a refl (λ given p. parts-stuck word.Forward nothing data_of_a given refl (some-is data_of_a refl) p))

pub returns-clause-some_name : goal.returns-clause-some_name
returns-clause-some_name c =
    line_not (column 1) hoist_of_nothing (word.Hoist, empty_list) refl
    (parts-none (column 1) word.Hoist empty_list refl (λ given p. parts-stuck word.Hoist nothing empty_list given refl (some-is empty_list refl) p))
