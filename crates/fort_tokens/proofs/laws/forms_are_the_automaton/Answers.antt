use Rattle.fort_tokens.proofs.FormCases.{forms, number-forms}
use Rattle.fort_tokens.proofs.laws.forms_are_the_automaton.Goals as goal

pub returns-clause-forms : goal.returns-clause-forms
returns-clause-forms c text = forms text

pub returns-clause-numbers : goal.returns-clause-numbers
returns-clause-numbers c text = number-forms text
