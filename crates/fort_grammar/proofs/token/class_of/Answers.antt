use Rattle.std.proofs.Common.{◌∙◌, ap}
use Rattle.fort_grammar.specs.Token.{text_class}
use Rattle.fort_grammar.proofs.Words.{text-listed, text-open}
use Rattle.fort_grammar.proofs.token.class_of.Goals as goal

pub returns-in-Some : goal.returns-in-Some
returns-in-Some c = text-listed c.text-text.result.now c.in-Some.class c.in-Some.ensures ∙ ap text_class c.text-text.ensures.text

pub returns-in-None : goal.returns-in-None
returns-in-None c = c.open_class.ensures ∙ (text-open c.text-text.result.now c.in-None.ensures ∙ ap text_class c.text-text.ensures.text)
