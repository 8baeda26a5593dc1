-- The class of a text.
use Rattle.std.proofs.Common.{◌≡◌, ℕ, List, None, Some, ap}
use Rattle.fort_grammar.specs.declared.class.Class.{Class}
use Rattle.fort_grammar.specs.Class.{words}
use Rattle.fort_grammar.specs.Token.{text_class, listed_class, open_class, class_or}

pub text-listed : (text : List ℕ) (c : Class) → Some c ≡ listed_class words text → c ≡ text_class text
unfolding text_class
text-listed text c h = ap (λ o. class_or o (open_class text)) h

pub text-open : (text : List ℕ) → None ≡ listed_class words text → open_class text ≡ text_class text
unfolding text_class
text-open text h = ap (λ o. class_or o (open_class text)) h
