use Rattle.std.proofs.Common.{◌∙◌, refl, sym, subst}
use Rattle.std.specs.Prelude.{IsTrue}
use Rattle.fort_tree.specs.Token.{is_token}
use Rattle.fort_lex.specs.declared.sentinel.Sentinel.{Sentinel}
use Rattle.fort_lex.specs.declared.sentinel.Sentinel.TheVariants.{Claw, Omp, Acc}
use Rattle.fort_lex.specs.Rows.{word_of_sentinel}
use Rattle.fort_lex.proofs.directives.sentinel_token.Goals as goal

words-are : (s : Sentinel) → IsTrue (is_token (word_of_sentinel s))
words-are Claw = refl
words-are Omp = refl
words-are Acc = refl

pub new-requires : goal.new-requires
new-requires c = subst (λ text. IsTrue (is_token text)) (sym (c.from_vec.ensures ∙ c.in_ok-text.ensures.items ∙ c.text.ensures)) (words-are c.args.sentinel)
