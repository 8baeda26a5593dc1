use Rattle.std.proofs.Common.{◌≡◌, ◌==◌, ◌∷◌, [], rules, true, false, None, Some, codes, length, arith, subst, sym}
use Rattle.std.proofs.lemmas.Grind.{common_steps}
use Rattle.fort_tree.specs.declared.stmt.DirectiveWord.TheVariants as word
use Rattle.claw_lines.specs.declared.given.Given.{Given}
use Rattle.claw_lines.specs.Forms.{Asks, Parts, nothing, directive_of}
use Rattle.claw_lines.specs.Steps.{after, dimension}
use Rattle.claw_lines.proofs.PartLaws.{empty-is, some-is}
use Rattle.claw_lines.proofs.Asking.{dimension-none, dimension-alone, dimension-both, behind-other, behind-no_parts}
use Rattle.claw_lines.proofs.line.of_dimension.Goals as goal

pub returns-in_err-dimension-clause-none : goal.returns-in_err-dimension-clause-none
returns-in_err-dimension-clause-none c e =
    let stuck : dimension c.args.at c.args.tokens.now ≡ None = first_of (search rules, grind (arith, common_steps)) in
    dimension-none c.args.at c.args.tokens.now stuck

pub returns-then-is_empty-clause-some : goal.returns-then-is_empty-clause-some
returns-then-is_empty-clause-some c =
    let empty : (length c.in_ok-dimension.more.now == 0) ≡ true = first_of (search rules, grind (arith, common_steps)) in
    subst (Asks c.args.at word.Define c.args.tokens.now) (sym c.in_ok-directives.ensures.some)
    (dimension-alone c.args.at c.args.tokens.now (c.in_ok-dimension.dimension, c.in_ok-dimension.more.now) c.in_ok-dimension.ensures.some (empty-is c.in_ok-dimension.more.now empty))

pub returns-in_err-behind-clause-none : goal.returns-in_err-behind-clause-none
returns-in_err-behind-clause-none c e =
    let some : (length c.in_ok-dimension.more.now == 0) ≡ false = first_of (search rules, grind (arith, common_steps)) in
    let stuck : after (codes "parallelize" ∷ []) c.in_ok-dimension.more.now ≡ None = first_of (search rules, grind (arith, common_steps)) in
    behind-other c.args.at c.args.tokens.now (c.in_ok-dimension.dimension, c.in_ok-dimension.more.now) c.in_ok-dimension.ensures.some (some-is c.in_ok-dimension.more.now some) stuck

pub returns-in_err-given-clause-none : goal.returns-in_err-given-clause-none
returns-in_err-given-clause-none c e =
    let some : (length c.in_ok-dimension.more.now == 0) ≡ false = first_of (search rules, grind (arith, common_steps)) in
    let begins : after (codes "parallelize" ∷ []) c.in_ok-dimension.more.now ≡ Some c.in_ok-behind.behind.now = first_of (search rules, grind (arith, common_steps)) in
    let none : (given : Given) → Parts word.Parallelize nothing c.in_ok-behind.behind.now given → ⊥ = first_of (search rules, grind (arith, common_steps)) in
    behind-no_parts c.args.at c.args.tokens.now c.in_ok-behind.behind.now (c.in_ok-dimension.dimension, c.in_ok-dimension.more.now) c.in_ok-dimension.ensures.some
    (some-is c.in_ok-dimension.more.now some) begins none

pub returns-clause-some : goal.returns-clause-some
returns-clause-some c =
    let begins : after (codes "parallelize" ∷ []) c.in_ok-dimension.more.now ≡ Some c.in_ok-behind.behind.now = first_of (search rules, grind (arith, common_steps)) in
    let list : c.in_ok-dimension.dimension ∷ directive_of c.args.at word.Parallelize c.in_ok-given.given ∷ [] ≡ c.push.new.self = first_of (search rules, grind (arith, common_steps)) in
    subst (Asks c.args.at word.Define c.args.tokens.now) list
    (dimension-both c.args.at c.args.tokens.now c.in_ok-behind.behind.now (c.in_ok-dimension.dimension, c.in_ok-dimension.more.now) c.in_ok-given.given c.in_ok-dimension.ensures.some
    begins c.in_ok-given.ensures.some)
