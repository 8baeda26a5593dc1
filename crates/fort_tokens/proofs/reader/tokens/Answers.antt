use Rattle.std.proofs.Common.{◌≡◌, ◌++◌, ◌∷◌, [], take, get_or, subst, sym}
use Rattle.std.proofs.lemmas.List.{take_more, take_all}
use Rattle.fort_tokens.specs.declared.character.Char.{Char}
use Rattle.fort_tokens.specs.Reads.{Reads}
use Rattle.fort_tokens.proofs.Feeding.{HasRead, has_read-none, has_read-more, has_read-whole}
use Rattle.fort_tokens.proofs.reader.tokens.Goals as goal

abbrev any_character : Char
any_character = record { byte = 0; at = record { file = 0; line = 0; column = 0 } }

pub loop-c-init : goal.loop-c-init
loop-c-init c = subst (HasRead []) (sym c.new-reader.ensures) has_read-none

pub loop-c-preserved : goal.loop-c-preserved
loop-c-preserved c =
    let d : Char = get_or c.args.characters.now c.loop-c.c-index any_character in
    let before = take c.loop-c.c-index c.args.characters.now in
    subst (λ x. HasRead x c.feed.new.self) (sym (take_more c.args.characters.now c.loop-c.c-index any_character c.loop-c-test.true))
    (subst (HasRead (before ++ d ∷ [])) (sym c.in_ok-feed.ensures) (has_read-more before c.loop-c.reader d c.loop-c.invariant))

pub returns : goal.returns
returns c =
    let before = take c.loop-c.c-index c.args.characters.now in
    let whole : before ≡ c.args.characters.now = take_all c.loop-c.c-index c.args.characters.now c.loop-c-test.false in
    subst (λ r. Reads c.args.characters.now r.words r.bad) (sym c.in_ok-finish.ensures)
    (has_read-whole c.args.characters.now c.loop-c.reader (subst (λ x. HasRead x c.loop-c.reader) whole c.loop-c.invariant))
