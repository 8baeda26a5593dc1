-- A text that what follows can't make longer, by the automaton.
use Rattle.std.proofs.Common.{◌≡◌, ◌≢◌, true, false, cond, ◌&&◌, not, List, [], ◌∷◌, ◌++◌, Some, length, sym, ap, ◌∙◌}
use Rattle.std.specs.Prelude.{nat_le}
use Rattle.std.proofs.lemmas.List.{length-map}
use Rattle.fort_tokens.specs.declared.character.Char.{Char}
use Rattle.fort_tokens.specs.Texts.{is_small}
use Rattle.fort_tokens.specs.Automaton.{State, start, run, numeric, has_form}
use Rattle.fort_tokens.specs.Reads.{bytes, Longest, goes_wrong, is_sound, Cut, none}
use Rattle.fort_tokens.proofs.Runs.{Kills, longer}
use Rattle.fort_tokens.proofs.FormCases.{forms, number-forms}

pub longest-by : (w z : List Char) → has_form (bytes w) ≡ true → ((u v : List Char) → u ≢ [] → z ≡ u ++ v → has_form (bytes (w ++ u)) ≡ false) → Longest w z
longest-by w z f m = record { form = sym (forms (bytes w)) ∙ f; most = λ u v n e. sym (forms (bytes (w ++ u))) ∙ m u v n e }

pub is_longest : (w z : List Char) → has_form (bytes w) ≡ true → Kills (run start (bytes w)) z → Longest w z
is_longest w z f k = longest-by w z f (λ u v n e. longer w z u v k n e)

pub begins-none : {z : List Char} (c : Char) → c.byte ≢ 32 → ((u v : List Char) → z ≡ u ++ v → has_form (bytes (c ∷ u)) ≡ false) → Cut (c ∷ z) [] (Some c.at)
begins-none c n m = none c n (λ u v e. sym (forms (bytes (c ∷ u))) ∙ m u v e)

-- whether the text is sound, from the automaton's state
pub sound-as : (c : Char) (w z : List Char) (s : State) → run start (bytes (c ∷ w)) ≡ s →
    is_sound (c ∷ w) z ≡ cond (numeric s) (is_small (bytes (c ∷ w)) && not (goes_wrong z)) (nat_le (length (bytes (c ∷ w))) 63)
sound-as c w z s r = ap (λ x. cond x (is_small (bytes (c ∷ w)) && not (goes_wrong z)) (nat_le (length (c ∷ w)) 63)) (sym (number-forms (bytes (c ∷ w))) ∙ ap numeric r)
    ∙ ap (λ n. cond (numeric s) (is_small (bytes (c ∷ w)) && not (goes_wrong z)) (nat_le n 63)) (sym (length-map (c ∷ w) (λ c. c.byte)))
