-- The automaton: what no longer front of a text can be.
use Rattle.std.proofs.Common.{◌≡◌, ◌≢◌, ℕ, false, List, [], ◌∷◌, ◌++◌, refl, ap, ◌∙◌, subst}
use Rattle.std.proofs.lemmas.List.{map-append}
use Rattle.fort_tokens.specs.declared.character.Char.{Char}
use Rattle.fort_tokens.specs.Automaton.{State, start, dead, next, run, accepts, has_form}
use Rattle.fort_tokens.specs.Reads.{bytes}

pub run-append : (s : State) (a b : List ℕ) → run s (a ++ b) ≡ run (run s a) b
run-append s [] b = refl
run-append s (x ∷ a) b = run-append (next s x) a b

pub run-dead : (t : List ℕ) → run dead t ≡ dead
run-dead [] = refl
run-dead (x ∷ t) = run-dead t

pub dies : (w : List ℕ) (b : ℕ) (u : List ℕ) → next (run start w) b ≡ dead → has_form (w ++ b ∷ u) ≡ false
dies w b u h = ap accepts (run-append start w (b ∷ u) ∙ ap (λ s. run s u) h ∙ run-dead u)

-- no token goes on with what follows
abbrev pub Kills : State → List Char → Type 0
Kills s [] = Unit {0}
Kills s (c ∷ z) = next s c.byte ≡ dead

pub longer : (w : List Char) (z u v : List Char) → Kills (run start (bytes w)) z → u ≢ [] → z ≡ u ++ v → has_form (bytes (w ++ u)) ≡ false
longer w z [] v k n e = absurd (n refl)
longer w z (c ∷ u) v k n e =
    let kill : Kills (run start (bytes w)) (c ∷ (u ++ v)) = subst (λ z. Kills (run start (bytes w)) z) e k in
    ap has_form (map-append (λ c. c.byte) w (c ∷ u)) ∙ dies (bytes w) c.byte (bytes u) kill
