-- What the state of the reader says of the characters that it was fed.
use Rattle.std.proofs.Common.{◌≡◌, ℕ, true, false, List, [], ◌∷◌, ◌++◌, Option, None, Some}
use Rattle.fort_tree.specs.declared.place.Place.{Place}
use Rattle.fort_tokens.specs.declared.character.Char.{Char}
use Rattle.fort_tokens.specs.Reads.{Word}
use Rattle.fort_tokens.specs.declared.shape.Shape.{Shape}
use Rattle.fort_tokens.specs.declared.shape.Shape.TheVariants as shape
use Rattle.fort_tokens.specs.Reading.{Reading}
use Rattle.fort_tokens.specs.Texts.{is_fixed}
use Rattle.fort_tokens.specs.Automaton.{start, name, digits, suffixed, fixed, run, numeric}
use Rattle.fort_tokens.specs.Reads.{bytes, Cut}

-- the shape, the first place and the last one of the characters that are no token yet
pub data Stands : Shape → Place → Place → List Char → Type 0 where
  empty : {at last : Place} → Stands shape.Empty at last []
  in_name : {last : Place} (c : Char) (w : List Char) → run start (bytes (c ∷ w)) ≡ name → Stands shape.Name c.at last (c ∷ w)
  in_digits : {last : Place} (c : Char) (w : List Char) → run start (bytes (c ∷ w)) ≡ digits → Stands shape.Digits c.at last (c ∷ w)
  in_suffixed : {last : Place} (c : Char) (w : List Char) → run start (bytes (c ∷ w)) ≡ suffixed → Stands shape.Suffixed c.at last (c ∷ w)
  in_under : (c : Char) (w : List Char) (u : Char) → run start (bytes (c ∷ w)) ≡ digits → u.byte ≡ 95 → Stands shape.Under c.at u.at (c ∷ (w ++ u ∷ []))
  in_point : (c : Char) (w : List Char) (u : Char) → numeric (run start (bytes (c ∷ w))) ≡ true → u.byte ≡ 46 → Stands shape.Point c.at u.at (c ∷ (w ++ u ∷ []))
  in_fixed : {last : Place} (c : Char) (w : List Char) → run start (bytes (c ∷ w)) ≡ fixed (bytes (c ∷ w)) → Stands shape.Fixed c.at last (c ∷ w)

-- after a byte that settled it, a reader has no text or a point
abbrev pub Again : Shape → List Char → Type 0
Again shape.Empty pend = Unit {0}
Again shape.Fixed pend = is_fixed (bytes pend) ≡ false
Again _ pend = ⊥

abbrev pub Free : Shape → List Char → Type 0
Free sh pend = Unit {0}

-- the reader after the characters cs, of which pend are no token yet; G says what pend can be, H what can follow
pub data Fed (G : Shape → List Char → Type 0) (H : List Char → Type 0) (cs : List Char) : Reading → Type 0 where
  going : (ts : List Word) (sh : Shape) (at last : Place) (pend : List Char) → G sh pend → Stands sh at last pend →
      ((z : List Char) (us : List Word) (o : Option Place) → H z → Cut (pend ++ z) us o → Cut (cs ++ z) (ts ++ us) o) →
      Fed G H cs (record { words = ts; shape = sh; text = bytes pend; at = at; last = last; bad = None })
  stopped : (ts : List Word) (sh : Shape) (text : List ℕ) (at last p : Place) →
      ((z : List Char) → H z → Cut (cs ++ z) ts (Some p)) →
      Fed G H cs (record { words = ts; shape = sh; text = text; at = at; last = last; bad = Some p })

abbrev pub Any : List Char → Type 0
Any z = Unit {0}

-- the byte, or a blank at the end
abbrev pub Heads : ℕ → List Char → Type 0
Heads b [] = b ≡ 32
Heads b (c ∷ z) = c.byte ≡ b
