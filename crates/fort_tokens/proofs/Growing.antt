-- A character that the text goes on with.
use Rattle.std.proofs.Common.{◌≡◌, ℕ, Bool, true, false, cond, List, [], ◌∷◌, ◌++◌, Option, None, Some, refl, sym, ap, ◌∙◌}
use Rattle.std.specs.Prelude.{◌==◌}
use Rattle.std.specs.Char.{is_ascii_lowercase, is_ascii_digit}
use Rattle.std.proofs.lemmas.Bool.{eqb-true}
use Rattle.std.proofs.lemmas.List.{map-append}
use Rattle.fort_tree.specs.declared.place.Place.{Place}
use Rattle.fort_tokens.specs.declared.character.Char.{Char}
use Rattle.fort_tokens.specs.declared.shape.Shape.{Shape}
use Rattle.fort_tokens.specs.declared.shape.Shape.TheVariants as shape
use Rattle.fort_tokens.specs.Texts.{is_name_byte, is_kind, is_begun}
use Rattle.fort_tokens.specs.Automaton.{State, start, name, digits, under, suffixed, fixed, dead, next, run, numeric}
use Rattle.fort_tokens.specs.Reads.{bytes}
use Rattle.fort_tokens.specs.Machine.{goes_on}
use Rattle.fort_tokens.proofs.Runs.{run-append}
use Rattle.fort_tokens.proofs.Pending.{Stands, empty, in_name, in_digits, in_suffixed, in_under, in_point, in_fixed}

-- after c, and before it where no text stood
abbrev pub text_place : Shape → Place → Char → Place
text_place shape.Empty at c = c.at
text_place _ at c = at

-- why the text does not go on with b
pub data Ends (b : ℕ) : Shape → List Char → Type 0 where
  ends_empty : next start b ≡ dead → Ends b shape.Empty []
  ends_name : {w : List Char} → is_name_byte b ≡ false → Ends b shape.Name w
  ends_digits : {w : List Char} → next digits b ≡ dead → (b == 46) ≡ false → Ends b shape.Digits w
  ends_suffixed : {w : List Char} → (b == 46) ≡ false → Ends b shape.Suffixed w
  ends_under : {w : List Char} → is_kind b ≡ false → Ends b shape.Under w
  ends_point : {w : List Char} → Ends b shape.Point w
  ends_fixed : {w : List Char} → is_begun (bytes w ++ b ∷ []) ≡ false → Ends b shape.Fixed w

abbrev pub Goes : Shape → Place → List Char → Char → Option Shape → Type 0
Goes sh at pend c None = Ends c.byte sh pend
Goes sh at pend c (Some to) = Stands to (text_place sh at c) c.at (pend ++ c ∷ [])

run-more : (w : List Char) (c : Char) → run start (bytes (w ++ c ∷ [])) ≡ next (run start (bytes w)) c.byte
run-more w c = ap (run start) (map-append (λ c. c.byte) w (c ∷ [])) ∙ run-append start (bytes w) (c.byte ∷ [])

-- the state after one character more
more-from : (w : List Char) (c : Char) (s t : State) → run start (bytes w) ≡ s → next s c.byte ≡ t → run start (bytes (w ++ c ∷ [])) ≡ t
more-from w c s t e n = run-more w c ∙ ap (λ s. next s c.byte) e ∙ n

from-empty : (at : Place) (c : Char) (x y z : Bool) → is_ascii_lowercase c.byte ≡ x → is_ascii_digit c.byte ≡ y → is_begun (c.byte ∷ []) ≡ z →
    Goes shape.Empty at [] c (cond x (Some shape.Name) (cond y (Some shape.Digits) (cond z (Some shape.Fixed) None)))
from-empty at c true y z ex ey ez = in_name c [] (rw ex refl)
from-empty at c false true z ex ey ez = in_digits c [] (rw (ex, ey) refl)
from-empty at c false false true ex ey ez = in_fixed c [] (rw (ex, ey, ez) refl)
from-empty at c false false false ex ey ez = ends_empty (rw (ex, ey, ez) refl)

from-name : (c d : Char) (w : List Char) (x : Bool) → run start (bytes (c ∷ w)) ≡ name → is_name_byte d.byte ≡ x →
    Goes shape.Name c.at (c ∷ w) d (cond x (Some shape.Name) None)
from-name c d w true r e = in_name c (w ++ d ∷ []) (more-from (c ∷ w) d name name r (ap (λ b. cond b name dead) e))
from-name c d w false r e = ends_name e

from-digits : (c d : Char) (w : List Char) (x y z : Bool) → run start (bytes (c ∷ w)) ≡ digits → is_ascii_digit d.byte ≡ x → (d.byte == 95) ≡ y → (d.byte == 46) ≡ z →
    Goes shape.Digits c.at (c ∷ w) d (cond x (Some shape.Digits) (cond y (Some shape.Under) (cond z (Some shape.Point) None)))
from-digits c d w true y z r ex ey ez = in_digits c (w ++ d ∷ []) (more-from (c ∷ w) d digits digits r (ap (λ b. cond b digits (cond (d.byte == 95) under dead)) ex))
from-digits c d w false true z r ex ey ez = in_under c w d r (eqb-true d.byte 95 ey)
from-digits c d w false false true r ex ey ez = in_point c w d (ap numeric r) (eqb-true d.byte 46 ez)
from-digits c d w false false false r ex ey ez = ends_digits (rw (ex, ey) refl) ez

from-suffixed : (c d : Char) (w : List Char) (z : Bool) → run start (bytes (c ∷ w)) ≡ suffixed → (d.byte == 46) ≡ z →
    Goes shape.Suffixed c.at (c ∷ w) d (cond z (Some shape.Point) None)
from-suffixed c d w true r ez = in_point c w d (ap numeric r) (eqb-true d.byte 46 ez)
from-suffixed c d w false r ez = ends_suffixed ez

from-under : (c u d : Char) (w : List Char) (x : Bool) → run start (bytes (c ∷ w)) ≡ digits → u.byte ≡ 95 → is_kind d.byte ≡ x →
    Goes shape.Under c.at (c ∷ (w ++ u ∷ [])) d (cond x (Some shape.Suffixed) None)
from-under c u d w true r eu e = in_suffixed c (w ++ u ∷ [] ++ d ∷ []) (more-from (c ∷ (w ++ u ∷ [])) d under suffixed
    (more-from (c ∷ w) u digits under r (rw eu refl)) (ap (λ b. cond b suffixed dead) e))
from-under c u d w false r eu e = ends_under e

from-fixed : (c d : Char) (w : List Char) (x : Bool) → run start (bytes (c ∷ w)) ≡ fixed (bytes (c ∷ w)) → is_begun (bytes (c ∷ w) ++ d.byte ∷ []) ≡ x →
    Goes shape.Fixed c.at (c ∷ w) d (cond x (Some shape.Fixed) None)
from-fixed c d w true r e = in_fixed c (w ++ d ∷ []) (more-from (c ∷ w) d (fixed (bytes (c ∷ w))) (fixed (bytes (c ∷ w) ++ d.byte ∷ [])) r
    (ap (λ b. cond b (fixed (bytes (c ∷ w) ++ d.byte ∷ [])) dead) e) ∙ ap fixed (sym (map-append (λ c. c.byte) (c ∷ w) (d ∷ []))))
from-fixed c d w false r e = ends_fixed e

pub goes : (sh : Shape) (at last : Place) (pend : List Char) (d : Char) → Stands sh at last pend → Goes sh at pend d (goes_on sh (bytes pend) d.byte)
goes sh at last pend d empty = from-empty at d (is_ascii_lowercase d.byte) (is_ascii_digit d.byte) (is_begun (d.byte ∷ [])) refl refl refl
goes sh at last pend d (in_name c w r) = from-name c d w (is_name_byte d.byte) r refl
goes sh at last pend d (in_digits c w r) = from-digits c d w (is_ascii_digit d.byte) (d.byte == 95) (d.byte == 46) r refl refl refl
goes sh at last pend d (in_suffixed c w r) = from-suffixed c d w (d.byte == 46) r refl
goes sh at last pend d (in_under c w u r e) = from-under c u d w (is_kind d.byte) r e refl
goes sh at last pend d (in_point c w u r e) = ends_point
goes sh at last pend d (in_fixed c w r) = from-fixed c d w (is_begun (bytes (c ∷ w) ++ d.byte ∷ [])) r refl
