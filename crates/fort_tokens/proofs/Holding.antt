-- What a reader does at an ampersand, and at a second blank.
use Rattle.std.proofs.Common.{◌≡◌, ◌⊎◌, ℕ, Bool, true, false, cond, List, None, Some, refl, sym, ap, ◌∙◌, subst, inl, inr}
use Rattle.std.specs.Prelude.{◌==◌, is_some}
use Rattle.std.proofs.lemmas.Bool.{true≢false}
use Rattle.fort_tree.specs.declared.place.Place.{Place}
use Rattle.fort_tokens.specs.declared.character.Char.{Char}
use Rattle.fort_tokens.specs.Reading.{Reading}
use Rattle.fort_tokens.specs.declared.shape.Shape.{Shape}
use Rattle.fort_tokens.specs.declared.shape.Shape.TheVariants as shape
use Rattle.fort_tokens.specs.Machine.{goes_on, is_empty, settled, settled_at, started, started_as, spoiled, taken_as, fed}
use Rattle.fort_tokens.specs.Reads.{lowered}
use Rattle.std.specs.Char.{to_ascii_lowercase}
use Rattle.fort_tokens.proofs.Fronts.{fixed-amp, fixed-blank}

no-amp : (sh : Shape) (t : List ℕ) → goes_on sh t 38 ≡ None
no-amp shape.Empty t = refl
no-amp shape.Name t = refl
no-amp shape.Digits t = refl
no-amp shape.Under t = refl
no-amp shape.Suffixed t = refl
no-amp shape.Point t = refl
no-amp shape.Fixed t = ap (λ x. cond x (Some shape.Fixed) None) (fixed-amp t)

no-gap : (sh : Shape) (t : List ℕ) → goes_on sh t 32 ≡ None
no-gap shape.Empty t = refl
no-gap shape.Name t = refl
no-gap shape.Digits t = refl
no-gap shape.Under t = refl
no-gap shape.Suffixed t = refl
no-gap shape.Point t = refl
no-gap shape.Fixed t = ap (λ x. cond x (Some shape.Fixed) None) (fixed-blank t)

spoils : (x : Bool) (s a b : Reading) → is_some a.bad ≡ true → is_some b.bad ≡ true → is_some (cond x a b).bad ≡ true
spoils true s a b h k = h
spoils false s a b h k = k

amp-started : (s : Reading) (c : Char) (x : Bool) → c.byte ≡ 38 → is_some s.bad ≡ x → is_some (cond x s (started_as (goes_on s.shape s.text c.byte) s c)).bad ≡ true
amp-started s c true e h = h
amp-started s c false e h =
    ap (λ o. is_some (started_as o s c).bad) (ap (goes_on s.shape s.text) e ∙ no-amp s.shape s.text)
    ∙ ap (λ b. is_some (cond (is_empty s.shape) (cond (b == 32) s (spoiled s c.at)) (spoiled s s.at)).bad) e
    ∙ spoils (is_empty s.shape) s (spoiled s c.at) (spoiled s s.at) refl refl

amp-taken : (s : Reading) (c : Char) (x : Bool) → c.byte ≡ 38 → is_some s.bad ≡ x → is_some (cond x s (taken_as (goes_on s.shape s.text c.byte) s c)).bad ≡ true
amp-taken s c true e h = h
amp-taken s c false e h =
    ap (λ o. is_some (taken_as o s c).bad) (ap (goes_on s.shape s.text) e ∙ no-amp s.shape s.text)
    ∙ amp-started (settled s c.byte) c (is_some (settled s c.byte).bad) e refl

-- a mark that is not last is a bad token, or one stood before
pub amp-bad : (s : Reading) (c : Char) → c.byte ≡ 38 → is_some (fed s c).bad ≡ true
amp-bad s c e = amp-taken s (lowered c) (is_some s.bad) (ap to_ascii_lowercase e) refl

pub bad-stays : (s : Reading) (c : Char) → is_some s.bad ≡ true → fed s c ≡ s
bad-stays s c h = ap (λ x. cond x s (taken_as (goes_on s.shape s.text (lowered c).byte) s (lowered c))) h

-- bad, or with no text
abbrev At-rest : Reading → Type 0
At-rest s = (is_some s.bad ≡ true) ⊎ (is_empty s.shape ≡ true)

rest-cond : (x y : Bool) (s : Reading) (p q : Place) → is_empty s.shape ≡ x → At-rest (cond x (cond true s (spoiled s p)) (spoiled s q))
rest-cond true y s p q h = inr h
rest-cond false y s p q h = inl refl

gap-started : (s : Reading) (c : Char) (x : Bool) → c.byte ≡ 32 → is_some s.bad ≡ x → At-rest (cond x s (started_as (goes_on s.shape s.text c.byte) s c))
gap-started s c true e h = inl h
gap-started s c false e h =
    subst (λ o. At-rest (started_as o s c)) (sym (ap (goes_on s.shape s.text) e ∙ no-gap s.shape s.text))
    (subst (λ b. At-rest (cond (is_empty s.shape) (cond (b == 32) s (spoiled s c.at)) (spoiled s s.at))) (sym e) (rest-cond (is_empty s.shape) true s c.at s.at refl))

gap-taken : (s : Reading) (c : Char) (x : Bool) → c.byte ≡ 32 → is_some s.bad ≡ x → At-rest (cond x s (taken_as (goes_on s.shape s.text c.byte) s c))
gap-taken s c true e h = inl h
gap-taken s c false e h =
    subst (λ o. At-rest (taken_as o s c)) (sym (ap (goes_on s.shape s.text) e ∙ no-gap s.shape s.text))
    (gap-started (settled s c.byte) c (is_some (settled s c.byte).bad) e refl)

empty-is : (sh : Shape) → is_empty sh ≡ true → sh ≡ shape.Empty
empty-is shape.Empty h = refl
empty-is shape.Name h = absurd (true≢false (sym h))
empty-is shape.Digits h = absurd (true≢false (sym h))
empty-is shape.Under h = absurd (true≢false (sym h))
empty-is shape.Suffixed h = absurd (true≢false (sym h))
empty-is shape.Point h = absurd (true≢false (sym h))
empty-is shape.Fixed h = absurd (true≢false (sym h))

idle-start : (s : Reading) (c : Char) (x : Bool) → c.byte ≡ 32 → is_empty s.shape ≡ true → is_some s.bad ≡ x → cond x s (started_as (goes_on s.shape s.text c.byte) s c) ≡ s
idle-start s c true e k h = refl
idle-start s c false e k h = ap (λ o. started_as o s c) (ap (goes_on s.shape s.text) e ∙ no-gap s.shape s.text)
    ∙ ap (λ b. cond (is_empty s.shape) (cond (b == 32) s (spoiled s c.at)) (spoiled s s.at)) e ∙ ap (λ x. cond x s (spoiled s s.at)) k

idle : (s : Reading) (c : Char) (x : Bool) → c.byte ≡ 32 → is_empty s.shape ≡ true → is_some s.bad ≡ x → cond x s (taken_as (goes_on s.shape s.text c.byte) s c) ≡ s
idle s c true e k h = refl
idle s c false e k h = ap (λ o. taken_as o s c) (ap (goes_on s.shape s.text) e ∙ no-gap s.shape s.text)
    ∙ ap (λ sh. started (settled_at sh s c.byte) c) (empty-is s.shape k) ∙ idle-start s c (is_some s.bad) e k refl

-- a second blank changes nothing
pub blank-twice : (s : Reading) (c d : Char) → c.byte ≡ 32 → d.byte ≡ 32 → fed (fed s c) d ≡ fed s c
blank-twice s c d e f = elim (gap-taken s (lowered c) (is_some s.bad) (ap to_ascii_lowercase e) refl) [
  | inl h ↦ bad-stays (fed s c) d h
  | inr h ↦ idle (fed s c) (lowered d) (is_some (fed s c).bad) (ap to_ascii_lowercase f) h refl
]
