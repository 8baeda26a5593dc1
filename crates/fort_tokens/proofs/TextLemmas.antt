use Rattle.std.proofs.Common.{◌≡◌, ℕ, ◌+◌, ◌-◌, ◌*◌, ◌<◌, ◌≤◌, Bool, true, false, cond, List, [], ◌∷◌, ◌++◌, length, map, drop, get_or, refl, sym, ap, ◌∙◌, arith, drop-cons, suc}
use Rattle.std.specs.Prelude.{◌/◌}
use Rattle.std.proofs.lemmas.Bool.{lt-leb}
use Rattle.std.specs.List.{list_any}
use Rattle.std.specs.Char.{is_ascii_digit}
use Rattle.fort_tokens.specs.Texts.{begins_with, value_from, is_small}

pub begins-no_word : (t : List ℕ) (b : ℕ) → begins_with [] (t ++ b ∷ []) ≡ false
begins-no_word [] b = refl
begins-no_word (a ∷ t) b = refl

pub list_any-map : {A B : Type 0} (f : A → B) (p : B → Bool) (xs : List A) → list_any (λ x. p (f x)) xs ≡ list_any p (map f xs)
list_any-map f p [] = refl
list_any-map f p (x ∷ xs) = rw (list_any-map f p xs) refl

grows-at : (v d : ℕ) (b : Bool) (w : ℕ) → 10 * v + d ≤ w → v ≤ cond b w v
grows-at v d true w h = omega (arith, h)
grows-at v d false w h = omega arith

pub value-grows : (v : ℕ) (bs : List ℕ) → v ≤ value_from v bs
value-grows v [] = omega arith
value-grows v (b ∷ bs) = grows-at v (b - 48) (is_ascii_digit b) (value_from (10 * v + (b - 48)) bs) (value-grows (10 * v + (b - 48)) bs)

pub value-more : (v b : ℕ) (bs : List ℕ) → is_ascii_digit b ≡ true → 10 * v + (b - 48) ≤ value_from v (b ∷ bs)
value-more v b bs d = rw d (value-grows (10 * v + (b - 48)) bs)

pub begins-short : (w t : List ℕ) (b : ℕ) → length w ≡ 0 → false ≡ begins_with w (t ++ b ∷ [])
begins-short [] t b h = sym (begins-no_word t b)
begins-short (x ∷ w) t b h = absurd (omega (arith, h))

pub too-large : (v i d : ℕ) (bs : List ℕ) → i < length bs → is_ascii_digit (get_or bs i 0) ≡ true → d ≡ get_or bs i 0 - 48 →
    (9223372036854775807 - d) / 10 < v → value_from 0 bs ≡ value_from v (drop i bs) → false ≡ is_small bs
too-large v i d bs lt digit is large same =
    let cut : drop i bs ≡ get_or bs i 0 ∷ drop (suc i) bs = drop-cons bs i 0 lt in
    let value : value_from 0 bs ≡ value_from v (get_or bs i 0 ∷ drop (suc i) bs) = same ∙ ap (value_from v) cut in
    let more : 10 * v + (get_or bs i 0 - 48) ≤ value_from v (get_or bs i 0 ∷ drop (suc i) bs) = value-more v (get_or bs i 0) (drop (suc i) bs) digit in
    let high : 9223372036854775807 < value_from 0 bs = omega (arith, value, more, large, is) in
    sym (lt-leb (value_from 0 bs) 9223372036854775807 high)
