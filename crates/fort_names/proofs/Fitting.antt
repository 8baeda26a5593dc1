-- Lists whose items fit each other.
use Rattle.std.proofs.Common.{◌≡◌, ℕ, zero, suc, ◌+◌, ◌<◌, List, [], ◌∷◌, ◌++◌, length, Some, refl, sym, ap, ◌∙◌, subst, arith, take, get_or}
use Rattle.std.specs.List.{slice_get}
use Rattle.std.proofs.lemmas.List.{take_more, length-take-le}
use Rattle.fort_names.specs.Scoping.{AllFit}

pub fits_push : {A B : Type 0} (R : ℕ → A → B → Type 0) (n : ℕ) (xs : List A) (ys : List B) (a : A) (b : B) → AllFit R n xs ys → R (n + length xs) a b → AllFit R n (xs ++ a ∷ []) (ys ++ b ∷ [])
fits_push R n [] [] a b h r = let e : n + 0 ≡ n = omega arith in (subst (λ k. R k a b) e r, tt)
fits_push R n [] (y ∷ ws) a b h r = absurd h
fits_push R n (x ∷ zs) [] a b h r = absurd h
fits_push R n (x ∷ zs) (y ∷ ws) a b h r =
    let e : n + length (x ∷ zs) ≡ n + 1 + length zs = omega arith in
    (h.0, fits_push R (n + 1) zs ws a b h.1 (subst (λ k. R k a b) e r))

-- the list up to the next place
pub fits_next : {A B : Type 0} (R : ℕ → A → B → Type 0) (xs : List A) (ys : List B) (i : ℕ) (a : A) (b : B) → i < length xs → a ≡ get_or xs i a → AllFit R 0 (take i xs) ys → R i a b
    → AllFit R 0 (take (i + 1) xs) (ys ++ b ∷ [])
fits_next R xs ys i a b within is h r =
    let more : take (i + 1) xs ≡ take i xs ++ a ∷ [] = take_more xs i a within ∙ ap (λ x. take i xs ++ x ∷ []) (sym is) in
    let len : length (take i xs) ≡ i = length-take-le i xs (omega arith) in
    let at : i ≡ 0 + length (take i xs) = omega arith in
    subst (λ l. AllFit R 0 l (ys ++ b ∷ [])) (sym more) (fits_push R 0 (take i xs) ys a b h (subst (λ k. R k a b) at r))

pub fits_length : {A B : Type 0} (R : ℕ → A → B → Type 0) (n : ℕ) (xs : List A) (ys : List B) → AllFit R n xs ys → length ys ≡ length xs
fits_length R n [] [] h = refl
fits_length R n [] (y ∷ ws) h = absurd h
fits_length R n (x ∷ zs) [] h = absurd h
fits_length R n (x ∷ zs) (y ∷ ws) h = ap suc (fits_length R (n + 1) zs ws h.1)

pub fits_at : {A B : Type 0} (R : ℕ → A → B → Type 0) (n : ℕ) (xs : List A) (ys : List B) (i : ℕ) (a : A) (b : B) → AllFit R n xs ys → slice_get xs i ≡ Some a → slice_get ys i ≡ Some b → R (n + i) a b
fits_at R n [] [] i a b h e k = absurd (cc)
fits_at R n [] (y ∷ ws) i a b h e k = absurd h
fits_at R n (x ∷ zs) [] i a b h e k = absurd h
fits_at R n (x ∷ zs) (y ∷ ws) zero a b h e k =
    let same_a : x ≡ a = cc in
    let same_b : y ≡ b = cc in
    let at : n ≡ n + 0 = omega arith in
    subst (λ m. R m a b) at (subst (λ z. R n z b) same_a (subst (λ z. R n x z) same_b h.0))
fits_at R n (x ∷ zs) (y ∷ ws) (suc i) a b h e k =
    let at : n + 1 + i ≡ n + suc i = omega arith in
    subst (λ m. R m a b) at (fits_at R (n + 1) zs ws i a b h.1 e k)
