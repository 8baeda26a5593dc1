-- Characters at their places.
use Rattle.std.proofs.Common.{◌≡◌, ℕ, ◌+◌, List, [], ◌∷◌, ◌++◌, length, ap, ◌∙◌, arith}
use Rattle.fort_lex.specs.Rows.{placed, place, blanked}

pub placed-more : (f n k : ℕ) (bytes : List ℕ) (b : ℕ) → placed f n k (bytes ++ b ∷ []) ≡ placed f n k bytes ++ record { byte = blanked b; at = place f n (k + length bytes) } ∷ []
placed-more f n k [] b = let e : k ≡ k + 0 = omega arith in ap (λ m. record { byte = blanked b; at = place f n m } ∷ []) e
placed-more f n k (x ∷ bytes) b =
    let e : k + 1 + length bytes ≡ k + length (x ∷ bytes) = omega arith in
    ap (λ r. record { byte = blanked x; at = place f n k } ∷ r)
    (placed-more f n (k + 1) bytes b ∙ ap (λ m. placed f n (k + 1) bytes ++ record { byte = blanked b; at = place f n m } ∷ []) e)
