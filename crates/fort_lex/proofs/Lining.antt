-- The physical lines of a text, cut off one after the other.
use Rattle.std.proofs.Common.{◌≡◌, ℕ, suc, ◌+◌, ◌-◌, ◌<◌, ◌≤◌, Bool, cond, List, [], ◌∷◌, ◌++◌, length, take, drop, get_or, sym, ap, ◌∙◌, arith, eq-eqb, drop-cons, length-drop}
use Rattle.std.specs.Prelude.{◌==◌}
use Rattle.std.proofs.lemmas.List.{take_more, take_all, drop_all, get_or-drop}
use Rattle.fort_lex.specs.Rows.{lines_from, without_return}
use Rattle.fort_lex.proofs.Marking.{test-false}

abbrev front : ℕ → ℕ → List ℕ → List ℕ
front start i text = take (i - start) (drop start text)

abbrev from-here : List ℕ → ℕ → Bool → List ℕ → List (List ℕ)
from-here front b test rest = cond test (without_return front ∷ lines_from [] rest) (lines_from (front ++ b ∷ []) rest)

next-byte : (start i : ℕ) (text : List ℕ) → i < length text →
    lines_from (front start i text) (drop i text) ≡ from-here (front start i text) (get_or text i 0) (get_or text i 0 == 10) (drop (i + 1) text)
next-byte start i text h =
    let e : suc i ≡ i + 1 = omega arith in
    ap (lines_from (front start i text)) (drop-cons text i 0 h ∙ ap (λ j. get_or text i 0 ∷ drop j text) e)

pub line-end : (start i : ℕ) (text : List ℕ) → i < length text → get_or text i 0 ≡ 10 →
    lines_from (front start i text) (drop i text) ≡ without_return (front start i text) ∷ lines_from (front (i + 1) (i + 1) text) (drop (i + 1) text)
line-end start i text h e =
    let none : i + 1 - (i + 1) ≡ 0 = omega arith in
    next-byte start i text h
    ∙ ap (λ t. from-here (front start i text) (get_or text i 0) t (drop (i + 1) text)) (eq-eqb (get_or text i 0) 10 e)
    ∙ ap (λ x. without_return (front start i text) ∷ lines_from x (drop (i + 1) text)) (sym (ap (λ n. take n (drop (i + 1) text)) none))

pub line-more : (start i : ℕ) (text : List ℕ) → start ≤ i → i < length text → (get_or text i 0 ≡ 10 → ⊥) →
    lines_from (front start i text) (drop i text) ≡ lines_from (front start (i + 1) text) (drop (i + 1) text)
line-more start i text l h e =
    let n : i - start + 1 ≡ i + 1 - start = omega arith in
    let long = length-drop start text in
    let more = take_more (drop start text) (i - start) 0 (omega (arith, long)) in
    let at : start + (i - start) ≡ i = omega arith in
    let same : get_or (drop start text) (i - start) 0 ≡ get_or text i 0 = get_or-drop start text (i - start) 0 ∙ ap (λ k. get_or text k 0) at in
    next-byte start i text h
    ∙ ap (λ t. from-here (front start i text) (get_or text i 0) t (drop (i + 1) text)) (test-false (get_or text i 0) 10 e)
    ∙ ap (λ x. lines_from x (drop (i + 1) text)) (ap (λ b. front start i text ++ b ∷ []) (sym same) ∙ sym more ∙ ap (λ m. take m (drop start text)) n)

pub text-end : (start i : ℕ) (text : List ℕ) → length text ≤ i → lines_from (front start i text) (drop i text) ≡ take (length text - start) (drop start text) ∷ []
text-end start i text h =
    let long = length-drop start text in
    ap (lines_from (front start i text)) (drop_all i text h)
    ∙ ap (λ x. x ∷ []) (take_all (i - start) (drop start text) (omega (arith, long)) ∙ sym (take_all (length text - start) (drop start text) (omega (arith, long))))
