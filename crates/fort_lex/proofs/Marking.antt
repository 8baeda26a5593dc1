-- The last mark of a line.
use Rattle.std.proofs.Common.{◌≡◌, ℕ, ◌-◌, ◌<◌, ◌≤◌, suc, Bool, true, false, cond, ◌&&◌, List, [], ◌∷◌, ◌++◌, length, take, drop, get_or, None, Some, refl, sym, ap, ◌∙◌, subst, arith, drop-cons, take-append-drop}
use Rattle.std.specs.Prelude.{◌==◌}
use Rattle.std.proofs.lemmas.Bool.{and_parts}
use Rattle.fort_tokens.specs.declared.character.Char.{Char}
use Rattle.fort_lex.specs.Joined.{Part, is_blank, is_mark, all_blank, mark_off, blank_at, without_blanks, continuing, continuing_at}
use Rattle.fort_lex.specs.Shown.{no_char}

and-false : (b : Bool) → (b && false) ≡ false
and-false true = refl
and-false false = refl

not-blank : (p : List Char) (a : Char) (bs : List Char) → is_blank a ≡ false → all_blank (p ++ a ∷ bs) ≡ false
not-blank [] a bs h = ap (λ x. x && all_blank bs) h
not-blank (c ∷ p) a bs h = ap (λ x. is_blank c && x) (not-blank p a bs h) ∙ and-false (is_blank c)

abbrev marked-as : Bool → Char → List Char → Part
marked-as b c line = cond {A = Part} b (record { text = []; mark = Some c.at }) (record { text = c ∷ (mark_off line).text; mark = (mark_off line).mark })

mark-no_blank : (a : Char) → is_mark a ≡ true → is_blank a ≡ false
mark-no_blank a h = grind (arith, h)

-- a mark behind which only blanks stand
pub marked : (p : List Char) (a : Char) (bs : List Char) → is_mark a ≡ true → all_blank bs ≡ true → mark_off (p ++ a ∷ bs) ≡ record { text = p; mark = Some a.at }
marked [] a bs h k = ap (λ x. marked-as (x && all_blank bs) a bs) h ∙ ap (λ x. marked-as x a bs) k
marked (c ∷ p) a bs h k =
    ap (λ x. marked-as (is_mark c && x) c (p ++ a ∷ bs)) (not-blank p a bs (mark-no_blank a h))
    ∙ ap (λ x. marked-as x c (p ++ a ∷ bs)) (and-false (is_mark c))
    ∙ ap (λ (r : Part). record { text = c ∷ r.text; mark = r.mark }) (marked p a bs h k)

blank-first : (c : Char) (line : List Char) → is_blank c ≡ true → is_mark c ≡ false
blank-first c line h = grind (arith, h)

pub only-blanks : (bs : List Char) → all_blank bs ≡ true → mark_off bs ≡ record { text = bs; mark = None }
only-blanks [] h = refl
only-blanks (c ∷ bs) h =
    let parts = and_parts (is_blank c) (all_blank bs) h in
    ap (λ x. marked-as (x && all_blank bs) c bs) (blank-first c bs parts.0)
    ∙ ap (λ (r : Part). record { text = c ∷ r.text; mark = r.mark }) (only-blanks bs parts.1)

-- another character behind which only blanks stand
pub unmarked : (p : List Char) (a : Char) (bs : List Char) → is_mark a ≡ false → is_blank a ≡ false → all_blank bs ≡ true → mark_off (p ++ a ∷ bs) ≡ record { text = p ++ a ∷ bs; mark = None }
unmarked [] a bs h i k =
    ap (λ x. marked-as (x && all_blank bs) a bs) h ∙ ap (λ (r : Part). record { text = a ∷ r.text; mark = r.mark }) (only-blanks bs k)
unmarked (c ∷ p) a bs h i k =
    ap (λ x. marked-as (is_mark c && x) c (p ++ a ∷ bs)) (not-blank p a bs i)
    ∙ ap (λ x. marked-as x c (p ++ a ∷ bs)) (and-false (is_mark c))
    ∙ ap (λ (r : Part). record { text = c ∷ r.text; mark = r.mark }) (unmarked p a bs h i k)

-- a line in three parts at its last character that is no blank
parted : (line : List Char) (n : ℕ) → n < length line → line ≡ take n line ++ get_or line n no_char ∷ drop (suc n) line
parted line n h = sym (take-append-drop n line) ∙ ap (λ x. take n line ++ x) (drop-cons line n no_char h)

pub marked-at : (line : List Char) (end : ℕ) → 0 < end → end ≤ length line → is_mark (get_or line (end - 1) no_char) ≡ true → all_blank (drop end line) ≡ true →
    mark_off line ≡ record { text = take (end - 1) line; mark = Some (get_or line (end - 1) no_char).at }
marked-at line end h i k b =
    let n : suc (end - 1) ≡ end = omega arith in
    let cut : line ≡ take (end - 1) line ++ get_or line (end - 1) no_char ∷ drop end line = subst (λ m. line ≡ take (end - 1) line ++ get_or line (end - 1) no_char ∷ drop m line) n (parted line (end - 1) (omega arith)) in
    ap mark_off cut ∙ marked (take (end - 1) line) (get_or line (end - 1) no_char) (drop end line) k b

pub unmarked-at : (line : List Char) (end : ℕ) → 0 < end → end ≤ length line → is_mark (get_or line (end - 1) no_char) ≡ false → is_blank (get_or line (end - 1) no_char) ≡ false →
    all_blank (drop end line) ≡ true → mark_off line ≡ record { text = line; mark = None }
unmarked-at line end h i k j b =
    let n : suc (end - 1) ≡ end = omega arith in
    let cut : line ≡ take (end - 1) line ++ get_or line (end - 1) no_char ∷ drop end line = subst (λ m. line ≡ take (end - 1) line ++ get_or line (end - 1) no_char ∷ drop m line) n (parted line (end - 1) (omega arith)) in
    ap mark_off cut ∙ unmarked (take (end - 1) line) (get_or line (end - 1) no_char) (drop end line) k j b
    ∙ ap (λ t. record { text = t; mark = None }) (sym cut)

-- a line that begins with a character that is no mark stands behind a blank
pub behind-blank : (line text rest : List Char) (c : Char) (p : Part) → text ≡ without_blanks line → text ≡ c ∷ rest → is_mark c ≡ false → p ≡ mark_off text →
    record { text = blank_at c.at ∷ p.text; mark = p.mark } ≡ mark_off (continuing line)
behind-blank line text rest c p e f h k =
    ap (λ (r : Part). record { text = blank_at c.at ∷ r.text; mark = r.mark }) (k ∙ ap mark_off f)
    ∙ sym (ap (λ x. mark_off (cond x (cond (all_blank rest) (c ∷ []) rest) (blank_at c.at ∷ c ∷ rest))) h)
    ∙ ap (λ x. mark_off (continuing_at x)) (sym f ∙ e)

pub test-false : (a b : ℕ) → (a ≡ b → ⊥) → (a == b) ≡ false
test-false a b h = grind (arith, h)
