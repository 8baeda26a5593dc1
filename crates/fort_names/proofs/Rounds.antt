-- USE lines one behind another: where one more brings nothing, no more does.
use Rattle.std.proofs.Common.{◌≡◌, ℕ, zero, suc, ◌+◌, ◌-◌, ◌≤◌, nat_eq, Bool, true, false, ◌&&◌, List, [], ◌∷◌, length, Option, None, Some, refl, sym, ap, ◌∙◌, arith, eqb-true}
use Rattle.std.specs.Cmp.Lexicographic.{pointwise}
use Rattle.std.specs.Option.{option_eq}
use Rattle.std.proofs.lemmas.Bool.{false≢true}
use Rattle.fort_tree.specs.declared.unit.Module.{Module}
use Rattle.claw_meaning.specs.Syntax.{Text}
use Rattle.fort_names.specs.declared.homes.Declared.{Declared}
use Rattle.fort_names.specs.Tables.{next_row, rounds, origins}

module _ (d : Declared) (ms : List Module) (x : Text) where
  stays : (k : ℕ) → rounds d ms (suc k) x ≡ rounds d ms k x → (j n : ℕ) → n ≡ k + j → rounds d ms n x ≡ rounds d ms k x
  stays k same zero n e = let at : n ≡ k = omega (arith, e) in ap (λ i. rounds d ms i x) at
  stays k same (suc j) n e =
      let at : n ≡ suc (k + j) = omega (arith, e) in
      ap (λ i. rounds d ms i x) at ∙ ap (λ row. next_row d 0 ms row x) (stays k same j (k + j) refl) ∙ same

  pub at_rest : (k : ℕ) (row next : List (Option ℕ)) → k ≤ length ms → row ≡ rounds d ms k x → next ≡ next_row d 0 ms row x → next ≡ row → row ≡ origins d ms x
  at_rest k row next h is one same =
      let on : rounds d ms (suc k) x ≡ rounds d ms k x = ap (λ r. next_row d 0 ms r x) (sym is) ∙ sym one ∙ same ∙ is in
      is ∙ sym (stays k on (suc (length ms) - k) (suc (length ms)) (omega (arith, h)))

  pub one_more : (k : ℕ) (row next : List (Option ℕ)) → row ≡ rounds d ms k x → next ≡ next_row d 0 ms row x → next ≡ rounds d ms (k + 1) x
  one_more k row next is one = let at : suc k ≡ k + 1 = omega arith in one ∙ ap (λ r. next_row d 0 ms r x) is ∙ ap (λ i. rounds d ms i x) at

  pub all_rounds : (k : ℕ) (row : List (Option ℕ)) → k ≡ length ms + 1 → row ≡ rounds d ms k x → row ≡ origins d ms x
  all_rounds k row e is = let at : k ≡ suc (length ms) = omega (arith, e) in is ∙ ap (λ i. rounds d ms i x) at

same_numbers : (a b : Option ℕ) → option_eq nat_eq a b ≡ true → a ≡ b
same_numbers None None e = refl
same_numbers None (Some b) e = absurd (false≢true e)
same_numbers (Some a) None e = absurd (false≢true e)
same_numbers (Some a) (Some b) e = ap Some (eqb-true a b e)

both_parts : (a b : Bool) → (a && b) ≡ true → (a ≡ true) × (b ≡ true)
both_parts true b e = (refl, e)
both_parts false b e = absurd (false≢true e)

pub same_rows : (a b : List (Option ℕ)) → pointwise (option_eq nat_eq) a b ≡ true → a ≡ b
same_rows [] [] e = refl
same_rows [] (y ∷ ys) e = absurd (false≢true e)
same_rows (x ∷ xs) [] e = absurd (false≢true e)
same_rows (x ∷ xs) (y ∷ ys) e =
    let parts = both_parts (option_eq nat_eq x y) (pointwise (option_eq nat_eq) xs ys) e in
    λ i. same_numbers x y parts.0 i ∷ same_rows xs ys parts.1 i
