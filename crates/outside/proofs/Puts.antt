-- Puts one after another: what every function that puts in pieces wants.
use Rattle.std.proofs.Common.{◌≡◌, ◌∙◌, ℕ, ◌+◌, ◌-◌, ◌≤◌, ◌<◌, List, ◌++◌, length, take, drop, refl, ap, sym, subst, append_assoc, Some, None, Ok, Err, OnOk, OnErr, arith, length-drop, length-append}
use Rattle.std.proofs.Math.Seq.{take-add, take-append-add}
use Rattle.std.proofs.lemmas.Grind.{common_steps}
use Rattle.std.specs.declared.option.Option.{Option}
use Rattle.std.specs.declared.result.Result.{Result}
use Rattle.std.specs.Option.{option_map}
use Rattle.outside.specs.Counts.{Rose}
use Rattle.outside.specs.Taken.{Took, TookPrefix}

-- An answer's fact, from what holds where it is an Ok.
pub OnOk-map : {T E P Q : Type 0} → (result : Result T E) → (P → Q) → OnOk result P → OnOk result Q
OnOk-map (Ok value) f p = f p
OnOk-map (Err error) f p = p

-- An answer's fact, from what holds where it is an Err.
pub OnErr-map : {T E P Q : Type 0} → (result : Result T E) → (P → Q) → OnErr result P → OnErr result Q
OnErr-map (Ok value) f p = p
OnErr-map (Err error) f p = f p

taken_twice : (start : Option (List ℕ)) (xs ys : List ℕ)
    → option_map (λ taken. taken ++ ys) (option_map (λ taken. taken ++ xs) start) ≡ option_map (λ taken. taken ++ (xs ++ ys)) start
taken_twice None xs ys = refl
taken_twice (Some taken) xs ys = ap (λ (t : List ℕ). Some t) (rw append_assoc refl)

-- What is taken in two pieces is taken.
pub Took-append : (first second third : Option (List ℕ)) (xs ys : List ℕ) → Took first second xs → Took second third ys → Took first third (xs ++ ys)
Took-append first second third xs ys one two = two ∙ ap (option_map (λ taken. taken ++ ys)) one ∙ taken_twice first xs ys

-- What is taken in three pieces is taken.
pub Took-three : (first second third fourth : Option (List ℕ)) (xs ys zs : List ℕ)
    → Took first second xs → Took second third ys → Took third fourth zs → Took first fourth (xs ++ (ys ++ zs))
Took-three first second third fourth xs ys zs one two three = Took-append first second fourth xs _ one (Took-append second third fourth ys zs two three)

-- The slice from an index to the end.
from_index : (piece : List ℕ) (at : ℕ) → take (length piece - at) (drop at piece) ≡ drop at piece
from_index piece at = grind (arith, common_steps)

-- One more put of what is left takes a longer part.
pub one_more : (first second third : Option (List ℕ)) (piece : List ℕ) (at n : ℕ) → n ≤ length (take (length piece - at) (drop at piece))
    → Took first second (take at piece) → Took second third (take n (take (length piece - at) (drop at piece))) → Took first third (take (at + n) piece)
one_more first second third piece at n fits one two =
    let longer : Took first third (take at piece ++ take n (take (length piece - at) (drop at piece))) = Took-append first second third _ _ one two in
    let same : take at piece ++ take n (take (length piece - at) (drop at piece)) ≡ take (at + n) piece
    = ap (λ (rest : List ℕ). take at piece ++ take n rest) (from_index piece at) ∙ sym (take-add at n piece) in
    subst (λ (text : List ℕ). Took first third text) same longer

-- That part is within the piece.
pub one_more-within : (piece : List ℕ) (at n : ℕ) → at ≤ length piece → n ≤ length (take (length piece - at) (drop at piece)) → at + n ≤ length piece
one_more-within piece at n inside fits =
    let shorter : n ≤ length (drop at piece) = subst (λ (rest : List ℕ). n ≤ length rest) (from_index piece at) fits in
    omega (arith, length-drop at piece)

take_within : (xs ys : List ℕ) (n : ℕ) → n < length xs → take n (xs ++ ys) ≡ take n xs
take_within xs ys n h = grind (arith, common_steps)

-- A text that was taken, and a prefix of what comes after it, are a prefix of the whole.
pub TookPrefix-after : (first second third : Option (List ℕ)) (xs ys : List ℕ) → Took first second xs → TookPrefix second third ys → TookPrefix first third (xs ++ ys)
TookPrefix-after first second third xs ys one two = record {
  count = length xs + two.count;
  within = let inside : two.count < length ys = two.within in omega (arith, length-append xs ys);
  taken = subst (λ (text : List ℕ). Took first third text) (sym (take-append-add xs ys two.count)) (Took-append first second third xs _ one two.taken);
}

-- A prefix of a text is one of a longer text.
pub TookPrefix-longer : (first second : Option (List ℕ)) (xs ys : List ℕ) → TookPrefix first second xs → TookPrefix first second (xs ++ ys)
TookPrefix-longer first second xs ys part = record {
  count = part.count;
  within = let inside : part.count < length xs = part.within in omega (arith, length-append xs ys);
  taken = subst (λ (text : List ℕ). Took first second text) (sym (take_within xs ys part.count part.within)) part.taken;
}

-- The second of three pieces failed.
pub second_of_three : (first second third : Option (List ℕ)) (xs ys zs : List ℕ) → Took first second xs → TookPrefix second third ys → TookPrefix first third (xs ++ (ys ++ zs))
second_of_three first second third xs ys zs one part = TookPrefix-after first second third xs _ one (TookPrefix-longer second third ys zs part)

-- The third of three pieces failed.
pub third_of_three : (first second third fourth : Option (List ℕ)) (xs ys zs : List ℕ)
    → Took first second xs → Took second third ys → TookPrefix third fourth zs → TookPrefix first fourth (xs ++ (ys ++ zs))
third_of_three first second third fourth xs ys zs one two part = TookPrefix-after first second fourth xs _ one (TookPrefix-after second third fourth ys zs two part)

-- A count that rose later has risen.
pub Rose-later : (first second third : ℕ) → first ≤ second → Rose second third → Rose first third
Rose-later first second third later rose = omega arith

-- A count that has risen stays so.
pub Rose-stays : (first second third : ℕ) → Rose first second → second ≤ third → Rose first third
Rose-stays first second third rose later = omega arith
