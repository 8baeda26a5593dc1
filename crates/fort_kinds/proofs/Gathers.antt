-- What was gathered of array operands is the rank of the first, and the first that differs.
use Rattle.std.proofs.Common.{◌≡◌, ℕ, zero, suc, ◌+◌, ◌<◌, length, get_or, drop, Bool, true, false, List, [], ◌∷◌, ◌++◌, Option, None, Some, if◌then◌else◌, refl, sym, ap, ◌∙◌, arith}
use Rattle.std.specs.Prelude.{nat_eq}
use Rattle.fort_tree.specs.declared.place.Place.{Place}
use Rattle.fort_arith.specs.declared.op.Op.{Op}
use Rattle.fort_tree.specs.declared.expr.Expr.{Expr}
use Rattle.fort_tree.specs.declared.expr.Expr.TheVariants.{Two}
use Rattle.fort_tree.specs.declared.expr.Sub as tree_sub
use Rattle.claw_meaning.specs.Syntax.{Text}
use Rattle.claw_meaning.specs.Scope.{Entity}
use Rattle.sound_programs.specs.Places.{option_places}
use Rattle.sound_programs.specs.Placed.{No_more}
use Rattle.sound_programs.specs.Placing.{placed_expr, placed_sub, placed_subs}
use Rattle.sound_programs.specs.Ranking.{Operand, operand, operands, operands_in, rank_of_first, first_other, differing, count_of_sections}
use Rattle.fort_kinds.specs.declared.ranking.Ranks.{Ranks}
use Rattle.fort_kinds.specs.Gathering.{with_operand, gathered, none_yet, or_zero, other_rank, or_place}
use Rattle.fort_kinds.specs.OneSub.{is_section_alone}
use Rattle.fort_kinds.proofs.Subs.{of_sub, at_index}
use Rattle.fort_kinds.proofs.Levels.{of_two}

pub gathered_append : (r : Ranks) (xs ys : List Operand) → gathered r (xs ++ ys) ≡ gathered (gathered r xs) ys
gathered_append r [] ys = refl
gathered_append r (x ∷ xs) ys = gathered_append (with_operand r.first r.other x) xs ys

-- an operand that has dimensions
pub operand_is : (at : Place) (n : ℕ) → 0 < n → operand at n ≡ record { at = at; rank = n } ∷ []
operand_is at zero h = absurd (omega arith)
operand_is at (suc n) h = refl

abbrev started : ℕ → Option Place → Ranks
started n other = record { first = Some n; other = other }

first_stays : (n : ℕ) (other : Option Place) (os : List Operand) → (gathered (started n other) os).first ≡ Some n
first_stays n other [] = refl
first_stays n other (o ∷ os) = first_stays n (or_place other (other_rank n o)) os

pub first_gathered : (entity : Text → Entity) (os : List Operand) → or_zero (gathered none_yet os).first ≡ rank_of_first entity os
first_gathered entity [] = refl
first_gathered entity (o ∷ os) = ap or_zero (first_stays o.rank None os)

other_stays : (n : ℕ) (at : Place) (os : List Operand) → (gathered (started n (Some at)) os).other ≡ Some at
other_stays n at [] = refl
other_stays n at (o ∷ os) = other_stays n at os

others_are : (n : ℕ) (os : List Operand) → option_places (gathered (started n None) os).other ≡ first_other n os
others_are n [] = refl
others_are n (o ∷ os) = go (nat_eq o.rank n) (others_are n os)
  where
    go : (b : Bool) → option_places (gathered (started n None) os).other ≡ first_other n os
        → option_places (gathered (started n (or_place None (if b then None else Some o.at))) os).other ≡ (if b then first_other n os else o.at ∷ [])
    go true h = h
    go false h = ap option_places (other_stays n o.at os)

pub other_gathered : (os : List Operand) → option_places (gathered none_yet os).other ≡ differing os
other_gathered [] = refl
other_gathered (o ∷ os) = others_are o.rank os

-- Subscripts, one after the other

pub operands_first : (entity : Text → Entity) (s : tree_sub.Sub) (ss : List tree_sub.Sub) → operands_in entity (placed_subs (s ∷ ss)) ≡ operands_in entity (placed_sub s No_more) ++ operands_in entity (placed_subs ss)
operands_first entity s ss =
    of_sub (λ b. operands_in entity (b (placed_subs ss)) ≡ operands_in entity (b No_more) ++ operands_in entity (placed_subs ss))
    (λ e. ap (λ l. l ++ operands_in entity (placed_subs ss)) (sym (append_nothing _))) (λ lower upper at. refl) s
  where
    append_nothing : (xs : List Operand) → xs ++ [] ≡ xs
    append_nothing [] = refl
    append_nothing (x ∷ xs) = ap (λ l. x ∷ l) (append_nothing xs)

pub sections_first : (s : tree_sub.Sub) (ss : List tree_sub.Sub) → count_of_sections (placed_subs (s ∷ ss)) ≡ (if is_section_alone (placed_sub s) then suc (count_of_sections (placed_subs ss)) else count_of_sections (placed_subs ss))
sections_first s ss =
    of_sub (λ b. count_of_sections (b (placed_subs ss)) ≡ (if is_section_alone b then suc (count_of_sections (placed_subs ss)) else count_of_sections (placed_subs ss))) (λ e. refl) (λ lower upper at. refl) s

-- one more subscript
pub next_gathered : (entity : Text → Entity) (items : List tree_sub.Sub) (i : ℕ) (s : tree_sub.Sub) → i < length items → s ≡ get_or items i s → (old new : Ranks) →
    new ≡ gathered old (operands_in entity (placed_sub s No_more)) →
    gathered new (operands_in entity (placed_subs (drop (i + 1) items))) ≡ gathered old (operands_in entity (placed_subs (drop i items)))
next_gathered entity items i s within is old new e =
    ap (λ r. gathered r (operands_in entity (placed_subs (drop (i + 1) items)))) e
    ∙ sym (gathered_append old (operands_in entity (placed_sub s No_more)) (operands_in entity (placed_subs (drop (i + 1) items))))
    ∙ ap (gathered old) (sym (operands_first entity s (drop (i + 1) items)))
    ∙ ap (λ l. gathered old (operands_in entity (placed_subs l))) (sym (at_index items i s within is))

-- two operands of an operation
pub gathered_two : (entity : Text → Entity) (e a b x y : Expr) (op : Op) → e ≡ Two op a b → x ≡ a → y ≡ b → (old mid new : Ranks) →
    mid ≡ gathered old (operands entity (placed_expr x)) → new ≡ gathered mid (operands entity (placed_expr y)) → new ≡ gathered old (operands entity (placed_expr e))
gathered_two entity e a b x y op is xa yb old mid new first second =
    second
    ∙ ap (λ r. gathered r (operands entity (placed_expr y))) first
    ∙ (λ t. gathered (gathered old (operands entity (placed_expr (xa t)))) (operands entity (placed_expr (yb t))))
    ∙ sym (gathered_append old (operands entity (placed_expr a)) (operands entity (placed_expr b)))
    ∙ ap (λ p. gathered old (operands entity p)) (sym (ap placed_expr is ∙ of_two op a b))

-- what is known in the end
pub rank_is : (entity : Text → Entity) (os : List Operand) (none all : Ranks) (n : ℕ) → none ≡ none_yet → all ≡ gathered none os → n ≡ or_zero all.first → n ≡ rank_of_first entity os
rank_is entity os none all n e g h = h ∙ ap (λ r. or_zero r.first) (g ∙ ap (λ r. gathered r os) e) ∙ first_gathered entity os

pub differing_is : (os : List Operand) (none all : Ranks) → none ≡ none_yet → all ≡ gathered none os → option_places all.other ≡ differing os
differing_is os none all e g = ap (λ r. option_places r.other) (g ∙ ap (λ r. gathered r os) e) ∙ other_gathered os

pub apart_is : (xs ys : List Operand) (none some all : Ranks) → none ≡ none_yet → some ≡ gathered none xs → all ≡ gathered some ys → option_places all.other ≡ differing (xs ++ ys)
apart_is xs ys none some all e g h =
    ap (λ r. option_places r.other) (h ∙ ap (λ r. gathered r ys) (g ∙ ap (λ r. gathered r xs) e) ∙ sym (gathered_append none_yet xs ys)) ∙ other_gathered (xs ++ ys)
