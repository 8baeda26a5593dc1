-- Subscripts, one after the other.
use Rattle.std.proofs.Common.{◌≡◌, ℕ, suc, ◌+◌, ◌<◌, length, get_or, drop, drop-cons, add-one, Bool, true, false, ◌&&◌, cond, List, [], ◌∷◌, Option, None, Some, refl, sym, ap, subst, ◌∙◌}
use Rattle.sound_programs.specs.Walks.{count_of}
use Rattle.std.proofs.lemmas.Bool.{false≢true}
use denote.Enum.Bare.{same_true}
use Rattle.fort_arith.specs.contracts.kind.Kind.{the_type as kind_type}
use Rattle.fort_arith.specs.declared.kind.Kind.{Kind}
use Rattle.fort_arith.specs.declared.kind.Kind.TheVariants.{I1, I2, I4, I8, Logical}
use Rattle.fort_tree.specs.declared.expr.Expr as tree_expr
use Rattle.fort_tree.specs.declared.expr.Expr.TheOpen.{Sub-F}
use Rattle.fort_tree.specs.declared.expr.Expr.TheFolds.{fold-roll-Sub, map-Sub}
use Rattle.fort_tree.specs.declared.expr.Expr.TheViews.{out-Sub, roll-out-Sub}
use Rattle.fort_tree.specs.declared.expr.Sub as tree_sub
use Rattle.fort_tree.specs.declared.place.Place.{Place}
use Rattle.fort_tree.specs.Same.{same_kind}
use Rattle.claw_meaning.specs.Syntax.{Text}
use Rattle.claw_meaning.specs.Scope.{Entity}
use Rattle.sound_programs.specs.Kinding.{kinds_in, common_kind, is_integer, integer, agreed}
use Rattle.sound_programs.specs.Placed.{Expr, One, Section, Limit}
use Rattle.sound_programs.specs.Placing.{Before, expr_step, sub_step, limit, placed_expr, placed_sub, placed_subs}
use Rattle.fort_kinds.specs.OneSub.{kind_of_one, shared_with, agreed_by, shared_after}

-- what holds of each expression and of each section as a subscript holds of each subscript
pub of_sub : (P : Before → Type 0) → ((e : Expr) → P (One e)) → ((lower upper : Limit) (at : Place) → P (Section lower upper at)) → (s : tree_sub.Sub) → P (placed_sub s)
of_sub P one section s =
    subst (λ x. P (placed_sub x)) (roll-out-Sub s)
    (subst P (sym (fold-roll-Sub Expr Before expr_step sub_step (out-Sub s))) (level (map-Sub tree_expr.Expr tree_sub.Sub Expr Before placed_expr placed_sub (out-Sub s))))
  where
    level : (x : Sub-F Expr Before) → P (sub_step x)
    level (Sub-F.«Sub::One» e) = one e
    level (Sub-F.Range from to at) = section (limit from) (limit to) at

-- Kinds

pub kinds_first : (entity : Text → Entity) (s : tree_sub.Sub) (ss : List tree_sub.Sub) → kinds_in entity (placed_subs (s ∷ ss)) ≡ kind_of_one entity (placed_sub s) ∷ kinds_in entity (placed_subs ss)
kinds_first entity s ss =
    of_sub (λ b. kinds_in entity (b (placed_subs ss)) ≡ kind_of_one entity b ∷ kinds_in entity (placed_subs ss)) (λ e. refl) (λ lower upper at. refl) s

-- the one kind of all, by the first of them

same_means : (a b : Option Kind) → same_kind a b ≡ true → a ≡ b
same_means None None h = refl
same_means None (Some k) h = absurd (false≢true h)
same_means (Some j) None h = absurd (false≢true h)
same_means (Some j) (Some k) h = ap Some (same_true kind_type tt j k h)

agreed_itself : (a : Option Kind) → agreed a (integer a) ≡ integer a
agreed_itself None = refl
agreed_itself (Some I1) = refl
agreed_itself (Some I2) = refl
agreed_itself (Some I4) = refl
agreed_itself (Some I8) = refl
agreed_itself (Some Logical) = refl

itself_agreed : (a : Option Kind) → agreed (integer a) a ≡ integer a
itself_agreed None = refl
itself_agreed (Some I1) = refl
itself_agreed (Some I2) = refl
itself_agreed (Some I4) = refl
itself_agreed (Some I8) = refl
itself_agreed (Some Logical) = refl

agreed_none : (a : Option Kind) → agreed a None ≡ None
agreed_none None = refl
agreed_none (Some I1) = refl
agreed_none (Some I2) = refl
agreed_none (Some I4) = refl
agreed_none (Some I8) = refl
agreed_none (Some Logical) = refl

agreed_other : (a b : Option Kind) → same_kind a b ≡ false → agreed a b ≡ None
agreed_other a b h = ap (λ s. cond (is_integer a && s) a None) h ∙ go (is_integer a)
  where
    go : (w : Bool) → cond (w && false) a None ≡ None
    go true = refl
    go false = refl

agreed_differing : (a b : Option Kind) → same_kind a b ≡ false → agreed a (integer b) ≡ None
agreed_differing a None h = agreed_none a
agreed_differing a (Some I1) h = agreed_other a (Some I1) h
agreed_differing a (Some I2) h = agreed_other a (Some I2) h
agreed_differing a (Some I4) h = agreed_other a (Some I4) h
agreed_differing a (Some I8) h = agreed_other a (Some I8) h
agreed_differing a (Some Logical) h = agreed_none a

differing_agreed : (a b : Option Kind) → same_kind a b ≡ false → agreed (integer a) b ≡ None
differing_agreed None b h = refl
differing_agreed (Some I1) b h = agreed_other (Some I1) b h
differing_agreed (Some I2) b h = agreed_other (Some I2) b h
differing_agreed (Some I4) b h = agreed_other (Some I4) b h
differing_agreed (Some I8) b h = agreed_other (Some I8) b h
differing_agreed (Some Logical) b h = refl

-- the kind so far stays, or there is none
stays : (P : Option Kind → Type 0) (c : Option Kind) (kinds : List (Option Kind)) → P c → P None → P (agreed_by c kinds)
stays P c [] p none = p
stays P c (k ∷ kinds) p none = stays P (agreed c k) kinds (go (is_integer c && same_kind c k)) none
  where
    go : (b : Bool) → P (cond b c None)
    go true = p
    go false = none

none_stays : (kinds : List (Option Kind)) → agreed_by None kinds ≡ None
none_stays [] = refl
none_stays (k ∷ kinds) = none_stays kinds

next_agreed : (a b : Option Kind) (kinds : List (Option Kind)) (s : Bool) → same_kind a b ≡ s → agreed a (agreed_by (integer b) kinds) ≡ agreed_by (agreed (integer a) b) kinds
next_agreed a b kinds true h =
    subst (λ c. agreed a (agreed_by (integer c) kinds) ≡ agreed_by (agreed (integer a) c) kinds) (same_means a b h)
    (stays (λ c. agreed a c ≡ c) (integer a) kinds (agreed_itself a) (agreed_none a) ∙ ap (λ c. agreed_by c kinds) (sym (itself_agreed a)))
next_agreed a b kinds false h =
    stays (λ c. agreed a c ≡ None) (integer b) kinds (agreed_differing a b h) (agreed_none a) ∙ sym (ap (λ c. agreed_by c kinds) (differing_agreed a b h) ∙ none_stays kinds)

common_is : (a : Option Kind) (kinds : List (Option Kind)) → common_kind (a ∷ kinds) ≡ agreed_by (integer a) kinds
common_is a [] = refl
common_is a (b ∷ kinds) = ap (agreed a) (common_is b kinds) ∙ next_agreed a b kinds (same_kind a b) refl

pub shared_next : (shared : Option (Option Kind)) (kind : Option Kind) (kinds : List (Option Kind)) → shared_after shared (kind ∷ kinds) ≡ shared_after (Some (shared_with shared kind)) kinds
shared_next None kind kinds = common_is kind kinds
shared_next (Some shared) kind kinds = refl

-- Items of a list

-- the next item of a list, and those behind it
pub at_index : {A : Type 0} (items : List A) (i : ℕ) (a : A) → i < length items → a ≡ get_or items i a → drop i items ≡ a ∷ drop (i + 1) items
at_index items i a within is = rw (add-one, drop-cons items i a) (ap (λ x. x ∷ drop (suc i) items) (sym is))

-- one more argument
pub next_shared : (entity : Text → Entity) (items : List tree_sub.Sub) (i : ℕ) (s : tree_sub.Sub) → i < length items → s ≡ get_or items i s → (shared new : Option (Option Kind)) →
    new ≡ Some (shared_with shared (kind_of_one entity (placed_sub s))) →
    shared_after new (kinds_in entity (placed_subs (drop (i + 1) items))) ≡ shared_after shared (kinds_in entity (placed_subs (drop i items)))
next_shared entity items i s within is shared new e =
    ap (λ o. shared_after o (kinds_in entity (placed_subs (drop (i + 1) items)))) e
    ∙ sym (shared_next shared (kind_of_one entity (placed_sub s)) (kinds_in entity (placed_subs (drop (i + 1) items))))
    ∙ ap (shared_after shared) (sym (kinds_first entity s (drop (i + 1) items)))
    ∙ ap (λ l. shared_after shared (kinds_in entity (placed_subs l))) (sym (at_index items i s within is))

-- How many there are

pub count_is : (subs : List tree_sub.Sub) → count_of (placed_subs subs) ≡ length subs
count_is [] = refl
count_is (s ∷ ss) = of_sub (λ b. count_of (b (placed_subs ss)) ≡ suc (length ss)) (λ e. ap suc (count_is ss)) (λ lower upper at. ap suc (count_is ss)) s
