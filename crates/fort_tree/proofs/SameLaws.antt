-- Trees are the same exactly where they are equal without their places.
use Rattle.std.proofs.Common.{◌≡◌, ◌↔◌, Bool, true, false, ◌&&◌, ◌==◌, ℕ, List, [], ◌∷◌, Option, None, Some, map, option_map, refl, sym, ap, subst, ◌∙◌}
use Rattle.std.proofs.lemmas.Bool.{and_parts, and_from, eqb-true, eq-eqb, false≢true}
use Rattle.std.proofs.lemmas.Slice.Eq.{bytes_eq-Decides}
use Rattle.std.specs.Str.{bytes_eq}
use denote.Enum.Bare.{sameb, same_true, true_same}
use Rattle.fort_arith.specs.declared.kind.Kind.{Kind}
use Rattle.fort_arith.specs.contracts.kind.Kind.{the_type as kind_type}
use Rattle.fort_arith.specs.declared.op.Op.{Op}
use Rattle.fort_arith.specs.contracts.op.Op.{the_type as op_type}
use Rattle.fort_tree.specs.declared.expr.Unary.{Unary}
use Rattle.fort_tree.specs.contracts.expr.Unary.{the_type as unary_type}
use Rattle.fort_tree.specs.declared.expr.Expr.{Expr}
use Rattle.fort_tree.specs.declared.expr.Sub.{Sub}
use Rattle.fort_tree.specs.declared.expr.Expr.TheOpen.{Expr-F, Sub-F}
use Rattle.fort_tree.specs.declared.expr.Expr.TheViews.{out-Expr, out-Sub, roll-Expr, roll-Sub, out-roll-Expr, out-roll-Sub, roll-out-Expr, roll-out-Sub}
use Rattle.fort_tree.specs.declared.expr.Expr.TheFolds.{fold-roll-Expr, fold-roll-Sub, map-Expr, map-Sub, ind-Expr}
use Rattle.fort_tree.specs.Same.{same_level, same_sub_level, same_expr, same_sub, same_list, same_option, same_kind, same_bool}
use Rattle.fort_tree.specs.Unplaced.{expr_level_nowhere, sub_level_nowhere, unplaced, unplaced_sub}

-- ---- tests that show a fact

abbrev Shows : Bool → Type 0 → Type 0
Shows test fact = (test ≡ true → fact) × (fact → test ≡ true)

both_show : {s t : Bool} {P Q : Type 0} → Shows s P → Shows t Q → Shows (s && t) (P × Q)
both_show {s = s} {t = t} p q = (λ h. (p.0 (and_parts s t h).0, q.0 (and_parts s t h).1), λ e. and_from s t (p.1 e.0) (q.1 e.1))

along : {t : Bool} {P Q : Type 0} → (P → Q) → (Q → P) → Shows t P → Shows t Q
along f g p = (λ h. f (p.0 h), λ q. p.1 (g q))

numbers_show : (a b : ℕ) → Shows (a == b) (a ≡ b)
numbers_show a b = (eqb-true a b, eq-eqb a b)

names_show : (a b : List ℕ) → Shows (bytes_eq a b) (a ≡ b)
names_show a b = bytes_eq-Decides a b

truths_show : (a b : Bool) → Shows (same_bool a b) (a ≡ b)
truths_show true true = (λ h. refl, λ e. refl)
truths_show true false = (λ h. cc, λ e. cc)
truths_show false true = (λ h. cc, λ e. cc)
truths_show false false = (λ h. refl, λ e. refl)

kinds_show : (a b : Option Kind) → Shows (same_kind a b) (a ≡ b)
kinds_show None None = (λ h. refl, λ e. refl)
kinds_show None (Some b) = (λ h. cc, λ e. cc)
kinds_show (Some a) None = (λ h. cc, λ e. cc)
kinds_show (Some a) (Some b) = along (ap Some) (λ e. cc) (same_true kind_type tt a b, true_same kind_type a b)

ops_show : (a b : Op) → Shows (sameb op_type a b) (a ≡ b)
ops_show a b = (same_true op_type tt a b, true_same op_type a b)

unaries_show : (a b : Unary) → Shows (sameb unary_type a b) (a ≡ b)
unaries_show a b = (same_true unary_type tt a b, true_same unary_type a b)

-- ---- one level, whose parts are judged

abbrev IsJudged : Expr → Type 0
IsJudged a = (b : Expr) → Shows (same_expr a b) (unplaced a ≡ unplaced b)

abbrev IsJudgedSub : Sub → Type 0
IsJudgedSub a = (b : Sub) → Shows (same_sub a b) (unplaced_sub a ≡ unplaced_sub b)

abbrev KnownExpr : Type 0
KnownExpr = (e : Expr) × IsJudged e

abbrev KnownSub : Type 0
KnownSub = (s : Sub) × IsJudgedSub s

abbrev plain : Expr-F KnownExpr KnownSub → Expr-F Expr Sub
plain y = map-Expr KnownExpr KnownSub Expr Sub (λ e. e.0) (λ s. s.0) y

abbrev plain_sub : Sub-F KnownExpr KnownSub → Sub-F Expr Sub
plain_sub y = map-Sub KnownExpr KnownSub Expr Sub (λ e. e.0) (λ s. s.0) y

abbrev tested : Expr-F Expr Sub → Expr-F (Expr → Bool) (Sub → Bool)
tested x = map-Expr Expr Sub (Expr → Bool) (Sub → Bool) same_expr same_sub x

abbrev tested_sub : Sub-F Expr Sub → Sub-F (Expr → Bool) (Sub → Bool)
tested_sub x = map-Sub Expr Sub (Expr → Bool) (Sub → Bool) same_expr same_sub x

abbrev cleared : Expr-F Expr Sub → Expr-F Expr Sub
cleared x = expr_level_nowhere (map-Expr Expr Sub Expr Sub unplaced unplaced_sub x)

abbrev cleared_sub : Sub-F Expr Sub → Sub-F Expr Sub
cleared_sub x = sub_level_nowhere (map-Sub Expr Sub Expr Sub unplaced unplaced_sub x)

lists_show : (subs : List KnownSub) (others : List Sub)
    → Shows (same_list (map same_sub (map (λ s. s.0) subs)) others) (map unplaced_sub (map (λ s. s.0) subs) ≡ map unplaced_sub others)
lists_show [] [] = (λ h. refl, λ e. refl)
lists_show [] (o ∷ os) = (λ h. cc, λ e. cc)
lists_show (s ∷ ss) [] = (λ h. cc, λ e. cc)
lists_show (s ∷ ss) (o ∷ os) = along (λ p. cc) (λ e. (cc, cc)) (both_show (s.1 o) (lists_show ss os))

options_show : (part : Option KnownExpr) (other : Option Expr)
    → Shows (same_option (option_map same_expr (option_map (λ e. e.0) part)) other) (option_map unplaced (option_map (λ e. e.0) part) ≡ option_map unplaced other)
options_show None None = (λ h. refl, λ e. refl)
options_show None (Some b) = (λ h. cc, λ e. cc)
options_show (Some a) None = (λ h. cc, λ e. cc)
options_show (Some a) (Some b) = along (ap Some) (λ e. cc) (a.1 b)

-- where neither has anything in parentheses, and where one has
nothing_shows : Shows true (Unit {0})
nothing_shows = (λ h. tt, λ e. refl)

nothing_fails : Shows false ⊥
nothing_fails = (λ h. false≢true h, λ e. absurd e)

level_shows : (y : Expr-F KnownExpr KnownSub) (z : Expr-F Expr Sub) → Shows (same_level (tested (plain y)) z) (cleared (plain y) ≡ cleared z)
level_shows (Expr-F.Number n kind at) (Expr-F.Number m mind bt) = along (λ p. cc) (λ e. (cc, cc)) (both_show (numbers_show n m) (kinds_show kind mind))
level_shows (Expr-F.Number n kind at) (Expr-F.Truth c bt) = (λ h. cc, λ e. cc)
level_shows (Expr-F.Number n kind at) (Expr-F.Ref mame tubs bt) = (λ h. cc, λ e. cc)
level_shows (Expr-F.Number n kind at) (Expr-F.«Expr::One» oq c bt) = (λ h. cc, λ e. cc)
level_shows (Expr-F.Number n kind at) (Expr-F.Two oq c d) = (λ h. cc, λ e. cc)
level_shows (Expr-F.Number n kind at) (Expr-F.Paren c bt) = (λ h. cc, λ e. cc)
level_shows (Expr-F.Truth b at) (Expr-F.Number m mind bt) = (λ h. cc, λ e. cc)
level_shows (Expr-F.Truth b at) (Expr-F.Truth c bt) = along (λ p. cc) (λ e. cc) (truths_show b c)
level_shows (Expr-F.Truth b at) (Expr-F.Ref mame tubs bt) = (λ h. cc, λ e. cc)
level_shows (Expr-F.Truth b at) (Expr-F.«Expr::One» oq c bt) = (λ h. cc, λ e. cc)
level_shows (Expr-F.Truth b at) (Expr-F.Two oq c d) = (λ h. cc, λ e. cc)
level_shows (Expr-F.Truth b at) (Expr-F.Paren c bt) = (λ h. cc, λ e. cc)
level_shows (Expr-F.Ref name subs at) (Expr-F.Number m mind bt) = (λ h. cc, λ e. cc)
level_shows (Expr-F.Ref name subs at) (Expr-F.Truth c bt) = (λ h. cc, λ e. cc)
level_shows (Expr-F.Ref name None at) (Expr-F.Ref mame None bt) = along (λ p. cc) (λ e. (cc, tt)) (both_show (names_show name mame) nothing_shows)
level_shows (Expr-F.Ref name None at) (Expr-F.Ref mame (Some tubs) bt) = along (λ p. absurd p.1) (λ e. cc) (both_show (names_show name mame) nothing_fails)
level_shows (Expr-F.Ref name (Some subs) at) (Expr-F.Ref mame None bt) = along (λ p. absurd p.1) (λ e. cc) (both_show (names_show name mame) nothing_fails)
level_shows (Expr-F.Ref name (Some subs) at) (Expr-F.Ref mame (Some tubs) bt) = along (λ p. cc) (λ e. (cc, cc)) (both_show (names_show name mame) (lists_show subs tubs))
level_shows (Expr-F.Ref name subs at) (Expr-F.«Expr::One» oq c bt) = (λ h. cc, λ e. cc)
level_shows (Expr-F.Ref name subs at) (Expr-F.Two oq c d) = (λ h. cc, λ e. cc)
level_shows (Expr-F.Ref name subs at) (Expr-F.Paren c bt) = (λ h. cc, λ e. cc)
level_shows (Expr-F.«Expr::One» op a at) (Expr-F.Number m mind bt) = (λ h. cc, λ e. cc)
level_shows (Expr-F.«Expr::One» op a at) (Expr-F.Truth c bt) = (λ h. cc, λ e. cc)
level_shows (Expr-F.«Expr::One» op a at) (Expr-F.Ref mame tubs bt) = (λ h. cc, λ e. cc)
level_shows (Expr-F.«Expr::One» op a at) (Expr-F.«Expr::One» oq c bt) = along (λ p. cc) (λ e. (cc, cc)) (both_show (unaries_show op oq) (a.1 c))
level_shows (Expr-F.«Expr::One» op a at) (Expr-F.Two oq c d) = (λ h. cc, λ e. cc)
level_shows (Expr-F.«Expr::One» op a at) (Expr-F.Paren c bt) = (λ h. cc, λ e. cc)
level_shows (Expr-F.Two op a b) (Expr-F.Number m mind bt) = (λ h. cc, λ e. cc)
level_shows (Expr-F.Two op a b) (Expr-F.Truth c bt) = (λ h. cc, λ e. cc)
level_shows (Expr-F.Two op a b) (Expr-F.Ref mame tubs bt) = (λ h. cc, λ e. cc)
level_shows (Expr-F.Two op a b) (Expr-F.«Expr::One» oq c bt) = (λ h. cc, λ e. cc)
level_shows (Expr-F.Two op a b) (Expr-F.Two oq c d) = along (λ p. cc) (λ e. (cc, (cc, cc))) (both_show (ops_show op oq) (both_show (a.1 c) (b.1 d)))
level_shows (Expr-F.Two op a b) (Expr-F.Paren c bt) = (λ h. cc, λ e. cc)
level_shows (Expr-F.Paren a at) (Expr-F.Number m mind bt) = (λ h. cc, λ e. cc)
level_shows (Expr-F.Paren a at) (Expr-F.Truth c bt) = (λ h. cc, λ e. cc)
level_shows (Expr-F.Paren a at) (Expr-F.Ref mame tubs bt) = (λ h. cc, λ e. cc)
level_shows (Expr-F.Paren a at) (Expr-F.«Expr::One» oq c bt) = (λ h. cc, λ e. cc)
level_shows (Expr-F.Paren a at) (Expr-F.Two oq c d) = (λ h. cc, λ e. cc)
level_shows (Expr-F.Paren a at) (Expr-F.Paren c bt) = along (λ p. cc) (λ e. cc) (a.1 c)

sub_level_shows : (y : Sub-F KnownExpr KnownSub) (z : Sub-F Expr Sub) → Shows (same_sub_level (tested_sub (plain_sub y)) z) (cleared_sub (plain_sub y) ≡ cleared_sub z)
sub_level_shows (Sub-F.«Sub::One» a) (Sub-F.«Sub::One» b) = along (λ p. cc) (λ e. cc) (a.1 b)
sub_level_shows (Sub-F.«Sub::One» a) (Sub-F.Range from to bt) = (λ h. cc, λ e. cc)
sub_level_shows (Sub-F.Range from to at) (Sub-F.«Sub::One» b) = (λ h. cc, λ e. cc)
sub_level_shows (Sub-F.Range None None at) (Sub-F.Range None None bt) = along (λ p. cc) (λ e. (cc, cc)) (both_show (options_show None None) (options_show None None))
sub_level_shows (Sub-F.Range None None at) (Sub-F.Range None (Some d) bt) = along (λ p. cc) (λ e. (cc, cc)) (both_show (options_show None None) (options_show None (Some d)))
sub_level_shows (Sub-F.Range None None at) (Sub-F.Range (Some c) None bt) = along (λ p. cc) (λ e. (cc, cc)) (both_show (options_show None (Some c)) (options_show None None))
sub_level_shows (Sub-F.Range None None at) (Sub-F.Range (Some c) (Some d) bt) = along (λ p. cc) (λ e. (cc, cc)) (both_show (options_show None (Some c)) (options_show None (Some d)))
sub_level_shows (Sub-F.Range None (Some b) at) (Sub-F.Range None None bt) = along (λ p. cc) (λ e. (cc, cc)) (both_show (options_show None None) (options_show (Some b) None))
sub_level_shows (Sub-F.Range None (Some b) at) (Sub-F.Range None (Some d) bt) = along (λ p. cc) (λ e. (cc, cc)) (both_show (options_show None None) (options_show (Some b) (Some d)))
sub_level_shows (Sub-F.Range None (Some b) at) (Sub-F.Range (Some c) None bt) = along (λ p. cc) (λ e. (cc, cc)) (both_show (options_show None (Some c)) (options_show (Some b) None))
sub_level_shows (Sub-F.Range None (Some b) at) (Sub-F.Range (Some c) (Some d) bt) = along (λ p. cc) (λ e. (cc, cc)) (both_show (options_show None (Some c)) (options_show (Some b) (Some d)))
sub_level_shows (Sub-F.Range (Some a) None at) (Sub-F.Range None None bt) = along (λ p. cc) (λ e. (cc, cc)) (both_show (options_show (Some a) None) (options_show None None))
sub_level_shows (Sub-F.Range (Some a) None at) (Sub-F.Range None (Some d) bt) = along (λ p. cc) (λ e. (cc, cc)) (both_show (options_show (Some a) None) (options_show None (Some d)))
sub_level_shows (Sub-F.Range (Some a) None at) (Sub-F.Range (Some c) None bt) = along (λ p. cc) (λ e. (cc, cc)) (both_show (options_show (Some a) (Some c)) (options_show None None))
sub_level_shows (Sub-F.Range (Some a) None at) (Sub-F.Range (Some c) (Some d) bt) = along (λ p. cc) (λ e. (cc, cc)) (both_show (options_show (Some a) (Some c)) (options_show None (Some d)))
sub_level_shows (Sub-F.Range (Some a) (Some b) at) (Sub-F.Range None None bt) = along (λ p. cc) (λ e. (cc, cc)) (both_show (options_show (Some a) None) (options_show (Some b) None))
sub_level_shows (Sub-F.Range (Some a) (Some b) at) (Sub-F.Range None (Some d) bt) = along (λ p. cc) (λ e. (cc, cc)) (both_show (options_show (Some a) None) (options_show (Some b) (Some d)))
sub_level_shows (Sub-F.Range (Some a) (Some b) at) (Sub-F.Range (Some c) None bt) = along (λ p. cc) (λ e. (cc, cc)) (both_show (options_show (Some a) (Some c)) (options_show (Some b) None))
sub_level_shows (Sub-F.Range (Some a) (Some b) at) (Sub-F.Range (Some c) (Some d) bt) = along (λ p. cc) (λ e. (cc, cc)) (both_show (options_show (Some a) (Some c)) (options_show (Some b) (Some d)))

-- ---- whole trees

same_expr-roll : (x y : Expr-F Expr Sub) → same_expr (roll-Expr x) (roll-Expr y) ≡ same_level (tested x) y
same_expr-roll x y =
    ap (λ (f : Expr → Bool). f (roll-Expr y)) (fold-roll-Expr (Expr → Bool) (Sub → Bool) (λ x e. same_level x (out-Expr e)) (λ x s. same_sub_level x (out-Sub s)) x)
    ∙ ap (same_level (tested x)) (out-roll-Expr y)

same_sub-roll : (x y : Sub-F Expr Sub) → same_sub (roll-Sub x) (roll-Sub y) ≡ same_sub_level (tested_sub x) y
same_sub-roll x y =
    ap (λ (f : Sub → Bool). f (roll-Sub y)) (fold-roll-Sub (Expr → Bool) (Sub → Bool) (λ x e. same_level x (out-Expr e)) (λ x s. same_sub_level x (out-Sub s)) x)
    ∙ ap (same_sub_level (tested_sub x)) (out-roll-Sub y)

unplaced-roll : (x : Expr-F Expr Sub) → unplaced (roll-Expr x) ≡ roll-Expr (cleared x)
unplaced-roll x = fold-roll-Expr Expr Sub (λ x. roll-Expr (expr_level_nowhere x)) (λ x. roll-Sub (sub_level_nowhere x)) x

unplaced_sub-roll : (x : Sub-F Expr Sub) → unplaced_sub (roll-Sub x) ≡ roll-Sub (cleared_sub x)
unplaced_sub-roll x = fold-roll-Sub Expr Sub (λ x. roll-Expr (expr_level_nowhere x)) (λ x. roll-Sub (sub_level_nowhere x)) x

rolled_shows : (x y : Expr-F Expr Sub) → Shows (same_level (tested x) y) (cleared x ≡ cleared y) → Shows (same_expr (roll-Expr x) (roll-Expr y)) (unplaced (roll-Expr x) ≡ unplaced (roll-Expr y))
rolled_shows x y shows = (
  λ h. unplaced-roll x ∙ ap roll-Expr (shows.0 (sym (same_expr-roll x y) ∙ h)) ∙ sym (unplaced-roll y),
  λ e. same_expr-roll x y ∙ shows.1 (sym (out-roll-Expr (cleared x)) ∙ ap out-Expr (sym (unplaced-roll x) ∙ e ∙ unplaced-roll y) ∙ out-roll-Expr (cleared y)),
)

rolled_sub_shows : (x y : Sub-F Expr Sub) → Shows (same_sub_level (tested_sub x) y) (cleared_sub x ≡ cleared_sub y) → Shows (same_sub (roll-Sub x) (roll-Sub y)) (unplaced_sub (roll-Sub x) ≡ unplaced_sub (roll-Sub y))
rolled_sub_shows x y shows = (
  λ h. unplaced_sub-roll x ∙ ap roll-Sub (shows.0 (sym (same_sub-roll x y) ∙ h)) ∙ sym (unplaced_sub-roll y),
  λ e. same_sub-roll x y ∙ shows.1 (sym (out-roll-Sub (cleared_sub x)) ∙ ap out-Sub (sym (unplaced_sub-roll x) ∙ e ∙ unplaced_sub-roll y) ∙ out-roll-Sub (cleared_sub y)),
)

judged : (a : Expr) → IsJudged a
judged =
    ind-Expr IsJudged IsJudgedSub
    (λ x y is. subst (λ x. IsJudged (roll-Expr x)) is (λ b.
    subst (λ b. Shows (same_expr (roll-Expr (plain y)) b) (unplaced (roll-Expr (plain y)) ≡ unplaced b)) (roll-out-Expr b)
    (rolled_shows (plain y) (out-Expr b) (level_shows y (out-Expr b)))))
    (λ x y is. subst (λ x. IsJudgedSub (roll-Sub x)) is (λ b.
    subst (λ b. Shows (same_sub (roll-Sub (plain_sub y)) b) (unplaced_sub (roll-Sub (plain_sub y)) ≡ unplaced_sub b)) (roll-out-Sub b)
    (rolled_sub_shows (plain_sub y) (out-Sub b) (sub_level_shows y (out-Sub b)))))

pub same_expr-unplaced : (a b : Expr) → (same_expr a b ≡ true) ↔ (unplaced a ≡ unplaced b)
same_expr-unplaced a b = judged a b

pub same_expr-refl : (e : Expr) → same_expr e e ≡ true
same_expr-refl e = (judged e e).1 refl
