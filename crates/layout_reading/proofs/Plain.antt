-- Trees that are the same, places set aside, have one plain tree.
use Rattle.std.proofs.Common.{◌≡◌, List, [], ◌∷◌, Option, None, Some, map, option_map, refl, sym, ap, ◌∙◌, subst}
use Rattle.fort_tree.specs.declared.expr.Expr.{Expr, out-Expr}
use Rattle.fort_tree.specs.declared.expr.Sub.{Sub, out-Sub}
use Rattle.fort_tree.specs.declared.expr.Expr.TheOpen.{Expr-F, Sub-F}
use Rattle.fort_tree.specs.declared.expr.Expr.TheFolds.{fold-roll-Expr, fold-roll-Sub, map-Expr, map-Sub, ind-Expr}
use Rattle.fort_tree.specs.declared.expr.Expr.TheViews.{roll-Expr, roll-Sub, out-roll-Expr, roll-out-Expr, roll-out-Sub}
use Rattle.fort_tree.specs.declared.stmt.Head.{Head}
use Rattle.fort_tree.specs.declared.stmt.Range.{Range}
use Rattle.fort_tree.specs.declared.stmt.Range.TheVariants as range
use Rattle.fort_tree.specs.declared.unit.Bound.{Bound}
use Rattle.fort_tree.specs.declared.unit.Decl.{Decl}
use Rattle.fort_tree.specs.Unplaced.{expr_level_nowhere, sub_level_nowhere, unplaced, unplaced_sub}
use Rattle.claw_meaning.specs.Syntax as plain
use Rattle.claw_meaning.specs.Plain.{Before, chained, expr_step, sub_step, plain_expr, plain_sub, plain_subs, plain_option, plain_head, plain_range, plain_bound, plain_decl}
use Rattle.sound_programs.specs.Forms.{is_reference, is_reference_level}
use Rattle.layout_reading.specs.Statements.{bare_head, bare_range, bare_bound, bare_decl}

abbrev Known : Type 0
Known = (e : Expr) × (plain_expr (unplaced e) ≡ plain_expr e)

abbrev KnownSub : Type 0
KnownSub = (x : Sub) × (plain_sub (unplaced_sub x) ≡ plain_sub x)

abbrev bare : Expr-F Known KnownSub → Expr-F Expr Sub
bare y = map-Expr Known KnownSub Expr Sub (λ e. e.0) (λ x. x.0) y

abbrev bare_sub : Sub-F Known KnownSub → Sub-F Expr Sub
bare_sub y = map-Sub Known KnownSub Expr Sub (λ e. e.0) (λ x. x.0) y

cleared : Expr-F Expr Sub → Expr-F Expr Sub
cleared x = expr_level_nowhere (map-Expr Expr Sub Expr Sub unplaced unplaced_sub x)

cleared_sub : Sub-F Expr Sub → Sub-F Expr Sub
cleared_sub x = sub_level_nowhere (map-Sub Expr Sub Expr Sub unplaced unplaced_sub x)

unplaced_roll : (x : Expr-F Expr Sub) → unplaced (roll-Expr x) ≡ roll-Expr (cleared x)
unfolding cleared
unplaced_roll x = fold-roll-Expr Expr Sub (λ x. roll-Expr (expr_level_nowhere x)) (λ x. roll-Sub (sub_level_nowhere x)) x

unplaced_sub_roll : (x : Sub-F Expr Sub) → unplaced_sub (roll-Sub x) ≡ roll-Sub (cleared_sub x)
unfolding cleared_sub
unplaced_sub_roll x = fold-roll-Sub Expr Sub (λ x. roll-Expr (expr_level_nowhere x)) (λ x. roll-Sub (sub_level_nowhere x)) x

plain_level : Expr-F Expr Sub → plain.Expr
plain_level x = expr_step (map-Expr Expr Sub plain.Expr Before plain_expr plain_sub x)

plain_sub_level : Sub-F Expr Sub → Before
plain_sub_level x = sub_step (map-Sub Expr Sub plain.Expr Before plain_expr plain_sub x)

plain_roll : (x : Expr-F Expr Sub) → plain_expr (roll-Expr x) ≡ plain_level x
unfolding plain_level
plain_roll x = fold-roll-Expr plain.Expr Before expr_step sub_step x

plain_sub_roll : (x : Sub-F Expr Sub) → plain_sub (roll-Sub x) ≡ plain_sub_level x
unfolding plain_sub_level
plain_sub_roll x = fold-roll-Sub plain.Expr Before expr_step sub_step x

known_list : (l : List KnownSub) → map plain_sub (map unplaced_sub (map (λ (x : KnownSub). x.0) l)) ≡ map plain_sub (map (λ (x : KnownSub). x.0) l)
known_list [] = refl
known_list (x ∷ l) = ap (λ y. y ∷ map plain_sub (map unplaced_sub (map (λ (x : KnownSub). x.0) l))) x.1 ∙ ap (λ y. plain_sub x.0 ∷ y) (known_list l)

level_same : (y : Expr-F Known KnownSub) → plain_level (cleared (bare y)) ≡ plain_level (bare y)
unfolding cleared plain_level
level_same (Expr-F.Number n k at) = refl
level_same (Expr-F.Truth b at) = refl
level_same (Expr-F.Ref x None at) = refl
level_same (Expr-F.Ref x (Some l) at) = ap (λ q. plain.Reference x (chained q)) (known_list l)
level_same (Expr-F.«Expr::One» o a at) = ap (plain.Signed o) a.1
level_same (Expr-F.Two o a b) = ap (λ q. plain.Binary o q (plain_expr (unplaced b.0))) a.1 ∙ ap (plain.Binary o (plain_expr a.0)) b.1
level_same (Expr-F.Paren a at) = ap plain.Paren a.1

sub_level_same : (y : Sub-F Known KnownSub) → plain_sub_level (cleared_sub (bare_sub y)) ≡ plain_sub_level (bare_sub y)
unfolding cleared_sub plain_sub_level
sub_level_same (Sub-F.«Sub::One» a) = ap (λ q. λ rest. plain.At q rest) a.1
sub_level_same (Sub-F.Range None None at) = refl
sub_level_same (Sub-F.Range None (Some b) at) = ap (λ q. λ rest. plain.Section plain.Unbounded (plain.Bounded q) rest) b.1
sub_level_same (Sub-F.Range (Some a) None at) = ap (λ q. λ rest. plain.Section (plain.Bounded q) plain.Unbounded rest) a.1
sub_level_same (Sub-F.Range (Some a) (Some b) at) =
    ap (λ q. λ rest. plain.Section (plain.Bounded q) (plain.Bounded (plain_expr (unplaced b.0))) rest) a.1 ∙ ap (λ q. λ rest. plain.Section (plain.Bounded (plain_expr a.0)) (plain.Bounded q) rest) b.1

abbrev IsKnown : Expr → Type 0
IsKnown e = plain_expr (unplaced e) ≡ plain_expr e

abbrev IsKnownSub : Sub → Type 0
IsKnownSub x = plain_sub (unplaced_sub x) ≡ plain_sub x

expr_known : (y : Expr-F Known KnownSub) → IsKnown (roll-Expr (bare y))
expr_known y = ap plain_expr (unplaced_roll (bare y)) ∙ plain_roll (cleared (bare y)) ∙ level_same y ∙ sym (plain_roll (bare y))

sub_known : (y : Sub-F Known KnownSub) → IsKnownSub (roll-Sub (bare_sub y))
sub_known y = ap plain_sub (unplaced_sub_roll (bare_sub y)) ∙ plain_sub_roll (cleared_sub (bare_sub y)) ∙ sub_level_same y ∙ sym (plain_sub_roll (bare_sub y))

plain_unplaced : (e : Expr) → plain_expr (unplaced e) ≡ plain_expr e
plain_unplaced e = ind-Expr IsKnown IsKnownSub (λ x y is. subst (λ q. IsKnown (roll-Expr q)) is (expr_known y)) (λ x y is. subst (λ q. IsKnownSub (roll-Sub q)) is (sub_known y)) e

pub same_plain : (a b : Expr) → unplaced a ≡ unplaced b → plain_expr a ≡ plain_expr b
same_plain a b e = sym (plain_unplaced a) ∙ ap plain_expr e ∙ plain_unplaced b

reference_level : (x : Expr-F Expr Sub) → is_reference_level (cleared x) ≡ is_reference_level x
unfolding cleared
reference_level (Expr-F.Number n k at) = refl
reference_level (Expr-F.Truth b at) = refl
reference_level (Expr-F.Ref x None at) = refl
reference_level (Expr-F.Ref x (Some l) at) = refl
reference_level (Expr-F.«Expr::One» o a at) = refl
reference_level (Expr-F.Two o a b) = refl
reference_level (Expr-F.Paren a at) = refl

reference_roll : (x : Expr-F Expr Sub) → is_reference (unplaced (roll-Expr x)) ≡ is_reference (roll-Expr x)
reference_roll x = ap is_reference (unplaced_roll x) ∙ ap is_reference_level (out-roll-Expr (cleared x)) ∙ reference_level x ∙ sym (ap is_reference_level (out-roll-Expr x))

reference_unplaced : (e : Expr) → is_reference (unplaced e) ≡ is_reference e
reference_unplaced e = subst (λ q. is_reference (unplaced q) ≡ is_reference q) (roll-out-Expr e) (reference_roll (out-Expr e))

pub same_reference : (a b : Expr) → unplaced a ≡ unplaced b → is_reference a ≡ is_reference b
same_reference a b e = sym (reference_unplaced a) ∙ ap is_reference e ∙ reference_unplaced b

-- SUBSCRIPTS AND PARTS OF STATEMENTS

sub_level_plain : (x : Sub-F Expr Sub) → plain_sub_level (cleared_sub x) ≡ plain_sub_level x
unfolding cleared_sub plain_sub_level
sub_level_plain (Sub-F.«Sub::One» a) = ap (λ q. λ rest. plain.At q rest) (plain_unplaced a)
sub_level_plain (Sub-F.Range None None at) = refl
sub_level_plain (Sub-F.Range None (Some b) at) = ap (λ q. λ rest. plain.Section plain.Unbounded (plain.Bounded q) rest) (plain_unplaced b)
sub_level_plain (Sub-F.Range (Some a) None at) = ap (λ q. λ rest. plain.Section (plain.Bounded q) plain.Unbounded rest) (plain_unplaced a)
sub_level_plain (Sub-F.Range (Some a) (Some b) at) =
    ap (λ q. λ rest. plain.Section (plain.Bounded q) (plain.Bounded (plain_expr (unplaced b))) rest) (plain_unplaced a) ∙ ap (λ q. λ rest. plain.Section (plain.Bounded (plain_expr a)) (plain.Bounded q) rest) (plain_unplaced b)

sub_plain : (x : Sub) → plain_sub (unplaced_sub x) ≡ plain_sub x
sub_plain x =
    subst IsKnownSub (roll-out-Sub x) (ap plain_sub (unplaced_sub_roll (out-Sub x)) ∙ plain_sub_roll (cleared_sub (out-Sub x)) ∙ sub_level_plain (out-Sub x) ∙ sym (plain_sub_roll (out-Sub x)))

subs_plain : (l : List Sub) → map plain_sub (map unplaced_sub l) ≡ map plain_sub l
subs_plain [] = refl
subs_plain (x ∷ l) = ap (λ y. y ∷ map plain_sub (map unplaced_sub l)) (sub_plain x) ∙ ap (λ y. plain_sub x ∷ y) (subs_plain l)

pub same_plain_subs : (k l : List Sub) → map unplaced_sub k ≡ map unplaced_sub l → plain_subs k ≡ plain_subs l
same_plain_subs k l e = ap chained (sym (subs_plain k) ∙ ap (map plain_sub) e ∙ subs_plain l)

option_plain : (o : Option Expr) → plain_option (option_map unplaced o) ≡ plain_option o
option_plain None = refl
option_plain (Some e) = ap (λ x. Some x) (plain_unplaced e)

pub head_plain : (h : Head) → plain_head (bare_head h) ≡ plain_head h
head_plain h =
    ap (λ x. record { variable = h.var; from = x; to = plain_expr (unplaced h.to); step = plain_option (option_map unplaced h.step) }) (plain_unplaced h.from)
    ∙ ap (λ x. record { variable = h.var; from = plain_expr h.from; to = x; step = plain_option (option_map unplaced h.step) }) (plain_unplaced h.to)
    ∙ ap (λ x. record { variable = h.var; from = plain_expr h.from; to = plain_expr h.to; step = x }) (option_plain h.step)

pub same_plain_head : (h i : Head) → bare_head h ≡ bare_head i → plain_head h ≡ plain_head i
same_plain_head h i e = sym (head_plain h) ∙ ap plain_head e ∙ head_plain i

range_plain : (r : Range) → plain_range (bare_range r) ≡ plain_range r
range_plain (range.One e) = ap plain.Single (plain_unplaced e)
range_plain (range.Span a b) = ap (λ x. plain.Span x (plain_option (option_map unplaced b))) (option_plain a) ∙ ap (λ x. plain.Span (plain_option a) x) (option_plain b)

ranges_plain : (l : List Range) → map plain_range (map bare_range l) ≡ map plain_range l
ranges_plain [] = refl
ranges_plain (x ∷ l) = ap (λ y. y ∷ map plain_range (map bare_range l)) (range_plain x) ∙ ap (λ y. plain_range x ∷ y) (ranges_plain l)

pub same_plain_ranges : (k l : List Range) → map bare_range k ≡ map bare_range l → map plain_range k ≡ map plain_range l
same_plain_ranges k l e = sym (ranges_plain k) ∙ ap (map plain_range) e ∙ ranges_plain l

bound_plain : (b : Bound) → plain_bound (bare_bound b) ≡ plain_bound b
bound_plain b =
    ap (λ x. record { lower = x; upper = plain_option (option_map unplaced b.upper) }) (option_plain b.lower) ∙ ap (λ x. record { lower = plain_option b.lower; upper = x }) (option_plain b.upper)

bounds_plain : (l : List Bound) → map plain_bound (map bare_bound l) ≡ map plain_bound l
bounds_plain [] = refl
bounds_plain (x ∷ l) = ap (λ y. y ∷ map plain_bound (map bare_bound l)) (bound_plain x) ∙ ap (λ y. plain_bound x ∷ y) (bounds_plain l)

decl_plain : (d : Decl) → plain_decl (bare_decl d) ≡ plain_decl d
decl_plain d =
    ap (λ x. record { name = d.name; kind = d.kind; intent = d.intent; shape = x; value = plain_option (option_map unplaced d.value) }) (bounds_plain d.shape)
    ∙ ap (λ x. record { name = d.name; kind = d.kind; intent = d.intent; shape = map plain_bound d.shape; value = x }) (option_plain d.value)

pub same_plain_decl : (d e : Decl) → bare_decl d ≡ bare_decl e → plain_decl d ≡ plain_decl e
same_plain_decl d e h = sym (decl_plain d) ∙ ap plain_decl h ∙ decl_plain e
