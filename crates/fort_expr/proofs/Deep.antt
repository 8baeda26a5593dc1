-- The depth that the closing run gives is that of the expression cut behind a token, its open parentheses closed.
use Rattle.std.proofs.Common.{◌≡◌, ℕ, ◌+◌, ◌<◌, ◌≤◌, Bool, true, false, List, [], ◌++◌, take, Some, sym, ◌∙◌, subst, arith}
use Rattle.std.specs.List.{slice_get}
use Rattle.fort_tree.specs.declared.choice.Mode.{Mode}
use Rattle.fort_tree.specs.declared.choice.Mode.TheVariants.{Source, Target}
use Rattle.fort_tree.specs.declared.expr.Expr.{Expr}
use Rattle.fort_tree.specs.declared.statement.Token.{Token}
use Rattle.fort_tree.specs.Expr.{depth_of}
use Rattle.fort_grammar.specs.declared.table.Symbol.{Symbol}
use Rattle.fort_grammar.specs.Token.{token_class}
use Rattle.fort_expr.specs.declared.build.Tracked.{Tracked}
use Rattle.fort_expr.specs.Closing.{Closers, Judges}
use Rattle.fort_expr.specs.Expression.{IsExpr}
use Rattle.fort_expr.specs.Faults.{TooDeepAt, depth_limit, is_leaf}
use Rattle.fort_expr.specs.Machine.{Ahead, Back, JudgesAt}
use Rattle.fort_expr.specs.Shapes.{cap}
use Rattle.fort_expr.specs.Tracks.{one_value}
use Rattle.fort_expr.specs.Words.{front_place}
use Rattle.fort_expr.proofs.Both.{both-shapes, with-values, derives-both, both-expr}

TooDeep : ℕ → List Token → Type 0
TooDeep limit front = (z : List Token) × (e : Expr) × Closers z × IsExpr (front ++ z) [] e × (limit < depth_of e)

limit-small : (mode : Mode) → depth_limit mode < 4294967295
limit-small Source = omega arith
limit-small Target = omega arith

judged-deep : (front : List Token) (s : List Symbol) (v : Tracked) (limit : ℕ) → limit < 4294967295 → Ahead front s v → Back front s v → Judges true limit s v.shapes → TooDeep limit front
unfolding TooDeep
judged-deep front s v limit m ahead back j =
    let c = j.2 in
    let z = c.some.0 in
    let u = with-values c.some.3 v.values in
    let k : Tracked = record { values = u.0; shapes = c.some.1 } in
    let p = both-expr (front ++ z) k (back z k u.1) in
    let same : cap (depth_of p.0) ≡ j.0 = c.all z (one_value p.0 (front_place (front ++ z))).shapes c.some.2 (both-shapes (ahead z (one_value p.0 (front_place (front ++ z))) (derives-both p.1))) in
    let h : limit < j.0 = j.1 in
    (z, p.0, c.some.2, p.1, omega arith)

judged-shallow : (front : List Token) (s : List Symbol) (v : Tracked) (limit : ℕ) → limit < 4294967295 → Ahead front s v → Judges false limit s v.shapes →
    (z : List Token) (e : Expr) → Closers z → IsExpr (front ++ z) [] e → depth_of e ≤ limit
judged-shallow front s v limit m ahead j z e c d =
    let h : cap (depth_of e) ≤ limit = j z (one_value e (front_place (front ++ z))).shapes c (both-shapes (ahead z (one_value e (front_place (front ++ z))) (derives-both d))) in
    omega arith

token-eq : (t x : Token) → Some t ≡ Some x → t ≡ x
token-eq t x h = cc

pub deep-at : (mode : Mode) (tokens : List Token) (i : ℕ) (t : Token) (s : List Symbol) (v : Tracked) (b : Bool) → b ≡ true → slice_get tokens i ≡ Some t →
    Ahead (take (i + 1) tokens) s v → Back (take (i + 1) tokens) s v → JudgesAt b (token_class t) (depth_limit mode) s v.shapes → TooDeepAt mode tokens i
unfolding TooDeep
deep-at mode tokens i t s v b e g ahead back j0 =
    let j = subst (λ q. JudgesAt q (token_class t) (depth_limit mode) s v.shapes) e j0 in
    let d = judged-deep (take (i + 1) tokens) s v (depth_limit mode) (limit-small mode) ahead back j.1 in
    (t, g, j.0, d.0, d.1, d.2, d.3, d.4)

pub not-deep-at : (mode : Mode) (tokens : List Token) (i : ℕ) (t : Token) (s : List Symbol) (v : Tracked) (b : Bool) → b ≡ false → slice_get tokens i ≡ Some t →
    Ahead (take (i + 1) tokens) s v → JudgesAt b (token_class t) (depth_limit mode) s v.shapes → TooDeepAt mode tokens i → ⊥
not-deep-at mode tokens i t s v b e g ahead j0 (x, k, l, z, tree, c, d, m) =
    let j = subst (λ q. JudgesAt q (token_class t) (depth_limit mode) s v.shapes) e j0 in
    let same : x ≡ t = token-eq x t (sym k ∙ g) in
    let h : depth_of tree ≤ depth_limit mode = judged-shallow (take (i + 1) tokens) s v (depth_limit mode) (limit-small mode) ahead (j (subst (λ q. is_leaf (token_class q) ≡ true) same l)) z tree c d in
    omega (arith, h, m)
