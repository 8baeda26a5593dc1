-- Values and their shapes side by side.
use Rattle.std.proofs.Common.{◌≡◌, List, [], ◌∷◌, map, subst}
use Rattle.fort_tree.specs.declared.expr.Expr.{Expr}
use Rattle.fort_tree.specs.declared.statement.Token.{Token}
use Rattle.fort_grammar.specs.declared.table.Part.TheVariants as part
use Rattle.fort_grammar.specs.declared.table.Symbol.{Symbol}
use Rattle.fort_grammar.specs.declared.table.Symbol.TheVariants.{Call}
use Rattle.fort_grammar.specs.Derives.{done, take, build, row}
use Rattle.fort_expr.specs.declared.build.Tracked.{Tracked}
use Rattle.fort_expr.specs.declared.value.Shape.{Shape}
use Rattle.fort_expr.specs.declared.value.Value.{Value}
use Rattle.fort_expr.specs.declared.value.Value.TheVariants.{Operand}
use Rattle.fort_expr.specs.Closing.{Shaped}
use Rattle.fort_expr.specs.Expression.{IsExpr}
use Rattle.fort_expr.specs.Machine.{Plain, Spelled}
use Rattle.fort_expr.specs.Shapes.{shape}
use Rattle.fort_expr.specs.Tracks.{shift_both, no_values, one_value}
use Rattle.fort_expr.specs.Values.{apply}
use Rattle.fort_expr.specs.Words.{front_place}
use Rattle.fort_expr.proofs.ShapeLemmas.{apply-shape}
use Rattle.fort_expr.proofs.Complete.{derives-expr}
use Rattle.fort_expr.proofs.Sound.{expr-derived}

abbrev pair : List Value → List Shape → Tracked
pair v k = record { values = v; shapes = k }

pub both-values : {s : List Symbol} {w : List Token} {v u : Tracked} → Spelled s w v u → Plain s w v.values u.values
both-values done = done
both-values (take t e d) = take t e (both-values d)
both-values (build d) = build (both-values d)
both-values (row r i d) = row r i (both-values d)

pub both-shapes : {s : List Symbol} {w : List Token} {v u : Tracked} → Spelled s w v u → Shaped s w v.shapes u.shapes
both-shapes done = done
both-shapes (take t e d) = take t e (both-shapes d)
both-shapes (build d) = build (both-shapes d)
both-shapes (row r i d) = row r i (both-shapes d)

lifted : {s : List Symbol} {w : List Token} {v u : List Value} → Plain s w v u → Spelled s w (pair v (map shape v)) (pair u (map shape u))
lifted done = done
lifted (take t e d) = take t e (lifted d)
lifted (build {x = x} {rest = ss} {w = w} {v = v} {u = u} d) = build (subst (λ q. Spelled ss w (pair (apply x v) q) (pair u (map shape u))) (apply-shape x v) (lifted d))
lifted (row r i d) = row r i (lifted d)

-- the shapes' derivation at any values
pub with-values : {s : List Symbol} {w : List Token} {k j : List Shape} → Shaped s w k j → (v : List Value) → (u : List Value) × Spelled s w (pair v k) (pair u j)
with-values done v = (v, done)
with-values (take t e d) v = let p = with-values d (shift_both t (pair v [])).values in (p.0, take t e p.1)
with-values (build {x = x} d) v = let p = with-values d (apply x v) in (p.0, build p.1)
with-values (row r i d) v = let p = with-values d v in (p.0, row r i p.1)

pub derives-both : {w : List Token} {e : Expr} → IsExpr w [] e → Spelled (Call part.Expr ∷ []) w no_values (one_value e (front_place w))
derives-both d = lifted (derives-expr d [])

pub both-expr : (w : List Token) (u : Tracked) → Spelled (Call part.Expr ∷ []) w no_values u → (e : Expr) × IsExpr w [] e × (u.values ≡ Operand e (front_place w) ∷ [])
both-expr w u d = expr-derived w [] u.values (both-values d)
