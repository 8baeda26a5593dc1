-- The program for all columns, made from the source unit, is the wide unit.
use Rattle.std.proofs.Common.{◌≡◌, ℕ, List, [], ◌∷◌, ◌++◌, map, None, refl, ap, ◌∙◌}
use Rattle.fort_tree.specs.declared.unit.Intent.{Intent}
use Rattle.fort_tree.specs.declared.unit.Intent.TheVariants.{In}
use Rattle.claw_meaning.specs.Syntax.{Text, Expr, Assign, Decl, Stmts, Done, Then, Unit}
use Rattle.column_scalars.specs.Scalars.{Scalars, source_unit, wide_unit, define, decls_of, dummy_decl, local_decl, assignments, wide_assignments, wide_decls, wide_decl, in_column, wide_sum, column_loop, looped, guard}
use Rattle.column_scalars.specs.Widened.{widened, wide_stmts, wide_decl_by, looped_by}

assignments_are : (id : Text) (assigned : List (Text × Expr)) → wide_stmts id (assignments assigned) ≡ wide_assignments id assigned
assignments_are id [] = refl
assignments_are id (a ∷ rest) = ap (Then (Assign (in_column id a.0) (wide_sum id a.1))) (assignments_are id rest)

looped_are : (lower : ℕ) (upper id : Text) (assigned : List (Text × Expr)) → looped_by (define id lower upper) (assignments assigned) ≡ looped lower upper id assigned
looped_are lower upper id [] = refl
looped_are lower upper id (a ∷ rest) = ap (λ b. Then (column_loop lower upper id b) Done) (assignments_are id (a ∷ rest))

decls_are : (lower : ℕ) (upper id : Text) (declared : List (Text × Intent)) → map (wide_decl_by (define id lower upper)) (decls_of declared) ≡ wide_decls lower upper declared
decls_are lower upper id [] = refl
decls_are lower upper id (d ∷ ds) = ap (λ rest. wide_decl lower upper d ∷ rest) (decls_are lower upper id ds)

abbrev with : Scalars → List Decl → Stmts → Unit
with u decls loop = record {
  name = u.name;
  dummies = u.dummies ++ u.upper ∷ [];
  result = None;
  uses = [];
  decls = dummy_decl u.upper In ∷ (decls ++ local_decl u.id ∷ []);
  marks = [];
  body = Then (guard u.lower u.upper) loop;
  host = None;
}

pub widened_is : (u : Scalars) → widened (source_unit u) ≡ wide_unit u
widened_is u =
    ap (λ decls. with u decls (looped_by (define u.id u.lower u.upper) (assignments u.assigned))) (decls_are u.lower u.upper u.id u.declared)
    ∙ ap (with u (wide_decls u.lower u.upper u.declared)) (looped_are u.lower u.upper u.id u.assigned)
