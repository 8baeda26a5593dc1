-- What assignments of sums do, where each name is written so and lies there.
use Rattle.std.proofs.Common.{◌≡◌, ℕ, refl, ap, ap₂, ◌∙◌, List, [], ◌∷◌, Option, Some, None, Contains}
use Rattle.std.specs.Option.{option_and_then, option_map}
use Rattle.fort_arith.specs.declared.kind.Kind.TheVariants.{I4}
use Rattle.fort_arith.specs.Range.{fitted}
use Rattle.courses.specs.Element.{Value, Undefined, Whole, Truth, Element, Store, put}
use Rattle.courses.specs.Interaction.{Orders}
use Rattle.courses.specs.Course.{Way, Normal, Course, Give, Put, and_then}
use Rattle.claw_meaning.specs.Syntax.{Text, Expr, Numeral, Boolean, Name, Reference, Signed, Binary, Paren, Stmts, Done, Then, Assign}
use Rattle.claw_meaning.specs.Scene.{Scene}
use Rattle.claw_meaning.specs.Evaluation.{settled, shapes, shape_among, value, place, converted, with_exact}
use Rattle.claw_meaning.specs.Statements.{assigned, assignment, meanings, then_run}
use Rattle.column_scalars.specs.Scalars.{IsSum, AreSums, assignments, in_column, wide_sum, wide_assignments}
use Rattle.column_scalars.specs.Model.{item, integer, ran}
use Rattle.column_scalars.proofs.Ends.{ending, ending_then, ended}
use Rattle.column_scalars.proofs.Sums.{said, Lies, gives, sum_settles, sum_gives}

abbrev pub spelled : (Text → Expr) → List (Text × Expr) → Stmts
spelled shown [] = Done
spelled shown (a ∷ rest) = Then (Assign (shown a.0) (said shown a.1)) (spelled shown rest)

-- the value is converted to a default INTEGER and put there
abbrev put_there : Value → Element → Course Way
put_there v e = converted I4 v (λ w. Put e w (Give {k = Way} Normal))

puts : (v : Value) (e : Element) (o : Orders) (s : Store) (j : ℕ) → ending (put_there v e) o s j ≡ ended Normal j (option_map (put s e) (integer v))
puts Undefined e o s j = refl
puts (Truth b) e o s j = refl
puts (Whole n) e o s j = go (fitted I4 n)
  where
    go : (r : _) → ending (with_exact r (λ m. Put e (Whole m) (Give {k = Way} Normal))) o s j ≡ ended Normal j (option_map (put s e) (option_map Whole r))
    go None = refl
    go (Some m) = refl

module _ (c : Scene) (names : List Text) (shown : Text → Expr) (at : Text → Element) (P : Store → Type 0) (l : Lies c names shown at P) where
  put_gives : (x : Text) → Contains names x → (r : Option Value) (o : Orders) (s : Store) (j : ℕ) → P s → option_and_then (λ y. ending (place c (shown x) [] (put_there y.answer)) o y.store y.next) (gives r s j) ≡ ended Normal j (option_map (put s (at x)) (option_and_then integer r))
  put_gives x h None o s j p = refl
  put_gives x h (Some v) o s j p = l.places x h (put_there v) o s j p ∙ puts v (at x) o s j

  pub assigns : (x : Text) (e : Expr) → Contains names x → IsSum names e → (o : Orders) (s : Store) (j : ℕ) → P s → ending (assignment c (shown x) (said shown e)) o s j ≡ ended Normal j (option_map (put s (at x)) (option_and_then integer (item (λ y. s (at y)) e)))
  assigns x e h k o s j p =
      let right : Expr = said shown e in
      ap (λ q. ending q o s j) (l.settles x h (λ left. settled c right (λ r. assigned c left r (shape_among (shapes c left)))))
      ∙ ap (λ q. ending q o s j) (sum_settles c names shown at P l e k (λ r. assigned c (shown x) r (shape_among (shapes c (shown x)))))
      ∙ ap (λ shape. ending (assigned c (shown x) right (shape_among shape)) o s j) (l.scalar x h)
      ∙ ap (λ kind. ending (and_then (value c right []) (λ v. place c (shown x) [] (λ a. converted kind v (λ w. Put a w (Give {k = Way} Normal))))) o s j) (l.kind x h)
      ∙ ending_then (value c right []) (λ v. place c (shown x) [] (put_there v)) o s j
      ∙ ap (option_and_then (λ y. ending (place c (shown x) [] (put_there y.answer)) o y.store y.next)) (sum_gives c names shown at P l e k o s j p)
      ∙ put_gives x h (item (λ y. s (at y)) e) o s j p

  rest_runs : (x : Text) (rest : List (Text × Expr)) (o : Orders) (s : Store) (j : ℕ) (r : Option Value) → ((v : Value) → ending (meanings c (spelled shown rest)) o (put s (at x) v) j ≡ ended Normal j (ran at rest (put s (at x) v)))
      → option_and_then (λ y. ending (then_run y.answer (meanings c (spelled shown rest))) o y.store y.next) (ended Normal j (option_map (put s (at x)) r)) ≡ ended Normal j (option_and_then (λ v. ran at rest (put s (at x) v)) r)
  rest_runs x rest o s j None h = refl
  rest_runs x rest o s j (Some v) h = h v

  pub runs : (assigned : List (Text × Expr)) → AreSums names assigned → (o : Orders) (s : Store) (j : ℕ) → P s → ending (meanings c (spelled shown assigned)) o s j ≡ ended Normal j (ran at assigned s)
  runs [] h o s j p = refl
  runs (a ∷ rest) h o s j p =
      ending_then (assignment c (shown a.0) (said shown a.1)) (λ g. then_run g (meanings c (spelled shown rest))) o s j
      ∙ ap (option_and_then (λ y. ending (then_run y.answer (meanings c (spelled shown rest))) o y.store y.next)) (assigns a.0 a.1 h.0 h.1 o s j p)
      ∙ rest_runs a.0 rest o s j (option_and_then integer (item (λ y. s (at y)) a.1)) (λ v. runs rest h.2 o (put s (at a.0) v) j (l.keeps a.0 h.0 s v p))

said_name : (e : Expr) → said Name e ≡ e
said_name (Numeral n suffix) = refl
said_name (Boolean b) = refl
said_name (Name x) = refl
said_name (Reference x subs) = refl
said_name (Signed sign e) = ap (Signed sign) (said_name e)
said_name (Binary op a b) = ap₂ (Binary op) (said_name a) (said_name b)
said_name (Paren e) = refl

pub spelled_names : (assigned : List (Text × Expr)) → spelled Name assigned ≡ assignments assigned
spelled_names [] = refl
spelled_names (a ∷ rest) = ap₂ (λ e r. Then (Assign (Name a.0) e) r) (said_name a.1) (spelled_names rest)

said_wide : (id : Text) (e : Expr) → said (in_column id) e ≡ wide_sum id e
said_wide id (Numeral n suffix) = refl
said_wide id (Boolean b) = refl
said_wide id (Name x) = refl
said_wide id (Reference x subs) = refl
said_wide id (Signed sign e) = ap (Signed sign) (said_wide id e)
said_wide id (Binary op a b) = ap₂ (Binary op) (said_wide id a) (said_wide id b)
said_wide id (Paren e) = refl

pub spelled_wide : (id : Text) (assigned : List (Text × Expr)) → spelled (in_column id) assigned ≡ wide_assignments id assigned
spelled_wide id [] = refl
spelled_wide id (a ∷ rest) = ap₂ (λ e r. Then (Assign (in_column id a.0) e) r) (said_wide id a.1) (spelled_wide id rest)
