-- The program for all columns erases to the bare source.
use Rattle.std.proofs.Common.{◌≡◌, refl, ap, sym, subst, ◌∙◌, List, [], ◌∷◌, ◌++◌, append-nil, Contains, map, None, Bool, true, false, ◌&&◌, not}
use Rattle.std.specs.Str.{bytes_eq}
use Rattle.std.specs.List.{filter}
use Rattle.std.proofs.lemmas.Bool.{and_right}
use mathlib.Core.Path.{ap₂}
use Rattle.fort_tree.specs.declared.unit.Intent.{Intent}
use Rattle.claw_meaning.specs.Syntax.{Text, Program, Expr, Numeral, Boolean, Name, Reference, Signed, Binary, Paren, Done, Then, Assign}
use Rattle.claw_meaning.specs.Units.{is_listed}
use Rattle.claw_meaning.specs.Interface.{widening_of}
use Rattle.claw_meaning.specs.Erasure.{Erased, bare_reading, erased_reading, bare_unit, erased_unit, read, read_stmts, appended, grouped, narrow, is_text, was_there}
use Rattle.column_scalars.specs.Scalars.{Scalars, IsScalars, IsSum, AreSums, dummy_decl, decls_of, wide_decl, wide_decls, local_decl, assignments, in_column, wide_sum, wide_assignments, looped, source_unit, wide_unit, program_of}
use Rattle.column_scalars.specs.Standing.{StandsIn}
use Rattle.column_scalars.proofs.MemberCases.{contains_first, contains_later, listed_here, same_itself, names_apart}
use Rattle.column_scalars.proofs.Naming.{added_is, stands_alone}
use Rattle.column_scalars.proofs.Listed.{widened, first_place, rank_zero, no_intrinsic, only_unit}
use Rattle.column_scalars.proofs.Written.{OfDummies, of_first, of_others, no_constants, no_shared, all_others, none_fresh}

-- Dummies

kept_names : (xs : List Text) (upper : Text) → (Contains xs upper → ⊥) → filter (λ x. not (bytes_eq upper x)) (xs ++ upper ∷ []) ≡ xs
kept_names [] upper n = rw (same_itself upper) refl
kept_names (x ∷ xs) upper n =
    rw (names_apart upper x (λ e. n (contains_first x upper xs (sym e)))) (ap (λ l. x ∷ l) (kept_names xs upper (λ t. n (contains_later x xs upper t))))

-- Declarations

-- neither this name nor that one
abbrev neither : Text → Text → Text → Bool
neither upper id x = not (bytes_eq upper x) && not (bytes_eq id x)

one_narrow : (p : Program) (u : Scalars) → IsScalars u → (x : Text) (intent : Intent) → Contains u.dummies x → narrow (widened p u) (wide_decl u.lower u.upper (x, intent)) ≡ dummy_decl x intent
one_narrow p u w x intent t = rw (listed_here u.dummies x t, first_place u w x t) refl

declared_there : (u : Scalars) → IsScalars u → (x : Text) → Contains u.dummies x → neither u.upper u.id x ≡ true
declared_there u w x t =
    rw (names_apart u.upper x (λ e. w.upper (subst (Contains u.dummies) (sym e) t)), names_apart u.id x (λ e. w.id (subst (Contains u.dummies) (sym e) t))) refl

all_narrow : (p : Program) (u : Scalars) → IsScalars u → (ds : List (Text × Intent)) → OfDummies u ds → map (narrow (widened p u)) (filter (λ d. neither u.upper u.id d.name) (wide_decls u.lower u.upper ds ++ local_decl u.id ∷ [])) ≡ decls_of ds
all_narrow p u w [] h = rw (same_itself u.id, and_right (not (bytes_eq u.upper u.id)) false refl) refl
all_narrow p u w (d ∷ ds) h =
    let t = of_first u d ds h in
    rw (declared_there u w d.0 t) (ap₂ (λ a b. a ∷ b) (one_narrow p u w d.0 d.1 t) (all_narrow p u w ds (of_others u d ds h)))

decls_narrow : (p : Program) (u : Scalars) → IsScalars u → map (narrow (widened p u)) (filter (λ d. neither u.upper u.id d.name) (wide_unit u).decls) ≡ decls_of u.declared
decls_narrow p u w = rw (same_itself u.upper) (all_narrow p u w u.declared w.declared_dummies)

decls_grouped : (u : Scalars) → IsScalars u → grouped (source_unit u) (decls_of u.declared) ≡ decls_of u.declared
decls_grouped u w =
    (λ t. no_constants u.declared t ++ (no_shared u w u.declared w.declared_dummies t ++ (all_others u w u.declared w.declared_dummies t ++ none_fresh u w u.declared w.declared_dummies t)))
    ∙ append-nil (decls_of u.declared)

-- Statements

bare_name : (p : Program) (u : Scalars) → IsScalars u → (x : Text) → Contains u.dummies x → read (bare_reading p (source_unit u)) (Name x) ≡ Name x
bare_name p u w x t = rw (rank_zero p u w x t) refl

bare_sum : (p : Program) (u : Scalars) → IsScalars u → (e : Expr) → IsSum u.dummies e → read (bare_reading p (source_unit u)) e ≡ e
bare_sum p u w (Numeral n suffix) s = refl
bare_sum p u w (Boolean b) s = refl
bare_sum p u w (Name x) s = bare_name p u w x s
bare_sum p u w (Reference x subs) s = absurd s
bare_sum p u w (Signed sign e) s = ap (Signed sign) (bare_sum p u w e s.1)
bare_sum p u w (Binary op a b) s = ap₂ (Binary op) (bare_sum p u w a s.1) (bare_sum p u w b s.2)
bare_sum p u w (Paren e) s = absurd s

bare_assignments : (p : Program) (u : Scalars) → IsScalars u → (assigned : List (Text × Expr)) → AreSums u.dummies assigned → read_stmts (bare_reading p (source_unit u)) (assignments assigned) ≡ assignments assigned
bare_assignments p u w [] s = refl
bare_assignments p u w (a ∷ rest) s = λ t. Then (Assign (bare_name p u w a.0 s.0 t) (bare_sum p u w a.1 s.1 t)) (bare_assignments p u w rest s.2 t)

-- an element loses the dimension
pub narrow_name : (p : Program) (u : Scalars) → IsScalars u → (x : Text) → Contains u.dummies x → read (erased_reading p (source_unit u) (widened p u)) (in_column u.id x) ≡ Name x
narrow_name p u w x t = rw (no_intrinsic u.dummies w.plain x t, listed_here u.dummies x t, first_place u w x t) refl

pub narrow_sum : (p : Program) (u : Scalars) → IsScalars u → (e : Expr) → IsSum u.dummies e → read (erased_reading p (source_unit u) (widened p u)) (wide_sum u.id e) ≡ e
narrow_sum p u w (Numeral n suffix) s = refl
narrow_sum p u w (Boolean b) s = refl
narrow_sum p u w (Name x) s = narrow_name p u w x s
narrow_sum p u w (Reference x subs) s = absurd s
narrow_sum p u w (Signed sign e) s = ap (Signed sign) (narrow_sum p u w e s.1)
narrow_sum p u w (Binary op a b) s = ap₂ (Binary op) (narrow_sum p u w a s.1) (narrow_sum p u w b s.2)
narrow_sum p u w (Paren e) s = absurd s

narrow_assignments : (p : Program) (u : Scalars) → IsScalars u → (assigned : List (Text × Expr)) → AreSums u.dummies assigned → read_stmts (erased_reading p (source_unit u) (widened p u)) (wide_assignments u.id assigned) ≡ assignments assigned
narrow_assignments p u w [] s = refl
narrow_assignments p u w (a ∷ rest) s = λ t. Then (Assign (narrow_name p u w a.0 s.0 t) (narrow_sum p u w a.1 s.1 t)) (narrow_assignments p u w rest s.2 t)

alone_there : (assigned : List (Text × Expr)) → appended (assignments assigned) Done ≡ assignments assigned
alone_there [] = refl
alone_there (a ∷ rest) = ap (Then (Assign (Name a.0) a.1)) (alone_there rest)

-- the loop over the columns is its body alone
narrow_loop : (p : Program) (u : Scalars) → IsScalars u → (assigned : List (Text × Expr)) → AreSums u.dummies assigned → read_stmts (erased_reading p (source_unit u) (widened p u)) (looped u.lower u.upper u.id assigned) ≡ assignments assigned
narrow_loop p u w [] s = refl
narrow_loop p u w (a ∷ rest) s = rw (same_itself u.id) (ap (λ b. appended b Done) (narrow_assignments p u w (a ∷ rest) s) ∙ alone_there (a ∷ rest))

-- The unit

without_added : (p : Program) (u : Scalars) → IsScalars u → StandsIn p u → filter (λ x. not (is_text (widened p u).added x)) (u.dummies ++ u.upper ∷ []) ≡ u.dummies
without_added p u w stands = ap (λ a. filter (λ x. not (is_text a x)) (u.dummies ++ u.upper ∷ [])) (added_is p u stands.upper) ∙ kept_names u.dummies u.upper w.upper

decls_there : (p : Program) (u : Scalars) → IsScalars u → StandsIn p u → map (narrow (widened p u)) (filter (λ d. was_there (source_unit u) (widened p u) d.name) (wide_unit u).decls) ≡ grouped (source_unit u) (decls_of u.declared)
decls_there p u w stands =
    ap (λ a. map (narrow (widened p u)) (filter (λ d. not (is_text a d.name) && not (bytes_eq u.id d.name)) (wide_unit u).decls)) (added_is p u stands.upper)
    ∙ decls_narrow p u w ∙ sym (decls_grouped u w)

pub same_unit : (p : Program) (u : Scalars) → IsScalars u → StandsIn p u → erased_unit p (source_unit u) (widened p u) (wide_unit u) ≡ bare_unit p (source_unit u)
same_unit p u w stands =
    let body = narrow_loop p u w u.assigned w.assigned ∙ sym (bare_assignments p u w u.assigned w.assigned) in
    λ t. record { name = u.name; dummies = without_added p u w stands t; result = None; uses = []; decls = decls_there p u w stands t; marks = []; body = body t; host = None }

pub erased_to_source : (u : Scalars) → IsScalars u → Erased (program_of (source_unit u)) (program_of (wide_unit u)) (λ i x. is_listed u.dummies x)
erased_to_source u w =
    let p : Program = program_of (source_unit u) in
    record {
      modules = refl;
      order = refl;
      units = only_unit (source_unit u) (wide_unit u) (λ i v t. erased_unit p v (widening_of p v (λ x. is_listed u.dummies x)) t ≡ bare_unit p v) (same_unit p u w (stands_alone u w));
      count = refl;
    }
