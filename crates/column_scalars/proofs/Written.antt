-- The declarations of the program for all columns are those of the widened source, in the written order.
use Rattle.std.proofs.Common.{◌≡◌, refl, ap, sym, ◌∙◌, List, [], ◌∷◌, ◌++◌, append-nil, Contains, map, ◌&&◌, not}
use Rattle.std.specs.List.{filter}
use mathlib.Core.Path.{ap₂}
use Rattle.fort_tree.specs.declared.unit.Intent.{Intent}
use Rattle.claw_meaning.specs.Syntax.{Text, Program}
use Rattle.claw_meaning.specs.Interface as interface
use Rattle.column_scalars.specs.Scalars.{Scalars, IsScalars, dummy_decl, decls_of, wide_decl, wide_decls, source_unit, wide_unit}
use Rattle.column_scalars.specs.Standing.{StandsIn}
use Rattle.column_scalars.proofs.MemberCases.{contains_here, contains_later, listed_here}
use Rattle.column_scalars.proofs.Naming.{names, added_is}
use Rattle.column_scalars.proofs.Listed.{widened, first_place, not_shared}

-- these are declarations of dummies
abbrev pub OfDummies : Scalars → List (Text × Intent) → Type 0
OfDummies u ds = (x : Text) → Contains (names ds) x → Contains u.dummies x

pub of_first : (u : Scalars) (d : Text × Intent) (ds : List (Text × Intent)) → OfDummies u (d ∷ ds) → Contains u.dummies d.0
of_first u d ds h = h d.0 (contains_here d.0 (names ds))

pub of_others : (u : Scalars) (d : Text × Intent) (ds : List (Text × Intent)) → OfDummies u (d ∷ ds) → OfDummies u ds
of_others u d ds h x t = h x (contains_later d.0 (names ds) x t)

pub no_constants : (ds : List (Text × Intent)) → filter interface.is_constant_decl (decls_of ds) ≡ []
no_constants [] = refl
no_constants (d ∷ ds) = no_constants ds

pub no_shared : (u : Scalars) → IsScalars u → (ds : List (Text × Intent)) → OfDummies u ds → filter (interface.is_shared_decl (source_unit u)) (decls_of ds) ≡ []
no_shared u w [] h = refl
no_shared u w (d ∷ ds) h = rw (not_shared u w d.0 d.1 (of_first u d ds h)) (no_shared u w ds (of_others u d ds h))

pub all_others : (u : Scalars) → IsScalars u → (ds : List (Text × Intent)) → OfDummies u ds → filter (λ d. interface.is_other_decl (source_unit u) d && not (interface.is_fresh d.name)) (decls_of ds) ≡ decls_of ds
all_others u w [] h = refl
all_others u w (d ∷ ds) h =
    let t = of_first u d ds h in
    rw (not_shared u w d.0 d.1 t, w.own d.0 t) (ap (λ l. dummy_decl d.0 d.1 ∷ l) (all_others u w ds (of_others u d ds h)))

pub none_fresh : (u : Scalars) → IsScalars u → (ds : List (Text × Intent)) → OfDummies u ds → filter (λ d. interface.is_other_decl (source_unit u) d && interface.is_fresh d.name) (decls_of ds) ≡ []
none_fresh u w [] h = refl
none_fresh u w (d ∷ ds) h =
    let t = of_first u d ds h in
    rw (not_shared u w d.0 d.1 t, w.own d.0 t) (none_fresh u w ds (of_others u d ds h))

-- each gains the dimension
one_wide : (p : Program) (u : Scalars) → IsScalars u → (x : Text) (intent : Intent) → Contains u.dummies x → interface.wide_decl (widened p u) (dummy_decl x intent) ≡ wide_decl u.lower u.upper (x, intent)
one_wide p u w x intent t = rw (listed_here u.dummies x t, first_place u w x t) refl

all_wide : (p : Program) (u : Scalars) → IsScalars u → (ds : List (Text × Intent)) → OfDummies u ds → map (interface.wide_decl (widened p u)) (decls_of ds) ≡ wide_decls u.lower u.upper ds
all_wide p u w [] h = refl
all_wide p u w (d ∷ ds) h = ap₂ (λ a b. a ∷ b) (one_wide p u w d.0 d.1 (of_first u d ds h)) (all_wide p u w ds (of_others u d ds h))

others_wide : (p : Program) (u : Scalars) → IsScalars u → (ds : List (Text × Intent)) → OfDummies u ds →
    map (interface.wide_decl (widened p u)) (filter (λ d. interface.is_other_decl (source_unit u) d && not (interface.is_fresh d.name)) (decls_of ds))
    ++ map (interface.wide_decl (widened p u)) (filter (λ d. interface.is_other_decl (source_unit u) d && interface.is_fresh d.name) (decls_of ds))
    ≡ wide_decls u.lower u.upper ds
others_wide p u w ds h =
    (λ t. map (interface.wide_decl (widened p u)) (all_others u w ds h t) ++ map (interface.wide_decl (widened p u)) (none_fresh u w ds h t))
    ∙ append-nil (map (interface.wide_decl (widened p u)) (decls_of ds)) ∙ all_wide p u w ds h

groups : (p : Program) (u : Scalars) → IsScalars u → StandsIn p u → interface.written_decls (source_unit u) (widened p u) ≡ (wide_unit u).decls
groups p u w stands =
    λ t. no_constants u.declared t
    ++ ((no_shared u w u.declared w.declared_dummies t ++ interface.added_decl (added_is p u stands.upper t))
    ++ (others_wide p u w u.declared w.declared_dummies t ++ interface.id_decl (source_unit u) (widened p u)))

pub decls_written : (p : Program) (u : Scalars) → IsScalars u → StandsIn p u → (wide_unit u).decls ≡ interface.written_decls (source_unit u) (widened p u)
decls_written p u w stands = sym (groups p u w stands)
