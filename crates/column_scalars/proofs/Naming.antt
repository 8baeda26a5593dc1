-- What the names of a unit of column scalars are, in the source and in the program for all columns.
use Rattle.std.proofs.Common.{◌≡◌, ℕ, refl, ap, sym, subst, ◌∙◌, List, [], ◌∷◌, ◌++◌, ◌⊎◌, inl, inr, Contains, Some, None, Bool, true, false, map}
use Rattle.std.specs.Str.{bytes_eq}
use Rattle.std.proofs.lemmas.Bool.{false≢true}
use Rattle.fort_tree.specs.declared.unit.Intent.{Intent}
use Rattle.fort_tree.specs.declared.unit.Intent.TheVariants.{In}
use Rattle.claw_meaning.specs.Syntax.{Text, Decl, Unit, Program}
use Rattle.claw_meaning.specs.Scope.{Unknown, visible, decl_named, unit_within, procedure_of}
use Rattle.claw_meaning.specs.Units.{is_column_of}
use Rattle.claw_meaning.specs.Columns.{added_dummy, unknown_name, column_place}
use Rattle.column_scalars.specs.Scalars.{Scalars, IsScalars, Distinct, dummy_decl, decls_of, wide_decl, wide_decls, local_decl, source_unit, wide_unit, program_of}
use Rattle.column_scalars.specs.Standing.{StandsIn, DeclareOnce}
use Rattle.column_scalars.proofs.MemberCases.{contains_first, contains_later, contains_none, contains_cases, same_itself, names_equal, names_apart, listed_here, not_listed}

abbrev pub names : List (Text × Intent) → List Text
names ds = map (λ d. d.0) ds

-- a declared name has its declaration, and the wide one
pub record Declared (lower : ℕ) (upper : Text) (ds : List (Text × Intent)) (x : Text) : Type 0 where
  pub intent : Intent
  pub source : decl_named (decls_of ds) x ≡ Some (dummy_decl x intent)
  pub wide : (rest : List Decl) → decl_named (wide_decls lower upper ds ++ rest) x ≡ Some (wide_decl lower upper (x, intent))

declared_among : (lower : ℕ) (upper : Text) (ds : List (Text × Intent)) (x : Text) → Contains (names ds) x → Declared lower upper ds x
declared_among lower upper [] x t = absurd (contains_none x t)
declared_among lower upper (d ∷ ds) x t = go (contains_cases d.0 (names ds) x t) (bytes_eq d.0 x) refl (declared_among lower upper ds x)
  where
    go : (d.0 ≡ x) ⊎ Contains (names ds) x → (b : Bool) → bytes_eq d.0 x ≡ b → (Contains (names ds) x → Declared lower upper ds x) → Declared lower upper (d ∷ ds) x
    go c true h ih =
        let e = names_equal d.0 x h in
        record { intent = d.1; source = rw h (ap (λ y. Some (dummy_decl y d.1)) e); wide = λ rest. rw h (ap (λ y. Some (wide_decl lower upper (y, d.1))) e) }
    go (inl e) false h ih = absurd (false≢true (sym h ∙ rw e (same_itself x)))
    go (inr r) false h ih = let t = ih r in record { intent = t.intent; source = rw h t.source; wide = λ rest. rw h (t.wide rest) }

undeclared : (ds : List (Text × Intent)) (x : Text) → (Contains (names ds) x → ⊥) → decl_named (decls_of ds) x ≡ None
undeclared [] x n = refl
undeclared (d ∷ ds) x n = rw (names_apart d.0 x (λ e. n (contains_first d.0 x (names ds) e))) (undeclared ds x (λ t. n (contains_later d.0 (names ds) x t)))

-- a dummy of the source
pub record IsColumnName (u : Scalars) (x : Text) : Type 0 where
  pub intent : Intent
  pub source : decl_named (source_unit u).decls x ≡ Some (dummy_decl x intent)
  pub wide : decl_named (wide_unit u).decls x ≡ Some (wide_decl u.lower u.upper (x, intent))
  pub place : column_place (source_unit u) x ≡ Some 0
  pub apart : bytes_eq x u.upper ≡ false

column_of_listed : (ls : List Text) (v : Unit) (x : Text) → Contains ls x → is_column_of ls v x ≡ true
column_of_listed [] v x t = absurd (contains_none x t)
column_of_listed (y ∷ ys) v x t = listed_here (y ∷ ys) x t

pub column_name : (u : Scalars) → IsScalars u → (x : Text) → Contains u.dummies x → IsColumnName u x
column_name u w x t =
    let d = declared_among u.lower u.upper u.declared x (w.all_declared x t) in
    let far : bytes_eq u.upper x ≡ false = names_apart u.upper x (λ e. w.upper (subst (Contains u.dummies) (sym e) t)) in
    record {
      intent = d.intent;
      source = d.source;
      wide = rw far (d.wide (local_decl u.id ∷ []));
      place = rw (listed_here u.dummies x t, column_of_listed u.listed (source_unit u) x (w.all_data x t), d.source) refl;
      apart = names_apart x u.upper (λ e. w.upper (subst (Contains u.dummies) e t));
    }

-- the name of the upper bound
pub record IsUpperName (u : Scalars) : Type 0 where
  pub wide : decl_named (wide_unit u).decls u.upper ≡ Some (dummy_decl u.upper In)
  pub place : column_place (source_unit u) u.upper ≡ None

pub upper_name : (u : Scalars) → IsScalars u → IsUpperName u
upper_name u w = record {
  wide = rw (same_itself u.upper) refl;
  place = rw (not_listed u.dummies u.upper w.upper) refl;
}

-- where it is visible as nothing, it is the added dummy
pub added_is : (p : Program) (u : Scalars) → visible p (source_unit u) u.upper ≡ Unknown → added_dummy p (source_unit u) ≡ Some u.upper
added_is p u seen = ap (λ e. unknown_name e u.upper) seen

-- it is, where no external unit has its name
unseen : (p : Program) (u : Scalars) → IsScalars u → unit_within p None u.upper ≡ None → visible p (source_unit u) u.upper ≡ Unknown
unseen p u w e =
    let none = undeclared u.declared u.upper (λ t. w.upper (w.declared_dummies u.upper t)) in
    rw none (ap procedure_of e)

pub stands_among : (p : Program) (u : Scalars) → IsScalars u → unit_within p None u.upper ≡ None → Distinct (u.name ∷ map (λ m. m.name) p.modules) → DeclareOnce p.modules → StandsIn p u
stands_among p u w e names declared = record { upper = unseen p u w e; names = names; declared = declared }

-- as in the program of this unit alone
pub stands_alone : (u : Scalars) → IsScalars u → StandsIn (program_of (source_unit u)) u
stands_alone u w =
    let other : bytes_eq u.name u.upper ≡ false = names_apart u.name u.upper (λ e. w.upper_unit (sym e)) in
    stands_among (program_of (source_unit u)) u w (rw other refl) (contains_none u.name, tt) tt
