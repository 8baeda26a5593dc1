-- What the names of the two units mean.
use Rattle.std.proofs.Common.{◌≡◌, ℕ, refl, ap, ◌∙◌, subst, List, [], ◌∷◌, ◌++◌, map, Some, None, cond, Contains, ⊎_elim, bytes_eq, is_some, if◌then◌else◌}
use Rattle.fort_tree.specs.declared.unit.Intent.{Intent}
use Rattle.claw_meaning.specs.Syntax.{Text, Decl, Unit, Program}
use Rattle.claw_meaning.specs.Scope.{Entity, Variable, Constant, decl_named, entity_of, or_else, used, module_gives, host_gives, module_at, procedure_of, unit_within, visible}
use Rattle.claw_meaning.specs.Scene.{Held, Callee}
use Rattle.claw_meaning.specs.Units.{Given, scene_of, meant_by, bounds_from, bounds_of_own, bounds_of_module}
use Rattle.column_scalars.specs.Scalars.{decls_of, dummy_decl, wide_decl, wide_decls}
use Rattle.column_scalars.proofs.Members.{member_cases, first_is, later_is, none_is, same_text, other_text, by_text}

abbrev names_of : List (Text × Intent) → List Text
names_of ds = map (λ d. d.0) ds

-- the first declaration has the name, or another has it
pub named_first : (d : Decl) (ds : List Decl) (x : Text) → d.name ≡ x → decl_named (d ∷ ds) x ≡ Some d
named_first d ds x e = ap (λ b. cond b (Some d) (decl_named ds x)) (ap (λ y. bytes_eq y x) e ∙ same_text x)

pub named_later : (d : Decl) (ds : List Decl) (x : Text) → (d.name ≡ x → ⊥) → decl_named (d ∷ ds) x ≡ decl_named ds x
named_later d ds x e = ap (λ b. cond b (Some d) (decl_named ds x)) (other_text d.name x e)

pub source_decl : (ds : List (Text × Intent)) (x : Text) → Contains (names_of ds) x → (i : Intent) × (decl_named (decls_of ds) x ≡ Some (dummy_decl x i))
source_decl [] x h = absurd (none_is x h)
source_decl (d ∷ ds) x h = by_text d.0 x
    (λ e. (d.1, named_first (dummy_decl d.0 d.1) (decls_of ds) x e ∙ ap (λ y. Some (dummy_decl y d.1)) e))
    (λ n. let t = source_decl ds x (⊎_elim (λ e. absurd (n e)) (λ k. k) (member_cases d.0 (names_of ds) x h)) in
    (t.0, named_later (dummy_decl d.0 d.1) (decls_of ds) x n ∙ t.1))

pub array_decl : (lower : ℕ) (upper : Text) (ds : List (Text × Intent)) (rest : List Decl) (x : Text) → Contains (names_of ds) x → (i : Intent) × (decl_named (wide_decls lower upper ds ++ rest) x ≡ Some (wide_decl lower upper (x, i)))
array_decl lower upper [] rest x h = absurd (none_is x h)
array_decl lower upper (d ∷ ds) rest x h = by_text d.0 x
    (λ e. (d.1, named_first (wide_decl lower upper d) (wide_decls lower upper ds ++ rest) x e ∙ ap (λ y. Some (wide_decl lower upper (y, d.1))) e))
    (λ n. let t = array_decl lower upper ds rest x (⊎_elim (λ e. absurd (n e)) (λ k. k) (member_cases d.0 (names_of ds) x h)) in
    (t.0, named_later (wide_decl lower upper d) (wide_decls lower upper ds ++ rest) x n ∙ t.1))

pub behind_arrays : (lower : ℕ) (upper : Text) (ds : List (Text × Intent)) (rest : List Decl) (x : Text) → (Contains (names_of ds) x → ⊥) → decl_named (wide_decls lower upper ds ++ rest) x ≡ decl_named rest x
behind_arrays lower upper [] rest x h = refl
behind_arrays lower upper (d ∷ ds) rest x h =
    named_later (wide_decl lower upper d) (wide_decls lower upper ds ++ rest) x (λ e. h (subst (Contains (names_of (d ∷ ds))) e (first_is d.0 (names_of ds))))
    ∙ behind_arrays lower upper ds rest x (λ k. h (later_is d.0 (names_of ds) x k))

-- a declared variable is visible, and means itself
abbrev elsewhere : Program → Unit → Text → Entity
elsewhere p unit x = or_else (used (module_gives p) unit.uses x) (or_else (host_gives p (module_at p unit.host) x) (procedure_of (unit_within p None x)))

pub sees : (p : Program) (unit : Unit) (x : Text) (d : Decl) → d.value ≡ None → decl_named unit.decls x ≡ Some d → visible p unit x ≡ Variable unit.name d
sees p unit x d v h =
    ap (λ o. or_else (entity_of unit.name o) (elsewhere p unit x)) h
    ∙ ap (λ o. or_else (if is_some o then Constant d else Variable unit.name d) (elsewhere p unit x)) v

pub means : (p : Program) (callee : Text → Callee) (unit : Unit) (given : Given) (x : Text) (d : Decl) → d.value ≡ None → decl_named unit.decls x ≡ Some d
    → (scene_of p callee unit given).meant x ≡ Held (record { home = unit.name; name = d.name; kind = d.kind; bounds = bounds_from (bounds_of_own p unit given d) })
means p callee unit given x d v h =
    ap (meant_by p unit given) (sees p unit x d v h)
    ∙ ap (λ b. Held (record { home = unit.name; name = d.name; kind = d.kind; bounds = bounds_from (if b then bounds_of_own p unit given d else bounds_of_module p unit.name d) })) (same_text unit.name)
