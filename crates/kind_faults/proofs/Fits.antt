-- Actual arguments, one after the other.
use Rattle.std.proofs.Common.{◌≡◌, ℕ, ◌+◌, ◌<◌, ◌≤◌, length, get_or, drop, map, List, [], ◌∷◌, ◌++◌, Option, None, Some, Bool, true, false, refl, sym, ap, ◌∙◌}
use Rattle.std.specs.Prelude.{flat_map}
use Rattle.std.proofs.lemmas.Grind.{flat_map-append}
use Rattle.std.proofs.lemmas.List.{drop_all}
use Rattle.fort_tree.specs.declared.place.Place.{Place}
use Rattle.fort_tree.specs.declared.stmt.Named.{Named}
use Rattle.fort_tree.specs.declared.expr.Sub as tree_sub
use Rattle.claw_meaning.specs.Syntax as plain
use Rattle.claw_meaning.specs.Syntax.{Text}
use Rattle.claw_meaning.specs.Scope.{Entity}
use Rattle.sound_programs.specs.Faults.{Found, found}
use Rattle.sound_programs.specs.Placed.{Expr, Subscripts, No_more, first}
use Rattle.sound_programs.specs.Places.{where_place}
use Rattle.sound_programs.specs.KindFaults.{kind_fault_of_actual}
use Rattle.sound_programs.specs.RankFaults.{is_rank_fault, rank_fault_of_actual}
use Rattle.sound_programs.specs.Placing.{placed_sub, placed_subs}
use Rattle.sound_programs.specs.Walks.{Actual, actual, actuals, matched}
use Rattle.fort_names.specs.Leasts.{noted}
use Rattle.kind_faults.specs.declared.actuals.Fit.{Fit}
use Rattle.kind_faults.specs.declared.actuals.Fit.TheVariants.{Kind, Rank}
use Rattle.fort_kinds.specs.declared.sites.Site.{Site}
use Rattle.kind_faults.specs.Fitting.{code_of_fit, unfit_if_any, unfit}
use Rattle.fort_kinds.specs.Sites.{placed_site, placed_sites}
use Rattle.fort_kinds.proofs.Subs.{at_index}

same_places : {A : Type 0} (f g : A → List Place) → ((a : A) → f a ≡ g a) → (xs : List A) → flat_map f xs ≡ flat_map g xs
same_places f g h [] = refl
same_places f g h (x ∷ xs) = λ t. h x t ++ same_places f g h xs t

kind_unfit : (entity : Text → Entity) (e : Option Expr) (at : Place) (d : Option plain.Decl) → unfit_if_any entity Kind e (actual e at d) ≡ kind_fault_of_actual entity (actual e at d)
kind_unfit entity None at d = refl
kind_unfit entity (Some e) at d = refl

pub unfit_kinds : (entity : Text → Entity) (l : List Actual) → flat_map (unfit entity Kind) l ≡ flat_map (kind_fault_of_actual entity) l
unfit_kinds entity l = same_places (unfit entity Kind) (kind_fault_of_actual entity) (λ a. kind_unfit entity a.expr a.at a.dummy) l

where_alone : (b : Bool) (at : Place) → where_place b at ≡ where_place b at ++ []
where_alone true at = refl
where_alone false at = refl

rank_unfit : (entity : Text → Entity) (e : Option Expr) (at : Place) (d : Option plain.Decl) → unfit_if_any entity Rank e (actual e at d) ≡ rank_fault_of_actual entity (actual e at d)
rank_unfit entity None at d = refl
rank_unfit entity (Some e) at d = where_alone (is_rank_fault entity e d) (first e)

pub unfit_ranks : (entity : Text → Entity) (l : List Actual) → flat_map (unfit entity Rank) l ≡ flat_map (rank_fault_of_actual entity) l
unfit_ranks entity l = same_places (unfit entity Rank) (rank_fault_of_actual entity) (λ a. rank_unfit entity a.expr a.at a.dummy) l

abbrev names : List Named → List Text
names dummies = map (λ d. d.name) dummies

-- one more dummy and its actual
pub next_actual : (entity : Text → Entity) (fit : Fit) (decls : List plain.Decl) (dummies : List Named) (args : List tree_sub.Sub) (i : ℕ) (d : Named) (a : tree_sub.Sub) →
    i < length dummies → d ≡ get_or dummies i d → i < length args → a ≡ get_or args i a → (old new : Option Found) →
    ((xs : List Text) (rest : Subscripts) → noted (found (code_of_fit fit) (flat_map (unfit entity fit) (matched xs decls rest))) new ≡ noted (found (code_of_fit fit) (flat_map (unfit entity fit) (matched (d.name ∷ xs) decls (placed_sub a rest)))) old) →
    noted (found (code_of_fit fit) (flat_map (unfit entity fit) (matched (names (drop (i + 1) dummies)) decls (placed_subs (drop (i + 1) args))))) new
    ≡ noted (found (code_of_fit fit) (flat_map (unfit entity fit) (matched (names (drop i dummies)) decls (placed_subs (drop i args))))) old
next_actual entity fit decls dummies args i d a within is inside at old new step =
    step (names (drop (i + 1) dummies)) (placed_subs (drop (i + 1) args))
    ∙ (λ t. noted (found (code_of_fit fit) (flat_map (unfit entity fit) (matched (names (sym (at_index dummies i d within is) t)) decls (placed_subs (sym (at_index args i a inside at) t))))) old)

no_argument : (xs : List Text) (decls : List plain.Decl) → matched xs decls No_more ≡ []
no_argument [] decls = refl
no_argument (x ∷ xs) decls = refl

-- behind the last argument there is no actual
pub no_actual : (entity : Text → Entity) (fit : Fit) (xs : List Text) (decls : List plain.Decl) (args : List tree_sub.Sub) (i : ℕ) (r : Option Found) → length args ≤ i →
    noted (found (code_of_fit fit) (flat_map (unfit entity fit) (matched xs decls (placed_subs (drop i args))))) r ≡ r
no_actual entity fit xs decls args i r h =
    ap (λ l. noted (found (code_of_fit fit) (flat_map (unfit entity fit) (matched xs decls (placed_subs l)))) r) (drop_all i args h)
    ∙ ap (λ l. noted (found (code_of_fit fit) (flat_map (unfit entity fit) l)) r) (no_argument xs decls)

-- one more site
pub site_first : (entity : Text → Entity) (fit : Fit) (s : Site) (ss : List Site) →
    flat_map (unfit entity fit) (flat_map (actuals entity) (placed_sites (s ∷ ss))) ≡ flat_map (unfit entity fit) (actuals entity (placed_site s)) ++ flat_map (unfit entity fit) (flat_map (actuals entity) (placed_sites ss))
site_first entity fit s ss = flat_map-append (unfit entity fit) (actuals entity (placed_site s)) (flat_map (actuals entity) (placed_sites ss))
