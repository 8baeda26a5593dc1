-- What a module gives is declared in one module, which is its origin; and what has an origin is given.
use Rattle.std.proofs.Common.{◌≡◌, ℕ, zero, suc, List, [], ◌∷◌, length, Bool, true, false, ◌||◌, Option, None, Some, cond, refl, sym, ap, ◌∙◌}
use Rattle.std.specs.Prelude.{is_some}
use Rattle.std.specs.List.{position}
use Rattle.std.specs.Str.{bytes_eq}
use Rattle.claw_meaning.specs.Syntax as plain
use Rattle.claw_meaning.specs.Syntax.{Text}
use Rattle.claw_meaning.specs.Scope.{Entity, Unknown, Variable, Constant, Procedure, or_else, entity_of, procedure_of, decl_named, unit_within, brings, used, given_by, module_at, gives, module_gives}
use Rattle.sound_programs.specs.Scopes.{is_known, or_other, origin_used, origin_in, origin_within, origin}

pub known_or_else : (a b : Entity) → is_known (or_else a b) ≡ (is_known a || is_known b)
known_or_else Unknown b = refl
known_or_else (Variable home d) b = refl
known_or_else (Constant d) b = refl
known_or_else (Procedure v) b = refl

some_or_other : (a b : Option Text) → is_some (or_other a b) ≡ (is_some a || is_some b)
some_or_other None b = refl
some_or_other (Some m) b = refl

pub known_decl : (home : Text) (d : Option plain.Decl) → is_known (entity_of home d) ≡ is_some d
known_decl home None = refl
known_decl home (Some d) = go (is_some d.value)
  where
    go : (b : Bool) → is_known (cond b (Constant d) (Variable home d)) ≡ true
    go true = refl
    go false = refl

pub known_procedure : (v : Option plain.Unit) → is_known (procedure_of v) ≡ is_some v
known_procedure None = refl
known_procedure (Some v) = refl

abbrev Gives : Type 0
Gives = Text → Text → Entity

abbrev Origins : Type 0
Origins = Text → Text → Option Text

known_used : (f : Gives) (g : Origins) → ((m x : Text) → is_known (f m x) ≡ is_some (g m x)) → (us : List plain.Use) (x : Text) → is_known (used f us x) ≡ is_some (origin_used g us x)
known_used f g each [] x = refl
known_used f g each (u ∷ us) x =
    known_or_else (cond (brings u x) (f u.name x) Unknown) (used f us x)
    ∙ ((λ t. brought (brings u x) t || known_used f g each us x t) ∙ sym (some_or_other (cond (brings u x) (g u.name x) None) (origin_used g us x)))
  where
    brought : (b : Bool) → is_known (cond b (f u.name x) Unknown) ≡ is_some (cond b (g u.name x) None)
    brought true = each u.name x
    brought false = refl

some_declared : (d u : Bool) (n : Text) (o : Option Text) → is_some (cond (d || u) (Some n) o) ≡ (d || (u || is_some o))
some_declared true u n o = refl
some_declared false true n o = refl
some_declared false false n o = refl

known_given : (q : plain.Program) (number : Option ℕ) (host : Option plain.Module) (f : Gives) (g : Origins) → ((m x : Text) → is_known (f m x) ≡ is_some (g m x)) → (x : Text) →
    is_known (given_by q number host f x) ≡ is_some (origin_in q number host g x)
known_given q number None f g each x = refl
known_given q number (Some host) f g each x =
    let here = entity_of host.name (decl_named host.decls x) in
    let within = procedure_of (unit_within q number x) in
    known_or_else here (or_else within (used f host.uses x))
    ∙ (ap (λ b. is_known here || b) (known_or_else within (used f host.uses x))
    ∙ ((λ t. known_decl host.name (decl_named host.decls x) t || (known_procedure (unit_within q number x) t || known_used f g each host.uses x t))
    ∙ sym (some_declared (is_some (decl_named host.decls x)) (is_some (unit_within q number x)) host.name (origin_used g host.uses x))))

known_within : (q : plain.Program) (depth : ℕ) (m x : Text) → is_known (gives q depth m x) ≡ is_some (origin_within q depth m x)
known_within q zero m x = refl
known_within q (suc depth) m x =
    let number = position (λ (d : plain.Module). bytes_eq d.name m) q.modules in
    known_given q number (module_at q number) (gives q depth) (origin_within q depth) (known_within q depth) x

pub given_has_origin : (q : plain.Program) (m x : Text) → is_known (module_gives q m x) ≡ is_some (origin q m x)
given_has_origin q m x = known_within q (suc (length q.modules)) m x
