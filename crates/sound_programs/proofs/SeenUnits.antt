-- A unit that is visible under a name is one of the program's, and the name is its own.
use Rattle.std.proofs.Common.{◌≡◌, ℕ, zero, suc, List, [], ◌∷◌, length, Bool, true, false, ◌&&◌, cond, Option, Some, None, refl}
use Rattle.std.specs.Prelude.{⊤, is_some, if◌then◌else◌}
use Rattle.std.specs.List.{find, position}
use Rattle.std.specs.Str.{bytes_eq}
use Rattle.std.proofs.lemmas.Bool.{and_parts}
use Rattle.claw_meaning.specs.Syntax.{Text, Decl, Use, Unit, Module, Program}
use Rattle.claw_meaning.specs.Scope.{Entity, Unknown, Variable, Constant, Procedure, or_else, decl_named, entity_of, procedure_of, same_host, unit_within, brings, used, given_by, module_at, gives, module_gives, host_gives, visible}
use Rattle.sound_programs.specs.Laws.{Each}

module _ (p : Program) (P : Unit → Type 0) (all : Each p.units P) where
  -- where what is visible under this name is a unit
  abbrev pub Sees : Text → Entity → Type 0
  Sees x Unknown = ⊤
  Sees x (Variable home d) = ⊤
  Sees x (Constant d) = ⊤
  Sees x (Procedure v) = P v × (bytes_eq v.name x ≡ true)

  sees_either : (x : Text) (a b : Entity) → Sees x a → Sees x b → Sees x (or_else a b)
  sees_either x Unknown b h k = k
  sees_either x (Variable home d) b h k = tt
  sees_either x (Constant d) b h k = tt
  sees_either x (Procedure v) b h k = h

  sees_decl : (x home : Text) (d : Option Decl) → Sees x (entity_of home d)
  sees_decl x home None = tt
  sees_decl x home (Some d) = go (is_some d.value)
    where
      go : (b : Bool) → Sees x (if b then Constant d else Variable home d)
      go true = tt
      go false = tt

  sees_found : (x : Text) (test : Unit → Bool) → ((u : Unit) → test u ≡ true → bytes_eq u.name x ≡ true) → (us : List Unit) → Each us P → Sees x (procedure_of (find test us))
  sees_found x test named [] h = tt
  sees_found x test named (u ∷ us) h = go (test u) refl (sees_found x test named us h.1)
    where
      go : (b : Bool) → test u ≡ b → Sees x (procedure_of (find test us)) → Sees x (procedure_of (cond b (Some u) (find test us)))
      go true e rest = (h.0, named u e)
      go false e rest = rest

  sees_within : (host : Option ℕ) (x : Text) → Sees x (procedure_of (unit_within p host x))
  sees_within host x =
      sees_found x (λ u. same_host u.host host && bytes_eq u.name x) (λ u h. (and_parts (same_host u.host host) (bytes_eq u.name x) h).1) p.units all

  sees_used : (g : Text → Text → Entity) → ((m x : Text) → Sees x (g m x)) → (us : List Use) (x : Text) → Sees x (used g us x)
  sees_used g s [] x = tt
  sees_used g s (u ∷ us) x = sees_either x _ _ (go (brings u x)) (sees_used g s us x)
    where
      go : (b : Bool) → Sees x (if b then g u.name x else Unknown)
      go true = s u.name x
      go false = tt

  sees_given : (g : Text → Text → Entity) → ((m x : Text) → Sees x (g m x)) → (number : Option ℕ) (host : Option Module) (x : Text) → Sees x (given_by p number host g x)
  sees_given g s number None x = tt
  sees_given g s number (Some host) x =
      sees_either x _ _ (sees_decl x host.name (decl_named host.decls x)) (sees_either x _ _ (sees_within number x) (sees_used g s host.uses x))

  sees_gives : (depth : ℕ) (m x : Text) → Sees x (gives p depth m x)
  sees_gives zero m x = tt
  sees_gives (suc depth) m x =
      let number = position (λ d. bytes_eq d.name m) p.modules in sees_given (gives p depth) (sees_gives depth) number (module_at p number) x

  sees_module : (m x : Text) → Sees x (module_gives p m x)
  sees_module = sees_gives (suc (length p.modules))

  sees_host : (host : Option Module) (x : Text) → Sees x (host_gives p host x)
  sees_host None x = tt
  sees_host (Some host) x = sees_module host.name x

  pub sees : (u : Unit) (x : Text) → Sees x (visible p u x)
  sees u x =
      sees_either x _ _ (sees_decl x u.name (decl_named u.decls x))
      (sees_either x _ _ (sees_used (module_gives p) sees_module u.uses x)
      (sees_either x _ _ (sees_host (module_at p u.host) x) (sees_within None x)))
