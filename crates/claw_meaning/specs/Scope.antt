-- Which entity a name is. A name is visible in a unit if it is declared there, if a USE of the unit brings it, if it is
-- declared in the host module or brought there by USE, or if it is an external unit: the first of these in this order.
-- A module gives what it declares, its units, and what its own USE lines bring.
use Rattle.std.specs.Prelude.{ℕ, zero, suc, List, [], ◌∷◌, length, Option, Some, None, Bool, true, false, ◌&&◌, nat_eq, if◌then◌else◌, is_some, slice_get}
use Rattle.std.specs.List.{find, position, list_any}
use Rattle.std.specs.Str.{bytes_eq}
use Rattle.claw_meaning.specs.Syntax.{Text, Decl, Use, Unit, Module, Program}

pub data Entity : Type 0 where
  Unknown : Entity
  Variable : Text → Decl → Entity  -- the name of the unit or module that declares it
  Constant : Decl → Entity
  Procedure : Unit → Entity

abbrev pub or_else : Entity → Entity → Entity
or_else Unknown other = other
or_else (Variable home decl) other = Variable home decl
or_else (Constant decl) other = Constant decl
or_else (Procedure unit) other = Procedure unit

abbrev pub decl_named : List Decl → Text → Option Decl
decl_named decls x = find (λ decl. bytes_eq decl.name x) decls

abbrev pub entity_of : Text → Option Decl → Entity
entity_of home None = Unknown
entity_of home (Some decl) = if is_some decl.value then Constant decl else Variable home decl

abbrev pub procedure_of : Option Unit → Entity
procedure_of None = Unknown
procedure_of (Some unit) = Procedure unit

abbrev pub same_host : Option ℕ → Option ℕ → Bool
same_host None None = true
same_host (Some m) (Some n) = nat_eq m n
same_host None (Some n) = false
same_host (Some m) None = false

abbrev pub unit_named : Program → Text → Option Unit
unit_named p x = find (λ unit. bytes_eq unit.name x) p.units

abbrev pub unit_within : Program → Option ℕ → Text → Option Unit
unit_within p host x = find (λ unit. same_host unit.host host && bytes_eq unit.name x) p.units

abbrev pub brought : Option (List Text) → Text → Bool
brought None x = true
brought (Some only) x = list_any (λ name. bytes_eq name x) only

abbrev pub brings : Use → Text → Bool
brings u x = brought u.only x

-- what USE lines bring, where this is what each module gives
abbrev pub used : (Text → Text → Entity) → List Use → Text → Entity
used gives [] x = Unknown
used gives (u ∷ us) x = or_else (if brings u x then gives u.name x else Unknown) (used gives us x)

abbrev pub given_by : Program → Option ℕ → Option Module → (Text → Text → Entity) → Text → Entity
given_by p number None gives x = Unknown
given_by p number (Some host) gives x =
    or_else (entity_of host.name (decl_named host.decls x)) (or_else (procedure_of (unit_within p number x)) (used gives host.uses x))

abbrev pub module_at : Program → Option ℕ → Option Module
module_at p None = None
module_at p (Some n) = slice_get p.modules n

-- what a module gives, through so many USE lines one behind another
abbrev pub gives : Program → ℕ → Text → Text → Entity
gives p zero m x = Unknown
gives p (suc depth) m x =
    let number = position (λ d. bytes_eq d.name m) p.modules in
    given_by p number (module_at p number) (gives p depth) x

-- a chain of USE lines with no cycle is no longer than the list of modules
abbrev pub module_gives : Program → Text → Text → Entity
module_gives p = gives p (suc (length p.modules))

abbrev pub host_gives : Program → Option Module → Text → Entity
host_gives p None x = Unknown
host_gives p (Some host) x = module_gives p host.name x

-- the entity that a name is in a unit
abbrev pub visible : Program → Unit → Text → Entity
visible p u x =
    or_else (entity_of u.name (decl_named u.decls x))
    (or_else (used (module_gives p) u.uses x)
    (or_else (host_gives p (module_at p u.host) x)
    (procedure_of (unit_within p None x))))
