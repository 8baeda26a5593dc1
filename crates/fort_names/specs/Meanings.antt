-- What a name means in a program, by what is found under it.
use Rattle.std.specs.Prelude.{◌≡◌, ℕ, Option, Some, None, slice_get}
use Rattle.std.specs.Option.{option_map}
use Rattle.fort_tree.specs.declared.unit.Decl.{Decl}
use Rattle.fort_tree.specs.declared.unit.File.{File}
use Rattle.claw_meaning.specs.Plain.{plain_unit, plain_decl}
use Rattle.claw_meaning.specs.Scope.{Entity as Meant, Unknown, Variable, Constant, Procedure, procedure_of}
use Rattle.claw_meaning.specs.Syntax as plain
use Rattle.claw_meaning.specs.Syntax.{Text}
use Rattle.fort_names.specs.declared.entity.Entity.{Entity}
use Rattle.fort_names.specs.declared.entity.Home.{Home}
use Rattle.fort_names.specs.declared.entity.Home.TheVariants as home
use Rattle.fort_names.specs.declared.entity.Sort.{Sort}
use Rattle.fort_names.specs.declared.entity.Sort.TheVariants as sort
use Rattle.fort_names.specs.declared.meaning.Meaning.{Meaning}
use Rattle.fort_names.specs.declared.meaning.Meaning.TheVariants as meaning

-- the entity of the program that it is
abbrev pub meaning_of : Meaning → Meant
meaning_of meaning.Nothing = Unknown
meaning_of (meaning.Variable home d) = Variable home (plain_decl d.now)
meaning_of (meaning.Constant d) = Constant (plain_decl d.now)
meaning_of (meaning.Unit n u) = Procedure (plain_unit u.now)

-- a unit is the one of its number
abbrev pub IsNumbered : File → Meaning → Type 0
IsNumbered f meaning.Nothing = Unit {0}
IsNumbered f (meaning.Variable home d) = Unit {0}
IsNumbered f (meaning.Constant d) = Unit {0}
IsNumbered f (meaning.Unit n u) = slice_get f.units n ≡ Some u.now

-- the declaration of a variable or a PARAMETER
abbrev pub decl_of : Meant → Option plain.Decl
decl_of Unknown = None
decl_of (Variable home d) = Some d
decl_of (Constant d) = Some d
decl_of (Procedure v) = None

-- What an entity of the tables means, in the scope of the unit or module of this name

-- the name of the unit or module that declares it
abbrev pub name_of_home : File → Text → Home → Option Text
name_of_home f own home.Local = Some own
name_of_home f own (home.Module n) = option_map (λ m. m.name) (slice_get f.modules n)
name_of_home f own home.Global = None

abbrev pub variable_of : Option Text → Option Decl → Meant
variable_of None d = Unknown
variable_of (Some home) None = Unknown
variable_of (Some home) (Some d) = Variable home (plain_decl d)

abbrev pub constant_of : Option Decl → Meant
constant_of None = Unknown
constant_of (Some d) = Constant (plain_decl d)

-- the unit of this number
abbrev pub unit_at : File → ℕ → Meant
unit_at f n = procedure_of (option_map plain_unit (slice_get f.units n))

abbrev pub of_sort : File → Text → Entity → Sort → Meant
of_sort f own e sort.Variable = variable_of (name_of_home f own e.home) e.decl
of_sort f own e sort.Parameter = constant_of e.decl
of_sort f own e sort.Unit = unit_at f e.index
of_sort f own e sort.Module = Unknown

abbrev pub meant : File → Text → Option Entity → Meant
meant f own None = Unknown
meant f own (Some e) = of_sort f own e e.sort
