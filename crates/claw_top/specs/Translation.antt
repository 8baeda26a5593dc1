-- What a translated text owes its sources.
use Rattle.std.specs.Prelude.{◌≡◌, ℕ, List, [], Bool, false}
use Rattle.fort_tree.specs.declared.choice.Mode.TheVariants.{Source}
use Rattle.fort_tree.specs.declared.choice.Target.TheVariants.{Cpu}
use Rattle.fort_tree.specs.declared.choice.Directives.TheVariants.{Plain}
use Rattle.fort_tree.specs.declared.unit.File.{File}
use Rattle.courses.specs.Plans.{Plan}
use Rattle.claw_meaning.specs.Syntax.{Text}
use Rattle.claw_meaning.specs.Plain.{plain_file}
use Rattle.claw_meaning.specs.Interface.{Interface}
use Rattle.claw_meaning.specs.Erasure.{Erased}
use Rattle.claw_meaning.specs.Spread.{Spread}
use Rattle.claw_meaning.specs.Kept.{Kept, Orderly}
use Rattle.sound_programs.specs.Sound.{Sound}
use Rattle.fort_spell.specs.Units.{layout_of}
use Rattle.fort_tree.specs.declared.statement.Line.{Line}
use Rattle.fort_units.specs.Program.{IsProgram}
use Rattle.layout_reading.specs.Programs.{Spells}
use Rattle.claw_top.specs.KeptBack.{kept_back}
use Rattle.claw_top.specs.Sources.{HaveLines}

-- the sources' lines spell the program
pub record AreSpelled (sources : List (List ℕ)) (file : File) : Type 0 where
  pub lines : List Line
  pub are : HaveLines sources lines
  pub spelled : IsProgram lines file

-- The sources spell one program, which is sound and from whose translation nothing keeps, and the text is the layout of another. That one has the interface of the
-- sources' program with its wide variables, erases to it, and has its loops over the columns where they must stand; and for
-- every number of columns, every well-typed input and every order of parallel iterations it keeps what the sources' program
-- does, and no two iterations touch one element unless both only read it. As a made text, the text is read as that program and
-- as no other, places set aside.
pub record Translation (sources : List (List ℕ)) (text : List ℕ) : Type 0 where
  pub directed : File
  pub written : File
  pub wide : ℕ → Text → Bool
  pub spelled : AreSpelled sources directed
  pub sound : Sound Source directed
  pub built : kept_back directed ≡ []
  pub layout : text ≡ layout_of written
  pub interface : Interface (plain_file directed) (plain_file written) wide
  pub erased : Erased (plain_file directed) (plain_file written) wide
  pub spread : Spread (plain_file directed) (plain_file written) wide (λ i x. false) Cpu Plain
  pub kept : (plan : Plan) → Kept (plain_file directed) (plain_file written) plan
  pub orderly : (plan : Plan) → Orderly (plain_file directed) (plain_file written) plan
  pub read : (number : ℕ) → Spells number text written
  pub alone : (number : ℕ) (other : File) → Spells number text other → plain_file other ≡ plain_file written
