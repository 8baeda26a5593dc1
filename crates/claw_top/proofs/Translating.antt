-- What is made of the sources is a translation of them.
use Rattle.std.proofs.Common.{◌≡◌, ℕ, List, [], map, Some, false, refl, sym, ap, ◌∙◌, subst, length}
use Rattle.std.specs.Prelude.{slice_get}
use Rattle.std.proofs.lemmas.List.{length-map}
use Rattle.std.specs.List.{AllZip}
use Rattle.courses.specs.Plans.{Plan}
use Rattle.fort_tree.specs.declared.choice.Mode.TheVariants.{Source}
use Rattle.fort_tree.specs.declared.choice.Target.TheVariants.{Cpu}
use Rattle.fort_tree.specs.declared.choice.Directives.TheVariants.{Plain}
use Rattle.fort_tree.specs.declared.statement.Line.{Line}
use Rattle.fort_tree.specs.declared.unit.File.{File}
use Rattle.claw_meaning.specs.Syntax.{Unit, Program}
use Rattle.claw_meaning.specs.Plain.{plain_file}
use Rattle.claw_meaning.specs.Interface.{Interface}
use Rattle.claw_meaning.specs.Erasure.{Erased}
use Rattle.claw_meaning.specs.Spread.{Spread}
use Rattle.claw_meaning.specs.Kept.{Kept, Orderly}
use Rattle.fort_spell.specs.Units.{layout_of}
use Rattle.fort_units.specs.Program.{IsProgram}
use Rattle.layout_reading.specs.Programs.{IsPrintableFile, Spells}
use Rattle.sound_programs.specs.Sound.{Sound}
use Rattle.sound_programs.proofs.Empties.{left_empty}
use Rattle.column_rules.specs.Rules.{broken}
use Rattle.translated_programs.specs.NotBuilt.{unbuilt}
use Rattle.claw_top.specs.KeptBack.{kept_back}
use Rattle.translated_programs.proofs.Translating.{mapped_at}
use Rattle.translated_programs.specs.Translated.{translated, translated_unit, wide_in, IsTranslatable, as_it_is, for_all_columns, AreTranslatable}
use Rattle.written_programs.specs.Writable.{IsWrittenAs, UnitByUnit}
use Rattle.written_programs.specs.Writable as writable
use Rattle.claw_top.specs.Sources.{HaveLines}
use Rattle.claw_top.specs.Translation.{Translation}

-- what the laws of translated programs and of texts say
pub record Laws : Type 0 where
  pub units : (file : File) → Sound Source file → unbuilt file ≡ [] → AreTranslatable (plain_file file)
  pub interface : (file : File) (t : Program) → Sound Source file → unbuilt file ≡ [] → t ≡ translated (plain_file file) → Interface (plain_file file) t (wide_in (plain_file file))
  pub erased : (file : File) (t : Program) → Sound Source file → unbuilt file ≡ [] → t ≡ translated (plain_file file) → Erased (plain_file file) t (wide_in (plain_file file))
  pub spread : (file : File) (t : Program) → Sound Source file → unbuilt file ≡ [] → t ≡ translated (plain_file file) → Spread (plain_file file) t (wide_in (plain_file file)) (λ i x. false) Cpu Plain
  pub kept : (file : File) (t : Program) → Sound Source file → unbuilt file ≡ [] → t ≡ translated (plain_file file) → (plan : Plan) → Kept (plain_file file) t plan
  pub orderly : (file : File) (t : Program) → Sound Source file → unbuilt file ≡ [] → t ≡ translated (plain_file file) → (plan : Plan) → Orderly (plain_file file) t plan
  pub by_number : (us ts : List Unit) → length ts ≡ length us → ((i : ℕ) (u t : Unit) → slice_get us i ≡ Some u → slice_get ts i ≡ Some t → IsWrittenAs u t) → AllZip IsWrittenAs us ts
  pub printable : (lines : List Line) (source written : File) → IsProgram lines source → UnitByUnit IsWrittenAs (plain_file source) (plain_file written) → IsPrintableFile written
  pub read : (number : ℕ) (file : File) → IsPrintableFile file → Spells number (layout_of file) file
  pub alone : (number : ℕ) (file other : File) → IsPrintableFile file → Spells number (layout_of file) other → plain_file other ≡ plain_file file

-- ---- each unit is written

written_as : (u t : Unit) → IsTranslatable u → t ≡ translated_unit u → IsWrittenAs u t
written_as u t (as_it_is undirected made) e = subst (IsWrittenAs u) (sym (e ∙ made)) (writable.as_it_is undirected)
written_as u t (for_all_columns s is source made) e = writable.for_all_columns s is source (e ∙ made)

unit_by_unit : Laws → (s t : Program) → AreTranslatable s → t ≡ translated s → UnitByUnit IsWrittenAs s t
unit_by_unit laws s t units is = subst (UnitByUnit IsWrittenAs s) (sym is) (record {
  modules = refl;
  order = refl;
  units = laws.by_number s.units (map translated_unit s.units) (length-map s.units translated_unit) (λ i u v at there. written_as u v (units i u at) (mapped_at translated_unit s.units i u v at there));
})

-- ---- the translation

pub is_translation : Laws → (sources : List (List ℕ)) (lines : List Line) (file made : File) → HaveLines sources lines → IsProgram lines file → Sound Source file → kept_back file ≡ [] →
    plain_file made ≡ translated (plain_file file) → Translation sources (layout_of made)
is_translation laws sources lines file made are spelled sound kept is =
    let built = left_empty (unbuilt file) (broken file) kept in
    let printable = laws.printable lines file made spelled (unit_by_unit laws (plain_file file) (plain_file made) (laws.units file sound built) is) in
    record {
      directed = file;
      written = made;
      wide = wide_in (plain_file file);
      spelled = record { lines = lines; are = are; spelled = spelled };
      sound = sound;
      built = kept;
      layout = refl;
      interface = laws.interface file (plain_file made) sound built is;
      erased = laws.erased file (plain_file made) sound built is;
      spread = laws.spread file (plain_file made) sound built is;
      kept = laws.kept file (plain_file made) sound built is;
      orderly = laws.orderly file (plain_file made) sound built is;
      read = λ number. laws.read number made printable;
      alone = λ number other h. laws.alone number made other printable h;
    }
