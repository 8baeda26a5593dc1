-- A program can be written unit by unit.
use Rattle.std.proofs.Common.{◌≡◌, ℕ, suc, List, [], ◌∷◌, length, Some, map, refl, sym, ap, ◌∙◌, subst, arith}
use Rattle.std.specs.Prelude.{slice_get}
use Rattle.std.specs.List.{All, AllByRecursion, AllZip}
use Rattle.std.proofs.lemmas.List.Elements.{recursion_from_All}
use Rattle.fort_tree.specs.declared.choice.Mode.{Mode}
use Rattle.fort_tree.specs.declared.statement.Line.{Line}
use Rattle.fort_tree.specs.declared.unit.File.{File}
use Rattle.fort_tree.specs.declared.unit.Unit as tree_unit
use Rattle.fort_units.specs.Program.{mode_of, IsProgram}
use Rattle.claw_meaning.specs.Plain.{plain_file, plain_unit}
use Rattle.claw_meaning.specs.Syntax as plain
use Rattle.layout_reading.specs.Programs.{IsPrintableFile}
use Rattle.plain_units.specs.Regrouped.{regrouped}
use Rattle.plain_units.specs.Undirected.{IsUndirected}
use Rattle.layout_reading.specs.WideUnits.{WideUnitsPrintable}
use Rattle.layout_reading.proofs.ScalarUnits.{unit_ok}
use Rattle.written_programs.specs.Writable.{CanBeWritten, CanReplace, IsWrittenAs, as_it_is, for_all_columns, UnitByUnit, all_regrouped}
use Rattle.written_programs.proofs.EachUnit.{IsSaidUnit, all_units}
use Rattle.written_programs.proofs.HeaderForms.{said_gives}
use Rattle.written_programs.proofs.LinesSaid.{program_said}
use Rattle.written_programs.proofs.PlainUnits.{can_regroup}
use Rattle.written_programs.proofs.ProgramsWritten.{program_again}
use Rattle.written_programs.proofs.SaidForms.{IsSaidForm}
use Rattle.written_programs.proofs.WideUnits.{wide_unit_written}

pub replaced_program : (lines : List Line) (file written : File) → IsProgram lines file → UnitByUnit CanReplace (plain_file file) (plain_file written) → IsPrintableFile written
replaced_program lines file written p r =
    let a = program_again (mode_of lines) p.nests (program_said p) (plain_file written).units r.units in
    let k = sym r.modules in
    let l = sym r.order in
    let s = a.same in
    record {
      lines = a.lined.lines;
      forms = a.forms;
      written = record { modules = file.modules; units = a.trees; order = file.order };
      have = a.lined.have;
      nest = a.nest;
      same = λ t. record { modules = k t; units = s t; order = l t };
    }

module _ (printable : WideUnitsPrintable) (mode : Mode) where
  one_replaced : {u t : plain.Unit} (x : tree_unit.Unit) → plain_unit x ≡ t → IsSaidUnit mode u → IsWrittenAs u t → CanReplace u t
  one_replaced x e s (as_it_is n) = (refl, can_regroup mode s n)
  one_replaced {u = u} {t = t} x e s (for_all_columns c is h k) =
      let host = λ (v : plain.Unit). v.host in
      let w = wide_unit_written printable c x is (unit_ok IsSaidForm said_gives mode c is s.nest s.said (s.same ∙ h)) (e ∙ k) in
      (ap host k ∙ sym (ap host h), subst CanBeWritten (sym k) w)

  all_replaced : (us : List plain.Unit) (xs : List tree_unit.Unit) → AllByRecursion (IsSaidUnit mode) us → AllZip IsWrittenAs us (map plain_unit xs) → AllZip CanReplace us (map plain_unit xs)
  all_replaced [] [] s h = tt
  all_replaced [] (x ∷ xs) s h = absurd h
  all_replaced (u ∷ us) [] s h = absurd h
  all_replaced (u ∷ us) (x ∷ xs) s h = (one_replaced x refl s.0 h.0, all_replaced us xs s.1 h.1)

pub written_program : WideUnitsPrintable → (lines : List Line) (file written : File) → IsProgram lines file → UnitByUnit IsWrittenAs (plain_file file) (plain_file written) → IsPrintableFile written
written_program printable lines file written p w =
    replaced_program lines file written p (record { modules = w.modules; order = w.order; units = all_replaced printable (mode_of lines) (plain_file file).units written.units (all_units p) w.units })

all_written : (us : List plain.Unit) → AllByRecursion IsUndirected us → AllZip IsWrittenAs us (map regrouped us)
all_written [] n = tt
all_written (u ∷ us) n = (as_it_is n.0, all_written us n.1)

pub undirected_program : WideUnitsPrintable → (lines : List Line) (file written : File) → IsProgram lines file → All IsUndirected (plain_file file).units → plain_file written ≡ all_regrouped (plain_file file) → IsPrintableFile written
undirected_program printable lines file written p n e =
    let us = (plain_file file).units in
    written_program printable lines file written p
    (record {
      modules = ap (λ (q : plain.Program). q.modules) e;
      order = ap (λ (q : plain.Program). q.order) e;
      units = subst (AllZip IsWrittenAs us) (sym (ap (λ (q : plain.Program). q.units) e)) (all_written us (recursion_from_All IsUndirected us n));
    })

-- ---- By their numbers

pub by_number : (R : plain.Unit → plain.Unit → Type 0) (us ts : List plain.Unit) → length ts ≡ length us → ((i : ℕ) (u t : plain.Unit) → slice_get us i ≡ Some u → slice_get ts i ≡ Some t → R u t) → AllZip R us ts
by_number R [] [] e h = tt
by_number R [] (t ∷ ts) e h = absurd (omega arith)
by_number R (u ∷ us) [] e h = absurd (omega arith)
by_number R (u ∷ us) (t ∷ ts) e h = let n : length ts ≡ length us = omega arith in (h 0 u t refl refl, by_number R us ts n (λ i v w a b. h (suc i) v w a b))
