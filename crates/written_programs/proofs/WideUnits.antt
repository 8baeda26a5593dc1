-- A unit of column scalars can be written for all columns, beside other units.
use Rattle.std.proofs.Common.{◌≡◌, ℕ, zero, suc, ◌<◌, arith, List, [], ◌∷◌, None, map, length, slice_index_or, refl, ap, ◌∙◌, subst, Contains}
use Rattle.fort_tree.specs.declared.choice.Mode.TheVariants.{Target}
use Rattle.fort_tree.specs.declared.statement.Line.{Line}
use Rattle.fort_tree.specs.declared.unit.File.{File}
use Rattle.fort_tree.specs.declared.unit.Item as tree_item
use Rattle.fort_tree.specs.declared.unit.Item.TheVariants as item
use Rattle.fort_tree.specs.declared.unit.Module.{Module}
use Rattle.fort_tree.specs.declared.unit.Unit as tree_unit
use Rattle.fort_units.specs.Program.{mode_of, IsProgram}
use Rattle.claw_meaning.specs.Plain.{plain_file, plain_module, plain_unit}
use Rattle.claw_meaning.specs.Syntax as plain
use Rattle.sound_programs.specs.Forms.{Form}
use Rattle.sound_programs.specs.Nesting as nesting
use Rattle.sound_programs.specs.Nesting.{IsUnit, Nests_from}
use Rattle.column_scalars.specs.Scalars.{Scalars, IsScalars, source_unit, wide_unit, program_of}
use Rattle.layout_reading.specs.WideUnits.{AreWritable, WideUnitsPrintable}
use Rattle.layout_reading.proofs.Elements.{one_item, more_items}
use Rattle.layout_reading.proofs.ScalarUnits.{unit_ok}
use Rattle.written_programs.specs.Writable.{CanBeWritten}
use Rattle.written_programs.proofs.EachUnit.{a_unit}
use Rattle.written_programs.proofs.HeaderForms.{said_gives}
use Rattle.written_programs.proofs.SaidForms.{IsSaidForm}

-- ---- A file of one unit

-- forms that are one unit, with this plain tree, and no others
record OneUnit (v : plain.Unit) (forms : List Form) : Type 0 where
  tree : tree_unit.Unit
  nest : IsUnit Target None forms tree []
  same : plain_unit tree ≡ v

none_left : {m n : ℕ} {fs : List Form} {ms : List Module} {us : List tree_unit.Unit} {order : List tree_item.Item} → Nests_from Target m n fs ms us order → map plain_module ms ≡ [] → map plain_unit us ≡ [] → fs ≡ []
none_left nesting.no_more e h = refl
none_left (nesting.module_first a others) e h = absurd cc
none_left (nesting.unit_first a others) e h = absurd cc

one_unit : {m n : ℕ} {fs : List Form} {ms : List Module} {us : List tree_unit.Unit} {order : List tree_item.Item} (v : plain.Unit) → Nests_from Target m n fs ms us order → map plain_module ms ≡ [] → map plain_unit us ≡ v ∷ [] → OneUnit v fs
one_unit v nesting.no_more e h = absurd cc
one_unit v (nesting.module_first a others) e h = absurd cc
one_unit {fs = fs} v (nesting.unit_first {a = a} x others) e h =
    record { tree = a; nest = subst (IsUnit Target None fs a) (none_left others e (more_items h)) x; same = one_item h }

abbrev file_of : tree_unit.Unit → File
file_of x = record { modules = []; units = x ∷ []; order = item.Unit 0 ∷ [] }

pub wide_unit_written : WideUnitsPrintable → (u : Scalars) (x : tree_unit.Unit) → IsScalars u → AreWritable u → plain_unit x ≡ wide_unit u → CanBeWritten (wide_unit u)
wide_unit_written printable u x s w e =
    let f = printable u (file_of x) s w (ap program_of e) in
    let same = f.same ∙ ap program_of e in
    let o = one_unit (wide_unit u) f.nest (ap (λ (p : plain.Program). p.modules) same) (ap (λ (p : plain.Program). p.units) same) in
    record { lines = f.lines; forms = f.forms; written = o.tree; have = f.have; nest = o.nest; same = o.same }

-- ---- Among other units

pub scalars_writable : (lines : List Line) (file : File) (u : Scalars) → IsScalars u → IsProgram lines file → Contains (plain_file file).units (source_unit u) → AreWritable u
scalars_writable lines file u s p c = let x = a_unit (source_unit u) p c in unit_ok IsSaidForm said_gives (mode_of lines) u s x.nest x.said x.same

mapped_at : {A B : Type 0} (g : A → B) (xs : List A) (y : B) (k : ℕ) → k < length (map g xs) → slice_index_or (map g xs) k y ≡ y → (x : A) × (g x ≡ y)
mapped_at g [] y k h e = absurd (omega arith)
mapped_at g (x ∷ xs) y zero h e = (x, e)
mapped_at g (x ∷ xs) y (suc k) h e = mapped_at g xs y k (omega arith) e

mapped_member : {A B : Type 0} (g : A → B) (xs : List A) (y : B) → Contains (map g xs) y → (x : A) × (g x ≡ y)
mapped_member g xs y c = mapped_at g xs y c.0 c.1 c.2

pub scalar_unit_written : WideUnitsPrintable → (lines : List Line) (file written : File) (u : Scalars) → IsScalars u → IsProgram lines file → Contains (plain_file file).units (source_unit u) → Contains (plain_file written).units (wide_unit u) →
    CanBeWritten (wide_unit u)
scalar_unit_written printable lines file written u s p c d =
    let x = mapped_member plain_unit written.units (wide_unit u) d in wide_unit_written printable u x.0 s (scalars_writable lines file u s p c) x.1
