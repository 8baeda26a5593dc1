-- Forms that nest into a file leave it.
use Rattle.std.proofs.Common.{◌≡◌, ℕ, suc, ◌+◌, length, List, [], ◌∷◌, ◌++◌, Option, None, Some, true, refl, sym, ap, subst, ◌∙◌, arith}
use Rattle.std.specs.Option.{option_and_then, is_some}
use Rattle.std.proofs.lemmas.Bool.{false≢true}
use Rattle.std.proofs.lemmas.List.{append_assoc, append-nil, length-append}
use Rattle.fort_tree.specs.declared.choice.Mode.{Mode}
use Rattle.fort_tree.specs.declared.unit.File.{File}
use Rattle.fort_tree.specs.declared.unit.Item.{Item}
use Rattle.fort_tree.specs.declared.unit.Item.TheVariants as item
use Rattle.fort_tree.specs.declared.unit.Module.{Module}
use Rattle.fort_tree.specs.declared.unit.Unit as unit
use Rattle.sound_programs.specs.Forms.{Form}
use Rattle.sound_programs.specs.Nesting.{IsModule, Nests_from, no_more, module_first, unit_first, Nests}
use Rattle.form_nesting.specs.declared.nest.Nest.{Nest}
use Rattle.form_nesting.specs.Steps.{start}
use Rattle.form_nesting.specs.Runs.{run}
use Rattle.form_nesting.proofs.UnitRuns.{between, added, joined, unit_run, module_run}

abbrev behind : File → List Module → List unit.Unit → List Item → File
behind file ms us order = record { modules = file.modules ++ ms; units = file.units ++ us; order = file.order ++ order }

one_more : (ms : List Module) (m : Module) (n : ℕ) → n ≡ length ms → suc n ≡ length (ms ++ m ∷ [])
one_more ms m n e = ap suc e ∙ sym (omega (arith, length-append ms (m ∷ [])))

units_more : (us vs : List unit.Unit) (n : ℕ) → n ≡ length us → n + length vs ≡ length (us ++ vs)
units_more us vs n e = ap (λ k. k + length vs) e ∙ sym (length-append us vs)

unit_more : (us : List unit.Unit) (u : unit.Unit) (n : ℕ) → n ≡ length us → suc n ≡ length (us ++ u ∷ [])
unit_more us u n e = ap suc e ∙ sym (omega (arith, length-append us (u ∷ [])))

module _ (mode : Mode) where
  nests_run : {m u : ℕ} {forms : List Form} {ms : List Module} {us : List unit.Unit} {order : List Item} → Nests_from mode m u forms ms us order →
      (file : File) → m ≡ length file.modules → u ≡ length file.units → run forms (between file None) ≡ Some (between (behind file ms us order) None)
  nests_run no_more file e f =
      sym (λ i. Some (between (record { modules = append-nil file.modules i; units = append-nil file.units i; order = append-nil file.order i }) None))
  nests_run {m = m} {u = u} {forms = forms} (module_first {rest = rest} {a = a} {ms = ms} {us = us} {vs = vs} {order = order} first more) file e f =
      module_run mode file (subst (λ k. IsModule mode k forms a us rest) e first)
      ∙ (nests_run more (joined mode a us file) (one_more file.modules a m e) (units_more file.units us u f)
      ∙ λ i. Some (between (record {
        modules = append_assoc file.modules (a ∷ []) ms i;
        units = append_assoc file.units us vs i;
        order = (append_assoc file.order (item.Module (length file.modules) ∷ []) order ∙ ap (λ k. file.order ++ item.Module k ∷ order) (sym e)) i;
      }) None))
  nests_run {m = m} {u = u} {forms = forms} (unit_first {rest = rest} {ms = ms} {a = a} {vs = vs} {order = order} first more) file e f =
      unit_run mode file None first
      ∙ (nests_run more (added None a file) e (unit_more file.units a u f)
      ∙ λ i. Some (between (record {
        modules = file.modules ++ ms;
        units = append_assoc file.units (a ∷ []) vs i;
        order = (append_assoc file.order (item.Unit (length file.units) ∷ []) order ∙ ap (λ k. file.order ++ item.Unit k ∷ order) (sym f)) i;
      }) None))

  pub file_run : (forms : List Form) (file : File) → Nests mode forms file → run forms start ≡ Some (between file None)
  file_run forms file h = nests_run h (record { modules = []; units = []; order = [] }) refl refl

-- what is known of a step where all forms that are left have one
pub stepping : (o : Option Nest) (fs : List Form) (end : Nest) → option_and_then (run fs) o ≡ Some end → is_some o ≡ true
stepping None fs end e = absurd (false≢true (ap is_some e))
stepping (Some n) fs end e = refl
