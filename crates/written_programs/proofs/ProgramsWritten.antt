-- A program each of whose units can be written can be written.
use Rattle.std.proofs.Common.{◌≡◌, ℕ, suc, ◌+◌, length, List, [], ◌∷◌, ◌++◌, Option, None, map, refl, sym, ap, ◌∙◌, subst}
use Rattle.std.specs.List.{AllZip}
use Rattle.fort_tree.specs.declared.choice.Mode.{Mode}
use Rattle.fort_tree.specs.declared.choice.Mode.TheVariants.{Target}
use Rattle.fort_tree.specs.declared.statement.Statement.TheOpen.{Statement-F}
use Rattle.fort_tree.specs.declared.unit.Item as tree_item
use Rattle.fort_tree.specs.declared.unit.Module.{Module}
use Rattle.fort_tree.specs.declared.unit.Unit as tree_unit
use Rattle.claw_meaning.specs.Plain.{plain_unit}
use Rattle.claw_meaning.specs.Syntax as plain
use Rattle.sound_programs.specs.Forms.{Form, Says}
use Rattle.sound_programs.specs.Nesting as nesting
use Rattle.sound_programs.specs.Nesting.{IsUnit, AreUnits, Contained, IsModule, Nests_from, Ends}
use Rattle.written_programs.specs.Writable.{CanBeWritten, CanReplace}
use Rattle.written_programs.proofs.Behind.{unit_left, module_left}
use Rattle.written_programs.proofs.HeaderForms.{say_end}
use Rattle.written_programs.proofs.Longer.{unit_longer}
use Rattle.written_programs.proofs.SaidForms.{IsSaidForm, AreSaid, Lined, no_lines, lined_appended, place_said, say}
use Rattle.written_programs.proofs.UnitsWritten.{head_again, target_head, end_form, end_fits}

-- ---- Lists

-- what replaces two lists is two lists
record Halves (us vs ts : List plain.Unit) : Type 0 where
  first : List plain.Unit
  second : List plain.Unit
  joined : first ++ second ≡ ts
  first_are : AllZip CanReplace us first
  second_are : AllZip CanReplace vs second

halves : (us vs ts : List plain.Unit) → AllZip CanReplace (us ++ vs) ts → Halves us vs ts
halves [] vs ts h = record { first = []; second = ts; joined = refl; first_are = tt; second_are = h }
halves (u ∷ us) vs [] h = absurd h
halves (u ∷ us) vs (t ∷ ts) h =
    let m = halves us vs ts h.1 in record { first = t ∷ m.first; second = m.second; joined = ap (λ x. t ∷ x) m.joined; first_are = (h.0, m.first_are); second_are = m.second_are }

pub map_appended : {A B : Type 0} (g : A → B) (xs ys : List A) → map g (xs ++ ys) ≡ map g xs ++ map g ys
map_appended g [] ys = refl
map_appended g (x ∷ xs) ys = ap (λ z. g x ∷ z) (map_appended g xs ys)

-- as many trees
same_count : (xs ys : List tree_unit.Unit) (ts : List plain.Unit) → AllZip CanReplace (map plain_unit xs) ts → map plain_unit ys ≡ ts → length ys ≡ length xs
same_count [] [] ts h e = refl
same_count [] (y ∷ ys) [] h e = absurd cc
same_count [] (y ∷ ys) (t ∷ ts) h e = absurd h
same_count (x ∷ xs) ys [] h e = absurd h
same_count (x ∷ xs) [] (t ∷ ts) h e = absurd cc
same_count (x ∷ xs) (y ∷ ys) (t ∷ ts) h e = ap suc (same_count xs ys ts h.1 (more_items e))
  where
    more_items : {A : Type 0} {a b : A} {k l : List A} → a ∷ k ≡ b ∷ l → k ≡ l
    more_items e = cc

-- ---- Units

record UnitAgain (host : Option ℕ) (t : plain.Unit) (rest : List Form) : Type 0 where
  forms : List Form
  tree : tree_unit.Unit
  nest : IsUnit Target host forms tree rest
  lined : Lined rest → Lined forms
  same : plain_unit tree ≡ t

unit_again : (host : Option ℕ) (t : plain.Unit) → t.host ≡ host → CanBeWritten t → (rest : List Form) → UnitAgain host t rest
unit_again host t e w rest = record {
  forms = w.forms ++ rest;
  tree = w.written;
  nest = subst (λ h. IsUnit Target h (w.forms ++ rest) w.written rest) e (unit_longer Target rest w.nest);
  lined = lined_appended (record { lines = w.lines; have = w.have });
  same = w.same;
}

host_is : (mode : Mode) {host : Option ℕ} {fs rest : List Form} {x : tree_unit.Unit} → IsUnit mode host fs x rest → x.host ≡ host
host_is mode (nesting.subroutine h q b e) = refl
host_is mode (nesting.function h b e) = refl

record UnitsAgain (host : Option ℕ) (ts : List plain.Unit) (rest : List Form) : Type 0 where
  forms : List Form
  trees : List tree_unit.Unit
  nest : AreUnits Target host forms trees rest
  lined : Lined rest → Lined forms
  same : map plain_unit trees ≡ ts

next_unit : {host : Option ℕ} {t : plain.Unit} {ts : List plain.Unit} {rest : List Form} (m : UnitsAgain host ts rest) → UnitAgain host t m.forms → UnitsAgain host (t ∷ ts) rest
next_unit {t = t} m a = record {
  forms = a.forms;
  trees = a.tree ∷ m.trees;
  nest = nesting.a_unit a.nest m.nest;
  lined = λ l. a.lined (m.lined l);
  same = ap (λ x. x ∷ map plain_unit m.trees) a.same ∙ ap (λ x. t ∷ x) m.same;
}

record ContainedAgain (number : ℕ) (ts : List plain.Unit) (rest : List Form) : Type 0 where
  forms : List Form
  trees : List tree_unit.Unit
  nest : Contained Target number forms trees rest
  lined : Lined rest → Lined forms
  same : map plain_unit trees ≡ ts

record ModuleAgain (number : ℕ) (a : Module) (ts : List plain.Unit) (rest : List Form) : Type 0 where
  forms : List Form
  trees : List tree_unit.Unit
  nest : IsModule Target number forms a trees rest
  lined : Lined rest → Lined forms
  same : map plain_unit trees ≡ ts

pub record ProgramAgain (m u : ℕ) (ms : List Module) (ts : List plain.Unit) (order : List tree_item.Item) : Type 0 where
  pub forms : List Form
  pub trees : List tree_unit.Unit
  pub nest : Nests_from Target m u forms ms trees order
  pub lined : Lined forms
  pub same : map plain_unit trees ≡ ts

module _ (mode : Mode) where
  units_again : {host : Option ℕ} {fs rest : List Form} {us : List tree_unit.Unit} → AreUnits mode host fs us rest → (ts : List plain.Unit) → AllZip CanReplace (map plain_unit us) ts → (t : List Form) → UnitsAgain host ts t
  units_again nesting.no_more_units [] h t = record { forms = t; trees = []; nest = nesting.no_more_units; lined = λ l. l; same = refl }
  units_again nesting.no_more_units (x ∷ ts) h t = absurd h
  units_again (nesting.a_unit u us) [] h t = absurd h
  units_again {host = host} (nesting.a_unit u us) (x ∷ ts) h t =
      let m = units_again us ts h.1 t in next_unit m (unit_again host x (h.0.0 ∙ host_is mode u) h.0.1 m.forms)

  contained_again : {number : ℕ} {fs rest : List Form} {us : List tree_unit.Unit} → Contained mode number fs us rest → AreSaid fs → (ts : List plain.Unit) → AllZip CanReplace (map plain_unit us) ts → (t : List Form) → ContainedAgain number ts t
  contained_again nesting.contains_none k [] h t = record { forms = t; trees = []; nest = nesting.contains_none; lined = λ l. l; same = refl }
  contained_again nesting.contains_none k (x ∷ ts) h t = absurd h
  contained_again (nesting.contains us) k ts h t =
      let m = units_again us ts h t in
      record { forms = Says (place_said k.0) Statement-F.Contains ∷ m.forms; trees = m.trees; nest = nesting.contains m.nest; lined = λ l. say k.0 (m.lined l); same = m.same }

  module_again : {number : ℕ} {fs rest : List Form} {a : Module} {us : List tree_unit.Unit} → IsModule mode number fs a us rest → AreSaid fs → (ts : List plain.Unit) → AllZip CanReplace (map plain_unit us) ts → (t : List Form) → ModuleAgain number a ts t
  module_again (nesting.a_module {name = name} h c e) k ts r t =
      let s = k.0 in
      let head = head_again mode h refl k.1 in
      let inside = contained_again c head.behind ts r (end_form (place_said s) ∷ t) in
      let d = head.again inside.forms in
      let u = head.uses d.forms in
      record {
        forms = Says (place_said s) (Statement-F.Module name) ∷ u.forms;
        trees = inside.trees;
        nest = nesting.a_module {at = place_said s} {name = name} (target_head u.nest d.nest) inside.nest (end_fits _ name.name (place_said s));
        lined = λ l. say s (u.lined (d.lined (inside.lined (say (say_end (place_said s)) l))));
        same = inside.same;
      }

  pub program_again : {m u : ℕ} {fs : List Form} {ms : List Module} {us : List tree_unit.Unit} {order : List tree_item.Item} → Nests_from mode m u fs ms us order → AreSaid fs → (ts : List plain.Unit) → AllZip CanReplace (map plain_unit us) ts →
      ProgramAgain m u ms ts order
  program_again nesting.no_more k [] h = record { forms = []; trees = []; nest = nesting.no_more; lined = no_lines; same = refl }
  program_again nesting.no_more k (t ∷ ts) h = absurd h
  program_again (nesting.unit_first a others) k [] h = absurd h
  program_again (nesting.unit_first a others) k (t ∷ ts) h =
      let p = program_again others (unit_left mode IsSaidForm a k) ts h.1 in
      let b = unit_again None t (h.0.0 ∙ host_is mode a) h.0.1 p.forms in
      record {
        forms = b.forms;
        trees = b.tree ∷ p.trees;
        nest = nesting.unit_first b.nest p.nest;
        lined = b.lined p.lined;
        same = ap (λ x. x ∷ map plain_unit p.trees) b.same ∙ ap (λ x. t ∷ x) p.same;
      }
  program_again {m = m} {u = u} {ms = _ ∷ ms} {order = _ ∷ order} (nesting.module_first {us = us} {vs = vs} first others) k ts h =
      let w = halves (map plain_unit us) (map plain_unit vs) ts (subst (λ x. AllZip CanReplace x ts) (map_appended plain_unit us vs) h) in
      let p = program_again others (module_left mode IsSaidForm first k) w.second w.second_are in
      let b = module_again first k w.first w.first_are p.forms in
      let count = same_count us b.trees w.first w.first_are b.same in
      record {
        forms = b.forms;
        trees = b.trees ++ p.trees;
        nest = nesting.module_first b.nest (subst (λ n. Nests_from Target (suc m) (u + n) p.forms ms p.trees order) (sym count) p.nest);
        lined = b.lined p.lined;
        same = map_appended plain_unit b.trees p.trees ∙ (ap (λ x. x ++ map plain_unit p.trees) b.same ∙ (ap (λ x. w.first ++ x) p.same ∙ w.joined));
      }
