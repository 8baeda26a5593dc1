-- Modules and files are read again.
use Rattle.std.proofs.Common.{◌≡◌, ℕ, suc, ◌+◌, ◌<◌, ◌≤◌, List, [], ◌∷◌, ◌++◌, Option, None, Some, Bool, true, false, cond, nat_eq, map, length, filter, slice_get, refl, sym, ap, ◌∙◌, subst, codes, arith, append_assoc, length-append}
use Rattle.std.proofs.lemmas.Bool.Decides.{nat_tests}
use Rattle.std.proofs.lemmas.List.{append-nil, map-append}
use Rattle.fort_tree.specs.declared.choice.Mode.TheVariants.{Target}
use Rattle.fort_tree.specs.declared.place.Place.{Place}
use Rattle.fort_tree.specs.declared.statement.EndWord.TheVariants as end_word
use Rattle.fort_tree.specs.declared.statement.Statement.{Statement}
use Rattle.fort_tree.specs.declared.statement.Statement.TheOpen.{Statement-F}
use Rattle.fort_tree.specs.declared.stmt.Directive.{Directive}
use Rattle.fort_tree.specs.declared.stmt.Named.{Named}
use Rattle.fort_tree.specs.declared.unit.Decl.{Decl}
use Rattle.fort_tree.specs.declared.unit.File.{File}
use Rattle.fort_tree.specs.declared.unit.Item.{Item}
use Rattle.fort_tree.specs.declared.unit.Item.TheVariants as item
use Rattle.fort_tree.specs.declared.unit.Module as tree_module
use Rattle.fort_tree.specs.declared.unit.Unit as tree_unit
use Rattle.fort_tree.specs.declared.unit.Use.{Use}
use Rattle.fort_spell.specs.Pieces.{end_pieces, name_pieces, pair}
use Rattle.fort_spell.specs.Rows.{Row, row, all_rows, deeper}
use Rattle.fort_spell.specs.Units.{unit_rows, is_host, units_of, contained_rows, module_rows, listed_module, listed_unit, item_rows}
use Rattle.claw_meaning.specs.Plain as p
use Rattle.sound_programs.specs.Forms.{Form, Says}
use Rattle.sound_programs.specs.Nesting as nesting
use Rattle.sound_programs.specs.Nesting.{Ends, IsUnit, AreUnits, Contained, IsModule, Nests_from, Nests}
use Rattle.layout_reading.specs.Readable.{AreReadable}
use Rattle.layout_reading.specs.Statements.{SameStatement, same_module, same_contains}
use Rattle.layout_reading.specs.FormLines.{TokenLine, HaveForms, AreLinesOf as AreLinesIn}
use Rattle.layout_reading.proofs.Keywords.{Free}
use Rattle.layout_reading.proofs.Declarations.{Each, DeclFit}
use Rattle.layout_reading.proofs.Bodies.{FormFits, said_line, form_line, said_stands, deeper_small, no_more_lines}
use Rattle.layout_reading.proofs.Heads.{UseFits, no_mark}
use Rattle.layout_reading.proofs.UnitsRead.{head_fit, head_rows, head_again, head_stands, UnitLaw, law_unit, end_test, ends_as}

no_marks : (l : List Directive) → map p.plain_directive l ≡ [] → l ≡ []
no_marks [] e = refl
no_marks (d ∷ l) e = absurd cc

-- LISTS

at_end : {X : Type 0} (xs ys : List X) (y : X) → slice_get (xs ++ y ∷ ys) (length xs) ≡ Some y
at_end [] ys y = refl
at_end (x ∷ xs) ys y = at_end xs ys y

none_pass : {X : Type 0} (test : X → Bool) (l : List X) → Each (λ x. test x ≡ false) l → filter test l ≡ []
none_pass test [] a = refl
none_pass test (x ∷ l) a = rw a.0 (none_pass test l a.1)

all_pass : {X : Type 0} (test : X → Bool) (l : List X) → Each (λ x. test x ≡ true) l → filter test l ≡ l
all_pass test [] a = refl
all_pass test (x ∷ l) a = rw a.0 (ap (λ y. x ∷ y) (all_pass test l a.1))

pass_if : {X : Type 0} (b : Bool) (x : X) (k l : List X) → cond b (x ∷ (k ++ l)) (k ++ l) ≡ cond b (x ∷ k) k ++ l
pass_if true x k l = refl
pass_if false x k l = refl

pass_both : {X : Type 0} (test : X → Bool) (k l : List X) → filter test (k ++ l) ≡ filter test k ++ filter test l
pass_both test [] l = refl
pass_both test (x ∷ k) l = ap (λ y. cond (test x) (x ∷ y) y) (pass_both test k l) ∙ pass_if (test x) x (filter test k) (filter test l)

each_to : {X : Type 0} (P Q : X → Type 0) → ((x : X) → P x → Q x) → (l : List X) → Each P l → Each Q l
each_to P Q f [] a = tt
each_to P Q f (x ∷ l) a = (f x a.0, each_to P Q f l a.1)

each_with : {X : Type 0} (P : X → Type 0) (k l : List X) → Each P k → Each P l → Each P (k ++ l)
each_with P [] l a b = b
each_with P (x ∷ k) l a b = (a.0, each_with P k l a.1 b)

-- HOSTS

abbrev HasHost : Option ℕ → tree_unit.Unit → Type 0
HasHost host u = u.host ≡ host

unit_host : {host : Option ℕ} {forms rest : List Form} {u : tree_unit.Unit} → IsUnit Target host forms u rest → HasHost host u
unit_host (nesting.subroutine a b c d) = refl
unit_host (nesting.function a b c) = refl

units_host : {host : Option ℕ} {forms rest : List Form} {us : List tree_unit.Unit} → AreUnits Target host forms us rest → Each (HasHost host) us
units_host nesting.no_more_units = tt
units_host (nesting.a_unit a b) = (unit_host a, units_host b)

contained_host : {number : ℕ} {forms rest : List Form} {us : List tree_unit.Unit} → Contained Target number forms us rest → Each (HasHost (Some number)) us
contained_host nesting.contains_none = tt
contained_host (nesting.contains a) = units_host a

module_host : {number : ℕ} {forms rest : List Form} {m : tree_module.Module} {us : List tree_unit.Unit} → IsModule Target number forms m us rest → Each (HasHost (Some number)) us
module_host (nesting.a_module a b c) = contained_host b

-- no unit of a module with this number or a later one
abbrev pub Below : ℕ → tree_unit.Unit → Type 0
Below m u = (k : ℕ) → m ≤ k → is_host k u.host ≡ false

-- no unit of a module before this number
abbrev Above : ℕ → tree_unit.Unit → Type 0
Above m u = (k : ℕ) → k < m → is_host k u.host ≡ false

other_host : (m k : ℕ) → m < k → nat_eq m k ≡ false
other_host m k h = grind (arith, nat_tests, h)

lower_host : (m k : ℕ) → k < m → nat_eq m k ≡ false
lower_host m k h = grind (arith, nat_tests, h)

host_below : (m : ℕ) (u : tree_unit.Unit) → HasHost (Some m) u → Below (suc m) u
host_below m u e k h = ap (is_host k) e ∙ other_host m k (omega (arith, h))

host_above : (m : ℕ) (u : tree_unit.Unit) → HasHost (Some m) u → Above m u
host_above m u e k h = ap (is_host k) e ∙ lower_host m k h

host_is : (m : ℕ) (u : tree_unit.Unit) → HasHost (Some m) u → is_host m u.host ≡ true
host_is m u e = ap (is_host m) e ∙ same m
  where
    same : (m : ℕ) → nat_eq m m ≡ true
    same m = grind (arith, nat_tests)

free_below : (m : ℕ) (u : tree_unit.Unit) → HasHost None u → Below m u
free_below m u e k h = ap (is_host k) e

free_above : (m : ℕ) (u : tree_unit.Unit) → HasHost None u → Above m u
free_above m u e k h = ap (is_host k) e

above_less : (m : ℕ) (u : tree_unit.Unit) → Above (suc m) u → Above m u
above_less m u a k h = a k (omega (arith, h))

below_more : (m : ℕ) (u : tree_unit.Unit) → Below m u → Below (suc m) u
below_more m u a k h = a k (omega (arith, h))

nests_above : {m u : ℕ} {forms : List Form} {ms : List tree_module.Module} {vs : List tree_unit.Unit} {order : List Item} → Nests_from Target m u forms ms vs order → Each (Above m) vs
nests_above nesting.no_more = tt
nests_above (nesting.module_first {m = m} {us = us} {vs = vs} a b) = each_with (Above m) us vs (each_to (HasHost (Some m)) (Above m) (host_above m) us (module_host a)) (each_to (Above (suc m)) (Above m) (above_less m) vs (nests_above b))
nests_above (nesting.unit_first {m = m} {a = a} b c) = (free_above m a (unit_host b), nests_above c)

-- the units of a module among all
units_of_module : (m : ℕ) (before us vs : List tree_unit.Unit) → Each (Below m) before → Each (HasHost (Some m)) us → Each (Above (suc m)) vs → units_of m (before ++ (us ++ vs)) ≡ us
units_of_module m before us vs a b c =
    let test : tree_unit.Unit → Bool = λ u. is_host m u.host in
    pass_both test before (us ++ vs)
    ∙ ap (λ x. x ++ filter test (us ++ vs)) (none_pass test before (each_to (Below m) (λ u. test u ≡ false) (λ u h. h m (omega arith)) before a))
    ∙ pass_both test us vs
    ∙ ap (λ x. x ++ filter test vs) (all_pass test us (each_to (HasHost (Some m)) (λ u. test u ≡ true) (host_is m) us b))
    ∙ ap (λ x. us ++ x) (none_pass test vs (each_to (Above (suc m)) (λ u. test u ≡ false) (λ u h. h m (omega arith)) vs c))
    ∙ append-nil us

module _ (file : ℕ) where
  abbrev AreLinesOf : List Row → List TokenLine → Type 0
  AreLinesOf rows lines = AreLinesIn file rows lines

  -- UNITS IN A ROW

  record UnitsAgain (host : Option ℕ) (us : List tree_unit.Unit) (rs : List Row) (ls : List TokenLine) : Type 0 where
    back : List TokenLine
    have : AreLinesOf rs back
    units : List tree_unit.Unit
    same : map p.plain_unit units ≡ map p.plain_unit us
    nest : (gs : List Form) → HaveForms back gs → (fs : List Form) × HaveForms ls fs × AreUnits Target host fs units gs

  abbrev units_rows : List tree_unit.Unit → ℕ → List Row → List Row
  units_rows us n rs = all_rows (map unit_rows us) n rs

  units_again : (host : Option ℕ) (us : List tree_unit.Unit) → Each (UnitLaw file host) us → (n : ℕ) (rs : List Row) (ls : List TokenLine) → AreLinesOf (units_rows us n rs) ls → UnitsAgain host us rs ls
  units_again host [] a n rs ls h = record { back = ls; have = h; units = []; same = refl; nest = λ gs k. (gs, k, nesting.no_more_units) }
  units_again host (u ∷ us) a n rs ls h =
      let v = a.0.again n (units_rows us n rs) ls h in
      let w = units_again host us a.1 n rs v.back v.have in
      record {
        back = w.back;
        have = w.have;
        units = v.unit ∷ w.units;
        same = ap (λ x. x ∷ map p.plain_unit w.units) v.same ∙ ap (λ x. p.plain_unit u ∷ x) w.same;
        nest = λ gs k.
            let x = w.nest gs k in
            let y = v.nest x.0 x.1 in (y.0, y.1, nesting.a_unit y.2 x.2);
      }

  units_stand : (host : Option ℕ) (us : List tree_unit.Unit) → Each (UnitLaw file host) us → (n : ℕ) (rs : List Row) → n ≤ 40 → AreReadable rs → AreReadable (units_rows us n rs)
  units_stand host [] a n rs h r = r
  units_stand host (u ∷ us) a n rs h r = a.0.stands n (units_rows us n rs) h (units_stand host us a.1 n rs h r)

  units_law : {host : Option ℕ} {forms rest : List Form} {us : List tree_unit.Unit} → AreUnits Target host forms us rest → Each FormFits forms → Each (UnitLaw file host) us × Each FormFits rest
  units_law nesting.no_more_units r = (tt, r)
  units_law (nesting.a_unit a b) r =
      let u = law_unit file a r in
      let v = units_law b u.1 in ((u.0, v.0), v.1)

  -- MODULES

  record ContainedAgain (number : ℕ) (us : List tree_unit.Unit) (rs : List Row) (ls : List TokenLine) : Type 0 where
    back : List TokenLine
    have : AreLinesOf rs back
    units : List tree_unit.Unit
    same : map p.plain_unit units ≡ map p.plain_unit us
    nest : (gs : List Form) → HaveForms back gs → (fs : List Form) × HaveForms ls fs × Contained Target number fs units gs

  contains_over : (number : ℕ) (at : Place) (y : Statement-F Statement) (us : List tree_unit.Unit) (inside gs : List Form) → SameStatement y Statement-F.Contains → AreUnits Target (Some number) inside us gs → Contained Target number (Says at y ∷ inside) us gs
  contains_over number at y us inside gs same_contains a = nesting.contains a

  contained_again : (number : ℕ) (us : List tree_unit.Unit) → Each (UnitLaw file (Some number)) us → (n : ℕ) (rs : List Row) (ls : List TokenLine) → AreLinesOf (contained_rows us n rs) ls → ContainedAgain number us rs ls
  contained_again number [] a n rs ls h = record { back = ls; have = h; units = []; same = refl; nest = λ gs k. (gs, k, nesting.contains_none) }
  contained_again number (u ∷ us) a n rs ls h =
      let s = said_line file Statement-F.Contains tt tt n (name_pieces (codes "contains") false []) refl (units_rows (u ∷ us) (deeper n) rs) ls h in
      let v = units_again (Some number) (u ∷ us) a (deeper n) rs s.others s.have in
      record {
        back = v.back;
        have = v.have;
        units = v.units;
        same = v.same;
        nest = λ gs k. let x = v.nest gs k in (Says s.at s.said ∷ x.0, form_line file ls s.others s.first s.is s.has x.1, contains_over number s.at s.said v.units x.0 gs s.same x.2);
      }

  contained_stands : (number : ℕ) (us : List tree_unit.Unit) → Each (UnitLaw file (Some number)) us → (n : ℕ) (rs : List Row) → n ≤ 40 → AreReadable rs → AreReadable (contained_rows us n rs)
  contained_stands number [] a n rs h r = r
  contained_stands number (u ∷ us) a n rs h r = said_stands file Statement-F.Contains tt tt n (units_rows (u ∷ us) (deeper n) rs) h (units_stand (Some number) (u ∷ us) a (deeper n) rs (deeper_small file n) r)

  contained_law : {number : ℕ} {forms rest : List Form} {us : List tree_unit.Unit} → Contained Target number forms us rest → Each FormFits forms → Each (UnitLaw file (Some number)) us × Each FormFits rest
  contained_law nesting.contains_none r = (tt, r)
  contained_law (nesting.contains a) r = units_law a r.1

  record ModuleAgain (number : ℕ) (m : tree_module.Module) (us : List tree_unit.Unit) (rs : List Row) (ls : List TokenLine) : Type 0 where
    back : List TokenLine
    have : AreLinesOf rs back
    module_read : tree_module.Module
    units : List tree_unit.Unit
    same : p.plain_module module_read ≡ p.plain_module m
    same_units : map p.plain_unit units ≡ map p.plain_unit us
    nest : (gs : List Form) → HaveForms back gs → (fs : List Form) × HaveForms ls fs × IsModule Target number fs module_read units gs

  record ModuleLaw (number : ℕ) (m : tree_module.Module) (us : List tree_unit.Unit) : Type 0 where
    again : (n : ℕ) (rs : List Row) (ls : List TokenLine) → AreLinesOf (module_rows us m n rs) ls → ModuleAgain number m us rs ls
    stands : (n : ℕ) (rs : List Row) → n ≤ 40 → AreReadable rs → AreReadable (module_rows us m n rs)

  record NameTest (n : Named) (y : Statement-F Statement) : Type 0 where
    name_of : Named
    is : y ≡ Statement-F.Module name_of
    same : name_of.name ≡ n.name

  name_test : (n : Named) (y : Statement-F Statement) → SameStatement y (Statement-F.Module n) → NameTest n y
  name_test n y (same_module {a = a} e) = record { name_of = a; is = refl; same = e }

  module_at : (number : ℕ) (name : Named) (lines : List Use) (decls : List Decl) (us : List tree_unit.Unit) → Free name.name → Each UseFits lines → Each DeclFit decls → Each (UnitLaw file (Some number)) us →
      ModuleLaw number (record { name = name.name; at = name.at; uses = lines; decls = decls }) us
  module_at number name lines decls us a c d l = record {
    again = λ n rs ls h.
        let ends : List Row = row n (end_pieces (codes "module") name.name false []) rs in
        let inner : List Row = contained_rows us n ends in
        let s = said_line file (Statement-F.Module name) a tt n (pair (codes "module") name.name false []) refl (head_rows file lines None decls [] (deeper n) inner) ls h in
        let g = head_again file lines None decls [] c d no_mark (deeper n) inner s.others s.have in
        let v = contained_again number us l n ends g.back g.have in
        let e = said_line file (Statement-F.End (Some end_word.Module) (Some name.name)) a tt n (end_pieces (codes "module") name.name false []) refl rs v.back v.have in
        let t = name_test name s.said s.same in
        let f = end_test file end_word.Module name.name e.said e.same in
        let m : tree_module.Module = record { name = t.name_of.name; at = t.name_of.at; uses = g.uses_read; decls = g.decls_read } in
        record {
          back = e.others;
          have = e.have;
          module_read = m;
          units = v.units;
          same = ap (λ x. record { name = x; uses = map p.plain_use g.uses_read; decls = map p.plain_decl g.decls_read }) t.same
              ∙ ap (λ x. record { name = name.name; uses = x; decls = map p.plain_decl g.decls_read }) g.same_uses
              ∙ ap (λ x. record { name = name.name; uses = map p.plain_use lines; decls = x }) g.same_decls;
          same_units = v.same;
          nest = λ gs k.
              let x = v.nest (Says e.at e.said ∷ gs) (form_line file v.back e.others e.first e.is e.has k) in
              let y = g.nest x.0 x.1 in (
                Says s.at s.said ∷ y.0,
                form_line file ls s.others s.first s.is s.has y.1,
                subst (λ q. IsModule Target number (Says s.at q ∷ y.0) m v.units gs) (sym t.is) (nesting.a_module (subst (λ z. nesting.Head-part Target y.0 g.uses_read g.decls_read [] z x.0) (no_marks g.marks_read g.same_marks) y.2) x.2 (ends_as file end_word.Module name.name t.name_of.name e.said e.at s.at f t.same e.in_file s.in_file)),
              );
        };
    stands = λ n rs h r.
        let ends : List Row = row n (end_pieces (codes "module") name.name false []) rs in
        let inner : List Row = contained_rows us n ends in
        said_stands file (Statement-F.Module name) a tt n (head_rows file lines None decls [] (deeper n) inner) h
        (head_stands file lines None decls [] c d no_mark (deeper n) inner (deeper_small file n) (contained_stands number us l n ends h (said_stands file (Statement-F.End (Some end_word.Module) (Some name.name)) a tt n rs h r)));
  }

  law_module : {number : ℕ} {forms rest : List Form} {m : tree_module.Module} {us : List tree_unit.Unit} → IsModule Target number forms m us rest → Each FormFits forms → ModuleLaw number m us × Each FormFits rest
  law_module {number = number} (nesting.a_module {name = name} {lines = lines} {decls = decls} {us = us} h c e) r =
      let f = head_fit h r.1 in
      let u = contained_law c f.left in (module_at number name lines decls us r.0 f.uses f.declared u.0, u.1.1)

  -- FILES

  pub record FileAgain (m u : ℕ) (ms : List tree_module.Module) (vs : List tree_unit.Unit) (order : List Item) (ls : List TokenLine) : Type 0 where
    pub forms : List Form
    pub modules : List tree_module.Module
    pub units : List tree_unit.Unit
    pub have : HaveForms ls forms
    pub nest : Nests_from Target m u forms modules units order
    pub same_modules : map p.plain_module modules ≡ map p.plain_module ms
    pub same_units : map p.plain_unit units ≡ map p.plain_unit vs

  -- the file whose front this is, before the rest
  pub record Around (m u : ℕ) (ms : List tree_module.Module) (vs : List tree_unit.Unit) (whole : File) : Type 0 where
    pub modules_before : List tree_module.Module
    pub units_before : List tree_unit.Unit
    pub count_modules : length modules_before ≡ m
    pub count_units : length units_before ≡ u
    pub below : Each (Below m) units_before
    pub modules_are : whole.modules ≡ modules_before ++ ms
    pub units_are : whole.units ≡ units_before ++ vs

  abbrev pub order_rows : File → List Item → List Row
  order_rows whole order = all_rows (map (item_rows whole) order) 0 []

  pub record FileLaw (m u : ℕ) (ms : List tree_module.Module) (vs : List tree_unit.Unit) (order : List Item) : Type 0 where
    pub again : (whole : File) → Around m u ms vs whole → (ls : List TokenLine) → AreLinesOf (order_rows whole order) ls → FileAgain m u ms vs order ls
    pub stands : (whole : File) → Around m u ms vs whole → AreReadable (order_rows whole order)

  module_here : (m u : ℕ) (a : tree_module.Module) (ms : List tree_module.Module) (us vs : List tree_unit.Unit) (whole : File) → Around m u (a ∷ ms) (us ++ vs) whole → Each (HasHost (Some m)) us → Each (Above (suc m)) vs → (X : List Row) →
      item_rows whole (item.Module m) 0 X ≡ module_rows us a 0 X
  module_here m u a ms us vs whole r h k X =
      let units : units_of m whole.units ≡ us = ap (units_of m) r.units_are ∙ units_of_module m r.units_before us vs r.below h k in
      let here : slice_get whole.modules m ≡ Some a = ap (λ l. slice_get l m) r.modules_are ∙ ap (slice_get (r.modules_before ++ a ∷ ms)) (sym r.count_modules) ∙ at_end r.modules_before ms a in
      ap (λ l. listed_module l (slice_get whole.modules m) 0 X) units ∙ ap (λ o. listed_module us o 0 X) here

  unit_here : (m u : ℕ) (ms : List tree_module.Module) (a : tree_unit.Unit) (vs : List tree_unit.Unit) (whole : File) → Around m u ms (a ∷ vs) whole → (X : List Row) → item_rows whole (item.Unit u) 0 X ≡ unit_rows a 0 X
  unit_here m u ms a vs whole r X =
      let here : slice_get whole.units u ≡ Some a = ap (λ l. slice_get l u) r.units_are ∙ ap (slice_get (r.units_before ++ a ∷ vs)) (sym r.count_units) ∙ at_end r.units_before vs a in
      ap (λ o. listed_unit o 0 X) here

  past_module : (m u : ℕ) (a : tree_module.Module) (ms : List tree_module.Module) (us vs : List tree_unit.Unit) (whole : File) → Around m u (a ∷ ms) (us ++ vs) whole → Each (HasHost (Some m)) us → Around (suc m) (u + length us) ms vs whole
  past_module m u a ms us vs whole r h = record {
    modules_before = r.modules_before ++ a ∷ [];
    units_before = r.units_before ++ us;
    count_modules = length-append r.modules_before (a ∷ []) ∙ ap (λ n. n + 1) r.count_modules ∙ omega arith;
    count_units = length-append r.units_before us ∙ ap (λ n. n + length us) r.count_units;
    below = each_with (Below (suc m)) r.units_before us (each_to (Below m) (Below (suc m)) (below_more m) r.units_before r.below) (each_to (HasHost (Some m)) (Below (suc m)) (host_below m) us h);
    modules_are = r.modules_are ∙ sym (append_assoc r.modules_before (a ∷ []) ms);
    units_are = r.units_are ∙ sym (append_assoc r.units_before us vs);
  }

  past_unit : (m u : ℕ) (ms : List tree_module.Module) (a : tree_unit.Unit) (vs : List tree_unit.Unit) (whole : File) → Around m u ms (a ∷ vs) whole → HasHost None a → Around m (suc u) ms vs whole
  past_unit m u ms a vs whole r h = record {
    modules_before = r.modules_before;
    units_before = r.units_before ++ a ∷ [];
    count_modules = r.count_modules;
    count_units = length-append r.units_before (a ∷ []) ∙ ap (λ n. n + 1) r.count_units ∙ omega arith;
    below = each_with (Below m) r.units_before (a ∷ []) r.below (free_below m a h, tt);
    modules_are = r.modules_are;
    units_are = r.units_are ∙ sym (append_assoc r.units_before (a ∷ []) vs);
  }

  same_length : (k l : List tree_unit.Unit) → map p.plain_unit k ≡ map p.plain_unit l → length k ≡ length l
  same_length k l e = sym (mapped k) ∙ ap length e ∙ mapped l
    where
      mapped : (k : List tree_unit.Unit) → length (map p.plain_unit k) ≡ length k
      mapped [] = refl
      mapped (u ∷ k) = ap suc (mapped k)

  pub law_file : {m u : ℕ} {forms : List Form} {ms : List tree_module.Module} {vs : List tree_unit.Unit} {order : List Item} → Nests_from Target m u forms ms vs order → Each FormFits forms → FileLaw m u ms vs order
  law_file {m = m} {u = u} nesting.no_more r = record {
    again = λ whole a ls h. record { forms = []; modules = []; units = []; have = no_more_lines file ls h; nest = nesting.no_more; same_modules = refl; same_units = refl };
    stands = λ whole a. tt;
  }
  law_file (nesting.module_first {m = m} {u = u} {a = a} {ms = ms} {us = us} {vs = vs} {order = order} b c) r =
      let l = law_module b r in
      let n = law_file c l.1 in
      let hosts = module_host b in
      let above = nests_above c in
      record {
        again = λ whole o ls h.
            let X : List Row = order_rows whole order in
            let v = l.0.again 0 X ls (subst (λ q. AreLinesOf q ls) (module_here m u a ms us vs whole o hosts above X) h) in
            let w = n.again whole (past_module m u a ms us vs whole o hosts) v.back v.have in
            let x = v.nest w.forms w.have in
            record {
              forms = x.0;
              modules = v.module_read ∷ w.modules;
              units = v.units ++ w.units;
              have = x.1;
              nest = nesting.module_first x.2 (subst (λ q. Nests_from Target (suc m) (u + q) w.forms w.modules w.units order) (sym (same_length v.units us v.same_units)) w.nest);
              same_modules = ap (λ q. q ∷ map p.plain_module w.modules) v.same ∙ ap (λ q. p.plain_module a ∷ q) w.same_modules;
              same_units = map-append p.plain_unit v.units w.units ∙ ap (λ q. q ++ map p.plain_unit w.units) v.same_units ∙ ap (λ q. map p.plain_unit us ++ q) w.same_units ∙ sym (map-append p.plain_unit us vs);
            };
        stands = λ whole o.
            let X : List Row = order_rows whole order in
            subst AreReadable (sym (module_here m u a ms us vs whole o hosts above X)) (l.0.stands 0 X (omega arith) (n.stands whole (past_module m u a ms us vs whole o hosts)));
      }
  law_file (nesting.unit_first {m = m} {u = u} {ms = ms} {a = a} {vs = vs} {order = order} b c) r =
      let l = law_unit file b r in
      let n = law_file c l.1 in
      let host = unit_host b in
      record {
        again = λ whole o ls h.
            let X : List Row = order_rows whole order in
            let v = l.0.again 0 X ls (subst (λ q. AreLinesOf q ls) (unit_here m u ms a vs whole o X) h) in
            let w = n.again whole (past_unit m u ms a vs whole o host) v.back v.have in
            let x = v.nest w.forms w.have in
            record {
              forms = x.0;
              modules = w.modules;
              units = v.unit ∷ w.units;
              have = x.1;
              nest = nesting.unit_first x.2 w.nest;
              same_modules = w.same_modules;
              same_units = ap (λ q. q ∷ map p.plain_unit w.units) v.same ∙ ap (λ q. p.plain_unit a ∷ q) w.same_units;
            };
        stands = λ whole o.
            let X : List Row = order_rows whole order in
            subst AreReadable (sym (unit_here m u ms a vs whole o X)) (l.0.stands 0 X (omega arith) (n.stands whole (past_unit m u ms a vs whole o host)));
      }
