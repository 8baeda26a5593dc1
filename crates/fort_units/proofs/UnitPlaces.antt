-- All places of the program that forms nest into are places of the forms.
use Rattle.std.proofs.Common.{ℕ, List, ◌++◌, map, Option, None, Some, sym, subst}
use Rattle.std.specs.List.{AllByRecursion}
use Rattle.fort_arith.specs.declared.kind.Kind.{Kind}
use Rattle.fort_tree.specs.declared.choice.Mode.{Mode}
use Rattle.fort_tree.specs.declared.place.Place.{Place}
use Rattle.fort_tree.specs.declared.stmt.Directive.{Directive}
use Rattle.fort_tree.specs.declared.stmt.Named.{Named}
use Rattle.fort_tree.specs.declared.unit.Decl.{Decl}
use Rattle.fort_tree.specs.declared.unit.File.{File}
use Rattle.fort_tree.specs.declared.unit.Item.{Item}
use Rattle.fort_tree.specs.declared.unit.Module.{Module}
use Rattle.fort_tree.specs.declared.unit.Unit as unit
use Rattle.fort_tree.specs.declared.unit.Use.{Use}
use Rattle.sound_programs.specs.Forms.{Form}
use Rattle.sound_programs.specs.Nesting.{Uses, no_more_uses, uses, directs_use, Implicit, unsaid, said, Declares, no_more_decls, declares, directs_decl, Marked, unmarked, marked, Head-part, result_or_name, prefix_decl, IsUnit, subroutine, function, AreUnits, no_more_units, a_unit, Contained, contains_none, contains, IsModule, a_module, Nests_from, no_more, module_first, unit_first, Nests}
use Rattle.sound_programs.specs.Placing.{placed_directive, placed_decl, placed_unit, placed_module, placed}
use Rattle.sound_programs.specs.Within.{InOption, AllInDirective, AllInDecl, AtNamed, AllInUse, AllInUnit, AllInModule, AllPlaces}
use Rattle.fort_units.proofs.ExpressionPlaces.{all_map, all_join}
use Rattle.fort_units.proofs.StatementPlaces.{AtDecl}
use Rattle.fort_units.proofs.BodyPlaces.{AtDirective, AtForms, Leaves, body_at}

module _ (P : Place → Type 0) where
  abbrev AtUses : List Use → Type 0
  AtUses lines = AllByRecursion (AllInUse P) lines

  abbrev AtDecls : List Decl → Type 0
  AtDecls decls = AllByRecursion (AtDecl P) decls

  abbrev AtMarks : List Directive → Type 0
  AtMarks marks = AllByRecursion (AtDirective P) marks

  abbrev AtNames : List Named → Type 0
  AtNames names = AllByRecursion (AtNamed P) names

  abbrev AtUnit : unit.Unit → Type 0
  AtUnit u = AllInUnit P (placed_unit u)

  abbrev AtUnits : List unit.Unit → Type 0
  AtUnits us = AllByRecursion AtUnit us

  abbrev AtModule : Module → Type 0
  AtModule m = AllInModule P (placed_module m)

  -- ---- before the first statement

  uses_at : (mode : Mode) {forms rest : List Form} {lines : List Use} {marks : List Directive} → AtForms P forms → Uses mode forms lines marks rest → Leaves P (AtUses lines × AtMarks marks) rest
  uses_at mode h no_more_uses = record { it = (tt, tt); behind = h }
  uses_at mode h (uses a) = let r = uses_at mode h.1 a in record { it = ((h.0.1, r.it.0), r.it.1); behind = r.behind }
  uses_at mode h (directs_use c a) = let r = uses_at mode h.1 a in record { it = (r.it.0, (h.0, r.it.1)); behind = r.behind }

  implicit_at : (mode : Mode) {forms rest : List Form} → AtForms P forms → Implicit mode forms rest → AtForms P rest
  implicit_at mode h unsaid = h
  implicit_at mode h said = h.1

  declares_at : (mode : Mode) {forms rest : List Form} {decls : List Decl} {marks : List Directive} → AtForms P forms → Declares mode forms decls marks rest →
      Leaves P (AtDecls decls × AtMarks marks) rest
  declares_at mode h no_more_decls = record { it = (tt, tt); behind = h }
  declares_at mode h (declares {line = line} {decls = decls} c a) =
      let r = declares_at mode h.1 a in record { it = (all_join (AtDecl P) line decls h.0.1 r.it.0, r.it.1); behind = r.behind }
  declares_at mode h (directs_decl c a) = let r = declares_at mode h.1 a in record { it = (r.it.0, (h.0, r.it.1)); behind = r.behind }

  marked_at : (mode : Mode) {forms rest : List Form} {marks : List Directive} → AtForms P forms → Marked mode forms marks rest → Leaves P (AtMarks marks) rest
  marked_at mode h unmarked = record { it = tt; behind = h }
  marked_at mode h (marked c d) = record { it = (h.0, tt); behind = h.1 }

  record HeadAt (used : List Use) (declared : List Decl) (paired marks : List Directive) (rest : List Form) : Type 0 where
    lines : AtUses used
    decls : AtDecls declared
    pair : AtMarks paired
    mark : AtMarks marks
    behind : AtForms P rest

  head_at : (mode : Mode) {forms rest : List Form} {lines : List Use} {decls : List Decl} {pair mark : List Directive} → AtForms P forms → Head-part mode forms lines decls pair mark rest →
      HeadAt lines decls pair mark rest
  head_at mode h a =
      let u = uses_at mode h a.used in let d = declares_at mode (implicit_at mode u.behind a.implicit) a.declared in let m = marked_at mode d.behind a.marked in
      record {
        lines = u.it.0;
        decls = d.it.0;
        pair = subst AtMarks (sym a.paired) (all_join (AtDirective P) a.among_uses a.among_decls u.it.1 d.it.1);
        mark = m.it;
        behind = m.behind;
      }

  -- ---- units

  decls_placed : (decls : List Decl) → AtDecls decls → AllByRecursion (AllInDecl P) (map placed_decl decls)
  decls_placed decls h = all_map (AllInDecl P) placed_decl decls h

  marks_placed : (marks : List Directive) → AtMarks marks → AllByRecursion (AllInDirective P) (map placed_directive marks)
  marks_placed marks h = all_map (AllInDirective P) placed_directive marks h

  module _ (mode : Mode) where
    named_result : (name : Named) (result : Option Named) → P name.at → InOption (AtNamed P) result → P (result_or_name mode name result).at
    named_result name None h k = h
    named_result name (Some r) h k = k

    prefix_at : (result : Named) (prefix : Option (Kind × Place)) → InOption (λ (p : Kind × Place). P p.1) prefix → AtDecls (prefix_decl mode result prefix)
    prefix_at result None h = tt
    prefix_at result (Some p) h = ((h, (tt, tt)), tt)

    unit_at : {host : Option ℕ} {forms rest : List Form} {u : unit.Unit} → AtForms P forms → IsUnit mode host forms u rest → Leaves P (AtUnit u) rest
    unit_at h (subroutine {decls = decls} {pair = pair} {mark = mark} a p b e) =
        let k = head_at mode h.1 a in let s = body_at P mode k.behind b in
        record {
          it = record {
            at = h.0.1.0;
            dummies = h.0.1.1;
            result = tt;
            uses = k.lines;
            decls = decls_placed decls k.decls;
            marks = marks_placed (pair ++ mark) (all_join (AtDirective P) pair mark k.pair k.mark);
            body = s.it;
          };
          behind = s.behind.1;
        }
    unit_at h (function {prefix = prefix} {name = name} {result = result} {decls = decls} {mark = mark} a b e) =
        let k = head_at mode h.1 a in let s = body_at P mode k.behind b in
        record {
          it = record {
            at = h.0.1.1.0;
            dummies = h.0.1.1.1.0;
            result = named_result name result h.0.1.1.0 h.0.1.1.1.1;
            uses = k.lines;
            decls =
                decls_placed (prefix_decl mode (result_or_name mode name result) prefix ++ decls)
                (all_join (AtDecl P) (prefix_decl mode (result_or_name mode name result) prefix) decls (prefix_at (result_or_name mode name result) prefix h.0.1.0) k.decls);
            marks = marks_placed mark k.mark;
            body = s.it;
          };
          behind = s.behind.1;
        }

    units_at : {host : Option ℕ} {forms rest : List Form} {us : List unit.Unit} → AtForms P forms → AreUnits mode host forms us rest → Leaves P (AtUnits us) rest
    units_at h no_more_units = record { it = tt; behind = h }
    units_at h (a_unit a b) = let u = unit_at h a in let us = units_at u.behind b in record { it = (u.it, us.it); behind = us.behind }

    contained_at : {number : ℕ} {forms rest : List Form} {us : List unit.Unit} → AtForms P forms → Contained mode number forms us rest → Leaves P (AtUnits us) rest
    contained_at h contains_none = record { it = tt; behind = h }
    contained_at h (contains a) = units_at h.1 a

    module_at : {number : ℕ} {forms rest : List Form} {m : Module} {us : List unit.Unit} → AtForms P forms → IsModule mode number forms m us rest → Leaves P (AtModule m × AtUnits us) rest
    module_at h (a_module {decls = decls} a b e) =
        let k = head_at mode h.1 a in let us = contained_at k.behind b in
        record { it = (record { at = h.0.1; uses = k.lines; decls = decls_placed decls k.decls }, us.it); behind = us.behind.1 }

    -- ---- the file

    nests_from_at : {m u : ℕ} {forms : List Form} {ms : List Module} {us : List unit.Unit} {order : List Item} → AtForms P forms → Nests_from mode m u forms ms us order →
        AllByRecursion AtModule ms × AtUnits us
    nests_from_at h no_more = (tt, tt)
    nests_from_at h (module_first {us = us} {vs = vs} a b) =
        let k = module_at h a in let r = nests_from_at k.behind b in ((k.it.0, r.0), all_join AtUnit us vs k.it.1 r.1)
    nests_from_at h (unit_first a b) = let k = unit_at h a in let r = nests_from_at k.behind b in (r.0, (k.it, r.1))

    pub nests_at : (forms : List Form) (file : File) → AtForms P forms → Nests mode forms file → AllPlaces P (placed file)
    nests_at forms file h a =
        let r = nests_from_at h a in (all_map (AllInModule P) placed_module file.modules r.0, all_map (AllInUnit P) placed_unit file.units r.1)
