-- A unit without directives can be written with its declarations one by one, in groups.
use Rattle.std.proofs.Common.{◌≡◌, ℕ, List, [], ◌∷◌, ◌++◌, Option, None, Some, Bool, true, false, cond, map, refl, sym, ap, ◌∙◌, subst}
use Rattle.std.specs.Prelude.{IsTrue, not, ◌&&◌, is_some, if◌then◌else◌}
use Rattle.std.specs.List.{AllByRecursion, list_all, filter}
use Rattle.std.proofs.lemmas.Bool.{and_from, and_parts}
use Rattle.fort_arith.specs.declared.kind.Kind.{Kind}
use Rattle.fort_tree.specs.declared.choice.Mode.{Mode}
use Rattle.fort_tree.specs.declared.choice.Mode.TheVariants.{Target}
use Rattle.fort_tree.specs.declared.place.Place.{Place}
use Rattle.fort_tree.specs.declared.statement.EndWord.{EndWord}
use Rattle.fort_tree.specs.declared.statement.Statement.TheOpen.{Statement-F}
use Rattle.fort_tree.specs.declared.stmt.Directive.{Directive}
use Rattle.fort_tree.specs.declared.stmt.Named.{Named}
use Rattle.fort_tree.specs.declared.stmt.Stmt.{Stmt}
use Rattle.fort_tree.specs.declared.unit.Decl.{Decl}
use Rattle.fort_tree.specs.declared.unit.Unit as tree_unit
use Rattle.fort_tree.specs.declared.unit.Use.{Use}
use Rattle.claw_meaning.specs.Interface.{written_decls, no_widening, id_decl, integer_decl, is_constant_decl, is_shared_decl, is_other_decl, is_fresh, wide_decl}
use Rattle.claw_meaning.specs.Plain.{plain_decl, plain_directive, plain_stmts, plain_unit, plain_use}
use Rattle.claw_meaning.specs.Syntax as plain
use Rattle.claw_meaning.specs.Units.{directive_of, is_word_define, is_word_parallelize}
use Rattle.sound_programs.specs.Forms.{Form, Says, is_entity}
use Rattle.sound_programs.specs.Nesting as nesting
use Rattle.sound_programs.specs.Nesting.{Uses, Implicit, Declares, Marked, Head-part, Ends, IsUnit, in_unit}
use Rattle.plain_units.specs.Regrouped.{regrouped}
use Rattle.plain_units.specs.Undirected.{IsUndirected}
use Rattle.layout_reading.proofs.Elements.{each_append, each_mapped, first_none, second_none, some_none}
use Rattle.written_programs.proofs.NoDirectives.{all_undirected}
use Rattle.written_programs.specs.Writable.{CanBeWritten}
use Rattle.written_programs.proofs.BodiesWritten.{BodyAgain, body_again}
use Rattle.written_programs.proofs.DeclaredAlone.{IsAlone}
use Rattle.written_programs.proofs.HeaderForms.{CanDeclare, CanDeclareResult, result_named, say_alone, said_otherwise, say_end, end_stands}
use Rattle.written_programs.proofs.SaidForms.{IsSaid, AreSaid, Lined, no_lines, place_said, say}

-- ---- Lists

map_none : {A B : Type 0} (g : A → B) (l : List A) → map g l ≡ [] → l ≡ []
map_none g [] e = refl
map_none g (x ∷ l) e = absurd cc

each_cond : {A : Type 0} (P : A → Type 0) (b : Bool) (x : A) (xs : List A) → P x → AllByRecursion P xs → AllByRecursion P (cond b (x ∷ xs) xs)
each_cond P true x xs h k = (h, k)
each_cond P false x xs h k = k

each_filter : {A : Type 0} (P : A → Type 0) (test : A → Bool) (xs : List A) → AllByRecursion P xs → AllByRecursion P (filter test xs)
each_filter P test [] h = tt
each_filter P test (x ∷ xs) h = each_cond P (test x) x (filter test xs) h.0 (each_filter P test xs h.1)

-- ---- Grouped declarations

no_dimension : (u : plain.Unit) → u.marks ≡ [] → id_decl u no_widening ≡ []
no_dimension u e = ap (λ (m : List plain.Directive). if (is_some (directive_of is_word_define m) && is_some (directive_of is_word_parallelize m)) then integer_decl [] None ∷ [] else []) e

-- what holds of each declaration holds of each in its group
pub each_written : (P : plain.Decl → Type 0) (u : plain.Unit) → u.marks ≡ [] → AllByRecursion P u.decls → AllByRecursion P (written_decls u no_widening)
each_written P u e h =
    let ds = u.decls in
    let constants = filter is_constant_decl ds in
    let shared = filter (is_shared_decl u) ds in
    let own = filter (λ d. is_other_decl u d && not (is_fresh d.name)) ds in
    let fresh = filter (λ d. is_other_decl u d && is_fresh d.name) ds in
    each_append P constants _ (each_filter P is_constant_decl ds h)
    (each_append P (shared ++ []) _ (each_append P shared [] (each_filter P (is_shared_decl u) ds h) tt)
    (each_append P (map (wide_decl no_widening) own ++ map (wide_decl no_widening) fresh) _
    (each_append P (map (wide_decl no_widening) own) (map (wide_decl no_widening) fresh)
    (each_mapped P P (wide_decl no_widening) own (λ d k. k) (each_filter P _ ds h))
    (each_mapped P P (wide_decl no_widening) fresh (λ d k. k) (each_filter P _ ds h)))
    (subst (AllByRecursion P) (sym (no_dimension u e)) tt)))

-- ---- Headers in a target text

record DeclsAgain (ds : List plain.Decl) (rest : List Form) : Type 0 where
  decls : List Decl
  forms : List Form
  nest : Declares Target forms decls [] rest
  lined : Lined rest → Lined forms
  same : map plain_decl decls ≡ ds

decls_again : (ds : List plain.Decl) → AllByRecursion CanDeclare ds → (t : List Form) → DeclsAgain ds t
decls_again [] h t = record { decls = []; forms = t; nest = nesting.no_more_decls; lined = λ l. l; same = refl }
decls_again (d ∷ ds) h t =
    let c = h.0 in
    let s = say_alone c.tree c.alone in
    let m = decls_again ds h.1 t in
    record {
      decls = c.tree ∷ m.decls;
      forms = Says (place_said s) (Statement-F.Declare (c.tree ∷ [])) ∷ m.forms;
      nest = nesting.declares (and_from (is_entity c.tree) true c.entity refl) m.nest;
      lined = λ l. say s (m.lined l);
      same = ap (λ x. x ∷ map plain_decl m.decls) c.same ∙ ap (λ x. d ∷ x) m.same;
    }

pub record UsesAgain (lines : List Use) (rest : List Form) : Type 0 where
  pub forms : List Form
  pub nest : Uses Target forms lines [] rest
  pub lined : Lined rest → Lined forms

use_again : {line : Use} {lines : List Use} {rest : List Form} → IsSaid (Statement-F.Using line) → UsesAgain lines rest → UsesAgain (line ∷ lines) rest
use_again {line = line} s u = record { forms = Says (place_said s) (Statement-F.Using line) ∷ u.forms; nest = nesting.uses u.nest; lined = λ l. say s (u.lined l) }

-- declarations line by line, as they are
pub record LinesAgain (decls : List Decl) (rest : List Form) : Type 0 where
  pub forms : List Form
  pub nest : Declares Target forms decls [] rest
  pub lined : Lined rest → Lined forms

line_again : {line decls : List Decl} {rest : List Form} → IsTrue (list_all is_entity line) → IsSaid (Statement-F.Declare line) → LinesAgain decls rest → LinesAgain (line ++ decls) rest
line_again {line = line} e s d = record { forms = Says (place_said s) (Statement-F.Declare line) ∷ d.forms; nest = nesting.declares e d.nest; lined = λ l. say s (d.lined l) }

line_alone : (line decls : List Decl) → AllByRecursion IsAlone line → IsTrue (list_all is_entity line) → AllByRecursion CanDeclare (map plain_decl decls) → AllByRecursion CanDeclare (map plain_decl (line ++ decls))
line_alone [] decls a e h = h
line_alone (d ∷ line) decls a e h =
    let parts = and_parts (is_entity d) (list_all is_entity line) e in
    (record { tree = d; alone = a.0; entity = parts.0; same = refl }, line_alone line decls a.1 parts.1 h)

-- ---- Headers of the source

module _ (mode : Mode) where
  uses_again : {fs rest : List Form} {lines : List Use} {marks : List Directive} → Uses mode fs lines marks rest → marks ≡ [] → AreSaid fs → AreSaid rest × ((t : List Form) → UsesAgain lines t)
  uses_again nesting.no_more_uses e h = (h, λ t. record { forms = t; nest = nesting.no_more_uses; lined = λ l. l })
  uses_again (nesting.uses u) e h = let a = uses_again u e h.1 in (a.0, λ t. use_again h.0 (a.1 t))
  uses_again (nesting.directs_use w u) e h = absurd (some_none e)

  implicit_said : {fs rest : List Form} → Implicit mode fs rest → AreSaid fs → AreSaid rest
  implicit_said nesting.unsaid h = h
  implicit_said nesting.said h = h.1

  record Declared (decls : List Decl) (rest : List Form) : Type 0 where
    behind : AreSaid rest
    alone : AllByRecursion CanDeclare (map plain_decl decls)
    again : (t : List Form) → LinesAgain decls t

  declared_again : {fs rest : List Form} {decls : List Decl} {marks : List Directive} → Declares mode fs decls marks rest → marks ≡ [] → AreSaid fs → Declared decls rest
  declared_again nesting.no_more_decls e h = record { behind = h; alone = tt; again = λ t. record { forms = t; nest = nesting.no_more_decls; lined = λ l. l } }
  declared_again (nesting.declares {line = line} {decls = decls} w d) e h =
      let a = declared_again d e h.1 in
      record { behind = a.behind; alone = line_alone line decls (said_otherwise h.0).0 w a.alone; again = λ t. line_again w h.0 (a.again t) }
  declared_again (nesting.directs_decl w d) e h = absurd (some_none e)

  marked_said : {fs rest : List Form} {mark : List Directive} → Marked mode fs mark rest → AreSaid fs → AreSaid rest
  marked_said nesting.unmarked h = h
  marked_said (nesting.marked m w) h = h.1

  -- what stands behind a header without directives
  pub record HeadAgain (lines : List Use) (decls : List Decl) (rest : List Form) : Type 0 where
    pub behind : AreSaid rest
    pub alone : AllByRecursion CanDeclare (map plain_decl decls)
    pub uses : (t : List Form) → UsesAgain lines t
    pub again : (t : List Form) → LinesAgain decls t

  pub head_again : {fs rest : List Form} {lines : List Use} {decls : List Decl} {pair mark : List Directive} → Head-part mode fs lines decls pair mark rest → pair ≡ [] → AreSaid fs → HeadAgain lines decls rest
  head_again h e k =
      let none : h.among_uses ++ h.among_decls ≡ [] = sym h.paired ∙ e in
      let u = uses_again h.used (first_none h.among_uses h.among_decls none) k in
      let d = declared_again h.declared (second_none h.among_uses h.among_decls none) (implicit_said h.implicit u.0) in
      record { behind = marked_said h.marked d.behind; alone = d.alone; uses = u.1; again = d.again }

pub target_head : {lines : List Use} {decls : List Decl} {fs gs rest : List Form} → Uses Target fs lines [] gs → Declares Target gs decls [] rest → Head-part Target fs lines decls [] [] rest
target_head {gs = gs} {rest = rest} u d = record {
  after_uses = gs;
  after_implicit = gs;
  after_decls = rest;
  among_uses = [];
  among_decls = [];
  used = u;
  implicit = nesting.unsaid;
  declared = d;
  paired = refl;
  marked = nesting.unmarked;
}

-- ---- Units

abbrev pub end_form : Place → Form
end_form p = Says (place_said (say_end p)) (Statement-F.End None None)

pub end_lines : (p : Place) → Lined (end_form p ∷ [])
end_lines p = say (say_end p) no_lines

pub end_fits : (w : EndWord) (name : List ℕ) (p : Place) → Ends Target w name p (end_form p)
end_fits w name p = nesting.bare (end_stands p)

module _ (host : Option ℕ) (name : Named) (dummies : List Named) (lines : List Use) (body : List Stmt) (ds : List plain.Decl) where
  abbrev plain_of : Option (List ℕ) → plain.Unit
  plain_of result = record { name = name.name; dummies = map (λ d. d.name) dummies; result = result; uses = map plain_use lines; decls = ds; marks = []; body = plain_stmts body; host = host }

  subroutine_written : IsSaid (Statement-F.Subroutine name dummies) → ((t : List Form) → UsesAgain lines t) → AllByRecursion CanDeclare ds → ((t : List Form) → BodyAgain in_unit body t) → CanBeWritten (plain_of None)
  subroutine_written s uses c bodies =
      let b = bodies (end_form (place_said s) ∷ []) in
      let d = decls_again ds c b.forms in
      let u = uses d.forms in
      let l = say s (u.lined (d.lined (b.lined (end_lines (place_said s))))) in
      let e = d.same in
      let f = b.same in
      record {
        lines = l.lines;
        forms = Says (place_said s) (Statement-F.Subroutine name dummies) ∷ u.forms;
        written = record { name = name.name; at = name.at; dummies = dummies; result = None; uses = lines; decls = d.decls; marks = []; body = b.stmts; host = host };
        have = l.have;
        nest = nesting.subroutine {at = place_said s} {name = name} {dummies = dummies} (target_head u.nest d.nest) nesting.unpaired b.nest (end_fits _ name.name (place_said s));
        same = λ t. record { name = name.name; dummies = map (λ d. d.name) dummies; result = None; uses = map plain_use lines; decls = e t; marks = []; body = f t; host = host };
      }

  function_written : (result : Option Named) → IsSaid (Statement-F.Function None name dummies result) → ((t : List Form) → UsesAgain lines t) → AllByRecursion CanDeclare ds → ((t : List Form) → BodyAgain in_unit body t) →
      CanBeWritten (plain_of (Some (result_named name result).name))
  function_written result s uses c bodies =
      let b = bodies (end_form (place_said s) ∷ []) in
      let d = decls_again ds c b.forms in
      let u = uses d.forms in
      let l = say s (u.lined (d.lined (b.lined (end_lines (place_said s))))) in
      let e = d.same in
      let f = b.same in
      record {
        lines = l.lines;
        forms = Says (place_said s) (Statement-F.Function None name dummies result) ∷ u.forms;
        written = record { name = name.name; at = name.at; dummies = dummies; result = Some (result_named name result); uses = lines; decls = d.decls; marks = []; body = b.stmts; host = host };
        have = l.have;
        nest = nesting.function {at = place_said s} {prefix = None} {name = name} {dummies = dummies} {result = result} (target_head u.nest d.nest) b.nest (end_fits _ name.name (place_said s));
        same = λ t. record { name = name.name; dummies = map (λ d. d.name) dummies; result = Some (result_named name result).name; uses = map plain_use lines; decls = e t; marks = []; body = f t; host = host };
      }

module _ (mode : Mode) where
  result_first : (name : Named) (result : Option Named) (prefix : Option (Kind × Place)) (decls : List Decl) → CanDeclareResult (result_named name result) prefix → AllByRecursion CanDeclare (map plain_decl decls) →
      AllByRecursion CanDeclare (map plain_decl (nesting.prefix_decl mode (result_named name result) prefix ++ decls))
  result_first name result None decls c h = h
  result_first name result (Some p) decls c h = (c, h)

  -- a unit without directives can be written, with its declarations grouped
  pub unit_written : {host : Option ℕ} {fs rest : List Form} {x : tree_unit.Unit} → IsUnit mode host fs x rest → IsUndirected (plain_unit x) → AreSaid fs → CanBeWritten (regrouped (plain_unit x))
  unit_written {host = host} {x = x} (nesting.subroutine {name = name} {dummies = dummies} {lines = lines} {pair = pair} {mark = mark} {body = body} h q b e) n k =
      let marks = map_none plain_directive (pair ++ mark) n.0 in
      let a = head_again mode h (first_none pair mark marks) k.1 in
      let c = body_again mode b (all_undirected (plain_unit x).body n.1) a.behind in
      subroutine_written host name dummies lines body (written_decls (plain_unit x) no_widening) k.0 a.uses (each_written CanDeclare (plain_unit x) n.0 a.alone) c.1
  unit_written {host = host} {x = x} (nesting.function {prefix = prefix} {name = name} {dummies = dummies} {result = result} {lines = lines} {decls = decls} {body = body} h b e) n k =
      let a = head_again mode h refl k.1 in
      let c = body_again mode b (all_undirected (plain_unit x).body n.1) a.behind in
      let s = said_otherwise k.0 in
      function_written host name dummies lines body (written_decls (plain_unit x) no_widening) result s.0 a.uses (each_written CanDeclare (plain_unit x) n.0 (result_first name result prefix decls s.1 a.alone)) c.1
