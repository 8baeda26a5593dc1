-- Units are read again.
use Rattle.std.proofs.Common.{◌≡◌, ℕ, ◌≤◌, List, [], ◌∷◌, ◌++◌, Option, None, Some, false, map, refl, sym, ap, ◌∙◌, subst, codes, arith}
use Rattle.fort_arith.specs.declared.kind.Kind.{Kind}
use Rattle.fort_tree.specs.declared.choice.Mode.TheVariants.{Target}
use Rattle.fort_tree.specs.declared.place.Place.{Place}
use Rattle.fort_tree.specs.declared.statement.EndWord.{EndWord}
use Rattle.fort_tree.specs.declared.statement.EndWord.TheVariants as end_word
use Rattle.fort_tree.specs.declared.statement.Statement.{Statement}
use Rattle.fort_tree.specs.declared.statement.Statement.TheOpen.{Statement-F}
use Rattle.fort_tree.specs.declared.stmt.Directive.{Directive}
use Rattle.fort_tree.specs.declared.stmt.Named.{Named}
use Rattle.fort_tree.specs.declared.stmt.Stmt.{Stmt}
use Rattle.fort_tree.specs.declared.unit.Decl.{Decl}
use Rattle.fort_tree.specs.declared.unit.Unit as tree_unit
use Rattle.fort_tree.specs.declared.unit.Use.{Use}
use Rattle.fort_spell.specs.Pieces.{end_pieces}
use Rattle.fort_spell.specs.Rows.{Row, row, deeper, next_indent}
use Rattle.fort_spell.specs.Statements.{stmts_rows}
use Rattle.fort_spell.specs.Units.{own_implicit_rows, uses_rows, decls_rows, routines_rows, function_clause, header_pieces, unit_rows}
use Rattle.claw_meaning.specs.Syntax as plain
use Rattle.claw_meaning.specs.Plain as p
use Rattle.sound_programs.specs.Forms.{Form, Says}
use Rattle.sound_programs.specs.Nesting as nesting
use Rattle.sound_programs.specs.Nesting.{Inside, in_unit, Body, Head-part, Paired, Ends, IsUnit, AreUnits, result_or_name, prefix_decl}
use Rattle.layout_reading.specs.Readable.{AreReadable}
use Rattle.layout_reading.specs.Statements.{header, names, result_name, statement_pieces, SameStatement, same_end, same_subroutine, same_function}
use Rattle.layout_reading.specs.FormLines.{TokenLine, HaveForms, AreLinesOf as AreLinesIn}
use Rattle.layout_reading.proofs.Keywords.{Free}
use Rattle.layout_reading.proofs.Statements.{Fits}
use Rattle.layout_reading.proofs.Declarations.{Each, DeclFit, variable}
use Rattle.layout_reading.proofs.Lists.{NamesFit}
use Rattle.layout_reading.proofs.Bodies.{FormFits, BodyLaw, law_body, said_line, form_line, said_stands, deeper_small}
use Rattle.layout_reading.proofs.Heads.{UseFits, uses_fit, implicit_fit, each_both, declares_fit, MarksFit, marked_fit, uses_again, uses_stand, implicit_again, implicit_stands, decls_again, decls_stand, marks_again, marks_stand}

-- WHAT FITS

pub record HeadFits (lines : List Use) (decls : List Decl) (pair mark : List Directive) (rest : List Form) : Type 0 where
  pub uses : Each UseFits lines
  pub declared : Each DeclFit decls
  pub alone : pair ≡ []
  pub marks : MarksFit mark
  pub left : Each FormFits rest

pub head_fit : {forms rest : List Form} {lines : List Use} {decls : List Decl} {pair mark : List Directive} → Head-part Target forms lines decls pair mark rest → Each FormFits forms → HeadFits lines decls pair mark rest
head_fit h r =
    let u = uses_fit h.used r in
    let d = declares_fit h.declared (implicit_fit h.implicit u.2) in
    let m = marked_fit h.marked d.2 in
    record { uses = u.0; declared = d.0; alone = h.paired ∙ ap (λ x. x ++ h.among_decls) u.1 ∙ d.1; marks = m.0; left = m.1 }

-- rows that can be read are indented by at most 40
next_small : (rs : List Row) → AreReadable rs → next_indent rs ≤ 40
next_small [] r = omega arith
next_small (x ∷ rs) r = r.0.indented

module _ (file : ℕ) where
  abbrev AreLinesOf : List Row → List TokenLine → Type 0
  AreLinesOf rows lines = AreLinesIn file rows lines

  -- what stands before the statements: the mark line at the indentation of the next line
  abbrev pub head_rows : List Use → Option ℕ → List Decl → List Directive → ℕ → List Row → List Row
  head_rows lines host decls marks n rs = uses_rows lines n (own_implicit_rows host n (decls_rows decls n (routines_rows marks (next_indent rs) rs)))

  pub record HeadAgain (lines : List Use) (decls : List Decl) (marks : List Directive) (rs : List Row) (ls : List TokenLine) : Type 0 where
    pub back : List TokenLine
    pub have : AreLinesOf rs back
    pub uses_read : List Use
    pub decls_read : List Decl
    pub marks_read : List Directive
    pub same_uses : map p.plain_use uses_read ≡ map p.plain_use lines
    pub same_decls : map p.plain_decl decls_read ≡ map p.plain_decl decls
    pub same_marks : map p.plain_directive marks_read ≡ map p.plain_directive marks
    pub nest : (gs : List Form) → HaveForms back gs → (fs : List Form) × HaveForms ls fs × Head-part Target fs uses_read decls_read [] marks_read gs

  pub head_again : (lines : List Use) (host : Option ℕ) (decls : List Decl) (marks : List Directive) → Each UseFits lines → Each DeclFit decls → MarksFit marks → (n : ℕ) (rs : List Row) (ls : List TokenLine) →
      AreLinesOf (head_rows lines host decls marks n rs) ls → HeadAgain lines decls marks rs ls
  head_again lines host decls marks a b c n rs ls h =
      let k1 : List Row = routines_rows marks (next_indent rs) rs in
      let k2 : List Row = decls_rows decls n k1 in
      let u = uses_again file lines a n (own_implicit_rows host n k2) ls h in
      let i = implicit_again file host n k2 u.back u.have in
      let d = decls_again file decls b n k1 i.back i.have in
      let m = marks_again file marks c (next_indent rs) rs d.back d.have in
      record {
        back = m.back;
        have = m.have;
        uses_read = u.read;
        decls_read = d.read;
        marks_read = m.read;
        same_uses = u.same;
        same_decls = d.same;
        same_marks = m.same;
        nest = λ gs k.
            let x = m.nest gs k in
            let y = d.nest x.0 x.1 in
            let z = i.nest y.0 y.1 in
            let w = u.nest z.0 z.1 in
            (w.0, w.1, record { after_uses = z.0; after_implicit = y.0; after_decls = x.0; among_uses = []; among_decls = []; used = w.2; implicit = z.2; declared = y.2; paired = refl; marked = x.2 });
      }

  pub head_stands : (lines : List Use) (host : Option ℕ) (decls : List Decl) (marks : List Directive) → Each UseFits lines → Each DeclFit decls → MarksFit marks → (n : ℕ) (rs : List Row) → n ≤ 40 → AreReadable rs →
      AreReadable (head_rows lines host decls marks n rs)
  head_stands lines host decls marks a b c n rs h r =
      let k1 : List Row = routines_rows marks (next_indent rs) rs in
      let k2 : List Row = decls_rows decls n k1 in
      uses_stand file lines a n (own_implicit_rows host n k2) h (implicit_stands file host n k2 h (decls_stand file decls b n k1 h (marks_stand file marks c (next_indent rs) rs (next_small rs r) r)))

  -- UNITS

  pub record UnitAgain (host : Option ℕ) (u : tree_unit.Unit) (rs : List Row) (ls : List TokenLine) : Type 0 where
    pub back : List TokenLine
    pub have : AreLinesOf rs back
    pub unit : tree_unit.Unit
    pub same : p.plain_unit unit ≡ p.plain_unit u
    pub in_host : unit.host ≡ host
    pub nest : (gs : List Form) → HaveForms back gs → (fs : List Form) × HaveForms ls fs × IsUnit Target host fs unit gs

  pub record UnitLaw (host : Option ℕ) (u : tree_unit.Unit) : Type 0 where
    pub again : (n : ℕ) (rs : List Row) (ls : List TokenLine) → AreLinesOf (unit_rows u n rs) ls → UnitAgain host u rs ls
    pub stands : (n : ℕ) (rs : List Row) → n ≤ 40 → AreReadable rs → AreReadable (unit_rows u n rs)

  pub record EndTest (w : EndWord) (name : List ℕ) (y : Statement-F Statement) : Type 0 where
    pub name_of : Option (List ℕ)
    pub is : y ≡ Statement-F.End (Some w) name_of
    pub same : name_of ≡ Some name

  pub end_test : (w : EndWord) (name : List ℕ) (y : Statement-F Statement) → SameStatement y (Statement-F.End (Some w) (Some name)) → EndTest w name y
  end_test w name y (same_end {m = m} h) = record { name_of = m; is = refl; same = h }

  -- the END line of what has this name at a place of the file
  pub ends_as : (w : EndWord) (name read : List ℕ) (y : Statement-F Statement) (at place : Place) → EndTest w name y → read ≡ name → at.file ≡ file → place.file ≡ file → Ends Target w read place (Says at y)
  ends_as w name read y at place t e a b =
      subst (λ q. Ends Target w read place (Says at q)) (ap (λ o. Statement-F.End (Some w) o) (ap (λ x. Some x) e ∙ sym t.same) ∙ sym t.is) (nesting.with_name (a ∙ sym b))

  record SubroutineTest (n : Named) (l : List Named) (y : Statement-F Statement) : Type 0 where
    name_of : Named
    dummies_of : List Named
    is : y ≡ Statement-F.Subroutine name_of dummies_of
    same : name_of.name ≡ n.name
    same_dummies : names dummies_of ≡ names l

  subroutine_test : (n : Named) (l : List Named) (y : Statement-F Statement) → SameStatement y (Statement-F.Subroutine n l) → SubroutineTest n l y
  subroutine_test n l y (same_subroutine {a = a} {k = k} e h) = record { name_of = a; dummies_of = k; is = refl; same = e; same_dummies = h }

  record FunctionTest (n : Named) (l : List Named) (r : Option Named) (y : Statement-F Statement) : Type 0 where
    name_of : Named
    dummies_of : List Named
    result_of : Option Named
    is : y ≡ Statement-F.Function None name_of dummies_of result_of
    same : name_of.name ≡ n.name
    same_dummies : names dummies_of ≡ names l
    same_result : (result_name name_of result_of).name ≡ (result_name n r).name

  function_test : (q : Option (Kind × Place)) (n : Named) (l : List Named) (r : Option Named) (y : Statement-F Statement) → SameStatement y (Statement-F.Function q n l r) → FunctionTest n l r y
  function_test q n l r y (same_function {a = a} {k = k} {r = t} e h i) = record { name_of = a; dummies_of = k; result_of = t; is = refl; same = e; same_dummies = h; same_result = i }

  same_unit : (m n : List ℕ) (k l : List (List ℕ)) (r s : Option (List ℕ)) (a b : List plain.Use) (c d : List plain.Decl) (e f : List plain.Directive) (x y : plain.Stmts) (host : Option ℕ) → m ≡ n → k ≡ l → r ≡ s → a ≡ b → c ≡ d → e ≡ f → x ≡ y →
      ◌≡◌ {A = plain.Unit} (record { name = m; dummies = k; result = r; uses = a; decls = c; marks = e; body = x; host = host }) (record { name = n; dummies = l; result = s; uses = b; decls = d; marks = f; body = y; host = host })
  same_unit m n k l r s a b c d e f x y host p1 p2 p3 p4 p5 p6 p7 =
      ap (λ q. record { name = q; dummies = k; result = r; uses = a; decls = c; marks = e; body = x; host = host }) p1
      ∙ ap (λ q. record { name = n; dummies = q; result = r; uses = a; decls = c; marks = e; body = x; host = host }) p2
      ∙ ap (λ q. record { name = n; dummies = l; result = q; uses = a; decls = c; marks = e; body = x; host = host }) p3
      ∙ ap (λ q. record { name = n; dummies = l; result = s; uses = q; decls = c; marks = e; body = x; host = host }) p4
      ∙ ap (λ q. record { name = n; dummies = l; result = s; uses = b; decls = q; marks = e; body = x; host = host }) p5
      ∙ ap (λ q. record { name = n; dummies = l; result = s; uses = b; decls = d; marks = q; body = x; host = host }) p6
      ∙ ap (λ q. record { name = n; dummies = l; result = s; uses = b; decls = d; marks = f; body = q; host = host }) p7

  subroutine_law : (host : Option ℕ) (name : Named) (dummies : List Named) (lines : List Use) (decls : List Decl) (mark : List Directive) (body : List Stmt) → Free name.name → NamesFit dummies → Each UseFits lines → Each DeclFit decls →
      MarksFit mark → BodyLaw file in_unit body →
      UnitLaw host (record { name = name.name; at = name.at; dummies = dummies; result = None; uses = lines; decls = decls; marks = mark; body = body; host = host })
  subroutine_law host name dummies lines decls mark body a b c d m l = record {
    again = λ n rs ls h.
        let ends : List Row = row n (end_pieces (codes "subroutine") name.name false []) rs in
        let inner : List Row = stmts_rows body (deeper n) ends in
        let s = said_line file (Statement-F.Subroutine name dummies) (a, b) tt n (statement_pieces (Statement-F.Subroutine name dummies) false []) refl (head_rows lines host decls mark (deeper n) inner) ls h in
        let g = head_again lines host decls mark c d m (deeper n) inner s.others s.have in
        let v = l.again (deeper n) ends g.back g.have in
        let e = said_line file (Statement-F.End (Some end_word.Subroutine) (Some name.name)) a tt n (end_pieces (codes "subroutine") name.name false []) refl rs v.back v.have in
        let t = subroutine_test name dummies s.said s.same in
        let f = end_test end_word.Subroutine name.name e.said e.same in
        let unit : tree_unit.Unit = record { name = t.name_of.name; at = t.name_of.at; dummies = t.dummies_of; result = None; uses = g.uses_read; decls = g.decls_read; marks = g.marks_read; body = v.body; host = host } in
        record {
          back = e.others;
          have = e.have;
          unit = unit;
          same = same_unit t.name_of.name name.name (names t.dummies_of) (names dummies) None None _ _ _ _ _ _ _ _ host t.same t.same_dummies refl g.same_uses g.same_decls g.same_marks v.same;
          in_host = refl;
          nest = λ gs k.
              let x = v.nest (Says e.at e.said ∷ gs) (form_line file v.back e.others e.first e.is e.has k) in
              let y = g.nest x.0 x.1 in (
                Says s.at s.said ∷ y.0,
                form_line file ls s.others s.first s.is s.has y.1,
                subst (λ q. IsUnit Target host (Says s.at q ∷ y.0) unit gs) (sym t.is) (nesting.subroutine y.2 nesting.unpaired x.2 (ends_as end_word.Subroutine name.name t.name_of.name e.said e.at s.at f t.same e.in_file s.in_file)),
              );
        };
    stands = λ n rs h r.
        let ends : List Row = row n (end_pieces (codes "subroutine") name.name false []) rs in
        let inner : List Row = stmts_rows body (deeper n) ends in
        said_stands file (Statement-F.Subroutine name dummies) (a, b) tt n (head_rows lines host decls mark (deeper n) inner) h
        (head_stands lines host decls mark c d m (deeper n) inner (deeper_small file n)
        (l.stands (deeper n) ends (deeper_small file n) (said_stands file (Statement-F.End (Some end_word.Subroutine) (Some name.name)) a tt n rs h r)));
  }

  result_same : (n : Named) (r : Option Named) → result_or_name Target n r ≡ result_name n r
  result_same n None = refl
  result_same n (Some r) = refl

  function_law : (host : Option ℕ) (q : Option (Kind × Place)) (name : Named) (dummies : List Named) (result : Option Named) (lines : List Use) (decls : List Decl) (mark : List Directive) (body : List Stmt) →
      Fits (Statement-F.Function q name dummies result) → Each UseFits lines → Each DeclFit decls → MarksFit mark → BodyLaw file in_unit body →
      UnitLaw host (record { name = name.name; at = name.at; dummies = dummies; result = Some (result_or_name Target name result); uses = lines; decls = decls; marks = mark; body = body; host = host })
  function_law host q name dummies result lines decls mark body a c d m l =
      let head : tree_unit.Unit = record { name = name.name; at = name.at; dummies = dummies; result = Some (result_or_name Target name result); uses = lines; decls = decls; marks = mark; body = body; host = host } in
      let pieces : header_pieces head false [] ≡ statement_pieces (Statement-F.Function q name dummies result) false [] =
      ap (λ x. header (codes "function") name.name dummies (function_clause name.name (Some x)) false []) (result_same name result) in
      record {
        again = λ n rs ls h.
            let ends : List Row = row n (end_pieces (codes "function") name.name false []) rs in
            let inner : List Row = stmts_rows body (deeper n) ends in
            let s = said_line file (Statement-F.Function q name dummies result) a tt n (header_pieces head false []) pieces (head_rows lines host decls mark (deeper n) inner) ls h in
            let g = head_again lines host decls mark c d m (deeper n) inner s.others s.have in
            let v = l.again (deeper n) ends g.back g.have in
            let e = said_line file (Statement-F.End (Some end_word.Function) (Some name.name)) a.0 tt n (end_pieces (codes "function") name.name false []) refl rs v.back v.have in
            let t = function_test q name dummies result s.said s.same in
            let f = end_test end_word.Function name.name e.said e.same in
            let unit : tree_unit.Unit = record {
              name = t.name_of.name;
              at = t.name_of.at;
              dummies = t.dummies_of;
              result = Some (result_or_name Target t.name_of t.result_of);
              uses = g.uses_read;
              decls = g.decls_read;
              marks = g.marks_read;
              body = v.body;
              host = host;
            } in
            let results : (result_or_name Target t.name_of t.result_of).name ≡ (result_or_name Target name result).name =
            ap (λ (x : Named). x.name) (result_same t.name_of t.result_of) ∙ t.same_result ∙ sym (ap (λ (x : Named). x.name) (result_same name result)) in
            record {
              back = e.others;
              have = e.have;
              unit = unit;
              same = same_unit t.name_of.name name.name (names t.dummies_of) (names dummies) _ _ _ _ _ _ _ _ _ _ host t.same t.same_dummies (ap (λ x. Some x) results) g.same_uses g.same_decls g.same_marks v.same;
              in_host = refl;
              nest = λ gs k.
                  let x = v.nest (Says e.at e.said ∷ gs) (form_line file v.back e.others e.first e.is e.has k) in
                  let y = g.nest x.0 x.1 in (
                    Says s.at s.said ∷ y.0,
                    form_line file ls s.others s.first s.is s.has y.1,
                    subst (λ z. IsUnit Target host (Says s.at z ∷ y.0) unit gs) (sym t.is) (nesting.function y.2 x.2 (ends_as end_word.Function name.name t.name_of.name e.said e.at s.at f t.same e.in_file s.in_file)),
                  );
            };
        stands = λ n rs h r.
            let ends : List Row = row n (end_pieces (codes "function") name.name false []) rs in
            let inner : List Row = stmts_rows body (deeper n) ends in
            subst (λ y. AreReadable (row n y (head_rows lines host decls mark (deeper n) inner))) (sym pieces)
            (said_stands file (Statement-F.Function q name dummies result) a tt n (head_rows lines host decls mark (deeper n) inner) h
            (head_stands lines host decls mark c d m (deeper n) inner (deeper_small file n)
            (l.stands (deeper n) ends (deeper_small file n) (said_stands file (Statement-F.End (Some end_word.Function) (Some name.name)) a.0 tt n rs h r))));
      }

  prefix_fits : (name : Named) (result : Option Named) (q : Option (Kind × Place)) → Free (result_name name result).name → Each DeclFit (prefix_decl Target (result_or_name Target name result) q)
  prefix_fits name result None a = tt
  prefix_fits name result (Some q) a = (variable (subst (λ (x : Named). Free x.name) (sym (result_same name result)) a) tt, tt)

  pub law_unit : {host : Option ℕ} {forms rest : List Form} {u : tree_unit.Unit} → IsUnit Target host forms u rest → Each FormFits forms → UnitLaw host u × Each FormFits rest
  law_unit {host = host} (nesting.subroutine {name = name} {dummies = dummies} {lines = lines} {decls = decls} {pair = pair} {mark = mark} {body = body} h both b e) r =
      let f = head_fit h r.1 in
      let l = law_body file b f.left in (
        subst (λ x. UnitLaw host (record { name = name.name; at = name.at; dummies = dummies; result = None; uses = lines; decls = decls; marks = x ++ mark; body = body; host = host })) (sym f.alone)
            (subroutine_law host name dummies lines decls mark body r.0.0 r.0.1 f.uses f.declared f.marks l.0),
        l.1.1,
      )
  law_unit {host = host} (nesting.function {prefix = q} {name = name} {dummies = dummies} {result = result} {lines = lines} {decls = decls} {mark = mark} {body = body} h b e) r =
      let f = head_fit h r.1 in
      let l = law_body file b f.left in (
        function_law host q name dummies result lines (prefix_decl Target (result_or_name Target name result) q ++ decls) mark body r.0 f.uses
            (each_both DeclFit (prefix_decl Target (result_or_name Target name result) q) decls (prefix_fits name result q r.0.2) f.declared) f.marks l.0,
        l.1.1,
      )
