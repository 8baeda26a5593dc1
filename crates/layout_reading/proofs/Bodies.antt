-- The rows of statements nest again.
use Rattle.std.proofs.Common.{◌≡◌, ℕ, ◌≤◌, List, [], ◌∷◌, Option, None, Some, true, false, map, option_map, refl, sym, ap, ◌∙◌, subst, codes, arith, ◌&&◌, ◌||◌, is_some}
use Rattle.std.specs.Prelude.{⊤, IsTrue}
use Rattle.std.specs.List.{list_all}
use Rattle.std.proofs.lemmas.Bool.{true≢false}
use Rattle.fort_tree.specs.declared.choice.Mode.TheVariants.{Target}
use Rattle.fort_tree.specs.declared.place.Place.{Place}
use Rattle.fort_tree.specs.declared.expr.Expr.{Expr}
use Rattle.fort_tree.specs.declared.expr.Sub.{Sub}
use Rattle.fort_tree.specs.declared.statement.Statement.{Statement, out-Statement}
use Rattle.fort_tree.specs.declared.statement.Statement.TheOpen.{Statement-F}
use Rattle.fort_tree.specs.declared.stmt.Arm.{Arm}
use Rattle.fort_tree.specs.declared.stmt.Case.{Case}
use Rattle.fort_tree.specs.declared.stmt.Directive.{Directive}
use Rattle.fort_tree.specs.declared.stmt.DirectiveWord.{DirectiveWord}
use Rattle.fort_tree.specs.declared.stmt.DirectiveWord.TheVariants as word_of
use Rattle.fort_tree.specs.declared.stmt.Head.{Head}
use Rattle.fort_tree.specs.declared.stmt.Named.{Named}
use Rattle.fort_tree.specs.declared.stmt.Range.{Range}
use Rattle.fort_tree.specs.declared.stmt.Range.TheVariants as range
use Rattle.fort_tree.specs.declared.stmt.Stmt.{Stmt}
use Rattle.fort_tree.specs.declared.stmt.Stmt.TheVariants as tree
use Rattle.fort_tree.specs.declared.statement.Statement.TheViews.{roll-Statement, out-roll-Statement}
use Rattle.fort_tree.specs.Unplaced.{nowhere, unplaced}
use Rattle.fort_expr.specs.Expression.{IsExpr}
use Rattle.fort_expr.specs.Words.{front_place}
use Rattle.fort_stmt.specs.Form.{IsStatement}
use Rattle.fort_spell.specs.declared.line.Sentinel.TheVariants as sentinel
use Rattle.fort_spell.specs.Pieces.{Piece, Spelling, name_pieces, pair}
use Rattle.fort_spell.specs.Rows.{Row, row, deeper, margin}
use Rattle.fort_spell.specs.Statements.{Printed, PrintedArm, PrintedCase, acts, if_pieces, then_pieces, else_if_pieces, select_pieces, case_pieces, do_pieces, open_mp_pieces, open_acc_pieces, loop_mark_rows, body_rows, lone, else_if_rows, else_rows, if_rows, case_rows, default_rows, print, print_arm, print_case, stmts_rows}
use Rattle.claw_meaning.specs.Syntax as plain
use Rattle.claw_meaning.specs.Plain as p
use Rattle.sound_programs.specs.Forms.{is_reference, is_range, Form, Says, Directs, is_forward, is_before_loop, is_loop_mark, begins_block}
use Rattle.sound_programs.specs.Nesting as nesting
use Rattle.sound_programs.specs.Nesting.{Inside, in_loop, in_marked_loop, in_loop_under, arm, case, Simple, Body, One, Arms, Cases}
use Rattle.layout_reading.specs.Readable.{ArePieces, IsReadable, AreReadable}
use Rattle.layout_reading.specs.Tokens.{piece_texts, AreTokens}
use Rattle.layout_reading.specs.Shown.{is_mark}
use Rattle.layout_reading.specs.Statements.{action_pieces, statement_pieces, bare_range, bare_head, SameStatement, same_assign, same_call, same_exit, same_cycle, same_return, same_if_action, same_if_then, same_else_if, same_else, same_end_if, same_do, same_end_do, same_select, same_end_select, same_case, same_default, IsOneRow}
use Rattle.layout_reading.specs.FormLines.{TokenLine, HasForm, says, directs, HaveForms, no_form, form, IsLineOf as IsLineIn, AreLinesOf as AreLinesIn}
use Rattle.layout_reading.specs.Nested.{AreStatements}
use Rattle.layout_reading.proofs.Statements.{ActionFits, CaseFits, Fits, form_fits, statement_again}
use Rattle.layout_reading.proofs.Expressions.{all_real}
use Rattle.layout_reading.proofs.Standing.{statement_stands}
use Rattle.layout_reading.proofs.Declarations.{Each}
use Rattle.layout_reading.proofs.Parts.{Fit}
use Rattle.claw_lines.specs.Forms.{IsLine}
use Rattle.layout_reading.proofs.Marks
use Rattle.layout_reading.proofs.Marks.{MarkFits, OnlyNames, MarkAgain, line_fits, mp_form, acc_form, loop_again, open_mp_stands, open_acc_stands}
use Rattle.layout_reading.proofs.Plain.{same_plain, same_plain_subs, same_plain_head, same_plain_ranges, same_reference}
use Rattle.layout_reading.proofs.PrintedTrees

-- FORMS THAT FIT

abbrev pub FormFits : Form → Type 0
FormFits (Says at x) = Fits x
FormFits (Directs d) = MarkFits d

-- a form that tokens have fits
pub real_fits : {l : TokenLine} {g : Form} → HasForm l g → AreTokens l.tokens → FormFits g
real_fits (says d) r = form_fits d r
real_fits (directs d) r = line_fits d r

module _ (file : ℕ) where
  abbrev AreLinesOf : List Row → List TokenLine → Type 0
  AreLinesOf rows lines = AreLinesIn file rows lines

  abbrev IsLineOf : Row → TokenLine → Type 0
  IsLineOf row line = IsLineIn file row line

  -- LINES

  pub record RowLine (row : Row) (rs : List Row) (ls : List TokenLine) : Type 0 where
    pub first : TokenLine
    pub others : List TokenLine
    pub is : ls ≡ first ∷ others
    pub line : IsLineOf row first
    pub have : AreLinesOf rs others

  pub row_line : (row : Row) (rs : List Row) (ls : List TokenLine) → AreLinesOf (row ∷ rs) ls → RowLine row rs ls
  row_line row rs [] h = absurd h
  row_line row rs (l ∷ ls) h = record { first = l; others = ls; is = refl; line = h.0; have = h.1 }

  -- a row of a statement is read as the statement again
  pub record SaidLine (x : Statement-F Statement) (rs : List Row) (ls : List TokenLine) : Type 0 where
    pub first : TokenLine
    pub others : List TokenLine
    pub is : ls ≡ first ∷ others
    pub at : Place
    pub said : Statement-F Statement
    pub has : HasForm first (Says at said)
    pub same : SameStatement said x
    pub have : AreLinesOf rs others
    pub in_file : at.file ≡ file

  said_at : (l : TokenLine) (s : Statement) → l.directive ≡ false → IsStatement l.tokens s → HasForm l (Says (front_place l.tokens) (out-Statement s))
  said_at l s e d = subst (λ b. HasForm (record { directive = b; tokens = l.tokens }) (Says (front_place l.tokens) (out-Statement s))) (sym e) (says d)

  pub said_line : (x : Statement-F Statement) → Fits x → IsOneRow x → (n : ℕ) (ps : List Piece) → ps ≡ statement_pieces x false [] → (rs : List Row) (ls : List TokenLine) → AreLinesOf (row n ps rs) ls → SaidLine x rs ls
  said_line x a o n ps e rs ls h =
      let r = row_line (record { margin = margin sentinel.Absent n; pieces = ps }) rs ls h in
      let s = statement_again x r.first.tokens a o (r.line.texts_are ∙ ap piece_texts e) in
      record { first = r.first; others = r.others; is = r.is; at = front_place r.first.tokens; said = out-Statement s.statement; has = said_at r.first s.statement r.line.directive s.form; same = s.same; have = r.have; in_file = r.line.in_file }

  pub form_line : {g : Form} {gs : List Form} (ls others : List TokenLine) (first : TokenLine) → ls ≡ first ∷ others → HasForm first g → HaveForms others gs → HaveForms ls (g ∷ gs)
  form_line {g = g} {gs = gs} ls others first e h k = subst (λ l. HaveForms l (g ∷ gs)) (sym e) (form h k)

  pub row_stands : (n : ℕ) (ps : List Piece) (rs : List Row) → n ≤ 40 → ArePieces ps → AreReadable rs → AreReadable (row n ps rs)
  row_stands n ps rs h a r = (record { indented = h; pieces = a }, r)

  pub said_stands : (x : Statement-F Statement) → Fits x → IsOneRow x → (n : ℕ) (rs : List Row) → n ≤ 40 → AreReadable rs → AreReadable (row n (statement_pieces x false []) rs)
  said_stands x a o n rs h r = row_stands n (statement_pieces x false []) rs h (statement_stands x a o) r

  pub deeper_small : (n : ℕ) → deeper n ≤ 40
  deeper_small n = omega arith

  -- LAWS

  pub record OneAgain (around : Inside) (s : Stmt) (rs : List Row) (ls : List TokenLine) : Type 0 where
    pub back : List TokenLine
    pub have : AreLinesOf rs back
    pub stmt : Stmt
    pub same : p.plain_stmt stmt ≡ p.plain_stmt s
    pub nest : (gs : List Form) → HaveForms back gs → (fs : List Form) × HaveForms ls fs × One Target around fs stmt gs

  -- a statement that may stand in an IF on one line
  pub record ActLaw (around : Inside) (s : Stmt) (g : Spelling) : Type 0 where
    pub said : Statement-F Statement
    pub fits : ActionFits said
    pub pieces : g ≡ action_pieces said
    pub again : (at : Place) (x : Statement-F Statement) → SameStatement x said → (t : Stmt) × Simple around at x t × (p.plain_stmt t ≡ p.plain_stmt s)

  pub record OneLaw (around : Inside) (s : Stmt) : Type 0 where
    pub again : (n : ℕ) (rs : List Row) (ls : List TokenLine) → AreLinesOf ((print s).rows n rs) ls → OneAgain around s rs ls
    pub stands : (n : ℕ) (rs : List Row) → n ≤ 40 → AreReadable rs → AreReadable ((print s).rows n rs)
    pub act : (g : Spelling) → (print s).action ≡ Some g → ActLaw around s g

  pub record BodyAgain (around : Inside) (ss : List Stmt) (rs : List Row) (ls : List TokenLine) : Type 0 where
    pub back : List TokenLine
    pub have : AreLinesOf rs back
    pub body : List Stmt
    pub same : p.plain_stmts body ≡ p.plain_stmts ss
    pub nest : (gs : List Form) → HaveForms back gs → (fs : List Form) × HaveForms ls fs × Body Target around fs body gs

  pub record LoneLaw (around : Inside) (ss : List Stmt) (g : Spelling) : Type 0 where
    pub only : Stmt
    pub is : ss ≡ only ∷ []
    pub act : ActLaw around only g

  pub record BodyLaw (around : Inside) (ss : List Stmt) : Type 0 where
    pub again : (n : ℕ) (rs : List Row) (ls : List TokenLine) → AreLinesOf (stmts_rows ss n rs) ls → BodyAgain around ss rs ls
    pub stands : (n : ℕ) (rs : List Row) → n ≤ 40 → AreReadable rs → AreReadable (stmts_rows ss n rs)
    pub lone : (g : Spelling) → lone (map print ss) ≡ Some g → LoneLaw around ss g

  none_some : {A : Type 0} {x : A} → None ≡ Some x → ⊥
  none_some e = cc

  law_done : (around : Inside) → BodyLaw around []
  law_done around = record {
    again = λ n rs ls h. record { back = ls; have = h; body = []; same = refl; nest = λ gs k. (gs, k, nesting.done) };
    stands = λ n rs h r. r;
    lone = λ g e. absurd (none_some e);
  }

  more_lone : (around : Inside) (s : Stmt) (ss : List Stmt) → OneLaw around s → (g : Spelling) → lone (map print (s ∷ ss)) ≡ Some g → LoneLaw around (s ∷ ss) g
  more_lone around s [] l g e = record { only = s; is = refl; act = l.act g e }
  more_lone around s (t ∷ ss) l g e = absurd (none_some e)

  law_more : (around : Inside) (s : Stmt) (ss : List Stmt) → OneLaw around s → BodyLaw around ss → BodyLaw around (s ∷ ss)
  law_more around s ss a b = record {
    again = λ n rs ls h.
        let u = a.again n (stmts_rows ss n rs) ls h in
        let v = b.again n rs u.back u.have in
        record {
          back = v.back;
          have = v.have;
          body = u.stmt ∷ v.body;
          same = ap (λ x. plain.Then x (p.plain_stmts v.body)) u.same ∙ ap (plain.Then (p.plain_stmt s)) v.same;
          nest = λ gs k.
              let w = v.nest gs k in
              let x = u.nest w.0 w.1 in (x.0, x.1, nesting.more x.2 w.2);
        };
    stands = λ n rs h r. a.stands n (stmts_rows ss n rs) h (b.stands n rs h r);
    lone = more_lone around s ss a;
  }

  -- SIMPLE STATEMENTS

  simple_law : (around : Inside) (s : Stmt) (x : Statement-F Statement) → print s ≡ acts (action_pieces x) → statement_pieces x ≡ action_pieces x → Fits x → ActionFits x → IsOneRow x →
      ((at : Place) (y : Statement-F Statement) → SameStatement y x → (t : Stmt) × Simple around at y t × (p.plain_stmt t ≡ p.plain_stmt s)) → OneLaw around s
  simple_law around s x e d a b o again = record {
    again = λ n rs ls h.
        let u = said_line x a o n (action_pieces x false []) (ap (λ f. f false []) (sym d)) rs ls (subst (λ q. AreLinesOf q ls) (ap (λ (q : Printed). q.rows n rs) e) h) in
        let t = again u.at u.said u.same in
        record { back = u.others; have = u.have; stmt = t.0; same = t.2; nest = λ gs k. (Says u.at u.said ∷ gs, form_line ls u.others u.first u.is u.has k, nesting.simple t.1) };
    stands = λ n rs h r. subst AreReadable (ap (λ f. row n (f false []) rs) d ∙ sym (ap (λ (q : Printed). q.rows n rs) e)) (said_stands x a o n rs h r);
    act = λ g i. record { said = x; fits = b; pieces = some_same g (action_pieces x) (sym i ∙ ap (λ (q : Printed). q.action) e); again = again };
  }
    where
      some_same : (g h : Spelling) → Some g ≡ Some h → g ≡ h
      some_same g h e = cc

  assign_over : (around : Inside) (at place : Place) (l r : Expr) (y : Statement-F Statement) → IsTrue (is_reference l) → SameStatement y (Statement-F.Assign l r) →
      (t : Stmt) × Simple around at y t × (p.plain_stmt t ≡ p.plain_stmt (tree.Assign place l r))
  assign_over around at place l r y h (same_assign {a = a} {b = b} e g) =
      (tree.Assign at a b, nesting.assigns a b (same_reference a l e ∙ h), PrintedTrees.plain_assign at a b ∙ ap (λ q. plain.Assign q (p.plain_expr b)) (same_plain a l e) ∙ ap (plain.Assign (p.plain_expr l)) (same_plain b r g) ∙ sym (PrintedTrees.plain_assign place l r))

  call_over : (around : Inside) (at place : Place) (m : Named) (l : List Sub) (y : Statement-F Statement) → SameStatement y (Statement-F.Call m l) →
      (t : Stmt) × Simple around at y t × (p.plain_stmt t ≡ p.plain_stmt (tree.Call place m l false))
  call_over around at place m l y (same_call {a = a} {k = k} e g) =
      (tree.Call at a k false, nesting.calls a k, PrintedTrees.plain_call at a k false ∙ ap (λ q. plain.Call q (p.plain_subs k) false) e ∙ ap (λ q. plain.Call m.name q false) (same_plain_subs k l g) ∙ sym (PrintedTrees.plain_call place m l false))

  exit_over : (around : Inside) (at place : Place) (y : Statement-F Statement) → IsTrue around.exits → SameStatement y Statement-F.Exit → (t : Stmt) × Simple around at y t × (p.plain_stmt t ≡ p.plain_stmt (tree.Exit place))
  exit_over around at place y h same_exit = (tree.Exit at, nesting.exits h, PrintedTrees.plain_exit at ∙ sym (PrintedTrees.plain_exit place))

  cycle_over : (around : Inside) (at place : Place) (y : Statement-F Statement) → IsTrue around.cycles → SameStatement y Statement-F.Cycle → (t : Stmt) × Simple around at y t × (p.plain_stmt t ≡ p.plain_stmt (tree.Cycle place))
  cycle_over around at place y h same_cycle = (tree.Cycle at, nesting.cycles h, PrintedTrees.plain_cycle at ∙ sym (PrintedTrees.plain_cycle place))

  return_over : (around : Inside) (at place : Place) (y : Statement-F Statement) → IsTrue around.returns → SameStatement y Statement-F.Return → (t : Stmt) × Simple around at y t × (p.plain_stmt t ≡ p.plain_stmt (tree.Return place))
  return_over around at place y h same_return = (tree.Return at, nesting.returns h, PrintedTrees.plain_return at ∙ sym (PrintedTrees.plain_return place))

  law_simple : (around : Inside) {at : Place} {x : Statement-F Statement} {s : Stmt} → Simple around at x s → ActionFits x → OneLaw around s
  law_simple around {at = place} (nesting.assigns l r h) a =
      simple_law around (tree.Assign place l r) (Statement-F.Assign l r) (PrintedTrees.print_assign place l r) refl a a tt (λ at y e. assign_over around at place l r y h e)
  law_simple around {at = place} (nesting.calls m l) a =
      simple_law around (tree.Call place m l false) (Statement-F.Call m l) (PrintedTrees.print_call place m l) refl a a tt (λ at y e. call_over around at place m l y e)
  law_simple around {at = place} (nesting.exits h) a = simple_law around (tree.Exit place) Statement-F.Exit (PrintedTrees.print_exit place) refl tt tt tt (λ at y e. exit_over around at place y h e)
  law_simple around {at = place} (nesting.cycles h) a = simple_law around (tree.Cycle place) Statement-F.Cycle (PrintedTrees.print_cycle place) refl tt tt tt (λ at y e. cycle_over around at place y h e)
  law_simple around {at = place} (nesting.returns h) a = simple_law around (tree.Return place) Statement-F.Return (PrintedTrees.print_return place) refl tt tt tt (λ at y e. return_over around at place y h e)

  simple_fits : (around : Inside) {at : Place} {x : Statement-F Statement} {s : Stmt} → Simple around at x s → Fits x → ActionFits x
  simple_fits around (nesting.assigns l r h) a = a
  simple_fits around (nesting.calls m l) a = a
  simple_fits around (nesting.exits h) a = tt
  simple_fits around (nesting.cycles h) a = tt
  simple_fits around (nesting.returns h) a = tt

  -- IF

  -- the rows behind the first block of an IF
  abbrev tail_rows : List Arm → Option (List Stmt) → ℕ → List Row → List Row
  tail_rows arms other n rs = else_if_rows (map print_arm arms) n (else_rows (option_map (map print) other) n (row n (pair (codes "end") (codes "if") false []) rs))

  record ArmsAgain (around : Inside) (arms : List Arm) (other : Option (List Stmt)) (rs : List Row) (ls : List TokenLine) : Type 0 where
    back : List TokenLine
    have : AreLinesOf rs back
    arms_read : List Arm
    other_read : Option (List Stmt)
    same : p.arms_of (map PrintedTrees.plain_arm arms_read) ≡ p.arms_of (map PrintedTrees.plain_arm arms)
    same_other : p.otherwise (option_map (map p.plain_stmt) other_read) ≡ p.otherwise (option_map (map p.plain_stmt) other)
    nest : (gs : List Form) → HaveForms back gs → (fs : List Form) × HaveForms ls fs × Arms Target around fs arms_read other_read gs

  record ArmsLaw (around : Inside) (arms : List Arm) (other : Option (List Stmt)) : Type 0 where
    again : (n : ℕ) (rs : List Row) (ls : List TokenLine) → AreLinesOf (tail_rows arms other n rs) ls → ArmsAgain around arms other rs ls
    stands : (n : ℕ) (rs : List Row) → n ≤ 40 → AreReadable rs → AreReadable (tail_rows arms other n rs)

  end_if_over : (around : Inside) (at : Place) (y : Statement-F Statement) (gs : List Form) → SameStatement y Statement-F.EndIf → Arms Target around (Says at y ∷ gs) [] None gs
  end_if_over around at y gs same_end_if = nesting.end_if

  law_end_if : (around : Inside) → ArmsLaw around [] None
  law_end_if around = record {
    again = λ n rs ls h.
        let u = said_line Statement-F.EndIf tt tt n (pair (codes "end") (codes "if") false []) refl rs ls h in
        record {
          back = u.others;
          have = u.have;
          arms_read = [];
          other_read = None;
          same = refl;
          same_other = refl;
          nest = λ gs k. (Says u.at u.said ∷ gs, form_line ls u.others u.first u.is u.has k, end_if_over around u.at u.said gs u.same);
        };
    stands = λ n rs h r. said_stands Statement-F.EndIf tt tt n rs h r;
  }

  else_over : (around : Inside) (at end : Place) (y z : Statement-F Statement) (body : List Stmt) (inside gs : List Form) → SameStatement y Statement-F.Else → SameStatement z Statement-F.EndIf →
      Body Target around inside body (Says end z ∷ gs) → Arms Target around (Says at y ∷ inside) [] (Some body) gs
  else_over around at end y z body inside gs same_else same_end_if b = nesting.else_last b

  law_else : (around : Inside) (body : List Stmt) → BodyLaw around body → ArmsLaw around [] (Some body)
  law_else around body l = record {
    again = λ n rs ls h.
        let ends : List Row = row n (pair (codes "end") (codes "if") false []) rs in
        let u = said_line Statement-F.Else tt tt n (name_pieces (codes "else") false []) refl (stmts_rows body (deeper n) ends) ls h in
        let v = l.again (deeper n) ends u.others u.have in
        let w = said_line Statement-F.EndIf tt tt n (pair (codes "end") (codes "if") false []) refl rs v.back v.have in
        record {
          back = w.others;
          have = w.have;
          arms_read = [];
          other_read = Some v.body;
          same = refl;
          same_other = ap plain.Else v.same;
          nest = λ gs k.
              let x = v.nest (Says w.at w.said ∷ gs) (form_line v.back w.others w.first w.is w.has k) in
              (Says u.at u.said ∷ x.0, form_line ls u.others u.first u.is u.has x.1, else_over around u.at w.at u.said w.said v.body x.0 gs u.same w.same x.2);
        };
    stands = λ n rs h r.
        let ends : List Row = row n (pair (codes "end") (codes "if") false []) rs in
        said_stands Statement-F.Else tt tt n (stmts_rows body (deeper n) ends) h (l.stands (deeper n) ends (deeper_small n) (said_stands Statement-F.EndIf tt tt n rs h r));
  }

  -- the rows of an arm
  arm_rows_are : (test : Expr) (body : List Stmt) (n : ℕ) (rs : List Row) → (print_arm (arm test body)).rows n rs ≡ stmts_rows body n rs
  arm_rows_are test body n rs = ap (λ (a : PrintedArm). a.rows n rs) (PrintedTrees.print_an_arm test body)

  arm_test_is : (test : Expr) (body : List Stmt) → (print_arm (arm test body)).test ≡ test
  arm_test_is test body = ap (λ (a : PrintedArm). a.test) (PrintedTrees.print_an_arm test body)

  tail_more : (test : Expr) (body : List Stmt) (arms : List Arm) (other : Option (List Stmt)) (n : ℕ) (rs : List Row) →
      tail_rows (arm test body ∷ arms) other n rs ≡ row n (else_if_pieces test false []) (stmts_rows body (deeper n) (tail_rows arms other n rs))
  tail_more test body arms other n rs =
      ap (λ t. row n (else_if_pieces t false []) ((print_arm (arm test body)).rows (deeper n) (tail_rows arms other n rs))) (arm_test_is test body)
      ∙ ap (λ q. row n (else_if_pieces test false []) q) (arm_rows_are test body (deeper n) (tail_rows arms other n rs))

  same_arm : (e test : Expr) (b body : List Stmt) (r rest : plain.Arms) → unplaced e ≡ unplaced test → p.plain_stmts b ≡ p.plain_stmts body → r ≡ rest → PrintedTrees.plain_arm (arm e b) r ≡ PrintedTrees.plain_arm (arm test body) rest
  same_arm e test b body r rest h i j =
      PrintedTrees.plain_an_arm e b r ∙ ap (λ q. plain.Arm q (p.plain_stmts b) r) (same_plain e test h) ∙ ap (λ q. plain.Arm (p.plain_expr test) q r) i ∙ ap (plain.Arm (p.plain_expr test) (p.plain_stmts body)) j ∙
      sym (PrintedTrees.plain_an_arm test body rest)

  law_else_if : (around : Inside) (test : Expr) (body : List Stmt) (arms : List Arm) (other : Option (List Stmt)) → Fit IsExpr test → BodyLaw around body → ArmsLaw around arms other → ArmsLaw around (arm test body ∷ arms) other
  law_else_if around test body arms other a l m = record {
    again = λ n rs ls h.
        let inner : List Row = tail_rows arms other n rs in
        let u = said_line (Statement-F.ElseIf test) a tt n (else_if_pieces test false []) refl (stmts_rows body (deeper n) inner) ls (subst (λ q. AreLinesOf q ls) (tail_more test body arms other n rs) h) in
        let v = l.again (deeper n) inner u.others u.have in
        let w = m.again n rs v.back v.have in
        let t = test_of u.said u.same in
        record {
          back = w.back;
          have = w.have;
          arms_read = arm t.0 v.body ∷ w.arms_read;
          other_read = w.other_read;
          same = same_arm t.0 test v.body body _ _ t.2 v.same w.same;
          same_other = w.same_other;
          nest = λ gs k.
              let x = w.nest gs k in
              let y = v.nest x.0 x.1 in
              (Says u.at u.said ∷ y.0, form_line ls u.others u.first u.is u.has y.1, subst (λ q. Arms Target around (Says u.at q ∷ y.0) (arm t.0 v.body ∷ w.arms_read) w.other_read gs) (sym t.1) (nesting.else_if y.2 x.2));
        };
    stands = λ n rs h r. subst AreReadable (sym (tail_more test body arms other n rs))
        (said_stands (Statement-F.ElseIf test) a tt n (stmts_rows body (deeper n) (tail_rows arms other n rs)) h (l.stands (deeper n) (tail_rows arms other n rs) (deeper_small n) (m.stands n rs h r)));
  }
    where
      test_of : (y : Statement-F Statement) → SameStatement y (Statement-F.ElseIf test) → (e : Expr) × (y ≡ Statement-F.ElseIf e) × (unplaced e ≡ unplaced test)
      test_of y (same_else_if {e = e} h) = (e, refl, h)

  -- the rows of an IF that is no single line
  abbrev block_of : Expr → List Stmt → List Arm → Option (List Stmt) → ℕ → List Row → List Row
  block_of test body arms other n rs = row n (then_pieces test false []) (stmts_rows body (deeper n) (tail_rows arms other n rs))

  abbrev printed_arm : Expr → List Stmt → PrintedArm
  printed_arm test body = record { test = test; rows = body_rows (map print body); action = lone (map print body) }

  if_rows_are : (at : Place) (test : Expr) (body : List Stmt) (arms : List Arm) (other : Option (List Stmt)) (n : ℕ) (rs : List Row) →
      (print (tree.If at (arm test body ∷ arms) other)).rows n rs ≡ if_rows (printed_arm test body ∷ map print_arm arms) (option_map (map print) other) n rs
  if_rows_are at test body arms other n rs =
      ap (λ (q : Printed). q.rows n rs) (PrintedTrees.print_if at (arm test body ∷ arms) other)
      ∙ ap (λ a. if_rows (a ∷ map print_arm arms) (option_map (map print) other) n rs) (PrintedTrees.print_an_arm test body)

  if_action_none : (at : Place) (arms : List Arm) (other : Option (List Stmt)) → (print (tree.If at arms other)).action ≡ None
  if_action_none at arms other = ap (λ (q : Printed). q.action) (PrintedTrees.print_if at arms other)

  no_act : (around : Inside) (s : Stmt) → (print s).action ≡ None → (g : Spelling) → (print s).action ≡ Some g → ActLaw around s g
  no_act around s e g i = absurd (none_some (sym e ∙ i))

  record ThenTest (test : Expr) (y : Statement-F Statement) : Type 0 where
    tree_of : Expr
    is : y ≡ Statement-F.IfThen tree_of
    same : unplaced tree_of ≡ unplaced test

  then_test : (test : Expr) (y : Statement-F Statement) → SameStatement y (Statement-F.IfThen test) → ThenTest test y
  then_test test y (same_if_then {e = e} h) = record { tree_of = e; is = refl; same = h }

  block_law : (around : Inside) (at : Place) (test : Expr) (body : List Stmt) (arms : List Arm) (other : Option (List Stmt)) → Fit IsExpr test → BodyLaw around body → ArmsLaw around arms other →
      ((n : ℕ) (rs : List Row) → (print (tree.If at (arm test body ∷ arms) other)).rows n rs ≡ block_of test body arms other n rs) → OneLaw around (tree.If at (arm test body ∷ arms) other)
  block_law around at test body arms other a l m rows = record {
    again = λ n rs ls h.
        let inner : List Row = tail_rows arms other n rs in
        let u = said_line (Statement-F.IfThen test) a tt n (then_pieces test false []) refl (stmts_rows body (deeper n) inner) ls (subst (λ q. AreLinesOf q ls) (rows n rs) h) in
        let v = l.again (deeper n) inner u.others u.have in
        let w = m.again n rs v.back v.have in
        let t = then_test test u.said u.same in
        record {
          back = w.back;
          have = w.have;
          stmt = tree.If u.at (arm t.tree_of v.body ∷ w.arms_read) w.other_read;
          same = PrintedTrees.plain_if u.at (arm t.tree_of v.body ∷ w.arms_read) w.other_read
              ∙ ap (λ q. plain.If q (p.otherwise (option_map (map p.plain_stmt) w.other_read))) (same_arm t.tree_of test v.body body _ _ t.same v.same w.same)
              ∙ ap (plain.If (p.arms_of (map PrintedTrees.plain_arm (arm test body ∷ arms)))) w.same_other
              ∙ sym (PrintedTrees.plain_if at (arm test body ∷ arms) other);
          nest = λ gs k.
              let x = w.nest gs k in
              let y = v.nest x.0 x.1 in
              (Says u.at u.said ∷ y.0, form_line ls u.others u.first u.is u.has y.1, subst (λ q. One Target around (Says u.at q ∷ y.0) (tree.If u.at (arm t.tree_of v.body ∷ w.arms_read) w.other_read) gs) (sym t.is) (nesting.if_then y.2 x.2));
        };
    stands = λ n rs h r. subst AreReadable (sym (rows n rs))
        (said_stands (Statement-F.IfThen test) a tt n (stmts_rows body (deeper n) (tail_rows arms other n rs)) h (l.stands (deeper n) (tail_rows arms other n rs) (deeper_small n) (m.stands n rs h r)));
    act = no_act around (tree.If at (arm test body ∷ arms) other) (if_action_none at (arm test body ∷ arms) other);
  }

  record ShortTest (test : Expr) (x : Statement-F Statement) (y : Statement-F Statement) : Type 0 where
    tree_of : Expr
    place : Place
    action : Statement
    is : y ≡ Statement-F.IfAction tree_of place action
    same : unplaced tree_of ≡ unplaced test
    same_action : SameStatement (out-Statement action) x

  short_test : (test : Expr) (x : Statement-F Statement) (y : Statement-F Statement) → SameStatement y (Statement-F.IfAction test nowhere (roll-Statement x)) → ShortTest test x y
  short_test test x y (same_if_action {e = e} {p = p} {s = s} h i) =
      record { tree_of = e; place = p; action = s; is = refl; same = h; same_action = subst (SameStatement (out-Statement s)) (out-roll-Statement x) i }

  short_law : (around : Inside) (at : Place) (test : Expr) (s : Stmt) (g : Spelling) → Fit IsExpr test → ActLaw around s g →
      ((n : ℕ) (rs : List Row) → (print (tree.If at (arm test (s ∷ []) ∷ []) None)).rows n rs ≡ row n (if_pieces test false (g true [])) rs) → OneLaw around (tree.If at (arm test (s ∷ []) ∷ []) None)
  short_law around at test s g a l rows =
      let x : Statement-F Statement = Statement-F.IfAction test nowhere (roll-Statement l.said) in
      let back : out-Statement (roll-Statement l.said) ≡ l.said = out-roll-Statement l.said in
      let fits : Fits x = (a, subst ActionFits (sym back) l.fits) in
      let pieces : if_pieces test false (g true []) ≡ statement_pieces x false [] = ap (λ f. if_pieces test false (f true [])) l.pieces ∙ ap (λ y. if_pieces test false (action_pieces y true [])) (sym back) in
      record {
        again = λ n rs ls h.
            let u = said_line x fits tt n (if_pieces test false (g true [])) pieces rs ls (subst (λ q. AreLinesOf q ls) (rows n rs) h) in
            let t = short_test test l.said u.said u.same in
            let v = l.again t.place (out-Statement t.action) t.same_action in
            record {
              back = u.others;
              have = u.have;
              stmt = tree.If u.at (arm t.tree_of (v.0 ∷ []) ∷ []) None;
              same = PrintedTrees.plain_if u.at (arm t.tree_of (v.0 ∷ []) ∷ []) None
                  ∙ ap (λ q. plain.If q plain.Nothing_else) (same_arm t.tree_of test (v.0 ∷ []) (s ∷ []) plain.No_arm plain.No_arm t.same (ap (λ q. plain.Then q plain.Done) v.2) refl)
                  ∙ sym (PrintedTrees.plain_if at (arm test (s ∷ []) ∷ []) None);
              nest = λ gs k. (Says u.at u.said ∷ gs, form_line ls u.others u.first u.is u.has k, subst (λ q. One Target around (Says u.at q ∷ gs) (tree.If u.at (arm t.tree_of (v.0 ∷ []) ∷ []) None) gs) (sym t.is) (nesting.if_action v.1));
            };
        stands = λ n rs h r. subst AreReadable (ap (λ q. row n q rs) (sym pieces) ∙ sym (rows n rs)) (said_stands x fits tt n rs h r);
        act = no_act around (tree.If at (arm test (s ∷ []) ∷ []) None) (if_action_none at (arm test (s ∷ []) ∷ []) None);
      }

  one_arm : (around : Inside) (at : Place) (test : Expr) (body : List Stmt) (o : Option Spelling) → lone (map print body) ≡ o → Fit IsExpr test → BodyLaw around body → ArmsLaw around [] None → OneLaw around (tree.If at (arm test body ∷ []) None)
  one_arm around at test body None e a l m =
      block_law around at test body [] None a l m
      (λ n rs. if_rows_are at test body [] None n rs ∙ ap (λ o. if_rows (record { test = test; rows = body_rows (map print body); action = o } ∷ []) None n rs) e)
  one_arm around at test body (Some g) e a l m =
      let k = l.lone g e in
      subst (λ b. OneLaw around (tree.If at (arm test b ∷ []) None)) (sym k.is)
      (short_law around at test k.only g a k.act
      (λ n rs. if_rows_are at test (k.only ∷ []) [] None n rs ∙ ap (λ o. if_rows (record { test = test; rows = body_rows (map print (k.only ∷ [])); action = o } ∷ []) None n rs) (ap (λ b. lone (map print b)) (sym k.is) ∙ e)))

  if_law : (around : Inside) (at : Place) (test : Expr) (body : List Stmt) (arms : List Arm) (other : Option (List Stmt)) → Fit IsExpr test → BodyLaw around body → ArmsLaw around arms other → OneLaw around (tree.If at (arm test body ∷ arms) other)
  if_law around at test body [] None a l m = one_arm around at test body (lone (map print body)) refl a l m
  if_law around at test body [] (Some b) a l m = block_law around at test body [] (Some b) a l m (λ n rs. if_rows_are at test body [] (Some b) n rs)
  if_law around at test body (x ∷ arms) None a l m = block_law around at test body (x ∷ arms) None a l m (λ n rs. if_rows_are at test body (x ∷ arms) None n rs)
  if_law around at test body (x ∷ arms) (Some b) a l m = block_law around at test body (x ∷ arms) (Some b) a l m (λ n rs. if_rows_are at test body (x ∷ arms) (Some b) n rs)

  -- SELECT

  record CaseOf (around : Inside) (c : Case) : Type 0 where
    ranges : List Range
    body : List Stmt
    is : c ≡ case ranges body
    fits : CaseFits ranges
    ranged : IsTrue (list_all is_range ranges)
    law : BodyLaw around body

  abbrev OtherLaw : Inside → Option (List Stmt) → Type 0
  OtherLaw around None = ⊤
  OtherLaw around (Some body) = BodyLaw around body

  record CasesAgain (around : Inside) (cases : List Case) (other : Option (List Stmt)) (rs : List Row) (ls : List TokenLine) : Type 0 where
    back : List TokenLine
    have : AreLinesOf rs back
    cases_read : List Case
    other_read : Option (List Stmt)
    same : p.cases_of (map PrintedTrees.plain_case cases_read) ≡ p.cases_of (map PrintedTrees.plain_case cases)
    same_other : p.otherwise (option_map (map p.plain_stmt) other_read) ≡ p.otherwise (option_map (map p.plain_stmt) other)
    nest : (gs : List Form) → HaveForms back gs → (fs : List Form) × HaveForms ls fs × Cases Target around fs cases_read other_read gs

  abbrev ends_select : ℕ → List Row → List Row
  ends_select n rs = row n (pair (codes "end") (codes "select") false []) rs

  abbrev cases_rows : List Case → Option (List Stmt) → ℕ → List Row → List Row
  cases_rows cases other n rs = case_rows (map print_case cases) n (default_rows (option_map (map print) other) n (ends_select n rs))

  end_select_over : (around : Inside) (at : Place) (y : Statement-F Statement) (gs : List Form) → SameStatement y Statement-F.EndSelect → Cases Target around (Says at y ∷ gs) [] None gs
  end_select_over around at y gs same_end_select = nesting.end_select

  default_over : (around : Inside) (at : Place) (y : Statement-F Statement) (body : List Stmt) (inside next gs : List Form) → SameStatement y Statement-F.CaseDefault → Body Target around inside body next → Cases Target around next [] None gs →
      Cases Target around (Says at y ∷ inside) [] (Some body) gs
  default_over around at y body inside next gs same_default b c = nesting.default b c

  default_again : (around : Inside) (other : Option (List Stmt)) → OtherLaw around other → (n : ℕ) (rs : List Row) (ls : List TokenLine) → AreLinesOf (cases_rows [] other n rs) ls → CasesAgain around [] other rs ls
  default_again around None l n rs ls h =
      let u = said_line Statement-F.EndSelect tt tt n (pair (codes "end") (codes "select") false []) refl rs ls h in
      record {
        back = u.others;
        have = u.have;
        cases_read = [];
        other_read = None;
        same = refl;
        same_other = refl;
        nest = λ gs k. (Says u.at u.said ∷ gs, form_line ls u.others u.first u.is u.has k, end_select_over around u.at u.said gs u.same);
      }
  default_again around (Some body) l n rs ls h =
      let u = said_line Statement-F.CaseDefault tt tt n (pair (codes "case") (codes "default") false []) refl (stmts_rows body (deeper n) (ends_select n rs)) ls h in
      let v = l.again (deeper n) (ends_select n rs) u.others u.have in
      let w = said_line Statement-F.EndSelect tt tt n (pair (codes "end") (codes "select") false []) refl rs v.back v.have in
      record {
        back = w.others;
        have = w.have;
        cases_read = [];
        other_read = Some v.body;
        same = refl;
        same_other = ap plain.Else v.same;
        nest = λ gs k.
            let x = v.nest (Says w.at w.said ∷ gs) (form_line v.back w.others w.first w.is w.has k) in
            (Says u.at u.said ∷ x.0, form_line ls u.others u.first u.is u.has x.1, default_over around u.at u.said v.body x.0 (Says w.at w.said ∷ gs) gs u.same x.2 (end_select_over around w.at w.said gs w.same));
      }

  ranged_bare : (l : List Range) → list_all is_range (map bare_range l) ≡ list_all is_range l
  ranged_bare [] = refl
  ranged_bare (r ∷ l) = ap (λ b. b && list_all is_range (map bare_range l)) (one r) ∙ ap (λ b. is_range r && b) (ranged_bare l)
    where
      some : (o : Option Expr) → is_some (option_map unplaced o) ≡ is_some o
      some None = refl
      some (Some e) = refl

      one : (r : Range) → is_range (bare_range r) ≡ is_range r
      one (range.One e) = refl
      one (range.Span a b) = ap (λ x. x || is_some (option_map unplaced b)) (some a) ∙ ap (λ x. is_some a || x) (some b)

  record CaseTest (ranges : List Range) (y : Statement-F Statement) : Type 0 where
    ranges_read : List Range
    is : y ≡ Statement-F.Case ranges_read
    same : map bare_range ranges_read ≡ map bare_range ranges

  case_test : (ranges : List Range) (y : Statement-F Statement) → SameStatement y (Statement-F.Case ranges) → CaseTest ranges y
  case_test ranges y (same_case {k = k} h) = record { ranges_read = k; is = refl; same = h }

  same_case_of : (k l : List Range) (b body : List Stmt) (r rest : plain.Cases) → map bare_range k ≡ map bare_range l → p.plain_stmts b ≡ p.plain_stmts body → r ≡ rest →
      PrintedTrees.plain_case (case k b) r ≡ PrintedTrees.plain_case (case l body) rest
  same_case_of k l b body r rest h i j =
      PrintedTrees.plain_a_case k b r ∙ ap (λ q. plain.Case q (p.plain_stmts b) r) (same_plain_ranges k l h) ∙ ap (λ q. plain.Case (map p.plain_range l) q r) i ∙ ap (plain.Case (map p.plain_range l) (p.plain_stmts body)) j ∙
      sym (PrintedTrees.plain_a_case l body rest)

  cases_more : (ranges : List Range) (body : List Stmt) (cases : List Case) (other : Option (List Stmt)) (n : ℕ) (rs : List Row) →
      cases_rows (case ranges body ∷ cases) other n rs ≡ row n (case_pieces ranges false []) (stmts_rows body (deeper n) (cases_rows cases other n rs))
  cases_more ranges body cases other n rs = ap (λ (q : PrintedCase). row n (case_pieces q.ranges false []) (q.rows (deeper n) (cases_rows cases other n rs))) (PrintedTrees.print_a_case ranges body)

  more_again : (around : Inside) (ranges : List Range) (body : List Stmt) (cases : List Case) (other : Option (List Stmt)) → CaseFits ranges → IsTrue (list_all is_range ranges) → BodyLaw around body →
      (n : ℕ) (rs : List Row) (ls : List TokenLine) → ((ls : List TokenLine) → AreLinesOf (cases_rows cases other n rs) ls → CasesAgain around cases other rs ls) →
      AreLinesOf (cases_rows (case ranges body ∷ cases) other n rs) ls → CasesAgain around (case ranges body ∷ cases) other rs ls
  more_again around ranges body cases other a b l n rs ls go h =
      let inner : List Row = cases_rows cases other n rs in
      let u = said_line (Statement-F.Case ranges) a tt n (case_pieces ranges false []) refl (stmts_rows body (deeper n) inner) ls (subst (λ q. AreLinesOf q ls) (cases_more ranges body cases other n rs) h) in
      let v = l.again (deeper n) inner u.others u.have in
      let w = go v.back v.have in
      let t = case_test ranges u.said u.same in
      let ranged : IsTrue (list_all is_range t.ranges_read) = sym (ranged_bare t.ranges_read) ∙ ap (list_all is_range) t.same ∙ ranged_bare ranges ∙ b in
      record {
        back = w.back;
        have = w.have;
        cases_read = case t.ranges_read v.body ∷ w.cases_read;
        other_read = w.other_read;
        same = same_case_of t.ranges_read ranges v.body body _ _ t.same v.same w.same;
        same_other = w.same_other;
        nest = λ gs k.
            let x = w.nest gs k in
            let y = v.nest x.0 x.1 in
            (Says u.at u.said ∷ y.0, form_line ls u.others u.first u.is u.has y.1, subst (λ q. Cases Target around (Says u.at q ∷ y.0) (case t.ranges_read v.body ∷ w.cases_read) w.other_read gs) (sym t.is) (nesting.case_of ranged y.2 x.2));
      }

  cases_again : (around : Inside) (cases : List Case) (other : Option (List Stmt)) → Each (CaseOf around) cases → OtherLaw around other → (n : ℕ) (rs : List Row) (ls : List TokenLine) → AreLinesOf (cases_rows cases other n rs) ls →
      CasesAgain around cases other rs ls
  cases_again around [] other a o n rs ls h = default_again around other o n rs ls h
  cases_again around (c ∷ cases) other a o n rs ls h =
      let k = a.0 in
      subst (λ q. CasesAgain around (q ∷ cases) other rs ls) (sym k.is)
      (more_again around k.ranges k.body cases other k.fits k.ranged k.law n rs ls (λ ls h. cases_again around cases other a.1 o n rs ls h) (subst (λ q. AreLinesOf (cases_rows (q ∷ cases) other n rs) ls) k.is h))

  cases_stand : (around : Inside) (cases : List Case) (other : Option (List Stmt)) → Each (CaseOf around) cases → OtherLaw around other → (n : ℕ) (rs : List Row) → n ≤ 40 → AreReadable rs → AreReadable (cases_rows cases other n rs)
  cases_stand around [] None a o n rs h r = said_stands Statement-F.EndSelect tt tt n rs h r
  cases_stand around [] (Some body) a o n rs h r =
      said_stands Statement-F.CaseDefault tt tt n (stmts_rows body (deeper n) (ends_select n rs)) h (o.stands (deeper n) (ends_select n rs) (deeper_small n) (said_stands Statement-F.EndSelect tt tt n rs h r))
  cases_stand around (c ∷ cases) other a o n rs h r =
      let k = a.0 in
      subst (λ q. AreReadable (cases_rows (q ∷ cases) other n rs)) (sym k.is)
      (subst AreReadable (sym (cases_more k.ranges k.body cases other n rs))
      (said_stands (Statement-F.Case k.ranges) k.fits tt n (stmts_rows k.body (deeper n) (cases_rows cases other n rs)) h (k.law.stands (deeper n) (cases_rows cases other n rs) (deeper_small n) (cases_stand around cases other a.1 o n rs h r))))

  record SelectTest (e : Expr) (y : Statement-F Statement) : Type 0 where
    tree_of : Expr
    is : y ≡ Statement-F.Select tree_of
    same : unplaced tree_of ≡ unplaced e

  select_test : (e : Expr) (y : Statement-F Statement) → SameStatement y (Statement-F.Select e) → SelectTest e y
  select_test e y (same_select {e = a} h) = record { tree_of = a; is = refl; same = h }

  select_law : (around : Inside) (at : Place) (on : Expr) (cases : List Case) (other : Option (List Stmt)) → Fit IsExpr on → Each (CaseOf around) cases → OtherLaw around other → OneLaw around (tree.Select at on cases other)
  select_law around at on cases other a c o =
      let rows : (n : ℕ) (rs : List Row) → (print (tree.Select at on cases other)).rows n rs ≡ row n (select_pieces on false []) (cases_rows cases other n rs) =
      λ n rs. ap (λ (q : Printed). q.rows n rs) (PrintedTrees.print_select at on cases other) in
      record {
        again = λ n rs ls h.
            let u = said_line (Statement-F.Select on) a tt n (select_pieces on false []) refl (cases_rows cases other n rs) ls (subst (λ q. AreLinesOf q ls) (rows n rs) h) in
            let v = cases_again around cases other c o n rs u.others u.have in
            let t = select_test on u.said u.same in
            record {
              back = v.back;
              have = v.have;
              stmt = tree.Select u.at t.tree_of v.cases_read v.other_read;
              same = PrintedTrees.plain_select u.at t.tree_of v.cases_read v.other_read
                  ∙ ap (λ q. plain.Select q (p.cases_of (map PrintedTrees.plain_case v.cases_read)) (p.otherwise (option_map (map p.plain_stmt) v.other_read))) (same_plain t.tree_of on t.same)
                  ∙ ap (λ q. plain.Select (p.plain_expr on) q (p.otherwise (option_map (map p.plain_stmt) v.other_read))) v.same
                  ∙ ap (plain.Select (p.plain_expr on) (p.cases_of (map PrintedTrees.plain_case cases))) v.same_other
                  ∙ sym (PrintedTrees.plain_select at on cases other);
              nest = λ gs k.
                  let x = v.nest gs k in
                  (Says u.at u.said ∷ x.0, form_line ls u.others u.first u.is u.has x.1, subst (λ q. One Target around (Says u.at q ∷ x.0) (tree.Select u.at t.tree_of v.cases_read v.other_read) gs) (sym t.is) (nesting.selects x.2));
            };
        stands = λ n rs h r. subst AreReadable (sym (rows n rs)) (said_stands (Statement-F.Select on) a tt n (cases_rows cases other n rs) h (cases_stand around cases other c o n rs h r));
        act = no_act around (tree.Select at on cases other) (ap (λ (q : Printed). q.action) (PrintedTrees.print_select at on cases other));
      }

  -- LOOPS

  abbrev ends_do : ℕ → List Row → List Row
  ends_do n rs = row n (pair (codes "end") (codes "do") false []) rs

  abbrev loop_part : Head → List Stmt → ℕ → List Row → List Row
  loop_part head body n rs = row n (do_pieces head false []) (stmts_rows body (deeper n) (ends_do n rs))

  record LoopAgain (inner : Inside) (head : Head) (body : List Stmt) (rs : List Row) (ls : List TokenLine) : Type 0 where
    back : List TokenLine
    have : AreLinesOf rs back
    at : Place
    head_read : Head
    body_read : List Stmt
    same_head : p.plain_head head_read ≡ p.plain_head head
    same_body : p.plain_stmts body_read ≡ p.plain_stmts body
    nest : (gs : List Form) → HaveForms back gs →
        (inside : List Form) × (end : Place) × HaveForms ls (Says at (Statement-F.Do head_read) ∷ inside) × Body Target inner inside body_read (Says end Statement-F.EndDo ∷ gs)

  record DoTest (head : Head) (y : Statement-F Statement) : Type 0 where
    head_of : Head
    is : y ≡ Statement-F.Do head_of
    same : bare_head head_of ≡ bare_head head

  do_test : (head : Head) (y : Statement-F Statement) → SameStatement y (Statement-F.Do head) → DoTest head y
  do_test head y (same_do {h = h} e) = record { head_of = h; is = refl; same = e }

  end_do_is : (y : Statement-F Statement) → SameStatement y Statement-F.EndDo → y ≡ Statement-F.EndDo
  end_do_is y same_end_do = refl

  loop_again_at : (inner : Inside) (head : Head) (body : List Stmt) → Fits (Statement-F.Do head) → BodyLaw inner body → (n : ℕ) (rs : List Row) (ls : List TokenLine) → AreLinesOf (loop_part head body n rs) ls → LoopAgain inner head body rs ls
  loop_again_at inner head body a l n rs ls h =
      let u = said_line (Statement-F.Do head) a tt n (do_pieces head false []) refl (stmts_rows body (deeper n) (ends_do n rs)) ls h in
      let v = l.again (deeper n) (ends_do n rs) u.others u.have in
      let w = said_line Statement-F.EndDo tt tt n (pair (codes "end") (codes "do") false []) refl rs v.back v.have in
      let t = do_test head u.said u.same in
      let ends : Says w.at w.said ≡ Says w.at Statement-F.EndDo = ap (λ q. Says w.at q) (end_do_is w.said w.same) in
      record {
        back = w.others;
        have = w.have;
        at = u.at;
        head_read = t.head_of;
        body_read = v.body;
        same_head = same_plain_head t.head_of head t.same;
        same_body = v.same;
        nest = λ gs k.
            let x = v.nest (Says w.at w.said ∷ gs) (form_line v.back w.others w.first w.is w.has k) in
            (x.0, w.at, subst (λ q. HaveForms ls (Says u.at q ∷ x.0)) t.is (form_line ls u.others u.first u.is u.has x.1), subst (λ q. Body Target inner x.0 v.body (q ∷ gs)) ends x.2);
      }

  loop_stands : (inner : Inside) (head : Head) (body : List Stmt) → Fits (Statement-F.Do head) → BodyLaw inner body → (n : ℕ) (rs : List Row) → n ≤ 40 → AreReadable rs → AreReadable (loop_part head body n rs)
  loop_stands inner head body a l n rs h r =
      said_stands (Statement-F.Do head) a tt n (stmts_rows body (deeper n) (ends_do n rs)) h (l.stands (deeper n) (ends_do n rs) (deeper_small n) (said_stands Statement-F.EndDo tt tt n rs h r))

  same_loop : (at place : Place) (h head : Head) (b body : List Stmt) (o m : Option Directive) → p.plain_head h ≡ p.plain_head head → p.plain_stmts b ≡ p.plain_stmts body → option_map p.plain_directive o ≡ option_map p.plain_directive m →
      p.plain_stmt (tree.Loop at h b o) ≡ p.plain_stmt (tree.Loop place head body m)
  same_loop at place h head b body o m e f g =
      PrintedTrees.plain_loop at h b o ∙ ap (λ q. plain.Do q (p.plain_stmts b) (option_map p.plain_directive o)) e ∙ ap (λ q. plain.Do (p.plain_head head) q (option_map p.plain_directive o)) f
      ∙ ap (plain.Do (p.plain_head head) (p.plain_stmts body)) g ∙ sym (PrintedTrees.plain_loop place head body m)

  loop_law : (around : Inside) (at : Place) (head : Head) (body : List Stmt) → Fits (Statement-F.Do head) → BodyLaw (in_loop around) body → OneLaw around (tree.Loop at head body None)
  loop_law around at head body a l =
      let rows : (n : ℕ) (rs : List Row) → (print (tree.Loop at head body None)).rows n rs ≡ loop_part head body n rs = λ n rs. ap (λ (q : Printed). q.rows n rs) (PrintedTrees.print_loop at head body None) in
      record {
        again = λ n rs ls h.
            let u = loop_again_at (in_loop around) head body a l n rs ls (subst (λ q. AreLinesOf q ls) (rows n rs) h) in
            record {
              back = u.back;
              have = u.have;
              stmt = tree.Loop u.at u.head_read u.body_read None;
              same = same_loop u.at at u.head_read head u.body_read body None None u.same_head u.same_body refl;
              nest = λ gs k. let x = u.nest gs k in (Says u.at (Statement-F.Do u.head_read) ∷ x.0, x.2, nesting.loops x.3);
            };
        stands = λ n rs h r. subst AreReadable (sym (rows n rs)) (loop_stands (in_loop around) head body a l n rs h r);
        act = no_act around (tree.Loop at head body None) (ap (λ (q : Printed). q.action) (PrintedTrees.print_loop at head body None));
      }

  pub directs_at : (l : TokenLine) (d : Directive) → l.directive ≡ true → IsLine (front_place l.tokens) l.tokens (d ∷ []) → HasForm l (Directs d)
  directs_at l d e i = subst (λ b. HasForm (record { directive = b; tokens = l.tokens }) (Directs d)) (sym e) (directs i)

  -- a mark's row before a loop
  record MarkRow (d : Directive) (n : ℕ) (X : List Row) (mark_of : Row) : Type 0 where
    is : loop_mark_rows d.word d.names n X ≡ mark_of ∷ X
    again : (l : TokenLine) → IsLineOf mark_of l → MarkAgain d l.tokens
    directive : is_mark mark_of.margin.sentinel ≡ true
    stands : n ≤ 40 → IsReadable mark_of

  marked_law : (around : Inside) (at : Place) (d : Directive) (head : Head) (body : List Stmt) (mark_of : ℕ → Row) → IsTrue (is_before_loop Target d.word) → ((n : ℕ) (X : List Row) → MarkRow d n X (mark_of n)) →
      Fits (Statement-F.Do head) → BodyLaw (in_loop_under (is_loop_mark d.word) around) body → OneLaw around (tree.Loop at head body (Some d))
  marked_law around at d head body mark_of before m a l =
      let inner : Inside = in_loop_under (is_loop_mark d.word) around in
      let rows : (n : ℕ) (rs : List Row) → (print (tree.Loop at head body (Some d))).rows n rs ≡ mark_of n ∷ loop_part head body n rs =
      λ n rs. ap (λ (q : Printed). q.rows n rs) (PrintedTrees.print_loop at head body (Some d)) ∙ (m n (loop_part head body n rs)).is in
      record {
        again = λ n rs ls h.
            let r = row_line (mark_of n) (loop_part head body n rs) ls (subst (λ q. AreLinesOf q ls) (rows n rs) h) in
            let g = (m n (loop_part head body n rs)).again r.first r.line in
            let u = loop_again_at inner head body a l n rs r.others r.have in
            record {
              back = u.back;
              have = u.have;
              stmt = tree.Loop u.at u.head_read u.body_read (Some g.mark);
              same = same_loop u.at at u.head_read head u.body_read body (Some g.mark) (Some d) u.same_head u.same_body (ap (λ q. Some q) g.same);
              nest = λ gs k.
                  let x = u.nest gs k in (
                    Directs g.mark ∷ Says u.at (Statement-F.Do u.head_read) ∷ x.0,
                    form_line ls r.others r.first r.is (directs_at r.first g.mark (r.line.directive ∙ (m n (loop_part head body n rs)).directive) g.line) x.2,
                    nesting.directed (ap (is_before_loop Target) g.word ∙ before) (subst (λ q. Body Target (in_loop_under (is_loop_mark q) around) x.0 u.body_read (Says x.1 Statement-F.EndDo ∷ gs)) (sym g.word) x.3),
                  );
            };
        stands = λ n rs h r. subst AreReadable (sym (rows n rs)) ((m n (loop_part head body n rs)).stands h, loop_stands inner head body a l n rs h r);
        act = no_act around (tree.Loop at head body (Some d)) (ap (λ (q : Printed). q.action) (PrintedTrees.print_loop at head body (Some d)));
      }

  mp_row : (d : Directive) → d.word ≡ word_of.OpenMpLoop → OnlyNames d → (n : ℕ) (X : List Row) → MarkRow d n X (record { margin = margin sentinel.OpenMp n; pieces = open_mp_pieces d.names false [] })
  mp_row d e o n X = record {
    is = ap (λ w. loop_mark_rows w d.names n X) e;
    again = λ l i. loop_again d word_of.OpenMpLoop mp_form e o l.tokens i.texts_are;
    directive = refl;
    stands = λ h. record { indented = h; pieces = open_mp_stands d.names o.names };
  }

  acc_row : (d : Directive) → d.word ≡ word_of.OpenAccLoop → OnlyNames d → (n : ℕ) (X : List Row) → MarkRow d n X (record { margin = margin sentinel.OpenAcc n; pieces = open_acc_pieces d.names false [] })
  acc_row d e o n X = record {
    is = ap (λ w. loop_mark_rows w d.names n X) e;
    again = λ l i. loop_again d word_of.OpenAccLoop acc_form e o l.tokens i.texts_are;
    directive = refl;
    stands = λ h. record { indented = h; pieces = open_acc_stands d.names o.names };
  }

  directed_law : (around : Inside) (at : Place) (d : Directive) (head : Head) (body : List Stmt) (w : DirectiveWord) → d.word ≡ w → IsTrue (is_before_loop Target w) → MarkFits d → Fits (Statement-F.Do head) →
      BodyLaw (in_loop_under (is_loop_mark d.word) around) body → OneLaw around (tree.Loop at head body (Some d))
  directed_law around at d head body word_of.OpenMpLoop e h m a l =
      marked_law around at d head body (λ n. record { margin = margin sentinel.OpenMp n; pieces = open_mp_pieces d.names false [] }) (ap (is_before_loop Target) e)
      (λ n X. mp_row d e (m.0 (ap Marks.loops e)) n X) a l
  directed_law around at d head body word_of.OpenAccLoop e h m a l =
      marked_law around at d head body (λ n. record { margin = margin sentinel.OpenAcc n; pieces = open_acc_pieces d.names false [] }) (ap (is_before_loop Target) e)
      (λ n X. acc_row d e (m.0 (ap Marks.loops e)) n X) a l
  directed_law around at d head body _ e h m a l = absurd (true≢false (sym h))

  -- ALL STATEMENTS

  never_forward : (w : DirectiveWord) → IsTrue (is_forward Target w) → ⊥
  never_forward w h = true≢false (sym h)

  never_block : (w : DirectiveWord) → IsTrue (begins_block Target w) → ⊥
  never_block w h = true≢false (sym h)

  mutual
    pub law_body : {around : Inside} {forms rest : List Form} {ss : List Stmt} → Body Target around forms ss rest → Each FormFits forms → BodyLaw around ss × Each FormFits rest
    law_body (nesting.done {around = around}) r = (law_done around, r)
    law_body (nesting.more {around = around} {s = s} {ss = ss} a b) r =
        let u = law_one a r in
        let v = law_body b u.1 in (law_more around s ss u.0 v.0, v.1)

    law_one : {around : Inside} {forms rest : List Form} {s : Stmt} → One Target around forms s rest → Each FormFits forms → OneLaw around s × Each FormFits rest
    law_one (nesting.simple {around = around} s) r = (law_simple around s (simple_fits around s r.0), r.1)
    law_one (nesting.forwarded {d = d} h) r = absurd (never_forward d.word h)
    law_one (nesting.if_action {around = around} {at = at} {test = test} {s = s} t) r =
        (if_law around at test (s ∷ []) [] None r.0.0 (law_more around s [] (law_simple around t r.0.1) (law_done around)) (law_end_if around), r.1)
    law_one (nesting.if_then {around = around} {at = at} {test = test} {body = body} {arms = arms} {other = other} b a) r =
        let u = law_body b r.1 in
        let v = law_arms a u.1 in (if_law around at test body arms other r.0 u.0 v.0, v.1)
    law_one (nesting.selects {around = around} {at = at} {on = on} {cases = cases} {other = other} c) r = let u = law_cases c r.1 in (select_law around at on cases other r.0 u.0 u.1, u.2)
    law_one (nesting.loops {around = around} {at = at} {head = head} {body = body} b) r = let u = law_body b r.1 in (loop_law around at head body r.0 u.0, u.1.1)
    law_one (nesting.directed {around = around} {d = d} {at = at} {head = head} {body = body} h b) r =
        let u = law_body b r.1.1 in (directed_law around at d head body d.word refl h r.0 r.1.0 u.0, u.1.1)
    law_one (nesting.block {d = d} h i b) r = absurd (never_block d.word h)

    law_arms : {around : Inside} {forms rest : List Form} {arms : List Arm} {other : Option (List Stmt)} → Arms Target around forms arms other rest → Each FormFits forms → ArmsLaw around arms other × Each FormFits rest
    law_arms (nesting.end_if {around = around}) r = (law_end_if around, r.1)
    law_arms (nesting.else_last {around = around} {body = body} b) r = let u = law_body b r.1 in (law_else around body u.0, u.1.1)
    law_arms (nesting.else_if {around = around} {test = test} {body = body} {arms = arms} {other = other} b a) r =
        let u = law_body b r.1 in
        let v = law_arms a u.1 in (law_else_if around test body arms other r.0 u.0 v.0, v.1)

    law_cases : {around : Inside} {forms rest : List Form} {cases : List Case} {other : Option (List Stmt)} → Cases Target around forms cases other rest → Each FormFits forms →
        Each (CaseOf around) cases × OtherLaw around other × Each FormFits rest
    law_cases nesting.end_select r = (tt, tt, r.1)
    law_cases (nesting.case_of {ranges = ranges} {body = body} h b c) r =
        let u = law_body b r.1 in
        let v = law_cases c u.1 in ((record { ranges = ranges; body = body; is = refl; fits = r.0; ranged = h; law = u.0 }, v.0), v.1, v.2)
    law_cases (nesting.default b c) r =
        let u = law_body b r.1 in
        let v = law_cases c u.1 in (v.0, u.0, v.2)

  -- WHOLE LISTS

  pub all_fit : {ls : List TokenLine} {gs : List Form} → HaveForms ls gs → Each FormFits gs
  all_fit no_form = tt
  all_fit (form {l = l} h k) = (real_fits h (all_real l.tokens), all_fit k)

  pub no_more_lines : (ls : List TokenLine) → AreLinesOf [] ls → HaveForms ls []
  no_more_lines [] h = no_form
  no_more_lines (l ∷ ls) h = absurd h

  pub statements_nest : (around : Inside) {forms rest : List Form} (ss : List Stmt) (n : ℕ) (ls : List TokenLine) → Body Target around forms ss rest → Each FormFits forms → AreLinesOf (stmts_rows ss n []) ls →
      AreStatements around ss ls
  statements_nest around ss n ls b r k =
      let a = (law_body b r).0.again n [] ls k in
      let x = a.nest [] (no_more_lines a.back a.have) in record { forms = x.0; body = a.body; have = x.1; nest = x.2; same = a.same }

  pub statements_stand : (around : Inside) {forms rest : List Form} (ss : List Stmt) (n : ℕ) → n ≤ 40 → Body Target around forms ss rest → Each FormFits forms → AreReadable (stmts_rows ss n [])
  statements_stand around ss n k b r = (law_body b r).0.stands n [] k tt
