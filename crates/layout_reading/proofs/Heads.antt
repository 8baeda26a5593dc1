-- What stands in a unit before its statements is read again.
use Rattle.std.proofs.Common.{◌≡◌, ℕ, ◌≤◌, List, [], ◌∷◌, ◌++◌, Option, None, Some, Bool, true, false, ◌&&◌, ◌||◌, map, option_map, refl, sym, ap, ◌∙◌, subst, codes, is_none}
use Rattle.std.specs.Prelude.{IsTrue}
use Rattle.std.specs.List.{list_all}
use Rattle.std.proofs.lemmas.Bool.{true≢false}
use Rattle.fort_tree.specs.declared.choice.Mode.{Mode}
use Rattle.fort_tree.specs.declared.choice.Mode.TheVariants.{Source, Target}
use Rattle.fort_tree.specs.declared.place.Place.{Place}
use Rattle.fort_tree.specs.declared.expr.Expr.{Expr}
use Rattle.fort_tree.specs.declared.statement.Statement.{Statement}
use Rattle.fort_tree.specs.declared.statement.Statement.TheOpen.{Statement-F}
use Rattle.fort_tree.specs.declared.stmt.Directive.{Directive}
use Rattle.fort_tree.specs.declared.stmt.DirectiveWord.{DirectiveWord}
use Rattle.fort_tree.specs.declared.stmt.DirectiveWord.TheVariants as word_of
use Rattle.fort_tree.specs.declared.unit.Bound.{Bound}
use Rattle.fort_tree.specs.declared.unit.Decl.{Decl}
use Rattle.fort_tree.specs.declared.unit.Use.{Use}
use Rattle.fort_tree.specs.Unplaced.{unplaced}
use Rattle.fort_spell.specs.declared.line.Sentinel.TheVariants as sentinel
use Rattle.fort_spell.specs.Pieces.{pair}
use Rattle.fort_spell.specs.Rows.{Row, mark_row, margin}
use Rattle.fort_spell.specs.Units.{use_pieces, decl_pieces, own_implicit_rows, routine_rows, uses_rows, decls_rows, routines_rows}
use Rattle.claw_meaning.specs.Plain as p
use Rattle.sound_programs.specs.Forms.{Form, Says, Directs, is_scalar_shape, is_entity, is_routine}
use Rattle.sound_programs.specs.Nesting as nesting
use Rattle.sound_programs.specs.Nesting.{Uses, Implicit, Declares, Marked}
use Rattle.layout_reading.specs.Readable.{AreReadable}
use Rattle.layout_reading.specs.Statements.{names, bare_bound, bare_decl, SameStatement, same_use, same_implicit, same_declare}
use Rattle.layout_reading.specs.FormLines.{TokenLine, HaveForms, AreLinesOf as AreLinesIn}
use Rattle.layout_reading.proofs.Keywords.{Free}
use Rattle.layout_reading.proofs.Statements.{OnlyFits}
use Rattle.layout_reading.proofs.Declarations.{Each, DeclFit, variable, constant}
use Rattle.layout_reading.proofs.Marks
use Rattle.layout_reading.proofs.Marks.{OnlyNames, routine_again, routine_stands}
use Rattle.layout_reading.proofs.Plain.{same_plain_decl}
use Rattle.layout_reading.proofs.Bodies.{FormFits, row_line, said_line, form_line, said_stands, directs_at}

is_source : Mode → Bool
is_source Source = true
is_source Target = false

never_source : Target ≡ Source → ⊥
unfolding is_source
never_source e = true≢false (sym (ap is_source e))

-- USE

abbrev pub UseFits : Use → Type 0
UseFits u = Free u.name × OnlyFits u.only

pub uses_fit : {forms rest : List Form} {lines : List Use} {marks : List Directive} → Uses Target forms lines marks rest → Each FormFits forms → Each UseFits lines × (marks ≡ []) × Each FormFits rest
uses_fit nesting.no_more_uses r = (tt, refl, r)
uses_fit (nesting.uses d) r = let u = uses_fit d r.1 in ((r.0, u.0), u.1, u.2)
uses_fit (nesting.directs_use h d) r = absurd (never_source h.0)

-- IMPLICIT

pub implicit_fit : {forms rest : List Form} → Implicit Target forms rest → Each FormFits forms → Each FormFits rest
implicit_fit nesting.unsaid r = r
implicit_fit nesting.said r = r.1

-- DECLARATIONS

pub each_both : {A : Type 0} (P : A → Type 0) (k l : List A) → Each P k → Each P l → Each P (k ++ l)
each_both P [] l a b = b
each_both P (x ∷ k) l a b = (a.0, each_both P k l a.1 b)

pub declares_fit : {forms rest : List Form} {decls : List Decl} {marks : List Directive} → Declares Target forms decls marks rest → Each FormFits forms → Each DeclFit decls × (marks ≡ []) × Each FormFits rest
declares_fit nesting.no_more_decls r = (tt, refl, r)
declares_fit (nesting.declares {line = line} {decls = decls} h d) r = let u = declares_fit d r.1 in (each_both DeclFit line decls r.0 u.0, u.1, u.2)
declares_fit (nesting.directs_decl h d) r = absurd (never_source h.0)

fit_entity : (d : Decl) → DeclFit d → is_entity d ≡ true
fit_entity d (variable free a) = refl
fit_entity d (constant free a) = refl

bare_entity : (d : Decl) → is_entity (bare_decl d) ≡ is_entity d
bare_entity d = ap (λ b. b || (is_scalar_shape (map bare_bound d.shape) && is_none d.intent)) (none d.value) ∙ ap (λ b. is_none d.value || (b && is_none d.intent)) (scalar d.shape)
  where
    none : (o : Option Expr) → is_none (option_map unplaced o) ≡ is_none o
    none None = refl
    none (Some e) = refl

    scalar : (l : List Bound) → is_scalar_shape (map bare_bound l) ≡ is_scalar_shape l
    scalar [] = refl
    scalar (b ∷ l) = refl

entity_again : (d e : Decl) → bare_decl d ≡ bare_decl e → DeclFit e → is_entity d ≡ true
entity_again d e h a = sym (bare_entity d) ∙ ap is_entity h ∙ bare_entity e ∙ fit_entity e a

-- MARKS OF A UNIT

pub data MarksFit : List Directive → Type 0 where
  no_mark : MarksFit []
  one_mark : {d : Directive} → d.word ≡ word_of.Routine → OnlyNames d → d.names ≡ [] → MarksFit (d ∷ [])

routine_is : (w : DirectiveWord) → IsTrue (is_routine w) → w ≡ word_of.Routine
routine_is word_of.Routine h = refl
routine_is _ h = absurd (true≢false (sym h))

pub marked_fit : {forms rest : List Form} {marks : List Directive} → Marked Target forms marks rest → Each FormFits forms → MarksFit marks × Each FormFits rest
marked_fit nesting.unmarked r = (no_mark, r)
marked_fit (nesting.marked {d = d} m h) r =
    let e = routine_is d.word h in
    let o = r.0.1 (ap Marks.is_unit_mark e) in (one_mark e o.0 o.1, r.1)

module _ (file : ℕ) where
  abbrev AreLinesOf : List Row → List TokenLine → Type 0
  AreLinesOf rows lines = AreLinesIn file rows lines

  -- READ AGAIN

  pub record UsesAgain (lines : List Use) (rs : List Row) (ls : List TokenLine) : Type 0 where
    pub back : List TokenLine
    pub have : AreLinesOf rs back
    pub read : List Use
    pub same : map p.plain_use read ≡ map p.plain_use lines
    pub nest : (gs : List Form) → HaveForms back gs → (fs : List Form) × HaveForms ls fs × Uses Target fs read [] gs

  record UseTest (u : Use) (y : Statement-F Statement) : Type 0 where
    use_of : Use
    is : y ≡ Statement-F.Using use_of
    same : p.plain_use use_of ≡ p.plain_use u

  use_test : (u : Use) (y : Statement-F Statement) → SameStatement y (Statement-F.Using u) → UseTest u y
  use_test u y (same_use {u = v} e h) = record { use_of = v; is = refl; same = ap (λ x. record { name = x; only = option_map names v.only }) e ∙ ap (λ x. record { name = u.name; only = x }) h }

  pub uses_again : (lines : List Use) → Each UseFits lines → (n : ℕ) (rs : List Row) (ls : List TokenLine) → AreLinesOf (uses_rows lines n rs) ls → UsesAgain lines rs ls
  uses_again [] a n rs ls h = record { back = ls; have = h; read = []; same = refl; nest = λ gs k. (gs, k, nesting.no_more_uses) }
  uses_again (u ∷ lines) a n rs ls h =
      let l = said_line file (Statement-F.Using u) a.0 tt n (use_pieces u false []) refl (uses_rows lines n rs) ls h in
      let v = uses_again lines a.1 n rs l.others l.have in
      let t = use_test u l.said l.same in
      record {
        back = v.back;
        have = v.have;
        read = t.use_of ∷ v.read;
        same = ap (λ x. x ∷ map p.plain_use v.read) t.same ∙ ap (λ x. p.plain_use u ∷ x) v.same;
        nest = λ gs k.
            let x = v.nest gs k in
            (Says l.at l.said ∷ x.0, form_line file ls l.others l.first l.is l.has x.1, subst (λ q. Uses Target (Says l.at q ∷ x.0) (t.use_of ∷ v.read) [] gs) (sym t.is) (nesting.uses x.2));
      }

  pub uses_stand : (lines : List Use) → Each UseFits lines → (n : ℕ) (rs : List Row) → n ≤ 40 → AreReadable rs → AreReadable (uses_rows lines n rs)
  uses_stand [] a n rs h r = r
  uses_stand (u ∷ lines) a n rs h r = said_stands file (Statement-F.Using u) a.0 tt n (uses_rows lines n rs) h (uses_stand lines a.1 n rs h r)

  pub record ImplicitAgain (rs : List Row) (ls : List TokenLine) : Type 0 where
    pub back : List TokenLine
    pub have : AreLinesOf rs back
    pub nest : (gs : List Form) → HaveForms back gs → (fs : List Form) × HaveForms ls fs × Implicit Target fs gs

  implicit_over : (at : Place) (y : Statement-F Statement) (gs : List Form) → SameStatement y Statement-F.ImplicitNone → Implicit Target (Says at y ∷ gs) gs
  implicit_over at y gs same_implicit = nesting.said

  pub implicit_again : (host : Option ℕ) (n : ℕ) (rs : List Row) (ls : List TokenLine) → AreLinesOf (own_implicit_rows host n rs) ls → ImplicitAgain rs ls
  implicit_again None n rs ls h =
      let l = said_line file Statement-F.ImplicitNone tt tt n (pair (codes "implicit") (codes "none") false []) refl rs ls h in
      record { back = l.others; have = l.have; nest = λ gs k. (Says l.at l.said ∷ gs, form_line file ls l.others l.first l.is l.has k, implicit_over l.at l.said gs l.same) }
  implicit_again (Some host) n rs ls h = record { back = ls; have = h; nest = λ gs k. (gs, k, nesting.unsaid) }

  pub implicit_stands : (host : Option ℕ) (n : ℕ) (rs : List Row) → n ≤ 40 → AreReadable rs → AreReadable (own_implicit_rows host n rs)
  implicit_stands None n rs h r = said_stands file Statement-F.ImplicitNone tt tt n rs h r
  implicit_stands (Some host) n rs h r = r

  pub record DeclsAgain (decls : List Decl) (rs : List Row) (ls : List TokenLine) : Type 0 where
    pub back : List TokenLine
    pub have : AreLinesOf rs back
    pub read : List Decl
    pub same : map p.plain_decl read ≡ map p.plain_decl decls
    pub nest : (gs : List Form) → HaveForms back gs → (fs : List Form) × HaveForms ls fs × Declares Target fs read [] gs

  record DeclTest (d : Decl) (y : Statement-F Statement) : Type 0 where
    decl_of : Decl
    is : y ≡ Statement-F.Declare (decl_of ∷ [])
    same : bare_decl decl_of ≡ bare_decl d

  decl_test : (d : Decl) (y : Statement-F Statement) → SameStatement y (Statement-F.Declare (d ∷ [])) → DeclTest d y
  decl_test d y (same_declare {d = e} h) = record { decl_of = e; is = refl; same = h }

  pub decls_again : (decls : List Decl) → Each DeclFit decls → (n : ℕ) (rs : List Row) (ls : List TokenLine) → AreLinesOf (decls_rows decls n rs) ls → DeclsAgain decls rs ls
  decls_again [] a n rs ls h = record { back = ls; have = h; read = []; same = refl; nest = λ gs k. (gs, k, nesting.no_more_decls) }
  decls_again (d ∷ decls) a n rs ls h =
      let l = said_line file (Statement-F.Declare (d ∷ [])) (a.0, tt) tt n (decl_pieces d false []) refl (decls_rows decls n rs) ls h in
      let v = decls_again decls a.1 n rs l.others l.have in
      let t = decl_test d l.said l.same in
      let e : IsTrue (list_all is_entity (t.decl_of ∷ [])) = ap (λ b. b && true) (entity_again t.decl_of d t.same a.0) in
      record {
        back = v.back;
        have = v.have;
        read = t.decl_of ∷ v.read;
        same = ap (λ x. x ∷ map p.plain_decl v.read) (same_plain_decl t.decl_of d t.same) ∙ ap (λ x. p.plain_decl d ∷ x) v.same;
        nest = λ gs k.
            let x = v.nest gs k in
            (Says l.at l.said ∷ x.0, form_line file ls l.others l.first l.is l.has x.1, subst (λ q. Declares Target (Says l.at q ∷ x.0) (t.decl_of ∷ v.read) [] gs) (sym t.is) (nesting.declares e x.2));
      }

  pub decls_stand : (decls : List Decl) → Each DeclFit decls → (n : ℕ) (rs : List Row) → n ≤ 40 → AreReadable rs → AreReadable (decls_rows decls n rs)
  decls_stand [] a n rs h r = r
  decls_stand (d ∷ decls) a n rs h r = said_stands file (Statement-F.Declare (d ∷ [])) (a.0, tt) tt n (decls_rows decls n rs) h (decls_stand decls a.1 n rs h r)

  pub record MarksAgain (marks : List Directive) (rs : List Row) (ls : List TokenLine) : Type 0 where
    pub back : List TokenLine
    pub have : AreLinesOf rs back
    pub read : List Directive
    pub same : map p.plain_directive read ≡ map p.plain_directive marks
    pub nest : (gs : List Form) → HaveForms back gs → (fs : List Form) × HaveForms ls fs × Marked Target fs read gs

  routine_row : (d : Directive) → d.word ≡ word_of.Routine → (n : ℕ) (rs : List Row) → routines_rows (d ∷ []) n rs ≡ mark_row sentinel.OpenAcc n (pair (codes "routine") (codes "seq") false []) rs
  routine_row d e n rs = ap (λ w. routine_rows w n rs) e

  pub marks_again : (marks : List Directive) → MarksFit marks → (n : ℕ) (rs : List Row) (ls : List TokenLine) → AreLinesOf (routines_rows marks n rs) ls → MarksAgain marks rs ls
  marks_again marks no_mark n rs ls h = record { back = ls; have = h; read = []; same = refl; nest = λ gs k. (gs, k, nesting.unmarked) }
  marks_again marks (one_mark {d = d} e o m) n rs ls h =
      let r = row_line file (record { margin = margin sentinel.OpenAcc n; pieces = pair (codes "routine") (codes "seq") false [] }) rs ls (subst (λ q. AreLinesOf q ls) (routine_row d e n rs) h) in
      let g = routine_again d e o m r.first.tokens r.line.texts_are in
      record {
        back = r.others;
        have = r.have;
        read = g.mark ∷ [];
        same = ap (λ x. x ∷ []) g.same;
        nest = λ gs k. (Directs g.mark ∷ gs, form_line file ls r.others r.first r.is (directs_at file r.first g.mark r.line.directive g.line) k, nesting.marked refl (ap is_routine (g.word ∙ e)));
      }

  pub marks_stand : (marks : List Directive) → MarksFit marks → (n : ℕ) (rs : List Row) → n ≤ 40 → AreReadable rs → AreReadable (routines_rows marks n rs)
  marks_stand marks no_mark n rs h r = r
  marks_stand marks (one_mark {d = d} e o m) n rs h r = subst AreReadable (sym (routine_row d e n rs)) (record { indented = h; pieces = routine_stands }, r)
