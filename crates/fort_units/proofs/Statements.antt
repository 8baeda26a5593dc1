-- Each statement that may stand and brings no fault is a step on the way to a program.
use Rattle.std.proofs.Common.{◌≡◌, ℕ, suc, ◌+◌, length, List, [], ◌∷◌, ◌++◌, Bool, true, false, Option, None, Some, refl, sym, subst, ◌∙◌, IsTrue}
use Rattle.std.specs.List.{list_all}
use Rattle.std.specs.Str.{bytes_eq}
use Rattle.std.proofs.lemmas.Bool.{false≢true, and_parts}
use Rattle.std.proofs.lemmas.Slice.Eq.{bytes_eq-Decides}
use Rattle.fort_arith.specs.declared.kind.Kind.{Kind}
use Rattle.fort_tree.specs.declared.choice.Mode.{Mode}
use Rattle.fort_tree.specs.declared.place.Place.{Place}
use Rattle.fort_tree.specs.declared.statement.EndWord.{EndWord}
use Rattle.fort_tree.specs.declared.statement.EndWord.TheVariants as word
use Rattle.fort_tree.specs.declared.statement.Statement.TheOpen.{Statement-F}
use Rattle.fort_tree.specs.declared.stmt.Directive.{Directive}
use Rattle.fort_tree.specs.declared.stmt.Named.{Named}
use Rattle.fort_tree.specs.declared.unit.Decl.{Decl}
use Rattle.fort_tree.specs.declared.unit.Unit as unit
use Rattle.fort_tree.specs.declared.unit.Use.{Use}
use Rattle.sound_programs.specs.Forms.{Form, Says, is_entity}
use Rattle.sound_programs.specs.Nesting.{in_unit, Body, uses, no_more_uses, said, declares, Head-part, Ends, bare, with_word, with_name, IsUnit, subroutine, function, no_more_units, a_unit, Contained, contains_none, contains, a_module, module_first, unit_first}
use Rattle.fort_units.specs.declared.around.Block.{Block}
use Rattle.fort_units.specs.declared.around.Heading.{Heading}
use Rattle.fort_units.specs.declared.around.Waiting.{Waiting}
use Rattle.fort_stmt.specs.declared.sort.Sort.{Sort}
use Rattle.fort_stmt.specs.declared.sort.Sort.TheVariants as sort
use Rattle.fort_units.specs.Opens.{may_stand, ends, same_word}
use Rattle.fort_units.specs.Faults.{statement_faults}
use Rattle.fort_units.specs.Passing.{behind_sort}
use Rattle.fort_units.proofs.Shapes.{nonempty, Nest, base, Shape, top, module_head, contained, unit_head, early, body, word_of, around_of, InNest, EndsThen, OnTop, InModule, AfterUnit, ContainedThen, FullHead, LateHead, InHead, OwesNone, Owed, UnitEnd, Nested, at_once, late_full, head_over, none_alone}

-- both parts of an empty list are empty
pub both_empty : {A : Type 0} (xs ys : List A) → xs ++ ys ≡ [] → (xs ≡ []) × (ys ≡ [])
both_empty [] ys h = (refl, h)
both_empty (x ∷ xs) ys h = absurd (nonempty h)

-- a word as an END says it
same_words : (a b : EndWord) → same_word a b ≡ true → a ≡ b
same_words word.Module word.Module h = refl
same_words word.Subroutine word.Subroutine h = refl
same_words word.Function word.Function h = refl
same_words a b h = absurd (false≢true h)

module _ (mode : Mode) where
  -- ---- END lines

  ends_so : (w : Option EndWord) (name : Option (List ℕ)) (h : Heading) (at header : Place) → ends w name h ≡ true → at.file ≡ header.file →
      Ends mode h.word h.name header (Says at (Statement-F.End w name))
  ends_so None None h at header e f = bare f
  ends_so None (Some n) h at header e f = absurd (false≢true e)
  ends_so (Some w) None h at header e f =
      subst (λ v. Ends mode v h.name header (Says at (Statement-F.End (Some w) None))) (same_words w h.word (and_parts (same_word w h.word) true e).0) (with_word f)
  ends_so (Some w) (Some n) h at header e f =
      let parts = and_parts (same_word w h.word) (bytes_eq n h.name) e in
      subst (λ v. Ends mode v h.name header (Says at (Statement-F.End (Some w) (Some n)))) (same_words w h.word parts.0)
      (subst (λ v. Ends mode w v header (Says at (Statement-F.End (Some w) (Some n)))) ((bytes_eq-Decides n h.name).0 parts.1) (with_name f))

  -- the END here is what was wanted
  ends_here : (file : ℕ) (w : Option EndWord) (name : Option (List ℕ)) (h : Heading) (at : Place) (K : List Form → Type 0) (forms : List Form) → at.file ≡ file →
      ends w name h ≡ true → K forms → EndsThen mode file h.word h.name K (Says at (Statement-F.End w name) ∷ forms)
  ends_here file w name h at K forms f e k =
      record { end = Says at (Statement-F.End w name); rest = forms; is = refl; ends = λ header g. ends_so w name h at header e (f ∙ sym g); follows = k }

  -- ---- Lines of heads

  full_use : (Owes : List Directive → List Directive → Type 0) (K : List Form → Type 0) (forms : List Form) (at : Place) (line : Use) → FullHead mode Owes K forms →
      FullHead mode Owes K (Says at (Statement-F.Using line) ∷ forms)
  full_use Owes K forms at line h = record {
    lines = line ∷ h.lines;
    decls = h.decls;
    pair = h.pair;
    mark = h.mark;
    inside = h.inside;
    head = record {
      after_uses = h.head.after_uses;
      after_implicit = h.head.after_implicit;
      after_decls = h.head.after_decls;
      among_uses = h.head.among_uses;
      among_decls = h.head.among_decls;
      used = uses h.head.used;
      implicit = h.head.implicit;
      declared = h.head.declared;
      paired = h.head.paired;
      marked = h.head.marked;
    };
    owes = h.owes;
    follows = h.follows;
  }

  full_implicit : (Owes : List Directive → List Directive → Type 0) (K : List Form → Type 0) (forms : List Form) (at : Place) → LateHead mode Owes K forms →
      FullHead mode Owes K (Says at Statement-F.ImplicitNone ∷ forms)
  full_implicit Owes K forms at l = record {
    lines = [];
    decls = l.decls;
    pair = l.pair;
    mark = l.mark;
    inside = l.inside;
    head = record {
      after_uses = Says at Statement-F.ImplicitNone ∷ forms;
      after_implicit = forms;
      after_decls = l.after_decls;
      among_uses = [];
      among_decls = l.pair;
      used = no_more_uses;
      implicit = said;
      declared = l.declared;
      paired = refl;
      marked = l.marked;
    };
    owes = l.owes;
    follows = l.follows;
  }

  late_declare : (Owes : List Directive → List Directive → Type 0) (K : List Form → Type 0) (forms : List Form) (at : Place) (line : List Decl) → IsTrue (list_all is_entity line) →
      LateHead mode Owes K forms → LateHead mode Owes K (Says at (Statement-F.Declare line) ∷ forms)
  late_declare Owes K forms at line e h = record {
    decls = line ++ h.decls;
    pair = h.pair;
    mark = h.mark;
    after_decls = h.after_decls;
    inside = h.inside;
    declared = declares e h.declared;
    marked = h.marked;
    owes = h.owes;
    follows = h.follows;
  }

  declare_in : (uses : Bool) (Owes : List Directive → List Directive → Type 0) (K : List Form → Type 0) (forms : List Form) (at : Place) (line : List Decl) → IsTrue (list_all is_entity line) →
      LateHead mode Owes K forms → InHead mode uses Owes K (Says at (Statement-F.Declare line) ∷ forms)
  declare_in true Owes K forms at line e h = late_full mode Owes K (Says at (Statement-F.Declare line) ∷ forms) (late_declare Owes K forms at line e h)
  declare_in false Owes K forms at line e h = late_declare Owes K forms at line e h

  -- ---- Statements at the top and in heads

  -- what is known of the lines behind this one
  abbrev pub Ahead : ℕ → ℕ → Option Waiting → Shape → Place → Sort → List Form → Type 0
  Ahead file line w s at kind forms =
      (next : Shape) → record (behind_sort (around_of file line w s) kind) { waiting = None; line = at.line } ≡ around_of file at.line None next → Nested mode file next forms

  abbrev pub Stands : ℕ → ℕ → Option Waiting → Shape → Sort → Type 0
  Stands file line w s kind = may_stand (around_of file line w s) kind ≡ true

  abbrev pub Clean : ℕ → ℕ → Option Waiting → Shape → Place → Sort → Type 0
  Clean file line w s at kind = statement_faults mode (around_of file line w s) at kind ≡ []

  pub begins_module : (file line : ℕ) (w : Option Waiting) (s : Shape) (at : Place) (name : Named) (forms : List Form) → at.file ≡ file → Stands file line w s (sort.Module name.name) →
      Ahead file line w s at (sort.Module name.name) forms → Nested mode file s (Says at (Statement-F.Module name) ∷ forms)
  begins_module file line w top at name forms f m ahead = λ number units.
      let h = ahead (module_head true name.name) refl number in
      let c = h.follows in
      let e = c.follows in
      let r = e.follows (suc number) (units + length c.units) in
      record {
        modules = _ ∷ r.modules;
        units = c.units ++ r.units;
        order = _ ∷ r.order;
        nests = module_first (a_module (subst (λ marks. Head-part mode forms h.lines h.decls [] marks h.inside) h.owes.1 (subst (λ pair. Head-part mode forms h.lines h.decls pair h.mark h.inside) h.owes.0 h.head))
            (subst (λ next. Contained mode number h.inside c.units next) e.is c.are) (e.ends at f)) r.nests;
      }
  begins_module file line w s at name forms f m ahead = absurd (false≢true m)

  pub begins_units : (file line : ℕ) (w : Option Waiting) (s : Shape) (at : Place) (forms : List Form) → Stands file line w s sort.Contains → Ahead file line w s at sort.Contains forms →
      Nested mode file s (Says at Statement-F.Contains ∷ forms)
  begins_units file line w (module_head true h) at forms m ahead = λ number.
      let c = ahead (contained h) refl number in
      head_over mode true (OwesNone mode) (ContainedThen mode number (EndsThen mode file word.Module h (OnTop mode))) (Says at Statement-F.Contains ∷ forms) (refl, refl)
      (record { units = c.units; rest = c.rest; are = contains c.are; follows = c.follows })
  begins_units file line w (module_head false h) at forms m ahead = λ number.
      let c = ahead (contained h) refl number in
      head_over mode false (OwesNone mode) (ContainedThen mode number (EndsThen mode file word.Module h (OnTop mode))) (Says at Statement-F.Contains ∷ forms) (refl, refl)
      (record { units = c.units; rest = c.rest; are = contains c.are; follows = c.follows })
  begins_units file line w s at forms m ahead = absurd (false≢true m)

  -- a unit, and then what follows it
  record UnitThen (host : Option ℕ) (K : List Form → Type 0) (forms : List Form) : Type 0 where
    a : unit.Unit
    rest : List Form
    is : IsUnit mode host forms a rest
    follows : K rest

  a_subroutine : (host : Option ℕ) (file : ℕ) (at : Place) (name : Named) (dummies : List Named) (K : List Form → Type 0) (forms : List Form) → at.file ≡ file →
      FullHead mode (Owed mode true None None) (InNest mode (base 0 []) (EndsThen mode file word.Subroutine name.name K)) forms →
      UnitThen host K (Says at (Statement-F.Subroutine name dummies) ∷ forms)
  a_subroutine host file at name dummies K forms f h =
      let b = h.follows in
      let e = b.follows in
      record {
        a = _;
        rest = e.rest;
        is = subroutine h.head h.owes (subst (λ next. Body mode in_unit h.inside b.stmts next) e.is b.filled) (e.ends at f);
        follows = e.follows;
      }

  a_function : (host : Option ℕ) (file : ℕ) (at : Place) (prefix : Option (Kind × Place)) (name : Named) (dummies : List Named) (outcome : Option Named) (K : List Form → Type 0) (forms : List Form) → at.file ≡ file →
      FullHead mode (Owed mode false None None) (InNest mode (base 0 []) (EndsThen mode file word.Function name.name K)) forms →
      UnitThen host K (Says at (Statement-F.Function prefix name dummies outcome) ∷ forms)
  a_function host file at prefix name dummies outcome K forms f h =
      let b = h.follows in
      let e = b.follows in
      record {
        a = _;
        rest = e.rest;
        is = function (subst (λ pair. Head-part mode forms h.lines h.decls pair h.mark h.inside) h.owes h.head) (subst (λ next. Body mode in_unit h.inside b.stmts next) e.is b.filled) (e.ends at f);
        follows = e.follows;
      }

  unit_on_top : (forms : List Form) → UnitThen None (OnTop mode) forms → OnTop mode forms
  unit_on_top forms u number units =
      let r = u.follows number (suc units) in
      record { modules = r.modules; units = u.a ∷ r.units; order = _ ∷ r.order; nests = unit_first u.is r.nests }

  unit_in_module : (file : ℕ) (h : List ℕ) (forms : List Form) → ((host : Option ℕ) → UnitThen host (InModule mode file h) forms) → InModule mode file h forms
  unit_in_module file h forms u number =
      let first = u (Some number) in
      let r = first.follows number in
      record { units = first.a ∷ r.units; rest = r.rest; are = a_unit first.is r.are; follows = r.follows }

  pub begins_subroutine : (file line : ℕ) (w : Option Waiting) (s : Shape) (at : Place) (name : Named) (dummies : List Named) (forms : List Form) → at.file ≡ file →
      Stands file line w s (sort.Subroutine name.name) → Ahead file line w s at (sort.Subroutine name.name) forms → Nested mode file s (Says at (Statement-F.Subroutine name dummies) ∷ forms)
  begins_subroutine file line w top at name dummies forms f m ahead =
      unit_on_top (Says at (Statement-F.Subroutine name dummies) ∷ forms) (a_subroutine None file at name dummies (OnTop mode) forms f (ahead (unit_head None true true name.name None None) refl))
  begins_subroutine file line w (contained h) at name dummies forms f m ahead =
      unit_in_module file h (Says at (Statement-F.Subroutine name dummies) ∷ forms)
      (λ host. a_subroutine host file at name dummies (InModule mode file h) forms f (ahead (unit_head (Some h) true true name.name None None) refl))
  begins_subroutine file line w (module_head true h) at name dummies forms f m ahead = absurd (false≢true m)
  begins_subroutine file line w (module_head false h) at name dummies forms f m ahead = absurd (false≢true m)
  begins_subroutine file line w s at name dummies forms f m ahead = absurd (false≢true m)

  pub begins_function : (file line : ℕ) (w : Option Waiting) (s : Shape) (at : Place) (prefix : Option (Kind × Place)) (name : Named) (dummies : List Named) (outcome : Option Named) (forms : List Form) →
      at.file ≡ file → Stands file line w s (sort.Function name.name) → Ahead file line w s at (sort.Function name.name) forms →
      Nested mode file s (Says at (Statement-F.Function prefix name dummies outcome) ∷ forms)
  begins_function file line w top at prefix name dummies outcome forms f m ahead =
      unit_on_top (Says at (Statement-F.Function prefix name dummies outcome) ∷ forms)
      (a_function None file at prefix name dummies outcome (OnTop mode) forms f (ahead (unit_head None true false name.name None None) refl))
  begins_function file line w (contained h) at prefix name dummies outcome forms f m ahead =
      unit_in_module file h (Says at (Statement-F.Function prefix name dummies outcome) ∷ forms)
      (λ host. a_function host file at prefix name dummies outcome (InModule mode file h) forms f (ahead (unit_head (Some h) true false name.name None None) refl))
  begins_function file line w (module_head true h) at prefix name dummies outcome forms f m ahead = absurd (false≢true m)
  begins_function file line w (module_head false h) at prefix name dummies outcome forms f m ahead = absurd (false≢true m)
  begins_function file line w s at prefix name dummies outcome forms f m ahead = absurd (false≢true m)

  pub a_use : (file line : ℕ) (w : Option Waiting) (s : Shape) (at : Place) (u : Use) (forms : List Form) → Stands file line w s sort.Use → Clean file line w s at sort.Use →
      Ahead file line w s at sort.Use forms → Nested mode file s (Says at (Statement-F.Using u) ∷ forms)
  a_use file line w (module_head true h) at u forms m c ahead = λ number.
      full_use (OwesNone mode) (ContainedThen mode number (EndsThen mode file word.Module h (OnTop mode))) forms at u (ahead (module_head true h) refl number)
  a_use file line w (unit_head host true sub name d p) at u forms m c ahead =
      full_use (Owed mode sub d p) (InNest mode (base 0 []) (UnitEnd mode file host sub name)) forms at u (ahead (unit_head host true sub name d p) refl)
  a_use file line w (early host true sub name d p place depth bs) at u forms m c ahead = absurd (nonempty c)
  a_use file line w (module_head false h) at u forms m c ahead = absurd (false≢true m)
  a_use file line w (unit_head host false sub name d p) at u forms m c ahead = absurd (false≢true m)
  a_use file line w (early host false sub name d p place depth bs) at u forms m c ahead = absurd (false≢true m)
  a_use file line w s at u forms m c ahead = absurd (false≢true m)

  pub an_implicit : (file line : ℕ) (w : Option Waiting) (s : Shape) (at : Place) (forms : List Form) → Stands file line w s sort.ImplicitNone → Clean file line w s at sort.ImplicitNone →
      Ahead file line w s at sort.ImplicitNone forms → Nested mode file s (Says at Statement-F.ImplicitNone ∷ forms)
  an_implicit file line w (module_head true h) at forms m c ahead = λ number.
      full_implicit (OwesNone mode) (ContainedThen mode number (EndsThen mode file word.Module h (OnTop mode))) forms at (ahead (module_head false h) refl number)
  an_implicit file line w (unit_head host true sub name d p) at forms m c ahead =
      full_implicit (Owed mode sub d p) (InNest mode (base 0 []) (UnitEnd mode file host sub name)) forms at (ahead (unit_head host false sub name d p) refl)
  an_implicit file line w (early host true sub name d p place depth bs) at forms m c ahead = absurd (nonempty c)
  an_implicit file line w (module_head false h) at forms m c ahead = absurd (false≢true m)
  an_implicit file line w (unit_head host false sub name d p) at forms m c ahead = absurd (false≢true m)
  an_implicit file line w (early host false sub name d p place depth bs) at forms m c ahead = absurd (false≢true m)
  an_implicit file line w s at forms m c ahead = absurd (false≢true m)

  pub a_declaration : (file line : ℕ) (w : Option Waiting) (s : Shape) (at : Place) (l : List Decl) (forms : List Form) → IsTrue (list_all is_entity l) → Stands file line w s sort.Declare →
      Clean file line w s at sort.Declare → Ahead file line w s at sort.Declare forms → Nested mode file s (Says at (Statement-F.Declare l) ∷ forms)
  a_declaration file line w (module_head u h) at l forms e m c ahead = λ number.
      declare_in u (OwesNone mode) (ContainedThen mode number (EndsThen mode file word.Module h (OnTop mode))) forms at l e (ahead (module_head false h) refl number)
  a_declaration file line w (unit_head host u sub name d p) at l forms e m c ahead =
      declare_in u (Owed mode sub d p) (InNest mode (base 0 []) (UnitEnd mode file host sub name)) forms at l e (ahead (unit_head host false sub name d p) refl)
  a_declaration file line w (early host u sub name d p place depth bs) at l forms e m c ahead = absurd (nonempty c)
  a_declaration file line w s at l forms e m c ahead = absurd (false≢true m)

  -- ---- END

  ends_unit_head : (file line : ℕ) (w : Option Waiting) (host : Option (List ℕ)) (u sub : Bool) (name : List ℕ) (d p : Option Place) (at : Place) (spoken : Option EndWord) (n : Option (List ℕ))
      (forms : List Form) → at.file ≡ file → Stands file line w (unit_head host u sub name d p) (sort.End spoken n) → Clean file line w (unit_head host u sub name d p) at (sort.End spoken n) →
      AfterUnit mode file host forms → Nested mode file (unit_head host u sub name d p) (Says at (Statement-F.End spoken n) ∷ forms)
  ends_unit_head file line w host u sub name d p at spoken n forms f m c k =
      head_over mode u (Owed mode sub d p) (InNest mode (base 0 []) (UnitEnd mode file host sub name)) (Says at (Statement-F.End spoken n) ∷ forms) (none_alone mode sub d p c)
      (at_once mode (ends_here file spoken n (record { word = word_of sub; name = name }) at (AfterUnit mode file host) forms f m k))

  ends_early : (file line : ℕ) (w : Option Waiting) (host : Option (List ℕ)) (u sub : Bool) (name : List ℕ) (d p : Option Place) (place : Place) (depth : ℕ) (bs : List Block) (at : Place)
      (spoken : Option EndWord) (n : Option (List ℕ)) (forms : List Form) → at.file ≡ file → Stands file line w (early host u sub name d p place depth bs) (sort.End spoken n) →
      Clean file line w (early host u sub name d p place depth bs) at (sort.End spoken n) → AfterUnit mode file host forms →
      Nested mode file (early host u sub name d p place depth bs) (Says at (Statement-F.End spoken n) ∷ forms)
  ends_early file line w host u sub name d p place depth [] at spoken n forms f m c k =
      (none_alone mode sub d p c, at_once mode (ends_here file spoken n (record { word = word_of sub; name = name }) at (AfterUnit mode file host) forms f m k))
  ends_early file line w host u sub name d p place depth (b ∷ bs) at spoken n forms f m c k = absurd (nonempty c)

  ends_body : (file line : ℕ) (w : Option Waiting) (host : Option (List ℕ)) (sub : Bool) (name : List ℕ) (nest : Nest) (at : Place) (spoken : Option EndWord) (n : Option (List ℕ)) (forms : List Form) →
      at.file ≡ file → Stands file line w (body host sub name nest) (sort.End spoken n) → Clean file line w (body host sub name nest) at (sort.End spoken n) → AfterUnit mode file host forms →
      Nested mode file (body host sub name nest) (Says at (Statement-F.End spoken n) ∷ forms)
  ends_body file line w host sub name (base depth []) at spoken n forms f m c k =
      at_once mode (ends_here file spoken n (record { word = word_of sub; name = name }) at (AfterUnit mode file host) forms f m k)
  ends_body file line w host sub name (base depth (b ∷ bs)) at spoken n forms f m c k = absurd (nonempty c)
  ends_body file line w host sub name nest at spoken n forms f m c k = absurd (false≢true m)

  pub an_end : (file line : ℕ) (w : Option Waiting) (s : Shape) (at : Place) (spoken : Option EndWord) (n : Option (List ℕ)) (forms : List Form) → at.file ≡ file →
      Stands file line w s (sort.End spoken n) → Clean file line w s at (sort.End spoken n) → Ahead file line w s at (sort.End spoken n) forms → Nested mode file s (Says at (Statement-F.End spoken n) ∷ forms)
  an_end file line w top at spoken n forms f m c ahead = absurd (false≢true m)
  an_end file line w (module_head u h) at spoken n forms f m c ahead = λ number.
      head_over mode u (OwesNone mode) (ContainedThen mode number (EndsThen mode file word.Module h (OnTop mode))) (Says at (Statement-F.End spoken n) ∷ forms) (refl, refl)
      (record { units = []; rest = _; are = contains_none; follows = ends_here file spoken n (record { word = word.Module; name = h }) at (OnTop mode) forms f m (ahead top refl) })
  an_end file line w (contained h) at spoken n forms f m c ahead = λ number.
      record { units = []; rest = _; are = no_more_units; follows = ends_here file spoken n (record { word = word.Module; name = h }) at (OnTop mode) forms f m (ahead top refl) }
  an_end file line w (unit_head None u sub name d p) at spoken n forms f m c ahead = ends_unit_head file line w None u sub name d p at spoken n forms f m c (ahead top refl)
  an_end file line w (unit_head (Some h) u sub name d p) at spoken n forms f m c ahead = ends_unit_head file line w (Some h) u sub name d p at spoken n forms f m c (ahead (contained h) refl)
  an_end file line w (early None u sub name d p place depth bs) at spoken n forms f m c ahead = ends_early file line w None u sub name d p place depth bs at spoken n forms f m c (ahead top refl)
  an_end file line w (early (Some h) u sub name d p place depth bs) at spoken n forms f m c ahead =
      ends_early file line w (Some h) u sub name d p place depth bs at spoken n forms f m c (ahead (contained h) refl)
  an_end file line w (body None sub name nest) at spoken n forms f m c ahead = ends_body file line w None sub name nest at spoken n forms f m c (ahead top refl)
  an_end file line w (body (Some h) sub name nest) at spoken n forms f m c ahead = ends_body file line w (Some h) sub name nest at spoken n forms f m c (ahead (contained h) refl)
