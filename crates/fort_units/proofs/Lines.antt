-- Each directive or mark that brings no fault is a step on the way to a program.
use Rattle.std.proofs.Common.{◌≡◌, ℕ, List, [], ◌∷◌, Bool, true, false, cond, Option, None, Some, refl, sym, ap, subst, ◌∙◌, inl, inr, IsTrue}
use Rattle.std.specs.Prelude.{is_some}
use Rattle.std.proofs.lemmas.Bool.{false≢true, and_parts}
use Rattle.fort_tree.specs.declared.choice.Mode.{Mode}
use Rattle.fort_tree.specs.declared.choice.Mode.TheVariants.{Source, Target}
use Rattle.fort_tree.specs.declared.expr.Sub.{Sub}
use Rattle.fort_tree.specs.declared.place.Place.{Place}
use Rattle.fort_tree.specs.declared.statement.Statement.TheOpen.{Statement-F}
use Rattle.fort_tree.specs.declared.stmt.Directive.{Directive}
use Rattle.fort_tree.specs.declared.stmt.DirectiveWord.{DirectiveWord}
use Rattle.fort_tree.specs.declared.stmt.Head.{Head}
use Rattle.fort_tree.specs.declared.stmt.Named.{Named}
use Rattle.sound_programs.specs.Forms.{Form, Says, Directs, is_forward, is_before_loop, is_loop_mark, begins_block, ends_block, is_define, is_parallelize, is_routine}
use Rattle.sound_programs.specs.Nesting.{Inside, in_unit, in_loop_under, Body, forwarded, directed, block, IsHeadDirective, directs_use, directs_decl, marked, defined_first, defined_last, Paired}
use Rattle.fort_units.specs.declared.around.Block.{Block}
use Rattle.fort_units.specs.declared.around.Waiting.{Waiting}
use Rattle.fort_stmt.specs.declared.sort.ActionSort.TheVariants as act
use Rattle.fort_stmt.specs.declared.sort.Sort.TheVariants as sort
use Rattle.fort_units.specs.Opens.{list_open, holds_statements, deeper}
use Rattle.fort_units.specs.Faults.{alone, deep_at, stands_before, head_faults, routine_faults, ends_innermost, is_mark, is_of_mode}
use Rattle.fort_units.specs.Passing.{behind_sort, mark_of, behind_directive, with_block, without_block}
use Rattle.fort_tree.specs.declared.stmt.DirectiveWord.TheVariants as directive
use Rattle.sound_programs.specs.Nesting.{no_more_decls}
use Rattle.fort_units.proofs.Shapes.{nonempty, Nest, base, in_if, in_else, in_select, in_case, in_do, list_of, inside_of, Shape, module_head, unit_head, early, body, around_of, InBlocks, ArmsThen, CasesThen, SaysThen, InNest, FullHead, LateHead, Owed, UnitEnd, Nested, add_in, at_once, late_full, head_over}
use Rattle.fort_units.proofs.Statements.{both_empty, Ahead, Stands, Clean}
use Rattle.fort_units.proofs.Executables.{nest_at, body_at, executes, in_do_body, after_do, still_open}

-- ---- Words and modes

pub source_of : (mode : Mode) → is_of_mode mode false ≡ true → mode ≡ Source
source_of Source h = refl
source_of Target h = absurd (false≢true h)

pub target_of : (mode : Mode) → is_of_mode mode true ≡ true → mode ≡ Target
target_of Target h = refl
target_of Source h = absurd (false≢true h)

-- the mark that a DO is given is there just where the directive before it is a mark
mark_given : (mode : Mode) (w : Waiting) → is_before_loop mode w.word ≡ true → is_some (mark_of (Some w)) ≡ is_loop_mark w.word
mark_given mode w h = mark_by mode w.word w.at h
  where
    mark_by : (mode : Mode) (word : DirectiveWord) (at : Place) → is_before_loop mode word ≡ true → is_some (cond (is_mark word) (Some at) None) ≡ is_loop_mark word
    mark_by Source directive.Forward at h = refl
    mark_by Source directive.Fusion at h = refl
    mark_by Source directive.Interchange at h = refl
    mark_by Source directive.Cache at h = refl
    mark_by Target directive.OpenMpLoop at h = refl
    mark_by Target directive.OpenAccLoop at h = refl
    mark_by mode word at h = absurd (false≢true h)

forwards : (mode : Mode) (word : DirectiveWord) → is_before_loop mode word ≡ true → stands_before (sort.Act act.Call) word ≡ true → is_forward mode word ≡ true
forwards Source directive.Forward h c = refl
forwards Target directive.Forward h c = absurd (false≢true h)
forwards mode word h c = absurd (false≢true c)

module _ (mode : Mode) where
  -- ---- Before a DO or a CALL

  -- the lines from here on nest behind the directive that waits
  abbrev pub Waits : ℕ → Option Waiting → Shape → List Form → Type 0
  Waits file None s forms = Nested mode file s forms
  Waits file (Some w) s forms = (d : Directive) → d.word ≡ w.word → Nested mode file s (Directs d ∷ forms)

  pub begins_directed_do : (file line : ℕ) (w : Waiting) (s : Shape) (at : Place) (head : Head) (forms : List Form) → is_before_loop mode w.word ≡ true → Stands mode file line (Some w) s sort.Do →
      Clean mode file line (Some w) s at sort.Do → Ahead mode file line (Some w) s at sort.Do forms → Waits file (Some w) s (Says at (Statement-F.Do head) ∷ forms)
  begins_directed_do file line w s at head forms b l c ahead = λ d same.
      let o = around_of file line (Some w) s in
      let clean = both_empty (deep_at mode at o) (alone o) c in
      let depth = deeper o.list.depth in
      let h = after_do mode file s (mark_of (Some w)) depth forms (ahead (body_at s (in_do (mark_of (Some w)) depth [] (nest_at s))) (in_do_body mode file line (Some w) s at.line l)) (still_open mode file line (Some w) s l) in
      let e = h.follows in
      let filled : Body mode (in_loop_under (is_loop_mark d.word) (inside_of (nest_at s))) forms h.stmts (Says e.at Statement-F.EndDo ∷ e.rest) =
      subst (λ next. Body mode (in_loop_under (is_loop_mark d.word) (inside_of (nest_at s))) forms h.stmts next) e.is
      (subst (λ m. Body mode (in_loop_under m (inside_of (nest_at s))) forms h.stmts h.next) (mark_given mode w b ∙ ap is_loop_mark (sym same)) h.filled) in
      executes mode file line (Some w) s (Directs d ∷ Says at (Statement-F.Do head) ∷ forms) e.rest _ l clean.1
      (directed (subst (λ v. IsTrue (is_before_loop mode v)) (sym same) b) filled) e.follows

  in_call_body : (file line : ℕ) (w : Option Waiting) (s : Shape) (after : ℕ) → list_open (around_of file line w s) ≡ true →
      record (behind_sort (around_of file line w s) (sort.Act act.Call)) { waiting = None; line = after } ≡ around_of file after None (body_at s (nest_at s))
  in_call_body file line w (unit_head host u sub name d p) after l = refl
  in_call_body file line w (early host u sub name d p place depth bs) after l = refl
  in_call_body file line w (body host sub name n) after l = refl
  in_call_body file line w s after l = absurd (false≢true l)

  pub a_forwarded_call : (file line : ℕ) (w : Waiting) (s : Shape) (at : Place) (name : Named) (args : List Sub) (forms : List Form) → is_before_loop mode w.word ≡ true →
      stands_before (sort.Act act.Call) w.word ≡ true → Stands mode file line (Some w) s (sort.Act act.Call) → Clean mode file line (Some w) s at (sort.Act act.Call) →
      Ahead mode file line (Some w) s at (sort.Act act.Call) forms → Waits file (Some w) s (Says at (Statement-F.Call name args) ∷ forms)
  a_forwarded_call file line w s at name args forms b f m c ahead = λ d same.
      let o = around_of file line (Some w) s in
      let parts = and_parts (list_open o) true m in
      executes mode file line (Some w) s (Directs d ∷ Says at (Statement-F.Call name args) ∷ forms) forms _ parts.0 c
      (forwarded (subst (λ v. IsTrue (is_forward mode v)) (sym same) (forwards mode w.word b f))) (ahead (body_at s (nest_at s)) (in_call_body file line (Some w) s at.line parts.0))

  -- ---- Heads of units

  abbrev pub AheadLine : ℕ → ℕ → Shape → Place → DirectiveWord → List Form → Type 0
  AheadLine file line s at word forms = (next : Shape) → behind_directive (around_of file line None s) at word ≡ around_of file line None next → Nested mode file next forms

  full_mark : (Owes Owed_then : List Directive → List Directive → Type 0) (K : List Form → Type 0) (forms : List Form) (d : Directive) → IsHeadDirective mode d →
      ((pair mark : List Directive) → Owed_then pair mark → Owes (d ∷ pair) mark) → FullHead mode Owed_then K forms → FullHead mode Owes K (Directs d ∷ forms)
  full_mark Owes Owed_then K forms d is owes h = record {
    lines = h.lines;
    decls = h.decls;
    pair = d ∷ h.pair;
    mark = h.mark;
    inside = h.inside;
    head = record {
      after_uses = h.head.after_uses;
      after_implicit = h.head.after_implicit;
      after_decls = h.head.after_decls;
      among_uses = d ∷ h.head.among_uses;
      among_decls = h.head.among_decls;
      used = directs_use is h.head.used;
      implicit = h.head.implicit;
      declared = h.head.declared;
      paired = ap (λ pair. d ∷ pair) h.head.paired;
      marked = h.head.marked;
    };
    owes = owes h.pair h.mark h.owes;
    follows = h.follows;
  }

  late_mark : (Owes Owed_then : List Directive → List Directive → Type 0) (K : List Form → Type 0) (forms : List Form) (d : Directive) → IsHeadDirective mode d →
      ((pair mark : List Directive) → Owed_then pair mark → Owes (d ∷ pair) mark) → LateHead mode Owed_then K forms → LateHead mode Owes K (Directs d ∷ forms)
  late_mark Owes Owed_then K forms d is owes h = record {
    decls = h.decls;
    pair = d ∷ h.pair;
    mark = h.mark;
    after_decls = h.after_decls;
    inside = h.inside;
    declared = directs_decl is h.declared;
    marked = h.marked;
    owes = owes h.pair h.mark h.owes;
    follows = h.follows;
  }

  owed_define : (at : Place) (p : Option Place) (d : Directive) → IsTrue (is_define d.word) → (pair mark : List Directive) → Owed mode true (Some at) p pair mark → Owed mode true None p (d ∷ pair) mark
  owed_define at None d is pair mark h = subst (λ rest. Paired mode (d ∷ rest)) (sym h.is_one) (defined_first is h.has)
  owed_define at (Some p) d is pair mark h = record { one = d; is_one = ap (λ rest. d ∷ rest) h; has = is }

  owed_parallelize : (at : Place) (define : Option Place) (d : Directive) → IsTrue (is_parallelize d.word) → (pair mark : List Directive) → Owed mode true define (Some at) pair mark →
      Owed mode true define None (d ∷ pair) mark
  owed_parallelize at None d is pair mark h = subst (λ rest. Paired mode (d ∷ rest)) (sym h.is_one) (defined_last is h.has)
  owed_parallelize at (Some q) d is pair mark h = record { one = d; is_one = ap (λ rest. d ∷ rest) h; has = is }

  pub a_define : (file line : ℕ) (s : Shape) (d : Directive) (forms : List Form) → d.word ≡ directive.Define → mode ≡ Source → head_faults (around_of file line None s) (around_of file line None s).define d.at ≡ [] →
      AheadLine file line s d.at directive.Define forms → Nested mode file s (Directs d ∷ forms)
  a_define file line (unit_head host true true name None p) d forms e source c ahead =
      let is : IsTrue (is_define d.word) = ap is_define e in
      full_mark (Owed mode true None p) (Owed mode true (Some d.at) p) (InNest mode (base 0 []) (UnitEnd mode file host true name)) forms d (source, inl is) (owed_define d.at p d is)
      (ahead (unit_head host true true name (Some d.at) p) refl)
  a_define file line (unit_head host false true name None p) d forms e source c ahead =
      let is : IsTrue (is_define d.word) = ap is_define e in
      late_mark (Owed mode true None p) (Owed mode true (Some d.at) p) (InNest mode (base 0 []) (UnitEnd mode file host true name)) forms d (source, inl is) (owed_define d.at p d is)
      (ahead (unit_head host false true name (Some d.at) p) refl)
  a_define file line (unit_head host true true name (Some q) p) d forms e source c ahead = absurd (nonempty c)
  a_define file line (unit_head host false true name (Some q) p) d forms e source c ahead = absurd (nonempty c)
  a_define file line (unit_head host u false name q p) d forms e source c ahead = absurd (nonempty c)
  a_define file line (early host true true name q p place depth bs) d forms e source c ahead = absurd (nonempty c)
  a_define file line (early host false true name q p place depth bs) d forms e source c ahead = absurd (nonempty c)
  a_define file line (early host u false name q p place depth bs) d forms e source c ahead = absurd (nonempty c)
  a_define file line (body host true name n) d forms e source c ahead = absurd (nonempty c)
  a_define file line (body host false name n) d forms e source c ahead = absurd (nonempty c)
  a_define file line s d forms e source c ahead = absurd (nonempty c)

  pub a_parallelize : (file line : ℕ) (s : Shape) (d : Directive) (forms : List Form) → d.word ≡ directive.Parallelize → mode ≡ Source →
      head_faults (around_of file line None s) (around_of file line None s).parallelize d.at ≡ [] → AheadLine file line s d.at directive.Parallelize forms → Nested mode file s (Directs d ∷ forms)
  a_parallelize file line (unit_head host true true name q None) d forms e source c ahead =
      let is : IsTrue (is_parallelize d.word) = ap is_parallelize e in
      full_mark (Owed mode true q None) (Owed mode true q (Some d.at)) (InNest mode (base 0 []) (UnitEnd mode file host true name)) forms d (source, inr is) (owed_parallelize d.at q d is)
      (ahead (unit_head host true true name q (Some d.at)) refl)
  a_parallelize file line (unit_head host false true name q None) d forms e source c ahead =
      let is : IsTrue (is_parallelize d.word) = ap is_parallelize e in
      late_mark (Owed mode true q None) (Owed mode true q (Some d.at)) (InNest mode (base 0 []) (UnitEnd mode file host true name)) forms d (source, inr is) (owed_parallelize d.at q d is)
      (ahead (unit_head host false true name q (Some d.at)) refl)
  a_parallelize file line (unit_head host true true name q (Some p)) d forms e source c ahead = absurd (nonempty c)
  a_parallelize file line (unit_head host false true name q (Some p)) d forms e source c ahead = absurd (nonempty c)
  a_parallelize file line (unit_head host u false name q p) d forms e source c ahead = absurd (nonempty c)
  a_parallelize file line (early host true true name q p place depth bs) d forms e source c ahead = absurd (nonempty c)
  a_parallelize file line (early host false true name q p place depth bs) d forms e source c ahead = absurd (nonempty c)
  a_parallelize file line (early host u false name q p place depth bs) d forms e source c ahead = absurd (nonempty c)
  a_parallelize file line (body host true name n) d forms e source c ahead = absurd (nonempty c)
  a_parallelize file line (body host false name n) d forms e source c ahead = absurd (nonempty c)
  a_parallelize file line s d forms e source c ahead = absurd (nonempty c)

  any_mark : (sub : Bool) (d p : Option Place) (mark : List Directive) → Owed mode sub d p [] [] → Owed mode sub d p [] mark
  any_mark false d p mark h = h
  any_mark true None None mark h = h
  any_mark true (Some d) None mark h = record { one = h.one; is_one = h.is_one; has = h.has }
  any_mark true None (Some p) mark h = record { one = h.one; is_one = h.is_one; has = h.has }
  any_mark true (Some d) (Some p) mark h = h

  late_routine : (sub : Bool) (q p : Option Place) (K : List Form → Type 0) (forms : List Form) (d : Directive) → mode ≡ Target → IsTrue (is_routine d.word) → Owed mode sub q p [] [] → K forms →
      LateHead mode (Owed mode sub q p) K (Directs d ∷ forms)
  late_routine sub q p K forms d target is o k = record {
    decls = [];
    pair = [];
    mark = d ∷ [];
    after_decls = Directs d ∷ forms;
    inside = forms;
    declared = no_more_decls;
    marked = marked target is;
    owes = any_mark sub q p (d ∷ []) o;
    follows = k;
  }

  pub a_routine : (file line : ℕ) (s : Shape) (d : Directive) (forms : List Form) → d.word ≡ directive.Routine → mode ≡ Target → routine_faults (around_of file line None s) d.at ≡ [] →
      AheadLine file line s d.at directive.Routine forms → Nested mode file s (Directs d ∷ forms)
  a_routine file line (unit_head host true sub name q p) d forms e target c ahead =
      let h = ahead (early host true sub name q p d.at 0 []) refl in
      let K = InNest mode (base 0 []) (UnitEnd mode file host sub name) in
      late_full mode (Owed mode sub q p) K (Directs d ∷ forms) (late_routine sub q p K forms d target (ap is_routine e) h.0 h.1)
  a_routine file line (unit_head host false sub name q p) d forms e target c ahead =
      let h = ahead (early host false sub name q p d.at 0 []) refl in
      late_routine sub q p (InNest mode (base 0 []) (UnitEnd mode file host sub name)) forms d target (ap is_routine e) h.0 h.1
  a_routine file line (early host true sub name q p place depth bs) d forms e target c ahead = absurd (nonempty c)
  a_routine file line (early host false sub name q p place depth bs) d forms e target c ahead = absurd (nonempty c)
  a_routine file line (module_head u h) d forms e target c ahead = absurd (nonempty c)
  a_routine file line s d forms e target c ahead = absurd (nonempty c)

  -- ---- Blocks

  unblock : (around : Inside) (bs : List Block) (K : List Form → Type 0) (b : Block) (d : Directive) (forms : List Form) → begins_block mode b.word ≡ true → d.word ≡ b.word →
      InBlocks mode around (b ∷ bs) K forms → InBlocks mode around bs K (Directs d ∷ forms)
  unblock around bs K b d forms begins same h =
      let c = h.follows in
      add_in mode around bs K
      (block (subst (λ w. IsTrue (begins_block mode w)) (sym same) begins) (subst (λ w. IsTrue (ends_block w c.end.word)) (sym same) c.ends)
      (subst (λ next. Body mode around forms h.stmts next) c.is h.filled)) c.follows

  reblock : (around : Inside) (bs : List Block) (K : List Form → Type 0) (b : Block) (d : Directive) (forms : List Form) → ends_block b.word d.word ≡ true → InBlocks mode around bs K forms →
      InBlocks mode around (b ∷ bs) K (Directs d ∷ forms)
  reblock around bs K b d forms ends h = at_once mode (record { end = d; rest = forms; is = refl; ends = ends; follows = h })

  abbrev pushed : Nest → Block → Nest
  pushed (base d bs) b = base (deeper d) (b ∷ bs)
  pushed (in_if d bs n) b = in_if (deeper d) (b ∷ bs) n
  pushed (in_else d bs n) b = in_else (deeper d) (b ∷ bs) n
  pushed (in_select d n) b = in_select d n
  pushed (in_case had d bs n) b = in_case had (deeper d) (b ∷ bs) n
  pushed (in_do mark d bs n) b = in_do mark (deeper d) (b ∷ bs) n

  unblock_nest : (n : Nest) (K : List Form → Type 0) (b : Block) (d : Directive) (forms : List Form) → holds_statements (list_of n).construct ≡ true → begins_block mode b.word ≡ true → d.word ≡ b.word →
      InNest mode (pushed n b) K forms → InNest mode n K (Directs d ∷ forms)
  unblock_nest (base depth bs) K b d forms l begins same h = unblock in_unit bs K b d forms begins same h
  unblock_nest (in_if depth bs n) K b d forms l begins same h = unblock (inside_of n) bs (ArmsThen mode (inside_of n) (InNest mode n K)) b d forms begins same h
  unblock_nest (in_else depth bs n) K b d forms l begins same h = unblock (inside_of n) bs (SaysThen mode Statement-F.EndIf (InNest mode n K)) b d forms begins same h
  unblock_nest (in_select depth n) K b d forms l begins same h = absurd (false≢true l)
  unblock_nest (in_case had depth bs n) K b d forms l begins same h = unblock (inside_of n) bs (CasesThen mode (inside_of n) had (InNest mode n K)) b d forms begins same h
  unblock_nest (in_do mark depth bs n) K b d forms l begins same h = unblock (in_loop_under (is_some mark) (inside_of n)) bs (SaysThen mode Statement-F.EndDo (InNest mode n K)) b d forms begins same h

  abbrev block_of : Place → DirectiveWord → ℕ → Block
  block_of at word depth = record { at = at; word = word; depth = depth }

  pushes : (file line : ℕ) (host : Option (List ℕ)) (sub : Bool) (name : List ℕ) (n : Nest) (at : Place) (word : DirectiveWord) → holds_statements (list_of n).construct ≡ true →
      record (with_block at word (around_of file line None (body host sub name n))) { waiting = None } ≡ around_of file line None (body host sub name (pushed n (block_of at word (list_of n).depth)))
  pushes file line host sub name (base depth bs) at word l = refl
  pushes file line host sub name (in_if depth bs n) at word l = refl
  pushes file line host sub name (in_else depth bs n) at word l = refl
  pushes file line host sub name (in_select depth n) at word l = absurd (false≢true l)
  pushes file line host sub name (in_case had depth bs n) at word l = refl
  pushes file line host sub name (in_do mark depth bs n) at word l = refl

  pub begins_a_block : (file line : ℕ) (s : Shape) (d : Directive) (word : DirectiveWord) (forms : List Form) → d.word ≡ word → begins_block mode word ≡ true → list_open (around_of file line None s) ≡ true →
      ((next : Shape) → record (with_block d.at word (around_of file line None s)) { waiting = None } ≡ around_of file line None next → Nested mode file next forms) → Nested mode file s (Directs d ∷ forms)
  begins_a_block file line (unit_head host true sub name q p) d word forms e begins l ahead =
      let b = block_of d.at word 0 in
      let h = ahead (early host true sub name q p d.at (deeper 0) (b ∷ [])) refl in
      let K = UnitEnd mode file host sub name in
      head_over mode true (Owed mode sub q p) (InNest mode (base 0 []) K) (Directs d ∷ forms) h.0 (unblock in_unit [] K b d forms begins e h.1)
  begins_a_block file line (unit_head host false sub name q p) d word forms e begins l ahead =
      let b = block_of d.at word 0 in
      let h = ahead (early host false sub name q p d.at (deeper 0) (b ∷ [])) refl in
      let K = UnitEnd mode file host sub name in
      head_over mode false (Owed mode sub q p) (InNest mode (base 0 []) K) (Directs d ∷ forms) h.0 (unblock in_unit [] K b d forms begins e h.1)
  begins_a_block file line (early host true sub name q p place depth bs) d word forms e begins l ahead =
      let b = block_of d.at word depth in
      let h = ahead (early host true sub name q p place (deeper depth) (b ∷ bs)) refl in
      (h.0, unblock in_unit bs (UnitEnd mode file host sub name) b d forms begins e h.1)
  begins_a_block file line (early host false sub name q p place depth bs) d word forms e begins l ahead =
      let b = block_of d.at word depth in
      let h = ahead (early host false sub name q p place (deeper depth) (b ∷ bs)) refl in
      (h.0, unblock in_unit bs (UnitEnd mode file host sub name) b d forms begins e h.1)
  begins_a_block file line (body host sub name n) d word forms e begins l ahead =
      let b = block_of d.at word (list_of n).depth in
      unblock_nest n (UnitEnd mode file host sub name) b d forms l begins e (ahead (body host sub name (pushed n b)) (pushes file line host sub name n d.at word l))
  begins_a_block file line s d word forms e begins l ahead = absurd (false≢true l)

  pub ends_a_block : (file line : ℕ) (s : Shape) (d : Directive) (word : DirectiveWord) (forms : List Form) → d.word ≡ word → ends_innermost word (around_of file line None s).list.blocks ≡ true →
      ((next : Shape) → record (without_block (around_of file line None s)) { waiting = None } ≡ around_of file line None next → Nested mode file next forms) → Nested mode file s (Directs d ∷ forms)
  ends_a_block file line (early host u sub name q p place depth (b ∷ bs)) d word forms e l ahead =
      let h = ahead (early host u sub name q p place b.depth bs) refl in
      (h.0, reblock in_unit bs (UnitEnd mode file host sub name) b d forms (subst (λ w. ends_block b.word w ≡ true) (sym e) l) h.1)
  ends_a_block file line (body host sub name (base depth (b ∷ bs))) d word forms e l ahead =
      reblock in_unit bs (UnitEnd mode file host sub name) b d forms (subst (λ w. ends_block b.word w ≡ true) (sym e) l) (ahead (body host sub name (base b.depth bs)) refl)
  ends_a_block file line (body host sub name (in_if depth (b ∷ bs) n)) d word forms e l ahead =
      reblock (inside_of n) bs (ArmsThen mode (inside_of n) (InNest mode n (UnitEnd mode file host sub name))) b d forms (subst (λ w. ends_block b.word w ≡ true) (sym e) l) (ahead (body host sub name (in_if b.depth bs n)) refl)
  ends_a_block file line (body host sub name (in_else depth (b ∷ bs) n)) d word forms e l ahead =
      reblock (inside_of n) bs (SaysThen mode Statement-F.EndIf (InNest mode n (UnitEnd mode file host sub name))) b d forms (subst (λ w. ends_block b.word w ≡ true) (sym e) l) (ahead (body host sub name (in_else b.depth bs n)) refl)
  ends_a_block file line (body host sub name (in_case had depth (b ∷ bs) n)) d word forms e l ahead =
      reblock (inside_of n) bs (CasesThen mode (inside_of n) had (InNest mode n (UnitEnd mode file host sub name))) b d forms (subst (λ w. ends_block b.word w ≡ true) (sym e) l)
      (ahead (body host sub name (in_case had b.depth bs n)) refl)
  ends_a_block file line (body host sub name (in_do mark depth (b ∷ bs) n)) d word forms e l ahead =
      reblock (in_loop_under (is_some mark) (inside_of n)) bs (SaysThen mode Statement-F.EndDo (InNest mode n (UnitEnd mode file host sub name))) b d forms (subst (λ w. ends_block b.word w ≡ true) (sym e) l)
      (ahead (body host sub name (in_do mark b.depth bs n)) refl)
  ends_a_block file line s d word forms e l ahead = absurd (false≢true l)
