-- Forms without a fault of nesting nest into a file.
use Rattle.std.proofs.Common.{◌≡◌, ℕ, ◌==◌, List, [], ◌∷◌, ◌++◌, Bool, true, false, cond, ◌&&◌, Option, None, Some, refl, sym, ap, subst, ◌∙◌, eqb-true}
use Rattle.std.specs.Prelude.{is_some}
use Rattle.std.specs.List.{list_all}
use Rattle.std.proofs.lemmas.Bool.{false≢true, and_parts}
use Rattle.fort_tree.specs.declared.choice.Mode.{Mode}
use Rattle.fort_tree.specs.declared.fault.Fault.{Fault}
use Rattle.fort_tree.specs.declared.place.Place.{Place}
use Rattle.fort_tree.specs.declared.statement.Statement.{Statement}
use Rattle.fort_tree.specs.declared.statement.Statement.TheOpen.{Statement-F}
use Rattle.fort_tree.specs.declared.stmt.Directive.{Directive}
use Rattle.fort_tree.specs.declared.stmt.DirectiveWord.{DirectiveWord}
use Rattle.fort_tree.specs.declared.stmt.DirectiveWord.TheVariants as directive
use Rattle.sound_programs.specs.Forms.{Form, Says, Directs, is_before_loop, begins_block}
use Rattle.sound_programs.specs.Nesting.{no_more}
use Rattle.fort_units.specs.declared.around.Around.{Around}
use Rattle.fort_units.specs.declared.around.Waiting.{Waiting}
use Rattle.fort_stmt.specs.declared.sort.ActionSort.TheVariants as act
use Rattle.fort_stmt.specs.declared.sort.Sort.TheVariants as sort
use Rattle.fort_stmt.specs.Sort.{sort_of_level}
use Rattle.fort_units.specs.Opens.{may_stand, list_open}
use Rattle.fort_units.specs.Faults.{unmet, cut_off, statement_faults, unnested, misplaced, not_of_mode, at_statement, stands_before, directive_faults, head_faults, block_faults, end_faults, routine_faults, ends_innermost, is_mark, is_of_mode, deep_at, at_directive, unended, unclosed, all_unclosed, alone, at_file_end, at_item}
use Rattle.fort_units.specs.Passing.{behind_sort, behind_statement, behind_directive, with_block, without_block, waiting_first, behind, file_of, entered, left_behind, faults_from, faults}
use Rattle.fort_units.specs.Passing as passing
use Rattle.fort_units.specs.Shown.{item_of, items_of, is_level, is_form, FaultlessNest}
use Rattle.fort_units.proofs.Shapes.{nonempty, Shape, top, module_head, contained, unit_head, early, body, around_of, Nested}
use Rattle.fort_units.proofs.Statements.{both_empty, Ahead, Stands, Clean, begins_module, begins_units, begins_subroutine, begins_function, a_use, an_implicit, a_declaration, an_end}
use Rattle.fort_units.proofs.Executables.{an_action, an_if_action, begins_if, begins_select, begins_do}
use Rattle.fort_units.proofs.Divisions.{an_else_if, an_else, an_end_if, an_end_do, an_end_select, a_case, a_default}
use Rattle.fort_units.proofs.Lines.{source_of, target_of, Waits, begins_directed_do, a_forwarded_call, a_define, a_parallelize, a_routine, begins_a_block, ends_a_block}

-- ---- Parts of what is open

waits_so : (file line : ℕ) (w : Option Waiting) (s : Shape) → (around_of file line w s).waiting ≡ w
waits_so file line w top = refl
waits_so file line w (module_head u h) = refl
waits_so file line w (contained h) = refl
waits_so file line w (unit_head host u sub name d p) = refl
waits_so file line w (early host u sub name d p place depth bs) = refl
waits_so file line w (body host sub name n) = refl

in_this_file : (file line : ℕ) (w : Option Waiting) (s : Shape) → (around_of file line w s).file ≡ file
in_this_file file line w top = refl
in_this_file file line w (module_head u h) = refl
in_this_file file line w (contained h) = refl
in_this_file file line w (unit_head host u sub name d p) = refl
in_this_file file line w (early host u sub name d p place depth bs) = refl
in_this_file file line w (body host sub name n) = refl

waits_first : (file line : ℕ) (x : Waiting) (s : Shape) →
    record (around_of file line None s) { waiting = waiting_first (around_of file line None s).waiting x } ≡ around_of file line (Some x) s
waits_first file line x top = refl
waits_first file line x (module_head u h) = refl
waits_first file line x (contained h) = refl
waits_first file line x (unit_head host u sub name d p) = refl
waits_first file line x (early host u sub name d p place depth bs) = refl
waits_first file line x (body host sub name n) = refl

-- a choice that is empty has chosen the first
chosen : (b : Bool) (xs ys : List Fault) → (ys ≡ [] → ⊥) → cond b xs ys ≡ [] → (b ≡ true) × (xs ≡ [])
chosen true xs ys n h = (refl, h)
chosen false xs ys n h = absurd (n h)

stands_here : (b : Bool) (word : Bool) (f : Fault) → cond b [] (f ∷ []) ≡ [] → b ≡ true
stands_here true word f h = refl
stands_here false word f h = absurd (nonempty h)

-- what waits is of the mode
abbrev Before : Mode → Option Waiting → Type 0
Before mode None = Unit {0}
Before mode (Some w) = is_before_loop mode w.word ≡ true

module _ (mode : Mode) where
  -- ---- Statements

  plain_statement : (file line : ℕ) (s : Shape) (at : Place) (level : Statement-F Statement) (forms : List Form) → at.file ≡ file → is_level level ≡ true → Stands mode file line None s (sort_of_level level) →
      Clean mode file line None s at (sort_of_level level) → Ahead mode file line None s at (sort_of_level level) forms → Nested mode file s (Says at level ∷ forms)
  plain_statement file line s at (Statement-F.Module name) forms f e m c a = begins_module mode file line None s at name forms f m a
  plain_statement file line s at Statement-F.Contains forms f e m c a = begins_units mode file line None s at forms m a
  plain_statement file line s at (Statement-F.End word name) forms f e m c a = an_end mode file line None s at word name forms f m c a
  plain_statement file line s at (Statement-F.Subroutine name dummies) forms f e m c a = begins_subroutine mode file line None s at name dummies forms f m a
  plain_statement file line s at (Statement-F.Function prefix name dummies outcome) forms f e m c a = begins_function mode file line None s at prefix name dummies outcome forms f m a
  plain_statement file line s at (Statement-F.Using u) forms f e m c a = a_use mode file line None s at u forms m c a
  plain_statement file line s at Statement-F.ImplicitNone forms f e m c a = an_implicit mode file line None s at forms m c a
  plain_statement file line s at (Statement-F.Declare l) forms f e m c a = a_declaration mode file line None s at l forms e m c a
  plain_statement file line s at (Statement-F.Assign left right) forms f e m c a = an_action mode file line None s at (Statement-F.Assign left right) forms e m c a
  plain_statement file line s at (Statement-F.Call name args) forms f e m c a = an_action mode file line None s at (Statement-F.Call name args) forms e m c a
  plain_statement file line s at (Statement-F.IfAction test place action) forms f e m c a = an_if_action mode file line None s at test place action forms e m c a
  plain_statement file line s at (Statement-F.IfThen test) forms f e m c a = begins_if mode file line None s at test forms m c a
  plain_statement file line s at (Statement-F.ElseIf test) forms f e m c a = an_else_if mode file line None s at test forms m c a
  plain_statement file line s at Statement-F.Else forms f e m c a = an_else mode file line None s at forms m c a
  plain_statement file line s at Statement-F.EndIf forms f e m c a = an_end_if mode file line None s at forms m c a
  plain_statement file line s at (Statement-F.Do head) forms f e m c a = begins_do mode file line s at head forms m c a
  plain_statement file line s at Statement-F.EndDo forms f e m c a = an_end_do mode file line None s at forms m c a
  plain_statement file line s at Statement-F.Exit forms f e m c a = an_action mode file line None s at Statement-F.Exit forms e m c a
  plain_statement file line s at Statement-F.Cycle forms f e m c a = an_action mode file line None s at Statement-F.Cycle forms e m c a
  plain_statement file line s at Statement-F.Return forms f e m c a = an_action mode file line None s at Statement-F.Return forms e m c a
  plain_statement file line s at (Statement-F.Select on) forms f e m c a = begins_select mode file line None s at on forms m c a
  plain_statement file line s at Statement-F.EndSelect forms f e m c a = an_end_select mode file line None s at forms m c a
  plain_statement file line s at (Statement-F.Case ranges) forms f e m c a = a_case mode file line None s at ranges forms e m c a
  plain_statement file line s at Statement-F.CaseDefault forms f e m c a = a_default mode file line None s at forms m c a

  any_statement : (file line : ℕ) (w : Option Waiting) (s : Shape) (at : Place) (level : Statement-F Statement) (forms : List Form) → at.file ≡ file → is_level level ≡ true → Before mode w →
      unmet w (sort_of_level level) ≡ [] → Stands mode file line w s (sort_of_level level) → Clean mode file line w s at (sort_of_level level) →
      Ahead mode file line w s at (sort_of_level level) forms → Waits mode file w s (Says at level ∷ forms)
  any_statement file line None s at level forms f e b u m c a = plain_statement file line s at level forms f e m c a
  any_statement file line (Some w) s at (Statement-F.Do head) forms f e b u m c a = begins_directed_do mode file line w s at head forms b m c a
  any_statement file line (Some w) s at (Statement-F.Call name args) forms f e b u m c a =
      a_forwarded_call mode file line w s at name args forms b (stands_here (stands_before (sort.Act act.Call) w.word) true (misplaced w.at) u) m c a
  any_statement file line (Some w) s at level forms f e b u m c a = absurd (nonempty u)

  a_statement : (file line : ℕ) (w : Option Waiting) (s : Shape) (at : Place) (level : Statement-F Statement) (forms : List Form) → at.file ≡ file → is_level level ≡ true → Before mode w →
      at_statement mode (around_of file line w s) at (sort_of_level level) ≡ [] →
      ((next : Shape) → behind_statement (around_of file line w s) at (sort_of_level level) ≡ around_of file at.line None next → Nested mode file next forms) → Waits mode file w s (Says at level ∷ forms)
  a_statement file line w s at level forms f e b h a =
      let o = around_of file line w s in
      let kind = sort_of_level level in
      let parts = chosen (may_stand o kind) (unmet o.waiting kind ++ statement_faults mode o at kind) (unnested at ∷ []) (λ n. nonempty n) h in
      let clean = both_empty (unmet o.waiting kind) (statement_faults mode o at kind) parts.1 in
      any_statement file line w s at level forms f e b (subst (λ v. unmet v kind ≡ []) (waits_so file line w s) clean.0) parts.0 clean.1
      (λ next same. a next (ap (λ t. cond t (record (behind_sort o kind) { waiting = None; line = at.line }) (record o { line = at.line })) parts.0 ∙ same))

  -- ---- Directives and marks

  -- what is known of the lines behind a directive
  abbrev Beyond : ℕ → ℕ → Option Waiting → Shape → Place → DirectiveWord → List Form → Type 0
  Beyond file line w s at word forms =
      (v : Option Waiting) (next : Shape) → behind_directive (around_of file line w s) at word ≡ around_of file line v next → Before mode v → Waits mode file v next forms

  -- a directive that waits, where none does
  begins_to_wait : (file line : ℕ) (s : Shape) (d : Directive) (word : DirectiveWord) (forms : List Form) → d.word ≡ word →
      ((next : Shape) → record (around_of file line None s) { waiting = waiting_first (around_of file line None s).waiting (record { at = d.at; word = word }) }
      ≡ around_of file line (Some (record { at = d.at; word = word })) next → Waits mode file (Some (record { at = d.at; word = word })) next forms) → Nested mode file s (Directs d ∷ forms)
  begins_to_wait file line s d word forms e a = a s (waits_first file line (record { at = d.at; word = word }) s) d e

  -- where one waits, a second one is at fault
  no_second : (file line : ℕ) (w : Waiting) (s : Shape) (f : Fault) → cond (is_some (around_of file line (Some w) s).waiting) (f ∷ []) [] ≡ [] → ⊥
  no_second file line w s f h = nonempty (subst (λ v. cond (is_some v) (f ∷ []) [] ≡ []) (waits_so file line (Some w) s) h)

  -- nothing waits where a line cuts off what waits, without a fault
  none_cut : (file line : ℕ) (w : Option Waiting) (s : Shape) → cut_off (around_of file line w s).waiting ≡ [] → w ≡ None
  none_cut file line None s h = refl
  none_cut file line (Some w) s h = absurd (nonempty (subst (λ v. cut_off v ≡ []) (waits_so file line (Some w) s) h))

  -- the state behind, where one of two holds
  first_of_two : (b : Bool) (x y z : Around) → b ≡ true → record x { waiting = None } ≡ z → record (cond b x y) { waiting = None } ≡ z
  first_of_two true x y z e h = h
  first_of_two false x y z e h = absurd (false≢true e)

  a_line : (file line : ℕ) (s : Shape) (d : Directive) (word : DirectiveWord) (forms : List Form) → d.word ≡ word → is_of_mode mode (is_mark word) ≡ true →
      directive_faults mode (around_of file line None s) d.at word ≡ [] → Beyond file line None s d.at word forms → Nested mode file s (Directs d ∷ forms)
  a_line file line s d directive.Define forms e m h a =
      let o = around_of file line None s in
      a_define mode file line s d forms e (source_of mode m) (both_empty (cut_off o.waiting) (head_faults o o.define d.at) h).1 (λ next same. a None next same tt)
  a_line file line s d directive.Parallelize forms e m h a =
      let o = around_of file line None s in
      a_parallelize mode file line s d forms e (source_of mode m) (both_empty (cut_off o.waiting) (head_faults o o.parallelize d.at) h).1 (λ next same. a None next same tt)
  a_line file line s d directive.Routine forms e m h a =
      let o = around_of file line None s in
      a_routine mode file line s d forms e (target_of mode m) (both_empty (cut_off o.waiting) (routine_faults o d.at) h).1 (λ next same. a None next same tt)
  a_line file line s d directive.Hoist forms e m h a =
      let o = around_of file line None s in
      let l = (chosen (list_open o) (deep_at mode d.at o) (misplaced d.at ∷ []) (λ n. nonempty n) (both_empty (cut_off o.waiting) (block_faults mode o d.at) h).1).0 in
      begins_a_block mode file line s d directive.Hoist forms e (ap (λ v. begins_block v directive.Hoist) (source_of mode m)) l
      (λ next same. a None next (first_of_two (list_open o) (with_block d.at directive.Hoist o) o (around_of file line None next) l same) tt)
  a_line file line s d directive.Transform forms e m h a =
      let o = around_of file line None s in
      let l = (chosen (list_open o) (deep_at mode d.at o) (misplaced d.at ∷ []) (λ n. nonempty n) (both_empty (cut_off o.waiting) (block_faults mode o d.at) h).1).0 in
      begins_a_block mode file line s d directive.Transform forms e (ap (λ v. begins_block v directive.Transform) (source_of mode m)) l
      (λ next same. a None next (first_of_two (list_open o) (with_block d.at directive.Transform o) o (around_of file line None next) l same) tt)
  a_line file line s d directive.EndHoist forms e m h a =
      let o = around_of file line None s in
      let l = (chosen (ends_innermost directive.EndHoist o.list.blocks) [] (misplaced d.at ∷ []) (λ n. nonempty n) (both_empty (cut_off o.waiting) (end_faults directive.EndHoist o.list.blocks d.at) h).1).0 in
      ends_a_block mode file line s d directive.EndHoist forms e l
      (λ next same. a None next (first_of_two (ends_innermost directive.EndHoist o.list.blocks) (without_block o) o (around_of file line None next) l same) tt)
  a_line file line s d directive.EndTransform forms e m h a =
      let o = around_of file line None s in
      let l = (chosen (ends_innermost directive.EndTransform o.list.blocks) [] (misplaced d.at ∷ []) (λ n. nonempty n) (both_empty (cut_off o.waiting) (end_faults directive.EndTransform o.list.blocks d.at) h).1).0 in
      ends_a_block mode file line s d directive.EndTransform forms e l
      (λ next same. a None next (first_of_two (ends_innermost directive.EndTransform o.list.blocks) (without_block o) o (around_of file line None next) l same) tt)
  a_line file line s d directive.Column forms e m h a = absurd (nonempty (both_empty (cut_off (around_of file line None s).waiting) (misplaced d.at ∷ []) h).1)
  a_line file line s d directive.Forward forms e m h a =
      begins_to_wait file line s d directive.Forward forms e (λ next same. a (Some (record { at = d.at; word = directive.Forward })) next same (ap (λ v. is_before_loop v directive.Forward) (source_of mode m)))
  a_line file line s d directive.Fusion forms e m h a =
      begins_to_wait file line s d directive.Fusion forms e (λ next same. a (Some (record { at = d.at; word = directive.Fusion })) next same (ap (λ v. is_before_loop v directive.Fusion) (source_of mode m)))
  a_line file line s d directive.Interchange forms e m h a =
      begins_to_wait file line s d directive.Interchange forms e (λ next same. a (Some (record { at = d.at; word = directive.Interchange })) next same (ap (λ v. is_before_loop v directive.Interchange) (source_of mode m)))
  a_line file line s d directive.Cache forms e m h a =
      begins_to_wait file line s d directive.Cache forms e (λ next same. a (Some (record { at = d.at; word = directive.Cache })) next same (ap (λ v. is_before_loop v directive.Cache) (source_of mode m)))
  a_line file line s d directive.OpenMpLoop forms e m h a =
      begins_to_wait file line s d directive.OpenMpLoop forms e (λ next same. a (Some (record { at = d.at; word = directive.OpenMpLoop })) next same (ap (λ v. is_before_loop v directive.OpenMpLoop) (target_of mode m)))
  a_line file line s d directive.OpenAccLoop forms e m h a =
      begins_to_wait file line s d directive.OpenAccLoop forms e (λ next same. a (Some (record { at = d.at; word = directive.OpenAccLoop })) next same (ap (λ v. is_before_loop v directive.OpenAccLoop) (target_of mode m)))

  nothing_cut : (file line : ℕ) (w : Waiting) (s : Shape) (rest : List Fault) → cut_off (around_of file line (Some w) s).waiting ++ rest ≡ [] → ⊥
  nothing_cut file line w s rest h =
      nonempty (subst (λ v. cut_off v ≡ []) (waits_so file line (Some w) s) (both_empty (cut_off (around_of file line (Some w) s).waiting) rest h).0)

  -- where a directive waits, each further one is at fault, or leaves the first one at fault
  never_behind : (file line : ℕ) (w : Waiting) (s : Shape) (at : Place) (word : DirectiveWord) → directive_faults mode (around_of file line (Some w) s) at word ≡ [] → ⊥
  never_behind file line w s at directive.Forward h = no_second file line w s (misplaced at) h
  never_behind file line w s at directive.Fusion h = no_second file line w s (misplaced at) h
  never_behind file line w s at directive.Interchange h = no_second file line w s (misplaced at) h
  never_behind file line w s at directive.Cache h = no_second file line w s (misplaced at) h
  never_behind file line w s at directive.OpenMpLoop h = no_second file line w s (misplaced at) h
  never_behind file line w s at directive.OpenAccLoop h = no_second file line w s (misplaced at) h
  never_behind file line w s at directive.Define h = nothing_cut file line w s (head_faults (around_of file line (Some w) s) (around_of file line (Some w) s).define at) h
  never_behind file line w s at directive.Parallelize h = nothing_cut file line w s (head_faults (around_of file line (Some w) s) (around_of file line (Some w) s).parallelize at) h
  never_behind file line w s at directive.Hoist h = nothing_cut file line w s (block_faults mode (around_of file line (Some w) s) at) h
  never_behind file line w s at directive.Transform h = nothing_cut file line w s (block_faults mode (around_of file line (Some w) s) at) h
  never_behind file line w s at directive.EndHoist h = nothing_cut file line w s (end_faults directive.EndHoist (around_of file line (Some w) s).list.blocks at) h
  never_behind file line w s at directive.EndTransform h = nothing_cut file line w s (end_faults directive.EndTransform (around_of file line (Some w) s).list.blocks at) h
  never_behind file line w s at directive.Routine h = nothing_cut file line w s (routine_faults (around_of file line (Some w) s) at) h
  never_behind file line w s at directive.Column h = nothing_cut file line w s (misplaced at ∷ []) h

  any_line : (file line : ℕ) (w : Option Waiting) (s : Shape) (d : Directive) (forms : List Form) → is_of_mode mode (is_mark d.word) ≡ true → directive_faults mode (around_of file line w s) d.at d.word ≡ [] →
      Beyond file line w s d.at d.word forms → Waits mode file w s (Directs d ∷ forms)
  any_line file line None s d forms m h a = a_line file line s d d.word forms refl m h a
  any_line file line (Some w) s d forms m h a = absurd (never_behind file line w s d.at d.word h)

  -- a line that brings no fault is of the mode
  of_mode : (o : Around) (at : Place) (word : DirectiveWord) → at_directive mode o at word false ≡ [] → (is_of_mode mode (is_mark word) ≡ true) × (directive_faults mode o at word ≡ [])
  of_mode o at word h = by_mode (is_of_mode mode (is_mark word)) (directive_faults mode o at word) h
    where
      by_mode : (b : Bool) (xs : List Fault) → cond (b && true) xs (cond b [] (not_of_mode at ∷ [])) ≡ [] → (b ≡ true) × (xs ≡ [])
      by_mode true xs h = (refl, h)
      by_mode false xs h = absurd (nonempty h)

  -- ---- All lines

  here : (f : Form) (forms : List Form) (file line : ℕ) (w : Option Waiting) (s : Shape) → file_of (item_of f) ≡ file → is_form f ≡ true → Before mode w →
      at_item mode (around_of file line w s) (item_of f) ≡ [] →
      ((after : ℕ) (v : Option Waiting) (next : Shape) → behind mode (around_of file line w s) (item_of f) ≡ around_of file after v next → Before mode v → Waits mode file v next forms) →
      Waits mode file w s (f ∷ forms)
  here (Says at level) forms file line w s same e b h a = a_statement file line w s at level forms same e b h (λ next is. a at.line None next is tt)
  here (Directs d) forms file line w s same e b h a =
      let o = around_of file line w s in
      let ok = of_mode o d.at d.word h in
      any_line file line w s d forms ok.0 ok.1
      (λ v next is before. a line v next (ap (λ t. cond (t && true) (behind_directive o d.at d.word) o) ok.0 ∙ is) before)

  over : (file line : ℕ) (w : Option Waiting) (s : Shape) → at_file_end (around_of file line w s) ≡ [] → (w ≡ None) × (s ≡ top)
  over file line w s h =
      let o = around_of file line w s in
      let cut = both_empty (cut_off o.waiting) (unended o ++ ((unclosed o.list.blocks ++ all_unclosed o.outside) ++ alone o)) h in
      let ended = both_empty (unended o) ((unclosed o.list.blocks ++ all_unclosed o.outside) ++ alone o) cut.1 in
      (none_cut file line w s cut.0, ended_on_top file line w s ended.0)
    where
      ended_on_top : (file line : ℕ) (w : Option Waiting) (s : Shape) → unended (around_of file line w s) ≡ [] → s ≡ top
      ended_on_top file line w top h = refl
      ended_on_top file line w (module_head u n) h = absurd (nonempty h)
      ended_on_top file line w (contained n) h = absurd (nonempty h)
      ended_on_top file line w (unit_head host u sub name d p) h = absurd (nonempty h)
      ended_on_top file line w (early host u sub name d p place depth bs) h = absurd (nonempty h)
      ended_on_top file line w (body host sub name n) h = absurd (nonempty h)

  in_file : (t : Bool) (f : Form) (forms : List Form) (file line : ℕ) (w : Option Waiting) (s : Shape) → (file_of (item_of f) == (around_of file line w s).file) ≡ t → is_form f ≡ true → Before mode w →
      left_behind (file_of (item_of f)) (around_of file line w s) ≡ [] → at_item mode (entered (file_of (item_of f)) (around_of file line w s)) (item_of f) ≡ [] →
      ((file_then after : ℕ) (v : Option Waiting) (next : Shape) → behind mode (entered (file_of (item_of f)) (around_of file line w s)) (item_of f) ≡ around_of file_then after v next → Before mode v →
      Waits mode file_then v next forms) → Waits mode file w s (f ∷ forms)
  in_file true f forms file line w s t e b left h a =
      let o = around_of file line w s in
      let i = item_of f in
      let same = ap (λ x. cond x o (passing.top (file_of i))) t in
      here f forms file line w s (eqb-true (file_of i) o.file t ∙ in_this_file file line w s) e b (subst (λ x. at_item mode x i ≡ []) same h)
      (λ after v next is before. a file after v next (ap (λ x. behind mode x i) same ∙ is) before)
  in_file false f forms file line w s t e b left h a =
      let o = around_of file line w s in
      let i = item_of f in
      let same = ap (λ x. cond x o (passing.top (file_of i))) t in
      let ended = over file line w s (subst (λ x. cond x [] (at_file_end o) ≡ []) t left) in
      subst (λ v. Waits mode file v s (f ∷ forms)) (sym ended.0) (subst (λ x. Nested mode file x (f ∷ forms)) (sym ended.1)
      (here f forms (file_of i) 0 None top refl e tt (subst (λ x. at_item mode x i ≡ []) same h)
      (λ after v next is before. a (file_of i) after v next (ap (λ x. behind mode x i) same ∙ is) before)))

  run : (forms : List Form) (file line : ℕ) (w : Option Waiting) (s : Shape) → list_all is_form forms ≡ true → Before mode w → faults_from mode (around_of file line w s) (items_of forms) ≡ [] →
      Waits mode file w s forms
  run [] file line w s e b h =
      let ended = over file line w s h in
      subst (λ v. Waits mode file v s []) (sym ended.0) (subst (λ t. Nested mode file t []) (sym ended.1) (λ m u. record { modules = []; units = []; order = []; nests = no_more }))
  run (f ∷ forms) file line w s e b h =
      let o = around_of file line w s in
      let i = item_of f in
      let number = file_of i in
      let parts = both_empty (left_behind number o ++ at_item mode (entered number o) i) (faults_from mode (behind mode (entered number o) i) (items_of forms)) h in
      let clean = both_empty (left_behind number o) (at_item mode (entered number o) i) parts.0 in
      let good = and_parts (is_form f) (list_all is_form forms) e in
      in_file (number == o.file) f forms file line w s refl good.0 b clean.0 clean.1
      (λ file_then after v next is before. run forms file_then after v next good.1 before (subst (λ x. faults_from mode x (items_of forms) ≡ []) is parts.1))

pub faultless_nest : FaultlessNest
faultless_nest mode forms e h =
    let n = run mode forms 0 0 None top e tt h 0 0 in
    (record { modules = n.modules; units = n.units; order = n.order }, n.nests)
