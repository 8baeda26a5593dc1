-- Forms nest into one file at most.
use Rattle.std.proofs.Common.{◌≡◌, ℕ, suc, ◌+◌, length, List, [], ◌∷◌, ◌++◌, Bool, true, false, Option, None, Some, refl, sym, ap, subst, ◌∙◌, inl, inr}
use Rattle.std.proofs.lemmas.Bool.{false≢true}
use Rattle.std.proofs.lemmas.List.{append_assoc, append-nil}
use Rattle.fort_tree.specs.declared.choice.Mode.{Mode}
use Rattle.fort_tree.specs.declared.choice.Mode.TheVariants.{Source, Target}
use Rattle.fort_tree.specs.declared.place.Place.{Place}
use Rattle.fort_tree.specs.declared.statement.EndWord.{EndWord}
use Rattle.fort_tree.specs.declared.statement.Statement.{Statement}
use Rattle.fort_tree.specs.declared.statement.Statement.TheOpen.{Statement-F}
use Rattle.fort_tree.specs.declared.stmt.Directive.{Directive}
use Rattle.fort_tree.specs.declared.stmt.DirectiveWord.{DirectiveWord}
use Rattle.fort_tree.specs.declared.stmt.DirectiveWord.TheVariants.{Define, Parallelize, Forward, Fusion, Interchange, Hoist, Transform, Cache, OpenMpLoop, OpenAccLoop, Routine}
use Rattle.fort_tree.specs.declared.stmt.Stmt.{Stmt}
use Rattle.fort_tree.specs.declared.unit.Decl.{Decl}
use Rattle.fort_tree.specs.declared.unit.File.{File}
use Rattle.fort_tree.specs.declared.unit.Item.{Item}
use Rattle.fort_tree.specs.declared.unit.Item.TheVariants as item
use Rattle.fort_tree.specs.declared.unit.Module.{Module}
use Rattle.fort_tree.specs.declared.unit.Unit as unit
use Rattle.fort_tree.specs.declared.unit.Use.{Use}
use Rattle.sound_programs.specs.Forms.{Form, Says, Directs, is_forward, is_before_loop, begins_block, is_define, is_parallelize, is_routine}
use Rattle.sound_programs.specs.Nesting.{Inside, in_unit, Simple, assigns, calls, exits, cycles, returns, Body, done, more, One, simple, forwarded, if_action, if_then, selects, loops, directed, block, IsHeadDirective, Uses, no_more_uses, uses, directs_use, Implicit, unsaid, said, Declares, no_more_decls, declares, directs_decl, Marked, unmarked, marked, Head-part, Ends, bare, with_word, with_name, result_or_name, prefix_decl, IsUnit, subroutine, function, AreUnits, no_more_units, a_unit, Contained, contains_none, contains, IsModule, a_module, Nests_from, no_more, module_first, unit_first, Nests}
use Rattle.sound_programs.proofs.OneTree.{ends_here_level, ends_here, body_unique, behind_first}

-- ---- The forms before the first statement, read off

record Scan : Type 0 where
  lines : List Use
  decls : List Decl
  marks : List Directive
  rest : List Form

abbrev add : List Use → List Decl → List Directive → Scan → Scan
add lines decls marks x = record { lines = lines ++ x.lines; decls = decls ++ x.decls; marks = marks ++ x.marks; rest = x.rest }

abbrev stop : List Form → Scan
stop rest = record { lines = []; decls = []; marks = []; rest = rest }

is_head_word : DirectiveWord → Bool
is_head_word Define = true
is_head_word Parallelize = true
is_head_word Routine = true
is_head_word other = false

abbrev add_mark_if : Bool → Directive → List Form → Scan → Scan
add_mark_if true d rest x = add [] [] (d ∷ []) x
add_mark_if false d rest x = stop (Directs d ∷ rest)

abbrev scan_level : Statement-F Statement → List Form → Scan → Scan
scan_level (Statement-F.Using line) rest x = add (line ∷ []) [] [] x
scan_level Statement-F.ImplicitNone rest x = x
scan_level (Statement-F.Declare line) rest x = add [] line [] x
scan_level other rest x = stop rest

abbrev scan : List Form → Scan
scan [] = stop []
scan (Says at level ∷ rest) = scan_level level (Says at level ∷ rest) (scan rest)
scan (Directs d ∷ rest) = add_mark_if (is_head_word d.word) d rest (scan rest)

define_is_head : (w : DirectiveWord) → is_define w ≡ true → is_head_word w ≡ true
unfolding is_head_word
define_is_head Define h = refl
define_is_head w h = absurd (false≢true h)

parallelize_is_head : (w : DirectiveWord) → is_parallelize w ≡ true → is_head_word w ≡ true
unfolding is_head_word
parallelize_is_head Parallelize h = refl
parallelize_is_head w h = absurd (false≢true h)

routine_is_head : (w : DirectiveWord) → is_routine w ≡ true → is_head_word w ≡ true
unfolding is_head_word
routine_is_head Routine h = refl
routine_is_head w h = absurd (false≢true h)

forward_is_not : (mode : Mode) (w : DirectiveWord) → is_forward mode w ≡ true → is_head_word w ≡ false
unfolding is_head_word
forward_is_not Source Forward h = refl
forward_is_not mode w h = absurd (false≢true h)

directive_is_not : (mode : Mode) (w : DirectiveWord) → is_before_loop mode w ≡ true → is_head_word w ≡ false
unfolding is_head_word
directive_is_not Source Forward h = refl
directive_is_not Source Fusion h = refl
directive_is_not Source Interchange h = refl
directive_is_not Source Cache h = refl
directive_is_not Target OpenMpLoop h = refl
directive_is_not Target OpenAccLoop h = refl
directive_is_not mode w h = absurd (false≢true h)

block_is_not : (mode : Mode) (w : DirectiveWord) → begins_block mode w ≡ true → is_head_word w ≡ false
unfolding is_head_word
block_is_not Source Hoist h = refl
block_is_not Source Transform h = refl
block_is_not mode w h = absurd (false≢true h)

simple_stops : {around : Inside} {at : Place} {level : Statement-F Statement} {s : Stmt} (rest : List Form) → Simple around at level s → scan (Says at level ∷ rest) ≡ stop (Says at level ∷ rest)
simple_stops rest (assigns left right h) = refl
simple_stops rest (calls name args) = refl
simple_stops rest (exits h) = refl
simple_stops rest (cycles h) = refl
simple_stops rest (returns h) = refl

word_stops : (d : Directive) (rest : List Form) → is_head_word d.word ≡ false → scan (Directs d ∷ rest) ≡ stop (Directs d ∷ rest)
word_stops d rest e = ap (λ b. add_mark_if b d rest (scan rest)) e

module _ (mode : Mode) where
  end_stops : {w : EndWord} {name : List ℕ} {header : Place} {end : Form} (rest : List Form) → Ends mode w name header end → scan (end ∷ rest) ≡ stop (end ∷ rest)
  end_stops rest (bare e) = refl
  end_stops rest (with_word e) = refl
  end_stops rest (with_name e) = refl

  end_ends : {w : EndWord} {name : List ℕ} {header : Place} {end : Form} (rest : List Form) → Ends mode w name header end → ends_here (end ∷ rest) ≡ true
  unfolding ends_here_level
  end_ends rest (bare e) = refl
  end_ends rest (with_word e) = refl
  end_ends rest (with_name e) = refl

  one_stops : {around : Inside} {forms next : List Form} {s : Stmt} → One mode around forms s next → scan forms ≡ stop forms
  one_stops (simple {rest = rest} h) = simple_stops rest h
  one_stops (forwarded {d = d} h) = word_stops d _ (forward_is_not mode d.word h)
  one_stops (if_action h) = refl
  one_stops (if_then body arms) = refl
  one_stops (selects cases) = refl
  one_stops (loops body) = refl
  one_stops (directed {d = d} h body) = word_stops d _ (directive_is_not mode d.word h)
  one_stops (block {d = d} h e body) = word_stops d _ (block_is_not mode d.word h)

  body_stops : {around : Inside} {forms rest : List Form} {ss : List Stmt} → scan rest ≡ stop rest → Body mode around forms ss rest → scan forms ≡ stop forms
  body_stops h done = h
  body_stops h (more one body) = one_stops one

  head_directive : (d : Directive) → IsHeadDirective mode d → is_head_word d.word ≡ true
  head_directive d (source, inl h) = define_is_head d.word h
  head_directive d (source, inr h) = parallelize_is_head d.word h

  uses_scanned : {forms rest : List Form} {lines : List Use} {marks : List Directive} → Uses mode forms lines marks rest → scan forms ≡ add lines [] marks (scan rest)
  uses_scanned no_more_uses = refl
  uses_scanned (uses {line = line} more_uses) = ap (add (line ∷ []) [] []) (uses_scanned more_uses)
  uses_scanned (directs_use {d = d} {forms = forms} h more_uses) =
      ap (λ b. add_mark_if b d forms (scan forms)) (head_directive d h) ∙ ap (add [] [] (d ∷ [])) (uses_scanned more_uses)

  implicit_scanned : {forms rest : List Form} → Implicit mode forms rest → scan forms ≡ scan rest
  implicit_scanned unsaid = refl
  implicit_scanned said = refl

  declares_scanned : {forms rest : List Form} {decls : List Decl} {marks : List Directive} → Declares mode forms decls marks rest → scan forms ≡ add [] decls marks (scan rest)
  declares_scanned no_more_decls = refl
  declares_scanned {rest = rest} {marks = marks} (declares {line = line} {decls = decls} h more_decls) =
      ap (add [] line []) (declares_scanned more_decls)
      ∙ ap (λ (l : List Decl). record { lines = (scan rest).lines; decls = l; marks = marks ++ (scan rest).marks; rest = (scan rest).rest }) (sym (append_assoc line decls (scan rest).decls))
  declares_scanned (directs_decl {d = d} {forms = forms} h more_decls) =
      ap (λ b. add_mark_if b d forms (scan forms)) (head_directive d h) ∙ ap (add [] [] (d ∷ [])) (declares_scanned more_decls)

  marked_scanned : {forms rest : List Form} {mark : List Directive} → Marked mode forms mark rest → scan forms ≡ add [] [] mark (scan rest)
  marked_scanned unmarked = refl
  marked_scanned (marked {d = d} {rest = rest} target h) = ap (λ b. add_mark_if b d rest (scan rest)) (routine_is_head d.word h)

  -- what a head part is, is read off its forms, where none of its forms follows
  pub record IsRead (forms : List Form) (lines : List Use) (decls : List Decl) (marks : List Directive) (rest : List Form) : Type 0 where
    lines_are : lines ≡ (scan forms).lines
    decls_are : decls ≡ (scan forms).decls
    marks_are : marks ≡ (scan forms).marks
    rest_is : rest ≡ (scan forms).rest

  head_read : {forms rest : List Form} {lines : List Use} {decls : List Decl} {pair mark : List Directive} → Head-part mode forms lines decls pair mark rest → scan rest ≡ stop rest → IsRead forms lines decls (pair ++ mark) rest
  head_read {forms = forms} {rest = rest} {lines = lines} {decls = decls} {pair = pair} {mark = mark} h stops =
      let whole : scan forms ≡ record { lines = lines ++ []; decls = decls ++ []; marks = h.among_uses ++ (h.among_decls ++ (mark ++ [])); rest = rest } =
      uses_scanned h.used
      ∙ (ap (add lines [] h.among_uses) (implicit_scanned h.implicit)
      ∙ (ap (λ x. add lines [] h.among_uses x) (declares_scanned h.declared)
      ∙ (ap (λ x. add lines [] h.among_uses (add [] decls h.among_decls x)) (marked_scanned h.marked)
      ∙ ap (λ x. add lines [] h.among_uses (add [] decls h.among_decls (add [] [] mark x))) stops))) in
      record {
        lines_are = sym (append-nil lines) ∙ ap (λ (x : Scan). x.lines) (sym whole);
        decls_are = sym (append-nil decls) ∙ ap (λ (x : Scan). x.decls) (sym whole);
        marks_are =
            ap (λ l. l ++ mark) h.paired
            ∙ (append_assoc h.among_uses h.among_decls mark
            ∙ (ap (λ l. h.among_uses ++ (h.among_decls ++ l)) (sym (append-nil mark)) ∙ ap (λ (x : Scan). x.marks) (sym whole)));
        rest_is = ap (λ (x : Scan). x.rest) (sym whole);
      }

  -- two readings of one head
  pub record SameHead (lines lines' : List Use) (decls decls' : List Decl) (marks marks' : List Directive) (rest rest' : List Form) : Type 0 where
    lines_same : lines ≡ lines'
    decls_same : decls ≡ decls'
    marks_same : marks ≡ marks'
    rest_same : rest ≡ rest'

  heads_same : {forms rest rest' : List Form} {lines lines' : List Use} {decls decls' : List Decl} {marks marks' : List Directive} → IsRead forms lines decls marks rest → IsRead forms lines' decls' marks' rest' → SameHead lines lines' decls decls' marks marks' rest rest'
  heads_same a b = record {
    lines_same = a.lines_are ∙ sym b.lines_are;
    decls_same = a.decls_are ∙ sym b.decls_are;
    marks_same = a.marks_are ∙ sym b.marks_are;
    rest_same = a.rest_is ∙ sym b.rest_is;
  }

  -- ---- Units

  unit_unique : {host : Option ℕ} {forms rest rest' : List Form} {u v : unit.Unit} → IsUnit mode host forms u rest → IsUnit mode host forms v rest' → (u ≡ v) × (rest ≡ rest')
  unit_unique {host = host} {rest = rest} {rest' = rest'} (subroutine {name = name} {dummies = dummies} head pair body ends) (subroutine {body = statements} {end = end'} head' pair' body' ends') =
      let h : SameHead _ _ _ _ _ _ _ _ = heads_same (head_read head (body_stops (end_stops rest ends) body)) (head_read head' (body_stops (end_stops rest' ends') body')) in
      let q : _ × _ = body_unique mode body (end_ends rest ends) (subst (λ f. Body mode in_unit f statements (end' ∷ rest')) (sym h.rest_same) body') (end_ends rest' ends') in (
        λ i. record { name = name.name; at = name.at; dummies = dummies; result = None; uses = h.lines_same i; decls = h.decls_same i; marks = h.marks_same i; body = q.0 i; host = host },
        ap behind_first q.1,
      )
  unit_unique {host = host} {rest = rest} {rest' = rest'} (function {prefix = prefix} {name = name} {dummies = dummies} {result = result} head body ends) (function {body = statements} {end = end'} head' body' ends') =
      let h : SameHead _ _ _ _ _ _ _ _ = heads_same (head_read head (body_stops (end_stops rest ends) body)) (head_read head' (body_stops (end_stops rest' ends') body')) in
      let q : _ × _ = body_unique mode body (end_ends rest ends) (subst (λ f. Body mode in_unit f statements (end' ∷ rest')) (sym h.rest_same) body') (end_ends rest' ends') in (
        λ i. record {
          name = name.name;
          at = name.at;
          dummies = dummies;
          result = Some (result_or_name mode name result);
          uses = h.lines_same i;
          decls = prefix_decl mode (result_or_name mode name result) prefix ++ h.decls_same i;
          marks = h.marks_same i;
          body = q.0 i;
          host = host;
        },
        ap behind_first q.1,
      )

  -- a unit begins with its header, and no END does
  abbrev begins_unit_level : Statement-F Statement → Bool
  begins_unit_level (Statement-F.Subroutine name dummies) = true
  begins_unit_level (Statement-F.Function prefix name dummies result) = true
  begins_unit_level other = false

  abbrev begins_unit : List Form → Bool
  begins_unit [] = false
  begins_unit (Says at level ∷ rest) = begins_unit_level level
  begins_unit (Directs d ∷ rest) = false

  unit_begins : {host : Option ℕ} {forms rest : List Form} {u : unit.Unit} → IsUnit mode host forms u rest → begins_unit forms ≡ true
  unit_begins (subroutine head pair body ends) = refl
  unit_begins (function head body ends) = refl

  end_is_no_unit : {w : EndWord} {name : List ℕ} {header : Place} {end : Form} (rest : List Form) → Ends mode w name header end → begins_unit (end ∷ rest) ≡ false
  end_is_no_unit rest (bare e) = refl
  end_is_no_unit rest (with_word e) = refl
  end_is_no_unit rest (with_name e) = refl

  units_unique : {host : Option ℕ} {forms rest rest' : List Form} {us vs : List unit.Unit} → AreUnits mode host forms us rest → begins_unit rest ≡ false → AreUnits mode host forms vs rest' → begins_unit rest' ≡ false → (us ≡ vs) × (rest ≡ rest')
  units_unique no_more_units c no_more_units c' = (refl, refl)
  units_unique no_more_units c (a_unit u us) c' = absurd (false≢true (sym c ∙ unit_begins u))
  units_unique (a_unit u us) c no_more_units c' = absurd (false≢true (sym c' ∙ unit_begins u))
  units_unique {host = host} {rest' = rest'} (a_unit u us) c (a_unit {us = vs} v more_vs) c' =
      let q : _ × _ = unit_unique u v in
      let r : _ × _ = units_unique us c (subst (λ f. AreUnits mode host f vs rest') (sym q.1) more_vs) c' in
      (λ i. q.0 i ∷ r.0 i, r.1)

  contains_no_end : {w : EndWord} {name : List ℕ} {header at : Place} → Ends mode w name header (Says at Statement-F.Contains) → ⊥
  contains_no_end e = elim e [ ]

  contained_unique : {n : ℕ} {w w' : EndWord} {name name' : List ℕ} {header header' : Place} {forms rest rest' : List Form} {end end' : Form} {us vs : List unit.Unit} →
      Contained mode n forms us (end ∷ rest) → Ends mode w name header end → Contained mode n forms vs (end' ∷ rest') → Ends mode w' name' header' end' → (us ≡ vs) × (rest ≡ rest')
  contained_unique contains_none e contains_none e' = (refl, refl)
  contained_unique contains_none e (contains us) e' = absurd (contains_no_end e)
  contained_unique (contains us) e contains_none e' = absurd (contains_no_end e')
  contained_unique {rest = rest} {rest' = rest'} (contains us) e (contains vs) e' =
      let q : _ × _ = units_unique us (end_is_no_unit rest e) vs (end_is_no_unit rest' e') in
      (q.0, ap behind_first q.1)

  contained_stops : {n : ℕ} {w : EndWord} {name : List ℕ} {header : Place} {forms rest : List Form} {end : Form} {us : List unit.Unit} → Contained mode n forms us (end ∷ rest) → Ends mode w name header end → scan forms ≡ stop forms
  contained_stops {rest = rest} contains_none e = end_stops rest e
  contained_stops (contains us) e = refl

  module_unique : {n : ℕ} {forms rest rest' : List Form} {a b : Module} {us vs : List unit.Unit} → IsModule mode n forms a us rest → IsModule mode n forms b vs rest' → (a ≡ b) × (us ≡ vs) × (rest ≡ rest')
  module_unique {n = n} {rest' = rest'} {vs = vs} (a_module {name = name} head inside ends) (a_module {end = end'} head' inside' ends') =
      let h : SameHead _ _ _ _ _ _ _ _ = heads_same (head_read head (contained_stops inside ends)) (head_read head' (contained_stops inside' ends')) in
      let q : _ × _ = contained_unique inside ends (subst (λ f. Contained mode n f vs (end' ∷ rest')) (sym h.rest_same) inside') ends' in
      (λ i. record { name = name.name; at = name.at; uses = h.lines_same i; decls = h.decls_same i }, q.0, q.1)

  -- ---- The top level

  module_is_no_unit : {n : ℕ} {host : Option ℕ} {forms rest rest' : List Form} {a : Module} {us : List unit.Unit} {u : unit.Unit} → IsModule mode n forms a us rest → IsUnit mode host forms u rest' → ⊥
  module_is_no_unit (a_module head inside ends) u = elim u [ ]

  nests_unique : {m u : ℕ} {forms : List Form} {ms ms' : List Module} {us us' : List unit.Unit} {order order' : List Item} → Nests_from mode m u forms ms us order → Nests_from mode m u forms ms' us' order' → (ms ≡ ms') × (us ≡ us') × (order ≡ order')
  nests_unique no_more no_more = (refl, refl, refl)
  nests_unique no_more (module_first a rest) = elim a [ ]
  nests_unique no_more (unit_first a rest) = elim a [ ]
  nests_unique (module_first a rest) no_more = elim a [ ]
  nests_unique {m = m} {u = u} (module_first {us = us} a rest) (module_first {rest = after} {ms = ms'} {vs = vs'} {order = order'} a' rest') =
      let q : _ × _ × _ = module_unique a a' in
      let r : _ × _ × _ = nests_unique rest (subst (λ f. Nests_from mode (suc m) (u + length us) f ms' vs' order') (sym q.2) (subst (λ l. Nests_from mode (suc m) (u + length l) after ms' vs' order') (sym q.1) rest')) in
      (λ i. q.0 i ∷ r.0 i, λ i. q.1 i ++ r.1 i, λ i. item.Module m ∷ r.2 i)
  nests_unique (module_first a rest) (unit_first a' rest') = absurd (module_is_no_unit a a')
  nests_unique (unit_first a rest) no_more = elim a [ ]
  nests_unique (unit_first a rest) (module_first a' rest') = absurd (module_is_no_unit a' a)
  nests_unique {m = m} {u = u} (unit_first a rest) (unit_first {ms = ms'} {vs = vs'} {order = order'} a' rest') =
      let q : _ × _ = unit_unique a a' in
      let r : _ × _ × _ = nests_unique rest (subst (λ f. Nests_from mode m (suc u) f ms' vs' order') (sym q.1) rest') in
      (r.0, λ i. q.0 i ∷ r.1 i, λ i. item.Unit u ∷ r.2 i)

  -- forms nest into one file at most
  pub one_file : (forms : List Form) (f g : File) → Nests mode forms f → Nests mode forms g → f ≡ g
  one_file forms f g a b = let q : _ × _ × _ = nests_unique a b in λ i. record { modules = q.0 i; units = q.1 i; order = q.2 i }
