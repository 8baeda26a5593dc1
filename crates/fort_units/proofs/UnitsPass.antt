-- Units, modules and files that nest bring no fault but that statements are too deep.
use Rattle.std.proofs.Common.{◌≡◌, ℕ, ◌==◌, List, [], ◌∷◌, ◌++◌, Bool, true, false, cond, max, map, Option, None, Some, refl, sym, ap, subst, ◌∙◌, arith, eqb-true}
use Rattle.std.specs.Str.{bytes_eq}
use Rattle.std.proofs.lemmas.Bool.{false≢true, and_from, eq-eqb}
use Rattle.std.proofs.lemmas.Slice.Eq.{bytes_eq-Decides}
use Rattle.fort_tree.specs.declared.choice.Mode.{Mode}
use Rattle.fort_tree.specs.declared.place.Place.{Place}
use Rattle.fort_tree.specs.declared.statement.EndWord.{EndWord}
use Rattle.fort_tree.specs.declared.statement.EndWord.TheVariants as word
use Rattle.fort_tree.specs.declared.statement.Statement.TheOpen.{Statement-F}
use Rattle.fort_tree.specs.declared.unit.Item as tree_item
use Rattle.fort_tree.specs.declared.unit.Module.{Module}
use Rattle.fort_tree.specs.declared.unit.Unit as unit
use Rattle.claw_meaning.specs.Plain.{plain_unit}
use Rattle.sound_programs.specs.Forms.{Form, Says}
use Rattle.sound_programs.specs.Nesting as nesting
use Rattle.sound_programs.specs.Nesting.{Ends, bare, with_word, with_name, IsUnit, subroutine, function, AreUnits, no_more_units, a_unit, Contained, contains_none, contains, IsModule, a_module, Nests_from, no_more, module_first, unit_first}
use Rattle.fort_units.specs.declared.around.Around.{Around}
use Rattle.fort_units.specs.declared.around.Heading.{Heading}
use Rattle.fort_units.specs.declared.around.Part.TheVariants as part
use Rattle.fort_stmt.specs.declared.sort.Sort.TheVariants as sort
use Rattle.fort_units.specs.Opens.{in_head, ends, unit_list, same_word}
use Rattle.fort_units.specs.Faults.{at_file_end, at_item}
use Rattle.fort_units.specs.Passing.{behind, top, entered, faults_from}
use Rattle.fort_units.specs.Shown.{item_of, items_of, FilesFrom}
use Rattle.fort_units.specs.Depth.{units_depth}
use Rattle.fort_units.proofs.Shapes.{nonempty}
use Rattle.fort_units.proofs.Tails.{Tail, same, joined, past, behind as tail_behind, body_tail, head_tail, unit_tail, units_tail, contained_tail, InFile, first_in, rest_in, front_in, back_in, form_file, between, files_behind}
use Rattle.fort_units.proofs.Passes.{OnlyDeep, both_deep, nothing_deep, Passes, stays, then, quietly, and_quietly, says_quietly}
use Rattle.fort_units.proofs.Levels.{stmts_deep}
use Rattle.fort_units.proofs.BodiesPass.{Loose, IsEven, behind_at, Suits, body}
use Rattle.fort_units.proofs.HeadsPass.{head, paired_owed, head_pass}

-- ---- END lines

-- the END says this
record EndSays (w : EndWord) (name : List ℕ) (header : Place) (end : Form) : Type 0 where
  at : Place
  with : Option EndWord
  named : Option (List ℕ)
  is : end ≡ Says at (Statement-F.End with named)
  in_file : at.file ≡ header.file
  fits : ends with named (record { word = w; name = name }) ≡ true

own_word : (w : EndWord) → same_word w w ≡ true
own_word word.Module = refl
own_word word.Subroutine = refl
own_word word.Function = refl

end_says : (mode : Mode) {w : EndWord} {name : List ℕ} {header : Place} {end : Form} → Ends mode w name header end → EndSays w name header end
end_says mode (bare {at = at} f) = record { at = at; with = None; named = None; is = refl; in_file = f; fits = refl }
end_says mode {w = w} (with_word {at = at} f) = record { at = at; with = Some w; named = None; is = refl; in_file = f; fits = and_from (same_word w w) true (own_word w) refl }
end_says mode {w = w} {name = name} (with_name {at = at} f) =
    record { at = at; with = Some w; named = Some name; is = refl; in_file = f; fits = and_from (same_word w w) (bytes_eq name name) (own_word w) ((bytes_eq-Decides name name).1 refl) }

-- the END stands in the header's file
end_file : (mode : Mode) {w : EndWord} {name : List ℕ} {header : Place} {end : Form} → Ends mode w name header end → form_file end ≡ header.file
end_file mode e = let s = end_says mode e in ap form_file s.is ∙ s.in_file

module _ (mode : Mode) (file : ℕ) where
  -- between units: no unit is open, and units can follow
  abbrev among : Option (List ℕ) → Loose → Around
  among host l = head mode file host None (record l { part = part.Body })

  end_unit : {w : EndWord} {name : List ℕ} {header : Place} {end : Form} (host : Option (List ℕ)) (l : Loose) (rest : List Form) → IsEven l → form_file end ≡ file → (s : EndSays w name header end) →
      Passes mode 0 0 (head mode file host (Some (record { word = w; name = name })) l) (end ∷ rest) (among host (behind_at s.at.line)) rest
  end_unit {w = w} {name = name} host l rest e f s =
      let o = head mode file host (Some (record { word = w; name = name })) l in
      subst (λ x. Passes mode 0 0 o (x ∷ rest) (among host (behind_at s.at.line)) rest) (sym s.is)
      (says_quietly mode o s.at (Statement-F.End s.with s.named) (sort.End s.with s.named) rest (sym (ap form_file s.is) ∙ f) refl s.fits refl e)

  end_module : {name : List ℕ} {header : Place} {end : Form} (l : Loose) (rest : List Form) → IsEven l → form_file end ≡ file → (s : EndSays word.Module name header end) →
      Passes mode 0 0 (head mode file (Some name) None l) (end ∷ rest) (among None (behind_at s.at.line)) rest
  end_module {name = name} l rest e f s =
      let o = head mode file (Some name) None l in
      subst (λ x. Passes mode 0 0 o (x ∷ rest) (among None (behind_at s.at.line)) rest) (sym s.is)
      (says_quietly mode o s.at (Statement-F.End s.with s.named) (sort.End s.with s.named) rest (sym (ap form_file s.is) ∙ f) refl s.fits refl e)

  -- ---- Units

  no_list : Suits nesting.in_unit unit_list
  no_list = record { holds = refl; exits = λ h. absurd (false≢true h); cycles = λ h. absurd (false≢true h); returns = λ h. refl }

  -- from what is open to where units can follow
  record UnitsDone (n : ℕ) (host : Option (List ℕ)) (before : Around) (forms rest : List Form) : Type 0 where
    loose : Loose
    even : IsEven loose
    passes : Passes mode 0 n before forms (among host loose) rest

  -- the same where nothing of a head is kept
  record UnitDone (n : ℕ) (host : Option (List ℕ)) (before : Around) (forms rest : List Form) : Type 0 where
    line : ℕ
    passes : Passes mode 0 n before forms (among host (behind_at line)) rest

  unit_pass : {number : Option ℕ} {forms rest : List Form} {u : unit.Unit} (host : Option (List ℕ)) (l : Loose) → InFile file forms rest → IsUnit mode number forms u rest →
      UnitDone (stmts_deep u.body) host (among host l) forms rest
  unit_pass host l f (subroutine {at = at} {name = name} {dummies = dummies} {head = lines} {inside = inner} {rest = rest} h p b e) =
      let heading : Heading = record { word = word.Subroutine; name = name.name } in
      let t = past (body_tail mode b) in
      let a = says_quietly mode (among host l) at (Statement-F.Subroutine name dummies) (sort.Subroutine name.name) lines (first_in f (joined (head_tail mode h) t)) refl refl refl refl in
      let d = head_pass mode file host (Some heading) at.line (front_in (rest_in f) t) (paired_owed mode file host (Some heading) refl p) (λ m k. refl) h in
      let f2 = back_in (rest_in f) (head_tail mode h) in
      let s = body mode file host heading unit_list [] d.loose no_list d.even (front_in f2 (tail_behind same)) b in
      let says = end_says mode e in
      let z = end_unit host s.loose rest s.even (first_in (back_in f2 (body_tail mode b)) same) says in
      record { line = says.at.line; passes = quietly a (quietly d.passes (and_quietly s.passes z)) }
  unit_pass host l f (function {at = at} {prefix = prefix} {name = name} {dummies = dummies} {result = outcome} {head = lines} {inside = inner} {rest = rest} h b e) =
      let heading : Heading = record { word = word.Function; name = name.name } in
      let t = past (body_tail mode b) in
      let a = says_quietly mode (among host l) at (Statement-F.Function prefix name dummies outcome) (sort.Function name.name) lines (first_in f (joined (head_tail mode h) t)) refl refl refl refl in
      let d = head_pass mode file host (Some heading) at.line (front_in (rest_in f) t) refl (λ m k. refl) h in
      let f2 = back_in (rest_in f) (head_tail mode h) in
      let s = body mode file host heading unit_list [] d.loose no_list d.even (front_in f2 (tail_behind same)) b in
      let says = end_says mode e in
      let z = end_unit host s.loose rest s.even (first_in (back_in f2 (body_tail mode b)) same) says in
      record { line = says.at.line; passes = quietly a (quietly d.passes (and_quietly s.passes z)) }

  units_pass : {number : Option ℕ} {forms rest : List Form} {us : List unit.Unit} (host : Option (List ℕ)) (l : Loose) → IsEven l → InFile file forms rest → AreUnits mode number forms us rest →
      UnitsDone (units_depth (map plain_unit us)) host (among host l) forms rest
  units_pass host l e f no_more_units = record { loose = l; even = e; passes = stays }
  units_pass host l e f (a_unit u us) =
      let a = unit_pass host l (front_in f (units_tail mode us)) u in
      let b = units_pass host (behind_at a.line) refl (back_in f (unit_tail mode u)) us in
      record { loose = b.loose; even = b.even; passes = then a.passes b.passes }

  -- ---- Modules

  -- from a module's head to its END
  record ContainedDone (n : ℕ) (name : List ℕ) (before : Around) (forms rest : List Form) : Type 0 where
    loose : Loose
    even : IsEven loose
    passes : Passes mode 0 n before forms (head mode file (Some name) None loose) rest

  contained_pass : {number : ℕ} {forms rest : List Form} {us : List unit.Unit} (name : List ℕ) (l : Loose) → in_head l.part ≡ true → IsEven l → InFile file forms rest → Contained mode number forms us rest →
      ContainedDone (units_depth (map plain_unit us)) name (head mode file (Some name) None l) forms rest
  contained_pass name l i e f contains_none = record { loose = l; even = e; passes = stays }
  contained_pass name l i e f (contains {at = at} {forms = forms} us) =
      let a = says_quietly mode (head mode file (Some name) None l) at Statement-F.Contains sort.Contains forms (first_in f (units_tail mode us)) refl i refl refl in
      let b = units_pass (Some name) (record l { line = at.line }) e (rest_in f) us in
      let last = b.loose in
      record { loose = record last { part = part.Body }; even = b.even; passes = quietly a b.passes }

  module_pass : {number : ℕ} {forms rest : List Form} {a : Module} {us : List unit.Unit} (line : ℕ) → InFile file forms rest → IsModule mode number forms a us rest →
      UnitDone (units_depth (map plain_unit us)) None (among None (behind_at line)) forms rest
  module_pass line f (a_module {at = at} {name = name} {head = lines} {rest = rest} h c e) =
      let t = past (contained_tail mode c) in
      let a = says_quietly mode (among None (behind_at line)) at (Statement-F.Module name) (sort.Module name.name) lines (first_in f (joined (head_tail mode h) t)) refl refl refl refl in
      let d = head_pass mode file (Some name.name) None at.line (front_in (rest_in f) t) refl (λ m k. absurd (nonempty (sym k))) h in
      let f2 = back_in (rest_in f) (head_tail mode h) in
      let b = contained_pass name.name d.loose d.is_early d.even (front_in f2 (tail_behind same)) c in
      let says = end_says mode e in
      let z = end_module b.loose rest b.even (first_in (back_in f2 (contained_tail mode c)) same) says in
      record { line = says.at.line; passes = quietly a (quietly d.passes (and_quietly b.passes z)) }

-- ---- The top level

-- a unit or a module stands in the file of its first form
record Begins (forms rest : List Form) : Type 0 where
  header : Form
  others : List Form
  is : forms ≡ header ∷ others
  in_file : (n : ℕ) → FilesFrom n forms → InFile (form_file header) forms rest

module _ (mode : Mode) where
  unit_begins : {number : Option ℕ} {forms rest : List Form} {u : unit.Unit} → IsUnit mode number forms u rest → Begins forms rest
  unit_begins (subroutine h p b e) = record { header = _; others = _; is = refl; in_file = λ n k. between n k (joined (head_tail mode h) (body_tail mode b)) refl (end_file mode e) }
  unit_begins (function h b e) = record { header = _; others = _; is = refl; in_file = λ n k. between n k (joined (head_tail mode h) (body_tail mode b)) refl (end_file mode e) }

  module_begins : {number : ℕ} {forms rest : List Form} {a : Module} {us : List unit.Unit} → IsModule mode number forms a us rest → Begins forms rest
  module_begins (a_module h c e) = record { header = _; others = _; is = refl; in_file = λ n k. between n k (joined (head_tail mode h) (contained_tail mode c)) refl (end_file mode e) }

  module_tail : {number : ℕ} {forms rest : List Form} {a : Module} {us : List unit.Unit} → IsModule mode number forms a us rest → Tail forms rest
  module_tail (a_module h c e) = tail_behind (joined (head_tail mode h) (past (contained_tail mode c)))

  -- a file may begin with this line, or go on with it
  left_none : (b : Bool) (o : Around) → at_file_end o ≡ [] → cond b [] (at_file_end o) ≡ []
  left_none true o e = refl
  left_none false o e = e

  from_line : (o : Around) (f : Form) (fs : List Form) → at_file_end o ≡ [] →
      faults_from mode o (items_of (f ∷ fs)) ≡ at_item mode (entered (form_file f) o) (item_of f) ++ faults_from mode (behind mode (entered (form_file f) o) (item_of f)) (items_of fs)
  from_line o f fs e =
      let p = entered (form_file f) o in
      ap (λ x. (x ++ at_item mode p (item_of f)) ++ faults_from mode (behind mode p (item_of f)) (items_of fs)) (left_none (form_file f == o.file) o e)

  -- the line of the file's last statement
  abbrev kept_line : ℕ → ℕ → ℕ → ℕ
  kept_line next file line = cond (next == file) line 0

  abbrev on_top : ℕ → ℕ → Around
  on_top file line = among mode file None (behind_at line)

  enters : (b : Bool) (next file line : ℕ) → (next == file) ≡ b → cond b (on_top file line) (top next) ≡ on_top next (cond b line 0)
  enters true next file line e = ap (λ x. on_top x line) (sym (eqb-true next file e))
  enters false next file line e = refl

  enter : (file line : ℕ) (f : Form) (fs : List Form) → faults_from mode (on_top file line) (items_of (f ∷ fs)) ≡ faults_from mode (on_top (form_file f) (kept_line (form_file f) file line)) (items_of (f ∷ fs))
  enter file line f fs =
      let next = form_file f in
      let here = on_top next (kept_line next file line) in
      let own : (next == next) ≡ true = eq-eqb next next refl in
      from_line (on_top file line) f fs refl
      ∙ (ap (λ p. at_item mode p (item_of f) ++ faults_from mode (behind mode p (item_of f)) (items_of fs)) (enters (next == file) next file line refl ∙ sym (ap (λ b. cond b here (top next)) own))
      ∙ sym (from_line here f fs refl))

  units_both : (us vs : List unit.Unit) → max (units_depth (map plain_unit us)) (units_depth (map plain_unit vs)) ≡ units_depth (map plain_unit (us ++ vs))
  units_both [] vs = omega arith
  units_both (u ∷ us) vs = let more = units_both us vs in omega arith

  -- a unit or a module, and what follows it
  goes_on : {n m k : ℕ} {forms rest : List Form} (file line : ℕ) (b : Begins forms rest) (p : Around) →
      Passes mode 0 n (on_top (form_file b.header) (kept_line (form_file b.header) file line)) forms p rest → OnlyDeep mode 0 m (faults_from mode p (items_of rest)) → max n m ≡ k →
      OnlyDeep mode 0 k (faults_from mode (on_top file line) (items_of forms))
  goes_on {n = n} {m = m} {k = k} {forms = forms} {rest = rest} file line b p a r e =
      let here = on_top (form_file b.header) (kept_line (form_file b.header) file line) in
      let whole : OnlyDeep mode 0 (max n m) (a.found ++ faults_from mode p (items_of rest)) = both_deep a.deep r in
      let at_header : faults_from mode (on_top file line) (items_of forms) ≡ faults_from mode here (items_of forms) =
      subst (λ fs. faults_from mode (on_top file line) (items_of fs) ≡ faults_from mode here (items_of fs)) (sym b.is) (enter file line b.header b.others) in
      subst (λ j. OnlyDeep mode 0 j (faults_from mode (on_top file line) (items_of forms))) e (subst (OnlyDeep mode 0 (max n m)) (sym (at_header ∙ a.runs)) whole)

  pub all_pass : {a b : ℕ} {forms : List Form} {ms : List Module} {us : List unit.Unit} {order : List tree_item.Item} (file line n : ℕ) → FilesFrom n forms → Nests_from mode a b forms ms us order →
      OnlyDeep mode 0 (units_depth (map plain_unit us)) (faults_from mode (on_top file line) (items_of forms))
  all_pass file line n h no_more = nothing_deep
  all_pass file line n h (unit_first {rest = rest} {a = u} {vs = vs} x more_units) =
      let b = unit_begins x in
      let at = form_file b.header in
      let d = unit_pass mode at None (behind_at (kept_line at file line)) (b.in_file n h) x in
      let f = files_behind n (unit_tail mode x) h in
      goes_on file line b (on_top at d.line) d.passes (all_pass at d.line f.0 f.1 more_units) refl
  all_pass file line n h (module_first {rest = rest} {us = us} {vs = vs} x more_units) =
      let b = module_begins x in
      let at = form_file b.header in
      let d = module_pass mode at (kept_line at file line) (b.in_file n h) x in
      let f = files_behind n (module_tail x) h in
      goes_on file line b (on_top at d.line) d.passes (all_pass at d.line f.0 f.1 more_units) (units_both us vs)
