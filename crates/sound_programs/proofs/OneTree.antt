-- Forms nest into one tree at most: statements.
use Rattle.std.proofs.Common.{◌≡◌, List, [], ◌∷◌, Bool, true, false, Option, None, Some, refl, sym, ap, subst, ◌∙◌}
use Rattle.std.proofs.lemmas.Bool.{false≢true}
use Rattle.fort_tree.specs.declared.choice.Mode.{Mode}
use Rattle.fort_tree.specs.declared.choice.Mode.TheVariants.{Source, Target}
use Rattle.fort_tree.specs.declared.place.Place.{Place}
use Rattle.fort_tree.specs.declared.statement.Statement.{Statement}
use Rattle.fort_tree.specs.declared.statement.Statement.TheOpen.{Statement-F}
use Rattle.fort_tree.specs.declared.stmt.Arm.{Arm}
use Rattle.fort_tree.specs.declared.stmt.Case as tree_case
use Rattle.fort_tree.specs.declared.stmt.DirectiveWord.{DirectiveWord}
use Rattle.fort_tree.specs.declared.stmt.DirectiveWord.TheVariants.{Forward, Fusion, Interchange, Hoist, EndHoist, Transform, EndTransform, Cache, OpenMpLoop, OpenAccLoop}
use Rattle.fort_tree.specs.declared.stmt.Stmt.{Stmt}
use Rattle.fort_tree.specs.declared.stmt.Stmt.TheVariants as tree
use Rattle.sound_programs.specs.Forms.{Form, Says, Directs, is_forward, is_before_loop, begins_block, ends_block}
use Rattle.sound_programs.specs.Nesting.{Inside, arm, case, Simple, assigns, calls, exits, cycles, returns, Body, done, more, One, simple, forwarded, if_action, if_then, selects, loops, directed, block, Arms, end_if, else_last, else_if, Cases, end_select, case_of, default}

-- ---- Where no statement begins

unfoldable pub ends_here_level : Statement-F Statement → Bool
ends_here_level (Statement-F.Assign left right) = false
ends_here_level (Statement-F.Call name args) = false
ends_here_level (Statement-F.IfAction test at action) = false
ends_here_level (Statement-F.IfThen test) = false
ends_here_level (Statement-F.Do head) = false
ends_here_level Statement-F.Exit = false
ends_here_level Statement-F.Cycle = false
ends_here_level Statement-F.Return = false
ends_here_level (Statement-F.Select on) = false
ends_here_level other = true

unfoldable pub is_end_word : DirectiveWord → Bool
is_end_word EndHoist = true
is_end_word EndTransform = true
is_end_word other = false

-- no statement begins with these forms
abbrev pub ends_here : List Form → Bool
ends_here [] = true
ends_here (Says at said ∷ rest) = ends_here_level said
ends_here (Directs d ∷ rest) = is_end_word d.word

forward_begins : (mode : Mode) (w : DirectiveWord) → is_forward mode w ≡ true → is_end_word w ≡ false
unfolding is_end_word
forward_begins Source Forward h = refl
forward_begins mode w h = absurd (false≢true h)

directive_begins : (mode : Mode) (w : DirectiveWord) → is_before_loop mode w ≡ true → is_end_word w ≡ false
unfolding is_end_word
directive_begins Source Forward h = refl
directive_begins Source Fusion h = refl
directive_begins Source Interchange h = refl
directive_begins Source Cache h = refl
directive_begins Target OpenMpLoop h = refl
directive_begins Target OpenAccLoop h = refl
directive_begins mode w h = absurd (false≢true h)

block_begins : (mode : Mode) (w : DirectiveWord) → begins_block mode w ≡ true → is_end_word w ≡ false
unfolding is_end_word
block_begins Source Hoist h = refl
block_begins Source Transform h = refl
block_begins mode w h = absurd (false≢true h)

forward_is_no_block : (mode : Mode) (w : DirectiveWord) → is_forward mode w ≡ true → begins_block mode w ≡ true → ⊥
forward_is_no_block Source Hoist h k = false≢true h
forward_is_no_block Source Transform h k = false≢true h
forward_is_no_block mode w h k = false≢true k

directive_is_no_block : (mode : Mode) (w : DirectiveWord) → is_before_loop mode w ≡ true → begins_block mode w ≡ true → ⊥
directive_is_no_block Source Hoist h k = false≢true h
directive_is_no_block Source Transform h k = false≢true h
directive_is_no_block mode w h k = false≢true k

block_ends : (w end : DirectiveWord) → ends_block w end ≡ true → is_end_word end ≡ true
unfolding is_end_word
block_ends w EndHoist h = refl
block_ends w EndTransform h = refl
block_ends Hoist end h = absurd (false≢true h)
block_ends Transform end h = absurd (false≢true h)
block_ends w end h = absurd (false≢true h)

simple_begins : {around : Inside} {at : Place} {said : Statement-F Statement} {s : Stmt} → Simple around at said s → ends_here_level said ≡ false
unfolding ends_here_level
simple_begins (assigns left right h) = refl
simple_begins (calls name args) = refl
simple_begins (exits h) = refl
simple_begins (cycles h) = refl
simple_begins (returns h) = refl

simple_unique : {around : Inside} {at : Place} {said : Statement-F Statement} {s t : Stmt} → Simple around at said s → Simple around at said t → s ≡ t
simple_unique (assigns left right h) (assigns left' right' k) = refl
simple_unique (calls name args) (calls name' args') = refl
simple_unique (exits h) (exits k) = refl
simple_unique (cycles h) (cycles k) = refl
simple_unique (returns h) (returns k) = refl

abbrev pub behind_first : List Form → List Form
behind_first [] = []
behind_first (f ∷ rest) = rest

module _ (mode : Mode) where
  begins : {around : Inside} {forms next : List Form} {s : Stmt} → One mode around forms s next → ends_here forms ≡ false
  unfolding ends_here_level
  begins (simple h) = simple_begins h
  begins (forwarded {d = d} h) = forward_begins mode d.word h
  begins (if_action h) = refl
  begins (if_then body arms) = refl
  begins (selects cases) = refl
  begins (loops body) = refl
  begins (directed {d = d} h body) = directive_begins mode d.word h
  begins (block {d = d} h k body) = block_begins mode d.word h

  arms_end : {around : Inside} {forms rest : List Form} {arms : List Arm} {other : Option (List Stmt)} → Arms mode around forms arms other rest → ends_here forms ≡ true
  unfolding ends_here_level
  arms_end end_if = refl
  arms_end (else_last body) = refl
  arms_end (else_if body arms) = refl

  cases_end : {around : Inside} {forms rest : List Form} {cases : List tree_case.Case} {other : Option (List Stmt)} → Cases mode around forms cases other rest → ends_here forms ≡ true
  unfolding ends_here_level
  cases_end end_select = refl
  cases_end (case_of h body cases) = refl
  cases_end (default body cases) = refl

  abbrev SameStatements : List Stmt → List Stmt → List Form → List Form → Type 0
  SameStatements ss ts rest rest' = (ss ≡ ts) × (rest ≡ rest')

  mutual
    unfolding ends_here_level is_end_word

    pub body_unique : {around : Inside} {forms rest rest' : List Form} {ss ts : List Stmt} → Body mode around forms ss rest → ends_here rest ≡ true → Body mode around forms ts rest' → ends_here rest' ≡ true → (ss ≡ ts) × (rest ≡ rest')
    body_unique done c done c' = (refl, refl)
    body_unique done c (more one body) c' = absurd (false≢true (sym (begins one) ∙ c))
    body_unique (more one body) c done c' = absurd (false≢true (sym (begins one) ∙ c'))
    body_unique {around = around} {rest' = rest'} (more {next = next} {s = s} {ss = ss} one body) c (more {next = next'} {s = t} {ss = ts} one' body') c' =
        let q : (s ≡ t) × (next ≡ next') = one_unique one one' in
        let r : (ss ≡ ts) × (_ ≡ rest') = body_unique body c (subst (λ f. Body mode around f ts rest') (sym q.1) body') c' in
        (λ i. q.0 i ∷ r.0 i, r.1)

    one_unique : {around : Inside} {forms next next' : List Form} {s t : Stmt} → One mode around forms s next → One mode around forms t next' → (s ≡ t) × (next ≡ next')
    one_unique (simple h) (simple k) = (simple_unique h k, refl)
    one_unique (simple h) (if_action k) = elim h [ ]
    one_unique (simple h) (if_then body arms) = elim h [ ]
    one_unique (simple h) (selects cases) = elim h [ ]
    one_unique (simple h) (loops body) = elim h [ ]
    one_unique (forwarded h) (forwarded k) = (refl, refl)
    one_unique (forwarded {d = d} h) (block k e body) = absurd (forward_is_no_block mode d.word h k)
    one_unique (if_action h) (simple k) = elim k [ ]
    one_unique (if_action {at = at} {test = test} h) (if_action k) = (ap (λ s. tree.If at (arm test (s ∷ []) ∷ []) None) (simple_unique h k), refl)
    one_unique (if_then body arms) (simple k) = elim k [ ]
    one_unique {around = around} {next' = rest'} (if_then {at = at} {test = test} body arms) (if_then {arms = arms''} {other = other''} body' arms') =
        let q : _ × _ = body_unique body (arms_end arms) body' (arms_end arms') in
        let r : _ × _ × _ = arms_unique arms (subst (λ f. Arms mode around f arms'' other'' rest') (sym q.1) arms') in
        (λ i. tree.If at (arm test (q.0 i) ∷ r.0 i) (r.1 i), r.2)
    one_unique (selects cases) (simple k) = elim k [ ]
    one_unique (selects {at = at} {on = on} cases) (selects cases') =
        let r : _ × _ × _ = cases_unique cases cases' in
        (λ i. tree.Select at on (r.0 i) (r.1 i), r.2)
    one_unique (loops body) (simple k) = elim k [ ]
    one_unique (loops {at = at} {head = head} body) (loops body') =
        let q : _ × _ = body_unique body refl body' refl in
        (λ i. tree.Loop at head (q.0 i) None, ap behind_first q.1)
    one_unique (directed {d = d} {at = at} {head = head} h body) (directed k body') =
        let q : _ × _ = body_unique body refl body' refl in
        (λ i. tree.Loop at head (q.0 i) (Some d), ap behind_first q.1)
    one_unique (directed {d = d} h body) (block k e body') = absurd (directive_is_no_block mode d.word h k)
    one_unique (block h e body) (forwarded {d = d} k) = absurd (forward_is_no_block mode d.word k h)
    one_unique (block h e body) (directed {d = d} k body') = absurd (directive_is_no_block mode d.word k h)
    one_unique (block {d = d} {end = end} h e body) (block {end = end'} k e' body') =
        let q : _ × _ = body_unique body (block_ends d.word end.word e) body' (block_ends d.word end'.word e') in
        (λ i. tree.Block d.at d (q.0 i), ap behind_first q.1)

    arms_unique : {around : Inside} {forms rest rest' : List Form} {arms arms' : List Arm} {other other' : Option (List Stmt)} → Arms mode around forms arms other rest → Arms mode around forms arms' other' rest' → (arms ≡ arms') × (other ≡ other') × (rest ≡ rest')
    arms_unique end_if end_if = (refl, refl, refl)
    arms_unique (else_last body) (else_last body') =
        let q : _ × _ = body_unique body refl body' refl in
        (refl, λ i. Some (q.0 i), ap behind_first q.1)
    arms_unique {around = around} {rest' = rest'} (else_if {test = test} body arms) (else_if {arms = arms''} {other = other''} body' arms') =
        let q : _ × _ = body_unique body (arms_end arms) body' (arms_end arms') in
        let r : _ × _ × _ = arms_unique arms (subst (λ f. Arms mode around f arms'' other'' rest') (sym q.1) arms') in
        (λ i. arm test (q.0 i) ∷ r.0 i, r.1, r.2)

    cases_unique : {around : Inside} {forms rest rest' : List Form} {cases cases' : List tree_case.Case} {other other' : Option (List Stmt)} → Cases mode around forms cases other rest → Cases mode around forms cases' other' rest' → (cases ≡ cases') × (other ≡ other') × (rest ≡ rest')
    cases_unique end_select end_select = (refl, refl, refl)
    cases_unique {around = around} {rest' = rest'} (case_of {ranges = ranges} h body cases) (case_of {cases = cases''} {other = other''} h' body' cases') =
        let q : _ × _ = body_unique body (cases_end cases) body' (cases_end cases') in
        let r : _ × _ × _ = cases_unique cases (subst (λ f. Cases mode around f cases'' other'' rest') (sym q.1) cases') in
        (λ i. case ranges (q.0 i) ∷ r.0 i, r.1, r.2)
    cases_unique {around = around} {rest' = rest'} (default body cases) (default {cases = cases''} body' cases') =
        let q : _ × _ = body_unique body (cases_end cases) body' (cases_end cases') in
        let r : _ × _ × _ = cases_unique cases (subst (λ f. Cases mode around f cases'' None rest') (sym q.1) cases') in
        (r.0, λ i. Some (q.0 i), r.2)
