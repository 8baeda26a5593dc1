-- Heads of units and modules that nest bring no fault.
use Rattle.std.proofs.Common.{◌≡◌, ℕ, List, [], ◌∷◌, ◌++◌, true, false, cond, ◌&&◌, Option, None, Some, ◌⊎◌, inl, inr, refl, sym, ap, subst, ◌∙◌}
use Rattle.std.specs.Prelude.{is_some}
use Rattle.std.proofs.lemmas.Bool.{false≢true, and_from}
use Rattle.fort_tree.specs.declared.choice.Mode.{Mode}
use Rattle.fort_tree.specs.declared.choice.Mode.TheVariants.{Source, Target}
use Rattle.fort_tree.specs.declared.place.Place.{Place}
use Rattle.fort_tree.specs.declared.statement.Statement.TheOpen.{Statement-F}
use Rattle.fort_tree.specs.declared.stmt.Directive.{Directive}
use Rattle.fort_tree.specs.declared.stmt.DirectiveWord.{DirectiveWord}
use Rattle.fort_tree.specs.declared.stmt.DirectiveWord.TheVariants as directive
use Rattle.fort_tree.specs.declared.unit.Decl.{Decl}
use Rattle.fort_tree.specs.declared.unit.Use.{Use}
use Rattle.sound_programs.specs.Forms.{Form, Directs, is_define, is_parallelize, is_routine}
use Rattle.sound_programs.specs.Nesting.{IsHeadDirective, Uses, no_more_uses, uses, directs_use, Implicit, unsaid, said, Declares, no_more_decls, declares, directs_decl, Marked, unmarked, marked, Paired, unpaired, defined_first, defined_last, Head-part}
use Rattle.fort_units.specs.declared.around.Around.{Around}
use Rattle.fort_units.specs.declared.around.Heading.{Heading}
use Rattle.fort_units.specs.declared.around.Part.{Part}
use Rattle.fort_units.specs.declared.around.Part.TheVariants as part
use Rattle.fort_units.specs.declared.item.Item.TheVariants as item
use Rattle.fort_stmt.specs.declared.sort.Sort.TheVariants as sort
use Rattle.fort_units.specs.Opens.{in_head, or_else, unit_list}
use Rattle.fort_units.specs.Faults.{misplaced, alone_of, is_subroutine, at_directive}
use Rattle.fort_units.specs.Passing.{behind, with_define, with_parallelize, with_head_end}
use Rattle.fort_units.proofs.Tails.{same, joined, uses_tail, implicit_tail, declares_tail, marked_tail, InFile, first_in, rest_in, front_in, back_in}
use Rattle.fort_units.proofs.Passes.{Passes, stays, quietly, says_quietly, directs_quietly}
use Rattle.fort_units.proofs.BodiesPass.{Loose, IsEven}

-- before the first statement
abbrev pub early : ℕ → Part → Option Place → Option Place → Loose
early line at define parallelize = record { line = line; part = at; define = define; parallelize = parallelize; head_end = None }

module _ (mode : Mode) (file : ℕ) (host : Option (List ℕ)) (unit_open : Option Heading) where
  -- no list of statements is open, but that of a unit
  abbrev pub head : Loose → Around
  head l = record {
    file = file;
    line = l.line;
    host = host;
    unit = unit_open;
    part = l.part;
    list = unit_list;
    outside = [];
    define = l.define;
    parallelize = l.parallelize;
    head_end = l.head_end;
    waiting = None;
  }

  -- ---- `define` and `parallelize`

  -- these are to come, where those stand
  abbrev pub Owes : Option Place → Option Place → List Directive → Type 0
  Owes d p [] = alone_of d p ≡ []
  Owes d p (m ∷ ms) =
      (is_subroutine unit_open ≡ true) × (((is_define m.word ≡ true) × (d ≡ None) × Owes (Some m.at) p ms) ⊎ ((is_parallelize m.word ≡ true) × (p ≡ None) × Owes d (Some m.at) ms))

  pub paired_owed : {pair : List Directive} → is_subroutine unit_open ≡ true → Paired mode pair → Owes None None pair
  paired_owed s unpaired = refl
  paired_owed s (defined_first a b) = (s, inl (a, refl, (s, inr (b, refl, refl))))
  paired_owed s (defined_last a b) = (s, inr (a, refl, (s, inl (b, refl, refl))))

  define_clean : (line : ℕ) (at_part : Part) (p : Option Place) (at : Place) (w : DirectiveWord) → mode ≡ Source → is_define w ≡ true → (is_subroutine unit_open && in_head at_part) ≡ true →
      at_directive mode (head (early line at_part None p)) at w false ≡ []
  define_clean line at_part p at directive.Define m e i =
      ap (λ v. at_directive v (head (early line at_part None p)) at directive.Define false) m ∙ ap (λ x. cond x [] (misplaced at ∷ [])) i
  define_clean line at_part p at w m e i = absurd (false≢true e)

  define_behind : (line : ℕ) (at_part : Part) (p : Option Place) (at : Place) (w : DirectiveWord) → mode ≡ Source → is_define w ≡ true → (is_subroutine unit_open && in_head at_part) ≡ true →
      behind mode (head (early line at_part None p)) (item.Directive at false w) ≡ head (early line at_part (Some at) p)
  define_behind line at_part p at directive.Define m e i =
      let o = head (early line at_part None p) in
      ap (λ v. behind v o (item.Directive at false directive.Define)) m ∙ ap (λ x. record (cond x (with_define at o) o) { waiting = None }) i
  define_behind line at_part p at w m e i = absurd (false≢true e)

  parallelize_clean : (line : ℕ) (at_part : Part) (d : Option Place) (at : Place) (w : DirectiveWord) → mode ≡ Source → is_parallelize w ≡ true → (is_subroutine unit_open && in_head at_part) ≡ true →
      at_directive mode (head (early line at_part d None)) at w false ≡ []
  parallelize_clean line at_part d at directive.Parallelize m e i =
      ap (λ v. at_directive v (head (early line at_part d None)) at directive.Parallelize false) m ∙ ap (λ x. cond x [] (misplaced at ∷ [])) i
  parallelize_clean line at_part d at w m e i = absurd (false≢true e)

  parallelize_behind : (line : ℕ) (at_part : Part) (d : Option Place) (at : Place) (w : DirectiveWord) → mode ≡ Source → is_parallelize w ≡ true → (is_subroutine unit_open && in_head at_part) ≡ true →
      behind mode (head (early line at_part d None)) (item.Directive at false w) ≡ head (early line at_part d (Some at))
  parallelize_behind line at_part d at directive.Parallelize m e i =
      let o = head (early line at_part d None) in
      ap (λ v. behind v o (item.Directive at false directive.Parallelize)) m ∙ ap (λ x. record (cond x (with_parallelize at o) o) { waiting = None }) i
  parallelize_behind line at_part d at w m e i = absurd (false≢true e)

  -- ---- Lines of a head

  -- from what is open to a head that goes on
  record HeadGoes (Keeps : Part → Type 0) (others : List Directive) (before : Around) (forms rest : List Form) : Type 0 where
    line : ℕ
    at_part : Part
    define : Option Place
    parallelize : Option Place
    keeps : Keeps at_part
    owes : Owes define parallelize others
    passes : Passes mode 0 0 before forms (head (early line at_part define parallelize)) rest

  behind_step : {Keeps : Part → Type 0} {others : List Directive} {o p : Around} {forms next rest : List Form} → Passes mode 0 0 o forms p next → HeadGoes Keeps others p next rest → HeadGoes Keeps others o forms rest
  behind_step a g = record { line = g.line; at_part = g.at_part; define = g.define; parallelize = g.parallelize; keeps = g.keeps; owes = g.owes; passes = quietly a g.passes }

  abbrev IsEarly : Part → Type 0
  IsEarly at_part = in_head at_part ≡ true

  head_directive : (line : ℕ) (at_part : Part) (d p : Option Place) (m : Directive) (others : List Directive) (rest : List Form) → IsHeadDirective mode m → IsEarly at_part → m.at.file ≡ file →
      Owes d p (m ∷ others) → HeadGoes (λ v. v ≡ at_part) others (head (early line at_part d p)) (Directs m ∷ rest) rest
  head_directive line at_part d p m others rest h i f o =
      let both = and_from (is_subroutine unit_open) (in_head at_part) o.0 i in
      elim o.1 [
        | inl w ↦ subst (λ x. HeadGoes (λ v. v ≡ at_part) others (head (early line at_part x p)) (Directs m ∷ rest) rest) (sym w.1) (record {
          line = line;
          at_part = at_part;
          define = Some m.at;
          parallelize = p;
          keeps = refl;
          owes = w.2;
          passes = directs_quietly mode (head (early line at_part None p)) (head (early line at_part (Some m.at) p)) m rest f (define_clean line at_part p m.at m.word h.0 w.0 both) (define_behind line at_part p m.at m.word h.0 w.0 both);
        })
        | inr w ↦ subst (λ x. HeadGoes (λ v. v ≡ at_part) others (head (early line at_part d x)) (Directs m ∷ rest) rest) (sym w.1) (record {
          line = line;
          at_part = at_part;
          define = d;
          parallelize = Some m.at;
          keeps = refl;
          owes = w.2;
          passes = directs_quietly mode (head (early line at_part d None)) (head (early line at_part d (Some m.at))) m rest f (parallelize_clean line at_part d m.at m.word h.0 w.0 both) (parallelize_behind line at_part d m.at m.word h.0 w.0 both);
        })
      ]

  -- and what follows a directive
  behind_directive : {Keeps : Part → Type 0} {others more_others : List Directive} {o : Around} {forms next rest : List Form} (at_part : Part) → HeadGoes (λ v. v ≡ at_part) others o forms next →
      ((line : ℕ) (d p : Option Place) → Owes d p others → HeadGoes Keeps more_others (head (early line at_part d p)) next rest) → HeadGoes Keeps more_others o forms rest
  behind_directive {others = others} {o = o} {forms = forms} {next = next} at_part a go =
      behind_step (subst (λ v. Passes mode 0 0 o forms (head (early a.line v a.define a.parallelize)) next) a.keeps a.passes) (go a.line a.define a.parallelize a.owes)

  uses_pass : {forms rest : List Form} {lines : List Use} {marks : List Directive} (line : ℕ) (d p : Option Place) (others : List Directive) → InFile file forms rest → Owes d p (marks ++ others) →
      Uses mode forms lines marks rest → HeadGoes (λ v. v ≡ part.Uses) others (head (early line part.Uses d p)) forms rest
  uses_pass line d p others f o no_more_uses = record { line = line; at_part = part.Uses; define = d; parallelize = p; keeps = refl; owes = o; passes = stays }
  uses_pass line d p others f o (uses {at = at} {line = u} {forms = forms} h) =
      behind_step (says_quietly mode (head (early line part.Uses d p)) at (Statement-F.Using u) sort.Use forms (first_in f (uses_tail mode h)) refl refl refl refl) (uses_pass at.line d p others (rest_in f) o h)
  uses_pass line d p others f o (directs_use {d = m} {marks = marks} {forms = forms} w h) =
      behind_directive part.Uses (head_directive line part.Uses d p m (marks ++ others) forms w refl (first_in f (uses_tail mode h)) o) (λ l e q k. uses_pass l e q others (rest_in f) k h)

  implicit_pass : {forms rest : List Form} (line : ℕ) (d p : Option Place) (others : List Directive) → InFile file forms rest → Owes d p others → Implicit mode forms rest →
      HeadGoes IsEarly others (head (early line part.Uses d p)) forms rest
  implicit_pass line d p others f o unsaid = record { line = line; at_part = part.Uses; define = d; parallelize = p; keeps = refl; owes = o; passes = stays }
  implicit_pass line d p others f o (said {at = at} {rest = rest}) = record {
    line = at.line;
    at_part = part.Declarations;
    define = d;
    parallelize = p;
    keeps = refl;
    owes = o;
    passes = says_quietly mode (head (early line part.Uses d p)) at Statement-F.ImplicitNone sort.ImplicitNone rest (first_in f same) refl refl refl refl;
  }

  declares_pass : {forms rest : List Form} {decls : List Decl} {marks : List Directive} (line : ℕ) (at_part : Part) (d p : Option Place) → IsEarly at_part → InFile file forms rest → Owes d p marks →
      Declares mode forms decls marks rest → HeadGoes IsEarly [] (head (early line at_part d p)) forms rest
  declares_pass line at_part d p i f o no_more_decls = record { line = line; at_part = at_part; define = d; parallelize = p; keeps = i; owes = o; passes = stays }
  declares_pass line at_part d p i f o (declares {at = at} {line = some_decls} {forms = forms} e h) =
      behind_step (says_quietly mode (head (early line at_part d p)) at (Statement-F.Declare some_decls) sort.Declare forms (first_in f (declares_tail mode h)) refl i refl refl)
      (declares_pass at.line part.Declarations d p refl (rest_in f) o h)
  declares_pass line at_part d p i f o (directs_decl {d = m} {marks = marks} {forms = forms} w h) =
      behind_directive at_part (head_directive line at_part d p m marks forms w i (first_in f (declares_tail mode h)) o) (λ l e q k. declares_pass l at_part e q i (rest_in f) k h)

  -- from what is open to the end of the head
  pub record HeadDone (before : Around) (forms rest : List Form) : Type 0 where
    pub loose : Loose
    pub is_early : in_head loose.part ≡ true
    pub even : IsEven loose
    pub passes : Passes mode 0 0 before forms (head loose) rest

  routine_clean : (line : ℕ) (at_part : Part) (d p : Option Place) (at : Place) (w : DirectiveWord) → mode ≡ Target → is_routine w ≡ true → (is_some unit_open && in_head at_part) ≡ true →
      at_directive mode (head (early line at_part d p)) at w false ≡ []
  routine_clean line at_part d p at directive.Routine m e i =
      ap (λ v. at_directive v (head (early line at_part d p)) at directive.Routine false) m ∙ ap (λ x. cond x [] (misplaced at ∷ [])) i
  routine_clean line at_part d p at w m e i = absurd (false≢true e)

  abbrev ended_by : Place → Loose → Loose
  ended_by at l = record l { head_end = cond (in_head l.part) (or_else l.head_end (Some at)) l.head_end }

  routine_behind : (line : ℕ) (at_part : Part) (d p : Option Place) (at : Place) (w : DirectiveWord) → mode ≡ Target → is_routine w ≡ true → (is_some unit_open && in_head at_part) ≡ true →
      behind mode (head (early line at_part d p)) (item.Directive at false w) ≡ head (ended_by at (early line at_part d p))
  routine_behind line at_part d p at directive.Routine m e i =
      let o = head (early line at_part d p) in
      ap (λ v. behind v o (item.Directive at false directive.Routine)) m ∙ ap (λ x. record (cond x (with_head_end at o) o) { waiting = None }) i
  routine_behind line at_part d p at w m e i = absurd (false≢true e)

  marked_pass : {forms rest : List Form} {mark : List Directive} (line : ℕ) (at_part : Part) (d p : Option Place) → IsEarly at_part → alone_of d p ≡ [] → InFile file forms rest →
      ((m : Directive) → mark ≡ m ∷ [] → is_some unit_open ≡ true) → Marked mode forms mark rest → HeadDone (head (early line at_part d p)) forms rest
  marked_pass line at_part d p i e f u unmarked = record { loose = early line at_part d p; is_early = i; even = e; passes = stays }
  marked_pass line at_part d p i e f u (marked {d = m} {rest = rest} t w) =
      let both = and_from (is_some unit_open) (in_head at_part) (u m refl) i in
      record {
        loose = ended_by m.at (early line at_part d p);
        is_early = i;
        even = e;
        passes = directs_quietly mode (head (early line at_part d p)) (head (ended_by m.at (early line at_part d p))) m rest (first_in f same) (routine_clean line at_part d p m.at m.word t w both) (routine_behind line at_part d p m.at m.word t w both);
      }

  goes_done : {Keeps : Part → Type 0} {others : List Directive} {o : Around} {forms next rest : List Form} → HeadGoes Keeps others o forms next →
      ((line : ℕ) (at_part : Part) (d p : Option Place) → Keeps at_part → Owes d p others → HeadDone (head (early line at_part d p)) next rest) → HeadDone o forms rest
  goes_done a go =
      let d = go a.line a.at_part a.define a.parallelize a.keeps a.owes in
      record { loose = d.loose; is_early = d.is_early; even = d.even; passes = quietly a.passes d.passes }

  -- the same part goes on
  in_part : {rest next : List Form} (line : ℕ) (at_part this : Part) (d p : Option Place) → at_part ≡ this → HeadDone (head (early line this d p)) next rest → HeadDone (head (early line at_part d p)) next rest
  in_part {rest = rest} {next = next} line at_part this d p e h = subst (λ v. HeadDone (head (early line v d p)) next rest) (sym e) h

  pub head_pass : {forms rest : List Form} {lines : List Use} {decls : List Decl} {pair mark : List Directive} (line : ℕ) → InFile file forms rest → Owes None None pair →
      ((m : Directive) → mark ≡ m ∷ [] → is_some unit_open ≡ true) → Head-part mode forms lines decls pair mark rest → HeadDone (head (early line part.Uses None None)) forms rest
  head_pass line f o u h =
      let t = marked_tail mode h.marked in
      let dt = declares_tail mode h.declared in
      let it = implicit_tail mode h.implicit in
      let f2 = back_in f (uses_tail mode h.used) in
      let f3 = back_in f2 it in
      let f4 = back_in f3 dt in
      goes_done (uses_pass line None None h.among_decls (front_in f (joined it (joined dt t))) (subst (Owes None None) h.paired o) h.used) (λ l v d p k w. (
      in_part l v part.Uses d p k (
      goes_done (implicit_pass l d p h.among_decls (front_in f2 (joined dt t)) w h.implicit) (λ l2 v2 d2 p2 k2 w2. (
      goes_done (declares_pass l2 v2 d2 p2 k2 (front_in f3 t) w2 h.declared) (λ l3 v3 d3 p3 k3 w3. marked_pass l3 v3 d3 p3 k3 w3 f4 u h.marked)
      ))
      )
      ))
