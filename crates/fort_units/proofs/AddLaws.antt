-- What lines add to one another.
use Rattle.std.proofs.Common.{◌≡◌, ℕ, ◌+◌, ◌≤◌, Bool, true, false, cond, not, ◌&&◌, List, [], ◌∷◌, ◌++◌, ◌<◌, get_or, take, map, length, Option, Result, None, Some, Ok, Err, refl, sym, ap, ◌∙◌, subst, append_assoc, arith, length-append}
use Rattle.std.specs.List.{list_all}
use Rattle.std.specs.Result.{OnOk}
use Rattle.std.proofs.lemmas.List.{append-nil, map-append, take_more}
use Rattle.std.proofs.lemmas.Bool.{false≢true, and_parts}
use Rattle.fort_tree.specs.declared.choice.Mode.{Mode}
use Rattle.fort_tree.specs.declared.fault.Fault.{Fault}
use Rattle.fort_tree.specs.declared.fault.Stop.TheVariants as stop
use Rattle.fort_tree.specs.declared.statement.Line.{Line}
use Rattle.fort_tree.specs.declared.statement.Statement.{Statement}
use Rattle.fort_tree.specs.declared.statement.Token.{Token}
use Rattle.fort_tree.specs.declared.stmt.Directive.{Directive}
use Rattle.fort_tree.specs.declared.stmt.DirectiveWord.{DirectiveWord}
use Rattle.fort_tree.specs.declared.place.Place.{Place}
use Rattle.sound_programs.specs.Forms.{Form, Says, says, Directs}
use Rattle.sound_programs.specs.Nesting.{Nests}
use Rattle.fort_tree.specs.declared.unit.File.{File}
use Rattle.fort_stmt.specs.declared.sort.Sort.{Sort}
use Rattle.claw_lines.specs.Answer.{no_form_at}
use Rattle.claw_lines.specs.Forms as directive_line
use Rattle.fort_stmt.specs.Sort.{sort_of}
use Rattle.fort_stmt.specs.Verdict as verdict
use Rattle.form_nesting.specs.declared.form.Form.TheVariants as given_form
use Rattle.form_nesting.specs.Forms.{form_of, statements_among}
use Rattle.fort_units.specs.declared.around.Around.{Around}
use Rattle.fort_units.specs.declared.gathering.Gathered.{Gathered}
use Rattle.fort_units.specs.declared.item.Item.{Item}
use Rattle.fort_units.specs.declared.item.Item.TheVariants as item
use Rattle.fort_units.specs.Adding.{Adds, Gathers}
use Rattle.fort_units.specs.Faults.{at_item, is_mark, is_of_mode, directive_faults, not_of_mode, misplaced}
use Rattle.fort_units.specs.Passing.{FirstOf, first_of, top, faults, noted, earlier, faults_from, left_behind, entered, behind, file_of}
use Rattle.fort_units.specs.Program.{mode_of, IsProgram, HasFirst, item_of_sketch, is_mark_line, item_of_directive, IsFaultyItem, HasLine, nothing, whole, faulty, directs, unread, HasLines, no_line, a_line}
use Rattle.fort_units.specs.Shown.{item_of, items_of, is_form}
use Rattle.fort_units.proofs.Noting.{noted_append, noted_first, firsts}
use Rattle.fort_units.proofs.Shapes.{nonempty}
use Rattle.fort_units.proofs.Statements.{both_empty}
use Rattle.fort_units.proofs.WellFormed.{both, all_append, well_formed}
use Rattle.fort_units.proofs.Faultless.{faultless_nest}

-- ---- What one line adds

pub adds_nothing : (line : Line) (g : Gathered) → line.directive ≡ false → line.tokens ≡ [] → Adds line g g
adds_nothing line g d e = record {
  items = [];
  own = [];
  forms = [];
  has = nothing d e;
  more_items = sym (append-nil g.items);
  more_forms = sym (append-nil (map form_of g.forms));
  more_faults = refl;
}

pub adds_whole : (line : Line) (g h : Gathered) (s : Statement) → line.directive ≡ false → verdict.Answers (Ok s) line → h.items ≡ g.items ++ item.Statement line.at (sort_of s) ∷ [] →
    h.forms ≡ g.forms ++ given_form.Says line.at s ∷ [] → h.least ≡ g.least → Adds line g h
adds_whole line g h s d a i f l = record {
  items = item.Statement line.at (sort_of s) ∷ [];
  own = [];
  forms = says line.at s ∷ [];
  has = whole d a;
  more_items = i;
  more_forms = ap (map form_of) f ∙ map-append form_of g.forms (given_form.Says line.at s ∷ []);
  more_faults = ap (λ x. x.first) l;
}

pub adds_faulty : (line : Line) (g h : Gathered) (fault : Fault) (i : Item) → line.directive ≡ false → verdict.Answers (Err (stop.Fault fault)) line → IsFaultyItem line i →
    h.items ≡ g.items ++ i ∷ [] → h.forms ≡ g.forms → h.least.first ≡ earlier g.least.first fault → Adds line g h
adds_faulty line g h fault i d a is e f l = record {
  items = i ∷ [];
  own = fault ∷ [];
  forms = [];
  has = faulty d a is;
  more_items = e;
  more_forms = ap (map form_of) f ∙ sym (append-nil (map form_of g.forms));
  more_faults = l;
}

mapped : (ds : List Directive) → map form_of (map (λ d. given_form.Directs d) ds) ≡ map Directs ds
mapped [] = refl
mapped (d ∷ ds) = ap (λ fs. Directs d ∷ fs) (mapped ds)

pub adds_directives : (line : Line) (g h : Gathered) (ds : List Directive) → line.directive ≡ true → directive_line.Directs line ds → h.items ≡ g.items ++ map (item_of_directive line.within) ds →
    h.forms ≡ g.forms ++ map (λ d. given_form.Directs d) ds → h.least ≡ g.least → Adds line g h
adds_directives line g h ds d a i f l = record {
  items = map (item_of_directive line.within) ds;
  own = [];
  forms = map Directs ds;
  has = directs d a;
  more_items = i;
  more_forms = ap (map form_of) f ∙ (map-append form_of g.forms (map (λ x. given_form.Directs x) ds) ∙ ap (λ fs. map form_of g.forms ++ fs) (mapped ds));
  more_faults = ap (λ x. x.first) l;
}

pub adds_unread : (line : Line) (g h : Gathered) (fault : Fault) → line.directive ≡ true → fault ≡ no_form_at (directive_line.sentinel_place line) →
    ((ds : List Directive) → directive_line.Directs line ds → ⊥) →
    h.items ≡ g.items ++ item.Unread (directive_line.sentinel_place line) line.within (is_mark_line line.tokens) ∷ [] → h.forms ≡ g.forms → h.least.first ≡ earlier g.least.first fault → Adds line g h
adds_unread line g h fault d e n i f l = record {
  items = item.Unread (directive_line.sentinel_place line) line.within (is_mark_line line.tokens) ∷ [];
  own = no_form_at (directive_line.sentinel_place line) ∷ [];
  forms = [];
  has = unread d n;
  more_items = i;
  more_forms = ap (map form_of) f ∙ sym (append-nil (map form_of g.forms));
  more_faults = l ∙ ap (earlier g.least.first) e;
}

-- ---- What all lines give

one_line : {line : Line} {is : List Item} {fs : List Fault} {hs : List Form} → HasLine line is fs hs → HasLines (line ∷ []) is fs hs
one_line {line = line} {is = is} {fs = fs} {hs = hs} h =
    subst (λ x. HasLines (line ∷ []) x fs hs) (append-nil is)
    (subst (λ x. HasLines (line ∷ []) (is ++ []) x hs) (append-nil fs) (subst (λ x. HasLines (line ∷ []) (is ++ []) (fs ++ []) x) (append-nil hs) (a_line h no_line)))

has_more : (lines : List Line) (line : Line) (is js : List Item) (fs gs : List Fault) (hs ks : List Form) → HasLines lines is fs hs → HasLine line js gs ks →
    HasLines (lines ++ line ∷ []) (is ++ js) (fs ++ gs) (hs ++ ks)
has_more [] line is js fs gs hs ks no_line l = one_line l
has_more (first ∷ lines) line is js fs gs hs ks (a_line {is = i} {js = is2} {fs = f} {gs = fs2} {hs = h} {ks = hs2} a as2) l =
    subst (λ x. HasLines (first ∷ lines ++ line ∷ []) x ((f ++ fs2) ++ gs) ((h ++ hs2) ++ ks)) (sym (append_assoc i is2 js))
    (subst (λ x. HasLines (first ∷ lines ++ line ∷ []) (i ++ (is2 ++ js)) x ((h ++ hs2) ++ ks)) (sym (append_assoc f fs2 gs))
    (subst (λ x. HasLines (first ∷ lines ++ line ∷ []) (i ++ (is2 ++ js)) (f ++ (fs2 ++ gs)) x) (sym (append_assoc h hs2 ks)) (a_line a (has_more lines line is2 js fs2 gs hs2 ks as2 l))))

pub gathers_more : (lines : List Line) (line : Line) (g h : Gathered) → Gathers lines g → Adds line g h → Gathers (lines ++ line ∷ []) h
gathers_more lines line g h have adds = record {
  own = have.own ++ adds.own;
  are = subst (λ x. HasLines (lines ++ line ∷ []) x (have.own ++ adds.own) (map form_of h.forms)) (sym adds.more_items)
      (subst (λ x. HasLines (lines ++ line ∷ []) (g.items ++ adds.items) (have.own ++ adds.own) x) (sym adds.more_forms)
      (has_more lines line g.items adds.items have.own adds.own (map form_of g.forms) adds.forms have.are adds.has));
  first = adds.more_faults ∙ (ap (λ x. noted x adds.own) have.first ∙ sym (noted_append None have.own adds.own));
}

-- ---- Lines without a fault

-- the line stands in no continued statement
abbrev pub plain : Item → Bool
plain (item.Directive at within w) = not within
plain other = true

plain_line : (mode : Mode) (o : Around) (i : Item) → at_item mode o i ≡ [] → plain i ≡ true
plain_line mode o (item.Statement at s) h = refl
plain_line mode o (item.Absent at) h = refl
plain_line mode o (item.Unread at within mark) h = refl
plain_line mode o (item.Directive at false w) h = refl
plain_line mode o (item.Directive at true w) h = absurd (never (is_of_mode mode (is_mark w)) (directive_faults mode o at w) (misplaced at) (not_of_mode at) h)
  where
    never : (b : Bool) (xs : List Fault) (f g : Fault) → cond (b && false) xs (cond b (f ∷ []) (g ∷ [])) ≡ [] → ⊥
    never true xs f g e = nonempty e
    never false xs f g e = nonempty e

pub all_plain : (mode : Mode) (o : Around) (items : List Item) → faults_from mode o items ≡ [] → list_all plain items ≡ true
all_plain mode o [] h = refl
all_plain mode o (i ∷ is) h =
    let p = entered (file_of i) o in
    let parts = both_empty (left_behind (file_of i) o ++ at_item mode p i) (faults_from mode (behind mode p i) is) h in
    both (plain i) (list_all plain is) (plain_line mode p i (both_empty (left_behind (file_of i) o) (at_item mode p i) parts.0).1) (all_plain mode (behind mode p i) is parts.1)

-- what the forms of the lines are to be
pub record Agrees (lines : List Line) (items : List Item) (forms : List Form) : Type 0 where
  pub same : items ≡ items_of forms
  pub formed : list_all is_form forms ≡ true
  pub few : statements_among forms ≤ length lines

not_within : (b : Bool) → not b ≡ true → b ≡ false
not_within true h = absurd (false≢true h)
not_within false h = refl

same_directives : (within : Bool) (ds : List Directive) → list_all plain (map (item_of_directive within) ds) ≡ true → map (item_of_directive within) ds ≡ items_of (map Directs ds)
same_directives within [] h = refl
same_directives within (d ∷ ds) h =
    let parts = and_parts (not within) (list_all plain (map (item_of_directive within) ds)) h in
    ap (λ b. item.Directive d.at b d.word ∷ map (item_of_directive within) ds) (not_within within parts.0) ∙ ap (λ is. item.Directive d.at false d.word ∷ is) (same_directives within ds parts.1)

all_directives : (ds : List Directive) → list_all is_form (map Directs ds) ≡ true
all_directives [] = refl
all_directives (d ∷ ds) = all_directives ds

no_statements : (ds : List Directive) → statements_among (map Directs ds) ≡ 0
no_statements [] = refl
no_statements (d ∷ ds) = no_statements ds

among_both : (a b : List Form) → statements_among (a ++ b) ≡ statements_among a + statements_among b
among_both [] b = omega arith
among_both (Says at level ∷ a) b = omega (arith, among_both a b)
among_both (Directs d ∷ a) b = among_both a b

agrees_line : (line : Line) (is : List Item) (fs : List Fault) (hs : List Form) → HasLine line is fs hs → fs ≡ [] → list_all plain is ≡ true → Agrees (line ∷ []) is hs
agrees_line line is fs hs (nothing d e) none p = record { same = refl; formed = refl; few = omega arith }
agrees_line line is fs hs (whole {s = s} d a) none p = record { same = refl; formed = both (is_form (says line.at s)) true (well_formed a.0.spelled) refl; few = omega arith }
agrees_line line is fs hs (faulty d a i) none p = absurd (nonempty none)
agrees_line line is fs hs (directs {directives = ds} d a) none p = record { same = same_directives line.within ds p; formed = all_directives ds; few = omega (arith, no_statements ds) }
agrees_line line is fs hs (unread d n) none p = absurd (nonempty none)

all_front : (p : Item → Bool) (a b : List Item) → list_all p (a ++ b) ≡ true → (list_all p a ≡ true) × (list_all p b ≡ true)
all_front p [] b h = (refl, h)
all_front p (x ∷ a) b h =
    let parts = and_parts (p x) (list_all p (a ++ b)) h in
    let rest = all_front p a b parts.1 in
    (both (p x) (list_all p a) parts.0 rest.0, rest.1)

pub agrees : (lines : List Line) (is : List Item) (fs : List Fault) (hs : List Form) → HasLines lines is fs hs → fs ≡ [] → list_all plain is ≡ true → Agrees lines is hs
agrees [] is fs hs no_line none p = record { same = refl; formed = refl; few = omega arith }
agrees (line ∷ lines) is fs hs (a_line {is = i} {js = js} {fs = f} {gs = gs} {hs = h} {ks = ks} a as2) none p =
    let parts = both_empty f gs none in
    let plains = all_front plain i js p in
    let x = agrees_line line i f h a parts.0 plains.0 in
    let y = agrees lines js gs ks as2 parts.1 plains.1 in
    record {
      same = ap (λ v. v ++ js) x.same ∙ (ap (λ v. items_of h ++ v) y.same ∙ sym (map-append item_of h ks));
      formed = all_append is_form h ks x.formed y.formed;
      few = omega (arith, among_both h ks, x.few, y.few);
    }

-- ---- Steps of the code

-- three facts of an outcome that isn't an error give a fourth
pub on_ok : {T E A B C D : Type 0} (r : Result T E) → OnOk r A → OnOk r B → OnOk r C → (A → B → C → D) → OnOk r D
on_ok (Ok x) a b c f = f a b c
on_ok (Err e) a b c f = tt

pub sketched : (line : Line) (o : Option Sort) → verdict.Sketches o line → IsFaultyItem line (item_of_sketch line.at o)
sketched line (Some k) h = (refl, h)
sketched line None h = (refl, h)

pub gathers_none : Gathers [] (record { items = []; forms = []; least = record { first = None } })
gathers_none = record { own = []; are = no_line; first = refl }

pub gathers_next : (lines : List Line) (i : ℕ) (line : Line) (g h : Gathered) → i < length lines → line ≡ get_or lines i line → Gathers (take i lines) g → Adds line g h → Gathers (take (i + 1) lines) h
gathers_next lines i line g h l e have adds =
    subst (λ ls. Gathers ls h) (sym (take_more lines i line l ∙ ap (λ x. take i lines ++ x ∷ []) (sym e))) (gathers_more (take i lines) line g h have adds)

-- ---- The answer

first_of_all : (lines : List Line) (g : Gathered) (mode : Mode) (items : List Item) (nesting : Option Fault) (have : Gathers lines g) → mode ≡ mode_of lines → items ≡ g.items →
    FirstOf nesting (faults mode items) → FirstOf (first_of g.least.first nesting) (have.own ++ faults (mode_of lines) g.items)
first_of_all lines g mode items nesting have m i n =
    firsts g.least.first nesting have.own (faults (mode_of lines) g.items) (subst (λ o. FirstOf o have.own) (sym have.first) (noted_first have.own))
    (subst (λ v. FirstOf nesting (faults v g.items)) m (subst (λ is. FirstOf nesting (faults mode is)) i n))

pub has_first : (lines : List Line) (g : Gathered) (mode : Mode) (items : List Item) (nesting : Option Fault) (fault : Fault) → Gathers lines g → mode ≡ mode_of lines → items ≡ g.items →
    FirstOf nesting (faults mode items) → Some fault ≡ first_of g.least.first nesting → HasFirst lines fault
has_first lines g mode items nesting fault have m i n e = record {
  judged = record { items = g.items; own = have.own; forms = map form_of g.forms; are = have.are };
  first = subst (λ o. FirstOf o (have.own ++ faults (mode_of lines) g.items)) (sym e) (first_of_all lines g mode items nesting have m i n);
}

no_faults : (lines : List Line) (g : Gathered) (mode : Mode) (items : List Item) (nesting : Option Fault) (have : Gathers lines g) → mode ≡ mode_of lines → items ≡ g.items →
    FirstOf nesting (faults mode items) → None ≡ first_of g.least.first nesting → have.own ++ faults (mode_of lines) g.items ≡ []
no_faults lines g mode items nesting have m i n e = subst (λ o. FirstOf o (have.own ++ faults (mode_of lines) g.items)) (sym e) (first_of_all lines g mode items nesting have m i n)

agreed : (lines : List Line) (g : Gathered) (have : Gathers lines g) → have.own ++ faults (mode_of lines) g.items ≡ [] → Agrees lines g.items (map form_of g.forms)
agreed lines g have h =
    let parts = both_empty have.own (faults (mode_of lines) g.items) h in
    agrees lines g.items have.own (map form_of g.forms) have.are parts.0 (all_plain (mode_of lines) (top 0) g.items parts.1)

pub nests_so : (lines : List Line) (g : Gathered) (mode : Mode) (items : List Item) (nesting : Option Fault) → Gathers lines g → mode ≡ mode_of lines → items ≡ g.items →
    FirstOf nesting (faults mode items) → None ≡ first_of g.least.first nesting → (file : File) × Nests mode (map form_of g.forms) file
nests_so lines g mode items nesting have m i n e =
    let all = no_faults lines g mode items nesting have m i n e in
    let a = agreed lines g have all in
    let parts = both_empty have.own (faults (mode_of lines) g.items) all in
    faultless_nest mode (map form_of g.forms) a.formed (subst (λ v. faults v (items_of (map form_of g.forms)) ≡ []) (sym m) (subst (λ is. faults (mode_of lines) is ≡ []) a.same parts.1))

pub few_so : (lines : List Line) (g : Gathered) (mode : Mode) (items : List Item) (nesting : Option Fault) → Gathers lines g → mode ≡ mode_of lines → items ≡ g.items →
    FirstOf nesting (faults mode items) → None ≡ first_of g.least.first nesting → statements_among (map form_of g.forms) ≤ length lines
few_so lines g mode items nesting have m i n e =
    let a = agreed lines g have (no_faults lines g mode items nesting have m i n e) in
    a.few

pub is_program : (lines : List Line) (g : Gathered) (mode : Mode) (items : List Item) (nesting : Option Fault) (file : File) → Gathers lines g → mode ≡ mode_of lines → items ≡ g.items →
    FirstOf nesting (faults mode items) → None ≡ first_of g.least.first nesting → Nests mode (map form_of g.forms) file → IsProgram lines file
is_program lines g mode items nesting file have m i n e nests = record {
  judged = record { items = g.items; own = have.own; forms = map form_of g.forms; are = have.are };
  sound = no_faults lines g mode items nesting have m i n e;
  nests = subst (λ v. Nests v (map form_of g.forms) file) m nests;
}
