-- All faults of nesting stand at places of the lines, or in the file of the line before the end.
use Rattle.std.proofs.Common.{ℕ, ◌<◌, Bool, true, false, cond, ◌||◌, List, [], ◌∷◌, ◌++◌, Option, None, Some, is_some}
use Rattle.std.specs.Prelude.{◌==◌, nat_lt, IfSome}
use Rattle.fort_tree.specs.declared.choice.Mode.{Mode}
use Rattle.fort_tree.specs.declared.fault.Fault.{Fault}
use Rattle.fort_tree.specs.declared.place.Place.{Place}
use Rattle.fort_tree.specs.declared.statement.EndWord.TheVariants as word
use Rattle.fort_tree.specs.declared.stmt.DirectiveWord.{DirectiveWord}
use Rattle.fort_tree.specs.declared.stmt.DirectiveWord.TheVariants as directive
use Rattle.fort_units.specs.declared.around.Around.{Around}
use Rattle.fort_units.specs.declared.around.Block.{Block}
use Rattle.fort_units.specs.declared.around.Construct.{Construct}
use Rattle.fort_units.specs.declared.around.Construct.TheVariants as construct
use Rattle.fort_units.specs.declared.around.Exits.{Exits}
use Rattle.fort_units.specs.declared.around.Exits.TheVariants as exits
use Rattle.fort_units.specs.declared.around.Heading.{Heading}
use Rattle.fort_units.specs.declared.around.Listing.{Listing}
use Rattle.fort_units.specs.declared.around.Part.{Part}
use Rattle.fort_units.specs.declared.around.Part.TheVariants as part
use Rattle.fort_units.specs.declared.around.Waiting.{Waiting}
use Rattle.fort_units.specs.declared.item.Item.{Item}
use Rattle.fort_units.specs.declared.item.Item.TheVariants as item
use Rattle.fort_stmt.specs.declared.sort.ActionSort.{ActionSort}
use Rattle.fort_stmt.specs.declared.sort.ActionSort.TheVariants as act
use Rattle.fort_stmt.specs.declared.sort.Sort.{Sort}
use Rattle.fort_stmt.specs.declared.sort.Sort.TheVariants as sort
use Rattle.fort_units.specs.Opens as opens
use Rattle.fort_units.specs.Faults as faults
use Rattle.fort_units.specs.Passing as passing
use Rattle.fort_units.specs.Places.{InFiles}

-- ---- lists

-- each of the list
pub data Each (A : Type 0) (P : A → Type 0) : List A → Type 0 where
  none : Each A P []
  more : {x : A} {xs : List A} → P x → Each A P xs → Each A P (x ∷ xs)

pub join : {A : Type 0} {P : A → Type 0} {xs ys : List A} → Each A P xs → Each A P ys → Each A P (xs ++ ys)
join none k = k
join (more p h) k = more p (join h k)

either : {A : Type 0} {P : A → Type 0} (b : Bool) (xs ys : List A) → Each A P xs → Each A P ys → Each A P (cond b xs ys)
either true xs ys h k = h
either false xs ys h k = k

pub each_front : {A : Type 0} {P : A → Type 0} (front : List A) (x : A) (back : List A) → Each A P (front ++ x ∷ back) → P x
each_front [] x back (more p h) = p
each_front (y ∷ front) x back (more p h) = each_front front x back h

-- ---- what is open

abbrev pub OptionIn : ℕ → Option Place → Type 0
OptionIn n o = IfSome o (InFiles n)

abbrev WaitingIn : ℕ → Option Waiting → Type 0
WaitingIn n o = IfSome o (λ w. InFiles n w.at)

abbrev ExitsIn : ℕ → Exits → Type 0
ExitsIn n (exits.Marked mark) = InFiles n mark
ExitsIn n other = Unit {0}

abbrev BlocksIn : ℕ → List Block → Type 0
BlocksIn n blocks = Each Block (λ b. InFiles n b.at) blocks

pub record ListingIn (n : ℕ) (l : Listing) : Type 0 where
  exits : ExitsIn n l.exits
  returns : OptionIn n l.returns
  blocks : BlocksIn n l.blocks

abbrev ListingsIn : ℕ → List Listing → Type 0
ListingsIn n ls = Each Listing (ListingIn n) ls

-- all places that are kept
pub record AroundIn (n : ℕ) (o : Around) : Type 0 where
  file : o.file < n
  list : ListingIn n o.list
  outside : ListingsIn n o.outside
  define : OptionIn n o.define
  parallelize : OptionIn n o.parallelize
  head_end : OptionIn n o.head_end
  waiting : WaitingIn n o.waiting

abbrev pub FaultsIn : ℕ → List Fault → Type 0
FaultsIn n fs = Each Fault (λ f. InFiles n f.place) fs

choose : (n : ℕ) (b : Bool) (o p : Around) → AroundIn n o → AroundIn n p → AroundIn n (cond b o p)
choose n true o p h k = h
choose n false o p h k = k

-- ---- faults of what is open

misplaced_if_in : (n : ℕ) (o : Option Place) → OptionIn n o → FaultsIn n (faults.misplaced_if o)
misplaced_if_in n None h = none
misplaced_if_in n (Some at) h = more h none

unmet_in : (n : ℕ) (w : Option Waiting) (s : Sort) → WaitingIn n w → FaultsIn n (faults.unmet w s)
unmet_in n None s h = none
unmet_in n (Some w) s h = either (faults.stands_before s w.word) [] (faults.misplaced w.at ∷ []) none (more h none)

cut_off_in : (n : ℕ) (w : Option Waiting) → WaitingIn n w → FaultsIn n (faults.cut_off w)
cut_off_in n None h = none
cut_off_in n (Some w) h = more h none

alone_of_in : (n : ℕ) (a b : Option Place) → OptionIn n a → OptionIn n b → FaultsIn n (faults.alone_of a b)
alone_of_in n None b h k = misplaced_if_in n b k
alone_of_in n (Some a) None h k = more h none
alone_of_in n (Some a) (Some b) h k = none

alone_in : (n : ℕ) (o : Around) → AroundIn n o → FaultsIn n (faults.alone o)
alone_in n o h = alone_of_in n o.define o.parallelize h.define h.parallelize

twice_in : (n : ℕ) (earlier : Option Place) (at : Place) → InFiles n at → FaultsIn n (faults.twice earlier at)
twice_in n None at h = none
twice_in n (Some earlier) at h = more h none

unclosed_in : (n : ℕ) (blocks : List Block) → BlocksIn n blocks → FaultsIn n (faults.unclosed blocks)
unclosed_in n [] h = none
unclosed_in n (b ∷ bs) (more p h) = more p (unclosed_in n bs h)

all_unclosed_in : (n : ℕ) (ls : List Listing) → ListingsIn n ls → FaultsIn n (faults.all_unclosed ls)
all_unclosed_in n [] h = none
all_unclosed_in n (l ∷ ls) (more p h) = join (unclosed_in n l.blocks p.blocks) (all_unclosed_in n ls h)

exits_marked_in : (n : ℕ) (e : Exits) → ExitsIn n e → FaultsIn n (faults.exits_marked e)
exits_marked_in n exits.Nowhere h = none
exits_marked_in n exits.Loop h = none
exits_marked_in n (exits.Marked mark) h = more h none

action_in : (n : ℕ) (a : ActionSort) (l : Listing) → ListingIn n l → FaultsIn n (faults.action_faults a l)
action_in n act.Exit l h = exits_marked_in n l.exits h.exits
action_in n act.Return l h = misplaced_if_in n l.returns h.returns
action_in n act.Assign l h = none
action_in n act.Call l h = none
action_in n act.Cycle l h = none

deep_in : (n : ℕ) (mode : Mode) (at : Place) (o : Around) → InFiles n at → FaultsIn n (faults.deep_at mode at o)
deep_in n mode at o h = either (nat_lt o.list.depth (faults.limit mode)) [] (faults.too_deep at ∷ []) none (more h none)

statement_in : (n : ℕ) (mode : Mode) (o : Around) (at : Place) (s : Sort) → AroundIn n o → InFiles n at → FaultsIn n (faults.statement_faults mode o at s)
statement_in n mode o at (sort.Module name) h k = none
statement_in n mode o at sort.Contains h k = none
statement_in n mode o at (sort.End w name) h k = join (unclosed_in n o.list.blocks h.list.blocks) (alone_in n o h)
statement_in n mode o at (sort.Subroutine name) h k = none
statement_in n mode o at (sort.Function name) h k = none
statement_in n mode o at sort.Use h k = misplaced_if_in n o.head_end h.head_end
statement_in n mode o at sort.ImplicitNone h k = misplaced_if_in n o.head_end h.head_end
statement_in n mode o at sort.Declare h k = misplaced_if_in n o.head_end h.head_end
statement_in n mode o at (sort.Act a) h k = join (action_in n a o.list h.list) (alone_in n o h)
statement_in n mode o at (sort.IfAct a) h k = join (join (action_in n a o.list h.list) (deep_in n mode at o k)) (alone_in n o h)
statement_in n mode o at sort.IfThen h k = join (deep_in n mode at o k) (alone_in n o h)
statement_in n mode o at sort.Do h k = join (deep_in n mode at o k) (alone_in n o h)
statement_in n mode o at sort.Select h k = join (deep_in n mode at o k) (alone_in n o h)
statement_in n mode o at sort.ElseIf h k = unclosed_in n o.list.blocks h.list.blocks
statement_in n mode o at sort.Else h k = unclosed_in n o.list.blocks h.list.blocks
statement_in n mode o at sort.EndIf h k = unclosed_in n o.list.blocks h.list.blocks
statement_in n mode o at sort.EndDo h k = unclosed_in n o.list.blocks h.list.blocks
statement_in n mode o at sort.EndSelect h k = unclosed_in n o.list.blocks h.list.blocks
statement_in n mode o at sort.Case h k = unclosed_in n o.list.blocks h.list.blocks
statement_in n mode o at sort.CaseDefault h k = unclosed_in n o.list.blocks h.list.blocks

at_statement_in : (n : ℕ) (mode : Mode) (o : Around) (at : Place) (s : Sort) → AroundIn n o → InFiles n at → FaultsIn n (faults.at_statement mode o at s)
at_statement_in n mode o at s h k =
    either (opens.may_stand o s) (faults.unmet o.waiting s ++ faults.statement_faults mode o at s) (faults.unnested at ∷ [])
    (join (unmet_in n o.waiting s h.waiting) (statement_in n mode o at s h k)) (more k none)

-- ---- faults of directives

head_in : (n : ℕ) (o : Around) (earlier : Option Place) (at : Place) → AroundIn n o → InFiles n at → FaultsIn n (faults.head_faults o earlier at)
head_in n o earlier at h k =
    either (faults.in_subroutine_head o) (faults.misplaced_if o.head_end ++ faults.twice earlier at) (faults.misplaced at ∷ [])
    (join (misplaced_if_in n o.head_end h.head_end) (twice_in n earlier at k)) (more k none)

block_in : (n : ℕ) (mode : Mode) (o : Around) (at : Place) → InFiles n at → FaultsIn n (faults.block_faults mode o at)
block_in n mode o at k = either (opens.list_open o) (faults.deep_at mode at o) (faults.misplaced at ∷ []) (deep_in n mode at o k) (more k none)

end_in : (n : ℕ) (last : DirectiveWord) (blocks : List Block) (at : Place) → InFiles n at → FaultsIn n (faults.end_faults last blocks at)
end_in n last blocks at k = either (faults.ends_innermost last blocks) [] (faults.misplaced at ∷ []) none (more k none)

routine_in : (n : ℕ) (o : Around) (at : Place) → InFiles n at → FaultsIn n (faults.routine_faults o at)
routine_in n o at k = either (faults.in_unit_head o) (faults.twice o.head_end at) (faults.misplaced at ∷ []) (twice_in n o.head_end at k) (more k none)

second_in : (n : ℕ) (o : Around) (at : Place) → InFiles n at → FaultsIn n (cond (is_some o.waiting) (faults.misplaced at ∷ []) [])
second_in n o at k = either (is_some o.waiting) (faults.misplaced at ∷ []) [] (more k none) none

directive_in : (n : ℕ) (mode : Mode) (o : Around) (at : Place) (w : DirectiveWord) → AroundIn n o → InFiles n at → FaultsIn n (faults.directive_faults mode o at w)
directive_in n mode o at directive.Define h k = join (cut_off_in n o.waiting h.waiting) (head_in n o o.define at h k)
directive_in n mode o at directive.Parallelize h k = join (cut_off_in n o.waiting h.waiting) (head_in n o o.parallelize at h k)
directive_in n mode o at directive.Hoist h k = join (cut_off_in n o.waiting h.waiting) (block_in n mode o at k)
directive_in n mode o at directive.Transform h k = join (cut_off_in n o.waiting h.waiting) (block_in n mode o at k)
directive_in n mode o at directive.EndHoist h k = join (cut_off_in n o.waiting h.waiting) (end_in n directive.EndHoist o.list.blocks at k)
directive_in n mode o at directive.EndTransform h k = join (cut_off_in n o.waiting h.waiting) (end_in n directive.EndTransform o.list.blocks at k)
directive_in n mode o at directive.Routine h k = join (cut_off_in n o.waiting h.waiting) (routine_in n o at k)
directive_in n mode o at directive.Column h k = join (cut_off_in n o.waiting h.waiting) (more k none)
directive_in n mode o at directive.Forward h k = second_in n o at k
directive_in n mode o at directive.Fusion h k = second_in n o at k
directive_in n mode o at directive.Interchange h k = second_in n o at k
directive_in n mode o at directive.Cache h k = second_in n o at k
directive_in n mode o at directive.OpenMpLoop h k = second_in n o at k
directive_in n mode o at directive.OpenAccLoop h k = second_in n o at k

line_in : (n : ℕ) (mode : Mode) (at : Place) (mark within : Bool) → InFiles n at → FaultsIn n (faults.line_faults mode at mark within)
line_in n mode at mark within k =
    either (faults.is_of_mode mode mark) (cond within (faults.misplaced at ∷ []) []) (faults.not_of_mode at ∷ [])
    (either within (faults.misplaced at ∷ []) [] (more k none) none) (more k none)

at_item_in : (n : ℕ) (mode : Mode) (o : Around) (i : Item) → AroundIn n o → passing.file_of i < n → FaultsIn n (faults.at_item mode o i)
at_item_in n mode o (item.Statement at s) h k = at_statement_in n mode o at s h k
at_item_in n mode o (item.Absent at) h k = none
at_item_in n mode o (item.Directive at within w) h k =
    either (faults.line_counts mode (faults.is_mark w) within) (faults.directive_faults mode o at w) (faults.line_faults mode at (faults.is_mark w) within)
    (directive_in n mode o at w h k) (line_in n mode at (faults.is_mark w) within k)
at_item_in n mode o (item.Unread at within mark) h k = line_in n mode at mark within k

-- ---- the end of a file

at_file_end_in : (n : ℕ) (o : Around) → AroundIn n o → FaultsIn n (faults.at_file_end o)
at_file_end_in n o h =
    join (cut_off_in n o.waiting h.waiting)
    (join (either (is_some o.unit || is_some o.host) (faults.unnested (faults.last_line o) ∷ []) [] (more h.file none) none)
    (join (join (unclosed_in n o.list.blocks h.list.blocks) (all_unclosed_in n o.outside h.outside)) (alone_in n o h)))

-- ---- what the lines leave open

or_else_in : (n : ℕ) (a b : Option Place) → OptionIn n a → OptionIn n b → OptionIn n (opens.or_else a b)
or_else_in n None b h k = k
or_else_in n (Some a) b h k = h

unit_list_in : (n : ℕ) → ListingIn n opens.unit_list
unit_list_in n = record { exits = tt; returns = tt; blocks = none }

list_in_in : (n : ℕ) (c : Construct) (l : Listing) → ListingIn n l → ListingIn n (opens.list_in c l)
list_in_in n c l h = record { exits = h.exits; returns = h.returns; blocks = none }

exits_of_in : (n : ℕ) (mark : Option Place) → OptionIn n mark → ExitsIn n (opens.exits_of mark)
exits_of_in n None h = tt
exits_of_in n (Some mark) h = h

list_in_do_in : (n : ℕ) (mark : Option Place) (l : Listing) → OptionIn n mark → ListingIn n l → ListingIn n (opens.list_in_do mark l)
list_in_do_in n mark l k h = record { exits = exits_of_in n mark k; returns = or_else_in n l.returns mark h.returns k; blocks = none }

-- another list, with those around it
with_lists : (n : ℕ) (o : Around) (l : Listing) (ls : List Listing) → ListingIn n l → ListingsIn n ls → AroundIn n o → AroundIn n (record o { list = l; outside = ls })
with_lists n o l ls k ks h =
    record { file = h.file; list = k; outside = ks; define = h.define; parallelize = h.parallelize; head_end = h.head_end; waiting = h.waiting }

put_in_in : (n : ℕ) (l : Listing) (o : Around) → ListingIn n l → AroundIn n o → AroundIn n (opens.put_in l o)
put_in_in n l o k h = with_lists n o l (o.list ∷ o.outside) k (more h.list h.outside) h

next_list_in : (n : ℕ) (ls : List Listing) → ListingsIn n ls → ListingIn n (opens.next_list ls)
next_list_in n [] h = unit_list_in n
next_list_in n (l ∷ ls) (more p h) = p

other_lists_in : (n : ℕ) (ls : List Listing) → ListingsIn n ls → ListingsIn n (opens.other_lists ls)
other_lists_in n [] h = none
other_lists_in n (l ∷ ls) (more p h) = h

taken_out_in : (n : ℕ) (o : Around) → AroundIn n o → AroundIn n (opens.taken_out o)
taken_out_in n o h = with_lists n o (opens.next_list o.outside) (opens.other_lists o.outside) (next_list_in n o.outside h.outside) (other_lists_in n o.outside h.outside) h

put_next_in : (n : ℕ) (c : Construct) (o : Around) → AroundIn n o → AroundIn n (opens.put_next c o)
put_next_in n c o h = record {
  file = h.file;
  list = record { exits = h.list.exits; returns = h.list.returns; blocks = none };
  outside = h.outside;
  define = h.define;
  parallelize = h.parallelize;
  head_end = h.head_end;
  waiting = h.waiting;
}

-- a head without lists, in which these places stand
in_head_in : (n : ℕ) (o : Around) (host : Option (List ℕ)) (unit : Option Heading) (p : Part) (define parallelize : Option Place) → OptionIn n define → OptionIn n parallelize → AroundIn n o →
    AroundIn n (record o { host = host; unit = unit; part = p; list = opens.unit_list; outside = []; define = define; parallelize = parallelize; head_end = None })
in_head_in n o host unit p define parallelize d e h =
    record { file = h.file; list = unit_list_in n; outside = none; define = d; parallelize = e; head_end = tt; waiting = h.waiting }

ended_in : (n : ℕ) (unit : Option Heading) (o : Around) → AroundIn n o → AroundIn n (opens.ended unit o)
ended_in n None o h = in_head_in n o None None part.Body None None tt tt h
ended_in n (Some u) o h = in_head_in n o o.host None part.Body None None tt tt h

in_part_in : (n : ℕ) (p : Part) (o : Around) → AroundIn n o → AroundIn n (opens.in_part p o)
in_part_in n p o h = in_head_in n o o.host o.unit p o.define o.parallelize h.define h.parallelize h

-- another part of it
with_part : (n : ℕ) (o : Around) (host : Option (List ℕ)) (p : Part) → AroundIn n o → AroundIn n (record o { host = host; part = p })
with_part n o host p h =
    record { file = h.file; list = h.list; outside = h.outside; define = h.define; parallelize = h.parallelize; head_end = h.head_end; waiting = h.waiting }

in_statements_in : (n : ℕ) (o : Around) → AroundIn n o → AroundIn n (opens.in_statements o)
in_statements_in n o h = record { file = h.file; list = h.list; outside = h.outside; define = tt; parallelize = tt; head_end = tt; waiting = h.waiting }

mark_in : (n : ℕ) (b : Bool) (at : Place) → InFiles n at → OptionIn n (cond b (Some at) None)
mark_in n true at h = h
mark_in n false at h = tt

mark_of_in : (n : ℕ) (w : Option Waiting) → WaitingIn n w → OptionIn n (passing.mark_of w)
mark_of_in n None h = tt
mark_of_in n (Some w) h = mark_in n (faults.is_mark w.word) w.at h

-- behind a statement that opens a list
opened_in : (n : ℕ) (l : Listing) (o : Around) → ListingIn n l → AroundIn n o → AroundIn n (opens.put_in l (opens.in_statements o))
opened_in n l o k h = put_in_in n l (opens.in_statements o) k (in_statements_in n o h)

behind_sort_in : (n : ℕ) (o : Around) (s : Sort) → AroundIn n o → AroundIn n (passing.behind_sort o s)
behind_sort_in n o (sort.Module name) h = with_part n o (Some name) part.Uses h
behind_sort_in n o sort.Contains h = with_part n o o.host part.Body h
behind_sort_in n o (sort.End w name) h = ended_in n o.unit o h
behind_sort_in n o (sort.Subroutine name) h = in_head_in n o o.host (Some (record { word = word.Subroutine; name = name })) part.Uses None None tt tt h
behind_sort_in n o (sort.Function name) h = in_head_in n o o.host (Some (record { word = word.Function; name = name })) part.Uses None None tt tt h
behind_sort_in n o sort.Use h = in_part_in n part.Uses o h
behind_sort_in n o sort.ImplicitNone h = in_part_in n part.Declarations o h
behind_sort_in n o sort.Declare h = in_part_in n part.Declarations o h
behind_sort_in n o (sort.Act a) h = in_statements_in n o h
behind_sort_in n o (sort.IfAct a) h = in_statements_in n o h
behind_sort_in n o sort.IfThen h = opened_in n (opens.list_in construct.If o.list) o (list_in_in n construct.If o.list h.list) h
behind_sort_in n o sort.Do h = opened_in n (opens.list_in_do (passing.mark_of o.waiting) o.list) o (list_in_do_in n (passing.mark_of o.waiting) o.list (mark_of_in n o.waiting h.waiting) h.list) h
behind_sort_in n o sort.Select h = opened_in n (opens.list_in construct.Select o.list) o (list_in_in n construct.Select o.list h.list) h
behind_sort_in n o sort.ElseIf h = put_next_in n construct.If o h
behind_sort_in n o sort.Else h = put_next_in n construct.Else o h
behind_sort_in n o sort.EndIf h = taken_out_in n o h
behind_sort_in n o sort.EndDo h = taken_out_in n o h
behind_sort_in n o sort.EndSelect h = taken_out_in n o h
behind_sort_in n o sort.Case h = put_next_in n (construct.Case (opens.had_default o.list.construct)) o h
behind_sort_in n o sort.CaseDefault h = put_next_in n (construct.Case true) o h

-- what waits, and the line that was last
with_waiting : (n : ℕ) (o : Around) (w : Option Waiting) (line : ℕ) → WaitingIn n w → AroundIn n o → AroundIn n (record o { waiting = w; line = line })
with_waiting n o w line k h =
    record { file = h.file; list = h.list; outside = h.outside; define = h.define; parallelize = h.parallelize; head_end = h.head_end; waiting = k }

behind_statement_in : (n : ℕ) (o : Around) (at : Place) (s : Sort) → AroundIn n o → AroundIn n (passing.behind_statement o at s)
behind_statement_in n o at s h =
    choose n (opens.may_stand o s) (record (passing.behind_sort o s) { waiting = None; line = at.line }) (record o { line = at.line })
    (with_waiting n (passing.behind_sort o s) None at.line tt (behind_sort_in n o s h)) (with_waiting n o o.waiting at.line h.waiting h)

-- ---- what directives leave open

with_define_in : (n : ℕ) (at : Place) (o : Around) → InFiles n at → AroundIn n o → AroundIn n (passing.with_define at o)
with_define_in n at o k h = in_head_in n o o.host o.unit o.part (opens.or_else o.define (Some at)) o.parallelize (or_else_in n o.define (Some at) h.define k) h.parallelize h

with_parallelize_in : (n : ℕ) (at : Place) (o : Around) → InFiles n at → AroundIn n o → AroundIn n (passing.with_parallelize at o)
with_parallelize_in n at o k h = in_head_in n o o.host o.unit o.part o.define (opens.or_else o.parallelize (Some at)) h.define (or_else_in n o.parallelize (Some at) h.parallelize k) h

head_end_in : (n : ℕ) (b : Bool) (at : Place) (o : Around) → InFiles n at → AroundIn n o → OptionIn n (cond b (opens.or_else o.head_end (Some at)) o.head_end)
head_end_in n true at o k h = or_else_in n o.head_end (Some at) h.head_end k
head_end_in n false at o k h = h.head_end

with_head_end_in : (n : ℕ) (at : Place) (o : Around) → InFiles n at → AroundIn n o → AroundIn n (passing.with_head_end at o)
with_head_end_in n at o k h = record {
  file = h.file;
  list = h.list;
  outside = h.outside;
  define = h.define;
  parallelize = h.parallelize;
  head_end = head_end_in n (opens.in_head o.part) at o k h;
  waiting = h.waiting;
}

with_block_in : (n : ℕ) (at : Place) (w : DirectiveWord) (o : Around) → InFiles n at → AroundIn n o → AroundIn n (passing.with_block at w o)
with_block_in n at w o k h = record {
  file = h.file;
  list = record { exits = h.list.exits; returns = h.list.returns; blocks = more k h.list.blocks };
  outside = h.outside;
  define = h.define;
  parallelize = h.parallelize;
  head_end = head_end_in n (opens.in_head o.part) at o k h;
  waiting = h.waiting;
}

other_blocks_in : (n : ℕ) (blocks : List Block) → BlocksIn n blocks → BlocksIn n (passing.other_blocks blocks)
other_blocks_in n [] h = none
other_blocks_in n (b ∷ bs) (more p h) = h

without_block_in : (n : ℕ) (o : Around) → AroundIn n o → AroundIn n (passing.without_block o)
without_block_in n o h = record {
  file = h.file;
  list = record { exits = h.list.exits; returns = h.list.returns; blocks = other_blocks_in n o.list.blocks h.list.blocks };
  outside = h.outside;
  define = h.define;
  parallelize = h.parallelize;
  head_end = h.head_end;
  waiting = h.waiting;
}

behind_line_in : (n : ℕ) (o : Around) (at : Place) (w : DirectiveWord) → InFiles n at → AroundIn n o → AroundIn n (passing.behind_line o at w)
behind_line_in n o at directive.Define k h = choose n (faults.in_subroutine_head o) (passing.with_define at o) o (with_define_in n at o k h) h
behind_line_in n o at directive.Parallelize k h = choose n (faults.in_subroutine_head o) (passing.with_parallelize at o) o (with_parallelize_in n at o k h) h
behind_line_in n o at directive.Hoist k h = choose n (opens.list_open o) (passing.with_block at directive.Hoist o) o (with_block_in n at directive.Hoist o k h) h
behind_line_in n o at directive.Transform k h = choose n (opens.list_open o) (passing.with_block at directive.Transform o) o (with_block_in n at directive.Transform o k h) h
behind_line_in n o at directive.EndHoist k h = choose n (faults.ends_innermost directive.EndHoist o.list.blocks) (passing.without_block o) o (without_block_in n o h) h
behind_line_in n o at directive.EndTransform k h = choose n (faults.ends_innermost directive.EndTransform o.list.blocks) (passing.without_block o) o (without_block_in n o h) h
behind_line_in n o at directive.Routine k h = choose n (faults.in_unit_head o) (passing.with_head_end at o) o (with_head_end_in n at o k h) h
behind_line_in n o at directive.Forward k h = h
behind_line_in n o at directive.Fusion k h = h
behind_line_in n o at directive.Interchange k h = h
behind_line_in n o at directive.Cache k h = h
behind_line_in n o at directive.Column k h = h
behind_line_in n o at directive.OpenMpLoop k h = h
behind_line_in n o at directive.OpenAccLoop k h = h

waiting_first_in : (n : ℕ) (first : Option Waiting) (w : Waiting) → WaitingIn n first → InFiles n w.at → WaitingIn n (passing.waiting_first first w)
waiting_first_in n None w h k = k
waiting_first_in n (Some first) w h k = h

waits_in : (n : ℕ) (o : Around) (at : Place) (w : DirectiveWord) → InFiles n at → AroundIn n o → AroundIn n (record o { waiting = passing.waiting_first o.waiting (record { at = at; word = w }) })
waits_in n o at w k h =
    with_waiting n o (passing.waiting_first o.waiting (record { at = at; word = w })) o.line (waiting_first_in n o.waiting (record { at = at; word = w }) h.waiting k) h

follows_in : (n : ℕ) (o : Around) (at : Place) (w : DirectiveWord) → InFiles n at → AroundIn n o → AroundIn n (record (passing.behind_line o at w) { waiting = None })
follows_in n o at w k h = with_waiting n (passing.behind_line o at w) None (passing.behind_line o at w).line tt (behind_line_in n o at w k h)

behind_directive_in : (n : ℕ) (o : Around) (at : Place) (w : DirectiveWord) → InFiles n at → AroundIn n o → AroundIn n (passing.behind_directive o at w)
behind_directive_in n o at directive.Forward k h = waits_in n o at directive.Forward k h
behind_directive_in n o at directive.Fusion k h = waits_in n o at directive.Fusion k h
behind_directive_in n o at directive.Interchange k h = waits_in n o at directive.Interchange k h
behind_directive_in n o at directive.Cache k h = waits_in n o at directive.Cache k h
behind_directive_in n o at directive.OpenMpLoop k h = waits_in n o at directive.OpenMpLoop k h
behind_directive_in n o at directive.OpenAccLoop k h = waits_in n o at directive.OpenAccLoop k h
behind_directive_in n o at directive.Define k h = follows_in n o at directive.Define k h
behind_directive_in n o at directive.Parallelize k h = follows_in n o at directive.Parallelize k h
behind_directive_in n o at directive.Hoist k h = follows_in n o at directive.Hoist k h
behind_directive_in n o at directive.EndHoist k h = follows_in n o at directive.EndHoist k h
behind_directive_in n o at directive.Transform k h = follows_in n o at directive.Transform k h
behind_directive_in n o at directive.EndTransform k h = follows_in n o at directive.EndTransform k h
behind_directive_in n o at directive.Column k h = follows_in n o at directive.Column k h
behind_directive_in n o at directive.Routine k h = follows_in n o at directive.Routine k h

behind_in : (n : ℕ) (mode : Mode) (o : Around) (i : Item) → passing.file_of i < n → AroundIn n o → AroundIn n (passing.behind mode o i)
behind_in n mode o (item.Statement at s) k h = behind_statement_in n o at s h
behind_in n mode o (item.Absent at) k h = with_waiting n o o.waiting at.line h.waiting h
behind_in n mode o (item.Directive at within w) k h =
    choose n (faults.line_counts mode (faults.is_mark w) within) (passing.behind_directive o at w) o (behind_directive_in n o at w k h) h
behind_in n mode o (item.Unread at within mark) k h = h

-- ---- all

top_in : (n file : ℕ) → file < n → AroundIn n (passing.top file)
top_in n file k = record { file = k; list = unit_list_in n; outside = none; define = tt; parallelize = tt; head_end = tt; waiting = tt }

entered_in : (n file : ℕ) (o : Around) → file < n → AroundIn n o → AroundIn n (passing.entered file o)
entered_in n file o k h = choose n (file == o.file) o (passing.top file) h (top_in n file k)

abbrev pub ItemsIn : ℕ → List Item → Type 0
ItemsIn n is = Each Item (λ i. passing.file_of i < n) is

faults_from_in : (n : ℕ) (mode : Mode) (o : Around) (is : List Item) → AroundIn n o → ItemsIn n is → FaultsIn n (passing.faults_from mode o is)
faults_from_in n mode o [] h none = at_file_end_in n o h
faults_from_in n mode o (i ∷ is) h (more k ks) =
    let g : AroundIn n (passing.entered (passing.file_of i) o) = entered_in n (passing.file_of i) o k h in
    join (join (either (passing.file_of i == o.file) [] (faults.at_file_end o) none (at_file_end_in n o h)) (at_item_in n mode (passing.entered (passing.file_of i) o) i g k))
    (faults_from_in n mode (passing.behind mode (passing.entered (passing.file_of i) o) i) is (behind_in n mode (passing.entered (passing.file_of i) o) i k g) ks)

pub faults_in : (n : ℕ) (mode : Mode) (is : List Item) → 0 < n → ItemsIn n is → FaultsIn n (passing.faults mode is)
faults_in n mode is k ks = faults_from_in n mode (passing.top 0) is (top_in n 0 k) ks
