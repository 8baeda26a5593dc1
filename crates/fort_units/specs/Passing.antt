-- What is open behind each line, all faults of a list of lines, and the first of them.
use Rattle.std.specs.Prelude.{◌≡◌, ℕ, ◌==◌, Bool, true, cond, ◌&&◌, ◌||◌, not, nat_lt, List, [], ◌∷◌, ◌++◌, Option, None, Some}
use Rattle.std.specs.List.{list_all}
use Rattle.fort_tree.specs.Code.{code_number}
use Rattle.fort_tree.specs.declared.choice.Mode.{Mode}
use Rattle.fort_tree.specs.declared.fault.Fault.{Fault}
use Rattle.fort_tree.specs.declared.place.Place.{Place}
use Rattle.fort_tree.specs.declared.statement.EndWord.TheVariants as word
use Rattle.fort_tree.specs.declared.stmt.DirectiveWord.{DirectiveWord}
use Rattle.fort_tree.specs.declared.stmt.DirectiveWord.TheVariants as directive
use Rattle.fort_units.specs.declared.around.Around.{Around}
use Rattle.fort_units.specs.declared.around.Block.{Block}
use Rattle.fort_units.specs.declared.around.Construct.TheVariants as construct
use Rattle.fort_units.specs.declared.around.Part.TheVariants as part
use Rattle.fort_units.specs.declared.around.Waiting.{Waiting}
use Rattle.fort_units.specs.declared.item.Item.{Item}
use Rattle.fort_units.specs.declared.item.Item.TheVariants as item
use Rattle.fort_stmt.specs.declared.sort.Sort.{Sort}
use Rattle.fort_stmt.specs.declared.sort.Sort.TheVariants as sort
use Rattle.fort_units.specs.Opens.{in_head, list_open, may_stand, or_else, deeper, unit_list, list_in, list_in_do, put_in, taken_out, put_next, had_default, in_unit, ended, in_part, in_statements}
use Rattle.fort_units.specs.Faults.{in_subroutine_head, in_unit_head, is_mark, line_counts, at_item, at_file_end, ends_innermost}

-- the mark that waits for the DO
abbrev pub mark_of : Option Waiting → Option Place
mark_of None = None
mark_of (Some w) = cond (is_mark w.word) (Some w.at) None

-- behind a statement that may stand
abbrev pub behind_sort : Around → Sort → Around
behind_sort o (sort.Module name) = record o { host = Some name; part = part.Uses }
behind_sort o sort.Contains = record o { part = part.Body }
behind_sort o (sort.End w name) = ended o.unit o
behind_sort o (sort.Subroutine name) = in_unit word.Subroutine name o
behind_sort o (sort.Function name) = in_unit word.Function name o
behind_sort o sort.Use = in_part part.Uses o
behind_sort o sort.ImplicitNone = in_part part.Declarations o
behind_sort o sort.Declare = in_part part.Declarations o
behind_sort o (sort.Act a) = in_statements o
behind_sort o (sort.IfAct a) = in_statements o
behind_sort o sort.IfThen = put_in (list_in construct.If o.list) (in_statements o)
behind_sort o sort.Do = put_in (list_in_do (mark_of o.waiting) o.list) (in_statements o)
behind_sort o sort.Select = put_in (list_in construct.Select o.list) (in_statements o)
behind_sort o sort.ElseIf = put_next construct.If o
behind_sort o sort.Else = put_next construct.Else o
behind_sort o sort.Case = put_next (construct.Case (had_default o.list.construct)) o
behind_sort o sort.CaseDefault = put_next (construct.Case true) o
behind_sort o other = taken_out o

abbrev pub behind_statement : Around → Place → Sort → Around
behind_statement o at s = cond (may_stand o s) (record (behind_sort o s) { waiting = None; line = at.line }) (record o { line = at.line })

-- Directives

abbrev pub with_define : Place → Around → Around
with_define at o = record (in_part o.part o) { define = or_else o.define (Some at) }

abbrev pub with_parallelize : Place → Around → Around
with_parallelize at o = record (in_part o.part o) { parallelize = or_else o.parallelize (Some at) }

-- the first of what may end the head
abbrev pub with_head_end : Place → Around → Around
with_head_end at o = record o { head_end = cond (in_head o.part) (or_else o.head_end (Some at)) o.head_end }

abbrev pub with_block : Place → DirectiveWord → Around → Around
with_block at w o =
    record (with_head_end at o) { list = record o.list { depth = deeper o.list.depth; blocks = record { at = at; word = w; depth = o.list.depth } ∷ o.list.blocks } }

abbrev pub outer_depth : ℕ → List Block → ℕ
outer_depth here [] = here
outer_depth here (b ∷ bs) = b.depth

abbrev pub other_blocks : List Block → List Block
other_blocks [] = []
other_blocks (b ∷ bs) = bs

abbrev pub without_block : Around → Around
without_block o = record o { list = record o.list { depth = outer_depth o.list.depth o.list.blocks; blocks = other_blocks o.list.blocks } }

-- the directive waits for what follows, where none does
abbrev pub waiting_first : Option Waiting → Waiting → Option Waiting
waiting_first None w = Some w
waiting_first (Some first) w = Some first

abbrev pub behind_line : Around → Place → DirectiveWord → Around
behind_line o at directive.Define = cond (in_subroutine_head o) (with_define at o) o
behind_line o at directive.Parallelize = cond (in_subroutine_head o) (with_parallelize at o) o
behind_line o at directive.Hoist = cond (list_open o) (with_block at directive.Hoist o) o
behind_line o at directive.Transform = cond (list_open o) (with_block at directive.Transform o) o
behind_line o at directive.EndHoist = cond (ends_innermost directive.EndHoist o.list.blocks) (without_block o) o
behind_line o at directive.EndTransform = cond (ends_innermost directive.EndTransform o.list.blocks) (without_block o) o
behind_line o at directive.Routine = cond (in_unit_head o) (with_head_end at o) o
behind_line o at other = o

abbrev pub behind_directive : Around → Place → DirectiveWord → Around
behind_directive o at directive.Forward = record o { waiting = waiting_first o.waiting (record { at = at; word = directive.Forward }) }
behind_directive o at directive.Fusion = record o { waiting = waiting_first o.waiting (record { at = at; word = directive.Fusion }) }
behind_directive o at directive.Interchange = record o { waiting = waiting_first o.waiting (record { at = at; word = directive.Interchange }) }
behind_directive o at directive.Cache = record o { waiting = waiting_first o.waiting (record { at = at; word = directive.Cache }) }
behind_directive o at directive.OpenMpLoop = record o { waiting = waiting_first o.waiting (record { at = at; word = directive.OpenMpLoop }) }
behind_directive o at directive.OpenAccLoop = record o { waiting = waiting_first o.waiting (record { at = at; word = directive.OpenAccLoop }) }
behind_directive o at other = record (behind_line o at other) { waiting = None }

-- behind a line of a file
abbrev pub behind : Mode → Around → Item → Around
behind mode o (item.Statement at s) = behind_statement o at s
behind mode o (item.Absent at) = record o { line = at.line }
behind mode o (item.Directive at within w) = cond (line_counts mode (is_mark w) within) (behind_directive o at w) o
behind mode o (item.Unread at within mark) = o

-- Files

abbrev pub file_of : Item → ℕ
file_of (item.Statement at s) = at.file
file_of (item.Absent at) = at.file
file_of (item.Directive at within w) = at.file
file_of (item.Unread at within mark) = at.file

-- where a file begins
abbrev pub top : ℕ → Around
top file = record {
  file = file;
  line = 0;
  host = None;
  unit = None;
  part = part.Body;
  list = unit_list;
  outside = [];
  define = None;
  parallelize = None;
  head_end = None;
  waiting = None;
}

-- in the file of the next line: the file before is over where that is another one
abbrev pub entered : ℕ → Around → Around
entered file o = cond (file == o.file) o (top file)

abbrev pub left_behind : ℕ → Around → List Fault
left_behind file o = cond (file == o.file) [] (at_file_end o)

-- all faults of lines, from what is open before them
abbrev pub faults_from : Mode → Around → List Item → List Fault
faults_from mode o [] = at_file_end o
faults_from mode o (i ∷ is) = (left_behind (file_of i) o ++ at_item mode (entered (file_of i) o) i) ++ faults_from mode (behind mode (entered (file_of i) o) i) is

abbrev pub faults : Mode → List Item → List Fault
faults mode items = faults_from mode (top 0) items

-- The first

abbrev pub is_before : Place → Place → Bool
is_before p q = nat_lt p.file q.file || (p.file == q.file && (nat_lt p.line q.line || (p.line == q.line && nat_lt p.column q.column)))

abbrev pub is_same_place : Place → Place → Bool
is_same_place p q = p.file == q.file && (p.line == q.line && p.column == q.column)

-- the fault has a lesser place, or the same and a smaller code
abbrev pub comes_before : Fault → Fault → Bool
comes_before f g = is_before f.place g.place || (is_same_place f.place g.place && nat_lt (code_number f.code) (code_number g.code))

-- the fault is one of them, and none of them comes before it
pub record IsFirst (first : Fault) (all : List Fault) : Type 0 where
  pub front : List Fault
  pub back : List Fault
  pub is_one : all ≡ front ++ first ∷ back
  pub is_least : list_all (λ other. not (comes_before other first)) all ≡ true

-- there is none, or this is the first
abbrev pub FirstOf : Option Fault → List Fault → Type 0
FirstOf None all = all ≡ []
FirstOf (Some first) all = IsFirst first all

-- faults that are noted one after the other, where this one is the first so far

abbrev pub earlier : Option Fault → Fault → Option Fault
earlier None f = Some f
earlier (Some g) f = cond (comes_before f g) (Some f) (Some g)

abbrev pub noted : Option Fault → List Fault → Option Fault
noted first [] = first
noted first (f ∷ fs) = noted (earlier first f) fs

-- the one of two that comes first
abbrev pub first_of : Option Fault → Option Fault → Option Fault
first_of first None = first
first_of first (Some f) = earlier first f
