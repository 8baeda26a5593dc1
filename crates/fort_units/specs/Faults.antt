-- Faults of nesting and of the places of directives, each clause by itself, and all of them.
use Rattle.std.specs.Prelude.{ℕ, Bool, true, false, cond, ◌&&◌, ◌||◌, not, nat_lt, List, [], ◌∷◌, ◌++◌, map, Option, None, Some, is_some}
use Rattle.fort_tree.specs.declared.choice.Mode.{Mode}
use Rattle.fort_tree.specs.declared.choice.Mode.TheVariants.{Source, Target}
use Rattle.fort_tree.specs.declared.fault.Code.{Code}
use Rattle.fort_tree.specs.declared.fault.Code.TheVariants.{E11, E20, E41, E70}
use Rattle.fort_tree.specs.declared.fault.Fault.{Fault}
use Rattle.fort_tree.specs.declared.place.Place.{Place}
use Rattle.fort_tree.specs.declared.statement.EndWord.TheVariants as word
use Rattle.fort_tree.specs.declared.stmt.DirectiveWord.{DirectiveWord}
use Rattle.fort_tree.specs.declared.stmt.DirectiveWord.TheVariants as directive
use Rattle.fort_units.specs.declared.around.Around.{Around}
use Rattle.fort_units.specs.declared.around.Block.{Block}
use Rattle.fort_units.specs.declared.around.Exits.{Exits}
use Rattle.fort_units.specs.declared.around.Exits.TheVariants as exits
use Rattle.fort_units.specs.declared.around.Heading.{Heading}
use Rattle.fort_units.specs.declared.around.Listing.{Listing}
use Rattle.fort_units.specs.declared.around.Waiting.{Waiting}
use Rattle.fort_units.specs.declared.item.Item.{Item}
use Rattle.fort_units.specs.declared.item.Item.TheVariants as item
use Rattle.fort_stmt.specs.declared.sort.ActionSort.{ActionSort}
use Rattle.fort_stmt.specs.declared.sort.ActionSort.TheVariants as act
use Rattle.fort_stmt.specs.declared.sort.Sort.{Sort}
use Rattle.fort_stmt.specs.declared.sort.Sort.TheVariants as sort
use Rattle.sound_programs.specs.Forms.{ends_block}
use Rattle.fort_units.specs.Opens.{in_head, list_open, may_stand, same_word}

abbrev pub coded : Code → Place → Fault
coded code at = record { code = code; place = at; item = 0; first = None; second = None }

-- a statement that nothing around it lets stand
abbrev pub unnested : Place → Fault
unnested at = coded E11 at

-- a directive at a wrong place
abbrev pub misplaced : Place → Fault
misplaced at = coded E41 at

-- a mark line in a source, or a directive line in a made text
abbrev pub not_of_mode : Place → Fault
not_of_mode at = record { code = E20; place = at; item = 11; first = None; second = None }

abbrev pub too_deep : Place → Fault
too_deep at = coded E70 at

abbrev pub misplaced_if : Option Place → List Fault
misplaced_if None = []
misplaced_if (Some at) = misplaced at ∷ []

-- Directives directly before a statement

abbrev pub stands_before : Sort → DirectiveWord → Bool
stands_before sort.Do word = true
stands_before (sort.Act act.Call) directive.Forward = true
stands_before other word = false

-- the directive that waits doesn't stand directly before its DO or CALL
abbrev pub unmet : Option Waiting → Sort → List Fault
unmet None statement = []
unmet (Some w) statement = cond (stands_before statement w.word) [] (misplaced w.at ∷ [])

-- what follows is no statement
abbrev pub cut_off : Option Waiting → List Fault
cut_off None = []
cut_off (Some w) = misplaced w.at ∷ []

-- Heads of units

-- one of `define` and `parallelize` without the other
abbrev pub alone_of : Option Place → Option Place → List Fault
alone_of None other = misplaced_if other
alone_of (Some at) None = misplaced at ∷ []
alone_of (Some at) (Some other) = []

abbrev pub alone : Around → List Fault
alone o = alone_of o.define o.parallelize

abbrev pub is_subroutine : Option Heading → Bool
is_subroutine None = false
is_subroutine (Some h) = same_word h.word word.Subroutine

-- before the first executable statement of a SUBROUTINE
abbrev pub in_subroutine_head : Around → Bool
in_subroutine_head o = is_subroutine o.unit && in_head o.part

-- in the head of a unit
abbrev pub in_unit_head : Around → Bool
in_unit_head o = is_some o.unit && in_head o.part

-- it stands already
abbrev pub twice : Option Place → Place → List Fault
twice None at = []
twice (Some earlier) at = misplaced at ∷ []

-- Blocks

-- blocks that aren't closed in their list
abbrev pub unclosed : List Block → List Fault
unclosed blocks = map (λ b. misplaced b.at) blocks

-- those of all lists
abbrev pub all_unclosed : List Listing → List Fault
all_unclosed [] = []
all_unclosed (l ∷ ls) = unclosed l.blocks ++ all_unclosed ls

-- Marked loops

-- EXIT of a marked DO
abbrev pub exits_marked : Exits → List Fault
exits_marked (exits.Marked mark) = misplaced mark ∷ []
exits_marked other = []

-- of marked loops that hold a RETURN the outermost has the first mark
abbrev pub action_faults : ActionSort → Listing → List Fault
action_faults act.Exit l = exits_marked l.exits
action_faults act.Return l = misplaced_if l.returns
action_faults other l = []

-- Nesting limits

abbrev pub limit : Mode → ℕ
limit Source = 32
limit Target = 64

-- a construct or a block that begins here is too deep
abbrev pub deep_from : Mode → Place → ℕ → List Fault
deep_from mode at depth = cond (nat_lt depth (limit mode)) [] (too_deep at ∷ [])

abbrev pub deep_at : Mode → Place → Around → List Fault
deep_at mode at o = deep_from mode at o.list.depth

-- A statement that may stand

abbrev pub statement_faults : Mode → Around → Place → Sort → List Fault
statement_faults mode o at (sort.Module name) = []
statement_faults mode o at sort.Contains = []
statement_faults mode o at (sort.End w name) = unclosed o.list.blocks ++ alone o
statement_faults mode o at (sort.Subroutine name) = []
statement_faults mode o at (sort.Function name) = []
statement_faults mode o at sort.Use = misplaced_if o.head_end
statement_faults mode o at sort.ImplicitNone = misplaced_if o.head_end
statement_faults mode o at sort.Declare = misplaced_if o.head_end
statement_faults mode o at (sort.Act a) = action_faults a o.list ++ alone o
statement_faults mode o at (sort.IfAct a) = (action_faults a o.list ++ deep_at mode at o) ++ alone o
statement_faults mode o at sort.IfThen = deep_at mode at o ++ alone o
statement_faults mode o at sort.Do = deep_at mode at o ++ alone o
statement_faults mode o at sort.Select = deep_at mode at o ++ alone o
statement_faults mode o at other = unclosed o.list.blocks

abbrev pub at_statement : Mode → Around → Place → Sort → List Fault
at_statement mode o at s = cond (may_stand o s) (unmet o.waiting s ++ statement_faults mode o at s) (unnested at ∷ [])

-- Directives

-- `define` or `parallelize`, of which one stands already or not
abbrev pub head_faults : Around → Option Place → Place → List Fault
head_faults o earlier at = cond (in_subroutine_head o) (misplaced_if o.head_end ++ twice earlier at) (misplaced at ∷ [])

abbrev pub block_faults : Mode → Around → Place → List Fault
block_faults mode o at = cond (list_open o) (deep_at mode at o) (misplaced at ∷ [])

-- the innermost open construct is the block that the line ends
abbrev pub ends_innermost : DirectiveWord → List Block → Bool
ends_innermost last [] = false
ends_innermost last (b ∷ bs) = ends_block b.word last

abbrev pub end_faults : DirectiveWord → List Block → Place → List Fault
end_faults last blocks at = cond (ends_innermost last blocks) [] (misplaced at ∷ [])

abbrev pub routine_faults : Around → Place → List Fault
routine_faults o at = cond (in_unit_head o) (twice o.head_end at) (misplaced at ∷ [])

-- a directive that is of the text's mode and in no continued statement
abbrev pub directive_faults : Mode → Around → Place → DirectiveWord → List Fault
directive_faults mode o at directive.Define = cut_off o.waiting ++ head_faults o o.define at
directive_faults mode o at directive.Parallelize = cut_off o.waiting ++ head_faults o o.parallelize at
directive_faults mode o at directive.Hoist = cut_off o.waiting ++ block_faults mode o at
directive_faults mode o at directive.Transform = cut_off o.waiting ++ block_faults mode o at
directive_faults mode o at directive.EndHoist = cut_off o.waiting ++ end_faults directive.EndHoist o.list.blocks at
directive_faults mode o at directive.EndTransform = cut_off o.waiting ++ end_faults directive.EndTransform o.list.blocks at
directive_faults mode o at directive.Routine = cut_off o.waiting ++ routine_faults o at
directive_faults mode o at directive.Column = cut_off o.waiting ++ misplaced at ∷ []
directive_faults mode o at before_statement = cond (is_some o.waiting) (misplaced at ∷ []) []

abbrev pub is_mark : DirectiveWord → Bool
is_mark directive.OpenMpLoop = true
is_mark directive.OpenAccLoop = true
is_mark directive.Routine = true
is_mark other = false

-- a source has no marks, a made text no directives
abbrev pub is_of_mode : Mode → Bool → Bool
is_of_mode Source mark = not mark
is_of_mode Target mark = mark

-- the line counts: it is of the mode and stands in no continued statement
abbrev pub line_counts : Mode → Bool → Bool → Bool
line_counts mode mark within = is_of_mode mode mark && not within

abbrev pub line_faults : Mode → Place → Bool → Bool → List Fault
line_faults mode at mark within = cond (is_of_mode mode mark) (cond within (misplaced at ∷ []) []) (not_of_mode at ∷ [])

abbrev pub at_directive : Mode → Around → Place → DirectiveWord → Bool → List Fault
at_directive mode o at w within = cond (line_counts mode (is_mark w) within) (directive_faults mode o at w) (line_faults mode at (is_mark w) within)

-- The end of a file

abbrev pub last_line : Around → Place
last_line o = record { file = o.file; line = o.line; column = 1 }

-- a file ends inside a unit or a module
abbrev pub unended : Around → List Fault
unended o = cond (is_some o.unit || is_some o.host) (unnested (last_line o) ∷ []) []

abbrev pub at_file_end : Around → List Fault
at_file_end o = cut_off o.waiting ++ (unended o ++ ((unclosed o.list.blocks ++ all_unclosed o.outside) ++ alone o))

-- All

-- what a line is at fault for, or makes another be
abbrev pub at_item : Mode → Around → Item → List Fault
at_item mode o (item.Statement at s) = at_statement mode o at s
at_item mode o (item.Absent at) = []
at_item mode o (item.Directive at within w) = at_directive mode o at w within
at_item mode o (item.Unread at within mark) = line_faults mode at mark within
