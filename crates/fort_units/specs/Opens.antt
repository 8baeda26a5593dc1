-- What is open between lines: the module and the unit, how far its head has come, and the lists of statements. Directives are
-- set aside where a statement is judged: which statements may stand is a matter of the statements before it alone.
use Rattle.std.specs.Prelude.{ℕ, ◌+◌, Bool, true, false, cond, ◌&&◌, not, nat_lt, List, [], ◌∷◌, Option, None, Some, is_some, is_none}
use Rattle.std.specs.Str.{bytes_eq}
use Rattle.fort_tree.specs.declared.place.Place.{Place}
use Rattle.fort_tree.specs.declared.statement.EndWord.{EndWord}
use Rattle.fort_tree.specs.declared.statement.EndWord.TheVariants as word
use Rattle.fort_stmt.specs.declared.sort.ActionSort.{ActionSort}
use Rattle.fort_stmt.specs.declared.sort.ActionSort.TheVariants as act
use Rattle.fort_stmt.specs.declared.sort.Sort.{Sort}
use Rattle.fort_stmt.specs.declared.sort.Sort.TheVariants as sort
use Rattle.fort_units.specs.declared.around.Around.{Around}
use Rattle.fort_units.specs.declared.around.Block.{Block}
use Rattle.fort_units.specs.declared.around.Construct.{Construct}
use Rattle.fort_units.specs.declared.around.Construct.TheVariants as construct
use Rattle.fort_units.specs.declared.around.Exits.{Exits}
use Rattle.fort_units.specs.declared.around.Exits.TheVariants as exits
use Rattle.fort_units.specs.declared.around.Heading.{Heading}
use Rattle.fort_units.specs.declared.around.Listing.{Listing}
use Rattle.fort_units.specs.declared.around.Part.{Part}
use Rattle.fort_units.specs.declared.around.Part.TheVariants as part

-- Parts of a unit or a module

abbrev pub is_uses : Part → Bool
is_uses part.Uses = true
is_uses other = false

abbrev pub in_head : Part → Bool
in_head part.Body = false
in_head other = true

-- Constructs

-- Between CASE lines statements can stand, and before the first they can't.
abbrev pub holds_statements : Option Construct → Bool
holds_statements (Some construct.Select) = false
holds_statements other = true

-- a list of statements is open
abbrev pub list_open : Around → Bool
list_open o = is_some o.unit && holds_statements o.list.construct

-- what ELSE IF, ELSE, CASE and the END lines of constructs go on with, or end
abbrev pub goes_on : Sort → Option Construct → Bool
goes_on sort.ElseIf (Some construct.If) = true
goes_on sort.Else (Some construct.If) = true
goes_on sort.EndIf (Some construct.If) = true
goes_on sort.EndIf (Some construct.Else) = true
goes_on sort.EndDo (Some construct.Do) = true
goes_on sort.EndSelect (Some construct.Select) = true
goes_on sort.EndSelect (Some (construct.Case default)) = true
goes_on sort.Case (Some construct.Select) = true
goes_on sort.Case (Some (construct.Case default)) = true
goes_on sort.CaseDefault (Some construct.Select) = true
goes_on sort.CaseDefault (Some (construct.Case default)) = not default
goes_on other outer = false

-- an EXIT or CYCLE stands in a DO
abbrev pub in_loop : Exits → Bool
in_loop exits.Nowhere = false
in_loop other = true

abbrev pub action_stands : Exits → ActionSort → Bool
action_stands around act.Exit = in_loop around
action_stands around act.Cycle = in_loop around
action_stands around other = true

-- END lines of units and modules

abbrev pub same_word : EndWord → EndWord → Bool
same_word word.Module word.Module = true
same_word word.Subroutine word.Subroutine = true
same_word word.Function word.Function = true
same_word a b = false

abbrev pub names : Option (List ℕ) → List ℕ → Bool
names None name = true
names (Some said) name = bytes_eq said name

-- END alone, with the word, or with the word and the name
abbrev pub ends : Option EndWord → Option (List ℕ) → Heading → Bool
ends None None h = true
ends None (Some name) h = false
ends (Some w) name h = same_word w h.word && names name h.name

abbrev pub ends_unit : Option EndWord → Option (List ℕ) → Option Construct → Option Heading → Option (List ℕ) → Bool
ends_unit w name inner (Some h) host = is_none inner && ends w name h
ends_unit w name inner None (Some host) = ends w name (record { word = word.Module; name = host })
ends_unit w name inner None None = false

-- The statement may stand next.
abbrev pub may_stand : Around → Sort → Bool
may_stand o (sort.Module name) = is_none o.unit && is_none o.host
may_stand o sort.Contains = is_none o.unit && in_head o.part
may_stand o (sort.End w name) = ends_unit w name o.list.construct o.unit o.host
may_stand o (sort.Subroutine name) = is_none o.unit && not (in_head o.part)
may_stand o (sort.Function name) = is_none o.unit && not (in_head o.part)
may_stand o sort.Use = is_uses o.part
may_stand o sort.ImplicitNone = is_uses o.part
may_stand o sort.Declare = in_head o.part
may_stand o (sort.Act a) = list_open o && action_stands o.list.exits a
may_stand o (sort.IfAct a) = list_open o && action_stands o.list.exits a
may_stand o sort.IfThen = list_open o
may_stand o sort.Do = list_open o
may_stand o sort.Select = list_open o
may_stand o other = goes_on other o.list.construct

-- What the statement leaves open

abbrev pub or_else : Option Place → Option Place → Option Place
or_else None b = b
or_else (Some a) b = Some a

-- one more, counted to 64
abbrev pub deeper : ℕ → ℕ
deeper n = cond (nat_lt n 64) (n + 1) 64

-- the list of a unit
abbrev pub unit_list : Listing
unit_list = record { construct = None; exits = exits.Nowhere; returns = None; depth = 0; blocks = [] }

-- the list of a construct that isn't a DO
abbrev pub list_in : Construct → Listing → Listing
list_in c outer = record { construct = Some c; exits = outer.exits; returns = outer.returns; depth = deeper outer.depth; blocks = [] }

abbrev pub exits_of : Option Place → Exits
exits_of None = exits.Loop
exits_of (Some mark) = exits.Marked mark

-- the list of a DO with a mark, or without
abbrev pub list_in_do : Option Place → Listing → Listing
list_in_do mark outer = record { construct = Some construct.Do; exits = exits_of mark; returns = or_else outer.returns mark; depth = deeper outer.depth; blocks = [] }

abbrev pub put_in : Listing → Around → Around
put_in inner o = record o { list = inner; outside = o.list ∷ o.outside }

-- the first of the lists, and the others
abbrev pub next_list : List Listing → Listing
next_list [] = unit_list
next_list (l ∷ ls) = l

abbrev pub other_lists : List Listing → List Listing
other_lists [] = []
other_lists (l ∷ ls) = ls

abbrev pub taken_out : Around → Around
taken_out o = record o { list = next_list o.outside; outside = other_lists o.outside }

-- how many are open around these blocks, where so many are open in them
abbrev pub depth_around : ℕ → List Block → ℕ
depth_around here [] = here
depth_around here (b ∷ bs) = depth_around b.depth bs

-- its blocks are passed over
abbrev pub without_blocks : Around → Around
without_blocks o = record o { list = record o.list { depth = depth_around o.list.depth o.list.blocks; blocks = [] } }

-- the next list of statements of the same construct
abbrev pub put_next : Construct → Around → Around
put_next c o = record o { list = record o.list { construct = Some c; depth = depth_around o.list.depth o.list.blocks; blocks = [] } }

abbrev pub had_default : Option Construct → Bool
had_default (Some (construct.Case default)) = default
had_default other = false

-- no unit is open, and units can follow
abbrev pub without_unit : Around → Around
without_unit o = record o { unit = None; part = part.Body; list = unit_list; outside = []; define = None; parallelize = None; head_end = None }

abbrev pub in_unit : EndWord → List ℕ → Around → Around
in_unit w name o = record (without_unit o) { unit = Some (record { word = w; name = name }); part = part.Uses }

-- behind END of a unit, or else of the module
abbrev pub ended : Option Heading → Around → Around
ended (Some h) o = without_unit o
ended None o = record (without_unit o) { host = None }

-- the head goes on: what has begun in it that may not stand there is passed over
abbrev pub in_part : Part → Around → Around
in_part p o = record o { part = p; list = unit_list; outside = []; head_end = None }

-- the head is over
abbrev pub in_statements : Around → Around
in_statements o = record o { part = part.Body; define = None; parallelize = None; head_end = None }
