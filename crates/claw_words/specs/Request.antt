-- The request that words are.
use Rattle.std.specs.Prelude.{Bool, true, false, ◌||◌, List, [], ◌∷◌, codes, Option, Some, None, unwrap_or, if◌then◌else◌}
use Rattle.std.specs.Str.{bytes_eq}
use Rattle.clap.specs.Words.{Kinds, Row, Text, all_of, fault_of, matches_of}
use Rattle.fort_tree.specs.declared.choice.Directives.{Directives}
use Rattle.fort_tree.specs.declared.choice.Directives.TheVariants.{Plain}
use Rattle.fort_tree.specs.declared.choice.Target.{Target}
use Rattle.fort_tree.specs.declared.choice.Target.TheVariants.{Cpu}
use Rattle.claw_words.specs.declared.reading.Command.{Command}
use Rattle.claw_words.specs.declared.reading.Command.TheVariants.{Translate, Check}
use Rattle.claw_words.specs.declared.reading.Request.{Request}
use Rattle.claw_words.specs.Command.{claw_command, texts_of}

-- what is wanted, and of which files
pub record Wanted : Type 0 where
  pub command : Command
  pub files : List Text

-- the processor of that name: one line for each
abbrev pub named_target : Text → Option Target
named_target name =
    if bytes_eq name (codes "cpu") then Some Cpu else
    None

-- the processor by the values of its option: `cpu` where it is not given, and none where it is given twice
abbrev pub target_of : List Text → Option Target
target_of [] = Some Cpu
target_of (value ∷ []) = named_target value
target_of (value ∷ other ∷ values) = None

-- the marks of that name: one line for each
abbrev pub named_directives : Text → Option Directives
named_directives name =
    if bytes_eq name (codes "none") then Some Plain else
    None

-- the marks by the values of their option, in the same way
abbrev pub directives_of : List Text → Option Directives
directives_of [] = Some Plain
directives_of (value ∷ []) = named_directives value
directives_of (value ∷ other ∷ values) = None

abbrev pub translate_with : Option Target → Option Directives → Option Command
translate_with (Some target) (Some directives) = Some (Translate target directives)
translate_with target directives = None

abbrev pub is_given : List Text → Bool
is_given [] = false
is_given (value ∷ values) = true

-- `check` has no options
abbrev pub check_with : List Text → List Text → Option Command
check_with targets directives = if is_given targets || is_given directives then None else Some Check

-- the command of that name, with the values of its options
abbrev pub named_command : Text → List Text → List Text → Option Command
named_command name targets directives =
    if bytes_eq name (codes "translate") then translate_with (target_of targets) (directives_of directives) else
    if bytes_eq name (codes "check") then check_with targets directives else
    None

-- the command is the first of the positional words
abbrev pub command_of : List Text → List Text → List Text → Option Command
command_of [] targets directives = None
command_of (name ∷ files) targets directives = named_command name targets directives

-- the others name the files, at least one
abbrev pub files_of : List Text → Option (List Text)
files_of (command ∷ file ∷ files) = Some (file ∷ files)
files_of words = None

abbrev pub wanted_with : Option Command → Option (List Text) → Option Wanted
wanted_with (Some command) (Some files) = Some (record { command = command; files = files })
wanted_with command files = None

-- the values of an argument
abbrev pub values_of : Text → List Row → List Text
values_of id rows = unwrap_or (all_of id rows) []

-- the request by the words taken apart
abbrev pub wanted_in : List Row → Option Wanted
wanted_in rows =
    wanted_with (command_of (values_of (codes "words") rows) (values_of (codes "target") rows) (values_of (codes "directive") rows)) (files_of (values_of (codes "words") rows))

-- The kinds are those of clap's first fault.
abbrev pub if_none_failed : Kinds → Option Wanted → Option Wanted
if_none_failed [] wanted = wanted
if_none_failed (kind ∷ kinds) wanted = None

-- The request that the words are, if they are one. The first word is passed over.
abbrev pub request_of : List Text → Option Wanted
request_of words = if_none_failed (fault_of claw_command words) (wanted_in (matches_of claw_command words))

-- what a request says
abbrev pub wanted_of : Request → Wanted
wanted_of request = record { command = request.command; files = texts_of request.files.items }
