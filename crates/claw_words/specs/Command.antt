-- The command line in the terms of clap.
use Rattle.std.specs.Prelude.{List, map, codes, Option, Some, option_map}
use denote.Ref.{Bor}
use Rattle.clap.specs.Lexer.{usize_max}
use Rattle.clap.specs.Words.{App, Rule, Text, new_app, new_rule, with_rule}
use Rattle.clap.specs.declared.builder.ArgAction.TheVariants.{Append}

-- the bytes of words
abbrev pub texts_of : List (Bor Text) → List Text
texts_of words = map (λ word. word.now) words

-- the values of an argument that has any
abbrev pub values_seen : Option (Bor (List (Bor Text))) → Option (List Text)
values_seen values = option_map (λ vs. texts_of vs.now) values

-- the positional words: any number of them
abbrev pub words_rule : Rule
words_rule = record (new_rule (codes "words")) { action = Some Append; range = Some (record { start_inclusive = 1; end_inclusive = usize_max }) }

-- `--target` and `--directive`, each with a value
abbrev pub target_rule : Rule
target_rule = record (new_rule (codes "target")) { long = Some (codes "target"); action = Some Append }

abbrev pub directive_rule : Rule
directive_rule = record (new_rule (codes "directive")) { long = Some (codes "directive"); action = Some Append }

abbrev pub claw_command : App
claw_command = with_rule (with_rule (with_rule (new_app (codes "claw")) words_rule) target_rule) directive_rule
