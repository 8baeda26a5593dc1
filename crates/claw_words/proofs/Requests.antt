-- A request from its parts.
use Rattle.std.proofs.Common.{◌≡◌, ◌∙◌, ap, sym, List, [], Option, codes, unwrap_or}
use Rattle.clap.specs.Words.{Row, Text, Kinds, all_of, matches_of, fault_of}
use Rattle.claw_words.specs.declared.reading.Command.{Command}
use Rattle.claw_words.specs.Command.{claw_command}
use Rattle.claw_words.specs.Request.{files_of, command_of, values_of, wanted_with, wanted_in, if_none_failed, request_of}

pub request_from : (words : List Text) (rows : List Row) (file_values target_values directive_values : Option (List Text)) (command : Option Command)
    (files : Option (List Text))
    → fault_of claw_command words ≡ [] → rows ≡ matches_of claw_command words
    → file_values ≡ all_of (codes "words") rows → target_values ≡ all_of (codes "target") rows → directive_values ≡ all_of (codes "directive") rows
    → command ≡ command_of (unwrap_or file_values []) (unwrap_or target_values []) (unwrap_or directive_values [])
    → files ≡ files_of (unwrap_or file_values [])
    → request_of words ≡ wanted_with command files
request_from words rows file_values target_values directive_values command files no_fault rows_are file_values_are target_values_are directive_values_are command_is files_are =
    let files_in : files_of (values_of (codes "words") rows) ≡ files
    = sym (files_are ∙ ap (λ (v : Option (List Text)). files_of (unwrap_or v [])) file_values_are) in
    let command_in : command_of (values_of (codes "words") rows) (values_of (codes "target") rows) (values_of (codes "directive") rows) ≡ command
    = sym (command_is ∙ ap (λ (v : Option (List Text)). command_of (unwrap_or v []) (unwrap_or target_values []) (unwrap_or directive_values [])) file_values_are
    ∙ ap (λ (v : Option (List Text)). command_of (values_of (codes "words") rows) (unwrap_or v []) (unwrap_or directive_values [])) target_values_are
    ∙ ap (λ (v : Option (List Text)). command_of (values_of (codes "words") rows) (values_of (codes "target") rows) (unwrap_or v [])) directive_values_are) in
    ap (λ (kinds : Kinds). if_none_failed kinds (wanted_in (matches_of claw_command words))) no_fault
    ∙ ap wanted_in (sym rows_are)
    ∙ ap (λ (c : Option Command). wanted_with c (files_of (values_of (codes "words") rows))) command_in
    ∙ ap (λ (f : Option (List Text)). wanted_with command f) files_in
