use Rattle.std.proofs.Common.{◌∙◌, ap, sym, refl, List, [], Some, None, Bor, unwrap_or}
use Rattle.clap.specs.Words.{Text, rows_of, found_of}
use Rattle.claw_words.specs.Command.{texts_of, values_seen}
use Rattle.claw_words.specs.Request.{files_of}
use Rattle.claw_words.proofs.Requests.{request_from}
use Rattle.claw_words.proofs.reading.read_words.Goals as goal

pub returns-in-Ok-clause-ok : goal.returns-in-Ok-clause-ok
returns-in-Ok-clause-ok c =
    request_from (texts_of c.args.words.now) (rows_of (found_of c.in_ok-matches.matches))
    (values_seen c.values-positional.result) (values_seen c.values-targets.result) (values_seen c.values-directives.result)
    (Some c.in-Some.command) (values_seen (Some c.in-Some-files_in.files))
    c.in_ok-matches.ensures.no_fault c.in_ok-matches.ensures.rows c.values-positional.ensures c.values-targets.ensures c.values-directives.ensures
    c.in-Some.ensures c.in-Some-files_in.ensures
    ∙ ap (λ (files : List (Bor Text)). Some (record { command = c.in-Some.command; files = texts_of files }))
    (sym c.in-Ok.ensures.items)

pub returns-in_default-clause-no_request : goal.returns-in_default-clause-no_request
returns-in_default-clause-no_request c = λ _.
    request_from (texts_of c.args.words.now) (rows_of (found_of c.in_ok-matches.matches))
    (values_seen c.values-positional.result) (values_seen c.values-targets.result) (values_seen c.values-directives.result)
    None (files_of (unwrap_or (values_seen c.values-positional.result) []))
    c.in_ok-matches.ensures.no_fault c.in_ok-matches.ensures.rows c.values-positional.ensures c.values-targets.ensures c.values-directives.ensures
    c.in_default.ensures refl
