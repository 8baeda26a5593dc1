use Rattle.std.proofs.Common.{◌≡◌, ◌∙◌, ◌<◌, refl, sym, ap, subst, List, ℕ, length, Some, Bor, inl, inr}
use Rattle.std.proofs.lemmas.List.{length-map}
use Rattle.claw_words.specs.Command.{texts_of}
use Rattle.claw_words.specs.Request.{Wanted, request_of as wanted_by, wanted_of}
use Rattle.claw_top.specs.Answer.{no_memory}
use Rattle.claw_top.specs.Limits.{most_files}
use Rattle.claw_top.specs.Outcome.{answer_of}
use Rattle.claw_top.specs.declared.end.End.TheVariants.{NoMemory}
use Rattle.claw_top.proofs.Ends.{IfSome-at, IfSome-all, IfNone-of, IsSomeAnd-at, listed_by, may_answer, headline_of, told_of, done_of, fault_of, unreadable_of, too_long_of, no_usage}
use Rattle.claw_top.proofs.top.claw.Goals as goal

-- The request, with its files as those that are decided on.
asked : (words : List (List ℕ)) (wanted : Wanted) (files : List (Bor (List ℕ))) → wanted_by words ≡ Some wanted → texts_of files ≡ wanted.files
    → Some (record { command = wanted.command; files = texts_of files }) ≡ wanted_by words
asked words wanted files is same = ap (λ (names : List (List ℕ)). Some (record { command = wanted.command; files = names })) same ∙ sym is

many : (files : List (Bor (List ℕ))) → most_files < length (texts_of files) → most_files < length files
many files more = subst (λ (n : ℕ). most_files < n) (length-map files (λ (word : Bor (List ℕ)). word.now)) more

pub finish-requires : goal.finish-requires
finish-requires g c = listed_by _ _ _ _ _ _ _ c.decide-end.result c.decide-end.ensures.cause

pub returns-in-Ok-clause-usage_only : goal.returns-in-Ok-clause-usage_only
returns-in-Ok-clause-usage_only g c = λ two. absurd
    (no_usage _ g.O.Sink.taken g.O.Sink.faults _ _ g.E.Sink.taken g.E.Sink.faults _ _ _ _ _ _ _ _ c.decide-end.result _ c.decide-end.ensures.cause c.finish.ensures two)

pub returns-in-Ok-clause-too_many : goal.returns-in-Ok-clause-too_many
returns-in-Ok-clause-too_many g c = IfSome-at (wanted_by (texts_of c.args.words.now)) (record { command = c.in-Ok.request.command; files = texts_of c.as_slice.result.now }) _ (asked (texts_of c.args.words.now) (wanted_of c.in-Ok.request) c.as_slice.result.now c.in-Ok.ensures.ok (ap texts_of c.as_slice.ensures.value))
    (λ more. c.decide-end.ensures.untouched (many c.as_slice.result.now more))

pub returns-in-Ok-clause-headline : goal.returns-in-Ok-clause-headline
returns-in-Ok-clause-headline g c = IfSome-at (wanted_by (texts_of c.args.words.now)) (record { command = c.in-Ok.request.command; files = texts_of c.as_slice.result.now }) _ (asked (texts_of c.args.words.now) (wanted_of c.in-Ok.request) c.as_slice.result.now c.in-Ok.ensures.ok (ap texts_of c.as_slice.ensures.value))
    (headline_of _ g.O.Sink.taken g.O.Sink.faults _ _ g.E.Sink.taken g.E.Sink.faults _ _ _ _ _ _ _ _ c.decide-end.result _ c.decide-end.ensures.cause c.finish.ensures)

pub returns-in-Ok-clause-told : goal.returns-in-Ok-clause-told
returns-in-Ok-clause-told g c = IfSome-at (wanted_by (texts_of c.args.words.now)) (record { command = c.in-Ok.request.command; files = texts_of c.as_slice.result.now }) _ (asked (texts_of c.args.words.now) (wanted_of c.in-Ok.request) c.as_slice.result.now c.in-Ok.ensures.ok (ap texts_of c.as_slice.ensures.value))
    (told_of _ g.O.Sink.taken g.O.Sink.faults _ _ g.E.Sink.taken g.E.Sink.faults _ _ _ _ _ _ _ _ c.decide-end.result _ c.decide-end.ensures.cause c.finish.ensures)

pub returns-in-Ok-clause-ended : goal.returns-in-Ok-clause-ended
returns-in-Ok-clause-ended g c = IfSome-at (wanted_by (texts_of c.args.words.now)) (record { command = c.in-Ok.request.command; files = texts_of c.as_slice.result.now }) _ (asked (texts_of c.args.words.now) (wanted_of c.in-Ok.request) c.as_slice.result.now c.in-Ok.ensures.ok (ap texts_of c.as_slice.ensures.value))
    (answer_of c.decide-end.result, may_answer _ _ _ _ _ _ _ c.decide-end.result c.decide-end.ensures.cause, c.finish.ensures)

pub returns-in-Ok-clause-done : goal.returns-in-Ok-clause-done
returns-in-Ok-clause-done g c = λ is. IsSomeAnd-at (wanted_by (texts_of c.args.words.now)) (record { command = c.in-Ok.request.command; files = texts_of c.as_slice.result.now }) _ (asked (texts_of c.args.words.now) (wanted_of c.in-Ok.request) c.as_slice.result.now c.in-Ok.ensures.ok (ap texts_of c.as_slice.ensures.value))
    (done_of _ g.O.Sink.taken g.O.Sink.faults _ _ g.E.Sink.taken g.E.Sink.faults _ _ _ _ _ _ _ _ c.decide-end.result _ c.decide-end.ensures.cause c.finish.ensures is)

pub returns-in-Ok-clause-fault : goal.returns-in-Ok-clause-fault
returns-in-Ok-clause-fault g c = λ is. IsSomeAnd-at (wanted_by (texts_of c.args.words.now)) (record { command = c.in-Ok.request.command; files = texts_of c.as_slice.result.now }) _ (asked (texts_of c.args.words.now) (wanted_of c.in-Ok.request) c.as_slice.result.now c.in-Ok.ensures.ok (ap texts_of c.as_slice.ensures.value))
    (fault_of _ g.O.Sink.taken g.O.Sink.faults _ _ g.E.Sink.taken g.E.Sink.faults _ _ _ _ _ _ _ _ c.decide-end.result _ c.decide-end.ensures.cause c.finish.ensures is)

pub returns-in-Ok-clause-unreadable : goal.returns-in-Ok-clause-unreadable
returns-in-Ok-clause-unreadable g c = λ is. IsSomeAnd-at (wanted_by (texts_of c.args.words.now)) (record { command = c.in-Ok.request.command; files = texts_of c.as_slice.result.now }) _ (asked (texts_of c.args.words.now) (wanted_of c.in-Ok.request) c.as_slice.result.now c.in-Ok.ensures.ok (ap texts_of c.as_slice.ensures.value))
    (unreadable_of _ g.O.Sink.taken g.O.Sink.faults _ _ g.E.Sink.taken g.E.Sink.faults _ _ _ _ _ _ _ _ c.decide-end.result _ c.decide-end.ensures.cause c.finish.ensures is)

pub returns-in-Ok-clause-too_long : goal.returns-in-Ok-clause-too_long
returns-in-Ok-clause-too_long g c = λ is. IsSomeAnd-at (wanted_by (texts_of c.args.words.now)) (record { command = c.in-Ok.request.command; files = texts_of c.as_slice.result.now }) _ (asked (texts_of c.args.words.now) (wanted_of c.in-Ok.request) c.as_slice.result.now c.in-Ok.ensures.ok (ap texts_of c.as_slice.ensures.value))
    (too_long_of _ g.O.Sink.taken g.O.Sink.faults _ _ g.E.Sink.taken g.E.Sink.faults _ _ _ _ _ _ _ _ c.decide-end.result _ c.decide-end.ensures.cause c.finish.ensures is)

pub returns-in-Err-NoMemory-clause-usage : goal.returns-in-Err-NoMemory-clause-usage
returns-in-Err-NoMemory-clause-usage g c =
    let put = c.finish-in-Err-NoMemory.ensures.1 in
    IfNone-of (wanted_by (texts_of c.args.words.now)) _ (refl, c.finish-in-Err-NoMemory.ensures.0, inr put)

pub returns-in-Err-NoMemory-clause-too_many : goal.returns-in-Err-NoMemory-clause-too_many
returns-in-Err-NoMemory-clause-too_many g c = IfSome-all (wanted_by (texts_of c.args.words.now)) _ (λ names more. refl)

pub returns-in-Err-NoMemory-clause-headline : goal.returns-in-Err-NoMemory-clause-headline
returns-in-Err-NoMemory-clause-headline g c = IfSome-all (wanted_by (texts_of c.args.words.now)) _ (λ wanted.
    headline_of wanted.command g.O.Sink.taken g.O.Sink.faults _ _ g.E.Sink.taken g.E.Sink.faults _ _ (g.F.Shelf.files c.args.shelf.now)
    (g.F.Shelf.faults c.args.shelf.now) (g.F.Shelf.faults c.args.shelf.now) 0 0 wanted.files NoMemory _ tt c.finish-in-Err-NoMemory.ensures)

pub returns-in-Err-NoMemory-clause-told : goal.returns-in-Err-NoMemory-clause-told
returns-in-Err-NoMemory-clause-told g c = IfSome-all (wanted_by (texts_of c.args.words.now)) _ (λ wanted.
    told_of wanted.command g.O.Sink.taken g.O.Sink.faults _ _ g.E.Sink.taken g.E.Sink.faults _ _ (g.F.Shelf.files c.args.shelf.now)
    (g.F.Shelf.faults c.args.shelf.now) (g.F.Shelf.faults c.args.shelf.now) 0 0 wanted.files NoMemory _ tt c.finish-in-Err-NoMemory.ensures)

pub returns-in-Err-NoMemory-clause-ended : goal.returns-in-Err-NoMemory-clause-ended
returns-in-Err-NoMemory-clause-ended g c = IfSome-all (wanted_by (texts_of c.args.words.now)) _ (λ names. (no_memory, inl refl, c.finish-in-Err-NoMemory.ensures))
