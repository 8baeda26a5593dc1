use Rattle.std.proofs.Common.{◌≡◌, ◌∙◌, ◌++◌, ◌∷◌, [], ap, suc, take, drop, length, arith, rules, inr, slice_index_or}
use Rattle.std.specs.Prelude.{not}
use Rattle.claw_words.specs.Command.{texts_of}
use Rattle.claw_top.specs.Outcome.{bytes_of}
use Rattle.claw_top.proofs.Loads.{names_split, names_next, names_few, names_left, pushed, bytes_next, room_after, reaches_next, too_much, loaded_whole, failed_since, too_long_since, read_after}
use Rattle.claw_top.proofs.loading.load_all.Goals as goal

pub returns-in-Err-Failed-clause-refused : goal.returns-in-Err-Failed-clause-refused
returns-in-Err-Failed-clause-refused g c = λ command.
    let i = c.loop-name.name-index in (
      bytes_of c.loop-name.sources.items,
      reaches_next _ _ _ (texts_of c.args.names.now) (texts_of (take i c.args.names.now)) _ (texts_of (drop (suc i) c.args.names.now)) _
          c.loop-name.invariant.read (names_few c.args.names.now c.requires) (names_split c.args.names.now i _ c.loop-name-test.true),
      failed_since _ _ _ _ _ _ c.loop-name.invariant.same_files c.loop-name.invariant.faults_later (c.load.ensures.failed (first_of (cc, search rules))),
    )

pub returns-in-Err-TooLong-clause-refused : goal.returns-in-Err-TooLong-clause-refused
returns-in-Err-TooLong-clause-refused g c = λ command.
    let i = c.loop-name.name-index in
    inr (
      (slice_index_or c.args.names.now i (record { ref_ptr = (0, 0); now = [] })).now,
      bytes_of c.loop-name.sources.items,
      reaches_next _ _ _ (texts_of c.args.names.now) (texts_of (take i c.args.names.now)) _ (texts_of (drop (suc i) c.args.names.now)) _
          c.loop-name.invariant.read (names_few c.args.names.now c.requires) (names_split c.args.names.now i _ c.loop-name-test.true),
      too_much _ _ _ _ c.loop-name.room (texts_of (take i c.args.names.now)) _ _ c.loop-name.invariant.read c.loop-name.invariant.room
          (too_long_since _ _ _ _ _ _ c.loop-name.invariant.same_files (c.load.ensures.too_long (first_of (cc, search rules)))),
    )

pub loop-name-preserved : goal.loop-name-preserved
loop-name-preserved g c =
    let i = c.loop-name.name-index in
    let source = c.load.new.into in
    let count : c.len.result ≡ length source.items = first_of (omega (arith, source.ok, c.len.ensures), search rules) in
    let whole = loaded_whole _ _ _ _ _ _ _ _ c.new-source.ensures.items c.loop-name.invariant.same_files c.in-Ok.ensures.loaded in
    let all : bytes_of c.push.new.self.items ≡ bytes_of c.loop-name.sources.items ++ source.items ∷ []
    = bytes_next c.loop-name.sources.items _ source (pushed _ _ _ source c.push.ensures.items (c.is_err.ensures.negation ∙ ap not c.if-is_err.false)) in
    record {
      room = room_after c.loop-name.room c.len.result (bytes_of c.loop-name.sources.items) _ source.items c.loop-name.invariant.room whole.fits count all;
      same_files = c.load.ensures.same_files ∙ c.loop-name.invariant.same_files;
      faults_later = omega (arith, c.load.ensures.faults_later, c.loop-name.invariant.faults_later);
      read_later = omega (arith, c.load.ensures.read_later, c.loop-name.invariant.read_later);
      read = read_after _ _ _ _ c.loop-name.room (texts_of (take i c.args.names.now)) _ _ (bytes_of c.loop-name.sources.items) _ source.items c.loop-name.invariant.read
          (names_left c.args.names.now i c.loop-name-test.true c.requires) c.loop-name.invariant.room whole
          (names_next c.args.names.now i _ c.loop-name-test.true) all;
    }
