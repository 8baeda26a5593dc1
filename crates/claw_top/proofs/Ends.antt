-- How a run ends, from what was decided and what was put.
use Rattle.std.proofs.Common.{◌≡◌, ◌≢◌, ◌∙◌, ℕ, ◌<◌, ◌⊎◌, List, [], length, Bool, true, false, refl, ap, sym, subst, arith, Ok, Err, OnOk, OnErr, Some, None, inl, inr, IfSome, IfNone, IsSomeAnd, slice_get}
use Rattle.std.specs.Prelude.{MatchBool, ◌==◌, unwrap_or}
use Rattle.std.specs.Option.{option_map}
use Rattle.std.specs.declared.option.Option.{Option}
use Rattle.std.specs.declared.result.Result.{Result}
use Rattle.std.proofs.lemmas.List.{length-map}
use Rattle.std.proofs.lemmas.Option.{slice_get-map}
use Rattle.outside.specs.Counts.{Rose}
use Rattle.outside.specs.Files.{Files, Lacks}
use Rattle.outside.specs.Taken.{Took, TookPrefix}
use Rattle.fort_tree.specs.declared.fault.Fault.{Fault as TreeFault}
use Rattle.fort_tree.specs.Report.{report_of as line_of}
use Rattle.fort_spell.specs.Report.{name_at}
use Rattle.fort_spell.specs.Units.{layout_of}
use Rattle.claw_words.specs.declared.reading.Command.{Command}
use Rattle.claw_top.specs.Limits.{most_files}
use Rattle.claw_top.specs.Compile.{Compiles}
use Rattle.claw_top.specs.Answer.{Answer, cannot_read, too_long, report_of}
use Rattle.claw_top.specs.Outcome.{IsListed, answer_of, listed_of}
use Rattle.claw_top.specs.Cause.{HasCause, WereRead, Reaches, IsTooMuch}
use Rattle.claw_top.specs.Ending.{Puts, PutsWhere, Stood, AreThere, Headline, MayTell, MayAnswer}
use Rattle.claw_top.specs.declared.end.End.{End}
use Rattle.claw_top.specs.declared.end.End.TheVariants.{Program, Counts, Fault, Usage, CannotRead, TooLong, NoMemory}
use Rattle.claw_top.proofs.Loads.{same_sources, not_too_much, not_lacking}

pub IfSome-at : {T : Type 0} → (o : Option T) (x : T) (P : T → Type 0) → Some x ≡ o → P x → IfSome o P
IfSome-at {T} o x P is p = subst (λ (o : Option T). IfSome o P) is p

pub IsSomeAnd-at : {T : Type 0} → (o : Option T) (x : T) (P : T → Type 0) → Some x ≡ o → P x → IsSomeAnd o P
IsSomeAnd-at {T} o x P is p = subst (λ (o : Option T). IsSomeAnd o P) is p

pub IfSome-all : {T : Type 0} → (o : Option T) (P : T → Type 0) → ((x : T) → P x) → IfSome o P
IfSome-all None P p = tt
IfSome-all (Some x) P p = p x

pub IfNone-of : {T : Type 0} → (o : Option T) (P : Type 0) → P → IfNone o P
IfNone-of None P p = p
IfNone-of (Some x) P p = tt

-- A put that ends with the status of its answer or with 4.
pub puts_of : {T E : Type 0} → (put : Result T E) (status code : ℕ) (text : List ℕ) (taken_before taken_now : Option (List ℕ)) (before now : ℕ)
    → OnOk put (code ≡ status) → OnErr put (code ≡ 4) → OnOk put (Took taken_before taken_now text) → OnErr put (TookPrefix taken_before taken_now text) → OnErr put (Rose before now)
    → Puts (status, text) code taken_before taken_now before now
puts_of (Ok x) status code text taken_before taken_now before now ok failed took part rose = inl (ok, took)
puts_of (Err e) status code text taken_before taken_now before now ok failed took part rose = inr (failed, rose, part)

-- THE REPORT

only_name : (name : Option (List ℕ)) → option_map (λ file. file.0) (option_map (λ (n : List ℕ). let file : List ℕ × List ℕ = (n, []) in file) name) ≡ name
only_name None = refl
only_name (Some name) = refl

name_listed : (names : List (List ℕ)) (index : ℕ) → name_at (listed_of names) index ≡ unwrap_or (slice_get names index) []
name_listed names index =
    ap (λ (o : Option (List ℕ × List ℕ)). unwrap_or (option_map (λ file. file.0) o) []) (slice_get-map (λ (n : List ℕ). let file : List ℕ × List ℕ = (n, []) in file) names index)
    ∙ ap (λ (o : Option (List ℕ)). unwrap_or o []) (only_name (slice_get names index))

-- The report over the listed names is one over the names.
pub report_listed : (fault : TreeFault) (listed : Files) (names : List (List ℕ)) → listed ≡ listed_of names
    → line_of fault (name_at listed fault.place.file) ≡ report_of fault names
report_listed fault listed names is =
    ap (λ (files : Files). line_of fault (name_at files fault.place.file)) is ∙ ap (line_of fault) (name_listed names fault.place.file)

module _ (command : Command) where
  -- THE CAUSES

  length-listed : (names : List (List ℕ)) → length (listed_of names) ≡ length names
  length-listed names = length-map names (λ (n : List ℕ). let file : List ℕ × List ℕ = (n, []) in file)

  -- The file of a fault is listed.
  pub listed_by : (files : Option Files) (before now read_before read_now : ℕ) (names : List (List ℕ)) (end : End)
      → HasCause command files before now read_before read_now names end → IsListed end
  listed_by files before now read_before read_now names (Program program) cause = tt
  listed_by files before now read_before read_now names (Counts text) cause = tt
  listed_by files before now read_before read_now names (Fault fault listed) (sources, read, compiles, inside, is) =
      subst (λ (l : ℕ). fault.place.file < l) (sym (ap length is ∙ length-listed names)) inside
  listed_by files before now read_before read_now names Usage cause = tt
  listed_by files before now read_before read_now names (CannotRead name) cause = tt
  listed_by files before now read_before read_now names TooLong cause = tt
  listed_by files before now read_before read_now names NoMemory cause = tt

  -- An end with its cause has an answer with its cause.
  pub may_answer : (files : Option Files) (before now read_before read_now : ℕ) (names : List (List ℕ)) (end : End)
      → HasCause command files before now read_before read_now names end → MayAnswer command files before now read_before read_now names (answer_of end)
  may_answer files before now read_before read_now names (Program program) (sources, read, compiles) =
      inr (inr (inr (inr (sources, read, record { outcome = Ok (layout_of program); compiles = compiles; is = refl }))))
  may_answer files before now read_before read_now names (Counts text) (sources, read, compiles) =
      inr (inr (inr (inr (sources, read, record { outcome = Ok (text.items); compiles = compiles; is = refl }))))
  may_answer files before now read_before read_now names (Fault fault listed) (sources, read, compiles, inside, is) =
      inr (inr (inr (inr (sources, read, record { outcome = Err fault; compiles = compiles; is = ap (λ (text : List ℕ). (1, text)) (report_listed fault listed names is) }))))
  may_answer files before now read_before read_now names Usage cause = absurd cause
  may_answer files before now read_before read_now names (CannotRead file) (sources, reaches, why) = inr (inr (inl (file.now, sources, reaches, why, refl)))
  may_answer files before now read_before read_now names TooLong (inl many) = inr (inl (many, refl))
  may_answer files before now read_before read_now names TooLong (inr (name, sources, reaches, much)) = inr (inr (inr (inl (name, sources, reaches, much, refl))))
  may_answer files before now read_before read_now names NoMemory cause = inl refl

  there : (files : Files) (read_before read_now : ℕ) (names sources : List (List ℕ)) → WereRead (Some files) read_before read_now names sources → AreThere files names sources
  there files read_before read_now names sources read = record { few = read.few; small = read.small; told = read.told }

  -- Over told files the answer is one for them, unless memory was refused or the shelf failed.
  pub may_tell : (files : Files) (before now read_before read_now : ℕ) (names : List (List ℕ)) (end : End)
      → HasCause command (Some files) before now read_before read_now names end → MayTell command files before now names (answer_of end)
  may_tell files before now read_before read_now names (Program program) (sources, read, compiles) =
      inr (inr (inr (inr (inr (sources, there files read_before read_now names sources read, record { outcome = Ok (layout_of program); compiles = compiles; is = refl })))))
  may_tell files before now read_before read_now names (Counts text) (sources, read, compiles) =
      inr (inr (inr (inr (inr (sources, there files read_before read_now names sources read, record { outcome = Ok (text.items); compiles = compiles; is = refl })))))
  may_tell files before now read_before read_now names (Fault fault listed) (sources, read, compiles, inside, is) =
      inr (inr (inr (inr (inr (
        sources,
        there files read_before read_now names sources read,
        record { outcome = Err fault; compiles = compiles; is = ap (λ (text : List ℕ). (1, text)) (report_listed fault listed names is) },
      )))))
  may_tell files before now read_before read_now names Usage cause = absurd cause
  may_tell files before now read_before read_now names (CannotRead file) (sources, reaches, inl rose) = inr (inl (file.now, sources, reaches, rose, refl))
  may_tell files before now read_before read_now names (CannotRead file) (sources, reaches, inr lacks) = inr (inr (inr (inl (file.now, sources, reaches, lacks, refl))))
  may_tell files before now read_before read_now names TooLong (inl many) = inr (inr (inl (many, refl)))
  may_tell files before now read_before read_now names TooLong (inr (name, sources, reaches, much)) = inr (inr (inr (inr (inl (name, sources, reaches, much, refl)))))
  may_tell files before now read_before read_now names NoMemory cause = inl refl

  -- WHAT EACH STATUS SAYS

  either : (b : Bool) (P Q R : Type 0) → MatchBool b P Q → (P → R) → (Q → R) → R
  either true P Q R fact one two = one fact
  either false P Q R fact one two = two fact

  put_status : (answer : Answer) (status : ℕ) (taken_before taken_now : Option (List ℕ)) (before now : ℕ) → Puts answer status taken_before taken_now before now
      → (status ≡ answer.0) ⊎ (status ≡ 4)
  put_status answer status taken_before taken_now before now (inl whole) = inl whole.0
  put_status answer status taken_before taken_now before now (inr failed) = inr failed.0

  refuse : (other status this : ℕ) → (status ≡ other) ⊎ (status ≡ 4) → status ≡ this → (other ≡ this → ⊥) → (this ≡ 4 → ⊥) → ⊥
  refuse other status this (inl whole) is not_other not_four = not_other (sym whole ∙ is)
  refuse other status this (inr failed) is not_other not_four = not_four (sym is ∙ failed)

  -- An answer of another status was not put with this one.
  not_this : {O E : Type 0} (out_taken : O → Option (List ℕ)) (out_faults : O → ℕ) (out_before out_now : O)
      (err_taken : E → Option (List ℕ)) (err_faults : E → ℕ) (err_before err_now : E) (answer : Answer) (status this : ℕ)
      → PutsWhere out_taken out_faults out_before out_now err_taken err_faults err_before err_now answer status → status ≡ this → (answer.0 ≡ this → ⊥) → (this ≡ 4 → ⊥) → ⊥
  not_this out_taken out_faults out_before out_now err_taken err_faults err_before err_now answer status this put is not_other not_four =
      refuse answer.0 status this
      (either (answer.0 == 0) _ _ _ put (λ p. put_status answer status _ _ _ _ p.1) (λ p. put_status answer status _ _ _ _ p.1)) is not_other not_four

  -- An end with its cause has not the status of no request.
  pub no_usage : {O E : Type 0} (out_taken : O → Option (List ℕ)) (out_faults : O → ℕ) (out_before out_now : O)
      (err_taken : E → Option (List ℕ)) (err_faults : E → ℕ) (err_before err_now : E)
      (files : Option Files) (before now read_before read_now : ℕ) (names : List (List ℕ)) (end : End) (status : ℕ)
      → HasCause command files before now read_before read_now names end
      → PutsWhere out_taken out_faults out_before out_now err_taken err_faults err_before err_now (answer_of end) status → status ≡ 2 → ⊥
  no_usage out_taken out_faults out_before out_now err_taken err_faults err_before err_now files before now read_before read_now names Usage status cause put is = cause
  no_usage out_taken out_faults out_before out_now err_taken err_faults err_before err_now files before now read_before read_now names end status cause put is =
      not_this out_taken out_faults out_before out_now err_taken err_faults err_before err_now (answer_of end) status 2 put is (λ e. omega (arith, e)) (λ e. omega (arith, e))

  -- What a status of 0 says.
  pub done_of : {O E : Type 0} (out_taken : O → Option (List ℕ)) (out_faults : O → ℕ) (out_before out_now : O)
      (err_taken : E → Option (List ℕ)) (err_faults : E → ℕ) (err_before err_now : E)
      (files : Option Files) (before now read_before read_now : ℕ) (names : List (List ℕ)) (end : End) (status : ℕ)
      → HasCause command files before now read_before read_now names end
      → PutsWhere out_taken out_faults out_before out_now err_taken err_faults err_before err_now (answer_of end) status → status ≡ 0
      → (sources : List (List ℕ)) × (text : List ℕ) × WereRead files read_before read_now names sources
      × Compiles command sources (Ok text) × Took (out_taken out_before) (out_taken out_now) text × (err_now ≡ err_before)
  done_of out_taken out_faults out_before out_now err_taken err_faults err_before err_now files before now read_before read_now names (Program program) status (sources, read, compiles) (same, inl put) is =
      (sources, layout_of program, read, compiles, put.1, same)
  done_of out_taken out_faults out_before out_now err_taken err_faults err_before err_now files before now read_before read_now names (Counts text) status (sources, read, compiles) (same, inl put) is =
      (sources, text.items, read, compiles, put.1, same)
  done_of out_taken out_faults out_before out_now err_taken err_faults err_before err_now files before now read_before read_now names (Program program) status cause (same, inr put) is =
      absurd (omega (arith, put.0, is))
  done_of out_taken out_faults out_before out_now err_taken err_faults err_before err_now files before now read_before read_now names (Counts text) status cause (same, inr put) is =
      absurd (omega (arith, put.0, is))
  done_of out_taken out_faults out_before out_now err_taken err_faults err_before err_now files before now read_before read_now names end status cause put is =
      absurd (not_this out_taken out_faults out_before out_now err_taken err_faults err_before err_now (answer_of end) status 0 put is (λ e. omega (arith, e)) (λ e. omega (arith, e)))

  -- What a status of 1 says.
  pub fault_of : {O E : Type 0} (out_taken : O → Option (List ℕ)) (out_faults : O → ℕ) (out_before out_now : O)
      (err_taken : E → Option (List ℕ)) (err_faults : E → ℕ) (err_before err_now : E)
      (files : Option Files) (before now read_before read_now : ℕ) (names : List (List ℕ)) (end : End) (status : ℕ)
      → HasCause command files before now read_before read_now names end
      → PutsWhere out_taken out_faults out_before out_now err_taken err_faults err_before err_now (answer_of end) status → status ≡ 1
      → (sources : List (List ℕ)) × (fault : TreeFault) × WereRead files read_before read_now names sources
      × Compiles command sources (Err fault) × (fault.place.file < length names) × Took (err_taken err_before) (err_taken err_now) (report_of fault names)
  fault_of out_taken out_faults out_before out_now err_taken err_faults err_before err_now files before now read_before read_now names (Fault fault listed) status (sources, read, compiles, inside, named) (same, inl put) is =
      (sources, fault, read, compiles, inside, subst (λ (text : List ℕ). Took (err_taken err_before) (err_taken err_now) text) (report_listed fault listed names named) put.1)
  fault_of out_taken out_faults out_before out_now err_taken err_faults err_before err_now files before now read_before read_now names (Fault fault listed) status cause (same, inr put) is =
      absurd (omega (arith, put.0, is))
  fault_of out_taken out_faults out_before out_now err_taken err_faults err_before err_now files before now read_before read_now names end status cause put is =
      absurd (not_this out_taken out_faults out_before out_now err_taken err_faults err_before err_now (answer_of end) status 1 put is (λ e. omega (arith, e)) (λ e. omega (arith, e)))

  -- What a status of 3 says.
  pub unreadable_of : {O E : Type 0} (out_taken : O → Option (List ℕ)) (out_faults : O → ℕ) (out_before out_now : O)
      (err_taken : E → Option (List ℕ)) (err_faults : E → ℕ) (err_before err_now : E)
      (files : Option Files) (before now read_before read_now : ℕ) (names : List (List ℕ)) (end : End) (status : ℕ)
      → HasCause command files before now read_before read_now names end
      → PutsWhere out_taken out_faults out_before out_now err_taken err_faults err_before err_now (answer_of end) status → status ≡ 3
      → (name : List ℕ) × (sources : List (List ℕ)) × Reaches files names name sources
      × (Rose before now ⊎ Lacks files name) × Took (err_taken err_before) (err_taken err_now) (cannot_read name).1
  unreadable_of out_taken out_faults out_before out_now err_taken err_faults err_before err_now files before now read_before read_now names (CannotRead file) status (sources, reaches, why) (same, inl put) is =
      (file.now, sources, reaches, why, put.1)
  unreadable_of out_taken out_faults out_before out_now err_taken err_faults err_before err_now files before now read_before read_now names (CannotRead file) status cause (same, inr put) is =
      absurd (omega (arith, put.0, is))
  unreadable_of out_taken out_faults out_before out_now err_taken err_faults err_before err_now files before now read_before read_now names end status cause put is =
      absurd (not_this out_taken out_faults out_before out_now err_taken err_faults err_before err_now (answer_of end) status 3 put is (λ e. omega (arith, e)) (λ e. omega (arith, e)))

  -- What a status of 9 says.
  pub too_long_of : {O E : Type 0} (out_taken : O → Option (List ℕ)) (out_faults : O → ℕ) (out_before out_now : O)
      (err_taken : E → Option (List ℕ)) (err_faults : E → ℕ) (err_before err_now : E)
      (files : Option Files) (before now read_before read_now : ℕ) (names : List (List ℕ)) (end : End) (status : ℕ)
      → HasCause command files before now read_before read_now names end
      → PutsWhere out_taken out_faults out_before out_now err_taken err_faults err_before err_now (answer_of end) status → status ≡ 9
      → ((most_files < length names) ⊎ ((name : List ℕ) × (sources : List (List ℕ)) × Reaches files names name sources
      × IsTooMuch files read_before read_now name sources)) × Took (err_taken err_before) (err_taken err_now) too_long.1
  too_long_of out_taken out_faults out_before out_now err_taken err_faults err_before err_now files before now read_before read_now names TooLong status cause (same, inl put) is =
      (cause, put.1)
  too_long_of out_taken out_faults out_before out_now err_taken err_faults err_before err_now files before now read_before read_now names TooLong status cause (same, inr put) is =
      absurd (omega (arith, put.0, is))
  too_long_of out_taken out_faults out_before out_now err_taken err_faults err_before err_now files before now read_before read_now names end status cause put is =
      absurd (not_this out_taken out_faults out_before out_now err_taken err_faults err_before err_now (answer_of end) status 9 put is (λ e. omega (arith, e)) (λ e. omega (arith, e)))

  -- THE HEADLINE

  headline_with : {O E : Type 0} (out_taken : O → Option (List ℕ)) (out_faults : O → ℕ) (out_before out_now : O)
      (err_taken : E → Option (List ℕ)) (err_faults : E → ℕ) (err_before err_now : E)
      (files : Files) (before now read_before read_now : ℕ) (names sources : List (List ℕ)) (end : End) (status : ℕ) → AreThere files names sources
      → HasCause command (Some files) before now read_before read_now names end
      → PutsWhere out_taken out_faults out_before out_now err_taken err_faults err_before err_now (answer_of end) status
      → Stood before now → Stood (out_faults out_before) (out_faults out_now) → Stood (err_faults err_before) (err_faults err_now) → status ≢ 6
      → Headline command names sources status (out_taken out_before) (out_taken out_now) (err_taken err_before) (err_taken err_now)
  headline_with out_taken out_faults out_before out_now err_taken err_faults err_before err_now files before now read_before read_now names sources (Program program) status are (texts, read, compiles) (same, inl put) stood out_stood err_stood memory =
      inl (layout_of program, subst (λ (s : List (List ℕ)). Compiles command s (Ok (layout_of program))) (same_sources texts sources (sym read.told ∙ are.told)) compiles, put.0, put.1, ap err_taken same)
  headline_with out_taken out_faults out_before out_now err_taken err_faults err_before err_now files before now read_before read_now names sources (Counts text) status are (texts, read, compiles) (same, inl put) stood out_stood err_stood memory =
      inl (text.items, subst (λ (s : List (List ℕ)). Compiles command s (Ok (text.items))) (same_sources texts sources (sym read.told ∙ are.told)) compiles, put.0, put.1, ap err_taken same)
  headline_with out_taken out_faults out_before out_now err_taken err_faults err_before err_now files before now read_before read_now names sources (Program program) status are cause (same, inr failed) stood out_stood err_stood memory =
      absurd (out_stood failed.1)
  headline_with out_taken out_faults out_before out_now err_taken err_faults err_before err_now files before now read_before read_now names sources (Counts text) status are cause (same, inr failed) stood out_stood err_stood memory =
      absurd (out_stood failed.1)
  headline_with out_taken out_faults out_before out_now err_taken err_faults err_before err_now files before now read_before read_now names sources (Fault fault listed) status are (texts, read, compiles, inside, named) (same, inl put) stood out_stood err_stood memory =
      inr (
        fault,
        subst (λ (s : List (List ℕ)). Compiles command s (Err fault)) (same_sources texts sources (sym read.told ∙ are.told)) compiles,
        put.0,
        subst (λ (text : List ℕ). Took (err_taken err_before) (err_taken err_now) text) (report_listed fault listed names named) put.1,
        ap out_taken same,
      )
  headline_with out_taken out_faults out_before out_now err_taken err_faults err_before err_now files before now read_before read_now names sources (Fault fault listed) status are cause (same, inr failed) stood out_stood err_stood memory =
      absurd (err_stood failed.1)
  headline_with out_taken out_faults out_before out_now err_taken err_faults err_before err_now files before now read_before read_now names sources Usage status are cause put stood out_stood err_stood memory = absurd cause
  headline_with out_taken out_faults out_before out_now err_taken err_faults err_before err_now files before now read_before read_now names sources (CannotRead file) status are (texts, reaches, inl rose) put stood out_stood err_stood memory =
      absurd (stood rose)
  headline_with out_taken out_faults out_before out_now err_taken err_faults err_before err_now files before now read_before read_now names sources (CannotRead file) status are (texts, reaches, inr lacks) put stood out_stood err_stood memory =
      absurd (not_lacking files names file.now texts sources reaches lacks are.told)
  headline_with out_taken out_faults out_before out_now err_taken err_faults err_before err_now files before now read_before read_now names sources TooLong status are (inl many) put stood out_stood err_stood memory =
      absurd (omega (arith, many, are.few))
  headline_with out_taken out_faults out_before out_now err_taken err_faults err_before err_now files before now read_before read_now names sources TooLong status are (inr (name, texts, reaches, much)) put stood out_stood err_stood memory =
      absurd (not_too_much files names name texts sources reaches much are.told are.small)
  headline_with out_taken out_faults out_before out_now err_taken err_faults err_before err_now files before now read_before read_now names sources NoMemory status are cause (same, inl put) stood out_stood err_stood memory =
      absurd (memory put.0)
  headline_with out_taken out_faults out_before out_now err_taken err_faults err_before err_now files before now read_before read_now names sources NoMemory status are cause (same, inr failed) stood out_stood err_stood memory =
      absurd (err_stood failed.1)

  -- The headline.
  pub headline_of : {O E : Type 0} (out_taken : O → Option (List ℕ)) (out_faults : O → ℕ) (out_before out_now : O)
      (err_taken : E → Option (List ℕ)) (err_faults : E → ℕ) (err_before err_now : E)
      (files : Option Files) (before now read_before read_now : ℕ) (names : List (List ℕ)) (end : End) (status : ℕ)
      → HasCause command files before now read_before read_now names end
      → PutsWhere out_taken out_faults out_before out_now err_taken err_faults err_before err_now (answer_of end) status
      → IfSome files (λ files. (sources : List (List ℕ)) → AreThere files names sources
      → Stood before now → Stood (out_faults out_before) (out_faults out_now) → Stood (err_faults err_before) (err_faults err_now) → status ≢ 6
      → Headline command names sources status (out_taken out_before) (out_taken out_now) (err_taken err_before) (err_taken err_now))
  headline_of out_taken out_faults out_before out_now err_taken err_faults err_before err_now None before now read_before read_now names end status cause put = tt
  headline_of out_taken out_faults out_before out_now err_taken err_faults err_before err_now (Some files) before now read_before read_now names end status cause put =
      λ sources are. headline_with out_taken out_faults out_before out_now err_taken err_faults err_before err_now files before now read_before read_now names sources end status are cause put

  -- The answer over told files, and what was put of it.
  pub told_of : {O E : Type 0} (out_taken : O → Option (List ℕ)) (out_faults : O → ℕ) (out_before out_now : O)
      (err_taken : E → Option (List ℕ)) (err_faults : E → ℕ) (err_before err_now : E)
      (files : Option Files) (before now read_before read_now : ℕ) (names : List (List ℕ)) (end : End) (status : ℕ)
      → HasCause command files before now read_before read_now names end
      → PutsWhere out_taken out_faults out_before out_now err_taken err_faults err_before err_now (answer_of end) status
      → IfSome files (λ files. (answer : Answer) × MayTell command files before now names answer
      × PutsWhere out_taken out_faults out_before out_now err_taken err_faults err_before err_now answer status)
  told_of out_taken out_faults out_before out_now err_taken err_faults err_before err_now None before now read_before read_now names end status cause put = tt
  told_of out_taken out_faults out_before out_now err_taken err_faults err_before err_now (Some files) before now read_before read_now names end status cause put =
      (answer_of end, may_tell files before now read_before read_now names end cause, put)
