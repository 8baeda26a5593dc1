-- The loads, one after another.
use Rattle.std.proofs.Common.{◌≡◌, ◌∙◌, ℕ, suc, ◌+◌, ◌-◌, ◌^◌, ◌<◌, ◌≤◌, ◌⊎◌, Bool, true, List, [], ◌∷◌, ◌++◌, length, map, take, drop, slice_index_or, refl, ap, ap₂, sym, subst, arith, inl, inr, Some, None, IfSome, IsSomeAnd, length-append, drop-cons, add-one, Bor, Vec, if◌then◌else◌}
use Rattle.std.specs.Prelude.{min, unwrap_or}
use Rattle.std.specs.declared.option.Option.{Option}
use Rattle.std.specs.declared.alloc.Global.{Global}
use Rattle.std.proofs.Math.Seq.{take-suc}
use Rattle.std.proofs.lemmas.List.{map-append, length-map, length-take, take-append-drop}
use Rattle.outside.proofs.Puts.{Rose-later}
use Rattle.claw_words.specs.Command.{texts_of}
use Rattle.claw_top.specs.Outcome.{bytes_of}
use Rattle.std.proofs.lemmas.List.Sums.{sum_by_push, sum_by-cons}
use Rattle.outside.specs.Counts.{Rose}
use Rattle.outside.specs.Files.{Files, file_at, Lacks, Loaded, MayBeTooLong}
use Rattle.claw_top.specs.Limits.{most_files, most_bytes, total_length}
use Rattle.claw_top.specs.Cause.{AreTold, WereRead, Reaches, Exceeds, IsTooMuch}

told_none : (files : Option Files) → AreTold files [] []
told_none None = tt
told_none (Some fs) = refl

-- Before the first load.
pub read_none : (files : Option Files) (read : ℕ) → WereRead files read read [] []
read_none files read = record { few = omega arith; small = omega arith; each = refl; told = told_none files; counted = omega arith }

told_next : (files : Option Files) (names : List (List ℕ)) (name : List ℕ) (sources : List (List ℕ)) (source : List ℕ)
    → AreTold files names sources → IfSome files (λ fs. file_at fs name ≡ Some source) → AreTold files (names ++ name ∷ []) (sources ++ source ∷ [])
told_next None names name sources source told is = tt
told_next (Some fs) names name sources source told is =
    map-append (file_at fs) names (name ∷ [])
    ∙ ap₂ (λ (a b : List (Option (List ℕ))). a ++ b) told (ap (λ (o : Option (List ℕ)). o ∷ []) is)
    ∙ sym (map-append (λ (s : List ℕ). Some s) sources (source ∷ []))

-- One more file.
pub read_next : (files : Option Files) (first before now room : ℕ) (names : List (List ℕ)) (name : List ℕ) (sources : List (List ℕ)) (source : List ℕ)
    → WereRead files first before names sources → length names < most_files → room + total_length sources ≡ most_bytes
    → length source ≤ room → IfSome files (λ fs. file_at fs name ≡ Some source)
    → min now (2 ^ 64 - 1) ≡ min (before + length source) (2 ^ 64 - 1)
    → WereRead files first now (names ++ name ∷ []) (sources ++ source ∷ [])
read_next files first before now room names name sources source read few left fits told counted =
    let total : total_length (sources ++ source ∷ []) ≡ total_length sources + length source = sum_by_push length sources source in
    record {
      few = omega (arith, length-append names (name ∷ []));
      small = omega (arith, total);
      each = omega (arith, length-append names (name ∷ []), length-append sources (source ∷ []), read.each);
      told = told_next files names name sources source read.told told;
      counted = omega (arith, total, read.counted);
    }

-- The next load comes to its file.
pub reaches_next : (files : Option Files) (first now : ℕ) (names before : List (List ℕ)) (name : List ℕ) (after sources : List (List ℕ))
    → WereRead files first now before sources → length names ≤ most_files → names ≡ before ++ name ∷ after → Reaches files names name sources
reaches_next files first now names before name after sources read few place =
    record { few = few; before = before; after = after; place = place; small = read.small; each = read.each; told = read.told }

longer : (room : ℕ) (found : Option (List ℕ)) (sources : List (List ℕ)) → room + total_length sources ≡ most_bytes
    → IsSomeAnd found (λ text. room < length text) → IsSomeAnd found (λ text. most_bytes < total_length sources + length text)
longer room None sources left more = absurd more
longer room (Some text) sources left more = omega (arith, left, more)

-- A load that is refused as too long has too many bytes with those before it.
pub too_much : (files : Option Files) (first before now room : ℕ) (names : List (List ℕ)) (name : List ℕ) (sources : List (List ℕ))
    → WereRead files first before names sources → room + total_length sources ≡ most_bytes → MayBeTooLong files name room before now
    → IsTooMuch files first now name sources
too_much None first before now room names name sources read left more = omega (arith, read.counted, more)
too_much (Some fs) first before now room names name sources read left more = longer room (file_at fs name) sources left more

-- THE LOOP'S LISTS

-- The names up to one, that one and those after it.
pub names_split : (names : List (Bor (List ℕ))) (i : ℕ) (d : Bor (List ℕ)) → i < length names
    → texts_of names ≡ texts_of (take i names) ++ (slice_index_or names i d).now ∷ texts_of (drop (suc i) names)
names_split names i d inside =
    ap texts_of (sym (take-append-drop i names)) ∙ map-append (λ (word : Bor (List ℕ)). word.now) (take i names) (drop i names)
    ∙ ap (λ (rest : List (Bor (List ℕ))). texts_of (take i names) ++ texts_of rest) (drop-cons names i d inside)

-- The names up to one, and that one.
pub names_next : (names : List (Bor (List ℕ))) (i : ℕ) (d : Bor (List ℕ)) → i < length names
    → texts_of (take (i + 1) names) ≡ texts_of (take i names) ++ (slice_index_or names i d).now ∷ []
names_next names i d inside =
    ap (λ (n : ℕ). texts_of (take n names)) (add-one i) ∙ ap texts_of (take-suc names i d inside)
    ∙ map-append (λ (word : Bor (List ℕ)). word.now) (take i names) (slice_index_or names i d ∷ [])

pub names_few : (names : List (Bor (List ℕ))) → length names ≤ most_files → length (texts_of names) ≤ most_files
names_few names few = subst (λ (n : ℕ). n ≤ most_files) (sym (length-map names (λ (word : Bor (List ℕ)). word.now))) few

pub names_left : (names : List (Bor (List ℕ))) (i : ℕ) → i < length names → length names ≤ most_files → length (texts_of (take i names)) < most_files
names_left names i inside few = omega (arith, length-map (take i names) (λ (word : Bor (List ℕ)). word.now), length-take i names)

-- What a push left.
pub pushed : {V : Type 0} (done : Bool) (old new : List V) (value : V) → new ≡ (if done then old ++ value ∷ [] else old) → done ≡ true → new ≡ old ++ value ∷ []
pushed done old new value is yes_done = is ∙ ap (λ (b : Bool). if b then old ++ value ∷ [] else old) yes_done

pub bytes_next : (old new : List (Vec ℕ Global)) (source : Vec ℕ Global) → new ≡ old ++ source ∷ [] → bytes_of new ≡ bytes_of old ++ source.items ∷ []
bytes_next old new source is = ap bytes_of is ∙ map-append (λ (s : Vec ℕ Global). s.items) old (source ∷ [])

-- The room after one more file.
pub room_after : (room count : ℕ) (sources all : List (List ℕ)) (source : List ℕ) → room + total_length sources ≡ most_bytes → length source ≤ room
    → count ≡ length source → all ≡ sources ++ source ∷ [] → room - count + total_length all ≡ most_bytes
room_after room count sources all source left fits same is =
    let total : total_length all ≡ total_length sources + length source = ap total_length is ∙ sum_by_push length sources source in
    omega (arith, total, same, left, fits)

-- A load into nothing gave the whole file.
pub record LoadedWhole (files : Option Files) (name : List ℕ) (room before now : ℕ) (source : List ℕ) : Type 0 where
  pub fits : length source ≤ room
  pub told : IfSome files (λ fs. file_at fs name ≡ Some source)
  pub counted : min now (2 ^ 64 - 1) ≡ min (before + length source) (2 ^ 64 - 1)

pub loaded_whole : (files first : Option Files) (name : List ℕ) (room before now : ℕ) (old source : List ℕ) → old ≡ [] → files ≡ first
    → Loaded files name room before now old source → LoadedWhole first name room before now source
loaded_whole files first name room before now old source empty same loaded =
    let whole : Loaded files name room before now [] source = subst (λ (o : List ℕ). Loaded files name room before now o source) empty loaded in
    let told : IfSome first (λ fs. file_at fs name ≡ Some source) = subst (λ (f : Option Files). IfSome f (λ fs. file_at fs name ≡ Some source)) same whole.told in
    record { fits = whole.fits; told = told; counted = whole.counted }

-- A load failed later, too.
pub failed_since : (files first : Option Files) (name : List ℕ) (before middle now : ℕ) → files ≡ first → before ≤ middle
    → Rose middle now ⊎ Lacks files name → Rose before now ⊎ Lacks first name
failed_since files first name before middle now same later (inl rose) = inl (Rose-later before middle now later rose)
failed_since files first name before middle now same later (inr lacks) = inr (subst (λ (f : Option Files). Lacks f name) same lacks)

pub too_long_since : (files first : Option Files) (name : List ℕ) (room before now : ℕ) → files ≡ first → MayBeTooLong files name room before now → MayBeTooLong first name room before now
too_long_since files first name room before now same more = subst (λ (f : Option Files). MayBeTooLong f name room before now) same more

-- One more file was read.
pub read_after : (files : Option Files) (first before now room : ℕ) (names more : List (List ℕ)) (name : List ℕ) (sources all : List (List ℕ)) (source : List ℕ)
    → WereRead files first before names sources → length names < most_files → room + total_length sources ≡ most_bytes
    → LoadedWhole files name room before now source → more ≡ names ++ name ∷ [] → all ≡ sources ++ source ∷ [] → WereRead files first now more all
read_after files first before now room names more name sources all source read few left loaded more_is all_is =
    let next : WereRead files first now (names ++ name ∷ []) (sources ++ source ∷ [])
    = read_next files first before now room names name sources source read few left loaded.fits loaded.told loaded.counted in
    subst (λ (n : List (List ℕ)). WereRead files first now n all) (sym more_is)
    (subst (λ (s : List (List ℕ)). WereRead files first now (names ++ name ∷ []) s) (sym all_is) next)

-- WHAT TOLD FILES SAY OF THE LOADS

no_head : (o : Option (List ℕ)) (os : List (Option (List ℕ))) → o ∷ os ≡ [] → ⊥
no_head o os is = cc

head_is : (o p : Option (List ℕ)) (os ps : List (Option (List ℕ))) → o ∷ os ≡ p ∷ ps → o ≡ p
head_is o p os ps is = cc

tail_is : (o p : Option (List ℕ)) (os ps : List (Option (List ℕ))) → o ∷ os ≡ p ∷ ps → os ≡ ps
tail_is o p os ps is = cc

bytes_are : (a b : List ℕ) → Some a ≡ Some b → a ≡ b
bytes_are a b is = ap (λ (o : Option (List ℕ)). unwrap_or o []) is

-- Sources that are told are the same.
pub same_sources : (read sources : List (List ℕ)) → map (λ source. Some source) read ≡ map (λ source. Some source) sources → read ≡ sources
same_sources [] [] is = refl
same_sources [] (source ∷ sources) is = absurd (no_head _ _ (sym is))
same_sources (first ∷ read) [] is = absurd (no_head _ _ is)
same_sources (first ∷ read) (source ∷ sources) is =
    ap₂ (λ (a : List ℕ) (b : List (List ℕ)). a ∷ b) (bytes_are first source (head_is _ _ _ _ is)) (same_sources read sources (tail_is _ _ _ _ is))

-- Where all files are there, each one is.
pub is_there : (found : List ℕ → Option (List ℕ)) (before : List (List ℕ)) (name : List ℕ) (after sources : List (List ℕ))
    → map found (before ++ name ∷ after) ≡ map (λ source. Some source) sources → found name ≡ None → ⊥
is_there found [] name after [] is lacks = no_head _ _ is
is_there found [] name after (source ∷ sources) is lacks =
    let some : found name ≡ Some source = head_is _ _ _ _ is in cc
is_there found (other ∷ before) name after [] is lacks = no_head _ _ is
is_there found (other ∷ before) name after (source ∷ sources) is lacks = is_there found before name after sources (tail_is _ _ _ _ is) lacks

-- Where all files are there, those up to one have no more bytes than all.
pub within : (found : List ℕ → Option (List ℕ)) (before : List (List ℕ)) (name : List ℕ) (after read : List (List ℕ)) (text : List ℕ) (sources : List (List ℕ))
    → map found before ≡ map (λ source. Some source) read → map found (before ++ name ∷ after) ≡ map (λ source. Some source) sources
    → found name ≡ Some text → total_length read + length text ≤ total_length sources
within found [] name after [] text [] told is here = absurd (no_head _ _ is)
within found [] name after [] text (source ∷ sources) told is here =
    let same : text ≡ source = bytes_are text source (sym here ∙ head_is _ _ _ _ is) in
    omega (arith, sum_by-cons length source sources, ap length same)
within found [] name after (first ∷ read) text sources told is here = absurd (no_head _ _ (sym told))
within found (other ∷ before) name after [] text sources told is here = absurd (no_head _ _ told)
within found (other ∷ before) name after (first ∷ read) text [] told is here = absurd (no_head _ _ is)
within found (other ∷ before) name after (first ∷ read) text (source ∷ sources) told is here =
    let same : first ≡ source = bytes_are first source (sym (head_is _ _ _ _ told) ∙ head_is _ _ _ _ is) in
    let rest : total_length read + length text ≤ total_length sources = within found before name after read text sources (tail_is _ _ _ _ told) (tail_is _ _ _ _ is) here in
    omega (arith, sum_by-cons length first read, sum_by-cons length source sources, ap length same, rest)

exceeding : (found : List ℕ → Option (List ℕ)) (o : Option (List ℕ)) (before : List (List ℕ)) (name : List ℕ) (after read sources : List (List ℕ)) → found name ≡ o
    → map found before ≡ map (λ source. Some source) read → map found (before ++ name ∷ after) ≡ map (λ source. Some source) sources
    → IsSomeAnd o (λ text. most_bytes < total_length read + length text) → total_length sources ≤ most_bytes → ⊥
exceeding found None before name after read sources here told is more small = more
exceeding found (Some text) before name after read sources here told is more small =
    let no_more : total_length read + length text ≤ total_length sources = within found before name after read text sources told is here in
    omega (arith, no_more, more, small)

-- Where all files are there and are small enough, none has too many bytes with those before it.
pub not_too_much : (files : Files) (names : List (List ℕ)) (name : List ℕ) (read sources : List (List ℕ)) → Reaches (Some files) names name read → Exceeds files name read
    → map (file_at files) names ≡ map (λ source. Some source) sources → total_length sources ≤ most_bytes → ⊥
not_too_much files names name read sources reaches more is small =
    exceeding (file_at files) (file_at files name) reaches.before name reaches.after read sources refl reaches.told
    (ap (map (file_at files)) (sym reaches.place) ∙ is) more small

-- Where all files are there, none is lacking.
pub not_lacking : (files : Files) (names : List (List ℕ)) (name : List ℕ) (read sources : List (List ℕ)) → Reaches (Some files) names name read → file_at files name ≡ None
    → map (file_at files) names ≡ map (λ source. Some source) sources → ⊥
not_lacking files names name read sources reaches lacks is =
    is_there (file_at files) reaches.before name reaches.after sources (ap (map (file_at files)) (sym reaches.place) ∙ is) lacks
