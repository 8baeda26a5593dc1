-- The lines of the sources, source after source.
use Rattle.std.proofs.Common.{◌≡◌, ℕ, suc, ◌+◌, ◌<◌, ◌≤◌, List, [], ◌∷◌, ◌++◌, map, Option, None, Some, Vec, length, take, drop, get_or, refl, ap, sym, ◌∙◌, subst, append_assoc, add-one, arith}
use Rattle.std.specs.declared.alloc.Global.{Global}
use Rattle.std.proofs.lemmas.List.{append-nil, map-append, length-map, length-append, length-take-le}
use Rattle.std.specs.Prelude.{IfSome}
use Rattle.std.specs.List.{All}
use Rattle.std.proofs.lemmas.List.Elements.{All-weaker, All-append}
use Rattle.std.proofs.lemmas.List.Sums.{sum_by-append, sum_by-cons}
use Rattle.std.proofs.Math.Seq.{split_at, take-suc}
use Rattle.fort_tree.specs.declared.choice.Mode.TheVariants.{Source}
use Rattle.fort_tree.specs.declared.fault.Fault.{Fault}
use Rattle.fort_tree.specs.declared.fault.Stop.{Stop}
use Rattle.fort_tree.specs.declared.fault.Stop.TheVariants.{Fault as Fails, NoMemory}
use Rattle.fort_tree.specs.declared.place.Place.{Place}
use Rattle.fort_tree.specs.declared.statement.Line.{Line}
use Rattle.fort_tree.specs.declared.statement.Token.{Token}
use Rattle.fort_lex.specs.Lines.{IsFirstTextFault, written}
use Rattle.claw_top.specs.Limits.{total_length}
use Rattle.claw_top.specs.Outcome.{bytes_of}
use Rattle.fort_lex.specs.Places.{InFile, StandsIn}
use Rattle.fort_lex.proofs.LinePlaces.{lines-in-file, first-in-file}
use Rattle.fort_lex.proofs.Few.{few-lines}
use Rattle.fort_units.specs.Places.{InFiles, LineInFiles}
use Rattle.claw_top.specs.Sources.{HasLines, HaveLinesFrom, HaveLines, HasTextFault, HaveTextStop, AreBefore}

abbrev AreIn : ℕ → List Line → Type 0
AreIn file lines = All (StandsIn file) lines

-- one source more
one-more : (file : ℕ) (texts : List (List ℕ)) (text : List ℕ) (lines added : List Line) → HaveLinesFrom file texts lines → HasLines (file + length texts) text added →
    HaveLinesFrom file (texts ++ text ∷ []) (lines ++ added)
one-more file [] text lines added h new =
    let same : file + length {A = List ℕ} [] ≡ file = omega arith in
    (added, [], ap (λ x. x ++ added) h ∙ sym (append-nil added), subst (λ k. HasLines k text added) same new, refl)
one-more file (t ∷ texts) text lines added h new =
    let same : file + length (t ∷ texts) ≡ file + 1 + length texts = omega arith in
    (h.0, h.1 ++ added, ap (λ x. x ++ added) h.2 ∙ append_assoc h.0 h.1 added, h.3, one-more (file + 1) texts text h.1 added h.4 (subst (λ k. HasLines k text added) same new))

-- ---- places

later-place : (file count : ℕ) (at : Place) → file < count → InFile file at → InFiles count at
later-place file count at below h = subst (λ k. k < count) (sym h) below

later-mark : (file count : ℕ) (mark : Option Place) → file < count → IfSome mark (InFile file) → IfSome mark (InFiles count)
later-mark file count None below h = tt
later-mark file count (Some at) below h = later-place file count at below h

later-line : (file count : ℕ) → file < count → (line : Line) → StandsIn file line → LineInFiles count line
later-line file count below line h = record {
  at = later-place file count line.at below h.at;
  tokens = All-weaker (λ (t : Token). InFile file t.at) (λ (t : Token). InFiles count t.at) (λ t k. later-place file count t.at below k) line.tokens h.tokens;
  unfinished = later-mark file count line.unfinished below h.unfinished;
}

more-mark : (count : ℕ) (mark : Option Place) → IfSome mark (InFiles count) → IfSome mark (InFiles (count + 1))
more-mark count None h = tt
more-mark count (Some at) h = omega (arith, h)

more-line : (count : ℕ) (line : Line) → LineInFiles count line → LineInFiles (count + 1) line
more-line count line h =
    let at = h.at in
    record {
      at = omega (arith, at);
      tokens = All-weaker (λ (t : Token). InFiles count t.at) (λ (t : Token). InFiles (count + 1) t.at) (λ t k. omega (arith, k)) line.tokens h.tokens;
      unfinished = more-mark count line.unfinished h.unfinished;
    }

more-before : (file : ℕ) (lines added : List Line) → AreBefore file lines → AreIn file added → AreBefore (file + 1) (lines ++ added)
more-before file lines added before h =
    All-append (LineInFiles (file + 1)) lines added (All-weaker (LineInFiles file) (LineInFiles (file + 1)) (more-line file) lines before)
    (All-weaker (StandsIn file) (LineInFiles (file + 1)) (later-line file (file + 1) (omega arith)) added h)

pub next-before : (i file : ℕ) (source : List ℕ) (lines added : List Line) → file ≡ i → AreBefore i lines → HasLines file source added → AreBefore (i + 1) (lines ++ added)
next-before i file source lines added number before new =
    more-before i lines added before (subst (λ k. AreIn k added) number (lines-in-file file Source source added [] new))

-- ---- the source of a number

abbrev Sources : Type 0
Sources = List (Vec ℕ Global)

split : (sources : Sources) (i : ℕ) (source : Vec ℕ Global) → i < length sources → source ≡ get_or sources i source →
    bytes_of sources ≡ bytes_of (take i sources) ++ source.items ∷ bytes_of (drop (suc i) sources)
split sources i source within is =
    ap bytes_of (split_at sources i source within) ∙ map-append (λ s. s.items) (take i sources) (get_or sources i source ∷ drop (suc i) sources)
    ∙ ap (λ s. bytes_of (take i sources) ++ s.items ∷ bytes_of (drop (suc i) sources)) (sym is)

count : (sources : Sources) (i : ℕ) → i < length sources → length (bytes_of (take i sources)) ≡ i
count sources i within = length-map (take i sources) (λ s. s.items) ∙ length-take-le i sources (omega (arith, within))

numbered : (sources : Sources) (i : ℕ) → i < length sources → i ≡ 0 + length (bytes_of (take i sources))
numbered sources i within = let e = count sources i within in omega (arith, e)

taken : (sources : Sources) (i : ℕ) (source : Vec ℕ Global) → i < length sources → source ≡ get_or sources i source →
    bytes_of (take (i + 1) sources) ≡ bytes_of (take i sources) ++ source.items ∷ []
taken sources i source within is =
    ap (λ k. bytes_of (take k sources)) (add-one i) ∙ ap bytes_of (take-suc sources i source within)
    ∙ map-append (λ s. s.items) (take i sources) (get_or sources i source ∷ [])
    ∙ ap (λ s. bytes_of (take i sources) ++ s.items ∷ []) (sym is)

pub next-lines : (sources : Sources) (i file : ℕ) (source : Vec ℕ Global) (lines added : List Line) → i < length sources → source ≡ get_or sources i source → file ≡ i →
    HaveLines (bytes_of (take i sources)) lines → HasLines file source.items added → HaveLines (bytes_of (take (i + 1) sources)) (lines ++ added)
next-lines sources i file source lines added within is number before new =
    subst (λ texts. HaveLines texts (lines ++ added)) (sym (taken sources i source within is))
    (one-more 0 (bytes_of (take i sources)) source.items lines added before
    (subst (λ k. HasLines k source.items added) (number ∙ numbered sources i within) new))

pub stops : (sources : Sources) (i file : ℕ) (source : Vec ℕ Global) (lines : List Line) (stop : Stop) → i < length sources → source ≡ get_or sources i source → file ≡ i →
    HaveLines (bytes_of (take i sources)) lines → ((fault : Fault) → stop ≡ Fails fault → IsFirstTextFault file Source source.items fault) → HaveTextStop (bytes_of sources) stop
stops sources i file source lines (Fails fault) within is number before h =
    let long : length (bytes_of sources) ≡ length sources = length-map sources (λ s. s.items) in
    let first : IsFirstTextFault file Source source.items fault = h fault refl in
    let here : fault.place.file ≡ i = first-in-file file Source source.items fault first ∙ number in (
      record {
        before = bytes_of (take i sources);
        source = source.items;
        behind = bytes_of (drop (suc i) sources);
        place = split sources i source within is;
        lines = lines;
        clean = before;
        has = subst (λ k. HasTextFault k source.items fault) (number ∙ sym (count sources i within)) first;
      },
      omega (arith, long, here, within),
    )
stops sources i file source lines NoMemory within is number before h = tt

-- a source is no longer than all together
pub one-length : (sources : Sources) (i : ℕ) (source : Vec ℕ Global) → i < length sources → source ≡ get_or sources i source → length source.items ≤ total_length (bytes_of sources)
one-length sources i source within is =
    subst (λ texts. length source.items ≤ total_length texts) (sym (split sources i source within is)) (part (bytes_of (take i sources)) source.items (bytes_of (drop (suc i) sources)))
  where
    part : (front : List (List ℕ)) (text : List ℕ) (back : List (List ℕ)) → length text ≤ total_length (front ++ text ∷ back)
    part front text back = let e = sum_by-append length front (text ∷ back) in let f = sum_by-cons length text back in omega (arith, e, f)

-- ---- the number of lines

-- of each source at most one more than bytes
pub next-few : (sources : Sources) (i file : ℕ) (source : Vec ℕ Global) (lines added : List Line) → i < length sources → source ≡ get_or sources i source →
    length lines ≤ total_length (bytes_of (take i sources)) + i → HasLines file source.items added → length (lines ++ added) ≤ total_length (bytes_of (take (i + 1) sources)) + (i + 1)
next-few sources i file source lines added within is before new =
    let few : length added ≤ length source.items + 1 = subst (λ k. k ≤ length source.items + 1) (length-map added written) (few-lines file Source source.items (map written added) [] new) in
    let both : length (lines ++ added) ≡ length lines + length added = length-append lines added in
    let more : total_length (bytes_of (take (i + 1) sources)) ≡ total_length (bytes_of (take i sources)) + total_length (source.items ∷ []) =
    ap total_length (taken sources i source within is) ∙ sum_by-append length (bytes_of (take i sources)) (source.items ∷ []) in
    let one : total_length (source.items ∷ []) ≡ length source.items + total_length [] = sum_by-cons length source.items [] in
    let none : total_length [] ≡ 0 = refl in
    omega (arith, few, both, more, one, none, before)
