-- One character more, and the end of the line.
use Rattle.std.proofs.Common.{◌≡◌, ℕ, Bool, true, false, cond, List, [], ◌∷◌, ◌++◌, Option, None, Some, map, refl, sym, ap, ◌∙◌, subst, append_assoc}
use Rattle.std.specs.Prelude.{◌==◌}
use Rattle.std.proofs.lemmas.Bool.{eqb-true, true≢false, eq-eqb}
use Rattle.std.proofs.lemmas.List.{map-append, append-nil}
use Rattle.fort_tree.specs.declared.place.Place.{Place}
use Rattle.fort_tokens.specs.declared.character.Char.{Char}
use Rattle.fort_tokens.specs.Reads.{Word}
use Rattle.fort_tokens.specs.Reading.{Reading}
use Rattle.fort_tokens.specs.declared.shape.Shape.{Shape}
use Rattle.fort_tokens.specs.declared.shape.Shape.TheVariants as shape
use Rattle.fort_tokens.specs.Automaton.{start, dead, next, run, accepts, has_form, fixed}
use Rattle.fort_tokens.specs.Reads.{bytes, lowered, Reads, Cut, end, blank}
use Rattle.fort_tokens.specs.Machine.{goes_on, grown, spoiled, settled_at, is_empty, started, started_as, taken, taken_as, fed, fresh, first_place, closed, finished, fed_all}
use Rattle.fort_tokens.proofs.Runs.{run-dead}
use Rattle.fort_tokens.proofs.Ended.{begins-none}
use Rattle.fort_tokens.proofs.Pending.{Stands, empty, in_name, in_digits, in_suffixed, in_under, in_point, in_fixed, Fed, Again, Free, going, stopped, Any, Heads}
use Rattle.fort_tokens.proofs.Growing.{Goes, Ends, ends_empty, ends_name, ends_digits, ends_suffixed, ends_under, ends_point, ends_fixed, text_place, goes}
use Rattle.fort_tokens.proofs.Settling.{reader, settles, kills}
use Rattle.fort_tokens.proofs.Fronts.{fixed-no_blank, no-form, fixed-blank}

abbrev BackAt : (List Char → Type 0) → List Char → List Char → List Word → Type 0
BackAt H cs pend ts = (z : List Char) (us : List Word) (o : Option Place) → H z → Cut (pend ++ z) us o → Cut (cs ++ z) (ts ++ us) o

-- the place that grown keeps is the first one
place-is : (sh : Shape) (at last : Place) (pend : List Char) (c : Char) → Stands sh at last pend → cond (is_empty sh) c.at at ≡ text_place sh at c
place-is sh at last pend c empty = refl
place-is sh at last pend c (in_name d w r) = refl
place-is sh at last pend c (in_digits d w r) = refl
place-is sh at last pend c (in_suffixed d w r) = refl
place-is sh at last pend c (in_under d w u r e) = refl
place-is sh at last pend c (in_point d w u r e) = refl
place-is sh at last pend c (in_fixed d w r) = refl

-- what is read after cs and c is read after cs
further : (cs pend : List Char) (c : Char) (ts : List Word) → BackAt (Heads c.byte) cs pend ts → BackAt Any (cs ++ c ∷ []) (pend ++ c ∷ []) ts
further cs pend c ts back z us o h r =
    subst (λ x. Cut x (ts ++ us) o) (sym (append_assoc cs (c ∷ []) z))
    (back (c ∷ z) us o refl (subst (λ x. Cut x us o) (append_assoc pend (c ∷ []) z) r))

grows : (cs : List Char) (ts : List Word) (sh to : Shape) (at last : Place) (pend : List Char) (c : Char) → Stands sh at last pend → BackAt (Heads c.byte) cs pend ts →
    Stands to (text_place sh at c) c.at (pend ++ c ∷ []) → Fed Free Any (cs ++ c ∷ []) (grown (reader ts sh at last pend) to c)
grows cs ts sh to at last pend c was back is =
    subst (λ p. Fed Free Any (cs ++ c ∷ []) (record { words = ts; shape = to; text = bytes pend ++ c.byte ∷ []; at = p; last = c.at; bad = None })) (sym (place-is sh at last pend c was))
    (subst (λ t. Fed Free Any (cs ++ c ∷ []) (record { words = ts; shape = to; text = t; at = text_place sh at c; last = c.at; bad = None })) (map-append (λ c. c.byte) pend (c ∷ []))
    (going ts to (text_place sh at c) c.at (pend ++ c ∷ []) tt is (further cs pend c ts back)))

stops : (cs : List Char) (ts : List Word) (sh : Shape) (at last p : Place) (text : List ℕ) (c : Char) → ((z : List Char) → Cut (cs ++ c ∷ z) ts (Some p)) →
    Fed Free Any (cs ++ c ∷ []) (record { words = ts; shape = sh; text = text; at = at; last = last; bad = Some p })
stops cs ts sh at last p text c back = stopped ts sh text at last p (λ z h. subst (λ x. Cut x ts (Some p)) (sym (append_assoc cs (c ∷ []) z)) (back z))

dead-form : (b : ℕ) (t : List ℕ) → next start b ≡ dead → has_form (b ∷ t) ≡ false
dead-form b t k = ap (λ s. accepts (run s t)) k ∙ ap accepts (run-dead t)

blank-or : (cs : List Char) (ts : List Word) (at last : Place) (c : Char) (x : Bool) → next start c.byte ≡ dead → (c.byte == 32) ≡ x → BackAt (Heads c.byte) cs [] ts →
    Fed Free Any (cs ++ c ∷ []) (cond x (reader ts shape.Empty at last []) (spoiled (reader ts shape.Empty at last []) c.at))
blank-or cs ts at last c true k e back =
    going ts shape.Empty at last [] tt empty (λ z us o h r. subst (λ x. Cut x (ts ++ us) o) (sym (append_assoc cs (c ∷ []) z)) (back (c ∷ z) us o refl (blank c (eqb-true c.byte 32 e) r)))
blank-or cs ts at last c false k e back =
    stops cs ts shape.Empty at last c.at [] c (λ z. subst (λ ts. Cut (cs ++ c ∷ z) ts (Some c.at)) (append-nil ts) (back (c ∷ z) [] (Some c.at) refl
    (begins-none c (λ q. absurd (true≢false (sym (eq-eqb c.byte 32 q) ∙ e))) (λ u v h. dead-form c.byte (bytes u) k))))

starts-as : (cs : List Char) (ts : List Word) (sh : Shape) (at last : Place) (pend : List Char) (c : Char) (o : Option Shape) → Stands sh at last pend → BackAt (Heads c.byte) cs pend ts →
    Goes sh at pend c o → Again sh pend → Fed Free Any (cs ++ c ∷ []) (started_as o (reader ts sh at last pend) c)
starts-as cs ts sh at last pend c (Some to) was back is y = grows cs ts sh to at last pend c was back is
starts-as cs ts sh at last pend c None empty back (ends_empty k) y = blank-or cs ts at last c (c.byte == 32) k refl back
starts-as cs ts sh at last pend c None (in_fixed d w r) back (ends_fixed k) y =
    stops cs ts shape.Fixed d.at last d.at (bytes (d ∷ w)) c (λ z. subst (λ ts. Cut (cs ++ c ∷ z) ts (Some d.at)) (append-nil ts) (back (c ∷ z) [] (Some d.at) refl
    (begins-none d (fixed-no_blank (bytes w) d.byte r) (λ u v q. no-form d w (c ∷ z) u v r y (kills (run start (bytes (d ∷ w))) c.byte (c ∷ z) (ap (λ s. next s c.byte) r ∙ ap (λ x. cond x (fixed (bytes (d ∷ w) ++ c.byte ∷ [])) dead) k) refl) q))))
starts-as cs ts sh at last pend c None (in_name d w r) back k y = absurd y
starts-as cs ts sh at last pend c None (in_digits d w r) back k y = absurd y
starts-as cs ts sh at last pend c None (in_suffixed d w r) back k y = absurd y
starts-as cs ts sh at last pend c None (in_under d w u r e) back k y = absurd y
starts-as cs ts sh at last pend c None (in_point d w u r e) back k y = absurd y

starts : (cs : List Char) (s : Reading) (c : Char) → Fed Again (Heads c.byte) cs s → Fed Free Any (cs ++ c ∷ []) (started s c)
starts cs s c (going ts sh at last pend y was back) =
    starts-as cs ts sh at last pend c (goes_on sh (bytes pend) c.byte) was back (goes sh at last pend c was) y
starts cs s c (stopped ts sh text at last p back) = stops cs ts sh at last p text c (λ z. back (c ∷ z) refl)

feeds-as : (cs : List Char) (ts : List Word) (sh : Shape) (at last : Place) (pend : List Char) (c : Char) (o : Option Shape) → Stands sh at last pend → BackAt Any cs pend ts →
    Goes sh at pend c o → Fed Free Any (cs ++ c ∷ []) (taken_as o (reader ts sh at last pend) c)
feeds-as cs ts sh at last pend c (Some to) was back is = grows cs ts sh to at last pend c was (λ z us o h r. back z us o tt r) is
feeds-as cs ts sh at last pend c None was back k = starts cs (settled_at sh (reader ts sh at last pend) c.byte) c (settles cs ts sh at last pend c.byte was k back)

pub feeds : (cs : List Char) (s : Reading) (c : Char) → Fed Free Any cs s → Fed Free Any (cs ++ c ∷ []) (taken s c)
feeds cs s c (going ts sh at last pend y was back) = feeds-as cs ts sh at last pend c (goes_on sh (bytes pend) c.byte) was back (goes sh at last pend c was)
feeds cs s c (stopped ts sh text at last p back) = stops cs ts sh at last p text c (λ z. back (c ∷ z) tt)

-- at the end nothing goes on
blank-ends : (sh : Shape) (at last : Place) (pend : List Char) → Stands sh at last pend → Ends 32 sh pend
blank-ends sh at last pend empty = ends_empty refl
blank-ends sh at last pend (in_name c w r) = ends_name refl
blank-ends sh at last pend (in_digits c w r) = ends_digits refl refl
blank-ends sh at last pend (in_suffixed c w r) = ends_suffixed refl
blank-ends sh at last pend (in_under c w u r e) = ends_under refl
blank-ends sh at last pend (in_point c w u r e) = ends_point
blank-ends sh at last pend (in_fixed c w r) = ends_fixed (fixed-blank (bytes (c ∷ w)))

closes : (cs : List Char) (s : Reading) → Fed Again (Heads 32) cs s → Cut cs (closed s).words (closed s).bad
closes cs s (stopped ts sh text at last p back) = subst (λ x. Cut x ts (Some p)) (append-nil cs) (back [] refl)
closes cs s (going ts sh at last pend y empty back) = subst (λ x. Cut x ts None) (append-nil cs) (subst (λ ts. Cut (cs ++ []) ts None) (append-nil ts) (back [] [] None refl end))
closes cs s (going ts sh at last pend y (in_fixed d w r) back) =
    subst (λ x. Cut x ts (Some d.at)) (append-nil cs) (subst (λ ts. Cut (cs ++ []) ts (Some d.at)) (append-nil ts) (back [] [] (Some d.at) refl
    (begins-none d (fixed-no_blank (bytes w) d.byte r) (λ u v q. no-form d w [] u v r y tt q))))
closes cs s (going ts sh at last pend y (in_name c w r) back) = absurd y
closes cs s (going ts sh at last pend y (in_digits c w r) back) = absurd y
closes cs s (going ts sh at last pend y (in_suffixed c w r) back) = absurd y
closes cs s (going ts sh at last pend y (in_under c w u r e) back) = absurd y
closes cs s (going ts sh at last pend y (in_point c w u r e) back) = absurd y

-- the characters of a line, whole
pub finishes : (cs : List Char) (s : Reading) → Fed Free Any cs s → Cut cs (finished s).words (finished s).bad
finishes cs s (going ts sh at last pend y was back) = closes cs (settled_at sh (reader ts sh at last pend) 32) (settles cs ts sh at last pend 32 was (blank-ends sh at last pend was) back)
finishes cs s (stopped ts sh text at last p back) = subst (λ x. Cut x ts (Some p)) (append-nil cs) (back [] tt)

-- the reader after these characters, whose case doesn't count
abbrev pub HasRead : List Char → Reading → Type 0
HasRead cs s = Fed Free Any (map lowered cs) s

pub has_read-none : HasRead [] fresh
has_read-none = going [] shape.Empty first_place first_place [] tt empty (λ z us o h r. r)

pub has_read-more : (cs : List Char) (s : Reading) (c : Char) → HasRead cs s → HasRead (cs ++ c ∷ []) (fed s c)
has_read-more cs s c f = subst (λ x. Fed Free Any x (fed s c)) (sym (map-append lowered cs (c ∷ []))) (feeds (map lowered cs) s (lowered c) f)

pub has_read-whole : (cs : List Char) (s : Reading) → HasRead cs s → Reads cs (finished s).words (finished s).bad
has_read-whole cs s f = finishes (map lowered cs) s f

has_read-all : (cs ds : List Char) (s : Reading) → HasRead cs s → HasRead (cs ++ ds) (fed_all s ds)
has_read-all cs [] s f = subst (λ x. HasRead x s) (sym (append-nil cs)) f
has_read-all cs (d ∷ ds) s f = subst (λ x. HasRead x (fed_all (fed s d) ds)) (append_assoc cs (d ∷ []) ds) (has_read-all (cs ++ d ∷ []) ds (fed s d) (has_read-more cs s d f))

-- a new reader reads each list of characters as its tokens, up to the first bad one
pub reads : (cs : List Char) → Reads cs (finished (fed_all fresh cs)).words (finished (fed_all fresh cs)).bad
reads cs = has_read-whole cs (fed_all fresh cs) (has_read-all [] cs fresh has_read-none)
