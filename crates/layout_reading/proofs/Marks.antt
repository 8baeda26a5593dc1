-- Mark lines are read as they are written.
use Rattle.std.proofs.Common.{◌≡◌, ℕ, List, [], ◌∷◌, ◌++◌, Option, None, Some, Bool, true, false, ◌||◌, cond, map, refl, sym, ap, ◌∙◌, subst, codes}
use Rattle.std.specs.Prelude.{⊤, option_and_then}
use Rattle.std.proofs.lemmas.Bool.{true≢false}
use Rattle.fort_tree.specs.declared.place.Place.{Place}
use Rattle.fort_tree.specs.declared.statement.Token.{Token}
use Rattle.fort_tree.specs.declared.stmt.Directive.{Directive}
use Rattle.fort_tree.specs.declared.stmt.DirectiveWord.{DirectiveWord}
use Rattle.fort_tree.specs.declared.stmt.DirectiveWord.TheVariants as word_of
use Rattle.fort_tree.specs.Name.{IsName, is_name, lowercase}
use Rattle.fort_tree.specs.Token.{is_token}
use Rattle.fort_spell.specs.declared.mark.Mark.TheVariants as mark
use Rattle.fort_spell.specs.Pieces.{Word, Sign, word, sign, bracketed, items, more_items, pair, name_pieces}
use Rattle.fort_spell.specs.Statements.{private_pieces, open_mp_pieces, open_acc_pieces}
use Rattle.fort_expr.specs.Words.{front_place}
use Rattle.claw_lines.specs.declared.given.Given.{Given}
use Rattle.claw_lines.specs.declared.part.Part.{Part}
use Rattle.claw_lines.specs.declared.part.Part.TheVariants as part
use Rattle.claw_lines.specs.Words.{phrase, opening, parts, is_taken, is_reserved}
use Rattle.claw_lines.specs.Items.{name_text, unless_taken, free_item}
use Rattle.claw_lines.specs.Forms as c
use Rattle.claw_lines.specs.Forms.{IsAmong, Begins, Listed, Takes, Parts, Asks, IsLine, nothing, directive_of, names_or_none}
use Rattle.claw_meaning.specs.Syntax as plain
use Rattle.claw_meaning.specs.Plain.{plain_option, plain_directive}
use Rattle.layout_reading.specs.Readable.{AreBehind, ArePieces}
use Rattle.layout_reading.specs.Tokens.{texts, piece_texts, AreTokens}
use Rattle.layout_reading.proofs.Gaps.{Follows, mark_starts, ends_follow, closed}
use Rattle.layout_reading.proofs.Expressions.{cut, all_read, real_first, real_rest, real_lower}
use Rattle.layout_reading.proofs.Declarations.{Each}

-- A name that a mark may have.
pub record MarkName (name : List ℕ) : Type 0 where
  pub is_name : IsName name
  pub free : is_reserved name ≡ false

-- the loop marks
abbrev pub loops : DirectiveWord → Bool
loops word_of.OpenMpLoop = true
loops word_of.OpenAccLoop = true
loops _ = false

-- what a mark gives besides its names: nothing
pub record OnlyNames (d : Directive) : Type 0 where
  pub over : d.over ≡ None
  pub number : d.number ≡ None
  pub group : d.group ≡ None
  pub init : d.init ≡ false
  pub lower : d.lower ≡ None
  pub upper : d.upper ≡ None
  pub names : Each MarkName d.names

-- the mark of a unit has no names
abbrev pub UnitNames : Bool → Directive → Type 0
UnitNames true d = d.names ≡ []
UnitNames false d = ⊤

abbrev pub is_unit_mark : DirectiveWord → Bool
is_unit_mark word_of.Routine = true
is_unit_mark _ = false

-- what can be written of a directive: the marks
abbrev pub MarkFits : Directive → Type 0
MarkFits d = (loops d.word ≡ true → OnlyNames d) × (is_unit_mark d.word ≡ true → OnlyNames d × (d.names ≡ []))

none_some : {A : Type 0} {x : A} → Some x ≡ None → ⊥
none_some e = cc

-- NAMES

some_text : (b : Bool) (text id : List ℕ) → cond b (Some text) None ≡ Some id → (b ≡ true) × (text ≡ id)
some_text true text id e = (refl, cc)
some_text false text id e = absurd (none_some (sym e))

not_text : (b : Bool) (text id : List ℕ) → cond b None (Some text) ≡ Some id → (b ≡ false) × (text ≡ id)
not_text true text id e = absurd (none_some (sym e))
not_text false text id e = (refl, cc)

or_false : (a b : Bool) → (a || b) ≡ false → a ≡ false
or_false true b h = h
or_false false b h = refl

both_items : (form : DirectiveWord) (o : Option (List ℕ)) (id : List ℕ) → option_and_then (unless_taken form) o ≡ Some id → (text : List ℕ) × (o ≡ Some text) × (unless_taken form text ≡ Some id)
both_items form None id e = absurd (none_some (sym e))
both_items form (Some text) id e = (text, refl, e)

pub item_name : (form : DirectiveWord) (t : Token) (id : List ℕ) → is_token t.text ≡ true → free_item form t ≡ Some id → MarkName id × (t.text ≡ id)
item_name form t id real e =
    let b = both_items form (name_text t.text) id e in
    let n = some_text (is_name t.text) t.text b.0 b.1 in
    let u = not_text (is_taken form b.0) b.0 id b.2 in
    let same : t.text ≡ id = n.1 ∙ u.1 in
    let lower : lowercase t.text ≡ t.text = real_lower t.text real in (
      record {
        is_name = record { form = ap is_name (sym same) ∙ n.0; lower = ap lowercase (sym same) ∙ lower ∙ same };
        free = ap is_reserved (sym u.1) ∙ or_false (is_reserved b.0) _ u.0;
      },
      same,
    )

listed_names : (form : DirectiveWord) {w z : List Token} {l : List (List ℕ)} → Listed (List ℕ) (free_item form) w z l → AreTokens w → Each MarkName l × AreTokens z
listed_names form (c.last {rest = z} {x = x} t q e h) r = (((item_name form t x (real_first t (q ∷ z) r) e).0, tt), real_rest q z (real_rest t (q ∷ z) r))
listed_names form (c.more {tokens = w} {x = x} t m e h d) r =
    let u = listed_names form d (real_rest m w (real_rest t (m ∷ w) r)) in (((item_name form t x (real_first t (m ∷ w) r) e).0, u.0), u.1)

-- WHAT A MARK'S LINE GIVES

begins_left : {words : List (List ℕ)} {w z : List Token} → Begins words w z → AreTokens w → AreTokens z
begins_left c.none r = r
begins_left (c.next {tokens = w} t e d) r = begins_left d (real_rest t w r)

record GivenFits (g : Given) : Type 0 where
  over : g.over ≡ None
  number : g.number ≡ None
  group : g.group ≡ None
  init : g.init ≡ false
  names : Each MarkName (names_or_none g.names)

nothing_fits : GivenFits nothing
nothing_fits = record { over = refl; number = refl; group = refl; init = refl; names = tt }

takes_fits : (form : DirectiveWord) (which : Part) {before between : Given} {w z : List Token} → IsAmong Part which (part.Private ∷ []) → Takes form before which w z between → AreTokens w → GivenFits before → GivenFits between × AreTokens z
takes_fits form part.Private a (c.private_list e d) r h = let u = listed_names form d r in (record { over = h.over; number = h.number; group = h.group; init = h.init; names = u.0 }, u.1)
takes_fits form part.List (c.there a) t r h = elim a [ ]
takes_fits form part.Data (c.there a) t r h = elim a [ ]
takes_fits form part.Over (c.there a) t r h = elim a [ ]
takes_fits form part.Group (c.there a) t r h = elim a [ ]
takes_fits form part.Collapse (c.there a) t r h = elim a [ ]
takes_fits form part.Offset (c.there a) t r h = elim a [ ]
takes_fits form part.Init (c.there a) t r h = elim a [ ]

loop_parts : (form : DirectiveWord) → parts form ≡ part.Private ∷ [] → {before after : Given} {w : List Token} → Parts form before w after → AreTokens w → GivenFits before → GivenFits after
loop_parts form e c.end r h = h
loop_parts form e (c.one {which = which} a b t d) r h =
    let u = takes_fits form which (subst (IsAmong Part which) e a) t (begins_left b r) h in loop_parts form e d u.1 u.0

no_parts : (form : DirectiveWord) → parts form ≡ [] → {before after : Given} {w : List Token} → Parts form before w after → after ≡ before
no_parts form e c.end = refl
no_parts form e (c.one {which = which} a b t d) = absurd (none (subst (IsAmong Part which) e a))
  where
    none : {which : Part} → IsAmong Part which [] → ⊥
    none a = elim a [ ]

given_names : (at : Place) (form : DirectiveWord) (g : Given) → GivenFits g → OnlyNames (directive_of at form g)
given_names at form g h = record { over = h.over; number = h.number; group = h.group; init = h.init; lower = refl; upper = refl; names = h.names }

parts_fit : (at : Place) (form : DirectiveWord) (given : Given) {w : List Token} → Parts form nothing w given → AreTokens w → MarkFits (directive_of at form given)
parts_fit at word_of.OpenMpLoop given d r = (λ e. given_names at word_of.OpenMpLoop given (loop_parts word_of.OpenMpLoop refl d r nothing_fits), λ e. absurd (true≢false (sym e)))
parts_fit at word_of.OpenAccLoop given d r = (λ e. given_names at word_of.OpenAccLoop given (loop_parts word_of.OpenAccLoop refl d r nothing_fits), λ e. absurd (true≢false (sym e)))
parts_fit at word_of.Routine given d r =
    let same : given ≡ nothing = no_parts word_of.Routine refl d in
    (λ e. absurd (true≢false (sym e)), λ e. (subst (λ g. OnlyNames (directive_of at word_of.Routine g)) (sym same) (given_names at word_of.Routine nothing nothing_fits), ap (λ (g : Given). names_or_none g.names) same))
parts_fit at _ given d r = (λ e. absurd (true≢false (sym e)), λ e. absurd (true≢false (sym e)))

asks_fit : {at : Place} {form : DirectiveWord} {w : List Token} {d : Directive} → Asks at form w (d ∷ []) → AreTokens w → MarkFits d
asks_fit (c.dimension (c.defines name m colon bound close a b e f g h)) r = (λ e. absurd (true≢false (sym e)), λ e. absurd (true≢false (sym e)))
asks_fit {at = at} {form = form} (c.of_parts {given = given} a p b) r = parts_fit at form given p r

pub line_fits : {at : Place} {w : List Token} {d : Directive} → IsLine at w (d ∷ []) → AreTokens w → MarkFits d
line_fits (c.asked b a) r = asks_fit a (begins_left b r)

-- READ AGAIN

record BeginsAgain (words : List (List ℕ)) (ws : List Token) (ts : List (List ℕ)) : Type 0 where
  rest : List Token
  is : Begins words ws rest
  have : texts rest ≡ ts

begins_again : (words : List (List ℕ)) (ws : List Token) (ts : List (List ℕ)) → texts ws ≡ words ++ ts → BeginsAgain words ws ts
begins_again [] ws ts h = record { rest = ws; is = c.none; have = h }
begins_again (x ∷ words) ws ts h =
    let d = cut ws x (words ++ ts) h in
    let u = begins_again words d.others ts d.have in
    record { rest = u.rest; is = subst (λ y. Begins (x ∷ words) y u.rest) (sym d.is) (c.next d.first d.text u.is); have = u.have }

-- a loop mark's form
pub record LoopForm (form : DirectiveWord) : Type 0 where
  pub among : IsAmong Part part.Private (parts form)
  pub of_parts : c.is_of_parts form ≡ true
  pub whole : (g : Given) → c.is_whole form g ≡ true
  pub untaken : (text : List ℕ) → is_reserved text ≡ false → is_taken form text ≡ false

taken_at : (b : Bool) → b ≡ false → (b || false) ≡ false
taken_at b e = rw e refl

pub mp_form : LoopForm word_of.OpenMpLoop
mp_form = record { among = c.here; of_parts = refl; whole = λ g. refl; untaken = λ text e. taken_at (is_reserved text) e }

pub acc_form : LoopForm word_of.OpenAccLoop
acc_form = record { among = c.here; of_parts = refl; whole = λ g. refl; untaken = λ text e. taken_at (is_reserved text) e }

item_again : (form : DirectiveWord) → LoopForm form → (t : Token) (n : List ℕ) → MarkName n → t.text ≡ n → free_item form t ≡ Some n
item_again form l t n a e =
    ap (λ x. option_and_then (unless_taken form) (name_text x)) e ∙ ap (λ b. option_and_then (unless_taken form) (cond b (Some n) None)) a.is_name.form ∙ ap (λ b. cond b None (Some n)) (l.untaken n a.free)

listed_again : (form : DirectiveWord) → LoopForm form → (s : Bool) (n : List ℕ) (ns : List (List ℕ)) (ws : List Token) → Each MarkName (n ∷ ns) →
    texts ws ≡ piece_texts (items true (map name_pieces (n ∷ ns)) s (sign false mark.Close [])) → Listed (List ℕ) (free_item form) ws [] (n ∷ ns)
listed_again form l s n [] ws a h =
    let d = cut ws n (codes ")" ∷ []) h in
    let e = cut d.others (codes ")") [] d.have in
    subst (λ y. Listed (List ℕ) (free_item form) y [] (n ∷ [])) (sym (d.is ∙ ap (λ y. d.first ∷ y) (e.is ∙ ap (λ y. e.first ∷ y) (all_read e.others e.have))))
    (c.last d.first e.first (item_again form l d.first n a.0 d.text) e.text)
listed_again form l s n (m ∷ ns) ws a h =
    let d = cut ws n (codes "," ∷ piece_texts (items true (map name_pieces (m ∷ ns)) true (sign false mark.Close []))) h in
    let e = cut d.others (codes ",") (piece_texts (items true (map name_pieces (m ∷ ns)) true (sign false mark.Close []))) d.have in
    let v = listed_again form l true m ns e.others a.1 e.have in
    subst (λ y. Listed (List ℕ) (free_item form) y [] (n ∷ m ∷ ns)) (sym (d.is ∙ ap (λ y. d.first ∷ y) e.is)) (c.more d.first e.first (item_again form l d.first n a.0 d.text) e.text v)

abbrev pub with_names : List (List ℕ) → Given
with_names [] = nothing
with_names (n ∷ ns) = record { names = Some (n ∷ ns); over = None; number = None; group = None; offset = false; init = false }

private_again : (form : DirectiveWord) → LoopForm form → (ns : List (List ℕ)) (ws : List Token) → Each MarkName ns → texts ws ≡ piece_texts (private_pieces ns []) → Parts form nothing ws (with_names ns)
private_again form l [] ws a h = subst (λ y. Parts form nothing y nothing) (sym (all_read ws h)) c.end
private_again form l (n ∷ ns) ws a h =
    let b = begins_again (opening part.Private) ws (piece_texts (items true (map name_pieces (n ∷ ns)) false (sign false mark.Close []))) h in
    c.one l.among b.is (c.private_list refl (listed_again form l false n ns b.rest a b.have)) c.end

pub loop_line : (form : DirectiveWord) → LoopForm form → (ns : List (List ℕ)) (at : Place) (ws : List Token) → Each MarkName ns → texts ws ≡ phrase form ++ piece_texts (private_pieces ns []) →
    IsLine at ws (directive_of at form (with_names ns) ∷ [])
loop_line form l ns at ws a h =
    let b = begins_again (phrase form) ws (piece_texts (private_pieces ns [])) h in
    c.asked b.is (c.of_parts l.of_parts (private_again form l ns b.rest a b.have) (l.whole (with_names ns)))

-- a mark that is the same, its place set aside
pub record MarkAgain (d : Directive) (ws : List Token) : Type 0 where
  pub mark : Directive
  pub line : IsLine (front_place ws) ws (mark ∷ [])
  pub word : mark.word ≡ d.word
  pub same : plain_directive mark ≡ plain_directive d

-- a mark that gives names alone
abbrev named_mark : DirectiveWord → List (List ℕ) → plain.Directive
named_mark word names = record { word = word; names = names; over = None; number = None; group = None; init = false; lower = None; upper = None }

only_names : (d : Directive) → OnlyNames d → plain_directive d ≡ named_mark d.word d.names
only_names d o =
    ap (λ x. record { word = d.word; names = d.names; over = x; number = d.number; group = d.group; init = d.init; lower = plain_option d.lower; upper = plain_option d.upper }) o.over
    ∙ ap (λ x. record { word = d.word; names = d.names; over = None; number = x; group = d.group; init = d.init; lower = plain_option d.lower; upper = plain_option d.upper }) o.number
    ∙ ap (λ x. record { word = d.word; names = d.names; over = None; number = None; group = x; init = d.init; lower = plain_option d.lower; upper = plain_option d.upper }) o.group
    ∙ ap (λ x. record { word = d.word; names = d.names; over = None; number = None; group = None; init = x; lower = plain_option d.lower; upper = plain_option d.upper }) o.init
    ∙ ap (λ x. record { word = d.word; names = d.names; over = None; number = None; group = None; init = false; lower = plain_option x; upper = plain_option d.upper }) o.lower
    ∙ ap (λ x. record { word = d.word; names = d.names; over = None; number = None; group = None; init = false; lower = None; upper = plain_option x }) o.upper

written_names : (at : Place) (word : DirectiveWord) (ns : List (List ℕ)) → plain_directive (directive_of at word (with_names ns)) ≡ named_mark word ns
written_names at word [] = refl
written_names at word (n ∷ ns) = refl

mark_same : (at : Place) (d : Directive) (word : DirectiveWord) → d.word ≡ word → OnlyNames d → plain_directive (directive_of at word (with_names d.names)) ≡ plain_directive d
mark_same at d word e o = written_names at word d.names ∙ ap (λ w. named_mark w d.names) (sym e) ∙ sym (only_names d o)

pub loop_again : (d : Directive) (word : DirectiveWord) → LoopForm word → d.word ≡ word → OnlyNames d → (ws : List Token) → texts ws ≡ phrase word ++ piece_texts (private_pieces d.names []) → MarkAgain d ws
loop_again d word l e o ws h =
    record { mark = directive_of (front_place ws) word (with_names d.names); line = loop_line word l d.names (front_place ws) ws o.names h; word = sym e; same = mark_same (front_place ws) d word e o }

pub routine_again : (d : Directive) → d.word ≡ word_of.Routine → OnlyNames d → d.names ≡ [] → (ws : List Token) → texts ws ≡ phrase word_of.Routine → MarkAgain d ws
routine_again d e o n ws h =
    let b = begins_again (phrase word_of.Routine) ws [] h in
    let ends : Parts word_of.Routine nothing b.rest nothing = subst (λ y. Parts word_of.Routine nothing y nothing) (sym (all_read b.rest b.have)) c.end in
    record {
      mark = directive_of (front_place ws) word_of.Routine nothing;
      line = c.asked b.is (c.of_parts refl ends refl);
      word = sym e;
      same = ap (λ w. named_mark w []) (sym e) ∙ ap (λ x. named_mark d.word x) (sym n) ∙ sym (only_names d o);
    }

-- THEIR PIECES

first_named : (s : Bool) (ns : List (List ℕ)) → Each MarkName ns → AreBehind (Sign mark.Open) (items true (map name_pieces ns) s (sign false mark.Close []))
first_named s [] a = closed (Sign mark.Open) (sign false mark.Close []) (refl, tt)
first_named s (n ∷ ns) a = mark_starts mark.Open (items true (map name_pieces (n ∷ ns)) s (sign false mark.Close [])) (a.0.is_name, refl, ends_follow (Word n) (more_items true (map name_pieces ns) (sign false mark.Close [])) refl (more ns a.1))
  where
    more : (ns : List (List ℕ)) → Each MarkName ns → Follows (more_items true (map name_pieces ns) (sign false mark.Close []))
    more [] a = (tt, refl, tt)
    more (n ∷ ns) a = (tt, refl, mark_starts mark.Comma (word true n (more_items true (map name_pieces ns) (sign false mark.Close []))) (a.0.is_name, refl, ends_follow (Word n) (more_items true (map name_pieces ns) (sign false mark.Close [])) refl (more ns a.1)))

private_stands : (t : List ℕ) (ns : List (List ℕ)) → Each MarkName ns → AreBehind (Word t) (private_pieces ns [])
private_stands t [] a = tt
private_stands t (n ∷ ns) a =
    (record { form = refl; lower = refl }, refl, ends_follow (Word (codes "private")) (bracketed true (map name_pieces (n ∷ ns)) false []) refl (tt, refl, first_named false (n ∷ ns) a))

pub open_mp_stands : (ns : List (List ℕ)) → Each MarkName ns → ArePieces (open_mp_pieces ns false [])
open_mp_stands ns a = (record { form = refl; lower = refl }, (record { form = refl; lower = refl }, refl, private_stands (codes "do") ns a))

pub open_acc_stands : (ns : List (List ℕ)) → Each MarkName ns → ArePieces (open_acc_pieces ns false [])
open_acc_stands ns a =
    (record { form = refl; lower = refl }, (record { form = refl; lower = refl }, refl, (record { form = refl; lower = refl }, refl, (record { form = refl; lower = refl }, refl, private_stands (codes "vector") ns a))))

pub routine_stands : ArePieces (pair (codes "routine") (codes "seq") false [])
routine_stands = (record { form = refl; lower = refl }, (record { form = refl; lower = refl }, refl, tt))
