-- What a line asks for.
use Rattle.std.proofs.Common.{◌≡◌, ℕ, ◌⊎◌, inl, inr, Bool, true, false, cond, List, [], ◌∷◌, ◌++◌, None, Some, refl, ap, sym, ◌∙◌, subst, codes}
use Rattle.fort_tree.specs.declared.place.Place.{Place}
use Rattle.fort_tree.specs.declared.statement.Line.{Line}
use Rattle.fort_tree.specs.declared.statement.Token.{Token}
use Rattle.fort_tree.specs.declared.stmt.Directive.{Directive}
use Rattle.fort_tree.specs.declared.stmt.DirectiveWord.{DirectiveWord}
use Rattle.fort_tree.specs.declared.stmt.DirectiveWord.TheVariants as word
use Rattle.claw_lines.specs.declared.given.Given.{Given}
use Rattle.claw_lines.specs.declared.part.Part.{Part}
use Rattle.claw_lines.specs.declared.part.Part.TheVariants as part
use Rattle.claw_lines.specs.declared.unread.Unread.{Unread}
use Rattle.std.specs.Prelude.{Result, Ok, Err, IfOk}
use Rattle.claw_lines.specs.Words.{forms as form_list, phrase, opening}
use Rattle.claw_lines.specs.Forms as forms
use Rattle.claw_lines.specs.Forms.{IsAmong, Begins, Parts, Defines, Asks, IsLine, Directs, nothing, is_of_parts, is_whole, directive_of, sentinel_place}
use Rattle.claw_lines.specs.Items.{is_text}
use Rattle.claw_lines.specs.Steps.{after, found, dimension}
use Rattle.std.specs.Option.{option_and_then}
use Rattle.claw_lines.proofs.Listing.{value_or}
use Rattle.claw_lines.proofs.Fronts.{after-begins, begins-after, found-is, none-found}
use Rattle.claw_lines.proofs.Apart.{apart-clash, front_of, form-reaches, among-of_parts, of_parts-among}
use Rattle.claw_lines.proofs.PartLaws.{parts-unique}
use Rattle.claw_lines.proofs.Dimensions.{defines-reads, reads-defines}

-- ---- forms of parts

no_parts : {at : Place} {form : DirectiveWord} {tokens : List Token} {directives : List Directive} → is_of_parts form ≡ true →
    ((given : Given) → Parts form nothing tokens given → is_whole form given ≡ true → ⊥) → Asks at form tokens directives → ⊥
no_parts of never (forms.dimension d) = cc
no_parts of never (forms.both d b p) = cc
no_parts of never (forms.of_parts {given = given} is p w) = never given p w

-- the parts are none
pub parts-none : (at : Place) (form : DirectiveWord) (tokens : List Token) → is_of_parts form ≡ true → ((given : Given) → Parts form nothing tokens given → ⊥) →
    (directives : List Directive) → Asks at form tokens directives → ⊥
parts-none at form tokens of never directives a = no_parts of (λ given p w. never given p) a

-- names are missing
pub names-missing : (at : Place) (form : DirectiveWord) (tokens : List Token) (given : Given) → is_of_parts form ≡ true → Parts form nothing tokens given → is_whole form given ≡ false →
    (directives : List Directive) → Asks at form tokens directives → ⊥
names-missing at form tokens given of p w directives a =
    no_parts of (λ g q v. let same : is_whole form given ≡ is_whole form g = ap (is_whole form) (parts-unique p q) in let never : false ≡ true = sym w ∙ same ∙ v in cc) a

-- ---- `define dimension`

-- nothing stands behind it, or `parallelize`
abbrev pub Behind : List Token → Type 0
Behind more = (more ≡ []) ⊎ ((behind : List Token) × (Begins (codes "parallelize" ∷ []) more behind × ((given : Given) × Parts word.Parallelize nothing behind given)))

same_rest : {at : Place} {tokens rest : List Token} {directive : Directive} (r : Directive × List Token) → dimension at tokens ≡ Some r → Defines at tokens rest directive → rest ≡ r.1
same_rest {rest = rest} {directive = directive} r h d = let same : (directive, rest) ≡ r = ap (value_or (directive, rest)) (sym (defines-reads d) ∙ h) in ap (λ q. q.1) same

pub dimension-behind : {at : Place} {tokens : List Token} {directives : List Directive} (r : Directive × List Token) → dimension at tokens ≡ Some r →
    Asks at word.Define tokens directives → Behind r.1
dimension-behind r h (forms.dimension d) = inl (sym (same_rest r h d))
dimension-behind r h (forms.both {behind = behind} {given = given} d b p) = subst Behind (same_rest r h d) (inr (behind, (b, (given, p))))
dimension-behind r h (forms.of_parts is p w) = cc

pub dimension-none : (at : Place) (tokens : List Token) → dimension at tokens ≡ None → (directives : List Directive) → Asks at word.Define tokens directives → ⊥
dimension-none at tokens h directives (forms.dimension d) = let is = defines-reads d in cc
dimension-none at tokens h directives (forms.both d b p) = let is = defines-reads d in cc
dimension-none at tokens h directives (forms.of_parts is p w) = cc

-- something stands behind it that isn't `parallelize`
pub behind-other : (at : Place) (tokens : List Token) (r : Directive × List Token) → dimension at tokens ≡ Some r → (r.1 ≡ [] → ⊥) →
    after (codes "parallelize" ∷ []) r.1 ≡ None → (directives : List Directive) → Asks at word.Define tokens directives → ⊥
behind-other at tokens r h some never directives a = elim (dimension-behind r h a) [
  | inl e ↦ some e
  | inr b ↦ let is = after-begins b.1.0 in cc
]

-- `parallelize` stands behind it, and no parts of it behind that
pub behind-no_parts : (at : Place) (tokens behind : List Token) (r : Directive × List Token) → dimension at tokens ≡ Some r → (r.1 ≡ [] → ⊥) →
    after (codes "parallelize" ∷ []) r.1 ≡ Some behind → ((given : Given) → Parts word.Parallelize nothing behind given → ⊥) →
    (directives : List Directive) → Asks at word.Define tokens directives → ⊥
behind-no_parts at tokens behind r h some is never directives a = elim (dimension-behind r h a) [
  | inl e ↦ some e
  | inr b ↦
      let same : b.0 ≡ behind = ap (value_or b.0) (sym (after-begins b.1.0) ∙ is) in
      never b.1.1.0 (subst (λ ts. Parts word.Parallelize nothing ts b.1.1.0) same b.1.1.1)
]

pub dimension-alone : (at : Place) (tokens : List Token) (r : Directive × List Token) → dimension at tokens ≡ Some r → r.1 ≡ [] → Asks at word.Define tokens (r.0 ∷ [])
dimension-alone at tokens r h e = forms.dimension (subst (λ rest. Defines at tokens rest r.0) e (reads-defines at tokens r h))

pub dimension-both : (at : Place) (tokens behind : List Token) (r : Directive × List Token) (given : Given) → dimension at tokens ≡ Some r →
    after (codes "parallelize" ∷ []) r.1 ≡ Some behind → Parts word.Parallelize nothing behind given → Asks at word.Define tokens (r.0 ∷ directive_of at word.Parallelize given ∷ [])
dimension-both at tokens behind r given h is p = forms.both (reads-defines at tokens r h) (begins-after (codes "parallelize" ∷ []) r.1 behind is) p

-- ---- lines

asked-among : {at : Place} {form : DirectiveWord} {tokens : List Token} {directives : List Directive} → Asks at form tokens directives → IsAmong DirectiveWord form form_list
asked-among (forms.dimension d) = forms.here
asked-among (forms.both d b p) = forms.here
asked-among (forms.of_parts {form = form} is p w) = of_parts-among form is

pub line-none : (at : Place) (tokens : List Token) → found phrase form_list tokens ≡ None → (directives : List Directive) → IsLine at tokens directives → ⊥
line-none at tokens h directives (forms.asked b a) = none-found phrase h (asked-among a) b

-- behind `parallelize` no part begins with `forward`
two_at : (b : Bool) (texts more : List (List ℕ)) (tokens : List Token) → after (texts ++ more) tokens ≡ option_and_then (after more) (after texts tokens) →
    cond b (after (texts ++ more) tokens) None ≡ option_and_then (after more) (cond b (after texts tokens) None)
two_at true texts more tokens h = h
two_at false texts more tokens h = refl

after-two : (texts more : List (List ℕ)) (tokens : List Token) → after (texts ++ more) tokens ≡ option_and_then (after more) (after texts tokens)
after-two [] more tokens = refl
after-two (text ∷ texts) more [] = refl
after-two (text ∷ texts) more (token ∷ tokens) = two_at (is_text token text) texts more tokens (after-two texts more tokens)

no_words : {text : List ℕ} {rest : List Token} → Begins (text ∷ []) [] rest → ⊥
no_words {text = text} b = let is = after-begins b in cc

forward_part : (which : Part) {tokens rest behind : List Token} → Begins (codes "forward" ∷ []) tokens rest → Begins (opening which) tokens behind → ⊥
forward_part part.List b c = apart-clash (codes "forward" ∷ []) (opening part.List) refl b c
forward_part which b c = apart-clash (codes "forward" ∷ []) (opening which) refl b c

forward_parts : {given after_it : Given} {tokens rest : List Token} → Parts word.Parallelize given tokens after_it → Begins (codes "forward" ∷ []) tokens rest → ⊥
forward_parts forms.end b = no_words b
forward_parts (forms.one {which = which} a c t p) b = forward_part which b c

-- the tokens behind `parallelize`, where they begin with `parallelize forward`
forward_behind : (tokens rest behind : List Token) → after (phrase word.Forward) tokens ≡ Some rest → after (phrase word.Parallelize) tokens ≡ Some behind →
    after (codes "forward" ∷ []) behind ≡ Some rest
forward_behind tokens rest behind f p = ap (option_and_then (after (codes "forward" ∷ []))) (sym p) ∙ sym (after-two (phrase word.Parallelize) (codes "forward" ∷ []) tokens) ∙ f

forward-clash : {tokens rest behind : List Token} {given : Given} → Begins (phrase word.Forward) tokens rest → Begins (phrase word.Parallelize) tokens behind →
    Parts word.Parallelize nothing behind given → ⊥
forward-clash {tokens = tokens} {rest = rest} {behind = behind} f b p =
    forward_parts p (begins-after (codes "forward" ∷ []) behind rest (forward_behind tokens rest behind (after-begins f) (after-begins b)))

no_front : (first : DirectiveWord) → front_of first word.Define ≡ true → ⊥
no_front word.Forward h = cc
no_front _ h = cc

parts_clash : {tokens behind rest : List Token} {given : Given} (first form : DirectiveWord) → front_of first form ≡ true → Begins (phrase first) tokens rest →
    Begins (phrase form) tokens behind → Parts form nothing behind given → ⊥
parts_clash word.Forward word.Parallelize says f b p = forward-clash f b p
parts_clash _ _ says f b p = cc

other_clash : {at : Place} {tokens behind : List Token} {form : DirectiveWord} {directives : List Directive} (first : DirectiveWord) (rest : List Token) →
    front_of first form ≡ true → Begins (phrase first) tokens rest → Begins (phrase form) tokens behind → Asks at form behind directives → ⊥
other_clash first rest says f b (forms.dimension d) = no_front first says
other_clash first rest says f b (forms.both d c p) = no_front first says
other_clash first rest says f b (forms.of_parts {form = form} is p w) = parts_clash first form says f b p

-- the form of a line is the one that is found
pub line-found : {at : Place} {form : DirectiveWord} {tokens behind : List Token} {directives : List Directive} → Begins (phrase form) tokens behind →
    Asks at form behind directives → found phrase form_list tokens ≡ Some (form, behind)
line-found b a = elim (form-reaches (asked-among a) b) [
  | inl h ↦ h
  | inr o ↦ absurd (other_clash o.found o.rest o.says o.begins b a)
]

abbrev pub Asked : Place → List Directive → DirectiveWord × List Token → Type 0
Asked at directives r = Asks at r.0 r.1 directives

pub line-asks : (at : Place) (tokens : List Token) (r : DirectiveWord × List Token) (directives : List Directive) → found phrase form_list tokens ≡ Some r →
    IsLine at tokens directives → Asked at directives r
line-asks at tokens r directives h (forms.asked {form = form} {behind = behind} b a) =
    let same : (form, behind) ≡ r = ap (value_or (form, behind)) (sym (line-found b a) ∙ h) in subst (Asked at directives) same a

pub line-is : (at : Place) (tokens : List Token) (r : DirectiveWord × List Token) (directives : List Directive) → found phrase form_list tokens ≡ Some r →
    Asks at r.0 r.1 directives → IsLine at tokens directives
line-is at tokens r directives h a = forms.asked (found-is phrase form_list tokens r h).begins a

pub found-of_parts : (tokens : List Token) (r : DirectiveWord × List Token) → found phrase form_list tokens ≡ Some r → (r.0 ≡ word.Define → ⊥) → is_of_parts r.0 ≡ true
found-of_parts tokens r h other = among-of_parts r.0 (found-is phrase form_list tokens r h).among other

pub ok_line : (at : Place) (tokens : List Token) (r : DirectiveWord × List Token) (result : Result (List Directive) Unread) → found phrase form_list tokens ≡ Some r →
    IfOk result (λ directives. Asks at r.0 r.1 directives) → IfOk result (λ directives. IsLine at tokens directives)
ok_line at tokens r (Ok directives) h a = line-is at tokens r directives h a
ok_line at tokens r (Err why) h a = a

pub line_not : (at : Place) (tokens : List Token) (r : DirectiveWord × List Token) → found phrase form_list tokens ≡ Some r →
    ((directives : List Directive) → Asks at r.0 r.1 directives → ⊥) → (directives : List Directive) → IsLine at tokens directives → ⊥
line_not at tokens r h nothing_asked directives l = nothing_asked directives (line-asks at tokens r directives h l)

pub ok_parts : (at : Place) (form : DirectiveWord) (tokens : List Token) (given : Given) (directive : Directive) (result : Result (List Directive) Unread) →
    is_of_parts form ≡ true → Parts form nothing tokens given → is_whole form given ≡ true → directive ≡ directive_of at form given →
    IfOk result (λ directives. directives ≡ directive ∷ []) → IfOk result (λ directives. Asks at form tokens directives)
ok_parts at form tokens given directive (Ok directives) of p w d e =
    subst (Asks at form tokens) (sym (e ∙ ap (λ x. x ∷ []) d)) (forms.of_parts of p w)
ok_parts at form tokens given directive (Err why) of p w d e = e

-- ---- one reading

abbrev Both : Directive → List Token → Directive × List Token
Both directive rest = (directive, rest)

same_dimension : {at : Place} {tokens rest others : List Token} {directive other : Directive} → Defines at tokens rest directive → Defines at tokens others other →
    Both directive rest ≡ Both other others
same_dimension {rest = rest} {directive = directive} d e = ap (value_or (directive, rest)) (sym (defines-reads d) ∙ defines-reads e)

no_word : {text : List ℕ} {tokens rest : List Token} → tokens ≡ [] → Begins (text ∷ []) tokens rest → ⊥
no_word {text = text} {rest = rest} e b = no_words (subst (λ ts. Begins (text ∷ []) ts rest) e b)

dimension_same : {at : Place} {tokens : List Token} {directive : Directive} {others : List Directive} → Defines at tokens [] directive → Asks at word.Define tokens others →
    directive ∷ [] ≡ others
dimension_same d (forms.dimension e) = ap (λ q. q.0 ∷ []) (same_dimension d e)
dimension_same d (forms.both e b p) = absurd (no_word (sym (ap (λ q. q.1) (same_dimension d e))) b)
dimension_same d (forms.of_parts is p w) = cc

both_same : {at : Place} {tokens more behind : List Token} {directive : Directive} {given : Given} {others : List Directive} → Defines at tokens more directive →
    Begins (codes "parallelize" ∷ []) more behind → Parts word.Parallelize nothing behind given → Asks at word.Define tokens others →
    directive ∷ directive_of at word.Parallelize given ∷ [] ≡ others
both_same d b p (forms.dimension e) = absurd (no_word (ap (λ q. q.1) (same_dimension d e)) b)
both_same {at = at} {behind = behind} {given = given} d b p (forms.both {behind = last} {directive = other} {given = that} e c q) =
    let rests = ap (λ r. r.1) (same_dimension d e) in
    let same : behind ≡ last = ap (value_or behind) (sym (after-begins b) ∙ ap (after (codes "parallelize" ∷ [])) rests ∙ after-begins c) in
    let gives : given ≡ that = parts-unique (subst (λ ts. Parts word.Parallelize nothing ts given) same p) q in
    ap (λ r. r.0 ∷ directive_of at word.Parallelize given ∷ []) (same_dimension d e) ∙ ap (λ g. other ∷ directive_of at word.Parallelize g ∷ []) gives
both_same d b p (forms.of_parts is q w) = cc

parts_same : {at : Place} {form : DirectiveWord} {tokens : List Token} {given : Given} {others : List Directive} → is_of_parts form ≡ true → Parts form nothing tokens given →
    Asks at form tokens others → directive_of at form given ∷ [] ≡ others
parts_same is p (forms.dimension d) = cc
parts_same is p (forms.both d b q) = cc
parts_same {at = at} {form = form} is p (forms.of_parts other q w) = ap (λ g. directive_of at form g ∷ []) (parts-unique p q)

asks-unique : {at : Place} {form : DirectiveWord} {tokens : List Token} {directives others : List Directive} → Asks at form tokens directives → Asks at form tokens others →
    directives ≡ others
asks-unique (forms.dimension d) a = dimension_same d a
asks-unique (forms.both d b p) a = both_same d b p a
asks-unique (forms.of_parts is p w) a = parts_same is p a

line-unique : (at : Place) (tokens : List Token) (directives others : List Directive) → IsLine at tokens directives → IsLine at tokens others → directives ≡ others
line-unique at tokens directives others (forms.asked {form = form} {behind = behind} b a) l =
    asks-unique a (line-asks at tokens (form, behind) others (line-found b a) l)

pub directs-unique : (line : Line) (directives others : List Directive) → Directs line directives → Directs line others → directives ≡ others
directs-unique line directives others d e = line-unique (sentinel_place line) line.tokens directives others d.form e.form
