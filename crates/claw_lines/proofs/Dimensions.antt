-- The bounds of a dimension, and its directive.
use Rattle.std.proofs.Common.{◌≡◌, ℕ, Bool, true, false, cond, ◌&&◌, List, [], ◌∷◌, Option, None, Some, refl, ap, sym, ◌∙◌, subst, codes, arith}
use Rattle.std.specs.Prelude.{option_map}
use Rattle.std.specs.Option.{option_and_then}
use Rattle.std.specs.Char.{is_ascii_alphabetic, is_ascii_digit}
use Rattle.std.proofs.lemmas.Bool.Decides.{nat_tests}
use Rattle.fort_tree.specs.declared.expr.Expr.{Expr}
use Rattle.fort_tree.specs.declared.expr.Expr.TheVariants.{Ref, One}
use Rattle.fort_tree.specs.declared.expr.Unary.TheVariants.{Minus}
use Rattle.fort_tree.specs.declared.place.Place.{Place}
use Rattle.fort_tree.specs.declared.statement.Token.{Token}
use Rattle.fort_tree.specs.declared.stmt.Directive.{Directive}
use Rattle.fort_tree.specs.declared.stmt.DirectiveWord.TheVariants as word
use Rattle.fort_tree.specs.Name.{is_name}
use Rattle.claw_lines.specs.Words.{number_of}
use Rattle.claw_lines.specs.Items.{is_text, unless_taken, free_item, literal_item, number_item}
use Rattle.claw_lines.specs.Forms as forms
use Rattle.claw_lines.specs.Forms.{Lower, Upper, Defines, dimension_of}
use Rattle.claw_lines.specs.Steps.{single, lower_first, signed_at, lower_bound, or_name, upper_bound, upper_of, named_front, dimension, dimension_with, dimension_upper, dimension_lower}
use Rattle.claw_lines.proofs.Listing.{value_or}
use Rattle.claw_lines.proofs.Fronts.{text_is, is_text-same, single-reads, reads-single}

-- ---- numbers, signs and names

unsigned_at : (b : Bool) (token : Token) (bound : Expr) → is_text token (codes "-") ≡ b → literal_item token ≡ Some bound → b ≡ false
unsigned_at false token bound is h = refl
unsigned_at true token bound is h =
    let no : None ≡ Some bound = sym (ap (λ text. option_map (number_item token.at) (number_of text)) (text_is token (codes "-") is)) ∙ h in cc

literal-unsigned : (token : Token) (bound : Expr) → literal_item token ≡ Some bound → is_text token (codes "-") ≡ false
literal-unsigned token bound h = unsigned_at (is_text token (codes "-")) token bound refl h

is_ascii_digit-alphabetic : (b : ℕ) → is_ascii_alphabetic b ≡ true → is_ascii_digit b ≡ false
is_ascii_digit-alphabetic b h = grind (arith, nat_tests)

first_of_three : (a b c : Bool) → (a && b && c) ≡ true → a ≡ true
first_of_three true b c h = refl
first_of_three false b c h = cc

number_of-name : (text : List ℕ) → is_name text ≡ true → number_of text ≡ None
number_of-name [] h = cc
number_of-name (b ∷ bs) h = let no = is_ascii_digit-alphabetic b (first_of_three (is_ascii_alphabetic b) _ _ h) in rw no refl

free-named : (b : Bool) (text id : List ℕ) → option_and_then (unless_taken word.Define) (cond b (Some text) None) ≡ Some id → b ≡ true
free-named true text id h = refl
free-named false text id h = cc

literal-name : (token : Token) (id : List ℕ) → free_item word.Define token ≡ Some id → literal_item token ≡ None
literal-name token id h =
    let named : is_name token.text ≡ true = free-named (is_name token.text) token.text id h in
    rw (number_of-name token.text named) refl

-- ---- the lower bound

pub lower-reads : {tokens rest : List Token} {bound : Expr} → Lower tokens rest bound → lower_bound tokens ≡ Some (bound, rest)
lower-reads (forms.plain {bound = bound} number h) = rw (literal-unsigned number bound h, h) refl
lower-reads (forms.minus sign number e h) = rw (is_text-same sign (codes "-") e, h) refl

plain_at : (o : Option Expr) (token : Token) (tokens : List Token) (r : Expr × List Token) → literal_item token ≡ o → option_map (λ bound. (bound, tokens)) o ≡ Some r →
    Lower (token ∷ tokens) r.1 r.0
plain_at None token tokens r e h = cc
plain_at (Some bound) token tokens r e h = subst (λ q. Lower (token ∷ tokens) q.1 q.0) (ap (value_or (bound, tokens)) h) (forms.plain token e)

minus_at : (o : Option Expr) (sign token : Token) (tokens : List Token) (r : Expr × List Token) → is_text sign (codes "-") ≡ true → literal_item token ≡ o →
    option_map (signed_at sign.at) (option_map (λ bound. (bound, tokens)) o) ≡ Some r → Lower (sign ∷ token ∷ tokens) r.1 r.0
minus_at None sign token tokens r is e h = cc
minus_at (Some bound) sign token tokens r is e h =
    subst (λ q. Lower (sign ∷ token ∷ tokens) q.1 q.0) (ap (value_or (One Minus bound sign.at, tokens)) h) (forms.minus sign token (text_is sign (codes "-") is) e)

lower_at : (c : Bool) (token : Token) (tokens : List Token) (r : Expr × List Token) → is_text token (codes "-") ≡ c →
    cond c (option_map (signed_at token.at) (lower_first tokens)) (lower_first (token ∷ tokens)) ≡ Some r → Lower (token ∷ tokens) r.1 r.0
lower_at false token tokens r is h = plain_at (literal_item token) token tokens r refl h
lower_at true token [] r is h = cc
lower_at true token (number ∷ tokens) r is h = minus_at (literal_item number) token number tokens r is refl h

pub reads-lower : (tokens : List Token) (r : Expr × List Token) → lower_bound tokens ≡ Some r → Lower tokens r.1 r.0
reads-lower [] r h = cc
reads-lower (token ∷ tokens) r h = lower_at (is_text token (codes "-")) token tokens r refl h

-- ---- the upper bound

upper-reads : {token : Token} {bound : Expr} → Upper token bound → upper_bound token ≡ Some bound
upper-reads {token = token} (forms.number h) = ap (or_name token) h
upper-reads {token = token} (forms.name {id = id} h) = ap (or_name token) (literal-name token id h) ∙ ap (option_map (λ name. Ref name None token.at)) h

name_at : (o : Option (List ℕ)) (token : Token) (bound : Expr) → free_item word.Define token ≡ o → option_map (λ id. Ref id None token.at) o ≡ Some bound → Upper token bound
name_at None token bound e h = cc
name_at (Some id) token bound e h = subst (λ b. Upper token b) (ap (value_or (Ref id None token.at)) h) (forms.name e)

upper_at : (o : Option Expr) (token : Token) (bound : Expr) → literal_item token ≡ o → or_name token o ≡ Some bound → Upper token bound
upper_at (Some b) token bound e h = forms.number (e ∙ h)
upper_at None token bound e h = name_at (free_item word.Define token) token bound refl h

reads-upper : (token : Token) (bound : Expr) → upper_bound token ≡ Some bound → Upper token bound
reads-upper token bound h = upper_at (literal_item token) token bound refl h

-- a colon, the upper bound and a `)`
record Closing (tokens : List Token) (u : Expr × List Token) : Type 0 where
  colon : Token
  bound : Token
  close : Token
  splits : colon.text ≡ codes ":"
  upper : Upper bound u.0
  closes : close.text ≡ codes ")"
  whole : colon ∷ bound ∷ close ∷ u.1 ≡ tokens

closing_at : (c : Bool) (colon : Token) (tokens : List Token) (u : Expr × List Token) → is_text colon (codes ":") ≡ c → cond c (single upper_bound tokens) None ≡ Some u →
    Closing (colon ∷ tokens) u
closing_at false colon tokens u is h = cc
closing_at true colon tokens u is h =
    let s = reads-single upper_bound tokens u h in
    record { colon = colon; bound = s.token; close = s.close; splits = text_is colon (codes ":") is; upper = reads-upper s.token u.0 s.is; closes = s.closes; whole = ap (λ l. colon ∷ l) s.whole }

reads-closing : (tokens : List Token) (u : Expr × List Token) → upper_of tokens ≡ Some u → Closing tokens u
reads-closing [] u h = cc
reads-closing (colon ∷ tokens) u h = closing_at (is_text colon (codes ":")) colon tokens u refl h

-- ---- the name in front

record Opening (tokens : List Token) (n : List ℕ × List Token) : Type 0 where
  name : Token
  mark : Token
  is : free_item word.Define name ≡ Some n.0
  begins : mark.text ≡ codes "("
  whole : name ∷ mark ∷ n.1 ≡ tokens

opening_at : (c : Bool) (o : Option (List ℕ)) (token mark : Token) (rest : List Token) (n : List ℕ × List Token) → is_text mark (codes "(") ≡ c → free_item word.Define token ≡ o →
    cond c (option_map (λ id. (id, rest)) o) None ≡ Some n → Opening (token ∷ mark ∷ rest) n
opening_at false o token mark rest n is e h = cc
opening_at true None token mark rest n is e h = cc
opening_at true (Some id) token mark rest n is e h =
    subst (λ q. Opening (token ∷ mark ∷ rest) q) (ap (value_or (id, rest)) h) (record { name = token; mark = mark; is = e; begins = text_is mark (codes "(") is; whole = refl })

reads-opening : (tokens : List Token) (n : List ℕ × List Token) → named_front tokens ≡ Some n → Opening tokens n
reads-opening [] n h = cc
reads-opening (token ∷ []) n h = cc
reads-opening (token ∷ mark ∷ rest) n h = opening_at (is_text mark (codes "(")) (free_item word.Define token) token mark rest n refl refl h

-- ---- the directive

named-reads : (token mark : Token) (rest : List Token) (id : List ℕ) → free_item word.Define token ≡ Some id → mark.text ≡ codes "(" →
    named_front (token ∷ mark ∷ rest) ≡ Some (id, rest)
named-reads token mark rest id is e = rw (is_text-same mark (codes "(") e, is) refl

upper_of-reads : (colon bound close : Token) (rest : List Token) (upper : Expr) → colon.text ≡ codes ":" → Upper bound upper → close.text ≡ codes ")" →
    upper_of (colon ∷ bound ∷ close ∷ rest) ≡ Some (upper, rest)
upper_of-reads colon bound close rest upper c u e =
    ap (λ b. cond b (single upper_bound (bound ∷ close ∷ rest)) None) (is_text-same colon (codes ":") c) ∙ single-reads upper_bound bound close rest upper (upper-reads u) e

pub defines-reads : {at : Place} {tokens rest : List Token} {directive : Directive} → Defines at tokens rest directive → dimension at tokens ≡ Some (directive, rest)
defines-reads {at = at} (forms.defines {tokens = tokens} {rest = rest} {id = id} {lower = lower} {upper = upper} name mark colon bound close n o l c u e) =
    ap (option_and_then (dimension_lower at)) (named-reads name mark tokens id n o)
    ∙ ap (option_and_then (dimension_upper at (id, tokens))) (lower-reads l)
    ∙ ap (option_map (dimension_with at (id, tokens) (lower, colon ∷ bound ∷ close ∷ rest))) (upper_of-reads colon bound close rest upper c u e)

abbrev Defined : Place → List Token → Directive × List Token → Type 0
Defined at tokens r = Defines at tokens r.1 r.0

upper_step : (at : Place) (tokens : List Token) (n : List ℕ × List Token) (l : Expr × List Token) (o : Option (Expr × List Token)) (r : Directive × List Token) →
    named_front tokens ≡ Some n → lower_bound n.1 ≡ Some l → upper_of l.1 ≡ o → option_map (dimension_with at n l) o ≡ Some r → Defined at tokens r
upper_step at tokens n l None r en el eu h = cc
upper_step at tokens n l (Some u) r en el eu h =
    let front = reads-opening tokens n en in
    let back = reads-closing l.1 u eu in
    let low : Lower n.1 (back.colon ∷ back.bound ∷ back.close ∷ u.1) l.0 = subst (λ ts. Lower n.1 ts l.0) (sym back.whole) (reads-lower n.1 l el) in
    subst (λ q. Defined at tokens q) (ap (value_or (dimension_with at n l u)) h)
    (subst (λ ts. Defines at ts u.1 (dimension_of at n.0 l.0 u.0)) front.whole
    (forms.defines front.name front.mark back.colon back.bound back.close front.is front.begins low back.splits back.upper back.closes))

lower_step : (at : Place) (tokens : List Token) (n : List ℕ × List Token) (o : Option (Expr × List Token)) (r : Directive × List Token) →
    named_front tokens ≡ Some n → lower_bound n.1 ≡ o → option_and_then (dimension_upper at n) o ≡ Some r → Defined at tokens r
lower_step at tokens n None r en el h = cc
lower_step at tokens n (Some l) r en el h = upper_step at tokens n l (upper_of l.1) r en el refl h

name_step : (at : Place) (tokens : List Token) (o : Option (List ℕ × List Token)) (r : Directive × List Token) → named_front tokens ≡ o →
    option_and_then (dimension_lower at) o ≡ Some r → Defined at tokens r
name_step at tokens None r en h = cc
name_step at tokens (Some n) r en h = lower_step at tokens n (lower_bound n.1) r en refl h

pub reads-defines : (at : Place) (tokens : List Token) (r : Directive × List Token) → dimension at tokens ≡ Some r → Defines at tokens r.1 r.0
reads-defines at tokens r h = name_step at tokens (named_front tokens) r refl h
