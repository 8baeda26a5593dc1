-- The parts of a form, one after the other.
use Rattle.std.proofs.lemmas.Bool.Decides.{nat_tests}
use Rattle.std.proofs.Common.{◌≡◌, ◌==◌, ℕ, ◌<◌, ◌≤◌, Bool, true, false, cond, List, [], ◌∷◌, length, Option, None, Some, is_some, refl, ap, sym, ◌∙◌, subst, arith}
use Rattle.std.specs.Option.{option_and_then}
use Rattle.fort_tree.specs.declared.statement.Token.{Token}
use Rattle.fort_tree.specs.declared.stmt.DirectiveWord.{DirectiveWord}
use Rattle.claw_lines.specs.declared.given.Given.{Given}
use Rattle.claw_lines.specs.declared.part.Part.{Part}
use Rattle.claw_lines.specs.declared.part.Part.TheVariants as part
use Rattle.claw_lines.specs.Words.{opening, parts}
use Rattle.claw_lines.specs.Items.{free_item, position_item, count_item}
use Rattle.claw_lines.specs.Forms as forms
use Rattle.claw_lines.specs.Forms.{IsAmong, Begins, Listed, Takes, Parts}
use Rattle.claw_lines.specs.Steps.{found, listed_from, single, once, with_names, with_over, with_group, with_number, take_part, next_part}
use Rattle.claw_lines.proofs.Listing.{value_or}
use Rattle.claw_lines.proofs.Fronts.{begins-shorter, listed-reads, reads-listed, listed-shorter, single-reads, reads-single, found-is}
use Rattle.claw_lines.proofs.Apart.{part-found}

-- ---- one part

pub takes-reads : {form : DirectiveWord} {before after_it : Given} {which : Part} {tokens rest : List Token} → Takes form before which tokens rest after_it →
    take_part form before which tokens ≡ Some (after_it, rest)
takes-reads (forms.list e l) = rw (e, listed-reads l []) refl
takes-reads (forms.data_list e l) = rw (e, listed-reads l []) refl
takes-reads (forms.private_list e l) = rw (e, listed-reads l []) refl
takes-reads (forms.over e l) = rw (e, listed-reads l []) refl
takes-reads {form = form} (forms.group {rest = rest} {id = id} token close e is c) = rw (e, single-reads (free_item form) token close rest id is c) refl
takes-reads (forms.collapse {rest = rest} {count = count} token close e is c) = rw (e, single-reads count_item token close rest count is c) refl
takes-reads (forms.offset e) = rw e refl
takes-reads (forms.init e) = rw e refl

pub none-is : {A : Type 0} (o : Option A) → is_some o ≡ false → o ≡ None
none-is None h = refl
none-is (Some x) h = cc

-- it wasn't given before, and this was read
record Once (A : Type 0) (b : Bool) (with : A → Given) (read : Option (A × List Token)) (r : Given × List Token) : Type 0 where
  first : b ≡ false
  value : A × List Token
  reads : read ≡ Some value
  gives : (with value.0, value.1) ≡ r

once-reads : {A : Type 0} (b : Bool) (with : A → Given) (read : Option (A × List Token)) (r : Given × List Token) → once b with read ≡ Some r → Once A b with read r
once-reads true with read r h = cc
once-reads false with None r h = cc
once-reads false with (Some x) r h = record { first = refl; value = x; reads = refl; gives = ap (value_or (with x.0, x.1)) h }

flag-reads : (b : Bool) (x r : Given × List Token) → cond b None (Some x) ≡ Some r → (b ≡ false) × (x ≡ r)
flag-reads true x r h = cc
flag-reads false x r h = (refl, ap (value_or x) h)

abbrev Taken : DirectiveWord → Given → Part → List Token → Given × List Token → Type 0
Taken form before which tokens r = Takes form before which tokens r.1 r.0

pub reads-takes : (form : DirectiveWord) (before : Given) (which : Part) (tokens : List Token) (r : Given × List Token) → take_part form before which tokens ≡ Some r →
    Taken form before which tokens r
reads-takes form before part.List tokens r h =
    let o = once-reads (is_some before.names) (with_names before) (listed_from (free_item form) [] tokens) r h in
    subst (λ q. Taken form before part.List tokens q) o.gives (forms.list (none-is before.names o.first) (reads-listed (free_item form) tokens o.value o.reads))
reads-takes form before part.Data tokens r h =
    let o = once-reads (is_some before.names) (with_names before) (listed_from (free_item form) [] tokens) r h in
    subst (λ q. Taken form before part.Data tokens q) o.gives (forms.data_list (none-is before.names o.first) (reads-listed (free_item form) tokens o.value o.reads))
reads-takes form before part.Private tokens r h =
    let o = once-reads (is_some before.names) (with_names before) (listed_from (free_item form) [] tokens) r h in
    subst (λ q. Taken form before part.Private tokens q) o.gives (forms.private_list (none-is before.names o.first) (reads-listed (free_item form) tokens o.value o.reads))
reads-takes form before part.Over tokens r h =
    let o = once-reads (is_some before.over) (with_over before) (listed_from (position_item form) [] tokens) r h in
    subst (λ q. Taken form before part.Over tokens q) o.gives (forms.over (none-is before.over o.first) (reads-listed (position_item form) tokens o.value o.reads))
reads-takes form before part.Group tokens r h =
    let o = once-reads (is_some before.group) (with_group before) (single (free_item form) tokens) r h in
    let s = reads-single (free_item form) tokens o.value o.reads in
    subst (λ q. Taken form before part.Group tokens q) o.gives
    (subst (λ ts. Takes form before part.Group ts o.value.1 (with_group before o.value.0)) s.whole (forms.group s.token s.close (none-is before.group o.first) s.is s.closes))
reads-takes form before part.Collapse tokens r h =
    let o = once-reads (is_some before.number) (with_number before) (single count_item tokens) r h in
    let s = reads-single count_item tokens o.value o.reads in
    subst (λ q. Taken form before part.Collapse tokens q) o.gives
    (subst (λ ts. Takes form before part.Collapse ts o.value.1 (with_number before o.value.0)) s.whole (forms.collapse s.token s.close (none-is before.number o.first) s.is s.closes))
reads-takes form before part.Offset tokens r h =
    let f = flag-reads before.offset (record before { offset = true }, tokens) r h in
    subst (λ q. Taken form before part.Offset tokens q) f.1 (forms.offset f.0)
reads-takes form before part.Init tokens r h =
    let f = flag-reads before.init (record before { init = true }, tokens) r h in
    subst (λ q. Taken form before part.Init tokens q) f.1 (forms.init f.0)

takes-shorter : {form : DirectiveWord} {before after_it : Given} {which : Part} {tokens rest : List Token} → Takes form before which tokens rest after_it → length rest ≤ length tokens
takes-shorter (forms.list e l) = listed-shorter l
takes-shorter (forms.data_list e l) = listed-shorter l
takes-shorter (forms.private_list e l) = listed-shorter l
takes-shorter (forms.over e l) = listed-shorter l
takes-shorter (forms.group token close e is c) = omega arith
takes-shorter (forms.collapse token close e is c) = omega arith
takes-shorter (forms.offset e) = omega arith
takes-shorter (forms.init e) = omega arith

-- ---- the next part

-- the part in front, and what it gives
pub record Step (form : DirectiveWord) (given : Given) (tokens : List Token) (r : Given × List Token) : Type 0 where
  pub which : Part
  pub behind : List Token
  pub among : IsAmong Part which (parts form)
  pub begins : Begins (opening which) tokens behind
  pub takes : Takes form given which behind r.1 r.0

step_at : (form : DirectiveWord) (given : Given) (tokens : List Token) (o : Option (Part × List Token)) (r : Given × List Token) → found opening (parts form) tokens ≡ o →
    option_and_then (λ f. take_part form given f.0 f.1) o ≡ Some r → Step form given tokens r
step_at form given tokens None r e h = cc
step_at form given tokens (Some f) r e h =
    let is = found-is opening (parts form) tokens f e in
    record { which = f.0; behind = f.1; among = is.among; begins = is.begins; takes = reads-takes form given f.0 f.1 r h }

pub next-is : (form : DirectiveWord) (given : Given) (tokens : List Token) (r : Given × List Token) → next_part form given tokens ≡ Some r → Step form given tokens r
next-is form given tokens r h = step_at form given tokens (found opening (parts form) tokens) r refl h

pub next-reads : {form : DirectiveWord} {given between : Given} {which : Part} {tokens behind rest : List Token} → IsAmong Part which (parts form) → Begins (opening which) tokens behind →
    Takes form given which behind rest between → next_part form given tokens ≡ Some (between, rest)
next-reads {form = form} {given = given} a b t = ap (option_and_then (λ f. take_part form given f.0 f.1)) (part-found form a b) ∙ takes-reads t

begins-less : {text : List ℕ} {texts : List (List ℕ)} {tokens rest : List Token} → Begins (text ∷ texts) tokens rest → length rest < length tokens
begins-less (forms.next token e h) = let s = begins-shorter h in omega arith

opens-less : (which : Part) {tokens rest : List Token} → Begins (opening which) tokens rest → length rest < length tokens
opens-less part.List h = begins-less h
opens-less _ h = begins-less h

-- with each part fewer tokens are left
pub next-shorter : (form : DirectiveWord) (given : Given) (tokens : List Token) (r : Given × List Token) → next_part form given tokens ≡ Some r → length r.1 < length tokens
next-shorter form given tokens r h =
    let s = next-is form given tokens r h in
    let less : length s.behind < length tokens = opens-less s.which s.begins in
    let most : length r.1 ≤ length s.behind = takes-shorter s.takes in
    omega arith

-- ---- all of them

pub parts-more : (form : DirectiveWord) (given : Given) (tokens : List Token) (r : Given × List Token) (f : Given) → next_part form given tokens ≡ Some r → Parts form r.0 r.1 f →
    Parts form given tokens f
parts-more form given tokens r f h p = let s = next-is form given tokens r h in forms.one s.among s.begins s.takes p

-- the next part of these, and the others
pub record Goes (form : DirectiveWord) (given : Given) (tokens : List Token) (f : Given) : Type 0 where
  pub next : Given × List Token
  pub reads : next_part form given tokens ≡ Some next
  pub others : Parts form next.0 next.1 f

pub parts-goes : {form : DirectiveWord} {given f : Given} {tokens : List Token} → Parts form given tokens f → (tokens ≡ [] → ⊥) → Goes form given tokens f
parts-goes forms.end some = absurd (some refl)
parts-goes (forms.one {between = between} {rest = rest} a b t p) some = record { next = (between, rest); reads = next-reads a b t; others = p }

pub parts-fewer : (form : DirectiveWord) (given : Given) (tokens : List Token) (r : Given × List Token) (f : Given) → next_part form given tokens ≡ Some r → (tokens ≡ [] → ⊥) →
    Parts form given tokens f → Parts form r.0 r.1 f
parts-fewer form given tokens r f h some p =
    let g = parts-goes p some in
    let same : g.next ≡ r = ap (value_or g.next) (sym g.reads ∙ h) in
    subst (λ q. Parts form q.0 q.1 f) same g.others

pub parts-stuck : (form : DirectiveWord) (given : Given) (tokens : List Token) (f : Given) → next_part form given tokens ≡ None → (tokens ≡ [] → ⊥) → Parts form given tokens f → ⊥
parts-stuck form given tokens f h some p = let g = parts-goes p some in let is = g.reads in cc

nil_less : (tokens : List Token) (n : ℕ) → tokens ≡ [] → n < length tokens → ⊥
nil_less tokens n e h = let none : length tokens ≡ 0 = ap (λ ts. length ts) e in omega (arith, none, h)

pub parts-ended : {form : DirectiveWord} {given f : Given} {tokens : List Token} → tokens ≡ [] → Parts form given tokens f → given ≡ f
parts-ended e forms.end = refl
parts-ended e (forms.one {which = which} {tokens = tokens} {behind = behind} a b t p) = absurd (nil_less tokens (length behind) e (opens-less which b))

-- the tokens give one thing
pub parts-unique : {form : DirectiveWord} {given f g : Given} {tokens : List Token} → Parts form given tokens f → Parts form given tokens g → f ≡ g
parts-unique forms.end q = parts-ended refl q
parts-unique {form = form} {g = g} (forms.one {which = which} {before = before} {between = between} {tokens = tokens} {behind = behind} {rest = rest} a b t p) q =
    parts-unique p (parts-fewer form before tokens (between, rest) g (next-reads a b t) (λ e. nil_less tokens (length behind) e (opens-less which b)) q)

-- ---- along the tokens

pub empty-is : (tokens : List Token) → (length tokens == 0) ≡ true → tokens ≡ []
empty-is [] h = refl
empty-is (token ∷ tokens) h = grind (arith, nat_tests)

pub some-is : (tokens : List Token) → (length tokens == 0) ≡ false → tokens ≡ [] → ⊥
some-is tokens h none = let yes : (length tokens == 0) ≡ true = ap (λ ts. length ts == 0) none in cc

-- where the parts so far give this, and these tokens are left
pub record Along (form : DirectiveWord) (tokens left : List Token) (given : Given) : Type 0 where
  pub reached : (f : Given) → Parts form given left f → Parts form forms.nothing tokens f
  pub owes : (f : Given) → Parts form forms.nothing tokens f → Parts form given left f

pub along-start : (form : DirectiveWord) (tokens : List Token) (given : Given) → given ≡ forms.nothing → Along form tokens tokens given
along-start form tokens given e = subst (Along form tokens tokens) (sym e) (record { reached = λ f p. p; owes = λ f p. p })

pub along-next : (form : DirectiveWord) (tokens left rest : List Token) (given more : Given) → next_part form given left ≡ Some (more, rest) → (left ≡ [] → ⊥) →
    Along form tokens left given → Along form tokens rest more
along-next form tokens left rest given more h some a =
    record { reached = λ f p. a.reached f (parts-more form given left (more, rest) f h p); owes = λ f p. parts-fewer form given left (more, rest) f h some (a.owes f p) }

pub along-end : (form : DirectiveWord) (tokens left : List Token) (given : Given) → left ≡ [] → Along form tokens left given → Parts form forms.nothing tokens given
along-end form tokens left given e a = a.reached given (subst (λ ts. Parts form given ts given) (sym e) forms.end)

pub along-stuck : (form : DirectiveWord) (tokens left : List Token) (given : Given) → next_part form given left ≡ None → (left ≡ [] → ⊥) → Along form tokens left given →
    (f : Given) → Parts form forms.nothing tokens f → ⊥
along-stuck form tokens left given h some a f p = parts-stuck form given left f h some (a.owes f p)
