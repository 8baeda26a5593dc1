-- What the functions read from the front of tokens is what the forms say.
use Rattle.std.proofs.Common.{◌≡◌, ℕ, ◌≤◌, Bool, true, false, cond, List, [], ◌∷◌, ◌++◌, length, Option, None, Some, refl, ap, sym, ◌∙◌, subst, codes, arith, append_assoc}
use Rattle.std.specs.Prelude.{option_map}
use Rattle.std.specs.Option.{option_and_then}
use Rattle.std.specs.Str.{bytes_eq}
use Rattle.std.proofs.lemmas.Slice.Eq.{bytes_eq-Decides}
use Rattle.fort_tree.specs.declared.statement.Token.{Token}
use Rattle.claw_lines.specs.Items.{is_text}
use Rattle.claw_lines.specs.Forms as forms
use Rattle.claw_lines.specs.Forms.{IsAmong, Begins, Listed}
use Rattle.claw_lines.specs.Steps.{after, found, found_or, listed_from, single}
use Rattle.claw_lines.proofs.Listing.{value_or}

pub text_is : (token : Token) (text : List ℕ) → is_text token text ≡ true → token.text ≡ text
text_is token text h = (bytes_eq-Decides token.text text).0 h

pub is_text-same : (token : Token) (text : List ℕ) → token.text ≡ text → is_text token text ≡ true
is_text-same token text h = (bytes_eq-Decides token.text text).1 h

-- ---- words

pub after-begins : {texts : List (List ℕ)} {tokens rest : List Token} → Begins texts tokens rest → after texts tokens ≡ Some rest
after-begins forms.none = refl
after-begins (forms.next {text = text} token e h) = rw (is_text-same token text e) (after-begins h)

begins_at : (b : Bool) (text : List ℕ) (texts : List (List ℕ)) (token : Token) (tokens rest : List Token) → is_text token text ≡ b →
    ((rest : List Token) → after texts tokens ≡ Some rest → Begins texts tokens rest) →
    cond b (after texts tokens) None ≡ Some rest → Begins (text ∷ texts) (token ∷ tokens) rest
begins_at true text texts token tokens rest is more h = forms.next token (text_is token text is) (more rest h)
begins_at false text texts token tokens rest is more h = cc

pub begins-after : (texts : List (List ℕ)) (tokens rest : List Token) → after texts tokens ≡ Some rest → Begins texts tokens rest
begins-after [] tokens rest h = subst (λ r. Begins [] tokens r) (ap (value_or tokens) h) forms.none
begins-after (text ∷ texts) [] rest h = cc
begins-after (text ∷ texts) (token ∷ tokens) rest h = begins_at (is_text token text) text texts token tokens rest refl (begins-after texts tokens) h

-- the rest is no longer than what it is the rest of
pub begins-shorter : {texts : List (List ℕ)} {tokens rest : List Token} → Begins texts tokens rest → length rest ≤ length tokens
begins-shorter forms.none = omega arith
begins-shorter (forms.next token e h) = let s = begins-shorter h in omega arith

-- ---- lists in parentheses

pub listed-reads : {A : Type 0} {item : Token → Option A} {tokens rest : List Token} {xs : List A} → Listed A item tokens rest xs → (read : List A) →
    listed_from item read tokens ≡ Some (read ++ xs, rest)
listed-reads (forms.last token close is e) read = rw (is_text-same close (codes ")") e, is) refl
listed-reads {item = item} (forms.more {rest = rest} {x = x} {xs = xs} token comma is e h) read =
    let open_still : is_text comma (codes ")") ≡ false = ap (λ t. bytes_eq t (codes ")")) e in
    rw (open_still, is_text-same comma (codes ",") e, is) (listed-reads h (read ++ x ∷ []) ∙ ap (λ l. Some (l, rest)) (append_assoc read (x ∷ []) xs))

-- what was read before, and then a list of these tokens
abbrev Lists : (A : Type 0) → (Token → Option A) → List A → List Token → List A × List Token → Type 0
Lists A item read tokens r = (xs : List A) × (Listed A item tokens r.1 xs × (r.0 ≡ read ++ xs))

abbrev All : (A : Type 0) → (Token → Option A) → List Token → Type 0
All A item tokens = (read : List A) (r : List A × List Token) → listed_from item read tokens ≡ Some r → Lists A item read tokens r

lists_at : {A : Type 0} (item : Token → Option A) (read : List A) (c d : Bool) (o : Option A) (token mark : Token) (ts : List Token) (r : List A × List Token) →
    is_text mark (codes ")") ≡ c → is_text mark (codes ",") ≡ d → item token ≡ o → All A item ts →
    option_and_then (λ y. cond c (Some (read ++ y ∷ [], ts)) (cond d (listed_from item (read ++ y ∷ []) ts) None)) o ≡ Some r → Lists A item read (token ∷ mark ∷ ts) r
lists_at item read c d None token mark ts r close comma is more h = cc
lists_at {A = A} item read true d (Some y) token mark ts r close comma is more h =
    subst (λ q. Lists A item read (token ∷ mark ∷ ts) q) (ap (value_or (read ++ y ∷ [], ts)) h) (y ∷ [], (forms.last token mark is (text_is mark (codes ")") close), refl))
lists_at item read false true (Some y) token mark ts r close comma is more h =
    let rest = more (read ++ y ∷ []) r h in
    (y ∷ rest.0, (forms.more token mark is (text_is mark (codes ",") comma) rest.1.0, rest.1.1 ∙ append_assoc read (y ∷ []) rest.0))
lists_at item read false false (Some y) token mark ts r close comma is more h = cc

lists-from : {A : Type 0} (item : Token → Option A) (tokens : List Token) → All A item tokens
lists-from item [] read r h = cc
lists-from item (token ∷ []) read r h = cc
lists-from item (token ∷ mark ∷ ts) read r h =
    lists_at item read (is_text mark (codes ")")) (is_text mark (codes ",")) (item token) token mark ts r refl refl refl (lists-from item ts) h

pub reads-listed : {A : Type 0} (item : Token → Option A) (tokens : List Token) (r : List A × List Token) → listed_from item [] tokens ≡ Some r → Listed A item tokens r.1 r.0
reads-listed {A = A} item tokens r h = let l = lists-from item tokens [] r h in subst (λ xs. Listed A item tokens r.1 xs) (sym l.1.1) l.1.0

pub listed-shorter : {A : Type 0} {item : Token → Option A} {tokens rest : List Token} {xs : List A} → Listed A item tokens rest xs → length rest ≤ length tokens
listed-shorter (forms.last token close is e) = omega arith
listed-shorter (forms.more token comma is e h) = let s = listed-shorter h in omega arith

-- ---- one item

-- the first token is an item, and the second one a `)`
pub record Single (A : Type 0) (item : Token → Option A) (tokens : List Token) (r : A × List Token) : Type 0 where
  pub token : Token
  pub close : Token
  pub is : item token ≡ Some r.0
  pub closes : close.text ≡ codes ")"
  pub whole : token ∷ close ∷ r.1 ≡ tokens

pub single-reads : {A : Type 0} (item : Token → Option A) (token close : Token) (rest : List Token) (x : A) → item token ≡ Some x → close.text ≡ codes ")" →
    single item (token ∷ close ∷ rest) ≡ Some (x, rest)
single-reads item token close rest x is e = rw (is_text-same close (codes ")") e, is) refl

single_at : {A : Type 0} (item : Token → Option A) (c : Bool) (o : Option A) (token close : Token) (rest : List Token) (r : A × List Token) →
    is_text close (codes ")") ≡ c → item token ≡ o → cond c (option_map (λ x. (x, rest)) o) None ≡ Some r → Single A item (token ∷ close ∷ rest) r
single_at item false o token close rest r e is h = cc
single_at item true None token close rest r e is h = cc
single_at {A = A} item true (Some x) token close rest r e is h =
    subst (λ q. Single A item (token ∷ close ∷ rest) q) (ap (value_or (x, rest)) h)
    (record { token = token; close = close; is = is; closes = text_is close (codes ")") e; whole = refl })

pub reads-single : {A : Type 0} (item : Token → Option A) (tokens : List Token) (r : A × List Token) → single item tokens ≡ Some r → Single A item tokens r
reads-single item [] r h = cc
reads-single item (token ∷ []) r h = cc
reads-single item (token ∷ close ∷ rest) r h = single_at item (is_text close (codes ")")) (item token) token close rest r refl refl h

-- ---- the first of some

-- one of these is found, and the tokens begin with its words
pub record Found (A : Type 0) (words : A → List (List ℕ)) (xs : List A) (tokens : List Token) (r : A × List Token) : Type 0 where
  pub among : IsAmong A r.0 xs
  pub begins : Begins (words r.0) tokens r.1

found_here : {A : Type 0} (words : A → List (List ℕ)) (x : A) (xs : List A) (tokens : List Token) (o : Option (List Token)) (r : A × List Token) → after (words x) tokens ≡ o →
    (found words xs tokens ≡ Some r → Found A words xs tokens r) → found_or x o (found words xs tokens) ≡ Some r → Found A words (x ∷ xs) tokens r
found_here words x xs tokens None r e more h = let f = more h in record { among = forms.there f.among; begins = f.begins }
found_here {A = A} words x xs tokens (Some rest) r e more h =
    subst (λ q. Found A words (x ∷ xs) tokens q) (ap (value_or (x, rest)) h) (record { among = forms.here; begins = begins-after (words x) tokens rest e })

pub found-is : {A : Type 0} (words : A → List (List ℕ)) (xs : List A) (tokens : List Token) (r : A × List Token) → found words xs tokens ≡ Some r → Found A words xs tokens r
found-is words [] tokens r h = cc
found-is words (x ∷ xs) tokens r h = found_here words x xs tokens (after (words x) tokens) r refl (found-is words xs tokens r) h

-- where none is found, the tokens begin with the words of none
none_here : {A : Type 0} (words : A → List (List ℕ)) (x : A) (xs : List A) (tokens : List Token) (o : Option (List Token)) → after (words x) tokens ≡ o →
    found_or x o (found words xs tokens) ≡ None → (after (words x) tokens ≡ None) × (found words xs tokens ≡ None)
none_here words x xs tokens None e h = (e, h)
none_here words x xs tokens (Some rest) e h = cc

pub none-found : {A : Type 0} (words : A → List (List ℕ)) {x : A} {xs : List A} {tokens rest : List Token} → found words xs tokens ≡ None → IsAmong A x xs →
    Begins (words x) tokens rest → ⊥
none-found words {x = x} {tokens = tokens} h (forms.here {xs = xs}) b =
    let no : after (words x) tokens ≡ None = (none_here words x xs tokens (after (words x) tokens) refl h).0 in
    let yes = after-begins b in cc
none-found words {tokens = tokens} h (forms.there {y = y} {xs = xs} a) b = none-found words (none_here words y xs tokens (after (words y) tokens) refl h).1 a b
