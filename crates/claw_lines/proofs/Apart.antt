-- Words of forms and of parts that no tokens can both begin with.
use Rattle.std.proofs.Common.{◌≡◌, ℕ, ◌⊎◌, inl, inr, Bool, true, false, cond, not, ◌&&◌, ◌||◌, List, [], ◌∷◌, Option, None, Some, refl, sym, ◌∙◌}
use Rattle.std.specs.Str.{bytes_eq}
use Rattle.std.specs.List.{list_all}
use Rattle.std.proofs.lemmas.Slice.Eq.{bytes_eq-Decides}
use Rattle.fort_tree.specs.declared.statement.Token.{Token}
use Rattle.fort_tree.specs.declared.stmt.DirectiveWord.{DirectiveWord}
use Rattle.fort_tree.specs.declared.stmt.DirectiveWord.TheVariants as word
use Rattle.claw_lines.specs.declared.part.Part.{Part}
use Rattle.claw_lines.specs.Words.{forms as form_list, phrase, opening, parts}
use Rattle.claw_lines.specs.Items.{is_text}
use Rattle.claw_lines.specs.Forms as forms
use Rattle.claw_lines.specs.Forms.{IsAmong, Begins, is_of_parts}
use Rattle.claw_lines.specs.Steps.{after, found, found_or}
use Rattle.claw_lines.proofs.Fronts.{text_is, after-begins, begins-after}

-- at some place both have a word, and two different ones
abbrev pub apart : List (List ℕ) → List (List ℕ) → Bool
apart [] others = false
apart (a ∷ words) [] = false
apart (a ∷ words) (b ∷ others) = not (bytes_eq a b) || apart words others

apart_at : (c d e : Bool) (p q : List ℕ) (ps qs : List (List ℕ)) (token : Token) (tokens r s : List Token) → is_text token p ≡ c → is_text token q ≡ d → bytes_eq p q ≡ e →
    (apart ps qs ≡ true → after ps tokens ≡ Some r → after qs tokens ≡ Some s → ⊥) → (not e || apart ps qs) ≡ true →
    cond c (after ps tokens) None ≡ Some r → cond d (after qs tokens) None ≡ Some s → ⊥
apart_at false d e p q ps qs token tokens r s ic id ie more h a b = cc
apart_at true false e p q ps qs token tokens r s ic id ie more h a b = cc
apart_at true true true p q ps qs token tokens r s ic id ie more h a b = more h a b
apart_at true true false p q ps qs token tokens r s ic id ie more h a b =
    let same : p ≡ q = sym (text_is token p ic) ∙ text_is token q id in
    let yes : bytes_eq p q ≡ true = (bytes_eq-Decides p q).1 same in cc

apart-after : (ps qs : List (List ℕ)) (tokens r s : List Token) → apart ps qs ≡ true → after ps tokens ≡ Some r → after qs tokens ≡ Some s → ⊥
apart-after [] qs tokens r s h a b = cc
apart-after (p ∷ ps) [] tokens r s h a b = cc
apart-after (p ∷ ps) (q ∷ qs) [] r s h a b = cc
apart-after (p ∷ ps) (q ∷ qs) (token ∷ tokens) r s h a b =
    apart_at (is_text token p) (is_text token q) (bytes_eq p q) p q ps qs token tokens r s refl refl refl (apart-after ps qs tokens r s) h a b

pub apart-clash : (ps qs : List (List ℕ)) {tokens r s : List Token} → apart ps qs ≡ true → Begins ps tokens r → Begins qs tokens s → ⊥
apart-clash ps qs {tokens = tokens} {r = r} {s = s} h a b = apart-after ps qs tokens r s h (after-begins a) (after-begins b)

pub both_true : (a b : Bool) → (a && b) ≡ true → (a ≡ true) × (b ≡ true)
both_true true b h = (refl, h)
both_true false b h = cc

pub among-all : {A : Type 0} (p : A → Bool) {x : A} {xs : List A} → IsAmong A x xs → list_all p xs ≡ true → p x ≡ true
among-all p (forms.here {x = x} {xs = xs}) h = (both_true (p x) (list_all p xs) h).0
among-all p (forms.there {y = y} {xs = xs} a) h = among-all p a (both_true (p y) (list_all p xs) h).1

-- of two of the list, the words of the earlier one are apart from those of the later one, or else `other` says so
abbrev pub all_apart : {A : Type 0} → (A → List (List ℕ)) → (A → A → Bool) → List A → Bool
all_apart words other [] = true
all_apart words other (x ∷ xs) = list_all (λ y. apart (words x) (words y) || other x y) xs && all_apart words other xs

-- another one is found, before it
pub record Other (A : Type 0) (words : A → List (List ℕ)) (other : A → A → Bool) (x : A) (tokens : List Token) : Type 0 where
  pub found : A
  pub rest : List Token
  pub says : other found x ≡ true
  pub begins : Begins (words found) tokens rest

abbrev pub Reaches : (A : Type 0) → (A → List (List ℕ)) → (A → A → Bool) → A → List Token → List Token → Option (A × List Token) → Type 0
Reaches A words other x tokens rest o = (o ≡ Some (x, rest)) ⊎ Other A words other x tokens

reaches_past : {A : Type 0} (words : A → List (List ℕ)) (other : A → A → Bool) (x y : A) (tokens rest : List Token) (o : Option (List Token)) (more : Option (A × List Token)) →
    after (words y) tokens ≡ o → Begins (words x) tokens rest → (a : Bool) → apart (words y) (words x) ≡ a → (a || other y x) ≡ true →
    Reaches A words other x tokens rest more → Reaches A words other x tokens rest (found_or y o more)
reaches_past words other x y tokens rest None more e b a is h r = r
reaches_past words other x y tokens rest (Some s) more e b true is h r = absurd (apart-clash (words y) (words x) is (begins-after (words y) tokens s e) b)
reaches_past words other x y tokens rest (Some s) more e b false is h r = inr (record { found = y; rest = s; says = h; begins = begins-after (words y) tokens s e })

pub found-reaches : {A : Type 0} (words : A → List (List ℕ)) (other : A → A → Bool) {x : A} {xs : List A} {tokens rest : List Token} → all_apart words other xs ≡ true →
    IsAmong A x xs → Begins (words x) tokens rest → Reaches A words other x tokens rest (found words xs tokens)
found-reaches words other {x = x} {tokens = tokens} {rest = rest} h (forms.here {xs = xs}) b = inl (rw (after-begins b) refl)
found-reaches words other {x = x} {tokens = tokens} {rest = rest} h (forms.there {y = y} {xs = xs} a) b =
    let facts = both_true (list_all (λ z. apart (words y) (words z) || other y z) xs) (all_apart words other xs) h in
    reaches_past words other x y tokens rest (after (words y) tokens) (found words xs tokens) refl b (apart (words y) (words x)) refl
    (among-all (λ z. apart (words y) (words z) || other y z) a facts.0) (found-reaches words other facts.1 a b)

-- ---- the tables

abbrev pub no_other : Part → Part → Bool
no_other x y = false

parts_apart : (form : DirectiveWord) → all_apart opening no_other (parts form) ≡ true
parts_apart word.Define = refl
parts_apart _ = refl

none_other : {x : Part} {tokens rest : List Token} {o : Option (Part × List Token)} → Reaches Part opening no_other x tokens rest o → o ≡ Some (x, rest)
none_other (inl h) = h
none_other (inr h) = let no : false ≡ true = h.says in cc

-- the part with whose words the tokens begin is found
pub part-found : (form : DirectiveWord) {x : Part} {tokens rest : List Token} → IsAmong Part x (parts form) → Begins (opening x) tokens rest →
    found opening (parts form) tokens ≡ Some (x, rest)
part-found form a b = none_other (found-reaches opening no_other (parts_apart form) a b)

-- `parallelize` is the front of `parallelize forward`, which is looked for first
abbrev pub front_of : DirectiveWord → DirectiveWord → Bool
front_of word.Forward word.Parallelize = true
front_of _ _ = false

pub form-reaches : {x : DirectiveWord} {tokens rest : List Token} → IsAmong DirectiveWord x form_list → Begins (phrase x) tokens rest →
    Reaches DirectiveWord phrase front_of x tokens rest (found phrase form_list tokens)
form-reaches a b = found-reaches phrase front_of refl a b

abbrev is_listed : DirectiveWord → Bool
is_listed word.Column = false
is_listed _ = true

of_parts_if : (form : DirectiveWord) → is_listed form ≡ true → (form ≡ word.Define → ⊥) → is_of_parts form ≡ true
of_parts_if word.Define h other = absurd (other refl)
of_parts_if word.Column h other = h
of_parts_if _ h other = refl

-- a form that a line can begin with has parts, or it is `define dimension`
pub among-of_parts : (form : DirectiveWord) → IsAmong DirectiveWord form form_list → (form ≡ word.Define → ⊥) → is_of_parts form ≡ true
among-of_parts form a other = of_parts_if form (among-all is_listed a refl) other

pub of_parts-among : (form : DirectiveWord) → is_of_parts form ≡ true → IsAmong DirectiveWord form form_list
of_parts-among word.Define h = forms.here
of_parts-among word.Column h = cc
of_parts-among word.Forward h = forms.there forms.here
of_parts-among word.Parallelize h = forms.there (forms.there forms.here)
of_parts-among word.Fusion h = forms.there (forms.there (forms.there forms.here))
of_parts-among word.Interchange h = forms.there (forms.there (forms.there (forms.there forms.here)))
of_parts-among word.Hoist h = forms.there (forms.there (forms.there (forms.there (forms.there forms.here))))
of_parts-among word.EndHoist h = forms.there (forms.there (forms.there (forms.there (forms.there (forms.there forms.here)))))
of_parts-among word.Transform h = forms.there (forms.there (forms.there (forms.there (forms.there (forms.there (forms.there forms.here))))))
of_parts-among word.EndTransform h = forms.there (forms.there (forms.there (forms.there (forms.there (forms.there (forms.there (forms.there forms.here)))))))
of_parts-among word.Cache h = forms.there (forms.there (forms.there (forms.there (forms.there (forms.there (forms.there (forms.there (forms.there forms.here))))))))
of_parts-among word.OpenMpLoop h = forms.there (forms.there (forms.there (forms.there (forms.there (forms.there (forms.there (forms.there (forms.there (forms.there forms.here)))))))))
of_parts-among word.OpenAccLoop h = forms.there (forms.there (forms.there (forms.there (forms.there (forms.there (forms.there (forms.there (forms.there (forms.there (forms.there forms.here))))))))))
of_parts-among word.Routine h = forms.there (forms.there (forms.there (forms.there (forms.there (forms.there (forms.there (forms.there (forms.there (forms.there (forms.there (forms.there forms.here)))))))))))
