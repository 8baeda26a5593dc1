-- Texts of tokens, words of tables and digits.
use Rattle.std.proofs.Common.{◌≡◌, ℕ, suc, zero, ◌+◌, ◌-◌, ◌*◌, ◌<◌, ◌↔◌, Bool, true, false, cond, ◌&&◌, ◌||◌, List, [], ◌∷◌, ◌++◌, Option, None, Some, is_some, IsSome, IfSome, IsTrue, length, refl, ap, sym, subst, arith}
use Rattle.std.specs.Str.{bytes_eq}
use Rattle.std.proofs.lemmas.Slice.Eq.{bytes_eq-Decides}
use Rattle.fort_tables.specs.Order.{word_at}
use Rattle.fort_tree.specs.Name.{is_name, lowercase}
use Rattle.fort_tree.specs.Token.{is_token, is_one_of}
use Rattle.claw_lines.specs.Words.{value_from}

front_true : (a b : Bool) → (a && b) ≡ true → a ≡ true
front_true true b h = refl
front_true false b h = h

-- a token's text stands in lower case
lower_token : (text : List ℕ) → IsTrue (is_token text) → lowercase text ≡ text
lower_token text h = (bytes_eq-Decides (lowercase text) text).0 (front_true (bytes_eq (lowercase text) text) _ h)

read_at : (b : Bool) (text : List ℕ) (r : Option (List ℕ)) → (IsSome r ↔ IsTrue b) → IfSome r (λ name. name ≡ text) → r ≡ cond b (Some text) None
read_at true text None same value = let no : false ≡ true = same.1 refl in cc
read_at true text (Some name) same value = ap Some value
read_at false text None same value = refl
read_at false text (Some name) same value = let no : false ≡ true = same.0 refl in cc

-- what is read of a token's text is that text
pub read_token : (text : List ℕ) (r : Option (List ℕ)) → IsTrue (is_token text) → (IsSome r ↔ IsTrue (is_name text)) → IfSome r (λ name. name ≡ lowercase text) →
    r ≡ cond (is_name text) (Some text) None
read_token text r token same value = read_at (is_name text) text r same (subst (λ t. IfSome r (λ name. name ≡ t)) (lower_token text token) value)

or_right : (a b : Bool) → b ≡ true → (a || b) ≡ true
or_right true b h = refl
or_right false b h = h

-- a word of a list stands among its words
among : (words : List (List ℕ)) (i : ℕ) (text : List ℕ) → i < length words → word_at words i ≡ text → is_one_of words text ≡ true
among [] i text h e = absurd (omega (arith, h))
among (w ∷ words) zero text h e = rw ((bytes_eq-Decides text w).1 (sym e)) refl
among (w ∷ words) (suc i) text h e = or_right (bytes_eq text w) (is_one_of words text) (among words i text (omega arith) e)

abbrev Index : List (List ℕ) → List ℕ → Type 0
Index words text = (i : ℕ) × ((i < length words) × (word_at words i ≡ text))

index_at : (c : Bool) (w : List ℕ) (words : List (List ℕ)) (text : List ℕ) → bytes_eq text w ≡ c → (c || is_one_of words text) ≡ true →
    (is_one_of words text ≡ true → Index words text) → Index (w ∷ words) text
index_at true w words text e h more = (0, (omega arith, sym ((bytes_eq-Decides text w).0 e)))
index_at false w words text e h more = let r = more h in (suc r.0, (omega (arith, r.1.0), r.1.1))

index_of : (words : List (List ℕ)) (text : List ℕ) → is_one_of words text ≡ true → Index words text
index_of [] text h = cc
index_of (w ∷ words) text h = index_at (bytes_eq text w) w words text refl h (index_of words text)

holds_at : (words : List (List ℕ)) (text : List ℕ) (b : Bool) → is_one_of words text ≡ b → (r : Option ℕ) →
    ((i : ℕ) → (r ≡ Some i) ↔ ((i < length words) × (word_at words i ≡ text))) → is_some r ≡ b
holds_at words text true is None find = let at = index_of words text is in let no : None ≡ Some at.0 = (find at.0).1 at.1 in cc
holds_at words text true is (Some i) find = refl
holds_at words text false is None find = refl
holds_at words text false is (Some i) find = let at = (find i).0 refl in let yes : is_one_of words text ≡ true = among words i text at.0 at.1 in cc

-- what is found in a table says whether the text is a word of it
pub found_holds : (words : List (List ℕ)) (text : List ℕ) (n : ℕ) (r : Option ℕ) → length words ≡ n →
    ((i : ℕ) → (r ≡ Some i) ↔ ((i < n) × (word_at words i ≡ text))) → is_some r ≡ is_one_of words text
found_holds words text n r e find =
    holds_at words text (is_one_of words text) refl r (subst (λ k. (i : ℕ) → (r ≡ Some i) ↔ ((i < k) × (word_at words i ≡ text))) (sym e) find)

-- one digit more
pub value_more : (v : ℕ) (digits : List ℕ) (d : ℕ) → value_from v (digits ++ d ∷ []) ≡ value_from v digits * 10 + (d - 48)
value_more v [] d = refl
value_more v (b ∷ bs) d = value_more (v * 10 + (b - 48)) bs d
