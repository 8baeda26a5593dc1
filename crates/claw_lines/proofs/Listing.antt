-- Steps along a list in parentheses.
use Rattle.std.proofs.Common.{◌≡◌, Bool, true, false, cond, List, [], ◌∷◌, ◌++◌, Option, None, Some, refl, ap, ◌∙◌, subst, codes}
use Rattle.std.specs.Option.{option_and_then}
use Rattle.fort_tree.specs.declared.statement.Token.{Token}
use Rattle.claw_lines.specs.Items.{is_text}
use Rattle.claw_lines.specs.Steps.{marked, listed_from}

abbrev pub value_or : {A : Type 0} → A → Option A → A
value_or d None = d
value_or d (Some x) = x

-- what a step comes to, where the list goes on as `more` says
abbrev Came : (A : Type 0) → (Token → Option A) → List A → Token × Bool × List Token → A → Option (List A × List Token) → Type 0
Came A item read r x result = item r.0 ≡ Some x → result ≡ cond r.1 (Some (read ++ x ∷ [], r.2)) (listed_from item (read ++ x ∷ []) r.2)

-- one step, where c says that the mark closes the list, and d that it is a comma
step : {A : Type 0} (item : Token → Option A) (read : List A) (c d : Bool) (token : Token) (ts : List Token) (r : Token × Bool × List Token) (x : A) →
    cond c (Some (token, true, ts)) (cond d (Some (token, false, ts)) None) ≡ Some r →
    Came A item read r x (option_and_then (λ y. cond c (Some (read ++ y ∷ [], ts)) (cond d (listed_from item (read ++ y ∷ []) ts) None)) (item token))
step {A = A} item read true d token ts r x e =
    subst (λ q. Came A item read q x (option_and_then (λ y. Some (read ++ y ∷ [], ts)) (item token))) (ap (value_or (token, true, ts)) e) (λ is. rw is refl)
step {A = A} item read false true token ts r x e =
    subst (λ q. Came A item read q x (option_and_then (λ y. listed_from item (read ++ y ∷ []) ts) (item token))) (ap (value_or (token, false, ts)) e) (λ is. rw is refl)
step item read false false token ts r x e = cc

stepped : {A : Type 0} (item : Token → Option A) (read : List A) (left : List Token) (r : Token × Bool × List Token) (x : A) → marked left ≡ Some r →
    Came A item read r x (listed_from item read left)
stepped item read [] r x e = cc
stepped item read (a ∷ []) r x e = cc
stepped item read (a ∷ b ∷ ts) r x e = step item read (is_text b (codes ")")) (is_text b (codes ",")) a ts r x e

unmarked : {A : Type 0} (item : Token → Option A) (read : List A) (c d : Bool) (token : Token) (ts : List Token) (o : Option A) →
    cond {A = Option (Token × Bool × List Token)} c (Some (token, true, ts)) (cond d (Some (token, false, ts)) None) ≡ None →
    option_and_then (λ y. cond c (Some (read ++ y ∷ [], ts)) (cond d (listed_from item (read ++ y ∷ []) ts) None)) o ≡ None
unmarked item read true d token ts o e = cc
unmarked item read false true token ts o e = cc
unmarked item read false false token ts None e = refl
unmarked item read false false token ts (Some y) e = refl

pub listed_unmarked : {A : Type 0} (item : Token → Option A) (read : List A) (left : List Token) → marked left ≡ None → listed_from item read left ≡ None
listed_unmarked item read [] e = refl
listed_unmarked item read (a ∷ []) e = refl
listed_unmarked item read (a ∷ b ∷ ts) e = unmarked item read (is_text b (codes ")")) (is_text b (codes ",")) a ts (item a) e

-- there is no item in front
no_item : {A : Type 0} (item : Token → Option A) (read : List A) (c d : Bool) (token : Token) (ts : List Token) (r : Token × Bool × List Token) →
    cond c (Some (token, true, ts)) (cond d (Some (token, false, ts)) None) ≡ Some r → item r.0 ≡ None →
    option_and_then (λ y. cond c (Some (read ++ y ∷ [], ts)) (cond d (listed_from item (read ++ y ∷ []) ts) None)) (item token) ≡ None
no_item item read true d token ts r e is = let same : item token ≡ None = ap (λ q. item q.0) (ap (value_or (token, true, ts)) e) ∙ is in rw same refl
no_item item read false true token ts r e is = let same : item token ≡ None = ap (λ q. item q.0) (ap (value_or (token, false, ts)) e) ∙ is in rw same refl
no_item item read false false token ts r e is = cc

without_item : {A : Type 0} (item : Token → Option A) (read : List A) (left : List Token) (r : Token × Bool × List Token) → marked left ≡ Some r → item r.0 ≡ None →
    listed_from item read left ≡ None
without_item item read [] r e is = refl
without_item item read (a ∷ []) r e is = refl
without_item item read (a ∷ b ∷ ts) r e is = no_item item read (is_text b (codes ")")) (is_text b (codes ",")) a ts r e is

pub listed_no_item : {A : Type 0} (item : Token → Option A) (read : List A) (left rest : List Token) (token : Token) (last : Bool) → marked left ≡ Some (token, last, rest) →
    item token ≡ None → listed_from item read left ≡ None
listed_no_item item read left rest token last e is = without_item item read left (token, last, rest) e is

pub listed_last : {A : Type 0} (item : Token → Option A) (read : List A) (left rest : List Token) (token : Token) (x : A) (last : Bool) → marked left ≡ Some (token, last, rest) →
    item token ≡ Some x → last ≡ true → listed_from item read left ≡ Some (read ++ x ∷ [], rest)
listed_last item read left rest token x last h is e =
    stepped item read left (token, last, rest) x h is ∙ ap (λ b. cond b (Some (read ++ x ∷ [], rest)) (listed_from item (read ++ x ∷ []) rest)) e

pub listed_more : {A : Type 0} (item : Token → Option A) (read : List A) (left rest : List Token) (token : Token) (x : A) (last : Bool) → marked left ≡ Some (token, last, rest) →
    item token ≡ Some x → last ≡ false → listed_from item read left ≡ listed_from item (read ++ x ∷ []) rest
listed_more item read left rest token x last h is e =
    stepped item read left (token, last, rest) x h is ∙ ap (λ b. cond b (Some (read ++ x ∷ [], rest)) (listed_from item (read ++ x ∷ []) rest)) e
