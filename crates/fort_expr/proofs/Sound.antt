-- What the grammar derives of an expression's start is an expression.
use Rattle.std.proofs.Common.{◌≡◌, List, [], ◌∷◌, ◌++◌, Option, None, Some, refl, sym, ◌∙◌, ap, subst}
use Rattle.fort_tree.specs.declared.place.Place.{Place}
use Rattle.fort_tree.specs.declared.statement.Token.{Token}
use Rattle.fort_tree.specs.declared.expr.Expr.{Expr}
use Rattle.fort_tree.specs.declared.expr.Expr.TheVariants.{Ref, One, Two}
use Rattle.fort_tree.specs.declared.expr.Sub.{Sub}
use Rattle.fort_tree.specs.declared.expr.Sub.TheVariants as sub
use Rattle.fort_tree.specs.declared.expr.Unary.TheVariants as unary
use Rattle.fort_tree.specs.Name.{lowercase}
use Rattle.fort_grammar.specs.declared.class.Class.{Class}
use Rattle.fort_grammar.specs.declared.table.Part.{Part}
use Rattle.fort_grammar.specs.declared.table.Part.TheVariants as part
use Rattle.fort_grammar.specs.declared.table.Action.{Action}
use Rattle.fort_grammar.specs.declared.table.Symbol.{Symbol}
use Rattle.fort_grammar.specs.declared.table.Symbol.TheVariants.{Take, Call, Build}
use Rattle.fort_grammar.specs.Table.{Choice, table}
use Rattle.fort_grammar.specs.Derives.{In, here, there, Derives}
use Rattle.fort_grammar.specs.Derives as derives
use Rattle.fort_grammar.specs.Token.{token_class}
use Rattle.fort_expr.specs.declared.value.Value.{Value}
use Rattle.fort_expr.specs.declared.value.Value.TheVariants.{Written, Operand, Bound, Subscript, Subscripts}
use Rattle.fort_expr.specs.Expression.{IsExpr, IsDisj, IsConj, IsNeg, IsRel, IsSum, IsTerm, IsFactor, IsPrimary, IsRef, IsSubs, IsList, IsSub, IsBound, IsReferred}
use Rattle.fort_expr.specs.Expression.{a_number, a_kind_number, a_name, an_intrinsic, a_plus, a_minus, a_star, a_slash}
use Rattle.fort_expr.specs.Expression.{disj, eqv, conj, or, neg, and, rel, not, sum, relation, term, plus, minus, add, factor, times, primary, power, number, truth, ref, paren, bare, subscripted, none, some, one, more, single, section, absent, present}
use Rattle.fort_expr.specs.Machine.{Plain}
use Rattle.fort_expr.specs.Values.{shift, apply, rest, word, word_of, word_place, operand, operand_place, reference, subscripts}
use Rattle.fort_expr.specs.Words.{operator_of, front_place}
use Rattle.fort_expr.proofs.Names.{named}

-- What a part means: from the tokens w its value is built, and z is left; or it goes on with the value on top, whose tokens began before.

pub data Whole (Is : List Token → List Token → Expr → Type 0) : List Token → List Token → List Value → List Value → Type 0 where
  whole : {w z : List Token} {v : List Value} {e : Expr} → Is w z e → Whole Is w z v (Operand e (front_place w) ∷ v)

abbrev pub Tail : (List Token → List Token → Expr → Type 0) → (List Token → List Token → Expr → Type 0) → List Token → List Token → List Value → List Value → Type 0
Tail Was Is w z v u = (x : List Token) (a : Expr) (r : List Value) → Was x w a → v ≡ Operand a (front_place x) ∷ r → Whole Is x z r u

-- a reference behind its name
pub data Referring (t : Token) : List Token → List Token → List Value → List Value → Type 0 where
  referring : {w z : List Token} {v : List Value} {e : Expr} → IsRef t w z e → Referring t w z v (Operand e t.at ∷ v)

pub data Listed : List Token → List Token → List Value → List Value → Type 0 where
  listed : {w z : List Token} {v : List Value} {l : List Sub} → IsSubs w z l → Listed w z v (Subscripts l ∷ v)

pub data Subscripted : List Token → List Token → List Value → List Value → Type 0 where
  a_sub : {w z : List Token} {v : List Value} {s : Sub} → IsSub w z s → Subscripted w z v (Subscript s ∷ v)

pub data Bounded : List Token → List Token → List Value → List Value → Type 0 where
  a_bound : {w z : List Token} {v : List Value} {b : Option Expr} → IsBound w z b → Bounded w z v (Bound b ∷ v)

abbrev pub Part-means : Part → List Token → List Token → List Value → List Value → Type 0
Part-means part.Expr w z v u = Whole IsExpr w z v u
Part-means part.Disj w z v u = Whole IsDisj w z v u
Part-means part.Conj w z v u = Whole IsConj w z v u
Part-means part.Neg w z v u = Whole IsNeg w z v u
Part-means part.Rel w z v u = Whole IsRel w z v u
Part-means part.Sum w z v u = Whole IsSum w z v u
Part-means part.Term w z v u = Whole IsTerm w z v u
Part-means part.Factor w z v u = Whole IsFactor w z v u
Part-means part.Primary w z v u = Whole IsPrimary w z v u
Part-means part.EqvTail w z v u = Tail IsExpr IsExpr w z v u
Part-means part.OrTail w z v u = Tail IsDisj IsDisj w z v u
Part-means part.AndTail w z v u = Tail IsConj IsConj w z v u
Part-means part.RelTail w z v u = Tail IsSum IsRel w z v u
Part-means part.AddTail w z v u = Tail IsSum IsSum w z v u
Part-means part.MulTail w z v u = Tail IsTerm IsTerm w z v u
Part-means part.PowTail w z v u = Tail IsPrimary IsFactor w z v u
Part-means part.RefTail w z v u = (t : Token) (r : List Value) → IsReferred (token_class t) → v ≡ Written (word_of t) ∷ r → Referring t w z r u
Part-means part.Subs w z v u = Listed w z v u
Part-means part.SubTail w z v u = (x : List Token) (l : List Sub) (r : List Value) → IsList x w l → v ≡ Subscripts l ∷ r → Listed x z r u
Part-means part.Sub w z v u = Subscripted w z v u
Part-means part.SubRest w z v u = (x : List Token) (a : Expr) (r : List Value) → IsExpr x w a → v ≡ Operand a (front_place x) ∷ r → Subscripted x z r u
Part-means part.Upper w z v u = Bounded w z v u
Part-means _ w z v u = Unit {0}

-- what symbols mean, one behind the other
pub data Means : List Symbol → List Token → List Token → List Value → List Value → Type 0 where
  done : {w : List Token} {v : List Value} → Means [] w w v v
  take : {c : Class} {ss : List Symbol} {x z : List Token} {v u : List Value} (t : Token) → token_class t ≡ c → Means ss x z (shift t v) u → Means (Take c ∷ ss) (t ∷ x) z v u
  build : {a : Action} {ss : List Symbol} {w z : List Token} {v u : List Value} → Means ss w z (apply a v) u → Means (Build a ∷ ss) w z v u
  call : {n : Part} {ss : List Symbol} {w y z : List Token} {v m u : List Value} → Part-means n w y v m → Means ss y z m u → Means (Call n ∷ ss) w z v u

pub split : (xs ys : List Symbol) (w z : List Token) (v u : List Value) → Means (xs ++ ys) w z v u → (y : List Token) × (m : List Value) × Means xs w y v m × Means ys y z m u
split [] ys w z v u h = (w, v, done, h)
split (Take c ∷ xs) ys w z v u (take {x = x} t e h) = let k = split xs ys x z (shift t v) u h in (k.0, k.1, take t e k.2, k.3)
split (Build a ∷ xs) ys w z v u (build h) = let k = split xs ys w z (apply a v) u h in (k.0, k.1, build k.2, k.3)
split (Call n ∷ xs) ys w z v u (call {y = y} {m = m} p h) = let k = split xs ys y z m u h in (k.0, k.1, call p k.2, k.3)

Rows-mean : Type 0
Rows-mean = (n : Part) (r : Choice) → In r (table n) → (w z : List Token) (v u : List Value) → Means r.symbols w z v u → Part-means n w z v u

means : Rows-mean → {ss : List Symbol} {w : List Token} {v u : List Value} → Plain ss w v u → Means ss w [] v u
unfolding Rows-mean
means f derives.done = done
means f (derives.take t e d) = take t e (means f d)
means f (derives.build d) = build (means f d)
means f (derives.row {n = n} {rest = ss} {w = w} {v = v} {u = u} r i d) =
    let k = split r.symbols ss w [] v u (means f d) in
    call (f n r i w k.0 v k.1 k.2) k.3

-- The rows. Where a tail stands on the value that came before, its equation is carried on.
two_of : (o : Token) (a b : Expr) (p : Place) (v r : List Value) → v ≡ Operand a p ∷ r → Operand (Two (operator_of o.text) (operand v) b) (operand_place v) ∷ rest v ≡ Operand (Two (operator_of o.text) a b) p ∷ r
two_of o a b p v r q = ap (λ k. Operand (Two (operator_of o.text) (operand k) b) (operand_place k) ∷ rest k) q

refers : (t : Token) (l : Option (List Sub)) (v k : List Value) → IsReferred (token_class t) → v ≡ Written (word_of t) ∷ k → Operand (reference (word v) l) (word_place (word v)) ∷ rest v ≡ Operand (Ref (lowercase t.text) l t.at) t.at ∷ k
refers t l v k e h = ap (λ j. Operand (reference (word j) l) (word_place (word j)) ∷ rest j) h ∙ ap (λ n. Operand (Ref n l t.at) t.at ∷ k) (named t e)

pub fin : {w z : List Token} {v u : List Value} → Means [] w z v u → (P : List Token → List Value → Type 0) → P w v → P z u
fin done P p = p

put : (Is : List Token → List Token → Expr → Type 0) (w z : List Token) (e : Expr) (r u : List Value) → Is w z e → u ≡ Operand e (front_place w) ∷ r → Whole Is w z r u
put Is w z e r u d q = subst (λ k. Whole Is w z r k) (sym q) (whole d)

row_Expr : (r : Choice) → In r (table part.Expr) → (w z : List Token) (v u : List Value) → Means r.symbols w z v u → Part-means part.Expr w z v u
unfolding apply
row_Expr r here w z v u (call (whole {e = e} d) (call t done)) = t w e v (disj d) refl
row_Expr r (there i) w z v u h = elim i [ ]

row_EqvTail : (r : Choice) → In r (table part.EqvTail) → (w z : List Token) (v u : List Value) → Means r.symbols w z v u → Part-means part.EqvTail w z v u
unfolding apply
row_EqvTail r here w z v u (take o e (call (whole {e = b} d) (build (call t done)))) x a k l q = t x (Two (operator_of o.text) a b) k (eqv o l e d) (two_of o a b (front_place x) v k q)
row_EqvTail r (there here) w z v u done x a k l q = put IsExpr x w a k v (l) q
row_EqvTail r (there (there i)) w z v u h h0 h1 h2 h3 h4 = elim i [ ]

row_Disj : (r : Choice) → In r (table part.Disj) → (w z : List Token) (v u : List Value) → Means r.symbols w z v u → Part-means part.Disj w z v u
unfolding apply
row_Disj r here w z v u (call (whole {e = e} d) (call t done)) = t w e v (conj d) refl
row_Disj r (there i) w z v u h = elim i [ ]

row_OrTail : (r : Choice) → In r (table part.OrTail) → (w z : List Token) (v u : List Value) → Means r.symbols w z v u → Part-means part.OrTail w z v u
unfolding apply
row_OrTail r here w z v u (take o e (call (whole {e = b} d) (build (call t done)))) x a k l q = t x (Two (operator_of o.text) a b) k (or o l e d) (two_of o a b (front_place x) v k q)
row_OrTail r (there here) w z v u done x a k l q = put IsDisj x w a k v (l) q
row_OrTail r (there (there i)) w z v u h h0 h1 h2 h3 h4 = elim i [ ]

row_Conj : (r : Choice) → In r (table part.Conj) → (w z : List Token) (v u : List Value) → Means r.symbols w z v u → Part-means part.Conj w z v u
unfolding apply
row_Conj r here w z v u (call (whole {e = e} d) (call t done)) = t w e v (neg d) refl
row_Conj r (there i) w z v u h = elim i [ ]

row_AndTail : (r : Choice) → In r (table part.AndTail) → (w z : List Token) (v u : List Value) → Means r.symbols w z v u → Part-means part.AndTail w z v u
unfolding apply
row_AndTail r here w z v u (take o e (call (whole {e = b} d) (build (call t done)))) x a k l q = t x (Two (operator_of o.text) a b) k (and o l e d) (two_of o a b (front_place x) v k q)
row_AndTail r (there here) w z v u done x a k l q = put IsConj x w a k v (l) q
row_AndTail r (there (there i)) w z v u h h0 h1 h2 h3 h4 = elim i [ ]

row_Neg : (r : Choice) → In r (table part.Neg) → (w z : List Token) (v u : List Value) → Means r.symbols w z v u → Part-means part.Neg w z v u
unfolding apply
row_Neg r here w z v u (take {x = x} o e (call (whole d) (build n))) = fin n (λ y k. Whole IsNeg (o ∷ x) y v k) (whole (not o e d))
row_Neg r (there here) w z v u (call (whole d) done) = whole (rel d)
row_Neg r (there (there i)) w z v u h = elim i [ ]

row_Rel : (r : Choice) → In r (table part.Rel) → (w z : List Token) (v u : List Value) → Means r.symbols w z v u → Part-means part.Rel w z v u
unfolding apply
row_Rel r here w z v u (call (whole {e = e} d) (call t done)) = t w e v (d) refl
row_Rel r (there i) w z v u h = elim i [ ]

row_RelTail : (r : Choice) → In r (table part.RelTail) → (w z : List Token) (v u : List Value) → Means r.symbols w z v u → Part-means part.RelTail w z v u
unfolding apply
row_RelTail r here w z v u (take o e (call (whole {e = b} d) (build n))) x a k l q = fin n (λ y j. Whole IsRel x y k j) (put IsRel x _ (Two (operator_of o.text) a b) k _ (relation o l e d) (two_of o a b (front_place x) v k q))
row_RelTail r (there here) w z v u done x a k l q = put IsRel x w a k v (sum l) q
row_RelTail r (there (there i)) w z v u h h0 h1 h2 h3 h4 = elim i [ ]

row_Sum : (r : Choice) → In r (table part.Sum) → (w z : List Token) (v u : List Value) → Means r.symbols w z v u → Part-means part.Sum w z v u
unfolding apply
row_Sum r here w z v u (take o e (call (whole {e = a} d) (build (call t done)))) = t w (One unary.Plus a o.at) v (plus o e d) refl
row_Sum r (there here) w z v u (take o e (call (whole {e = a} d) (build (call t done)))) = t w (One unary.Minus a o.at) v (minus o e d) refl
row_Sum r (there (there here)) w z v u (call (whole {e = e} d) (call t done)) = t w e v (term d) refl
row_Sum r (there (there (there i))) w z v u h = elim i [ ]

row_AddTail : (r : Choice) → In r (table part.AddTail) → (w z : List Token) (v u : List Value) → Means r.symbols w z v u → Part-means part.AddTail w z v u
unfolding apply
row_AddTail r here w z v u (take o e (call (whole {e = b} d) (build (call t done)))) x a k l q = t x (Two (operator_of o.text) a b) k (add o l (a_plus e) d) (two_of o a b (front_place x) v k q)
row_AddTail r (there here) w z v u (take o e (call (whole {e = b} d) (build (call t done)))) x a k l q = t x (Two (operator_of o.text) a b) k (add o l (a_minus e) d) (two_of o a b (front_place x) v k q)
row_AddTail r (there (there here)) w z v u done x a k l q = put IsSum x w a k v (l) q
row_AddTail r (there (there (there i))) w z v u h h0 h1 h2 h3 h4 = elim i [ ]

row_Term : (r : Choice) → In r (table part.Term) → (w z : List Token) (v u : List Value) → Means r.symbols w z v u → Part-means part.Term w z v u
unfolding apply
row_Term r here w z v u (call (whole {e = e} d) (call t done)) = t w e v (factor d) refl
row_Term r (there i) w z v u h = elim i [ ]

row_MulTail : (r : Choice) → In r (table part.MulTail) → (w z : List Token) (v u : List Value) → Means r.symbols w z v u → Part-means part.MulTail w z v u
unfolding apply
row_MulTail r here w z v u (take o e (call (whole {e = b} d) (build (call t done)))) x a k l q = t x (Two (operator_of o.text) a b) k (times o l (a_star e) d) (two_of o a b (front_place x) v k q)
row_MulTail r (there here) w z v u (take o e (call (whole {e = b} d) (build (call t done)))) x a k l q = t x (Two (operator_of o.text) a b) k (times o l (a_slash e) d) (two_of o a b (front_place x) v k q)
row_MulTail r (there (there here)) w z v u done x a k l q = put IsTerm x w a k v (l) q
row_MulTail r (there (there (there i))) w z v u h h0 h1 h2 h3 h4 = elim i [ ]

row_Factor : (r : Choice) → In r (table part.Factor) → (w z : List Token) (v u : List Value) → Means r.symbols w z v u → Part-means part.Factor w z v u
unfolding apply
row_Factor r here w z v u (call (whole {e = e} d) (call t done)) = t w e v (d) refl
row_Factor r (there i) w z v u h = elim i [ ]

row_PowTail : (r : Choice) → In r (table part.PowTail) → (w z : List Token) (v u : List Value) → Means r.symbols w z v u → Part-means part.PowTail w z v u
unfolding apply
row_PowTail r here w z v u (take o e (call (whole {e = b} d) (build n))) x a k l q = fin n (λ y j. Whole IsFactor x y k j) (put IsFactor x _ (Two (operator_of o.text) a b) k _ (power o l e d) (two_of o a b (front_place x) v k q))
row_PowTail r (there here) w z v u done x a k l q = put IsFactor x w a k v (primary l) q
row_PowTail r (there (there i)) w z v u h h0 h1 h2 h3 h4 = elim i [ ]

refer : (t : Token) (w z : List Token) (v u : List Value) → IsReferred (token_class t) → Referring t w z v u → Whole IsPrimary (t ∷ w) z v u
refer t w z v u r (referring d) = whole (ref t r d)

put_ref : (t : Token) (w z : List Token) (e : Expr) (r u : List Value) → IsRef t w z e → u ≡ Operand e t.at ∷ r → Referring t w z r u
put_ref t w z e r u d q = subst (λ k. Referring t w z r k) (sym q) (referring d)

row_Primary : (r : Choice) → In r (table part.Primary) → (w z : List Token) (v u : List Value) → Means r.symbols w z v u → Part-means part.Primary w z v u
unfolding apply
row_Primary r here w z v u (take t e (build done)) = whole (number t (a_number e))
row_Primary r (there here) w z v u (take t e (build done)) = whole (number t (a_kind_number e))
row_Primary r (there (there here)) w z v u (take t e (build done)) = whole (truth t e)
row_Primary r (there (there (there here))) w z v u (take {x = x} t e (call f done)) = refer t x z v u (a_name e) (f t v (a_name e) refl)
row_Primary r (there (there (there (there here)))) w z v u (take {x = x} t e (call f done)) = refer t x z v u (an_intrinsic e) (f t v (an_intrinsic e) refl)
row_Primary r (there (there (there (there (there here))))) w z v u (take {x = x} p e (call (whole d) (take q f (build n)))) = fin n (λ y k. Whole IsPrimary (p ∷ x) y v k) (whole (paren p q e d f))
row_Primary r (there (there (there (there (there (there i)))))) w z v u h = elim i [ ]

row_RefTail : (r : Choice) → In r (table part.RefTail) → (w z : List Token) (v u : List Value) → Means r.symbols w z v u → Part-means part.RefTail w z v u
unfolding apply
row_RefTail r here w z v u (take {x = x} p f (call (listed {l = l} d) (take q g (build n)))) t k e h =
    fin n (λ y j. Referring t (p ∷ x) y k j) (put_ref t (p ∷ x) _ (Ref (lowercase t.text) (Some l) t.at) k _ (subscripted p q f d g) (refers t (Some l) v k e h))
row_RefTail r (there here) w z v u (build done) t k e h = put_ref t w z (Ref (lowercase t.text) None t.at) k u bare (refers t None v k e h)
row_RefTail r (there (there i)) w z v u h h0 h1 h2 h3 = elim i [ ]

row_Subs : (r : Choice) → In r (table part.Subs) → (w z : List Token) (v u : List Value) → Means r.symbols w z v u → Part-means part.Subs w z v u
unfolding apply
row_Subs r here w z v u (call (a_sub {s = s} d) (build (call t done))) = t w (s ∷ []) v (one d) refl
row_Subs r (there here) w z v u (build done) = listed none
row_Subs r (there (there i)) w z v u h = elim i [ ]

row_SubTail : (r : Choice) → In r (table part.SubTail) → (w z : List Token) (v u : List Value) → Means r.symbols w z v u → Part-means part.SubTail w z v u
unfolding apply
row_SubTail r here w z v u (take c e (call (a_sub {s = s} d) (build (call t done)))) x l k i q = t x (l ++ s ∷ []) k (more c i e d) (ap (λ j. Subscripts (subscripts j ++ s ∷ []) ∷ rest j) q)
row_SubTail r (there here) w z v u done x l k i q = subst (λ j. Listed x w k j) (sym q) (listed (some i))
row_SubTail r (there (there i)) w z v u h h0 h1 h2 h3 h4 = elim i [ ]

row_Sub : (r : Choice) → In r (table part.Sub) → (w z : List Token) (v u : List Value) → Means r.symbols w z v u → Part-means part.Sub w z v u
unfolding apply
row_Sub r here w z v u (call (whole {e = e} d) (call t done)) = t w e v d refl
row_Sub r (there here) w z v u (take c e (call (a_bound b) (build done))) = a_sub (section c absent e b)
row_Sub r (there (there i)) w z v u h = elim i [ ]

row_SubRest : (r : Choice) → In r (table part.SubRest) → (w z : List Token) (v u : List Value) → Means r.symbols w z v u → Part-means part.SubRest w z v u
unfolding apply
row_SubRest r here w z v u (take c e (call (a_bound {b = b} d) (build done))) x a k l q =
    subst (λ j. Subscripted x z k j) (sym (ap (λ j. Subscript (sub.Range (Some (operand j)) b (operand_place j)) ∷ rest j) q)) (a_sub (section c (present l) e d))
row_SubRest r (there here) w z v u (build done) x a k l q = subst (λ j. Subscripted x w k j) (sym (ap (λ j. Subscript (sub.One (operand j)) ∷ rest j) q)) (a_sub (single l))
row_SubRest r (there (there i)) w z v u h h0 h1 h2 h3 h4 = elim i [ ]

row_Upper : (r : Choice) → In r (table part.Upper) → (w z : List Token) (v u : List Value) → Means r.symbols w z v u → Part-means part.Upper w z v u
unfolding apply
row_Upper r here w z v u (call (whole d) (build done)) = a_bound (present d)
row_Upper r (there here) w z v u (build done) = a_bound absent
row_Upper r (there (there i)) w z v u h = elim i [ ]

pub row-mean : (n : Part) (r : Choice) → In r (table n) → (w z : List Token) (v u : List Value) → Means r.symbols w z v u → Part-means n w z v u
row-mean part.Expr = row_Expr
row-mean part.EqvTail = row_EqvTail
row-mean part.Disj = row_Disj
row-mean part.OrTail = row_OrTail
row-mean part.Conj = row_Conj
row-mean part.AndTail = row_AndTail
row-mean part.Neg = row_Neg
row-mean part.Rel = row_Rel
row-mean part.RelTail = row_RelTail
row-mean part.Sum = row_Sum
row-mean part.AddTail = row_AddTail
row-mean part.Term = row_Term
row-mean part.MulTail = row_MulTail
row-mean part.Factor = row_Factor
row-mean part.PowTail = row_PowTail
row-mean part.Primary = row_Primary
row-mean part.RefTail = row_RefTail
row-mean part.Subs = row_Subs
row-mean part.SubTail = row_SubTail
row-mean part.Sub = row_Sub
row-mean part.SubRest = row_SubRest
row-mean part.Upper = row_Upper
row-mean _ = λ r i w z v u m. tt

ends-expr : {w : List Token} {v u : List Value} → Means (Call part.Expr ∷ []) w [] v u → (e : Expr) × IsExpr w [] e × (u ≡ Operand e (front_place w) ∷ v)
ends-expr (call (whole {e = e} d) done) = (e, d, refl)

-- what the grammar derives is an expression
pub expr-derived : (w : List Token) (v u : List Value) → Plain (Call part.Expr ∷ []) w v u → (e : Expr) × IsExpr w [] e × (u ≡ Operand e (front_place w) ∷ v)
unfolding Rows-mean
expr-derived w v u d = ends-expr (means row-mean d)
