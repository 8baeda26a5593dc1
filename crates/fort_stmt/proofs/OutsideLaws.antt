-- The item that the tests give is the least, and there is one where they give one.
use mathlib.Core.Bool.{not}
use Rattle.std.proofs.Common.{◌≡◌, ◌⊎◌, ℕ, ◌≤◌, Bool, true, false, cond, ◌||◌, min, List, [], ◌∷◌, Option, None, Some, refl, sym, ◌∙◌, ap, subst, inl, inr, arith}
use Rattle.std.specs.Bool.{Decides}
use Rattle.std.proofs.lemmas.Bool.{true≢false}
use Rattle.std.proofs.lemmas.Bool.Decides.{Decides-and, Decides-or, Decides-not, Decides-like}
use Rattle.fort_tree.specs.declared.choice.Mode.{Mode}
use Rattle.fort_tree.specs.declared.statement.Token.{Token}
use Rattle.fort_tree.specs.Name.{is_name}
use Rattle.fort_grammar.specs.declared.class.Class.{Class}
use Rattle.fort_grammar.specs.declared.class.Class.TheVariants as class
use Rattle.fort_grammar.specs.Choose.{same}
use Rattle.fort_grammar.specs.Token.{token_class}
use Rattle.fort_grammar.proofs.Theory.{same-eq, same-refl}
use Rattle.fort_expr.specs.Expression.{IsNumber, a_number, a_kind_number}
use Rattle.fort_expr.specs.Outside.{is_made_name}
use Rattle.fort_stmt.specs.Outside.{Outside, opening, label, construct_name, do_alone, attribute, value, renamed, made_name, reserved_word, second_colon, double_colon, keyword, array_values}
use Rattle.fort_stmt.specs.Outside.{first_item, attribute_item, first_class, has_parameter, no_variable, begins_greater, is_word, Begins, AttributeDue, DeclaresVariables, EntityEnds, InExpression, ArgumentBegins, ArgumentEnds}
use Rattle.fort_stmt.specs.Outside.{when, lesser, is_empty, follows, is_number, begins, opening_item, is_label, is_do_alone, attribute_due, attribute_by, is_value, is_renamed, is_reserved_word, in_expression, argument_ends, is_second_colon, is_double_colon, is_keyword, begins_values, is_section, item_of}

-- Tests and what they decide.

itself : (b : Bool) → Decides b (b ≡ true)
itself b = (λ h. h, λ h. h)

some-class : (b c : Class) → Some b ≡ Some c → b ≡ c
some-class b c h = cc

none-class : (c : Class) → None ≡ Some c → ⊥
none-class c h = cc

same-decides : (b c : Class) → Decides (same b c) (b ≡ c)
same-decides b c = (λ h. same-eq b c h, λ h. ap (λ q. same q c) h ∙ same-refl c)

empty-decides : (w : List Token) → Decides (is_empty w) (w ≡ [])
empty-decides [] = (λ h. refl, λ h. refl)
empty-decides (t ∷ w) = (λ h. absurd (true≢false (sym h)), λ h. absurd (true≢false (sym (ap is_empty h))))

follows-decides : (c : Class) (w : List Token) → Decides (follows c w) (first_class w ≡ Some c)
follows-decides c [] = (λ h. absurd (true≢false (sym h)), λ h. absurd (none-class c h))
follows-decides c (t ∷ w) = (λ h. ap Some (same-eq (token_class t) c h), λ h. (same-decides (token_class t) c).1 (some-class (token_class t) c h))

number-decides : (c : Class) → Decides (is_number c) (IsNumber c)
number-decides c = Decides-like (is_number c) to from (Decides-or (same c class.Number) (same c class.KindNumber) (same-decides c class.Number) (same-decides c class.KindNumber))
  where
    to : (c ≡ class.Number) ⊎ (c ≡ class.KindNumber) → IsNumber c
    to (inl h) = a_number h
    to (inr h) = a_kind_number h

    from : IsNumber c → (c ≡ class.Number) ⊎ (c ≡ class.KindNumber)
    from (a_number h) = inl h
    from (a_kind_number h) = inr h

false-decides : (b : Bool) → Decides (not b) (b ≡ false)
false-decides true = (λ h. absurd (true≢false (sym h)), λ h. absurd (true≢false h))
false-decides false = (λ h. refl, λ h. refl)

-- Items.

some-item : (m k : ℕ) → Some m ≡ Some k → m ≡ k
some-item m k h = cc

none-item : (k : ℕ) → None ≡ Some k → ⊥
none-item k h = cc

-- what a test gives where the token has the item k
abbrev Least : Option ℕ → ℕ → Type 0
Least None k = ⊥
Least (Some m) k = m ≤ k

either : (a b : Option ℕ) (k : ℕ) → lesser a b ≡ Some k → (a ≡ Some k) ⊎ (b ≡ Some k)
either None b k h = inr h
either (Some m) None k h = inl h
either (Some m) (Some n) k h = let e : min m n ≡ k = some-item (min m n) k h in
    let c : (m ≡ k) ⊎ (n ≡ k) = of-min m n k e in
    elim c [ inl f ↦ inl (ap Some f) | inr f ↦ inr (ap Some f) ]
  where
    of-min : (m n k : ℕ) → min m n ≡ k → (m ≡ k) ⊎ (n ≡ k)
    of-min m n k e = grind arith

first : (a b : Option ℕ) (k : ℕ) → Least a k → Least (lesser a b) k
first None b k h = absurd h
first (Some m) None k h = h
first (Some m) (Some n) k h = omega arith

second : (a b : Option ℕ) (k : ℕ) → Least b k → Least (lesser a b) k
second None b k h = h
second (Some m) None k h = absurd h
second (Some m) (Some n) k h = omega arith

by-test : (b : Bool) (m : ℕ) → b ≡ true → Least (when b m) m
by-test true m h = omega arith
by-test false m h = absurd (true≢false (sym h))

when-some : (b : Bool) (m k : ℕ) → when b m ≡ Some k → (b ≡ true) × (m ≡ k)
when-some true m k h = (refl, some-item m k h)
when-some false m k h = absurd (none-item k h)

by-word : (b : Bool) (o : Option ℕ) (k : ℕ) → b ≡ true → o ≡ Some k → Least (cond b o None) k
by-word true o k h e = subst (λ q. Least q k) (sym e) (omega arith)
by-word false o k h e = absurd (true≢false (sym h))

word-some : (b : Bool) (o : Option ℕ) (k : ℕ) → cond b o None ≡ Some k → (b ≡ true) × (o ≡ Some k)
word-some true o k h = (refl, h)
word-some false o k h = absurd (none-item k h)

module _ (mode : Mode) (front : List Token) (can : Class → Bool) (Can : Class → Type 0) (decides : (c : Class) → Decides (can c) (Can c)) (t : Token) (behind : List Token) where
  abbrev Out : ℕ → Type 0
  Out k = Outside mode front Can t behind k

  class-is : (c : Class) → Decides (same (token_class t) c) (token_class t ≡ c)
  class-is c = same-decides (token_class t) c

  cannot : (c : Class) → Decides (not (can c)) (Can c → ⊥)
  cannot c = Decides-not (can c) (decides c)

  begins-decides : Decides (begins front can) (Begins front Can)
  begins-decides = Decides-or _ _ (empty-decides front) (Decides-and _ _ (decides class.Then) (decides class.Exit))

  label-decides : Decides (is_label front t behind) ((front ≡ []) × (IsNumber (token_class t) ⊎ ((is_name t.text ≡ true) × (first_class behind ≡ Some class.Colon))))
  label-decides = Decides-and _ _ (empty-decides front) (Decides-or _ _ (number-decides (token_class t)) (Decides-and _ _ (itself (is_name t.text)) (follows-decides class.Colon behind)))

  do-decides : Decides (is_do_alone front t behind) ((front ≡ []) × ((token_class t ≡ class.Do) × (no_variable behind ≡ true)))
  do-decides = Decides-and _ _ (empty-decides front) (Decides-and _ _ (class-is class.Do) (itself (no_variable behind)))

  attribute-decides : Decides (attribute_due can) (AttributeDue Can)
  attribute-decides = Decides-or _ _ (decides class.Parameter) (Decides-or _ _ (decides class.Intent) (decides class.Dimension))

  value-decides : Decides (is_value front can t) ((token_class t ≡ class.Equals) × (DeclaresVariables front × EntityEnds Can))
  value-decides = Decides-and _ _ (class-is class.Equals)
      (Decides-and _ _ (Decides-and _ _ (Decides-or _ _ (follows-decides class.Integer front) (follows-decides class.Logical front)) (false-decides (has_parameter front)))
      (Decides-and _ _ (decides class.Comma) (Decides-and _ _ (cannot class.Close) (cannot class.DoubleColon))))

  renamed-decides : Decides (is_renamed front t behind) ((token_class t ≡ class.Equals) × ((first_class front ≡ Some class.Use) × (begins_greater behind ≡ true)))
  renamed-decides = Decides-and _ _ (class-is class.Equals) (Decides-and _ _ (follows-decides class.Use front) (itself (begins_greater behind)))

  reserved-decides : Decides (is_reserved_word can (token_class t)) ((is_word (token_class t) ≡ true) × (Can class.Name × (Can (token_class t) → ⊥)))
  reserved-decides = Decides-and _ _ (itself (is_word (token_class t))) (Decides-and _ _ (decides class.Name) (cannot (token_class t)))

  expression-decides : Decides (in_expression can) (InExpression Can)
  expression-decides = Decides-or _ _ (decides class.Not) (decides class.Equivalence)

  ends-decides : Decides (argument_ends can) (ArgumentEnds Can)
  ends-decides = Decides-and _ _ expression-decides (Decides-and _ _ (decides class.Comma) (decides class.Close))

  second-decides : Decides (is_second_colon can (token_class t)) ((token_class t ≡ class.Colon) × (ArgumentEnds Can × (Can class.Colon → ⊥)))
  second-decides = Decides-and _ _ (class-is class.Colon) (Decides-and _ _ ends-decides (cannot class.Colon))

  double-decides : Decides (is_double_colon can (token_class t)) ((token_class t ≡ class.DoubleColon) × ((InExpression Can × Can class.Colon) ⊎ ArgumentEnds Can))
  double-decides = Decides-and _ _ (class-is class.DoubleColon) (Decides-or _ _ (Decides-and _ _ expression-decides (decides class.Colon)) ends-decides)

  keyword-decides : Decides (is_keyword can (token_class t) behind) ((token_class t ≡ class.Name) × ((first_class behind ≡ Some class.Equals) × ArgumentBegins Can))
  keyword-decides = Decides-and _ _ (class-is class.Name) (Decides-and _ _ (follows-decides class.Equals behind) (Decides-and _ _ (decides class.Name) (Decides-and _ _ (decides class.Colon) (decides class.Not))))

  values-decides : Decides (begins_values (token_class t) behind) ((token_class t ≡ class.Open) × (first_class behind ≡ Some class.Slash))
  values-decides = Decides-and _ _ (class-is class.Open) (follows-decides class.Slash behind)

  -- From the tests to the items.

  abbrev labels : Option ℕ
  labels = when (is_label front t behind) 3

  abbrev dos : Option ℕ
  dos = when (is_do_alone front t behind) 4

  abbrev attributes : Option ℕ
  attributes = attribute_by can t

  abbrev values : Option ℕ
  values = when (is_value front can t) 8

  abbrev uses : Option ℕ
  uses = when (is_renamed front t behind) 9

  abbrev names : Option ℕ
  names = when (is_made_name mode t.text || is_reserved_word can (token_class t)) 10

  abbrev sections : Option ℕ
  sections = when (is_section can (token_class t) behind) 12

  at-test : {P : Type 0} (b : Bool) (m k : ℕ) → Decides b P → (P → Out m) → when b m ≡ Some k → Out k
  at-test b m k d f h = let p = when-some b m k h in subst (λ q. Out q) p.1 (f (d.0 p.0))

  of-label : (front ≡ []) × (IsNumber (token_class t) ⊎ ((is_name t.text ≡ true) × (first_class behind ≡ Some class.Colon))) → Out 3
  of-label (e, inl n) = label e n
  of-label (e, inr (n, f)) = construct_name e n f

  of-name : (is_made_name mode t.text ≡ true) ⊎ ((is_word (token_class t) ≡ true) × (Can class.Name × (Can (token_class t) → ⊥))) → Out 10
  of-name (inl h) = made_name h
  of-name (inr (a, (b, c))) = reserved_word a b c

  abbrev Section : Type 0
  Section =
      ((token_class t ≡ class.Colon) × (ArgumentEnds Can × (Can class.Colon → ⊥))) ⊎ (
      ((token_class t ≡ class.DoubleColon) × ((InExpression Can × Can class.Colon) ⊎ ArgumentEnds Can)) ⊎ (
      ((token_class t ≡ class.Name) × ((first_class behind ≡ Some class.Equals) × ArgumentBegins Can)) ⊎
      ((token_class t ≡ class.Open) × (first_class behind ≡ Some class.Slash))))

  section-decides : Decides (is_section can (token_class t) behind) Section
  section-decides = Decides-or _ _ second-decides (Decides-or _ _ double-decides (Decides-or _ _ keyword-decides values-decides))

  of-section : Section → Out 12
  of-section (inl (a, (b, c))) = second_colon a b c
  of-section (inr (inl (a, b))) = double_colon a b
  of-section (inr (inr (inl (a, (b, c))))) = keyword a b c
  of-section (inr (inr (inr (a, b)))) = array_values a b

  name-decides : Decides (is_made_name mode t.text || is_reserved_word can (token_class t)) ((is_made_name mode t.text ≡ true) ⊎ ((is_word (token_class t) ≡ true) × (Can class.Name × (Can (token_class t) → ⊥))))
  name-decides = Decides-or _ _ (itself (is_made_name mode t.text)) reserved-decides

  of-opening : (k : ℕ) → opening_item front can t ≡ Some k → Out k
  of-opening k h = let p = word-some (begins front can) (first_item t.text) k h in opening p.1 (begins-decides.0 p.0)

  of-attribute : (k : ℕ) → attribute_by can t ≡ Some k → Out k
  of-attribute k h = let p = word-some (attribute_due can) (attribute_item t.text) k h in attribute p.1 (attribute-decides.0 p.0)

  -- what is left to test
  abbrev from-names : Option ℕ
  from-names = lesser names sections

  abbrev from-uses : Option ℕ
  from-uses = lesser uses from-names

  abbrev from-values : Option ℕ
  from-values = lesser values from-uses

  abbrev from-attributes : Option ℕ
  from-attributes = lesser attributes from-values

  abbrev from-dos : Option ℕ
  from-dos = lesser dos from-attributes

  abbrev from-labels : Option ℕ
  from-labels = lesser labels from-dos

  pub item-sound : (k : ℕ) → item_of mode front can t behind ≡ Some k → Outside mode front Can t behind k
  item-sound k h = elim (either (opening_item front can t) from-labels k h) [
    | inl a ↦ of-opening k a
    | inr a ↦ elim (either labels from-dos k a) [
      | inl b ↦ at-test (is_label front t behind) 3 k label-decides of-label b
      | inr b ↦ elim (either dos from-attributes k b) [
        | inl d ↦ at-test (is_do_alone front t behind) 4 k do-decides (λ (x, (y, z)). do_alone x y z) d
        | inr d ↦ elim (either attributes from-values k d) [
          | inl e ↦ of-attribute k e
          | inr e ↦ elim (either values from-uses k e) [
            | inl f ↦ at-test (is_value front can t) 8 k value-decides (λ (x, (y, z)). value x y z) f
            | inr f ↦ elim (either uses from-names k f) [
              | inl g ↦ at-test (is_renamed front t behind) 9 k renamed-decides (λ (x, (y, z)). renamed x y z) g
              | inr g ↦ elim (either names sections k g) [
                | inl i ↦ at-test (is_made_name mode t.text || is_reserved_word can (token_class t)) 10 k name-decides of-name i
                | inr i ↦ at-test (is_section can (token_class t) behind) 12 k section-decides of-section i
              ]
            ]
          ]
        ]
      ]
    ]
  ]

  -- From the items to the tests.

  abbrev Item : ℕ → Type 0
  Item k = Least (item_of mode front can t behind) k

  past-opening : (k : ℕ) → Least from-labels k → Item k
  past-opening k h = second (opening_item front can t) from-labels k h

  past-label : (k : ℕ) → Least from-dos k → Item k
  past-label k h = past-opening k (second labels from-dos k h)

  past-do : (k : ℕ) → Least from-attributes k → Item k
  past-do k h = past-label k (second dos from-attributes k h)

  past-attribute : (k : ℕ) → Least from-values k → Item k
  past-attribute k h = past-do k (second attributes from-values k h)

  past-value : (k : ℕ) → Least from-uses k → Item k
  past-value k h = past-attribute k (second values from-uses k h)

  past-use : (k : ℕ) → Least from-names k → Item k
  past-use k h = past-value k (second uses from-names k h)

  by-opening : (k : ℕ) → first_item t.text ≡ Some k → Begins front Can → Item k
  by-opening k e b = first (opening_item front can t) from-labels k (by-word (begins front can) (first_item t.text) k (begins-decides.1 b) e)

  by-label : (front ≡ []) × (IsNumber (token_class t) ⊎ ((is_name t.text ≡ true) × (first_class behind ≡ Some class.Colon))) → Item 3
  by-label p = past-opening 3 (first labels from-dos 3 (by-test (is_label front t behind) 3 (label-decides.1 p)))

  by-do : (front ≡ []) × ((token_class t ≡ class.Do) × (no_variable behind ≡ true)) → Item 4
  by-do p = past-label 4 (first dos from-attributes 4 (by-test (is_do_alone front t behind) 4 (do-decides.1 p)))

  by-attribute : (k : ℕ) → attribute_item t.text ≡ Some k → AttributeDue Can → Item k
  by-attribute k e d = past-do k (first attributes from-values k (by-word (attribute_due can) (attribute_item t.text) k (attribute-decides.1 d) e))

  by-value : (token_class t ≡ class.Equals) × (DeclaresVariables front × EntityEnds Can) → Item 8
  by-value p = past-attribute 8 (first values from-uses 8 (by-test (is_value front can t) 8 (value-decides.1 p)))

  by-renamed : (token_class t ≡ class.Equals) × ((first_class front ≡ Some class.Use) × (begins_greater behind ≡ true)) → Item 9
  by-renamed p = past-value 9 (first uses from-names 9 (by-test (is_renamed front t behind) 9 (renamed-decides.1 p)))

  by-name : (is_made_name mode t.text ≡ true) ⊎ ((is_word (token_class t) ≡ true) × (Can class.Name × (Can (token_class t) → ⊥))) → Item 10
  by-name p = past-use 10 (first names sections 10 (by-test (is_made_name mode t.text || is_reserved_word can (token_class t)) 10 (name-decides.1 p)))

  by-section : Section → Item 12
  by-section p = past-use 12 (second names sections 12 (by-test (is_section can (token_class t) behind) 12 (section-decides.1 p)))

  complete : (k : ℕ) → Outside mode front Can t behind k → Least (item_of mode front can t behind) k
  complete k (opening e b) = by-opening k e b
  complete k (label e n) = by-label (e, inl n)
  complete k (construct_name e n f) = by-label (e, inr (n, f))
  complete k (do_alone e d n) = by-do (e, (d, n))
  complete k (attribute a d) = by-attribute k a d
  complete k (value e d n) = by-value (e, (d, n))
  complete k (renamed e u g) = by-renamed (e, (u, g))
  complete k (made_name h) = by-name (inl h)
  complete k (reserved_word w n c) = by-name (inr (w, (n, c)))
  complete k (second_colon c e n) = by-section (inl (c, (e, n)))
  complete k (double_colon c p) = by-section (inr (inl (c, p)))
  complete k (keyword n e a) = by-section (inr (inr (inl (n, (e, a)))))
  complete k (array_values o s) = by-section (inr (inr (inr (o, s))))

  pub item-none : item_of mode front can t behind ≡ None → (k : ℕ) → Outside mode front Can t behind k → ⊥
  item-none h k d = subst (λ q. Least q k) h (complete k d)

  pub item-least : (m : ℕ) → item_of mode front can t behind ≡ Some m → (k : ℕ) → Outside mode front Can t behind k → m ≤ k
  item-least m h k d = subst (λ q. Least q k) h (complete k d)
