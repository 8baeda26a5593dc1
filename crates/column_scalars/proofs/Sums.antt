-- What an expression of names gives, where each name is written so and lies there.
use Rattle.std.proofs.Common.{◌≡◌, ℕ, ℤ, pos, ◌-ℤ◌, refl, ap, ap₂, ◌∙◌, List, [], Option, Some, None, true, Contains}
use Rattle.std.specs.Option.{option_and_then, option_map}
use Rattle.fort_arith.specs.declared.kind.Kind.TheVariants.{I4}
use Rattle.fort_arith.specs.declared.op.Op.{Op}
use Rattle.fort_arith.specs.declared.op.Op.TheVariants.{Mul, Add, Sub}
use Rattle.fort_arith.specs.Operators.{is_arithmetic, applied}
use Rattle.fort_arith.specs.Range.{fitted}
use Rattle.fort_tree.specs.declared.expr.Unary.{Unary}
use Rattle.fort_tree.specs.declared.expr.Unary.TheVariants.{Plus, Minus, Not}
use Rattle.courses.specs.Element.{Value, Undefined, Whole, Truth, Element, Store, put}
use Rattle.courses.specs.Interaction.{Orders}
use Rattle.courses.specs.Course.{Sort, Item, Way, Course, and_then}
use Rattle.claw_meaning.specs.Syntax.{Text, Expr, Numeral, Boolean, Name, Reference, Signed, Binary, Paren}
use Rattle.claw_meaning.specs.Kinds.{greater}
use Rattle.claw_meaning.specs.Scene.{Scene}
use Rattle.claw_meaning.specs.Evaluation.{kind_in, settled, shapes, value, place, defined, operated, with_sign, with_exact, given_whole}
use Rattle.claw_meaning.specs.Statements.{whole_of}
use Rattle.column_scalars.specs.Scalars.{IsSum, IsTermOp, IsTermSign}
use Rattle.column_scalars.specs.Model.{sum_value, signed, held, item}
use Rattle.column_scalars.proofs.Ends.{End, ending, ending_then}

-- the expression with each name written so
abbrev pub said : (Text → Expr) → Expr → Expr
said shown (Numeral n suffix) = Numeral n suffix
said shown (Boolean b) = Boolean b
said shown (Name x) = shown x
said shown (Reference x subs) = Reference x subs
said shown (Signed sign e) = Signed sign (said shown e)
said shown (Binary op a b) = Binary op (said shown a) (said shown b)
said shown (Paren e) = Paren e

-- each of these names is a default INTEGER that is written so and lies there, in each store of which P holds
pub record Lies (c : Scene) (names : List Text) (shown : Text → Expr) (at : Text → Element) (P : Store → Type 0) : Type 0 where
  pub kind : (x : Text) → Contains names x → kind_in c (shown x) ≡ I4
  pub settles : {k : Sort} (x : Text) → Contains names x → (g : Expr → Course k) → settled c (shown x) g ≡ g (shown x)
  pub scalar : (x : Text) → Contains names x → shapes c (shown x) ≡ []
  pub reads : (x : Text) → Contains names x → (o : Orders) (s : Store) (j : ℕ) → P s → ending (value c (shown x) []) o s j ≡ ending (defined (s (at x))) o s j
  pub places : (x : Text) → Contains names x → (g : Element → Course Way) (o : Orders) (s : Store) (j : ℕ) → P s → ending (place c (shown x) [] g) o s j ≡ ending (g (at x)) o s j
  pub keeps : (x : Text) → Contains names x → (s : Store) (v : Value) → P s → P (put s (at x) v)

-- an expression gives this value and leaves the store, or traps
abbrev pub gives : Option Value → Store → ℕ → Option (End Value)
gives result s j = option_map (λ v. record { answer = v; store = s; next = j }) result

pub term_op : (op : Op) → IsTermOp op → is_arithmetic op ≡ true
term_op Add h = refl
term_op Sub h = refl
term_op Mul h = refl
term_op other h = absurd h

reads_held : (v : Value) (o : Orders) (s : Store) (j : ℕ) → ending (defined v) o s j ≡ gives (held v) s j
reads_held Undefined o s j = refl
reads_held (Whole n) o s j = refl
reads_held (Truth b) o s j = refl

whole_held : (v : Value) → option_and_then whole_of (held v) ≡ whole_of v
whole_held Undefined = refl
whole_held (Whole n) = refl
whole_held (Truth b) = refl

whole_map : (r : Option ℤ) → option_and_then whole_of (option_map Whole r) ≡ r
whole_map None = refl
whole_map (Some n) = refl

-- what an expression gives is its number, but for a name
whole_item : (names : List Text) (values : Text → Value) (e : Expr) → IsSum names e → option_and_then whole_of (item values e) ≡ sum_value values e
whole_item names values (Name x) h = whole_held (values x)
whole_item names values (Numeral n suffix) h = refl
whole_item names values (Signed sign e) h = whole_map (sum_value values (Signed sign e))
whole_item names values (Binary op a b) h = whole_map (sum_value values (Binary op a b))
whole_item names values (Boolean b) h = absurd h
whole_item names values (Reference x subs) h = absurd h
whole_item names values (Paren e) h = absurd h

exact_gives : (r : Option ℤ) (o : Orders) (s : Store) (j : ℕ) → ending (with_exact r given_whole) o s j ≡ gives (option_map Whole r) s j
exact_gives None o s j = refl
exact_gives (Some n) o s j = refl

sign_gives : (sign : Unary) → IsTermSign sign → (r : Option Value) (o : Orders) (s : Store) (j : ℕ) → option_and_then (λ x. ending (with_sign sign I4 x.answer) o x.store x.next) (gives r s j) ≡ gives (option_map Whole (option_and_then (signed sign) (option_and_then whole_of r))) s j
sign_gives Not h r o s j = absurd h
sign_gives Plus h None o s j = refl
sign_gives Plus h (Some Undefined) o s j = refl
sign_gives Plus h (Some (Whole n)) o s j = refl
sign_gives Plus h (Some (Truth b)) o s j = refl
sign_gives Minus h None o s j = refl
sign_gives Minus h (Some Undefined) o s j = refl
sign_gives Minus h (Some (Whole n)) o s j = exact_gives (fitted I4 (pos 0 -ℤ n)) o s j
sign_gives Minus h (Some (Truth b)) o s j = refl

abbrev both : Op → Option ℤ → Option ℤ → Option ℤ
both op a b = option_and_then (λ m. option_and_then (λ n. applied op I4 m n) b) a

second_gives : (op : Op) → is_arithmetic op ≡ true → (v : Value) (r : Option Value) (o : Orders) (s : Store) (j : ℕ) → option_and_then (λ x. ending (operated op I4 v x.answer) o x.store x.next) (gives r s j) ≡ gives (option_map Whole (both op (whole_of v) (option_and_then whole_of r))) s j
second_gives op h Undefined None o s j = refl
second_gives op h Undefined (Some w) o s j = rw h
second_gives op h (Truth b) None o s j = refl
second_gives op h (Truth b) (Some w) o s j = rw h
second_gives op h (Whole m) None o s j = refl
second_gives op h (Whole m) (Some Undefined) o s j = rw h
second_gives op h (Whole m) (Some (Truth b)) o s j = rw h
second_gives op h (Whole m) (Some (Whole n)) o s j = rw h (exact_gives (applied op I4 m n) o s j)

pair_gives : (op : Op) → is_arithmetic op ≡ true → (r : Option Value) (q : Course Item) (t : Option Value) (o : Orders) (s : Store) (j : ℕ) → ending q o s j ≡ gives t s j → option_and_then (λ x. ending (and_then q (operated op I4 x.answer)) o x.store x.next) (gives r s j) ≡ gives (option_map Whole (both op (option_and_then whole_of r) (option_and_then whole_of t))) s j
pair_gives op h None q t o s j e = refl
pair_gives op h (Some v) q t o s j e =
    ending_then q (operated op I4 v) o s j ∙ ap (option_and_then (λ x. ending (operated op I4 v x.answer) o x.store x.next)) e ∙ second_gives op h v t o s j

-- no bound of a section stands in it
pub said_settles : (c : Scene) (names : List Text) (shown : Text → Expr) → ((k : Sort) (x : Text) → Contains names x → (g : Expr → Course k) → settled c (shown x) g ≡ g (shown x)) → (k : Sort) (e : Expr) → IsSum names e → (g : Expr → Course k) → settled c (said shown e) g ≡ g (said shown e)
said_settles c names shown h k (Numeral n suffix) t g = refl
said_settles c names shown h k (Boolean b) t g = refl
said_settles c names shown h k (Name x) t g = h k x t g
said_settles c names shown h k (Reference x subs) t g = absurd t
said_settles c names shown h k (Signed sign e) t g = said_settles c names shown h k e t.1 (λ other. g (Signed sign other))
said_settles c names shown h k (Binary op a b) t g = said_settles c names shown h k a t.1 (λ left. settled c (said shown b) (λ right. g (Binary op left right))) ∙ said_settles c names shown h k b t.2 (λ right. g (Binary op (said shown a) right))
said_settles c names shown h k (Paren e) t g = absurd t

module _ (c : Scene) (names : List Text) (shown : Text → Expr) (at : Text → Element) (P : Store → Type 0) (l : Lies c names shown at P) where
  pub sum_kind : (e : Expr) → IsSum names e → kind_in c (said shown e) ≡ I4
  sum_kind (Numeral n None) h = refl
  sum_kind (Numeral n (Some kind)) h = absurd h
  sum_kind (Boolean b) h = absurd h
  sum_kind (Name x) h = l.kind x h
  sum_kind (Reference x subs) h = absurd h
  sum_kind (Signed Plus e) h = sum_kind e h.1
  sum_kind (Signed Minus e) h = sum_kind e h.1
  sum_kind (Signed Not e) h = absurd h.0
  sum_kind (Binary op a b) h = rw (term_op op h.0) (ap₂ greater (sum_kind a h.1) (sum_kind b h.2))
  sum_kind (Paren e) h = absurd h

  pub sum_settles : {k : Sort} (e : Expr) → IsSum names e → (g : Expr → Course k) → settled c (said shown e) g ≡ g (said shown e)
  sum_settles {k} e h g = said_settles c names shown (λ m x t f. l.settles {k = m} x t f) k e h g

  pub sum_gives : (e : Expr) → IsSum names e → (o : Orders) (s : Store) (j : ℕ) → P s → ending (value c (said shown e) []) o s j ≡ gives (item (λ x. s (at x)) e) s j
  sum_gives (Numeral n suffix) h o s j p = refl
  sum_gives (Boolean b) h o s j p = absurd h
  sum_gives (Name x) h o s j p = l.reads x h o s j p ∙ reads_held (s (at x)) o s j
  sum_gives (Reference x subs) h o s j p = absurd h
  sum_gives (Signed sign e) h o s j p =
      let values : Text → Value = λ x. s (at x) in
      let step : Option (End Value) → Option (End Value) = option_and_then (λ x. ending (with_sign sign I4 x.answer) o x.store x.next) in
      ap (λ k. ending (and_then (value c (said shown e) []) (with_sign sign k)) o s j) (sum_kind e h.1)
      ∙ ending_then (value c (said shown e) []) (with_sign sign I4) o s j
      ∙ ap step (sum_gives e h.1 o s j p)
      ∙ sign_gives sign h.0 (item values e) o s j
      ∙ ap (λ r. gives (option_map Whole (option_and_then (signed sign) r)) s j) (whole_item names values e h.1)
  sum_gives (Binary op a b) h o s j p =
      let values : Text → Value = λ x. s (at x) in
      let q : Course Item = value c (said shown b) [] in
      ap (λ k. ending (and_then (value c (said shown a) []) (λ v. and_then q (operated op k v))) o s j) (sum_kind (Binary op a b) h)
      ∙ ending_then (value c (said shown a) []) (λ v. and_then q (operated op I4 v)) o s j
      ∙ ap (option_and_then (λ x. ending (and_then q (operated op I4 x.answer)) o x.store x.next)) (sum_gives a h.1 o s j p)
      ∙ pair_gives op (term_op op h.0) (item values a) q (item values b) o s j (sum_gives b h.2 o s j p)
      ∙ ap₂ (λ m n. gives (option_map Whole (both op m n)) s j) (whole_item names values a h.1) (whole_item names values b h.2)
  sum_gives (Paren e) h o s j p = absurd h
