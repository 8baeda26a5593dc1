-- Names of tokens and of marks are free names.
use Rattle.std.proofs.Common.{◌≡◌, ℕ, List, Bool, true, false, cond, ◌||◌, refl, sym, ap, ◌∙◌}
use Rattle.std.proofs.lemmas.Bool.{false≢true}
use Rattle.fort_tree.specs.declared.statement.Token.{Token}
use Rattle.fort_tree.specs.declared.unit.Decl.{Decl}
use Rattle.fort_tree.specs.Name.{is_name, lowercase}
use Rattle.fort_grammar.specs.declared.class.Class.{Class}
use Rattle.fort_grammar.specs.declared.class.Class.TheVariants as class
use Rattle.fort_grammar.specs.Class.{words}
use Rattle.fort_grammar.specs.Token.{text_class, token_class, open_class, begins_with_digit}
use Rattle.claw_lines.specs.Words.{is_reserved}
use Rattle.layout_reading.specs.WideUnits.{IsFreeName}
use Rattle.layout_reading.proofs.Classes.{then, all_hold, of_class}
use Rattle.layout_reading.proofs.Keywords as keywords
use Rattle.layout_reading.proofs.Keywords.{Free}
use Rattle.layout_reading.proofs.Marks.{MarkName}

-- a declaration's name is free
abbrev pub HasFreeName : Decl → Type 0
HasFreeName d = IsFreeName d.name

pub free_of : {x : List ℕ} → Free x → IsFreeName x
free_of f = record { class_is = f.class_is; is_name = f.is_name }

pub token_free : (t : Token) → token_class t ≡ class.Name → IsFreeName (lowercase t.text)
token_free t h = free_of (keywords.token_free t t.whole h)

is_open_name : Class → Bool
is_open_name class.Name = true
is_open_name _ = false

-- a name that isn't reserved is no word of the table
abbrev names_open : Class → List ℕ → Bool
names_open c text = then (is_name text) (is_reserved text || is_open_name c)

table_open : all_hold names_open words ≡ true
unfolding is_open_name
table_open = refl

open_is : (k : Class) → is_open_name k ≡ true → k ≡ class.Name
unfolding is_open_name
open_is class.Name h = refl
open_is k h = absurd (false≢true h)

pub free_of_mark : {x : List ℕ} → MarkName x → IsFreeName x
unfolding is_open_name
free_of_mark {x = x} m =
    let other = cond (begins_with_digit x) class.Number class.Other in
    let unlisted : names_open (open_class x) x ≡ true =
    ap (λ b. then b (is_reserved x || is_open_name (cond b class.Name other))) m.is_name.form ∙ ap (λ r. r || true) m.free in
    let known = of_class names_open x table_open unlisted in
    let o = is_open_name (text_class x) in
    let open_so : o ≡ true = sym (ap (λ b. then b (is_reserved x || o)) m.is_name.form ∙ ap (λ r. r || o) m.free) ∙ known in
    record { class_is = open_is (text_class x) open_so; is_name = m.is_name }
