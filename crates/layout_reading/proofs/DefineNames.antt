-- The names of a `define` that a line gives are free names.
use Rattle.std.proofs.Common.{◌≡◌, ℕ, List, Option, None, Some, true, option_map, refl, sym, ap, ◌∙◌, subst}
use Rattle.std.specs.List.{AllByRecursion}
use Rattle.std.proofs.lemmas.Bool.{true≢false}
use Rattle.fort_arith.specs.declared.kind.Kind.{Kind}
use Rattle.fort_tree.specs.declared.expr.Expr.{Expr}
use Rattle.fort_tree.specs.declared.place.Place.{Place}
use Rattle.fort_tree.specs.declared.statement.Token.{Token}
use Rattle.fort_tree.specs.declared.stmt.Directive.{Directive}
use Rattle.fort_tree.specs.declared.stmt.DirectiveWord.{DirectiveWord}
use Rattle.fort_tree.specs.declared.stmt.DirectiveWord.TheVariants as word
use Rattle.claw_lines.specs.Forms as c
use Rattle.claw_lines.specs.Forms.{IsLine, Asks, Defines, Upper, is_of_parts, directive_of}
use Rattle.claw_lines.specs.Items.{number_item}
use Rattle.claw_lines.specs.Words.{number_of}
use Rattle.claw_meaning.specs.Plain.{plain_expr, plain_directive}
use Rattle.claw_meaning.specs.Syntax as plain
use Rattle.claw_meaning.proofs.PlainTrees.{plain_number, plain_name}
use Rattle.column_scalars.specs.Scalars.{define}
use Rattle.layout_reading.specs.WideUnits.{IsFreeName}
use Rattle.layout_reading.proofs.Elements.{one_item}
use Rattle.layout_reading.proofs.FreeNames.{free_of_mark}
use Rattle.layout_reading.proofs.Marks.{item_name}

unfoldable pub DefinesFreeNames : Directive → Type 0
DefinesFreeNames d = (id : plain.Text) (lower : ℕ) (upper : plain.Text) → plain_directive d ≡ define id lower upper → IsFreeName id × IsFreeName upper

some_item : {A : Type 0} {x y : A} → Some x ≡ Some y → x ≡ y
some_item e = cc

same_name : {x y : plain.Text} → plain.Name x ≡ plain.Name y → x ≡ y
same_name e = cc

number_no_name : (at : Place) (o : Option (ℕ × Option Kind)) (b : Expr) (x : plain.Text) → option_map (number_item at) o ≡ Some b → plain_expr b ≡ plain.Name x → ⊥
number_no_name at None b x e h = absurd cc
number_no_name at (Some n) b x e h =
    let k : plain.Numeral n.0 n.1 ≡ plain.Name x = sym (plain_number n.0 n.1 at) ∙ (ap plain_expr (some_item e) ∙ h) in cc

upper_free : {t : Token} {b : Expr} (x : plain.Text) → Upper t b → plain_expr b ≡ plain.Name x → IsFreeName x
upper_free {t = t} {b = b} x (c.number e) h = absurd (number_no_name t.at (number_of t.text) b x e h)
upper_free {t = t} x (c.name {id = id} e) h = subst IsFreeName (same_name (sym (plain_name id t.at) ∙ h)) (free_of_mark (item_name word.Define t id t.whole e).0)

defines_ok : {at : Place} {tokens rest : List Token} {d : Directive} → Defines at tokens rest d → DefinesFreeNames d
unfolding DefinesFreeNames
defines_ok (c.defines {id = name_read} {lower = low} {upper = up} name open_mark colon bound close e f l g u h) id lower upper k =
    let names = one_item (ap (λ (x : plain.Directive). x.names) k) in
    (subst IsFreeName names (free_of_mark (item_name word.Define name name_read name.whole e).0), upper_free upper u (some_item (ap (λ (x : plain.Directive). x.upper) k)))

other_ok : (at : Place) (form : DirectiveWord) (given : _) → is_of_parts form ≡ true → DefinesFreeNames (directive_of at form given)
unfolding DefinesFreeNames
other_ok at form given e id lower upper k = absurd (true≢false (sym e ∙ ap is_of_parts (ap (λ (x : plain.Directive). x.word) k)))

asks_ok : {at : Place} {form : DirectiveWord} {tokens : List Token} {ds : List Directive} → Asks at form tokens ds → AllByRecursion DefinesFreeNames ds
asks_ok (c.dimension d) = (defines_ok d, tt)
asks_ok {at = at} (c.both {given = given} d b q) = (defines_ok d, (other_ok at word.Parallelize given refl, tt))
asks_ok {at = at} (c.of_parts {form = form} {given = given} e q w) = (other_ok at form given e, tt)

pub line_defines : {at : Place} {tokens : List Token} {ds : List Directive} → IsLine at tokens ds → AllByRecursion DefinesFreeNames ds
line_defines (c.asked b a) = asks_ok a
