-- Column units by their directives.
use Rattle.std.proofs.Common.{◌≡◌, Bool, true, false, List, [], ◌∷◌, Option, Some, map, refl, sym, ◌∙◌}
use Rattle.std.specs.Prelude.{◌||◌, ◌&&◌, if◌then◌else◌, is_some}
use Rattle.std.specs.List.{list_any}
use mathlib.Core.Path.{ap₂}
use Rattle.fort_tree.specs.declared.stmt.Directive.{Directive}
use Rattle.fort_tree.specs.declared.stmt.DirectiveWord.{DirectiveWord}
use Rattle.fort_tree.specs.declared.unit.Unit as tree
use Rattle.claw_meaning.specs.Syntax as plain
use Rattle.claw_meaning.specs.Plain.{plain_directive, plain_unit}
use Rattle.claw_meaning.specs.Units.{directive_of, is_word_define, is_word_parallelize, is_column_unit}

either : (b : Bool) (d : plain.Directive) (o : Option plain.Directive) (c : Bool) → is_some o ≡ c → is_some (if b then Some d else o) ≡ (b || c)
either true d o c e = refl
either false d o c e = e

found : (is : DirectiveWord → Bool) (ds : List Directive) → is_some (directive_of is (map plain_directive ds)) ≡ list_any (λ d. is d.word) ds
found is [] = refl
found is (d ∷ ds) = either (is d.word) (plain_directive d) (directive_of is (map plain_directive ds)) (list_any (λ d. is d.word) ds) (found is ds)

pub column_is : (u : tree.Unit) (b : Bool) → b ≡ (list_any (λ d. is_word_define d.word) u.marks && list_any (λ d. is_word_parallelize d.word) u.marks) → b ≡ is_column_unit (plain_unit u)
column_is u b e = e ∙ sym (ap₂ (λ x y. x && y) (found is_word_define u.marks) (found is_word_parallelize u.marks))
