-- The INTEGER kinds of expressions, one after the other: the first of them, and the first that differs from it.
use Rattle.std.specs.Prelude.{List, [], ◌∷◌, Option, None, Some, if◌then◌else◌}
use Rattle.fort_arith.specs.declared.kind.Kind.{Kind}
use Rattle.fort_tree.specs.declared.place.Place.{Place}
use Rattle.fort_tree.specs.Same.{same_kind}
use Rattle.claw_meaning.specs.Syntax.{Text}
use Rattle.claw_meaning.specs.Scope.{Entity}
use Rattle.sound_programs.specs.Kinding.{kind, is_integer}
use Rattle.sound_programs.specs.Placed.{Expr, first}
use Rattle.fort_kinds.specs.declared.differing.Kinds.{Kinds}
use Rattle.fort_kinds.specs.Gathering.{or_place}

abbrev pub other_kind : Kind → Option Kind → Place → Option Place
other_kind j k at = if same_kind (Some j) k then None else Some at

-- one more INTEGER kind
abbrev pub with_kind : Option Kind → Option Place → Option Kind → Place → Kinds
with_kind None other k at = record { first = k; other = other }
with_kind (Some j) other k at = record { first = Some j; other = or_place other (other_kind j k at) }

abbrev pub no_kind : Kinds
no_kind = record { first = None; other = None }

module _ (entity : Text → Entity) where
  abbrev pub with_expr : Kinds → Expr → Kinds
  with_expr s e = if is_integer (kind entity e) then with_kind s.first s.other (kind entity e) (first e) else s

  abbrev pub kinds_seen : Kinds → List Expr → Kinds
  kinds_seen s [] = s
  kinds_seen s (e ∷ es) = kinds_seen (with_expr s e) es
