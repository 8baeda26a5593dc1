-- All places of the directives of a line are places of its tokens.
use Rattle.std.proofs.Common.{◌≡◌, ℕ, List, Option, None, Some, option_map, subst}
use Rattle.std.specs.List.{AllByRecursion}
use Rattle.fort_arith.specs.declared.kind.Kind.{Kind}
use Rattle.fort_tree.specs.declared.expr.Expr.{Expr}
use Rattle.fort_tree.specs.declared.expr.Unary.TheVariants.{Minus}
use Rattle.fort_tree.specs.declared.place.Place.{Place}
use Rattle.fort_tree.specs.declared.statement.Token.{Token}
use Rattle.fort_tree.specs.declared.stmt.Directive.{Directive}
use Rattle.fort_tree.specs.declared.stmt.DirectiveWord.{DirectiveWord}
use Rattle.claw_lines.specs.Forms.{Begins, none, next, Lower, plain, minus, Upper, number, name, Defines, defines, Asks, dimension, both, of_parts, IsLine, asked}
use Rattle.claw_lines.specs.Items.{literal_item, number_item}
use Rattle.claw_lines.specs.Words.{number_of}
use Rattle.fort_units.proofs.ExpressionPlaces.{AtTokens, AtExpr, at_number, at_name, at_sign, Gives}
use Rattle.fort_units.proofs.BodyPlaces.{AtDirective}

module _ (P : Place → Type 0) where
  begins_at : {texts : List (List ℕ)} {w z : List Token} → AtTokens P w → Begins texts w z → AtTokens P z
  begins_at h none = h
  begins_at h (next t c a) = begins_at h.1 a

  -- ---- bounds

  numbered_at : (at : Place) (n : Option (ℕ × Option Kind)) (e : Expr) → P at → option_map (number_item at) n ≡ Some e → AtExpr P e
  numbered_at at None e h is = absurd (cc)
  numbered_at at (Some n) e h is = let same : number_item at n ≡ e = cc in subst (AtExpr P) same (at_number P n.0 n.1 at h)

  literal_at : (t : Token) (e : Expr) → P t.at → literal_item t ≡ Some e → AtExpr P e
  literal_at t e h is = numbered_at t.at (number_of t.text) e h is

  lower_at : {w z : List Token} {e : Expr} → AtTokens P w → Lower w z e → Gives P (AtExpr P e) z
  lower_at h (plain {bound = e} t is) = record { it = literal_at t e h.0 is; behind = h.1 }
  lower_at h (minus {bound = e} s t c is) = record { it = at_sign P Minus e s.at h.0 (literal_at t e h.1.0 is); behind = h.1.1 }

  upper_at : {t : Token} {e : Expr} → P t.at → Upper t e → AtExpr P e
  upper_at {t = t} h (number {bound = e} is) = literal_at t e h is
  upper_at {t = t} h (name {id = id} is) = at_name P id t.at h

  -- ---- directives

  abbrev pub AtDirectives : List Directive → Type 0
  AtDirectives ds = AllByRecursion (AtDirective P) ds

  defines_at : {at : Place} {w z : List Token} {d : Directive} → P at → AtTokens P w → Defines at w z d → AtDirective P d
  defines_at p h (defines first second colon bound close a b c d e f) = let lower = lower_at h.1.1 c in (p, (lower.it, upper_at lower.behind.1.0 e))

  asks_at : {at : Place} {form : DirectiveWord} {w : List Token} {ds : List Directive} → P at → AtTokens P w → Asks at form w ds → AtDirectives ds
  asks_at p h (dimension a) = (defines_at p h a, tt)
  asks_at p h (both a b c) = (defines_at p h a, ((p, (tt, tt)), tt))
  asks_at p h (of_parts a b c) = ((p, (tt, tt)), tt)

  pub line_at : {at : Place} {w : List Token} {ds : List Directive} → P at → AtTokens P w → IsLine at w ds → AtDirectives ds
  line_at p h (asked a b) = asks_at p (begins_at h a) b
