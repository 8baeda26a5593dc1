-- What the code judges: the portion whose symbols stand on top of the symbols that are wanted.
use Rattle.std.specs.Prelude.{◌≡◌, Bool, true, false, List, [], ◌∷◌, Option, None, Some, option_map}
use Rattle.fort_tree.specs.declared.choice.Mode.{Mode}
use Rattle.fort_tree.specs.declared.statement.Token.{Token}
use Rattle.fort_grammar.specs.declared.class.Class.{Class}
use Rattle.fort_grammar.specs.declared.table.Action.{Action}
use Rattle.fort_grammar.specs.declared.table.Action.TheVariants as act
use Rattle.fort_grammar.specs.declared.table.Symbol.{Symbol}
use Rattle.fort_grammar.specs.declared.table.Symbol.TheVariants.{Build}
use Rattle.fort_expr.specs.declared.value.Shape.{Shape}
use Rattle.fort_expr.specs.Closing.{Judges}
use Rattle.fort_expr.specs.Faults.{depth_limit, is_leaf}
use Rattle.fort_expr.specs.Shapes.{shift_shape, apply_shape}
use Rattle.fort_stmt.specs.declared.limits.Cut.{Cut}
use Rattle.fort_stmt.specs.declared.limits.Cut.TheVariants.{Arguments, Close, Tail, Portion}
use Rattle.fort_stmt.specs.declared.limits.Depths.{Depths}

abbrev pub shift_depths : Token → Depths → Depths
shift_depths t v = record { shapes = shift_shape t v.shapes }

abbrev pub apply_depths : Action → Depths → Depths
apply_depths x v = record { shapes = apply_shape x v.shapes }

-- One symbol more. Behind an argument of a CALL three symbols stand: its action, the tail of the list, and the closing parenthesis.
abbrev pub grown : Symbol → Cut → Cut
grown y Arguments = Close
grown y Close = Tail
grown y Tail = Portion []
grown y (Portion ss) = Portion (y ∷ ss)

-- What ends with the action, or what stands below it with the action on top.
abbrev pub above_action : Action → Option Cut → Option Cut
above_action act.Whole o = Some (Portion [])
above_action act.Arguments o = Some Arguments
above_action x o = option_map (grown (Build x)) o

abbrev pub above : Symbol → Option Cut → Option Cut
above (Build x) o = above_action x o
above y o = option_map (grown y) o

-- what stands on top of the symbols, if they have an end of one
abbrev pub cut_of : List Symbol → Option Cut
cut_of [] = None
cut_of (y ∷ ss) = above y (cut_of ss)

abbrev pub JudgesCut : Bool → Mode → Option Cut → List Shape → Type 0
JudgesCut b mode (Some (Portion ss)) v = Judges b (depth_limit mode) ss v
JudgesCut b mode _ v = b ≡ false

-- At a leaf the portion is judged.
abbrev pub JudgesAt : Bool → Mode → Class → List Symbol → List Shape → Type 0
JudgesAt true mode c s v = (is_leaf c ≡ true) × JudgesCut true mode (cut_of s) v
JudgesAt false mode c s v = is_leaf c ≡ true → JudgesCut false mode (cut_of s) v
