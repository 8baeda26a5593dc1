-- The array operands of an expression, and its rank. An array named without subscripts has its rank, one with sections as
-- many as there are sections; an element, a function, SIZE and SUM are scalar. Arguments of the other intrinsics belong to
-- the operands around them; arrays inside SUM, SIZE, the arguments of a function or subscripts don't.
use Rattle.std.specs.Prelude.{ℕ, zero, suc, List, [], ◌∷◌, ◌++◌, length, Option, Some, None, Bool, true, false, nat_eq, if◌then◌else◌}
use Rattle.fort_arith.specs.declared.op.Intrinsic.{Intrinsic}
use Rattle.fort_arith.specs.declared.op.Intrinsic.TheVariants.{Abs, Int, Max, Min, Mod, Modulo, Sign, Size, Sum}
use Rattle.fort_tree.specs.declared.place.Place.{Place}
use Rattle.fort_tree.specs.Intrinsic.{intrinsic_named}
use Rattle.claw_meaning.specs.Syntax.{Text}
use Rattle.claw_meaning.specs.Scope.{Entity, Unknown, Variable, Constant, Procedure}
use Rattle.sound_programs.specs.Placed.{Expr, Numeral, Boolean, Name, Reference, Signed, Binary, Paren, Subscripts, No_more, One, Section}
use Rattle.sound_programs.specs.Scopes.{is_array}

-- the number of dimensions of what a name is; a unit, also a function whatever its result is declared as, has none
abbrev pub rank_of_entity : Entity → ℕ
rank_of_entity Unknown = 0
rank_of_entity (Variable home d) = length d.shape
rank_of_entity (Constant d) = length d.shape
rank_of_entity (Procedure v) = 0

abbrev pub count_of_sections : Subscripts → ℕ
count_of_sections No_more = 0
count_of_sections (One e rest) = count_of_sections rest
count_of_sections (Section lower upper at rest) = suc (count_of_sections rest)

-- an array operand: the place of its name, and its rank
pub record Operand : Type 0 where
  pub at : Place
  pub rank : ℕ

-- a name of rank 0 is none
abbrev pub operand : Place → ℕ → List Operand
operand at zero = []
operand at (suc n) = record { at = at; rank = suc n } ∷ []

abbrev pub operands_of_intrinsic : Intrinsic → List Operand → List Operand
operands_of_intrinsic Size inside = []
operands_of_intrinsic Sum inside = []
operands_of_intrinsic Abs inside = inside
operands_of_intrinsic Int inside = inside
operands_of_intrinsic Max inside = inside
operands_of_intrinsic Min inside = inside
operands_of_intrinsic Mod inside = inside
operands_of_intrinsic Modulo inside = inside
operands_of_intrinsic Sign inside = inside

abbrev pub operands_of_reference : Option Intrinsic → Bool → Place → ℕ → List Operand → List Operand
operands_of_reference None true at sections inside = operand at sections
operands_of_reference None false at sections inside = []
operands_of_reference (Some which) array at sections inside = operands_of_intrinsic which inside

module _ (entity : Text → Entity) where
  abbrev mutual
    -- in the order of the text
    pub operands : Expr → List Operand
    operands (Numeral n kind at) = []
    operands (Boolean b at) = []
    operands (Name x at) = operand at (rank_of_entity (entity x))
    operands (Reference x subs at) = operands_of_reference (intrinsic_named x) (is_array (entity x)) at (count_of_sections subs) (operands_in subs)
    operands (Signed sign e at) = operands e
    operands (Binary op a b) = operands a ++ operands b
    operands (Paren e at) = operands e

    pub operands_in : Subscripts → List Operand
    operands_in No_more = []
    operands_in (One e rest) = operands e ++ operands_in rest
    operands_in (Section lower upper at rest) = operands_in rest

  abbrev pub rank_of_first : List Operand → ℕ
  rank_of_first [] = 0
  rank_of_first (o ∷ rest) = o.rank

  -- the rank of an expression is that of its first array operand, or 0
  abbrev pub rank : Expr → ℕ
  rank e = rank_of_first (operands e)

-- the first whose rank isn't that of the first operand, and so the first that differs from an earlier one
abbrev pub first_other : ℕ → List Operand → List Place
first_other n [] = []
first_other n (o ∷ rest) = if nat_eq o.rank n then first_other n rest else o.at ∷ []

-- in one list of operands the first whose rank differs from that of an earlier one
abbrev pub differing : List Operand → List Place
differing [] = []
differing (o ∷ rest) = first_other o.rank rest
