-- The texts of marks, of suffixes, and of what a line begins with.
use Rattle.std.specs.Prelude.{ℕ, ◌+◌, List, [], ◌++◌, replicate, codes, Option, None, Some}
use Rattle.fort_arith.specs.declared.kind.Kind.{Kind}
use Rattle.fort_arith.specs.declared.kind.Kind.TheVariants as kind
use Rattle.fort_spell.specs.declared.mark.Mark.{Mark}
use Rattle.fort_spell.specs.declared.mark.Mark.TheVariants as mark
use Rattle.fort_spell.specs.declared.line.Sentinel.{Sentinel}
use Rattle.fort_spell.specs.declared.line.Sentinel.TheVariants as sentinel
use Rattle.fort_spell.specs.declared.line.Margin.{Margin}

abbrev pub mark_text : Mark → List ℕ
mark_text mark.Open = codes "("
mark_text mark.Close = codes ")"
mark_text mark.Comma = codes ","
mark_text mark.Colon = codes ":"
mark_text mark.Colons = codes "::"
mark_text mark.Assign = codes "="
mark_text mark.Plus = codes "+"
mark_text mark.Minus = codes "-"
mark_text mark.Star = codes "*"
mark_text mark.Power = codes "**"
mark_text mark.Slash = codes "/"
mark_text mark.Equal = codes "=="
mark_text mark.NotEqual = codes "/="
mark_text mark.Less = codes "<"
mark_text mark.LessEqual = codes "<="
mark_text mark.Greater = codes ">"
mark_text mark.GreaterEqual = codes ">="
mark_text mark.And = codes ".and."
mark_text mark.Or = codes ".or."
mark_text mark.Eqv = codes ".eqv."
mark_text mark.Neqv = codes ".neqv."
mark_text mark.Not = codes ".not."
mark_text mark.True = codes ".true."
mark_text mark.False = codes ".false."

-- the suffix of a number; a LOGICAL kind has none
abbrev pub kind_suffix : Kind → List ℕ
kind_suffix kind.I1 = codes "_1"
kind_suffix kind.I2 = codes "_2"
kind_suffix kind.I4 = codes "_4"
kind_suffix kind.I8 = codes "_8"
kind_suffix kind.Logical = []

abbrev pub suffix_text : Option Kind → List ℕ
suffix_text None = []
suffix_text (Some k) = kind_suffix k

abbrev pub blanks : ℕ → List ℕ
blanks n = replicate n 32

-- A mark line begins with its sentinel and a blank, behind the indentation.
abbrev pub sentinel_text : Sentinel → List ℕ
sentinel_text sentinel.Absent = []
sentinel_text sentinel.OpenMp = codes "!$omp "
sentinel_text sentinel.OpenAcc = codes "!$acc "

-- what the first line of a row begins with
abbrev pub first_margin : Margin → List ℕ
first_margin m = blanks m.indent ++ sentinel_text m.sentinel

-- what each further line of a row begins with: four blanks more
abbrev pub margin_text : Margin → List ℕ
margin_text m = blanks (m.indent + 4) ++ sentinel_text m.sentinel
