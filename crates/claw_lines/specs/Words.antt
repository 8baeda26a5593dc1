-- The words of the forms of directive and mark lines, and what may stand behind them.
use Rattle.std.specs.Prelude.{ℕ, ◌+◌, ◌-◌, ◌*◌, Bool, true, false, cond, ◌&&◌, ◌||◌, not, nat_lt, nat_le, List, [], ◌∷◌, Option, None, Some, option_map, take, drop, codes}
use Rattle.std.specs.List.{prefix_len}
use Rattle.std.specs.Char.{is_ascii_digit}
use Rattle.std.specs.Str.{bytes_eq}
use Rattle.fort_arith.specs.declared.kind.Kind.{Kind}
use Rattle.fort_arith.specs.declared.kind.Kind.TheVariants.{I1, I2, I4, I8}
use Rattle.fort_tree.specs.declared.stmt.DirectiveWord.{DirectiveWord}
use Rattle.fort_tree.specs.declared.stmt.DirectiveWord.TheVariants as word
use Rattle.fort_tree.specs.Token.{is_one_of}
use Rattle.fort_tables.specs.Words.{keyword_list, refused_list, intrinsic_list}
use Rattle.claw_lines.specs.declared.part.Part.{Part}
use Rattle.claw_lines.specs.declared.part.Part.TheVariants as part

-- ---- the forms

-- the forms that a line can begin with; one whose words are the front of another's stands behind that
abbrev pub forms : List DirectiveWord
forms =
    word.Define ∷ word.Forward ∷ word.Parallelize ∷ word.Fusion ∷ word.Interchange ∷ word.Hoist ∷ word.EndHoist ∷ word.Transform ∷ word.EndTransform
    ∷ word.Cache ∷ word.OpenMpLoop ∷ word.OpenAccLoop ∷ word.Routine ∷ []

-- the sentinel and the words with which a line of the form begins; a loop over columns has no text
abbrev pub phrase : DirectiveWord → List (List ℕ)
phrase word.Define = codes "!$claw" ∷ codes "define" ∷ codes "dimension" ∷ []
phrase word.Parallelize = codes "!$claw" ∷ codes "parallelize" ∷ []
phrase word.Forward = codes "!$claw" ∷ codes "parallelize" ∷ codes "forward" ∷ []
phrase word.Fusion = codes "!$claw" ∷ codes "loop" ∷ codes "-" ∷ codes "fusion" ∷ []
phrase word.Interchange = codes "!$claw" ∷ codes "loop" ∷ codes "-" ∷ codes "interchange" ∷ []
phrase word.Hoist = codes "!$claw" ∷ codes "loop" ∷ codes "-" ∷ codes "hoist" ∷ []
phrase word.EndHoist = codes "!$claw" ∷ codes "end" ∷ codes "loop" ∷ codes "-" ∷ codes "hoist" ∷ []
phrase word.Transform = codes "!$claw" ∷ codes "array" ∷ codes "-" ∷ codes "transform" ∷ []
phrase word.EndTransform = codes "!$claw" ∷ codes "end" ∷ codes "array" ∷ codes "-" ∷ codes "transform" ∷ []
phrase word.Cache = codes "!$claw" ∷ codes "kcache" ∷ []
phrase word.Column = []
phrase word.OpenMpLoop = codes "!$omp" ∷ codes "parallel" ∷ codes "do" ∷ []
phrase word.OpenAccLoop = codes "!$acc" ∷ codes "parallel" ∷ codes "loop" ∷ codes "gang" ∷ codes "vector" ∷ []
phrase word.Routine = codes "!$acc" ∷ codes "routine" ∷ codes "seq" ∷ []

-- the words with which a part begins
abbrev pub opening : Part → List (List ℕ)
opening part.List = codes "(" ∷ []
opening part.Data = codes "data" ∷ codes "(" ∷ []
opening part.Private = codes "private" ∷ codes "(" ∷ []
opening part.Over = codes "over" ∷ codes "(" ∷ []
opening part.Group = codes "group" ∷ codes "(" ∷ []
opening part.Collapse = codes "collapse" ∷ codes "(" ∷ []
opening part.Offset = codes "offset" ∷ codes "(" ∷ codes "-" ∷ codes "1" ∷ codes ")" ∷ []
opening part.Init = codes "init" ∷ []

-- what may stand behind the words of the form, in any order and each at most once
abbrev pub parts : DirectiveWord → List Part
parts word.Parallelize = part.Data ∷ part.Over ∷ []
parts word.Fusion = part.Group ∷ part.Collapse ∷ []
parts word.Interchange = part.List ∷ []
parts word.Hoist = part.List ∷ []
parts word.Cache = part.Data ∷ part.Offset ∷ part.Init ∷ []
parts word.OpenMpLoop = part.Private ∷ []
parts word.OpenAccLoop = part.Private ∷ []
parts _ = []

-- the form isn't whole without names
abbrev pub needs_names : DirectiveWord → Bool
needs_names word.Hoist = true
needs_names word.Cache = true
needs_names _ = false

-- a mark of a made program, and no directive of a source
abbrev pub is_mark : DirectiveWord → Bool
is_mark word.OpenMpLoop = true
is_mark word.OpenAccLoop = true
is_mark word.Routine = true
is_mark _ = false

-- ---- names

-- a word of a statement form, of a statement that is left out, or an intrinsic's name
abbrev pub is_reserved : List ℕ → Bool
is_reserved text = is_one_of keyword_list text || (is_one_of refused_list text || is_one_of intrinsic_list text)

-- names of the compiler's own begin with `claw_`
abbrev pub is_own : List ℕ → Bool
is_own text = bytes_eq (take 5 text) (codes "claw_")

-- the form may not have the text as a name
abbrev pub is_taken : DirectiveWord → List ℕ → Bool
is_taken form text = is_reserved text || (not (is_mark form) && is_own text)

-- ---- numbers

-- the number that the digits continue
abbrev pub value_from : ℕ → List ℕ → ℕ
value_from value [] = value
value_from value (digit ∷ digits) = value_from (value * 10 + (digit - 48)) digits

-- the number that digits write
abbrev pub value_of : List ℕ → ℕ
value_of digits = value_from 0 digits

-- the kind that stands behind the digits of a number, or none
abbrev pub kind_of : List ℕ → Option (Option Kind)
kind_of text =
    cond (bytes_eq text []) (Some None) (cond (bytes_eq text (codes "_1")) (Some (Some I1)) (cond (bytes_eq text (codes "_2")) (Some (Some I2)) (
    cond (bytes_eq text (codes "_4")) (Some (Some I4)) (cond (bytes_eq text (codes "_8")) (Some (Some I8)) None))))

abbrev pub number_at : ℕ → List ℕ → Option (ℕ × Option Kind)
number_at count text = cond (nat_lt 0 count && nat_le (value_of (take count text)) 9223372036854775807) (option_map (λ kind. (value_of (take count text), kind)) (kind_of (drop count text))) None

-- the value and the kind of a number: digits, and behind them a kind or nothing
abbrev pub number_of : List ℕ → Option (ℕ × Option Kind)
number_of text = number_at (prefix_len is_ascii_digit text) text
