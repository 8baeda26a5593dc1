-- A subscript or an argument by itself.
use Rattle.std.specs.Prelude.{List, [], ◌∷◌, Option, None, Some, Bool, true, false}
use Rattle.fort_arith.specs.declared.kind.Kind.{Kind}
use Rattle.claw_meaning.specs.Syntax.{Text}
use Rattle.claw_meaning.specs.Scope.{Entity}
use Rattle.sound_programs.specs.Kinding.{kinds_in, integer, agreed, common_kind}
use Rattle.sound_programs.specs.Placed.{Subscripts, No_more, One, Section}
use Rattle.sound_programs.specs.Placing.{Before}

abbrev pub first_or_none : List (Option Kind) → Option Kind
first_or_none [] = None
first_or_none (kind ∷ kinds) = kind

-- its kind; a range has none
abbrev pub kind_of_one : (Text → Entity) → Before → Option Kind
kind_of_one entity sub = first_or_none (kinds_in entity (sub No_more))

abbrev pub begins_with_section : Subscripts → Bool
begins_with_section No_more = false
begins_with_section (One e rest) = false
begins_with_section (Section lower upper at rest) = true

abbrev pub is_section_alone : Before → Bool
is_section_alone sub = begins_with_section (sub No_more)

-- The one kind of arguments, one after the other: that of those so far, if there are any

abbrev pub shared_with : Option (Option Kind) → Option Kind → Option Kind
shared_with None kind = integer kind
shared_with (Some shared) kind = agreed shared kind

abbrev pub agreed_by : Option Kind → List (Option Kind) → Option Kind
agreed_by shared [] = shared
agreed_by shared (kind ∷ kinds) = agreed_by (agreed shared kind) kinds

abbrev pub shared_after : Option (Option Kind) → List (Option Kind) → Option Kind
shared_after None kinds = common_kind kinds
shared_after (Some shared) kinds = agreed_by shared kinds
