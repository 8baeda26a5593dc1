-- A line's own fault and what nesting is judged by stand at places of the line; so the first fault of lines is in the file of one.
use Rattle.std.proofs.Common.{◌≡◌, inl, inr, ℕ, ◌-◌, ◌<◌, Bool, List, [], ◌∷◌, ◌++◌, length, min, map, Option, None, Some, option_map, Err, refl, sym, subst, arith}
use Rattle.std.specs.Prelude.{IfSome}
use Rattle.std.specs.List.{All, AllByRecursion, slice_get}
use Rattle.std.proofs.lemmas.List.Elements.{recursion_from_All, All-get_or}
use Rattle.std.proofs.lemmas.Option.{slice_get_cases}
use Rattle.fort_tree.specs.declared.fault.Fault.{Fault}
use Rattle.fort_tree.specs.declared.fault.Stop.TheVariants as stop
use Rattle.fort_tree.specs.declared.place.Place.{Place}
use Rattle.fort_tree.specs.declared.statement.Line.{Line}
use Rattle.fort_tree.specs.declared.statement.Token.{Token}
use Rattle.fort_tree.specs.declared.stmt.Directive.{Directive}
use Rattle.fort_tree.specs.declared.stmt.DirectiveWord.{DirectiveWord}
use Rattle.sound_programs.specs.Forms.{Form}
use Rattle.claw_lines.specs.Forms.{IsLine, asked, Asks, dimension, both, of_parts, Defines, defines, sentinel_place, first_place}
use Rattle.fort_stmt.specs.Verdict as verdict
use Rattle.fort_units.specs.declared.item.Item.{Item}
use Rattle.fort_units.specs.declared.item.Item.TheVariants as item
use Rattle.fort_units.specs.Passing.{faults, file_of}
use Rattle.fort_units.specs.Places.{InFiles, LineInFiles, FirstFaultInFiles}
use Rattle.fort_units.specs.Program.{HasLine, nothing, whole, faulty, directs, unread, HasLines, no_line, a_line, Judged, all_faults, mode_of, IsFaultyItem, item_of_directive}
use Rattle.fort_units.proofs.NestingPlaces.{Each, none, more, join, each_front, FaultsIn, ItemsIn, faults_in}

-- ---- places of a line

-- what holds of each token holds of the one with a number, if there is one
token_in : (n : ℕ) (tokens : List Token) (i : ℕ) → All (λ t. InFiles n t.at) tokens → IfSome (slice_get tokens i) (λ t. InFiles n t.at)
token_in n tokens i h =
    elim (slice_get_cases tokens i).1 [
      | inl w ↦ subst (λ o. IfSome o (λ t. InFiles n t.at)) (sym w.2) (subst (λ t. InFiles n t.at) w.3 (All-get_or (λ t. InFiles n t.at) tokens i w.0 w.1 h))
      | inr w ↦ subst (λ o. IfSome o (λ t. InFiles n t.at)) (sym w.1) tt
    ]

some_token : (n : ℕ) (p : Place) (o : Option Token) → IfSome o (λ t. InFiles n t.at) → Some p ≡ option_map (λ (t : Token). t.at) o → InFiles n p
some_token n p None h e = absurd (cc)
some_token n p (Some t) h e = let same : t.at ≡ p = cc in subst (InFiles n) same h

some_place : (n : ℕ) (p : Place) (o : Option Place) → IfSome o (InFiles n) → o ≡ Some p → InFiles n p
some_place n p None h e = absurd (cc)
some_place n p (Some q) h e = let same : q ≡ p = cc in subst (InFiles n) same h

own_in : (n : ℕ) (line : Line) (fault : Fault) → LineInFiles n line → verdict.Answers (Err (stop.Fault fault)) line → InFiles n fault.place
own_in n line fault h a =
    elim a [
      | inl w ↦ some_token n fault.place (slice_get line.tokens (min w.number (length line.tokens - 1))) (token_in n line.tokens (min w.number (length line.tokens - 1)) h.tokens) w.stands.place
      | inr w ↦ some_place n fault.place line.unfinished h.unfinished w.at
    ]

first_in : (n : ℕ) (at : Place) (tokens : List Token) → InFiles n at → AllByRecursion (λ t. InFiles n t.at) tokens → InFiles n (first_place at tokens)
first_in n at [] h k = h
first_in n at (t ∷ tokens) h k = k.0

pub sentinel_in : (n : ℕ) (line : Line) → LineInFiles n line → InFiles n (sentinel_place line)
sentinel_in n line h = first_in n line.at line.tokens h.at (recursion_from_All (λ (t : Token). InFiles n t.at) line.tokens h.tokens)

-- ---- items

defines_in : (n : ℕ) {at : Place} {tokens rest : List Token} {d : Directive} → InFiles n at → Defines at tokens rest d → InFiles n d.at
defines_in n h (defines name open_mark colon bound close a b c d e f) = h

abbrev DirectivesIn : ℕ → List Directive → Type 0
DirectivesIn n ds = Each Directive (λ d. InFiles n d.at) ds

asks_in : (n : ℕ) {at : Place} {form : DirectiveWord} {tokens : List Token} {ds : List Directive} → InFiles n at → Asks at form tokens ds → DirectivesIn n ds
asks_in n h (dimension a) = more (defines_in n h a) none
asks_in n h (both a b c) = more (defines_in n h a) (more h none)
asks_in n h (of_parts a b c) = more h none

line_in : (n : ℕ) {at : Place} {tokens : List Token} {ds : List Directive} → InFiles n at → IsLine at tokens ds → DirectivesIn n ds
line_in n h (asked a b) = asks_in n h b

directed_in : (n : ℕ) (within : Bool) (ds : List Directive) → DirectivesIn n ds → ItemsIn n (map (item_of_directive within) ds)
directed_in n within [] none = none
directed_in n within (d ∷ ds) (more p h) = more p (directed_in n within ds h)

faulty_in : (n : ℕ) (line : Line) (i : Item) → InFiles n line.at → IsFaultyItem line i → file_of i < n
faulty_in n line (item.Statement at k) h f = subst (InFiles n) (sym f.0) h
faulty_in n line (item.Absent at) h f = subst (InFiles n) (sym f.0) h
faulty_in n line (item.Directive at within w) h f = absurd f
faulty_in n line (item.Unread at within mark) h f = absurd f

-- ---- lines

pub record LineIn (n : ℕ) (is : List Item) (fs : List Fault) : Type 0 where
  items : ItemsIn n is
  own : FaultsIn n fs

has_line_in : (n : ℕ) (line : Line) {is : List Item} {fs : List Fault} {hs : List Form} → LineInFiles n line → HasLine line is fs hs → LineIn n is fs
has_line_in n line h (nothing a b) = record { items = none; own = none }
has_line_in n line h (whole a b) = record { items = more h.at none; own = none }
has_line_in n line h (faulty {fault = fault} {i = i} a b c) = record { items = more (faulty_in n line i h.at c) none; own = more (own_in n line fault h b) none }
has_line_in n line h (directs {directives = ds} a b) = record { items = directed_in n line.within ds (line_in n (sentinel_in n line h) b.form); own = none }
has_line_in n line h (unread a b) = record { items = more (sentinel_in n line h) none; own = more (sentinel_in n line h) none }

has_lines_in : (n : ℕ) {lines : List Line} {is : List Item} {fs : List Fault} {hs : List Form} → AllByRecursion (LineInFiles n) lines → HasLines lines is fs hs → LineIn n is fs
has_lines_in n h no_line = record { items = none; own = none }
has_lines_in n h (a_line {line = line} a b) =
    let here = has_line_in n line h.0 a in
    let there = has_lines_in n h.1 b in
    record { items = join here.items there.items; own = join here.own there.own }

-- all faults of lines are in their files
all_in : (n : ℕ) (lines : List Line) (j : Judged lines) → 0 < n → AllByRecursion (LineInFiles n) lines → FaultsIn n (all_faults lines j)
all_in n lines j k h = let l = has_lines_in n h j.are in join l.own (faults_in n (mode_of lines) j.items k l.items)

-- where no line is there is no fault
no_lines : {is : List Item} {fs : List Fault} {hs : List Form} → HasLines [] is fs hs → (is ≡ []) × (fs ≡ [])
no_lines no_line = (refl, refl)

-- a fault of lines, of which there is one
any_in : (n : ℕ) (lines : List Line) (j : Judged lines) → AllByRecursion (LineInFiles n) lines → FaultsIn n (all_faults lines j)
any_in n [] j h = let e = no_lines j.are in subst (λ fs. FaultsIn n (fs ++ faults (mode_of []) j.items)) (sym e.1) (subst (λ is. FaultsIn n (faults (mode_of []) is)) (sym e.0) none)
any_in n (line ∷ lines) j h = let at : line.at.file < n = h.0.at in let some : 0 < n = omega arith in all_in n (line ∷ lines) j some h

pub first_fault_in_files : FirstFaultInFiles
first_fault_in_files n lines fault h f =
    each_front f.first.front fault f.first.back (subst (FaultsIn n) f.first.is_one (any_in n lines f.judged (recursion_from_All (LineInFiles n) lines h)))
