-- Names that USE lines give a second time, by the tables of a file.
use Rattle.std.specs.Prelude.{ℕ, List, [], ◌∷◌, ◌++◌, Option, Some, None, Bool, false, ◌&&◌, is_none, nat_lt, count_by, flat_map, if◌then◌else◌}
use Rattle.std.specs.List.{list_any}
use Rattle.fort_tree.specs.declared.place.Place.{Place}
use Rattle.fort_tree.specs.declared.stmt.Named.{Named}
use Rattle.fort_tree.specs.declared.unit.Use.{Use}
use Rattle.claw_meaning.specs.Plain.{plain_use}
use Rattle.claw_meaning.specs.Scope.{brings}
use Rattle.claw_meaning.specs.Syntax.{Text}
use Rattle.sound_programs.specs.DeclarationFaults.{seconds}
use Rattle.sound_programs.specs.Places.{later_of, where_place}
use Rattle.sound_programs.specs.Scopes.{only_names, place_of_only, place_of_use}
use Rattle.fort_names.specs.declared.shared.Shared.{Shared}
use Rattle.fort_names.specs.NameLists.{has, with_name}
use Rattle.fort_names.specs.Sharing.{gives, row_of}
use Rattle.fort_names.specs.Tables.{origin_by_name}
use Rattle.fort_names.specs.TwoUses.{is_other, first_use, other_uses}

-- A declaration and a USE

-- the line brings the name, and its module gives it
abbrev pub gives_it : Shared → Use → Text → Bool
gives_it s line x = brings (plain_use line) x && gives s line.name x

-- the declarations of names that the lines give
abbrev pub used_again : Shared → List Named → List Use → List Place
used_again s declared lines =
    flat_map (λ n. flat_map (λ line. where_place (gives_it s line n.name) (later_of n.at (place_of_use line n.name))) lines) declared

-- the same for a line without ONLY
abbrev pub used_all : Shared → Use → List Named → List Place
used_all s line declared = flat_map (λ n. where_place (gives s line.name n.name) (later_of n.at line.at)) declared

-- a name that ONLY lists, by its first declaration
abbrev pub used_first : Option Place → Bool → Place → List Place
used_first None given place = []
used_first (Some first) given place = where_place given (later_of first place)

-- the same for a line with ONLY, by the first declaration of each name
abbrev pub used_only : Shared → (Text → Option Place) → Use → List Named → List Named → List Place
used_only s first line only some = flat_map (λ n. used_first (first n.name) (gives s line.name n.name) (place_of_only only n.name line.at)) some

abbrev pub used_by : Shared → (Text → Option Place) → List Named → Use → Option (List Named) → List Place
used_by s first declared line None = used_all s line declared
used_by s first declared line (Some only) = used_only s first line only only

abbrev pub used_by_lines : Shared → (Text → Option Place) → List Named → List Use → List Place
used_by_lines s first declared lines = flat_map (λ line. used_by s first declared line line.only) lines

-- Two USE lines

-- the number of the module that declares what the line gives under the name
abbrev pub brought_from : Shared → Text → Use → Option ℕ
brought_from s x line = if brings (plain_use line) x then origin_by_name s.declared.names (row_of s x) line.name else None

-- where lines give the name from another module than the first of them
abbrev pub name_twice : Shared → List Use → Text → List Place
name_twice s lines x =
    other_uses (brought_from s x) (λ line. place_of_use line x) (first_use (brought_from s x) (λ line. place_of_use line x) None lines) lines

-- Names that two modules declare: no other name can be given from two

abbrev pub first_number : List (Option ℕ) → Option ℕ
first_number [] = None
first_number (None ∷ row) = first_number row
first_number (Some m ∷ row) = Some m

abbrev pub has_another : Option ℕ → List (Option ℕ) → Bool
has_another None row = false
has_another (Some m) row = list_any (is_other m) row

abbrev pub is_contested : List (Option ℕ) → Bool
is_contested row = has_another (first_number row) row

abbrev pub contested_from : Shared → List Text → List Text → List Text
contested_from s names [] = names
contested_from s names (x ∷ xs) = contested_from s (if is_contested (row_of s x) then with_name names x else names) xs

abbrev pub contested_names : Shared → List Text
contested_names s = contested_from s [] s.given

-- the names that lines with ONLY list, of those that two modules declare
abbrev pub names_twice : Shared → List Text → List Use → List Named → List Place
names_twice s contested lines only = flat_map (λ n. if has contested n.name then name_twice s lines n.name else []) only

abbrev pub only_twice : Shared → List Text → List Use → List Use → List Place
only_twice s contested lines some = flat_map (λ line. names_twice s contested lines (only_names line.only)) some

-- all names that two modules declare, where two lines have no ONLY
abbrev pub are_two_open : List Use → Bool
are_two_open lines = nat_lt 1 (count_by (λ line. is_none line.only) lines)

abbrev pub all_twice : Shared → List Text → List Use → List Place
all_twice s contested lines = flat_map (name_twice s lines) contested

abbrev pub open_twice : Shared → List Text → List Use → List Place
open_twice s contested lines = if are_two_open lines then all_twice s contested lines else []

abbrev pub uses_twice : Shared → List Text → List Use → List Place
uses_twice s contested lines = only_twice s contested lines lines ++ open_twice s contested lines

-- what a scope that declares these names and has these lines names twice, without its dummies
abbrev pub scope_twice : Shared → List Text → List Named → List Use → List Place
scope_twice s contested declared lines = seconds declared ++ (used_again s declared lines ++ uses_twice s contested lines)
