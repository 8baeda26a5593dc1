-- Names that are declared twice, USE lines that bring nothing or form a cycle, and INTENT. Each clause lists the places at
-- which it holds. Of two the second is the later in the text.
use Rattle.std.specs.Prelude.{List, [], ◌∷◌, ◌++◌, map, Some, Bool, ◌&&◌, not, is_some, is_none, flat_map}
use Rattle.std.specs.List.{filter}
use Rattle.std.specs.Option.{option_to_list}
use Rattle.std.specs.Str.{bytes_eq}
use Rattle.fort_tree.specs.declared.place.Place.{Place}
use Rattle.fort_tree.specs.declared.stmt.Named.{Named}
use Rattle.fort_tree.specs.declared.unit.Use.{Use}
use Rattle.claw_meaning.specs.Syntax as plain
use Rattle.claw_meaning.specs.Syntax.{Text}
use Rattle.sound_programs.specs.Places.{later_of, is_earlier, where_place}
use Rattle.sound_programs.specs.Links.{leads}
use Rattle.sound_programs.specs.Placed.{Module, Program, bare_program}
use Rattle.sound_programs.specs.Scopes.{Scope, Of_unit, Of_module, scopes, uses_of, decls_of, is_dummy, declared, named_unit, named_module, is_given, is_brought, entities_of_modules, place_of_use, only_names, module_named, origin, same_origin, is_prefix}
use Rattle.sound_programs.specs.NameFaults.{places_where}

-- Declared twice

-- where a name of the first list and one of the second are one: the later of the two
abbrev pub clashes : List Named → List Named → List Place
clashes xs ys = flat_map (λ a. flat_map (λ b. where_place (bytes_eq a.name b.name) (later_of a.at b.at)) ys) xs

-- of each two of one name the later
abbrev pub seconds : List Named → List Place
seconds [] = []
seconds (n ∷ rest) = clashes (n ∷ []) rest ++ seconds rest

-- Two declarations of one name in one scope. A module declares its units too. A type before FUNCTION is a declaration of the
-- result. The name of the unit or module itself may be declared again inside it.
abbrev pub two_declarations : Program → Scope → List Place
two_declarations p s = seconds (declared p s)

-- two dummies of one name; a dummy and the result of one name
abbrev pub two_dummies : Scope → List Place
two_dummies (Of_unit u) = seconds u.dummies ++ clashes u.dummies (option_to_list u.result)
two_dummies (Of_module n m) = []

-- A declaration of a name that a USE of that scope gives. A type before FUNCTION stands before the USE, which then is the
-- second.
abbrev pub declared_and_used : Program → plain.Program → Scope → List Place
declared_and_used p q s =
    flat_map (λ n. flat_map (λ line. where_place (is_brought q line n.name) (later_of n.at (place_of_use line n.name))) (uses_of s)) (declared p s)

-- the USE gives the name to this entity of a module; to another
abbrev pub gives_this : plain.Program → Use → Text × Text → Bool
gives_this q line entity = is_brought q line entity.1 && same_origin (origin q line.name entity.1) (Some entity.0)

abbrev pub gives_other : plain.Program → Use → Text × Text → Bool
gives_other q line entity = is_brought q line entity.1 && not (same_origin (origin q line.name entity.1) (Some entity.0))

-- two USE lines that give one name to two entities
abbrev pub uses_clash : Program → plain.Program → Use → Use → List Place
uses_clash p q a b =
    flat_map (λ e. where_place (gives_other q a e && gives_this q b e) (later_of (place_of_use a e.1) (place_of_use b e.1))) (entities_of_modules p)

abbrev pub two_uses : Program → plain.Program → List Use → List Place
two_uses p q [] = []
two_uses p q (a ∷ rest) = flat_map (uses_clash p q a) rest ++ two_uses p q rest

-- two units or modules of one name, in whichever files and modules
abbrev pub two_units_or_modules : Program → List Place
two_units_or_modules p = seconds (map named_module p.modules ++ map named_unit p.units)

abbrev pub declared_twice_in : Program → plain.Program → Scope → List Place
declared_twice_in p q s = two_declarations p s ++ (two_dummies s ++ (declared_and_used p q s ++ two_uses p q (uses_of s)))

-- E31: two declarations, two dummies, or a dummy and the result of one name in one scope; a declaration of a name that a USE
-- of that scope gives; two units or modules of one name; two USEs that give one name to two entities.
abbrev pub declared_twice : Program → List Place
declared_twice p = flat_map (declared_twice_in p (bare_program p)) (scopes p) ++ two_units_or_modules p

-- USE

-- a USE that names no module of the files
abbrev pub no_such_module : Program → Use → List Place
no_such_module p line = where_place (is_none (module_named p line.name)) line.at

-- a name behind ONLY that the module doesn't have; where there is no such module, that alone is the fault
abbrev pub no_such_name : Program → plain.Program → Use → List Place
no_such_name p q line = places_where (λ n. is_some (module_named p line.name) && not (is_given q line.name n.name)) (only_names line.only)

-- a USE line of a module: the module, the module that it names, and its place
pub record Used : Type 0 where
  pub user : Text
  pub name : Text
  pub at : Place

abbrev pub used_by : Module → List Used
used_by m = map (λ line. record { user = m.name; name = line.name; at = line.at }) m.uses

abbrev pub uses_of_modules : Program → List Used
uses_of_modules p = flat_map used_by p.modules

-- the links of the USE lines that stand later in the text
abbrev pub later_links : Program → Place → List (Text × Text)
later_links p place = map (λ l. (l.user, l.name)) (filter (λ l. is_earlier place l.at) (uses_of_modules p))

-- A USE line of a module is the first on a cycle where later lines lead from the module that it names back to its own. USE
-- lines of units lie on no cycle: a procedure may USE its own module, or one that uses it.
abbrev pub first_on_cycle : Program → List Place
first_on_cycle p = flat_map (λ l. where_place (leads (later_links p l.at) l.name l.user) l.at) (uses_of_modules p)

abbrev pub module_faults_in : Program → plain.Program → Scope → List Place
module_faults_in p q s = flat_map (λ line. no_such_module p line ++ no_such_name p q line) (uses_of s)

-- E34: a USE names no module of the files, or a name that it doesn't have, or USE forms a cycle.
abbrev pub module_faults : Program → List Place
module_faults p = flat_map (module_faults_in p (bare_program p)) (scopes p) ++ first_on_cycle p

-- INTENT

-- A dummy without INTENT. A type before FUNCTION is the result's declaration and no dummy's, even where a dummy has its name.
abbrev pub dummy_without_intent : Scope → List Place
dummy_without_intent (Of_unit u) =
    map (λ d. d.at) (filter (λ d. is_dummy (Of_unit u) d.name && (is_none d.intent && not (is_prefix u d))) u.decls)
dummy_without_intent (Of_module n m) = []

-- INTENT on a name that is no dummy
abbrev pub intent_without_dummy : Scope → List Place
intent_without_dummy s = map (λ d. d.at) (filter (λ d. is_some d.intent && not (is_dummy s d.name)) (decls_of s))

-- E3B: a dummy without INTENT, or INTENT on another name.
abbrev pub intent_faults : Program → List Place
intent_faults p = flat_map (λ s. dummy_without_intent s ++ intent_without_dummy s) (scopes p)
