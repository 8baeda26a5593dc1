-- A unit's scope has the unit's declarations.
use Rattle.std.proofs.Common.{◌≡◌, ℕ, ◌<◌, map, length, Option, None, Some, refl, sym, ap, ◌∙◌}
use Rattle.std.specs.List.{position, slice_get}
use Rattle.std.specs.Option.{option_map, option_and_then}
use Rattle.std.specs.Str.{bytes_eq}
use Rattle.fort_tree.specs.declared.unit.Decl.{Decl}
use Rattle.fort_tree.specs.declared.unit.File.{File}
use Rattle.fort_tree.specs.declared.unit.Unit.{Unit}
use Rattle.claw_meaning.specs.Plain.{plain_decl, plain_unit}
use Rattle.claw_meaning.specs.Scope.{decl_named}
use Rattle.claw_meaning.specs.Syntax as plain
use Rattle.claw_meaning.specs.Syntax.{Text}
use Rattle.claw_meaning.specs.Units.{is_column_dummy}
use Rattle.fort_names.specs.declared.entity.Home.TheVariants as home
use Rattle.fort_names.specs.declared.scope.Scope.{Scope}
use Rattle.fort_names.specs.declared.symbols.Symbols.{Symbols}
use Rattle.fort_names.specs.Callees.{Declares, decl_behind}
use Rattle.fort_names.specs.Entities.{decl_entity, in_unit}
use Rattle.fort_names.specs.Scoping.{AreSymbolsOf}
use Rattle.fort_names.proofs.Meant.{find_is, find_map}

in_unit_is : (u : Unit) (x : Text) → decl_behind (in_unit u x) ≡ decl_named (map plain_decl u.decls) x
in_unit_is u x =
    go (position (λ d. bytes_eq d.name x) u.decls)
    ∙ ap (option_map plain_decl) (sym (find_is (λ (d : Decl). bytes_eq d.name x) u.decls))
    ∙ sym (find_map (λ (d : plain.Decl). bytes_eq d.name x) plain_decl u.decls)
  where
    entity_at : (i : ℕ) (o : Option Decl) → decl_behind (option_map (decl_entity home.Local (is_column_dummy (plain_unit u) x) i) o) ≡ option_map plain_decl o
    entity_at i None = refl
    entity_at i (Some d) = refl

    go : (o : Option ℕ)
        → decl_behind (option_and_then (λ i. option_map (decl_entity home.Local (is_column_dummy (plain_unit u) x) i) (slice_get u.decls i)) o)
        ≡ option_map plain_decl (option_and_then (slice_get u.decls) o)
    go None = refl
    go (Some i) = entity_at i (slice_get u.decls i)

pub declares : (f : File) (s : Symbols) (n : ℕ) (u : Unit) (c : Scope) → AreSymbolsOf f s → slice_get f.units n ≡ Some u → slice_get s.units.items n ≡ Some c → Declares u c
declares f s n u c are is scope = record { each = λ x. ap decl_behind (are.own_of_units n u c is scope x) ∙ in_unit_is u x }
