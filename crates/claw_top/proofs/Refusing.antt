-- A refusal stands in one of the files.
use Rattle.std.proofs.Common.{◌≡◌, ℕ, ◌<◌, Bool, true, false, cond, List, [], ◌∷◌, ◌++◌, map, Option, None, refl, ap, ◌∙◌, subst, Contains, Ok, Err, IfOk, IfErr}
use Rattle.std.specs.Prelude.{flat_map, MatchOption}
use Rattle.std.proofs.lemmas.List.Elements.{All-head, All-tail}
use Rattle.fort_tree.specs.declared.choice.Mode.{Mode}
use Rattle.std.specs.declared.result.Result.{Result}
use Rattle.fort_tree.specs.declared.fault.Fault.{Fault}
use Rattle.fort_tree.specs.declared.fault.Stop.{Stop}
use Rattle.fort_tree.specs.declared.fault.Stop.TheVariants.{Fault as Fails, NoMemory}
use Rattle.fort_tree.specs.declared.place.Place.{Place}
use Rattle.fort_tree.specs.declared.statement.Line.{Line}
use Rattle.fort_tree.specs.declared.unit.File.{File}
use Rattle.fort_tree.specs.declared.unit.Item.{Item as TopItem}
use Rattle.fort_tree.specs.declared.unit.Module.{Module}
use Rattle.fort_tree.specs.declared.unit.Unit as tree
use Rattle.sound_programs.specs.Forms.{Form}
use Rattle.sound_programs.specs.Nesting.{Nests_from, no_more, module_first, unit_first, a_module, subroutine, function}
use Rattle.column_scalars.proofs.MemberCases.{contains_none}
use Rattle.fort_units.specs.declared.item.Item.{Item}
use Rattle.fort_units.specs.Program.{HasLines, no_line, a_line, mode_of, IsProgram}
use Rattle.fort_units.specs.Places.{LineInFiles}
use Rattle.scalar_units.specs.Unbuilt.{is_earlier, IsFirst, noted}
use Rattle.scalar_units.proofs.Firsts.{first_is, two_parts}
use Rattle.sound_programs.specs.Placing.{placed, placed_unit}
use Rattle.column_rules.specs.Rules.{broken, of_unit}
use Rattle.translated_programs.specs.NotBuilt.{names_column_unit, is_global, of_any_unit, unbuilt}
use Rattle.claw_top.specs.KeptBack.{kept_back}
use Rattle.claw_top.specs.Sources.{AreBefore, begins_after, begins_at}

begun-within : (count : ℕ) (at begin : Place) (lines : List Line) → begin.file < count → AreBefore count lines → (begins_after at begin lines).file < count
begun-within count at begin [] here before = here
begun-within count at begin (line ∷ lines) here before =
    go (is_earlier at line.at)
    (begun-within count at line.at lines (All-head (LineInFiles count) line lines before).at (All-tail (LineInFiles count) line lines before))
  where
    go : (b : Bool) → (begins_after at line.at lines).file < count → (cond b begin (begins_after at line.at lines)).file < count
    go true next = here
    go false next = next

-- where there are lines, one of them begins at the place
begins-within : (count : ℕ) (at : Place) (line : Line) (lines : List Line) → AreBefore count (line ∷ lines) → (begins_at at (line ∷ lines)).file < count
begins-within count at line lines before =
    begun-within count at line.at lines (All-head (LineInFiles count) line lines before).at (All-tail (LineInFiles count) line lines before)

-- ---- no lines

no_forms : (lines : List Line) (items : List Item) (own : List Fault) (forms : List Form) → lines ≡ [] → HasLines lines items own forms → forms ≡ []
no_forms lines items own forms e no_line = refl
no_forms lines items own forms e (a_line one more) = absurd (no_items _ _ e)
  where
    no_items : {A : Type 0} (x : A) (xs : List A) → x ∷ xs ≡ [] → ⊥
    no_items x xs h = cc

-- no form nests into anything
nothing_nests : (mode : Mode) (forms : List Form) (ms : List Module) (us : List tree.Unit) (order : List TopItem) → forms ≡ [] → Nests_from mode 0 0 forms ms us order →
    (ms ≡ []) × (us ≡ [])
nothing_nests mode forms ms us order e no_more = (refl, refl)
nothing_nests mode forms ms us order e (module_first (a_module head inside ends) h) = absurd (no_form _ _ e)
  where
    no_form : (f : Form) (fs : List Form) → f ∷ fs ≡ [] → ⊥
    no_form f fs h = cc
nothing_nests mode forms ms us order e (unit_first (subroutine head pair body ends) h) = absurd (no_form _ _ e)
  where
    no_form : (f : Form) (fs : List Form) → f ∷ fs ≡ [] → ⊥
    no_form f fs h = cc
nothing_nests mode forms ms us order e (unit_first (function head body ends) h) = absurd (no_form _ _ e)
  where
    no_form : (f : Form) (fs : List Form) → f ∷ fs ≡ [] → ⊥
    no_form f fs h = cc

empty_built : (file : File) → IsProgram [] file → kept_back file ≡ []
empty_built file h =
    let forms = no_forms [] h.judged.items h.judged.own h.judged.forms refl h.judged.are in
    let parts = nothing_nests (mode_of []) h.judged.forms file.modules file.units file.order forms h.nests in
    ap (λ (us : List tree.Unit). flat_map (of_any_unit (names_column_unit file) (is_global file)) us ++ flat_map (of_unit (placed file)) (map placed_unit us)) parts.1

-- the first of what isn't built and of the headers of units that break a rule
pub first_of_both : (file : File) (unbuilt_first first : Option Place) → unbuilt_first ≡ noted (unbuilt file) None → first ≡ noted (broken file) unbuilt_first → MatchOption first (kept_back file ≡ []) (λ at. IsFirst at (kept_back file))
first_of_both file unbuilt_first first a b = first_is (kept_back file) first (two_parts (unbuilt file) (broken file) None unbuilt_first first a b)

-- what keeps a program back stands in one of the files
pub kept-within : (count : ℕ) (lines : List Line) (file : File) (at : Place) → AreBefore count lines → IsProgram lines file → IsFirst at (kept_back file) → (begins_at at lines).file < count
kept-within count [] file at before h first = absurd (contains_none at (subst (λ (l : List Place). Contains l at) (empty_built file h) first.is_one))
kept-within count (line ∷ lines) file at before h first = begins-within count at line lines before
