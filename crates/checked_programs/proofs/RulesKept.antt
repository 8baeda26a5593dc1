-- A sound program keeps the rules on arguments, writes and loop variables.
use Rattle.std.proofs.Common.{◌≡◌, ℕ, List, [], ◌∷◌, ◌++◌, length, Bool, true, false, ◌&&◌, ◌||◌, not, Option, None, Some, refl, sym, subst}
use Rattle.std.proofs.lemmas.Bool.{false≢true, or_parts, eqb-true, not-false}
use Rattle.std.specs.Prelude.{flat_map, is_some, is_none, IsTrue}
use Rattle.std.specs.List.{filter, list_any}
use Rattle.std.specs.Option.{option_to_list}
use Rattle.fort_arith.specs.declared.op.Intrinsic.{Intrinsic}
use Rattle.fort_tree.specs.declared.choice.Mode.{Mode}
use Rattle.fort_tree.specs.declared.unit.File.{File}
use Rattle.fort_tree.specs.declared.unit.Intent.{Intent}
use Rattle.fort_tree.specs.declared.unit.Intent.TheVariants.{In, Out, InOut}
use Rattle.claw_meaning.specs.Syntax as plain
use Rattle.claw_meaning.specs.Syntax.{Text}
use Rattle.claw_meaning.specs.Scope.{Entity}
use Rattle.claw_meaning.specs.Units.{is_intent_in, is_listed}
use Rattle.sound_programs.specs.ArgumentFaults.{takes, unit_takes, intrinsic_takes, counts_differ, count_faults, share, shared_actuals, same_pair, module_variables, module_variables_of, reached_from, is_named_by, named_behind, behind_site, alias_at_site, alias_faults, is_fixed, is_writable, writes_fixed, function_dummies, names_written, module_writes, function_writes, write_faults_in_unit, write_faults}
use Rattle.sound_programs.specs.CallFaults.{calls, sites_of}
use Rattle.sound_programs.specs.DeclarationFaults.{dummy_without_intent, intent_without_dummy, intent_faults}
use Rattle.sound_programs.specs.Laws.{Each, entity_of}
use Rattle.sound_programs.specs.Links.{leads}
use Rattle.sound_programs.specs.LoopFaults.{is_local_integer, loop_variables, loop_faults_in_step, loop_faults_in_unit, loop_faults}
use Rattle.sound_programs.specs.Placed.{Expr, Decl, Unit, bare_program, first}
use Rattle.sound_programs.specs.Placing.{placed}
use Rattle.sound_programs.specs.Places.{where_place}
use Rattle.sound_programs.specs.Scopes.{Of_unit, scopes, is_dummy, is_prefix, unit_of, module_variable, is_written_intent}
use Rattle.sound_programs.specs.Sound.{Sound}
use Rattle.sound_programs.specs.Walks.{Stands, Step, Site, Actual, actuals, sites, steps_of, parts_of, reference, is_written, loop_variable, name_in, names_in}
use Rattle.sound_programs.proofs.Chains.{reached_within}
use Rattle.sound_programs.proofs.SoundLaws.{empty_if_nowhere}
use Rattle.sound_programs.proofs.Empties.{left_empty, right_empty, map_empty, each_from, each_empty, none_kept, none_where, each_if_kept, not_placed, other_false, then_true, chosen_empty, not_some}
use Rattle.sound_programs.proofs.WithinLists.{each_by, each_right, each_before_map, both_of}
use Rattle.checked_programs.specs.Fitting.{EachTwo}
use Rattle.checked_programs.specs.Kept.{HasAllArguments, ArgumentsMatch, AreApart, NoneNames, IsHidden, ActualsAreAlone, WrittenActualsAreAlone, WritesAreAllowed, WritesNoModule, IsPure, IntentsAreKept, KeepsLoopVariables, LoopVariablesStayInside}

-- ---- Arguments

unit_is_counted : (o : Option plain.Unit) (n : ℕ) → not (unit_takes o n) ≡ false → (v : plain.Unit) → o ≡ Some v → n ≡ length v.dummies
unit_is_counted o n h v e = eqb-true _ _ (not-false _ (subst (λ p. not (unit_takes p n) ≡ false) e h))

intrinsic_is_counted : (o : Option Intrinsic) (n : ℕ) → not (intrinsic_takes o n) ≡ false → (which : Intrinsic) → o ≡ Some which → takes which n ≡ true
intrinsic_is_counted o n h which e = not-false _ (subst (λ p. not (intrinsic_takes p n) ≡ false) e h)

has_all_arguments : (entity : Text → Entity) (step : Step) → counts_differ entity step ≡ [] → HasAllArguments entity step
has_all_arguments entity step none = record {
  units = each_from _ (sites entity step) (λ (s : Site) h. unit_is_counted _ _ (not_placed _ _ h)) (left_empty _ _ none);
  intrinsics = each_from _ (flat_map reference (parts_of step)) (λ (s : Site) h. intrinsic_is_counted _ _ (not_placed _ _ h)) (right_empty _ _ none);
}

pub arguments_match : (mode : Mode) (file : File) → Sound mode file → ArgumentsMatch file
arguments_match mode file sound =
    each_from (λ (u : Unit). flat_map (λ (s : Stands). counts_differ (entity_of file u) s.step) (steps_of u)) (placed file).units
    (λ u e. each_from (λ (s : Stands). counts_differ (entity_of file u) s.step) (steps_of u) (λ s h. has_all_arguments (entity_of file u) s.step h) e)
    (empty_if_nowhere (count_faults (placed file)) sound.arguments_are_counted)

-- ---- Aliases

neither : (same a b : Bool) → same && (a || b) ≡ false → same ≡ true → (a ≡ false) × (b ≡ false)
neither same a b none h = or_parts _ _ (other_false _ _ none h)

two_apart : (entity : Text → Entity) (list : List Actual) → shared_actuals entity list ≡ [] → EachTwo (AreApart entity) list
two_apart entity [] none = tt
two_apart entity (a ∷ rest) none = (
  each_from (share entity a) rest (λ b h. neither _ _ _ (not_placed _ _ h)) (left_empty _ _ none),
  two_apart entity rest (right_empty _ _ none),
)

none_of_any : {A : Type 0} (test : A → Bool) (xs : List A) → list_any test xs ≡ false → Each xs (λ x. test x ≡ false)
none_of_any test [] h = tt
none_of_any test (x ∷ xs) h = let both : (test x ≡ false) × (list_any test xs ≡ false) = or_parts _ _ h in (both.0, none_of_any test xs both.1)

none_names : (file : File) (callee : Text) (v : Text × Text) → is_named_by (placed file) (bare_program (placed file)) callee v ≡ false → NoneNames file callee v
none_names file callee v h =
    let p = placed file in
    let q = bare_program p in
    each_by p.units (λ (w : Unit) (kept : leads (calls p) callee w.name ≡ true → Each (module_variables_of q w) (λ n. same_pair v n ≡ false)) reached. kept (reached_within _ _ _ reached))
    (each_if_kept (λ (w : Unit). Each (module_variables_of q w) (λ n. same_pair v n ≡ false)) (λ (w : Unit). leads (calls p) callee w.name) p.units
    (each_by (reached_from p callee) (λ w e. none_of_any (same_pair v) (module_variables_of q w) e)
    (none_of_any (λ (w : Unit). list_any (same_pair v) (module_variables_of q w)) (reached_from p callee) h)))

is_hidden : (file : File) (u : Unit) (callee : Text) (a : Actual) → named_behind (placed file) (bare_program (placed file)) u callee a ≡ [] → IsHidden file u callee a
is_hidden file u callee a none writes =
    let p = placed file in
    let q = bare_program p in
    let variables = module_variables (entity_of file u) u.name (flat_map name_in (option_to_list a.expr)) in
    each_by variables (λ v e. none_names file callee v e)
    (none_of_any (is_named_by p q callee) variables (other_false _ _ (not_placed _ _ none) writes))

all_hidden : (file : File) (u : Unit) (s : Site) (o : Option plain.Unit) → behind_site (placed file) (bare_program (placed file)) u s o ≡ []
    → (v : plain.Unit) → o ≡ Some v → Each (actuals (entity_of file u) s) (IsHidden file u v.name)
all_hidden file u s o none v e =
    each_from (named_behind (placed file) (bare_program (placed file)) u v.name) (actuals (entity_of file u) s) (λ a h. is_hidden file u v.name a h)
    (subst (λ p. behind_site (placed file) (bare_program (placed file)) u s p ≡ []) e none)

are_alone : (file : File) (u : Unit) (s : Site) → alias_at_site (placed file) (bare_program (placed file)) u s ≡ [] → ActualsAreAlone file u s
are_alone file u s none = record {
  apart = two_apart (entity_of file u) (actuals (entity_of file u) s) (left_empty _ _ none);
  hidden = all_hidden file u s (unit_of (entity_of file u s.name.name)) (right_empty _ _ none);
}

pub written_actuals_are_alone : (mode : Mode) (file : File) → Sound mode file → WrittenActualsAreAlone file
written_actuals_are_alone mode file sound =
    let p = placed file in
    each_from (λ (u : Unit). flat_map (alias_at_site p (bare_program p) u) (sites_of (entity_of file u) u)) p.units
    (λ u e. each_from (alias_at_site p (bare_program p) u) (sites_of (entity_of file u) u) (λ s h. are_alone file u s h) e)
    (empty_if_nowhere (alias_faults p) sound.written_actuals_have_no_alias)

-- ---- Writes

passed_is_writable : (entity : Text → Entity) (o : Option Expr) → flat_map (λ e. where_place (not (is_writable entity e)) (first e)) (option_to_list o) ≡ [] → (e : Expr) → o ≡ Some e → is_writable entity e ≡ true
passed_is_writable entity o none e h =
    not-false _ (not_placed _ _ (left_empty _ _
    (subst (λ p. flat_map (λ e. where_place (not (is_writable entity e)) (first e)) (option_to_list p) ≡ []) h none)))

writes_are_allowed : (entity : Text → Entity) (step : Step) → writes_fixed entity step ≡ [] → WritesAreAllowed entity step
writes_are_allowed entity step none =
    let all = flat_map (actuals entity) (sites entity step) in
    record {
      assigned = none_where (λ n. is_fixed (entity n.name)) _ (left_empty _ _ none);
      passed = each_if_kept (λ (a : Actual). (e : Expr) → a.expr ≡ Some e → IsTrue (is_writable entity e)) is_written all
          (each_from _ (filter is_written all) (λ (a : Actual) h. passed_is_writable entity a.expr h) (right_empty _ _ none));
    }

writes_no_module : (file : File) (w : Unit) → module_writes (bare_program (placed file)) w ≡ [] → WritesNoModule file w
writes_no_module file w none =
    each_by (flat_map (λ (s : Stands). names_written (entity_of file w) s.step) (steps_of w)) (λ n h. not_some _ h)
    (none_where (λ n. is_some (module_variable w.name n.name (entity_of file w n.name))) _ none)

only_in : (o : Option Intent) → is_none o ≡ false → is_written_intent o ≡ false → is_intent_in o ≡ true
only_in None some h = sym some
only_in (Some In) some h = refl
only_in (Some Out) some h = sym h
only_in (Some InOut) some h = sym h

in_dummy : (d p : Bool) (o : Option Intent) → d && (is_none o && not p) ≡ false → d && is_written_intent o ≡ false → d ≡ true → p ≡ false → is_intent_in o ≡ true
in_dummy true false o some none h e = only_in o (left_false (is_none o) some) none
  where
    left_false : (b : Bool) → b && true ≡ false → b ≡ false
    left_false true h = h
    left_false false h = h
in_dummy true true o some none h e = absurd (false≢true (sym e))
in_dummy false p o some none h e = absurd (false≢true h)

is_pure : (file : File) (u : Unit) → dummy_without_intent (Of_unit u) ≡ [] → function_dummies u ≡ [] → function_writes (placed file) (bare_program (placed file)) u ≡ [] → IsTrue (is_some u.result) → IsPure file u
is_pure file u without dummies writes function =
    let p = placed file in
    let q = bare_program p in
    let named : Each u.decls (λ d. is_dummy (Of_unit u) d.name && (is_none d.intent && not (is_prefix u d)) ≡ false) =
    none_kept (λ (d : Decl). is_dummy (Of_unit u) d.name && (is_none d.intent && not (is_prefix u d))) u.decls (map_empty (λ (d : Decl). d.at) (filter (λ (d : Decl). is_dummy (Of_unit u) d.name && (is_none d.intent && not (is_prefix u d))) u.decls) without) in
    let unwritten : Each u.decls (λ d. is_dummy (Of_unit u) d.name && is_written_intent d.intent ≡ false) =
    none_kept (λ (d : Decl). is_dummy (Of_unit u) d.name && is_written_intent d.intent) u.decls
    (map_empty (λ (d : Decl). d.at) (filter (λ (d : Decl). is_dummy (Of_unit u) d.name && is_written_intent d.intent) u.decls)
    (chosen_empty _ _ dummies function)) in
    record {
      dummies = each_by u.decls (λ (d : Decl) both. in_dummy _ _ _ both.0 both.1) (both_of _ _ u.decls named unwritten);
      unwritten = each_by u.decls (λ (d : Decl) e. other_false _ _ e) unwritten;
      writes = each_by p.units (λ (w : Unit) (kept : leads (calls p) u.name w.name ≡ true → WritesNoModule file w) reached. kept (reached_within _ _ _ reached))
          (each_if_kept (WritesNoModule file) (λ (w : Unit). leads (calls p) u.name w.name) p.units
          (each_from (module_writes q) (reached_from p u.name) (λ w h. writes_no_module file w h) (chosen_empty _ _ writes function)));
    }

pub intents_are_kept : (mode : Mode) (file : File) → Sound mode file → IntentsAreKept file
intents_are_kept mode file sound =
    let p = placed file in
    let q = bare_program p in
    let in_units : Each p.units (λ u. write_faults_in_unit p q u ≡ []) = each_empty (write_faults_in_unit p q) p.units (empty_if_nowhere (write_faults p) sound.writes_are_allowed) in
    let in_scopes : Each (scopes p) (λ s. dummy_without_intent s ++ intent_without_dummy s ≡ []) = each_empty (λ s. dummy_without_intent s ++ intent_without_dummy s) (scopes p) (empty_if_nowhere (intent_faults p) sound.dummies_have_intent) in
    let dummies : Each p.units (λ u. dummy_without_intent (Of_unit u) ++ intent_without_dummy (Of_unit u) ≡ []) =
    each_before_map Of_unit (λ s. dummy_without_intent s ++ intent_without_dummy s ≡ []) p.units (each_right (λ s. dummy_without_intent s ++ intent_without_dummy s ≡ []) _ _ in_scopes) in
    record {
      writes = each_by p.units (λ (u : Unit) e.
          each_from (λ (s : Stands). writes_fixed (entity_of file u) s.step) (steps_of u) (λ s h. writes_are_allowed (entity_of file u) s.step h) (left_empty _ _ e)) in_units;
      functions = each_by p.units (λ (u : Unit) both.
          let rest = right_empty _ _ both.0 in
          is_pure file u (left_empty _ _ both.1) (left_empty _ _ rest) (right_empty _ _ rest))
          (both_of _ _ p.units in_units dummies);
    }

-- ---- Loops

keeps_loop_variables : (entity : Text → Entity) (u : Unit) (s : Stands) → loop_faults_in_step entity u s ≡ [] → KeepsLoopVariables entity u s
keeps_loop_variables entity u s none =
    let rest = right_empty _ _ none in
    let later = right_empty _ _ rest in
    let last = right_empty _ _ later in
    record {
      local = each_by (loop_variable s.step) (λ n h. not-false _ h)
          (none_where (λ n. not (is_local_integer u n.name)) _ (left_empty _ _ none));
      new = none_where (λ n. is_listed s.loops n.name) _ (right_empty _ _ last);
      inside = each_by (names_in s.step) (λ n h. then_true _ _ h)
          (none_where (λ n. is_listed (loop_variables u) n.name && not (is_listed s.loops n.name)) _ (left_empty _ _ rest));
      assigned = none_where (λ n. is_listed s.loops n.name) _ (left_empty _ _ later);
      passed = none_where (λ n. is_listed s.loops n.name) _ (left_empty _ _ last);
    }

pub loop_variables_stay_inside : (mode : Mode) (file : File) → Sound mode file → LoopVariablesStayInside file
loop_variables_stay_inside mode file sound =
    let p = placed file in
    let in_units : Each p.units (λ u. loop_faults_in_unit (entity_of file u) u ≡ []) = each_empty (λ (u : Unit). loop_faults_in_unit (entity_of file u) u) p.units (empty_if_nowhere (loop_faults p) sound.loop_variables_are_their_loops') in
    record {
      steps = each_by p.units (λ (u : Unit) e.
          each_from (loop_faults_in_step (entity_of file u) u) (steps_of u) (λ s h. keeps_loop_variables (entity_of file u) u s h) (left_empty _ _ e)) in_units;
      bounds = each_by p.units (λ (u : Unit) e.
          none_where (λ n. is_listed (loop_variables u) n.name) _ (right_empty _ _ e)) in_units;
    }
