-- What is made of a sound program of which nothing is unbuilt is a translation of it.
use Rattle.std.proofs.Common.{◌≡◌, ℕ, zero, suc, List, [], ◌∷◌, map, length, Bool, true, false, Some, None, refl, sym, ap, ◌∙◌, subst}
use Rattle.std.specs.Option.{option_map}
use Rattle.std.specs.Prelude.{slice_get, if◌then◌else◌}
use Rattle.std.proofs.lemmas.Bool.{false≢true}
use Rattle.std.proofs.lemmas.List.{length-map}
use Rattle.courses.specs.Plans.{Plan}
use Rattle.fort_tree.specs.declared.choice.Mode.{Mode}
use Rattle.fort_tree.specs.declared.choice.Target.TheVariants.{Cpu}
use Rattle.fort_tree.specs.declared.choice.Directives.TheVariants.{Plain}
use Rattle.fort_tree.specs.declared.unit.File.{File}
use Rattle.claw_meaning.specs.Syntax.{Text, Unit, Program}
use Rattle.claw_meaning.specs.Plain.{plain_file}
use Rattle.claw_meaning.specs.Units.{is_column_unit, is_listed}
use Rattle.claw_meaning.specs.Frames.{Frame}
use Rattle.claw_meaning.specs.Runs.{exec, Apart}
use Rattle.claw_meaning.specs.Kept.{KeepsColumnUnit, KeepsOtherUnit, Kept, Orderly}
use Rattle.claw_meaning.specs.Interface.{AreWide, UnitInterface, Interface, widening_of}
use Rattle.claw_meaning.specs.Erasure.{erased_unit, bare_unit, behind_guard, Erased}
use Rattle.claw_meaning.specs.Spread.{spreading, SpreadStmts, are_unmarked, has_routine, Spread}
use Rattle.column_scalars.specs.Scalars.{Scalars, IsScalars, source_unit, wide_unit}
use Rattle.column_scalars.specs.Standing.{StandsIn}
use Rattle.column_scalars.specs.Widened.{widened}
use Rattle.plain_units.specs.Regrouped.{regrouped}
use Rattle.plain_units.specs.Translated.{TranslatesUnit, plain, TranslatesUnits, none as no_units, next, Translates, ArePlain, IsPlain}
use Rattle.sound_programs.specs.Laws.{Each}
use Rattle.sound_programs.specs.Sound.{Sound}
use Rattle.sound_programs.proofs.WithinLists.{each_at}
use Rattle.translated_programs.specs.NotBuilt.{unbuilt}
use Rattle.translated_programs.specs.Translated.{translated, translated_unit, wide_in, wide_of, IsTranslatable, as_it_is, for_all_columns, AreTranslatable}
use Rattle.translated_programs.specs.UnitLaws.{UnitLaws}
use Rattle.translated_programs.proofs.SoundUnits.{Stands, a_column, a_plain, all_stand}

-- ---- Units by number

no_such : {A B : Type 0} (a : A) → None ≡ Some a → B
no_such a e = absurd (none_some a e)
  where
    none_some : {A : Type 0} (a : A) → None ≡ Some a → ⊥
    none_some a e = cc

pub mapped_at : {A B : Type 0} (f : A → B) (xs : List A) (i : ℕ) (x : A) (y : B) → slice_get xs i ≡ Some x → slice_get (map f xs) i ≡ Some y → y ≡ f x
mapped_at f [] i x y e h = no_such x e
mapped_at f (z ∷ xs) zero x y e h = sym (some_is (f z) y h) ∙ ap f (some_is z x e)
  where
    some_is : {A : Type 0} (a b : A) → Some a ≡ Some b → a ≡ b
    some_is a b e = cc
mapped_at f (z ∷ xs) (suc i) x y e h = mapped_at f xs i x y e h

-- what a unit of the target owes the unit of the source, with these wide variables
record Owes (s t : Program) (u v : Unit) (wide : Text → Bool) : Type 0 where
  varying : is_column_unit u ≡ true → AreWide s u wide
  interface : UnitInterface s u v (widening_of s u wide)
  erased : erased_unit s u (widening_of s u wide) v ≡ bare_unit s u
  spread : is_column_unit u ≡ true → SpreadStmts (spreading s u (widening_of s u wide) Cpu Plain (λ x. false)) (behind_guard true v.body)
  unmarked : is_column_unit u ≡ false → are_unmarked v.body ≡ true
  routine : has_routine v ≡ false
  keeps : (plan : Plan) → is_column_unit u ≡ true → KeepsColumnUnit s t u v plan
  others : (plan : Plan) → is_column_unit u ≡ false → KeepsOtherUnit s t u v plan
  apart : (plan : Plan) (frame : Frame) → Apart (exec t v frame plan)

module _ (laws : UnitLaws) (s : Program) (stand : Each s.units (Stands s)) where
  abbrev target : Program
  target = translated s

  -- ---- The target translates the source

  column_by : (u : Scalars) → translated_unit (source_unit u) ≡ wide_unit u
  column_by u = laws.widened_is u

  unit_translates : (u : Unit) → Stands s u → TranslatesUnit u (translated_unit u)
  unit_translates _ (a_column u is there once) =
      subst (TranslatesUnit (source_unit u)) (sym (column_by u)) (laws.column_translated s (source_unit u) (wide_unit u) (λ x. is_listed u.dummies x) refl (laws.interface u is s there) once)
  unit_translates u (a_plain e is) = subst (λ b. TranslatesUnit u (if b then widened u else regrouped u)) (sym e) (plain e)

  units_translate : (us : List Unit) → Each us (Stands s) → TranslatesUnits us (map translated_unit us)
  units_translate [] h = no_units
  units_translate (u ∷ us) h = next (unit_translates u h.0) (units_translate us h.1)

  translates : Translates s target
  translates = record { modules = refl; order = refl; units = units_translate s.units stand }

  is_plain : (u : Unit) → Stands s u → is_column_unit u ≡ false → IsPlain s u
  is_plain _ (a_column u is there once) e = absurd (false≢true (sym e))
  is_plain u (a_plain e is) off = is

  are_plain : ArePlain s
  are_plain i u e off = is_plain u (each_at (Stands s) s.units i u stand e) off

  -- ---- Each unit owes what it should

  column_owes : (i : ℕ) (u : Scalars) → IsScalars u → StandsIn s u → Owes s target (source_unit u) (wide_unit u) (λ x. is_listed u.dummies x)
  column_owes i u is there = record {
    varying = λ e. laws.varying u is s;
    interface = laws.interface u is s there;
    erased = laws.erased u is s there;
    spread = λ e. laws.spread u is s;
    unmarked = λ e. absurd (false≢true (sym e));
    routine = laws.routine u;
    keeps = λ plan e. laws.keeps u is s target there refl plan;
    others = λ plan e. absurd (false≢true (sym e));
    apart = λ plan frame. laws.apart u is target frame plan;
  }

  plain_owes : (i : ℕ) (u v : Unit) → slice_get s.units i ≡ Some u → slice_get target.units i ≡ Some v → is_column_unit u ≡ false → Owes s target u v (wide_in s i)
  plain_owes i u v a b off = record {
    varying = λ e. absurd (false≢true (sym off ∙ e));
    interface = laws.plain_interface s target translates are_plain i u v a b off (wide_in s i);
    erased = laws.plain_erased s target translates are_plain i u v a b off (wide_in s i);
    spread = λ e. absurd (false≢true (sym off ∙ e));
    unmarked = λ e. laws.plain_unmarked s target translates are_plain i u v a b off;
    routine = laws.plain_routine s target translates are_plain i u v a b off;
    keeps = λ plan e. absurd (false≢true (sym off ∙ e));
    others = λ plan e frame typed small small'. laws.plain_kept s target translates are_plain i u v a b off plan frame;
    apart = λ plan frame. laws.plain_apart s target translates are_plain i u v a b off plan frame;
  }

  owes_at : (i : ℕ) (u v : Unit) → Stands s u → slice_get s.units i ≡ Some u → slice_get target.units i ≡ Some v → Owes s target u v (wide_in s i)
  owes_at i _ v (a_column u is there once) a b =
      let made : v ≡ wide_unit u = mapped_at translated_unit s.units i (source_unit u) v a b ∙ column_by u in
      subst (λ w. Owes s target (source_unit u) w (wide_in s i)) (sym made) (subst (λ o. Owes s target (source_unit u) (wide_unit u) (wide_of o)) (sym a) (column_owes i u is there))
  owes_at i u v (a_plain off is) a b = plain_owes i u v a b off

  owes : (i : ℕ) (u v : Unit) → slice_get s.units i ≡ Some u → slice_get target.units i ≡ Some v → Owes s target u v (wide_in s i)
  owes i u v a b = owes_at i u v (each_at (Stands s) s.units i u stand a) a b

  -- ---- The relations of the programs

  count : length target.units ≡ length s.units
  count = length-map s.units translated_unit

  interface_is : Interface s target (wide_in s)
  interface_is = record {
    modules = refl;
    order = refl;
    count = count;
    varying = λ i u a on. (owes i u (translated_unit u) a (map_get translated_unit s.units i u a)).varying on;
    units = λ i u v a b. (owes i u v a b).interface;
  }
    where
      map_get : {A B : Type 0} (f : A → B) (xs : List A) (i : ℕ) (x : A) → slice_get xs i ≡ Some x → slice_get (map f xs) i ≡ Some (f x)
      map_get f [] i x e = no_such x e
      map_get f (y ∷ xs) zero x e = ap (option_map f) e
      map_get f (y ∷ xs) (suc i) x e = map_get f xs i x e

  erased_is : Erased s target (wide_in s)
  erased_is = record { modules = refl; order = refl; units = λ i u v a b. (owes i u v a b).erased; count = count }

  spread_is : Spread s target (wide_in s) (λ i x. false) Cpu Plain
  spread_is = record {
    columns = λ i u v a b on. (owes i u v a b).spread on;
    others = λ i u v a b off. (owes i u v a b).unmarked off;
    routines = λ i u v a b. (λ has. absurd (false≢true (sym (owes i u v a b).routine ∙ has)), λ reached. absurd (false≢true reached.0));
  }

  kept_is : (plan : Plan) → Kept s target plan
  kept_is plan = record { columns = λ i u v a b on. (owes i u v a b).keeps plan on; others = λ i u v a b off. (owes i u v a b).others plan off }

  orderly_is : (plan : Plan) → Orderly s target plan
  orderly_is plan = record {
    columns = λ i u v a b on wide typed small. (owes i u v a b).apart plan wide;
    others = λ i u v a b off frame typed small small'. (owes i u v a b).apart plan frame;
  }

-- what is made of the source
pub record IsMade (s t : Program) : Type 0 where
  pub interface : Interface s t (wide_in s)
  pub erased : Erased s t (wide_in s)
  pub spread : Spread s t (wide_in s) (λ i x. false) Cpu Plain
  pub kept : (plan : Plan) → Kept s t plan
  pub orderly : (plan : Plan) → Orderly s t plan

pub is_made : UnitLaws → (mode : Mode) (file : File) (t : Program) → Sound mode file → unbuilt file ≡ [] → t ≡ translated (plain_file file) → IsMade (plain_file file) t
is_made laws mode file t sound none is =
    let s = plain_file file in
    let stand = all_stand laws.built mode file sound none laws.standing in
    subst (IsMade s) (sym is)
    (record { interface = interface_is laws s stand; erased = erased_is laws s stand; spread = spread_is laws s stand; kept = kept_is laws s stand; orderly = orderly_is laws s stand })

-- ---- Each unit by itself

translatable : UnitLaws → (p : Program) (u : Unit) → Stands p u → IsTranslatable u
translatable laws p _ (a_column s is there once) = for_all_columns s is refl (laws.widened_is s)
translatable laws p u (a_plain off is) = as_it_is is.undirected (ap (λ b. if b then widened u else regrouped u) off)

pub are_translatable : UnitLaws → (mode : Mode) (file : File) → Sound mode file → unbuilt file ≡ [] → AreTranslatable (plain_file file)
are_translatable laws mode file sound none i u at =
    let s = plain_file file in
    translatable laws s u (each_at (Stands s) s.units i u (all_stand laws.built mode file sound none laws.standing) at)
