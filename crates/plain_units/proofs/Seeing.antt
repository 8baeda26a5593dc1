-- What is visible in a plain unit of the source is so in the target, with each unit in place of the one that it is made of.
use Rattle.std.proofs.Common.{◌≡◌, ℕ, zero, suc, refl, ap, sym, ◌∙◌, subst, List, [], ◌∷◌, map, length, Bool, true, false, Option, Some, None}
use Rattle.std.specs.Prelude.{if◌then◌else◌, ◌&&◌, is_some, slice_get}
use Rattle.std.specs.List.{find, position, IsDistinct}
use Rattle.std.specs.Str.{bytes_eq}
use mathlib.Core.Path.{ap₂}
use Rattle.claw_meaning.specs.Syntax.{Text, Decl, Use, Unit, Module, Program}
use Rattle.claw_meaning.specs.Scope.{Entity, Unknown, Variable, Constant, Procedure, or_else, decl_named, entity_of, procedure_of, same_host, unit_named, unit_within, brings, used, given_by, module_at, gives, module_gives, host_gives, visible}
use Rattle.claw_meaning.specs.Kinds.{kind_of_entity, kind_of_decl, result_name}
use Rattle.claw_meaning.specs.Units.{is_column_unit}
use Rattle.plain_units.specs.Regrouped.{regrouped}
use Rattle.plain_units.specs.Translated.{TranslatesUnit, plain, column, TranslatesUnits, none, next, IsPlain}
use Rattle.plain_units.proofs.Declared.{written_is, grouped_decl}

-- the declaration of a name in a plain unit
pub same_decl : (u : Unit) (x : Text) → is_column_unit u ≡ false → IsDistinct bytes_eq (map (λ d. d.name) u.decls) → decl_named (regrouped u).decls x ≡ decl_named u.decls x
same_decl u x e h = ap (λ ds. decl_named ds x) (written_is u e) ∙ grouped_decl u x h

-- a unit and what is made of it, where a plain unit has what makes it so
pub data Row (p : Program) : Unit → Unit → Type 0 where
  plain_row : {u : Unit} → is_column_unit u ≡ false → IsPlain p u → Row p u (regrouped u)
  column_row : {u t : Unit} → is_column_unit u ≡ true → t.name ≡ u.name → t.host ≡ u.host → kind_of_entity (Procedure t) ≡ kind_of_entity (Procedure u) → Row p u t

pub data Rows (p : Program) : List Unit → List Unit → Type 0 where
  no_row : Rows p [] []
  row : {u t : Unit} {us ts : List Unit} → Row p u t → Rows p us ts → Rows p (u ∷ us) (t ∷ ts)

row_of : (p : Program) (u t : Unit) → TranslatesUnit u t → (is_column_unit u ≡ false → IsPlain p u) → Row p u t
row_of p _ _ (plain e) h = plain_row e (h e)
row_of p _ _ (column e a b c) h = column_row e a b c

pub rows_of : (p : Program) (us ts : List Unit) → TranslatesUnits us ts → ((i : ℕ) (u : Unit) → slice_get us i ≡ Some u → is_column_unit u ≡ false → IsPlain p u) → Rows p us ts
rows_of p _ _ none h = no_row
rows_of p _ _ (next {u} {t} {us} {ts} r rest) h = row (row_of p u t r (h 0 u refl)) (rows_of p us ts rest (λ i v e. h (suc i) v e))

pub rows_length : (p : Program) (us ts : List Unit) → Rows p us ts → length ts ≡ length us
rows_length p _ _ no_row = refl
rows_length p _ _ (row {us = us} {ts = ts} r rest) = ap suc (rows_length p us ts rest)

none_some : {A : Type 0} (a : A) → None ≡ Some a → ⊥
none_some a e = cc

some_is : {A : Type 0} (a b : A) → Some a ≡ Some b → a ≡ b
some_is a b e = cc

pub row_at : (p : Program) (us ts : List Unit) → Rows p us ts → (i : ℕ) (u t : Unit) → slice_get us i ≡ Some u → slice_get ts i ≡ Some t → Row p u t
row_at p _ _ no_row i u t a b = absurd (none_some u a)
row_at p _ _ (row {u = v} {t = w} r rest) zero u t a b = subst (λ x. Row p x t) (some_is v u a) (subst (λ x. Row p v x) (some_is w t b) r)
row_at p _ _ (row {us = us} {ts = ts} r rest) (suc i) u t a b = row_at p us ts rest i u t a b

pub row_name : (p : Program) (u t : Unit) → Row p u t → t.name ≡ u.name
row_name p _ _ (plain_row e h) = refl
row_name p _ _ (column_row e a b c) = a

row_host : (p : Program) (u t : Unit) → Row p u t → t.host ≡ u.host
row_host p _ _ (plain_row e h) = refl
row_host p _ _ (column_row e a b c) = b

pub row_kind : (p : Program) (u t : Unit) → Row p u t → kind_of_entity (Procedure t) ≡ kind_of_entity (Procedure u)
row_kind p _ _ (plain_row {u} e h) = ap kind_of_decl (same_decl u (result_name u.name u.result) e h.once)
row_kind p _ _ (column_row e a b c) = c

-- the units that a search finds
pub data Found (p : Program) : Option Unit → Option Unit → Type 0 where
  neither : Found p None None
  two : {u t : Unit} → Row p u t → Found p (Some u) (Some t)

find_rows : (p : Program) (test : Unit → Bool) → ((u t : Unit) → Row p u t → test t ≡ test u) → (us ts : List Unit) → Rows p us ts → Found p (find test us) (find test ts)
find_rows p test h _ _ no_row = neither
find_rows p test h _ _ (row {u} {t} {us} {ts} r rest) = go (test u) (test t) (h u t r) (find_rows p test h us ts rest)
  where
    go : (a b : Bool) → b ≡ a → Found p (find test us) (find test ts) → Found p (if a then Some u else find test us) (if b then Some t else find test ts)
    go true true e i = two r
    go true false e i = absurd (cc)
    go false true e i = absurd (cc)
    go false false e i = i

-- the same entity, or two units of a row
pub data SameEntity (p : Program) : Entity → Entity → Type 0 where
  unknown : SameEntity p Unknown Unknown
  variable : (home : Text) (d : Decl) → SameEntity p (Variable home d) (Variable home d)
  constant : (d : Decl) → SameEntity p (Constant d) (Constant d)
  procedure : {u t : Unit} → Row p u t → SameEntity p (Procedure u) (Procedure t)

module _ (p : Program) (ts : List Unit) (rows : Rows p p.units ts) where
  abbrev pub target : Program
  target = record { modules = p.modules; units = ts; order = p.order }

  or_else_same : (a b c d : Entity) → SameEntity p a b → SameEntity p c d → SameEntity p (or_else a c) (or_else b d)
  or_else_same _ _ c d unknown h = h
  or_else_same _ _ c d (variable home e) h = variable home e
  or_else_same _ _ c d (constant e) h = constant e
  or_else_same _ _ c d (procedure r) h = procedure r

  entity_same : (home : Text) (d : Option Decl) → SameEntity p (entity_of home d) (entity_of home d)
  entity_same home None = unknown
  entity_same home (Some d) = go (is_some d.value)
    where
      go : (b : Bool) → SameEntity p (if b then Constant d else Variable home d) (if b then Constant d else Variable home d)
      go true = constant d
      go false = variable home d

  procedure_same : (a b : Option Unit) → Found p a b → SameEntity p (procedure_of a) (procedure_of b)
  procedure_same _ _ neither = unknown
  procedure_same _ _ (two r) = procedure r

  pub found_named : (x : Text) → Found p (unit_named p x) (unit_named target x)
  found_named x = find_rows p (λ u. bytes_eq u.name x) (λ u t r. ap (λ n. bytes_eq n x) (row_name p u t r)) p.units ts rows

  found_within : (host : Option ℕ) (x : Text) → Found p (unit_within p host x) (unit_within target host x)
  found_within host x =
      find_rows p (λ u. same_host u.host host && bytes_eq u.name x) (λ u t r. ap₂ (λ h n. same_host h host && bytes_eq n x) (row_host p u t r) (row_name p u t r)) p.units ts rows

  used_same : (g h : Text → Text → Entity) → ((m x : Text) → SameEntity p (g m x) (h m x)) → (us : List Use) (x : Text) → SameEntity p (used g us x) (used h us x)
  used_same g h s [] x = unknown
  used_same g h s (u ∷ us) x = or_else_same _ _ _ _ (go (brings u x)) (used_same g h s us x)
    where
      go : (b : Bool) → SameEntity p (if b then g u.name x else Unknown) (if b then h u.name x else Unknown)
      go true = s u.name x
      go false = unknown

  given_same : (g h : Text → Text → Entity) → ((m x : Text) → SameEntity p (g m x) (h m x)) → (number : Option ℕ) (host : Option Module) (x : Text) → SameEntity p (given_by p number host g x) (given_by target number host h x)
  given_same g h s number None x = unknown
  given_same g h s number (Some host) x =
      or_else_same _ _ _ _ (entity_same host.name (decl_named host.decls x))
      (or_else_same _ _ _ _ (procedure_same _ _ (found_within number x)) (used_same g h s host.uses x))

  module_at_same : (n : Option ℕ) → module_at target n ≡ module_at p n
  module_at_same None = refl
  module_at_same (Some n) = refl

  gives_same : (depth : ℕ) (m x : Text) → SameEntity p (gives p depth m x) (gives target depth m x)
  gives_same zero m x = unknown
  gives_same (suc depth) m x =
      let number = position (λ d. bytes_eq d.name m) p.modules in
      subst (λ h. SameEntity p (given_by p number (module_at p number) (gives p depth) x) (given_by target number h (gives target depth) x)) (sym (module_at_same number))
      (given_same (gives p depth) (gives target depth) (gives_same depth) number (module_at p number) x)

  pub module_same : (m x : Text) → SameEntity p (module_gives p m x) (module_gives target m x)
  module_same = gives_same (suc (length p.modules))

  host_same : (host : Option Module) (x : Text) → SameEntity p (host_gives p host x) (host_gives target host x)
  host_same None x = unknown
  host_same (Some host) x = module_same host.name x

  pub visible_same : (u : Unit) (x : Text) → is_column_unit u ≡ false → IsPlain p u → SameEntity p (visible p u x) (visible target (regrouped u) x)
  visible_same u x e h =
      or_else_same _ _ _ _
      (subst (λ d. SameEntity p (entity_of u.name (decl_named u.decls x)) (entity_of u.name d)) (sym (same_decl u x e h.once)) (entity_same u.name (decl_named u.decls x)))
      (or_else_same _ _ _ _ (used_same (module_gives p) (module_gives target) module_same u.uses x)
      (or_else_same _ _ _ _
      (subst (λ m. SameEntity p (host_gives p (module_at p u.host) x) (host_gives target m x)) (sym (module_at_same u.host)) (host_same (module_at p u.host) x))
      (procedure_same _ _ (found_within None x))))
