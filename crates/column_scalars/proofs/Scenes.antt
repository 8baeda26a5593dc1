-- Scenes in which names are scalars, or arrays over the columns.
use Rattle.std.proofs.Common.{◌≡◌, ℕ, ℤ, refl, ap, ap₂, ◌∙◌, List, [], ◌∷◌, None, true, ◌&&◌, int_le, Contains, if◌then◌else◌}
use Rattle.std.specs.Prelude.{⊤}
use Rattle.fort_arith.specs.declared.kind.Kind.TheVariants.{I4}
use Rattle.fort_tree.specs.Intrinsic.{intrinsic_named}
use Rattle.courses.specs.Element.{Value, Whole, Store}
use Rattle.courses.specs.Interaction.{Orders}
use Rattle.courses.specs.Course.{Sort, Many, Number, Course, Give, Fail, Get, and_then}
use Rattle.claw_meaning.specs.Syntax.{Text, Name, Subscripts, At, No_more}
use Rattle.claw_meaning.specs.Kinds.{kind_of_reference}
use Rattle.claw_meaning.specs.Scene.{Bounds, Variable, Meant, Held, Scene, kind_meant, element}
use Rattle.claw_meaning.specs.Evaluation.{kind_in, shapes_of_all, shapes_of_reference, array_shapes, whole_shape, values, arguments, subscripts, named, named_place, referred, indexed_place, read, checked, defined, with_whole}
use Rattle.column_scalars.specs.Scalars.{in_column}
use Rattle.column_scalars.specs.Model.{scalar_of, cell_of}
use Rattle.column_scalars.proofs.Ends.{ending}
use Rattle.column_scalars.proofs.Sums.{Lies}
use Rattle.column_scalars.proofs.Places.{put_apart, cell_scalar}

abbrev pub integer_of : Text → Text → Bounds → Meant
integer_of home x bounds = Held (record { home = home; name = x; kind = I4; bounds = bounds })

abbrev pub AreScalars : Scene → Text → List Text → Type 0
AreScalars c home names = (x : Text) → Contains names x → c.meant x ≡ integer_of home x []

pub scalars_lie : (c : Scene) (home : Text) (names : List Text) → AreScalars c home names → Lies c names Name (scalar_of home) (λ s. ⊤)
scalars_lie c home names m = record {
  kind = λ x h. ap kind_meant (m x h);
  settles = λ x h g. refl;
  scalar = λ x h. ap (λ w. array_shapes (whole_shape w)) (m x h);
  reads = λ x h o s j p. ap (λ w. ending (named w []) o s j) (m x h);
  places = λ x h g o s j p. ap (λ w. ending (named_place w [] g) o s j) (m x h);
  keeps = λ x h s v p. tt;
}

-- the names are arrays with these bounds, and the dimension's variable is a scalar
pub record AreArrays (c : Scene) (home id : Text) (names : List Text) (lower upper : ℤ) : Type 0 where
  pub dimension : c.meant id ≡ integer_of home id []
  pub arrays : (x : Text) → Contains names x → c.meant x ≡ integer_of home x ((lower, upper) ∷ [])
  pub plain : (x : Text) → Contains names x → intrinsic_named x ≡ None

abbrev the : Text → Subscripts
the id = At (Name id) No_more

abbrev from_whole : Value → Course (Many Number)
from_whole v = with_whole v (λ i. and_then {k = Many Number} {l = Many Number} (Give {k = Many Number} []) (λ is. Give {k = Many Number} (i ∷ is)))

-- the one subscript is the column's number
subscript_is : {k : Sort} (c : Scene) (home id : Text) (column : ℤ) → c.meant id ≡ integer_of home id [] → (g : List ℤ → Course k) (o : Orders) (s : Store) (j : ℕ) → s (scalar_of home id) ≡ Whole column
    → ending (and_then (subscripts c (the id) []) g) o s j ≡ ending (g (column ∷ [])) o s j
subscript_is c home id column m g o s j p =
    ap (λ w. ending (and_then (and_then (named w []) from_whole) g) o s j) m
    ∙ ap (λ w. ending (and_then (and_then (defined w) from_whole) g) o s j) p

pub cells_lie : (c : Scene) (home id : Text) (names : List Text) (lower upper column : ℤ) → AreArrays c home id names lower upper → (int_le lower column && int_le column upper) && true ≡ true
    → Lies c names (in_column id) (cell_of home column) (λ s. s (scalar_of home id) ≡ Whole column)
cells_lie c home id names lower upper column m inside = record {
  kind = λ x h. ap₂ (λ w k. kind_of_reference w k (kind_meant (c.meant id)) (At (Name id) No_more)) (m.plain x h) (ap kind_meant (m.arrays x h));
  settles = λ x h g. refl;
  scalar = λ x h. ap₂ (λ w n. shapes_of_reference w n (At (Name id) No_more) (shapes_of_all c (At (Name id) No_more))) (m.plain x h) (m.arrays x h);
  reads = λ x h o s j p.
      let v : Variable = record { home = home; name = x; kind = I4; bounds = (lower, upper) ∷ [] } in
      ap (λ w. ending (referred c (c.meant x) w (kind_in c (in_column id x)) (the id) (λ os. values c (the id) os) (subscripts c (the id) []) (λ ds g. arguments c (the id) ds g) []) o s j) (m.plain x h)
      ∙ ap (λ w. ending (referred c w None (kind_in c (in_column id x)) (the id) (λ os. values c (the id) os) (subscripts c (the id) []) (λ ds g. arguments c (the id) ds g) []) o s j) (m.arrays x h)
      ∙ subscript_is c home id column m.dimension (λ is. read v is) o s j p
      ∙ ap (λ b. ending (if b then Get (element v (column ∷ [])) defined else Fail) o s j) inside;
  places = λ x h g o s j p.
      let v : Variable = record { home = home; name = x; kind = I4; bounds = (lower, upper) ∷ [] } in
      ap (λ w. ending (indexed_place w (subscripts c (the id) []) g) o s j) (m.arrays x h)
      ∙ subscript_is c home id column m.dimension (λ is. checked v is g) o s j p
      ∙ ap (λ b. ending (if b then g (element v (column ∷ [])) else Fail) o s j) inside;
  keeps = λ x h s v p. put_apart s (cell_of home column x) v (scalar_of home id) (cell_scalar home column x id) ∙ p;
}
