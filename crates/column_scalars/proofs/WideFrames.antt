-- What a well-typed input of the program for all columns holds: all columns of each dummy, and then the upper bound.
use Rattle.std.proofs.Common.{◌≡◌, ℤ, refl, ap, subst, List, [], ◌∷◌, ◌++◌, Contains, Option, Some, None, true, ◌&&◌, is_none, map, length, arith}
use Rattle.std.proofs.lemmas.Bool.{false≢true}
use mathlib.Core.Path.{ap₂}
use Rattle.fort_arith.specs.declared.kind.Kind.{Kind}
use Rattle.fort_arith.specs.declared.kind.Kind.TheVariants.{I4}
use Rattle.fort_arith.specs.Range.{in_kind}
use Rattle.fort_tree.specs.declared.unit.Intent.TheVariants.{In}
use Rattle.courses.specs.Element.{Value, Undefined, Whole, Truth}
use Rattle.courses.specs.Frames.{places}
use Rattle.claw_meaning.specs.Syntax.{Text, Name, Dimension, Decl, Program}
use Rattle.claw_meaning.specs.Scope.{decl_named}
use Rattle.claw_meaning.specs.Scene.{Bounds, Dummy}
use Rattle.claw_meaning.specs.Units.{dummy_of, raised_upper, known_in_unit}
use Rattle.claw_meaning.specs.Frames.{Key, Held, Frame, ColumnDimension, given_by_frame, FitsDimensions, FitsWide, FitsDecl, AllFit, AreDefined, IsGiven, FitsDummy, FitDummies, FitModules, WellTyped, module_variables}
use Rattle.claw_meaning.specs.Columns.{column_place, lower_column, upper_column, column_dimension}
use Rattle.column_scalars.specs.Scalars.{Scalars, IsScalars, dummy_decl, wide_decl, number, source_unit, wide_unit}
use Rattle.column_scalars.proofs.MemberCases.{contains_first, contains_later}
use Rattle.column_scalars.proofs.Naming.{column_name, upper_name}

abbrev pub held : Text → Bounds → List Value → Held
held x bounds values = record { key = record { of_module = None; name = x }; cells = record { kind = I4; bounds = bounds; values = values } }

-- these dummies with their values in all columns, the upper bound, and variables of modules
abbrev pub frame_of : ℤ × ℤ → List (Text × List Value) → Text → ℤ → Frame → Frame
frame_of b [] upper n modules = held upper [] (Whole n ∷ []) ∷ modules
frame_of b (d ∷ ds) upper n modules = held d.0 (b ∷ []) d.1 ∷ frame_of b ds upper n modules

abbrev pub named_by : List (Text × List Value) → List Text
named_by ds = map (λ d. d.0) ds

pub record Shape (p : Program) (upper : Text) (xs : List Text) (b : ℤ × ℤ) (wide : Frame) : Type 0 where
  pub cells : List (Text × List Value)
  pub bound : ℤ
  pub names : named_by cells ≡ xs
  pub modules : Frame
  pub whole : wide ≡ frame_of b cells upper bound modules
  pub others : FitModules p (module_variables p) modules
  pub fits : in_kind I4 bound ≡ true

held_upper : (known : Text → Option ℤ) (x : Text) (key : Key) (kind : Kind) (bounds : Bounds) (values : List Value) → key ≡ record { of_module = None; name = x } → kind ≡ I4 → FitsDimensions known [] bounds → length values ≡ length (places bounds) → AllFit I4 values → AreDefined values → (n : ℤ) × (record { key = key; cells = record { kind = kind; bounds = bounds; values = values } } ≡ held x [] (Whole n ∷ [])) × (in_kind I4 n ≡ true)
held_upper known x key kind (b ∷ bs) values k e f l a d = absurd f
held_upper known x key kind [] [] k e f l a d = absurd (omega arith)
held_upper known x key kind [] (Undefined ∷ vs) k e f l a d = absurd d
held_upper known x key kind [] (Truth b ∷ vs) k e f l a d = absurd (false≢true a.0)
held_upper known x key kind [] (Whole n ∷ v ∷ vs) k e f l a d = absurd (omega arith)
held_upper known x key kind [] (Whole n ∷ []) k e f l a d = (n, (λ i. record { key = k i; cells = record { kind = e i; bounds = []; values = Whole n ∷ [] } }), a.0)

held_wide : (known : Text → Option ℤ) (x : Text) (columns : ℤ × ℤ) (d : Dimension) (key : Key) (kind : Kind) (bounds : Bounds) (values : List Value) → key ≡ record { of_module = None; name = x } → kind ≡ I4 → FitsWide known (Some 0) columns (d ∷ []) bounds → record { key = key; cells = record { kind = kind; bounds = bounds; values = values } } ≡ held x (raised_upper columns ∷ []) values
held_wide known x columns d key kind [] values k e f = absurd f
held_wide known x columns d key kind (b ∷ c ∷ bs) values k e f = absurd f.1
held_wide known x columns d key kind (b ∷ []) values k e f = λ i. record { key = k i; cells = record { kind = e i; bounds = f.0 i ∷ []; values = values } }

module _ (p : Program) (u : Scalars) (w : IsScalars u) (frame : Frame) (bounds : ℤ × ℤ) where
  abbrev columns : ColumnDimension
  columns = record { place = column_place (source_unit u); bounds = bounds }

  abbrev dummy_here : Text → Dummy
  dummy_here x = dummy_of (wide_unit u) x (decl_named (wide_unit u).decls x)

  abbrev Fits : Text → Held → Type 0
  Fits x h = FitsDummy p (wide_unit u) frame columns (dummy_here x) (decl_named (wide_unit u).decls (dummy_here x).name) h

  -- with the declaration of the name in place
  settled : (x : Text) (d : Decl) (h : Held) → decl_named (wide_unit u).decls x ≡ Some d → Fits x h → FitsDummy p (wide_unit u) frame columns (dummy_of (wide_unit u) x (Some d)) (Some d) h
  settled x d h e f =
      subst (λ o. FitsDummy p (wide_unit u) frame columns (dummy_of (wide_unit u) x (Some d)) o h) e
      (subst (λ o. FitsDummy p (wide_unit u) frame columns (dummy_of (wide_unit u) x o) (decl_named (wide_unit u).decls (dummy_of (wide_unit u) x o).name) h) e f)

  upper_entry : (h : Held) → Fits u.upper h → (n : ℤ) × (h ≡ held u.upper [] (Whole n ∷ [])) × (in_kind I4 n ≡ true)
  upper_entry h f =
      let t = upper_name u w in
      let g = settled u.upper (dummy_decl u.upper In) h t.wide f in
      let c = subst (λ k. FitsDecl (known_in_unit p (wide_unit u) (given_by_frame frame).value) k bounds (dummy_decl u.upper In) h.cells) t.place g.1 in
      let d = subst (λ k. IsGiven (is_none k && true) h.cells.values) t.place g.2 in
      held_upper (known_in_unit p (wide_unit u) (given_by_frame frame).value) u.upper h.key h.cells.kind h.cells.bounds h.cells.values g.0 c.kind c.bounds c.whole c.values d

  dummy_entry : (x : Text) (h : Held) → Contains u.dummies x → Fits x h → h ≡ held x (raised_upper bounds ∷ []) h.cells.values
  dummy_entry x h m f =
      let t = column_name u w x m in
      let g = settled x (wide_decl u.lower u.upper (x, t.intent)) h t.wide f in
      let c = subst (λ k. FitsDecl (known_in_unit p (wide_unit u) (given_by_frame frame).value) k bounds (wide_decl u.lower u.upper (x, t.intent)) h.cells) t.place g.1 in
      held_wide (known_in_unit p (wide_unit u) (given_by_frame frame).value) x bounds (record { lower = Some (number u.lower); upper = Some (Name u.upper) }) h.key h.cells.kind h.cells.bounds h.cells.values g.0 c.kind c.bounds

  shape_among : (xs : List Text) → ((x : Text) → Contains xs x → Contains u.dummies x) → (hs : Frame) → FitDummies p (wide_unit u) frame columns (map dummy_here (xs ++ u.upper ∷ [])) hs (FitModules p (module_variables p)) → Shape p u.upper xs (raised_upper bounds) hs
  shape_among [] m [] f = absurd f
  shape_among [] m (h ∷ hs) f = let t = upper_entry h f.0 in record { cells = []; bound = t.0; names = refl; modules = hs; whole = ap (λ k. k ∷ hs) t.1; others = f.1; fits = t.2 }
  shape_among (x ∷ xs) m [] f = absurd f
  shape_among (x ∷ xs) m (h ∷ hs) f =
      let e = dummy_entry x h (m x (contains_first x x xs refl)) f.0 in
      let t = shape_among xs (λ y t. m y (contains_later x xs y t)) hs f.1 in
      record { cells = (x, h.cells.values) ∷ t.cells; bound = t.bound; names = ap (λ l. x ∷ l) t.names; modules = t.modules; whole = ap₂ (λ k l. k ∷ l) e t.whole; others = t.others; fits = t.fits }

pub shape_of : (p target : Program) (u : Scalars) → IsScalars u → (wide : Frame) → WellTyped target (wide_unit u) (column_dimension p (source_unit u) wide) wide → Shape target u.upper u.dummies (raised_upper (lower_column (source_unit u), upper_column p (source_unit u) wide)) wide
shape_of p target u w wide f = shape_among target u w wide (lower_column (source_unit u), upper_column p (source_unit u) wide) u.dummies (λ x t. t) wide f
