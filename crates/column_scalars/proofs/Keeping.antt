-- What a unit of column scalars and its unit for all columns keep in their programs, from what their statements do.
use Rattle.std.proofs.Common.{◌≡◌, ◌↔◌, ℕ, zero, suc, ℤ, pos, ◌<ℤ◌, ◌≤ℤ◌, refl, ap, sym, subst, ◌∙◌, List, [], ◌∷◌, Contains, Option, Some, None, true, slice_get, map}
use Rattle.std.specs.Prelude.{if◌then◌else◌, ◌&&◌}
use Rattle.std.specs.Option.{option_map}
use Rattle.std.specs.Str.{bytes_eq}
use Rattle.std.proofs.lemmas.Bool.{false≢true}
use Rattle.std.proofs.lemmas.Int.{by_lt_z}
use Rattle.fort_arith.specs.declared.kind.Kind.TheVariants.{I4}
use Rattle.fort_arith.specs.Range.{in_kind}
use Rattle.courses.specs.Element.{Value, Undefined, Whole, Element, Store}
use Rattle.courses.specs.Frames.{look, IsFrame}
use Rattle.courses.specs.Course.{Normal, Returns}
use Rattle.courses.specs.Plans.{Plan, Up, orders_of}
use Rattle.courses.specs.Ranges.{wholes}
use Rattle.claw_meaning.specs.Syntax.{Text, Unit, Program}
use Rattle.claw_meaning.specs.Units.{callees, is_column_unit, constant_whole, or_number, raised_upper}
use Rattle.claw_meaning.specs.Frames.{Frame, entries, with_store, given_by_frame, started, is_out_decl, whole_held, cells_of, FitModules, module_variables}
use Rattle.claw_meaning.specs.Runs.{exec}
use Rattle.claw_meaning.specs.Columns.{first_known, upper_column, column_run, joined, held_at}
use Rattle.claw_meaning.specs.Kept.{KeepsColumns, KeepsColumnUnit, Kept}
use Rattle.column_scalars.specs.Scalars.{Scalars, IsScalars, Distinct, dummy_decl, source_unit, wide_unit, program_of}
use Rattle.column_scalars.specs.Standing.{StandsIn, DeclareOnce}
use Rattle.column_scalars.specs.Model.{scalar_of, cell_of, ran, ran_all, SourceDoes, WideDoes, WideDoesSo, AreColumns, Columnwise, AreColumnwise}
use Rattle.column_scalars.proofs.MemberCases.{contains_none, same_itself, names_apart}
use Rattle.column_scalars.proofs.Naming.{column_name, upper_name, stands_alone}
use Rattle.column_scalars.proofs.ModuleVariables.{OfModules, of_modules, are_frame, variables_once, variables_elsewhere, elsewhere, given_back}
use Rattle.column_scalars.proofs.WideFrames.{frame_of, named_by, shape_of}
use Rattle.column_scalars.proofs.Slices.{slice_of, upper_held, look_upper, look_column, look_behind, look_left, slice_is, joined_is}
use Rattle.column_scalars.proofs.UnitRuns.{run_ends, no_column, raised_columns}

none_some : {A : Type 0} (a : A) → Some a ≡ None → ⊥
none_some a e = cc

some_is : {A : Type 0} (a b : A) → Some a ≡ Some b → a ≡ b
some_is a b e = cc

mapped_none : {A B : Type 0} (f : A → B) (r : Option A) → option_map f r ≡ None → r ≡ None
mapped_none f None e = refl
mapped_none f (Some a) e = absurd (none_some (f a) e)

mapped_some : {A B : Type 0} (f : A → B) (r : Option A) (b : B) → option_map f r ≡ Some b → (a : A) × (r ≡ Some a) × (f a ≡ b)
mapped_some f None b e = absurd (none_some b (sym e))
mapped_some f (Some a) b e = (a, refl, some_is (f a) b e)

-- the traps and the ends of a run for these columns
abbrev Keeps : Program → Program → Scalars → Plan → Frame → List ℤ → Type 0
Keeps source target u plan wide cs =
    (((exec target (wide_unit u) wide plan).end ≡ None) ↔ ((c : ℤ) × Contains cs c × ((column_run source (source_unit u) wide c).end ≡ None)))
    × ((last : Frame) → (exec target (wide_unit u) wide plan).end ≡ Some last → (each : ℤ → Frame) → ((c : ℤ) → Contains cs c → (column_run source (source_unit u) wide c).end ≡ Some (each c)) → last ≡ joined (source_unit u) wide each)

-- the upper bound is what the input's last dummy holds
upper_is : (source : Program) (u : Scalars) → StandsIn source u → (b : ℤ × ℤ) (ds : List (Text × List Value)) (n : ℤ) (modules : Frame) → (Contains (named_by ds) u.upper → ⊥) → upper_column source (source_unit u) (frame_of b ds u.upper n modules) ≡ n
upper_is source u stands b ds n modules a =
    ap (λ e. or_number (pos 0) (first_known (constant_whole e) (whole_held (cells_of (frame_of b ds u.upper n modules) u.upper)))) stands.upper
    ∙ ap (or_number (pos 0)) (upper_held b ds u.upper n modules a)

module _ (source target : Program) (u : Scalars) (w : IsScalars u) (stands : StandsIn source u) (does : SourceDoes u) (wide_does : WideDoesSo u) (columnwise : AreColumnwise u) (plan : Plan)
    (ds : List (Text × List Value)) (n : ℤ) (modules : Frame) (of : OfModules u.name modules) (whole : IsFrame (entries u.name modules)) (names : named_by ds ≡ u.dummies) (fits : in_kind I4 n ≡ true) where
  abbrev bounds : ℤ × ℤ
  bounds = raised_upper (pos u.lower, n)

  abbrev wide : Frame
  wide = frame_of bounds ds u.upper n modules

  abbrev all : List ℤ
  all = wholes (pos u.lower) n

  abbrev start : Store
  start = started (wide_unit u) wide

  abbrev column_start : ℤ → Store
  column_start c = started (source_unit u) (slice_of bounds c ds modules)

  dummy_named : (x : Text) → Contains (named_by ds) x → Contains u.dummies x
  dummy_named x t = subst (λ l. Contains l x) names t

  named_dummy : (x : Text) → Contains u.dummies x → Contains (named_by ds) x
  named_dummy x t = subst (λ l. Contains l x) (sym names) t

  upper_apart : Contains (named_by ds) u.upper → ⊥
  upper_apart t = w.upper (dummy_named u.upper t)

  -- Where the runs start

  starts_upper : start (scalar_of u.name u.upper) ≡ Whole n
  starts_upper = rw (same_itself u.name, (upper_name u w).wide) (look_upper u.name bounds ds u.upper n modules upper_apart)

  start_columns : AreColumns u all start column_start
  start_columns c t x m =
      let q = column_name u w x m in
      rw (q.source, q.wide) (ap (λ v. if bytes_eq u.name u.name && is_out_decl (Some (dummy_decl x q.intent)) then Undefined else v) (look_column u.name bounds c ds u.upper n modules of x (λ e. w.upper (subst (Contains u.dummies) (sym e) m))))

  starts_behind : (e : Element) → (e.home ≡ u.name → ⊥) → start e ≡ look (entries u.name modules) e
  starts_behind e far = rw (names_apart e.home u.name far) (look_behind u.name bounds ds u.upper n modules e far)

  -- a store that differs in the unit's own elements alone shows the module variables as they were
  modules_stay : (t : Store) → ((e : Element) → (e.home ≡ u.name → ⊥) → t e ≡ start e) → with_store u.name modules t ≡ modules
  modules_stay t h = given_back u.name modules t whole (λ e i. let far = elsewhere u.name modules of e i in h e far ∙ starts_behind e far)

  alone : Columnwise u all start column_start
  alone = columnwise n start column_start start_columns

  wide_so : WideDoes u target (callees target) (given_by_frame wide) n (orders_of plan) start 0
  wide_so = wide_does target (callees target) (given_by_frame wide) n (orders_of plan) start 0 (upper_held bounds ds u.upper n modules upper_apart) fits starts_upper

  -- Where they end

  column_ends : (c : ℤ) → (column_run source (source_unit u) wide c).end ≡ option_map (with_store u.name (slice_of bounds c ds modules)) (ran (scalar_of u.name) u.assigned (column_start c))
  column_ends c =
      ap (λ f. (exec source (source_unit u) f Up).end) (slice_is source u w stands bounds n modules of c ds dummy_named)
      ∙ run_ends source (source_unit u) (slice_of bounds c ds modules) Up Normal (ran (scalar_of u.name) u.assigned (column_start c)) (does source (callees source) (given_by_frame (slice_of bounds c ds modules)) (orders_of Up) (column_start c) 0)

  none_end : n <ℤ pos u.lower → (exec target (wide_unit u) wide plan).end ≡ Some (with_store u.name wide start)
  none_end h = run_ends target (wide_unit u) wide plan Returns (Some start) (wide_so.none h)

  some_end : pos u.lower ≤ℤ n → (exec target (wide_unit u) wide plan).end ≡ option_map (with_store u.name wide) (ran_all u.name u.id u.assigned all start)
  some_end h = run_ends target (wide_unit u) wide plan Normal (ran_all u.name u.id u.assigned all start) (wide_so.some h)

  in_range : (c : ℤ) → Contains (wholes bounds.0 bounds.1) c → Contains all c
  in_range c t = subst (λ l. Contains l c) (raised_columns (pos u.lower) n) t

  -- No column

  keeps_none : n <ℤ pos u.lower → Keeps source target u plan wide all
  keeps_none h = ((traps, no_trap), ends)
    where
      none_here : (c : ℤ) → Contains all c → ⊥
      none_here c t = contains_none c (subst (λ l. Contains l c) (no_column (pos u.lower) n h) t)

      traps : (exec target (wide_unit u) wide plan).end ≡ None → (c : ℤ) × Contains all c × ((column_run source (source_unit u) wide c).end ≡ None)
      traps e = absurd (none_some (with_store u.name wide start) (sym (none_end h) ∙ e))

      no_trap : ((c : ℤ) × Contains all c × ((column_run source (source_unit u) wide c).end ≡ None)) → (exec target (wide_unit u) wide plan).end ≡ None
      no_trap t = absurd (none_here t.0 t.1)

      ends : (last : Frame) → (exec target (wide_unit u) wide plan).end ≡ Some last → (each : ℤ → Frame) → ((c : ℤ) → Contains all c → (column_run source (source_unit u) wide c).end ≡ Some (each c)) → last ≡ joined (source_unit u) wide each
      ends last e each f =
          some_is last (with_store u.name wide start) (sym e ∙ none_end h)
          ∙ joined_is source u w stands bounds n modules of ds start each dummy_named starts_upper (modules_stay start (λ e far. refl)) (λ c t x m. absurd (none_here c (in_range c t)))

  -- Some columns

  keeps_some : pos u.lower ≤ℤ n → Keeps source target u plan wide all
  keeps_some h = ((traps, trapped), ends)
    where
      traps : (exec target (wide_unit u) wide plan).end ≡ None → (c : ℤ) × Contains all c × ((column_run source (source_unit u) wide c).end ≡ None)
      traps e =
          let t = alone.trapped (mapped_none (with_store u.name wide) (ran_all u.name u.id u.assigned all start) (sym (some_end h) ∙ e)) in
          (t.0, t.1, column_ends t.0 ∙ ap (option_map (with_store u.name (slice_of bounds t.0 ds modules))) t.2)

      trapped : ((c : ℤ) × Contains all c × ((column_run source (source_unit u) wide c).end ≡ None)) → (exec target (wide_unit u) wide plan).end ≡ None
      trapped t =
          let r = mapped_none (with_store u.name (slice_of bounds t.0 ds modules)) (ran (scalar_of u.name) u.assigned (column_start t.0)) (sym (column_ends t.0) ∙ t.2) in
          some_end h ∙ ap (option_map (with_store u.name wide)) (alone.traps t.0 t.1 r)

      ends : (last : Frame) → (exec target (wide_unit u) wide plan).end ≡ Some last → (each : ℤ → Frame) → ((c : ℤ) → Contains all c → (column_run source (source_unit u) wide c).end ≡ Some (each c)) → last ≡ joined (source_unit u) wide each
      ends last e each f =
          let t = mapped_some (with_store u.name wide) (ran_all u.name u.id u.assigned all start) last (sym (some_end h) ∙ e) in
          sym t.2 ∙ joined_is source u w stands bounds n modules of ds t.0 each dummy_named (upper_stays t.0 t.1) (modules_stay t.0 (λ e far. alone.stays t.0 t.1 e (λ c x k m p. far (ap (λ i. i.home) p)) (λ p. far (ap (λ i. i.home) p)))) (λ c k x m. left t.0 t.1 c (in_range c k) x m)
        where
          upper_stays : (t : Store) → ran_all u.name u.id u.assigned all start ≡ Some t → t (scalar_of u.name u.upper) ≡ Whole n
          upper_stays t q = alone.stays t q (scalar_of u.name u.upper) (λ c x k m p. no_subscript (ap (λ i. i.index) p)) (λ p. w.apart (sym (ap (λ i. i.name) p))) ∙ starts_upper
            where
              no_subscript : {c : ℤ} → [] ≡ c ∷ [] → ⊥
              no_subscript p = cc

          left : (t : Store) → ran_all u.name u.id u.assigned all start ≡ Some t → (c : ℤ) → Contains all c → (x : Text) → Contains (named_by ds) x → t (cell_of u.name c x) ≡ held_at (source_unit u) (each c) x []
          left t q c k x m =
              let r = mapped_some (with_store u.name (slice_of bounds c ds modules)) (ran (scalar_of u.name) u.assigned (column_start c)) (each c) (sym (column_ends c) ∙ f c k) in
              alone.ends t q c k r.0 r.1 x (dummy_named x m)
              ∙ sym (look_left u.name bounds c ds modules r.0 x m)
              ∙ ap (λ g. held_at (source_unit u) g x []) r.2

  keeps_all : Keeps source target u plan wide all
  keeps_all = by_lt_z n (pos u.lower) keeps_none keeps_some

  keeps_wide : KeepsColumns source target (source_unit u) (wide_unit u) plan wide
  keeps_wide =
      let t = subst (Keeps source target u plan wide) (sym (ap (wholes (pos u.lower)) (upper_is source u stands bounds ds n modules upper_apart))) keeps_all in
      record { traps = t.0; ends = t.1 }

-- the variables of a target's modules, where they are the source's
module _ (source target : Program) (u : Scalars) (stands : StandsIn source u) (same : target.modules ≡ source.modules) (hs : Frame) (f : FitModules target (module_variables target) hs) where
  owners_apart : Distinct (u.name ∷ map (λ m. m.name) target.modules)
  owners_apart = subst (λ ms. Distinct (u.name ∷ map (λ m. m.name) ms)) (sym same) stands.names

  of_others : OfModules u.name hs
  of_others = of_modules target u.name (module_variables target) hs (variables_elsewhere u.name target owners_apart.0) f

  whole_frame : IsFrame (entries u.name hs)
  whole_frame = are_frame target u.name (module_variables target) hs (variables_once target owners_apart.1 (subst DeclareOnce (sym same) stands.declared)) f

pub keeps_unit : (u : Scalars) → IsScalars u → SourceDoes u → WideDoesSo u → AreColumnwise u → (source target : Program) → StandsIn source u → target.modules ≡ source.modules → (plan : Plan) → KeepsColumnUnit source target (source_unit u) (wide_unit u) plan
keeps_unit u w does wide_does columnwise source target stands same plan wide typed small =
    let t = shape_of source target u w wide typed in
    let apart : Contains (named_by t.cells) u.upper → ⊥ = λ k. w.upper (subst (λ l. Contains l u.upper) t.names k) in
    let upper : upper_column source (source_unit u) wide ≡ t.bound =
    ap (upper_column source (source_unit u)) t.whole ∙ upper_is source u stands (raised_upper (pos u.lower, upper_column source (source_unit u) wide)) t.cells t.bound t.modules apart in
    let is : wide ≡ frame_of (raised_upper (pos u.lower, t.bound)) t.cells u.upper t.bound t.modules =
    t.whole ∙ ap (λ m. frame_of (raised_upper (pos u.lower, m)) t.cells u.upper t.bound t.modules) upper in
    subst (KeepsColumns source target (source_unit u) (wide_unit u) plan) (sym is)
    (keeps_wide source target u w stands does wide_does columnwise plan t.cells t.bound t.modules (of_others source target u stands same t.modules t.others) (whole_frame source target u stands same t.modules t.others) t.names t.fits)

one_unit : (v x : Unit) (i : ℕ) → slice_get (v ∷ []) i ≡ Some x → (i ≡ 0) × (v ≡ x)
one_unit v x zero e = (refl, some_is v x e)
one_unit v x (suc i) e = absurd (none_some x (sym e))

-- the programs of the one unit
pub keeps_columns_from : (u : Scalars) → IsScalars u → SourceDoes u → WideDoesSo u → AreColumnwise u → (plan : Plan) → Kept (program_of (source_unit u)) (program_of (wide_unit u)) plan
keeps_columns_from u w does wide_does columnwise plan =
    let source : Program = program_of (source_unit u) in
    let target : Program = program_of (wide_unit u) in
    record {
      columns = λ i v t a b q.
          subst (λ x. KeepsColumnUnit source target x t plan) (one_unit (source_unit u) v i a).1
          (subst (λ x. KeepsColumnUnit source target (source_unit u) x plan) (one_unit (wide_unit u) t i b).1 (keeps_unit u w does wide_does columnwise source target (stands_alone u w) refl plan));
      others = λ i v t a b q. absurd (false≢true (sym q ∙ sym (ap is_column_unit (one_unit (source_unit u) v i a).1)));
    }
