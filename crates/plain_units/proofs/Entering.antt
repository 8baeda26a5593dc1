-- What the names of a plain unit mean in the target, and what the unit does there when it is called.
use Rattle.std.proofs.Common.{◌≡◌, ℕ, zero, suc, ℤ, refl, ap, sym, ◌∙◌, subst, List, [], ◌∷◌, map, false, Option, Some, None}
use Rattle.std.specs.Prelude.{if◌then◌else◌, ◌&&◌}
use Rattle.std.specs.List.{IsDistinct}
use Rattle.std.specs.Str.{bytes_eq}
use Rattle.std.proofs.lemmas.Bool.{false≢true}
use mathlib.Core.Path.{ap₂, fun_ext}
use Rattle.fort_arith.specs.declared.kind.Kind.{Kind}
use Rattle.fort_arith.specs.declared.kind.Kind.TheVariants.{I4}
use Rattle.fort_tree.specs.declared.unit.Intent.TheVariants.{In}
use Rattle.courses.specs.Element.{Element, nobody}
use Rattle.courses.specs.Course.{Sort, Item, Many, Way, Course, Fail, and_then}
use Rattle.claw_meaning.specs.Syntax.{Text, Decl, Stmts, Unit, Program}
use Rattle.claw_meaning.specs.Scope.{Entity, Unknown, Variable, Constant, Procedure, decl_named, visible, unit_named}
use Rattle.claw_meaning.specs.Scene.{Meant, Held, Called, Dummy, Passed, Callee, Scene}
use Rattle.claw_meaning.specs.Statements.{meanings}
use Rattle.claw_meaning.specs.Dependence.{called_in, is_column_called}
use Rattle.claw_meaning.specs.Units.{is_column_unit, is_column_of, is_listed, data_of, directive_of, is_word_parallelize, is_array_decl, intent_or_in, dummy_of, dummies_of, declared_bounds, constant_whole, known_in_module, known_here, known_in_unit, Given, bounds_from, meant_by, scene_of, given_by_actuals, own_elements, fits, copied_in, given_out, results_of, with_all, making, body_course, entered, callee_of, no_callee, callee_or_none, callees_to}
use Rattle.plain_units.specs.Regrouped.{regrouped}
use Rattle.plain_units.specs.Calling.{unit_run, runs_column}
use Rattle.plain_units.specs.Translated.{IsPlain}
use Rattle.plain_units.proofs.Alike.{Alike, gives, fails, tells_left, tells_right, alike_then}
use Rattle.plain_units.proofs.Parts.{AlikeCallees, callees, if_alike, with_values_alike, stored_alike}
use Rattle.plain_units.proofs.Trees.{meanings_alike, both_false}
use Rattle.plain_units.proofs.Seeing.{plain_row, column_row, Rows, Found, neither, two, SameEntity, unknown, variable, constant, procedure, row_name, row_kind, same_decl, target, found_named, module_same, visible_same}

-- Dummies

plain_dummy : (u : Unit) (x : Text) → is_column_unit u ≡ false → (d : Option Decl) → dummy_of (regrouped u) x d ≡ dummy_of u x d
plain_dummy u x e None = ap (λ b. record { name = x; kind = I4; intent = In; is_array = false; is_column = b && (is_listed u.dummies x && is_column_of (data_of (directive_of is_word_parallelize u.marks)) u x) }) (sym e)
plain_dummy u x e (Some d) = ap (λ b. record { name = x; kind = d.kind; intent = intent_or_in d.intent; is_array = is_array_decl d; is_column = b && (is_listed u.dummies x && is_column_of (data_of (directive_of is_word_parallelize u.marks)) u x) }) (sym e)

pub same_dummies : (u : Unit) → is_column_unit u ≡ false → IsDistinct bytes_eq (map (λ d. d.name) u.decls) → dummies_of (regrouped u) ≡ dummies_of u
same_dummies u e h = ap (λ f. map f u.dummies) (fun_ext (λ x. ap (dummy_of (regrouped u) x) (same_decl u x e h) ∙ plain_dummy u x e (decl_named u.decls x)))

-- What a run of a unit does with what names mean in it

abbrev outs : Scene → List Dummy → Option Text → List Element
outs c ds None = given_out c ds
outs c ds (Some result) = own_elements c result

abbrev entering : (Given → Course Way → Course Way) → (Given → Text → Meant) → (Text → Callee) → Stmts → Option Text → List Dummy → List Passed → Course (Many Item)
entering made meant callee body result ds ps =
    let given = given_by_actuals ds ps in
    let c : Scene = record { meant = meant given; callee = callee } in
    if fits c ds ps then copied_in c ds ps (and_then (made given (meanings c body)) (λ g. with_all (outs c ds result))) else Fail

outs_are : (c : Scene) (u : Unit) (result : Option Text) → results_of c u result ≡ outs c (dummies_of u) result
outs_are c u None = refl
outs_are c u (Some result) = refl

abbrev meaning_in : Program → Unit → Given → Text → Meant
meaning_in p u given x = meant_by p u given (visible p u x)

abbrev made_in : Program → Unit → Given → Course Way → Course Way
made_in p u given r = making p u given u.decls r

entered_is : (p : Program) (callee : Text → Callee) (u : Unit) (ps : List Passed) → entered p callee u ps ≡ entering (made_in p u) (meaning_in p u) callee u.body u.result (dummies_of u) ps
entered_is p callee u ps =
    let given = given_by_actuals (dummies_of u) ps in
    let c = scene_of p callee u given in
    ap (λ es. if fits c (dummies_of u) ps then copied_in c (dummies_of u) ps (and_then (body_course p callee u given) (λ g. with_all es)) else Fail) (outs_are c u u.result)

pub making_left : {k : Sort} (p : Program) (u : Unit) (given : Given) (ds : List Decl) (r q : Course k) → Alike k r q → Alike k (making p u given ds r) q
making_left p u given [] r q h = h
making_left p u given (d ∷ ds) r q h = tells_left _ _ q (making_left p u given ds r q h)

pub making_right : {k : Sort} (p : Program) (u : Unit) (given : Given) (ds : List Decl) (r q : Course k) → Alike k r q → Alike k r (making p u given ds q)
making_right p u given [] r q h = h
making_right p u given (d ∷ ds) r q h = tells_right _ r _ (making_right p u given ds r q h)

module _ (m : Text → Meant) (f f' : Text → Callee) where
  copied_alike : {k : Sort} (ds : List Dummy) (ps : List Passed) (r q : Course k) → Alike k r q → Alike k (copied_in (record { meant = m; callee = f }) ds ps r) (copied_in (record { meant = m; callee = f' }) ds ps q)
  copied_alike [] ps r q h = h
  copied_alike (d ∷ ds) [] r q h = h
  copied_alike (d ∷ ds) (p ∷ ps) r q h = stored_alike (own_elements (record { meant = m; callee = f }) d.name) p.values _ _ (copied_alike ds ps r q h)

entering_alike : (made made' : Given → Course Way → Course Way) (meant : Given → Text → Meant) (f f' : Text → Callee) (body : Stmts) (result : Option Text) (ds : List Dummy) (ps : List Passed)
    → ((given : Given) → Alike Way (made given (meanings (record { meant = meant given; callee = f }) body)) (made' given (meanings (record { meant = meant given; callee = f' }) body)))
    → Alike (Many Item) (entering made meant f body result ds ps) (entering made' meant f' body result ds ps)
entering_alike made made' meant f f' body result ds ps h =
    let given = given_by_actuals ds ps in
    let c : Scene = record { meant = meant given; callee = f } in
    if_alike (fits c ds ps) _ _ _ _
    (copied_alike (meant given) f f' ds ps _ _ (alike_then _ _ _ _ (h given) (λ g. with_values_alike (outs c ds result) _ _ (λ vs. gives {k = Many Item} vs))))
    fails

module _ (p : Program) (ts : List Unit) (rows : Rows p p.units ts) where
  abbrev q : Program
  q = target p ts rows

  -- What names mean

  constant_same : (a b : Entity) → SameEntity p a b → constant_whole a ≡ constant_whole b
  constant_same _ _ unknown = refl
  constant_same _ _ (variable home d) = refl
  constant_same _ _ (constant d) = refl
  constant_same _ _ (procedure r) = refl

  module_known : (m : Text) → known_in_module p m ≡ known_in_module q m
  module_known m = fun_ext (λ x. constant_same _ _ (module_same p ts rows m x))

  here_same : (values : Text → Option ℤ) (x : Text) (a b : Entity) → SameEntity p a b → known_here values a x ≡ known_here values b x
  here_same values x _ _ unknown = refl
  here_same values x _ _ (variable home d) = refl
  here_same values x _ _ (constant d) = refl
  here_same values x _ _ (procedure r) = refl

  module _ (u : Unit) (e : is_column_unit u ≡ false) (h : IsPlain p u) where
    unit_known : (values : Text → Option ℤ) → known_in_unit p u values ≡ known_in_unit q (regrouped u) values
    unit_known values = fun_ext (λ x. here_same values x _ _ (visible_same p ts rows u x e h))

    entity_meant : (given : Given) (a b : Entity) → SameEntity p a b → meant_by p u given a ≡ meant_by q (regrouped u) given b
    entity_meant given _ _ unknown = refl
    entity_meant given _ _ (variable home d) =
        ap₂ (λ k l. Held (record { home = home; name = d.name; kind = d.kind; bounds = bounds_from (if bytes_eq home u.name then declared_bounds k d.shape (given.extents d.name) else declared_bounds l d.shape []) })) (unit_known given.value) (module_known home)
    entity_meant given _ _ (constant d) = refl
    entity_meant given _ _ (procedure {u = v} {t = w} r) = ap₂ Called (sym (row_name p v w r)) (sym (row_kind p v w r))

    pub same_meaning : (given : Given) → meaning_in p u given ≡ meaning_in q (regrouped u) given
    same_meaning given = fun_ext (λ x. entity_meant given _ _ (visible_same p ts rows u x e h))

    -- a name that calls a unit calls one that runs
    run_is : (given : Given) (a : Entity) (unit : Text) (kind : Kind) → is_column_called (unit_run p a) ≡ false → meant_by p u given a ≡ Called unit kind → is_column_called (unit_named p unit) ≡ false
    run_is given Unknown unit kind k m = absurd (cc)
    run_is given (Variable home d) unit kind k m = absurd (cc)
    run_is given (Constant d) unit kind k m = absurd (cc)
    run_is given (Procedure v) unit kind k m = let n : v.name ≡ unit = cc in subst (λ x. is_column_called (unit_named p x) ≡ false) n k

    module _ (f f' : Text → Callee) (alike : (x : Text) → is_column_called (unit_named p x) ≡ false → AlikeCallees (f x) (f' x)) where
      both_made : (given : Given) → Alike Way (body_course p f u given) (made_in q (regrouped u) given (meanings (record { meant = meaning_in p u given; callee = f' }) u.body))
      both_made given =
          making_left p u given u.decls _ _
          (making_right q (regrouped u) given (regrouped u).decls _ _
          (meanings_alike (meaning_in p u given) f f' (λ x. runs_column p u x ≡ false) (λ x unit kind s m. alike unit (run_is given (visible p u x) unit kind (both_false (is_column_called (called_in p u x)) (is_column_called (unit_run p (visible p u x))) s).1 m)) u.body h.calls h.undirected.1))

      -- the statements of a plain unit, with what it makes before them
      pub body_alike : (given : Given) → Alike Way (body_course p f u given) (body_course q f' (regrouped u) given)
      body_alike given =
          subst (λ m. Alike Way (body_course p f u given) (made_in q (regrouped u) given (meanings (record { meant = m; callee = f' }) u.body))) (same_meaning given) (both_made given)

      entered_alike : (ps : List Passed) → Alike (Many Item) (entered p f u ps) (entered q f' (regrouped u) ps)
      entered_alike ps =
          subst (λ r. Alike (Many Item) r (entered q f' (regrouped u) ps)) (sym (entered_is p f u ps))
          (subst (λ r. Alike (Many Item) (entering (made_in p u) (meaning_in p u) f u.body u.result (dummies_of u) ps) r)
          (sym (entered_is q f' (regrouped u) ps ∙ ap₂ (λ ds m. entering (made_in q (regrouped u)) m f' u.body u.result ds ps) (same_dummies u e h.once) (fun_ext (λ given. sym (same_meaning given)))))
          (entering_alike (made_in p u) (made_in q (regrouped u)) (meaning_in p u) f f' u.body u.result (dummies_of u) ps both_made))

      callee_alike : AlikeCallees (callee_of p f u) (callee_of q f' (regrouped u))
      callee_alike =
          subst (λ ds. AlikeCallees (callee_of p f u) (record { dummies = ds; owns = λ x. bytes_eq x.home u.name; course = entered q f' (regrouped u) })) (sym (same_dummies u e h.once))
          (callees (dummies_of u) (λ x. bytes_eq x.home u.name) (entered p f u) (entered q f' (regrouped u)) entered_alike)

  -- The units as they are called

  none_alike : AlikeCallees no_callee no_callee
  none_alike = callees [] nobody _ _ (λ ps. fails)

  found_alike : (f f' : Text → Callee) → ((x : Text) → is_column_called (unit_named p x) ≡ false → AlikeCallees (f x) (f' x)) → (a b : Option Unit) → Found p a b → is_column_called a ≡ false → AlikeCallees (callee_or_none p f a) (callee_or_none q f' b)
  found_alike f f' alike _ _ neither k = none_alike
  found_alike f f' alike _ _ (two (plain_row {u} e h)) k = callee_alike u e h f f' alike
  found_alike f f' alike _ _ (two (column_row e a b c)) k = absurd (false≢true (sym k ∙ e))

  pub callees_alike : (depth : ℕ) (x : Text) → is_column_called (unit_named p x) ≡ false → AlikeCallees (callees_to p depth x) (callees_to q depth x)
  callees_alike zero x k = none_alike
  callees_alike (suc depth) x k = found_alike (callees_to p depth) (callees_to q depth) (callees_alike depth) (unit_named p x) (unit_named q x) (found_named p ts rows x) k
