-- What the search for the first token past a limit keeps, and where it ends.
use Rattle.std.proofs.Common.{◌≡◌, ℕ, ◌+◌, ◌<◌, ◌≤◌, Bool, true, false, List, [], ◌∷◌, ◌++◌, map, take, drop, length, Option, None, Some, refl, sym, ◌∙◌, ap, subst, inl, inr, append_assoc, below_more, arith}
use Rattle.std.specs.List.{slice_get}
use Rattle.std.proofs.lemmas.Bool.{true≢false, cases_lt}
use Rattle.std.proofs.lemmas.List.{take-take, take-append-drop}
use Rattle.std.proofs.lemmas.Option.{slice_get_within}
use Rattle.fort_tree.specs.declared.choice.Mode.{Mode}
use Rattle.fort_tree.specs.declared.choice.Mode.TheVariants.{Source, Target}
use Rattle.fort_tree.specs.declared.statement.Token.{Token}
use Rattle.fort_grammar.specs.declared.engine.Step.{Step}
use Rattle.fort_grammar.specs.declared.engine.Step.TheVariants as step
use Rattle.fort_grammar.specs.declared.table.Action.{Action}
use Rattle.fort_grammar.specs.declared.table.Symbol.{Symbol}
use Rattle.fort_grammar.specs.Engine as engine
use Rattle.fort_grammar.specs.First.{Good}
use Rattle.fort_grammar.specs.Reads.{Reads}
use Rattle.fort_grammar.specs.Token.{token_class}
use Rattle.fort_grammar.proofs.Productive.{derivable}
use Rattle.fort_grammar.proofs.Readings.{join, further, one-reading, relabelled, seen, unseen, unseen-reading}
use Rattle.fort_expr.specs.declared.value.Shape.{Shape}
use Rattle.fort_expr.specs.declared.value.Value.{Value}
use Rattle.fort_expr.specs.Closing.{Shaped}
use Rattle.fort_expr.specs.Faults.{depth_limit, token_limit, is_leaf}
use Rattle.fort_expr.specs.Shapes.{cap, shape, top_depth, shift_shape, apply_shape}
use Rattle.fort_expr.specs.Values.{shift, apply}
use Rattle.fort_expr.proofs.ShapeLemmas.{apply-shape}
use Rattle.fort_stmt.specs.declared.limits.Cut.{Cut}
use Rattle.fort_stmt.specs.declared.limits.Cut.TheVariants as cuts
use Rattle.fort_stmt.specs.declared.limits.Depths.{Depths}
use Rattle.fort_stmt.specs.declared.value.Draft.{Draft}
use Rattle.fort_stmt.specs.Cuts.{shift_depths, apply_depths, cut_of, JudgesCut, JudgesAt}
use Rattle.fort_stmt.specs.Faults.{Begins}
use Rattle.fort_stmt.specs.Form.{IsStatement}
use Rattle.fort_stmt.specs.Limits.{TooDeepAt, PastLimit, FirstPastLimit}
use Rattle.fort_stmt.specs.Machine.{start}
use Rattle.fort_stmt.specs.Values.{act_on, take_in, blank}
use Rattle.fort_stmt.proofs.Complete.{derives-form}
use Rattle.fort_stmt.proofs.Portions.{Located, found}
use Rattle.fort_stmt.proofs.Reached.{Judged, judged}
use Rattle.fort_stmt.proofs.Sound.{form-derived}
use Rattle.fort_stmt.proofs.Stops.{next-front}

abbrev no_depths : Depths
no_depths = record { shapes = [] }

abbrev Spelled : List Symbol → List Token → Depths → Depths → Type 0
Spelled = engine.Spelled Depths shift_depths apply_depths

abbrev Dead : Token → List Symbol → Depths → Type 0
Dead = engine.Dead Depths shift_depths apply_depths

abbrev pub Advances : Step → Token → List Symbol → Depths → List Symbol → Depths → Type 0
Advances = engine.Advances Depths shift_depths apply_depths

-- The tokens in front are read to this state, whatever stands behind them.
abbrev Read : List Token → List Symbol → Depths → Type 0
Read front s v = (z : List Token) → Reads Depths shift_depths apply_depths z s v start (front ++ z) no_depths

-- What is seen of values.

abbrev see : List Value → Depths
see v = record { shapes = map shape v }

sees-shift : (t : Token) (v : List Value) → see (shift t v) ≡ shift_depths t (see v)
sees-shift t v = refl

sees-apply : (x : Action) (v : List Value) → see (apply x v) ≡ apply_depths x (see v)
sees-apply x v = ap (λ k. let d : Depths = record { shapes = k } in d) (apply-shape x v)

values-read : {z w : List Token} {s : List Symbol} {v : Depths} → Reads Depths shift_depths apply_depths z s v start w no_depths →
    (k : List Value) × Reads (List Value) shift apply z s k start w [] × (see k ≡ v)
values-read r = unseen-reading (List Value) Depths shift apply shift_depths apply_depths see sees-shift sees-apply r [] refl

start-good : Good start
start-good = ((λ c h. absurd (true≢false (sym h))), tt)

limit-past : (mode : Mode) (d n : ℕ) → depth_limit mode < n → n ≡ cap d → depth_limit mode < d
limit-past Source d n h e = omega (arith, h, e)
limit-past Target d n h e = omega (arith, h, e)

limit-kept : (mode : Mode) (d n : ℕ) → n ≤ depth_limit mode → n ≡ cap d → depth_limit mode < d → ⊥
limit-kept Source d n h e k = omega (arith, h, e, k)
limit-kept Target d n h e k = omega (arith, h, e, k)

token-eq : (t x : Token) → Some t ≡ Some x → t ≡ x
token-eq t x h = cc

-- The code's judgement is right.

cut-deep : (mode : Mode) (tokens : List Token) (i : ℕ) (t : Token) (s : List Symbol) (v : Depths) (o : Option Cut) → slice_get tokens i ≡ Some t → is_leaf (token_class t) ≡ true →
    Read (take (i + 1) tokens) s v → cut_of s ≡ o → JudgesCut true mode o v.shapes → TooDeepAt mode tokens i
cut-deep mode tokens i t s v None g l r e j = absurd (true≢false j)
cut-deep mode tokens i t s v (Some cuts.Arguments) g l r e j = absurd (true≢false j)
cut-deep mode tokens i t s v (Some cuts.Close) g l r e j = absurd (true≢false j)
cut-deep mode tokens i t s v (Some cuts.Tail) g l r e j = absurd (true≢false j)
cut-deep mode tokens i t s v (Some (cuts.Portion c)) g l r e j =
    let closes = j.2 in
    let z = closes.some.0 in
    let k = values-read (r z) in
    let p = unseen (List Value) (List Shape) shift apply shift_shape apply_shape (λ q. map shape q) (λ x q. refl) apply-shape closes.some.3 k.0 (sym (ap (λ q. q.shapes) k.2)) in
    let f : Located z p.0 (take (i + 1) tokens ++ z) = found z k.0 p.0 closes.some.2 k.1 c e p.1 in
    record {
      token = t;
      at = g;
      leaf = l;
      portion = f.portion;
      first = f.first;
      others = f.others;
      closers = z;
      closing = closes.some.2;
      depth = f.depth;
      stands = f.stands;
      has_depth = f.has_depth;
      past = limit-past mode f.depth j.0 j.1 (sym (closes.all z closes.some.1 closes.some.2 closes.some.3) ∙ (ap top_depth (sym p.2) ∙ f.shaped));
    }

pub deep-at : (mode : Mode) (tokens : List Token) (i : ℕ) (t : Token) (s : List Symbol) (v : Depths) (b : Bool) → b ≡ true → slice_get tokens i ≡ Some t →
    Read (take (i + 1) tokens) s v → JudgesAt b mode (token_class t) s v.shapes → TooDeepAt mode tokens i
deep-at mode tokens i t s v b e g r j0 =
    let j = subst (λ q. JudgesAt q mode (token_class t) s v.shapes) e j0 in
    cut-deep mode tokens i t s v (cut_of s) g j.0 r refl j.1

pub not-deep-at : (mode : Mode) (tokens : List Token) (i : ℕ) (t : Token) (s : List Symbol) (v : Depths) (b : Bool) → b ≡ false → slice_get tokens i ≡ Some t →
    Read (take (i + 1) tokens) s v → JudgesAt b mode (token_class t) s v.shapes → TooDeepAt mode tokens i → ⊥
not-deep-at mode tokens i t s v b e g r j0 x =
    let j = subst (λ q. JudgesAt q mode (token_class t) s v.shapes) e j0 in
    let same : x.token ≡ t = token-eq x.token t (sym x.at ∙ g) in
    let w = take (i + 1) tokens ++ x.closers in
    let n : Judged x.closers w x.depth = judged x.closers x.first x.others w x.portion (x.first ∷ x.others ++ x.closers) x.depth refl x.stands x.has_depth in
    let k = values-read (r x.closers) in
    let one = one-reading (List Value) shift apply start-good k.1 n.read in
    let shapes : map shape n.values ≡ v.shapes = ap (λ q. map shape q) (sym one.1) ∙ ap (λ q. q.shapes) k.2 in
    let within = subst (λ o. JudgesCut false mode o v.shapes) (ap cut_of one.0 ∙ n.cut) (j (subst (λ q. is_leaf (token_class q) ≡ true) same x.leaf)) in
    let closed = subst (λ q. Shaped n.portion x.closers q (map shape n.after)) shapes (seen (List Value) (List Shape) shift apply shift_shape apply_shape (λ q. map shape q) (λ y q. refl) apply-shape n.closed) in
    limit-kept mode x.depth (top_depth (map shape n.after)) (within x.closers (map shape n.after) x.closing closed) n.shaped x.past

-- What is kept of the tokens that were taken.
pub record Kept (mode : Mode) (tokens : List Token) (i : ℕ) (s : List Symbol) (v : Depths) : Type 0 where
  pub good : Good s
  pub ahead : (w : List Token) (u : Depths) → Spelled start (take i tokens ++ w) no_depths u → Spelled s w v u
  pub reads : (z : List Token) (b : List Symbol) (w : List Token) (u : Depths) → Reads Depths shift_depths apply_depths z b u s w v → Reads Depths shift_depths apply_depths z b u start (take i tokens ++ w) no_depths
  pub clean : (j : ℕ) → j < i → PastLimit mode tokens j → ⊥

module _ (mode : Mode) (tokens : List Token) (i : ℕ) (t : Token) (s s1 : List Symbol) (v v1 : Depths) (g : slice_get tokens i ≡ Some t) (kept : Kept mode tokens i s v) where
  read-to : Advances step.Moved t s v s1 v1 → Read (take (i + 1) tokens) s1 v1
  read-to m z = subst (λ q. Reads Depths shift_depths apply_depths z s1 v1 start q no_depths) (sym (next-front tokens i t z g)) (kept.reads z s1 (t ∷ z) v1 (m.reads z))

  begins-read : Advances step.Moved t s v s1 v1 → Begins (take (i + 1) tokens)
  begins-read m =
      let d = derivable Depths shift_depths apply_depths s1 v1 in
      let r = relabelled Depths Draft shift_depths apply_depths take_in act_on (join Depths shift_depths apply_depths (read-to m d.0) d.2) blank in
      let q = form-derived (take (i + 1) tokens ++ d.0) blank r.0 r.1 in
      (d.0, q.0, q.1)

  not-begins : Dead t s v → Begins (take (i + 1) tokens) → ⊥
  not-begins a (z, form, d) =
      let u = derives-form d blank in
      let r = relabelled Draft Depths take_in act_on shift_depths apply_depths u.1 no_depths in
      a z r.0 (kept.ahead (t ∷ z) r.0 (subst (λ q. Spelled start q no_depths r.0) (next-front tokens i t z g) r.1))

  shorter : (j : ℕ) → i ≤ j → Begins (take (j + 1) tokens) → Begins (take (i + 1) tokens)
  shorter j l (z, form, d) =
      let front = take (j + 1) tokens in
      let e : take (i + 1) front ++ drop (i + 1) front ≡ front = take-append-drop (i + 1) front in
      let f : take (i + 1) front ≡ take (i + 1) tokens = take-take (i + 1) (j + 1) tokens (omega (arith, l)) in
      let h : front ++ z ≡ take (i + 1) tokens ++ (drop (i + 1) front ++ z) =
      ap (λ q. q ++ z) (sym e ∙ ap (λ q. q ++ drop (i + 1) front) f) ∙ append_assoc (take (i + 1) tokens) (drop (i + 1) front) z in
      (drop (i + 1) front ++ z, form, subst (λ q. IsStatement q form) h d)

  -- The exits.

  dead-exit : Dead t s v → FirstPastLimit mode tokens None
  dead-exit a j l b p = elim (cases_lt j i) [ inl h ↦ kept.clean j h p | inr h ↦ not-begins a (shorter j h b) ]

  pub whole-exit : (a : Step) → a ≡ step.Whole → Advances a t s v s1 v1 → FirstPastLimit mode tokens None
  whole-exit a e m = dead-exit (subst (λ q. Advances q t s v s1 v1) e m).0

  pub stuck-exit : (a : Step) → a ≡ step.Stuck → Advances a t s v s1 v1 → FirstPastLimit mode tokens None
  stuck-exit a e m = dead-exit (subst (λ q. Advances q t s v s1 v1) e m).0

  pub long-exit : (a : Step) → a ≡ step.Moved → token_limit mode ≤ i → Advances a t s v s1 v1 → FirstPastLimit mode tokens (Some i)
  long-exit a e l m = (slice_get_within tokens i t g, begins-read (subst (λ q. Advances q t s v s1 v1) e m), inl l, kept.clean)

  pub deep-exit : (a : Step) (b : Bool) → a ≡ step.Moved → b ≡ true → JudgesAt b mode (token_class t) s1 v1.shapes → Advances a t s v s1 v1 → FirstPastLimit mode tokens (Some i)
  deep-exit a b e f j m0 =
      let m = subst (λ q. Advances q t s v s1 v1) e m0 in
      (slice_get_within tokens i t g, begins-read m, inr (deep-at mode tokens i t s1 v1 b f g (read-to m) j), kept.clean)

  pub next-kept : (a : Step) (b : Bool) → a ≡ step.Moved → (token_limit mode ≤ i → ⊥) → b ≡ false → JudgesAt b mode (token_class t) s1 v1.shapes → Advances a t s v s1 v1 → Kept mode tokens (i + 1) s1 v1
  next-kept a b e l f j m0 =
      let m = subst (λ q. Advances q t s v s1 v1) e m0 in
      record {
        good = m.good;
        ahead = λ w u x. m.ahead w u (kept.ahead (t ∷ w) u (subst (λ q. Spelled start q no_depths u) (next-front tokens i t w g) x));
        reads = λ z b w u x. subst (λ q. Reads Depths shift_depths apply_depths z b u start q no_depths) (sym (next-front tokens i t w g)) (kept.reads z b (t ∷ w) u (further Depths shift_depths apply_depths (m.reads w) x));
        clean = below_more (λ k. PastLimit mode tokens k → ⊥) i kept.clean (limits m);
      }
    where
      limits : Advances step.Moved t s v s1 v1 → PastLimit mode tokens i → ⊥
      limits m (inl k) = l k
      limits m (inr k) = not-deep-at mode tokens i t s1 v1 b f g (read-to m) j k

pub end : (mode : Mode) (tokens : List Token) (i : ℕ) (s : List Symbol) (v : Depths) → length tokens ≤ i → Kept mode tokens i s v → FirstPastLimit mode tokens None
end mode tokens i s v l kept j h b p = kept.clean j (omega (arith, l, h)) p
