-- The steps of the engine, each as a lemma over the equations of its code.
use Rattle.std.proofs.Common.{◌≡◌, ◌<◌, List, [], ◌∷◌, ◌++◌, refl, sym, ◌∙◌, ap, subst, false, inl, inr, Option, None, Some}
use Rattle.fort_grammar.specs.declared.table.Action.{Action}
use Rattle.fort_grammar.specs.declared.class.Class.{Class}
use Rattle.fort_grammar.specs.declared.table.Part.{Part}
use Rattle.fort_grammar.specs.declared.table.Symbol.{Symbol}
use Rattle.fort_grammar.specs.declared.table.Symbol.TheVariants.{Take, Call, Build}
use Rattle.fort_tree.specs.declared.statement.Token.{Token}
use Rattle.fort_grammar.specs.Table.{Choice, table}
use Rattle.fort_grammar.specs.Choose.{same, chosen}
use Rattle.fort_grammar.specs.Derives.{done, take, build, row}
use Rattle.fort_grammar.specs.Reads as reading
use Rattle.fort_grammar.specs.First.{Good, cost}
use Rattle.fort_grammar.specs.Engine.{look_of}
use Rattle.std.proofs.lemmas.Bool.{eq-eqb, or_cases, true≢false}
use Rattle.fort_grammar.specs.declared.engine.Top.{Top}
use Rattle.fort_grammar.specs.declared.engine.Top.TheVariants as top
use Rattle.fort_grammar.specs.Class.{code}
use Rattle.fort_grammar.specs.Token.{token_class}
use Rattle.fort_grammar.proofs.Theory.{leads, leads-none, chosen-at-end, none-at-end, same-eq, inv-nil, inv-take, inv-build, expands, expands-none, chosen-in, good-call, cost-call}
use Rattle.fort_grammar.specs.Engine.{Agree, Spelled, Moved, Dead, Finished, Never, Idle, Opened}

heads : (t x : Token) (w v : List Token) → t ∷ w ≡ x ∷ v → t ≡ x
heads t x w v h = cc

tails : (t x : Token) (w v : List Token) → t ∷ w ≡ x ∷ v → w ≡ v
tails t x w v h = cc

nil-cons : (t : Token) (w : List Token) → [] ≡ t ∷ w → ⊥
nil-cons t w h = cc

pub code-eq : (x c : Class) → code x ≡ code c → x ≡ c
code-eq x c h = same-eq x c (eq-eqb (code x) (code c) h)

module _ (V : Type 0) (shift : Token → V → V) (apply : Action → V → V) where
  -- what the machine keeps while it takes rows
  pub record State (k : Option Class) (a : List Symbol) (va : V) (s : List Symbol) (v : V) : Type 0 where
    pub good : Good s
    pub agree : Agree V shift apply k a va s v
    pub idle : Idle V shift apply k a va s v

  pub agree-refl : (k : Option Class) (a : List Symbol) (v : V) → Agree V shift apply k a v a v
  agree-refl k a v = record { ahead = λ w u e d. d; back = λ w u d. d; reads = λ z s w u d. d }

  pub agree-build : (k : Option Class) (x : Action) (a ss : List Symbol) (va v : V) → Agree V shift apply k a va (Build x ∷ ss) v → Agree V shift apply k a va ss (apply x v)
  agree-build k x a ss va v h = record {
    ahead = λ w u e d. inv-build V shift apply (h.ahead w u e d);
    back = λ w u d. h.back w u (build d);
    reads = λ z s w u d. h.reads z s w u (reading.build d);
  }

  pub agree-call : (k : Option Class) (n : Part) (r : Choice) (a ss : List Symbol) (va v : V) → Good (Call n ∷ ss) →
      chosen k (table n) ≡ Some r → Agree V shift apply k a va (Call n ∷ ss) v → Agree V shift apply k a va (r.symbols ++ ss) v
  agree-call k n r a ss va v g c h = record {
    ahead = λ w u e d. expands V shift apply n r ss w v u g (subst (λ j. chosen j (table n) ≡ Some r) (sym e) c) (h.ahead w u e d);
    back = λ w u d. h.back w u (row r (chosen-in k (table n) r c) d);
    reads = λ z s w u d. h.reads z s w u (reading.row r (chosen-in k (table n) r c) d);
  }

  pub idle-refl : (k : Option Class) (a : List Symbol) (v : V) → Idle V shift apply k a v a v
  idle-refl None a v = tt
  idle-refl (Some c) a v = inr (agree-refl None a v)

  idle-build : (k : Option Class) (x : Action) (a ss : List Symbol) (va v : V) → Idle V shift apply k a va (Build x ∷ ss) v → Idle V shift apply k a va ss (apply x v)
  idle-build None x a ss va v h = tt
  idle-build (Some c) x a ss va v (inl m) = inl m
  idle-build (Some c) x a ss va v (inr h) = inr (agree-build None x a ss va v h)

  idle-call : (k : Option Class) (n : Part) (r : Choice) (a ss : List Symbol) (va v : V) → Good (Call n ∷ ss) →
      chosen k (table n) ≡ Some r → Idle V shift apply k a va (Call n ∷ ss) v → Idle V shift apply k a va (r.symbols ++ ss) v
  idle-call None n r a ss va v g c h = tt
  idle-call (Some c) n r a ss va v g e (inl m) = inl (leads n c r ss g e m)
  idle-call (Some c) n r a ss va v g e (inr h) = elim (chosen-at-end n c r ss e) [
    | inl m ↦ inl m
    | inr f ↦ inr (agree-call None n r a ss va v g f h)
  ]

  idle-none : (k : Option Class) (n : Part) (a ss : List Symbol) (va v : V) → Good (Call n ∷ ss) →
      chosen k (table n) ≡ None → Agree V shift apply k a va (Call n ∷ ss) v → Idle V shift apply k a va (Call n ∷ ss) v → Never V shift apply a [] va
  idle-none None n a ss va v g c h i u d = expands-none V shift apply n ss [] v u g c (h.ahead [] u refl d)
  idle-none (Some c) n a ss va v g e h (inl m) u d = absurd (leads-none n c ss g e m)
  idle-none (Some c) n a ss va v g e h (inr i) u d = expands-none V shift apply n ss [] v u g (none-at-end n c e) (i.ahead [] u refl d)

  pub agree-none : (k : Option Class) (n : Part) (a ss : List Symbol) (va v : V) → Good (Call n ∷ ss) →
      chosen k (table n) ≡ None → Agree V shift apply k a va (Call n ∷ ss) v → (w : List Token) (u : V) → look_of w ≡ k → Spelled V shift apply a w va u → ⊥
  agree-none k n a ss va v g c h w u e d = expands-none V shift apply n ss w v u g (subst (λ j. chosen j (table n) ≡ None) (sym e) c) (h.ahead w u e d)

  -- The same, at a stack whose top was taken.

  pub good-build : (x : Action) (y : Symbol) (s ss : List Symbol) → s ≡ y ∷ ss → y ≡ Build x → Good s → Good ss
  good-build x y s ss e f g = subst (λ z. Good (z ∷ ss)) f (subst Good e g)

  pub after-build : (k : Option Class) (x : Action) (y : Symbol) (a s ss : List Symbol) (va v v1 : V) → s ≡ y ∷ ss → y ≡ Build x → v1 ≡ apply x v →
      State k a va s v → State k a va ss v1
  after-build k x y a s ss va v v1 e f p h0 =
      let h = subst (λ q. State k a va q v) (e ∙ ap (λ z. z ∷ ss) f) h0 in
      subst (λ q. State k a va ss q) (sym p) (record { good = h.good; agree = agree-build k x a ss va v h.agree; idle = idle-build k x a ss va v h.idle })

  pub after-call : (n : Part) (r : Choice) (k : Option Class) (y : Symbol) (a s ss s1 : List Symbol) (va v : V) (xs : List Symbol) → s ≡ y ∷ ss → y ≡ Call n → chosen k (table n) ≡ Some r → r.symbols ≡ xs → s1 ≡ xs ++ ss →
      State k a va s v → State k a va s1 v
  after-call n r k y a s ss s1 va v xs e f c p q h0 =
      let h = subst (λ q. State k a va q v) (e ∙ ap (λ z. z ∷ ss) f) h0 in
      subst (λ z. State k a va z v) (ap (λ z. z ++ ss) p ∙ sym q) (record {
        good = good-call n r ss (chosen-in k (table n) r c) h.good;
        agree = agree-call k n r a ss va v h.good c h.agree;
        idle = idle-call k n r a ss va v h.good c h.idle;
      })

  pub after-none : (n : Part) (k : Option Class) (y : Symbol) (a s ss : List Symbol) (va v : V) → s ≡ y ∷ ss → y ≡ Call n → chosen k (table n) ≡ None →
      State k a va s v → ((w : List Token) → look_of w ≡ k → Never V shift apply a w va) × Never V shift apply a [] va
  after-none n k y a s ss va v e f c h0 =
      let h = subst (λ q. State k a va q v) (e ∙ ap (λ z. z ∷ ss) f) h0 in
      ((λ w j u d. agree-none k n a ss va v h.good c h.agree w u j d), idle-none k n a ss va v h.good c h.agree h.idle)

  pub after-take : (c : Class) (k : Option Class) (y : Symbol) (a s ss : List Symbol) (va v : V) → s ≡ y ∷ ss → y ≡ Take c →
      State k a va s v → Good ss × Agree V shift apply k a va (Take c ∷ ss) v × Idle V shift apply k a va (Take c ∷ ss) v
  after-take c k y a s ss va v e f h0 =
      let h = subst (λ q. State k a va q v) (e ∙ ap (λ z. z ∷ ss) f) h0 in
      (h.good, h.agree, h.idle)

  pub after-end : (k : Option Class) (a s : List Symbol) (va v : V) → s ≡ [] → State k a va s v → Agree V shift apply k a va [] v × Idle V shift apply k a va [] v
  after-end k a s va v e h0 = let h = subst (λ q. State k a va q v) e h0 in (h.agree, h.idle)

  -- A token at the top.

  pub moves : (t : Token) (c : Class) (a b : List Symbol) (va vb v : V) → v ≡ shift t vb → (token_class t) ≡ c → Good b → Agree V shift apply (Some (token_class t)) a va (Take c ∷ b) vb → Moved V shift apply t a va b v
  moves t c a b va vb v f e g h = subst (λ q. Moved V shift apply t a va b q) (sym f) (record {
    good = g;
    ahead = λ w u d. let p = inv-take V shift apply (h.ahead (t ∷ w) u refl d) in moved w u p;
    back = λ w u d. h.back (t ∷ w) u (take t e d);
    reads = λ z. h.reads z b (t ∷ z) (shift t vb) (reading.last t e refl);
  })
    where
      moved : (w : List Token) (u : V) → (x : Token) × (rest : List Token) × (t ∷ w ≡ x ∷ rest) × ((token_class x) ≡ c) × Spelled V shift apply b rest (shift x vb) u → Spelled V shift apply b w (shift t vb) u
      moved w u p = subst (λ q. Spelled V shift apply b w (shift q vb) u) (sym (heads t p.0 w p.1 p.2)) (subst (λ q. Spelled V shift apply b q (shift p.0 vb) u) (sym (tails t p.0 w p.1 p.2)) p.4)

  wants : (c : Class) (a b : List Symbol) (va vb : V) → Agree V shift apply None a va (Take c ∷ b) vb → Never V shift apply a [] va
  wants c a b va vb h u d = let p = inv-take V shift apply (h.ahead [] u refl d) in nil-cons p.0 p.1 p.2

  pub mismatch : (t : Token) (c : Class) (a b : List Symbol) (va vb : V) → ((token_class t) ≡ c → ⊥) → Agree V shift apply (Some (token_class t)) a va (Take c ∷ b) vb → Idle V shift apply (Some (token_class t)) a va (Take c ∷ b) vb → Dead V shift apply t a va × Never V shift apply a [] va
  mismatch t c a b va vb ne h i = (
    (λ w u d. let p = inv-take V shift apply (h.ahead (t ∷ w) u refl d) in
        ne (subst (λ q. (token_class q) ≡ c) (sym (heads t p.0 w p.1 p.2)) p.3)),
    go i,
  )
    where
      go : Idle V shift apply (Some (token_class t)) a va (Take c ∷ b) vb → Never V shift apply a [] va
      go (inl m) = absurd (elim (or_cases (same c (token_class t)) false m) [ inl e ↦ ne (sym (same-eq c (token_class t) e)) | inr e ↦ true≢false (sym e) ])
      go (inr j) = wants c a b va vb j

  finished : (a : List Symbol) (va vb : V) → Agree V shift apply None a va [] vb → Finished V shift apply a va vb
  finished a va vb h = record {
    ends = h.back [] vb done;
    alone = λ u d. sym (inv-nil V shift apply (h.ahead [] u refl d)).1;
  }

  pub beyond : (p : Top) (t : Token) (a b : List Symbol) (va vb : V) → p ≡ top.End → Opened V shift apply p (Some (token_class t)) a va b vb → Dead V shift apply t a va × Finished V shift apply a va vb
  beyond p t a b va vb e h0 = let h = subst (λ q. Opened V shift apply q (Some (token_class t)) a va b vb) e h0 in
      ((λ w u d. nil-cons t w (sym (inv-nil V shift apply (h.0.ahead (t ∷ w) u refl d)).0)), finished a va vb (go h.1))
    where
      go : Idle V shift apply (Some (token_class t)) a va [] vb → Agree V shift apply None a va [] vb
      go (inl m) = absurd (true≢false (sym m))
      go (inr j) = j

  pub stuck : (p : Top) (t : Token) (a b : List Symbol) (va vb : V) → p ≡ top.Stuck → Opened V shift apply p (Some (token_class t)) a va b vb → Dead V shift apply t a va × Never V shift apply a [] va
  stuck p t a b va vb e h0 = let h = subst (λ q. Opened V shift apply q (Some (token_class t)) a va b vb) e h0 in ((λ w u d. h.0 (t ∷ w) refl u d), h.1)

  pub finishes-end : (p : Top) (a b : List Symbol) (va vb : V) → p ≡ top.End → Opened V shift apply p None a va b vb → Finished V shift apply a va vb
  finishes-end p a b va vb e h0 = let h = subst (λ q. Opened V shift apply q None a va b vb) e h0 in finished a va vb h.0

  pub finishes-token : (p : Top) (c : Class) (a b : List Symbol) (va vb : V) → p ≡ top.Token c → Opened V shift apply p None a va b vb → Never V shift apply a [] va
  finishes-token p c a b va vb e h0 = let h = subst (λ q. Opened V shift apply q None a va b vb) e h0 in wants c a b va vb h.1

  pub opened-token : (p : Top) (c : Class) (k : Option Class) (a b : List Symbol) (va vb : V) → p ≡ top.Token c → Opened V shift apply p k a va b vb → Good b × Agree V shift apply k a va (Take c ∷ b) vb × Idle V shift apply k a va (Take c ∷ b) vb
  opened-token p c k a b va vb e h = subst (λ q. Opened V shift apply q k a va b vb) e h

-- The measure of the loop of the engine.
pub cost-at : (n : Part) (r : Choice) (k : Option Class) (y : Symbol) (s ss s1 xs : List Symbol) → s ≡ y ∷ ss → y ≡ Call n → chosen k (table n) ≡ Some r → r.symbols ≡ xs → s1 ≡ xs ++ ss → cost s1 < cost s
cost-at n r k y s ss s1 xs e f c p q =
    let a : s1 ≡ r.symbols ++ ss = q ∙ ap (λ z. z ++ ss) (sym p) in
    let b : s ≡ Call n ∷ ss = e ∙ ap (λ z. z ∷ ss) f in
    subst (λ z. cost z < cost s) (sym a) (subst (λ z. cost (r.symbols ++ ss) < cost z) (sym b) (cost-call n r k ss c))
