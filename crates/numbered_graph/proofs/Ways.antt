-- Ways and cycles: what lies behind all to which it has links leads to no cycle, and where one can always go on there is one.
use Rattle.std.proofs.Common.{◌≡◌, ℕ, zero, suc, ◌+◌, ◌<◌, ◌≤◌, Bool, true, false, cond, nat_eq, List, [], ◌∷◌, ◌++◌, length, refl, sym, ap, ◌∙◌, subst, arith, ◌⊎◌, inl, inr}
use Rattle.std.specs.List.{list_all}
use Rattle.std.proofs.lemmas.Bool.{false≢true, and_parts}
use Rattle.numbered_graph.specs.Graphs.{Rows, row, stands, times, Way, here, onwards, LeadsToCycle, is_behind}
use Rattle.numbered_graph.proofs.Times.{same_number, no_times, stands_cases, append_cases, at_most}

pub joined : (rows : Rows) {x y z : ℕ} → Way rows x y → Way rows y z → Way rows x z
joined rows here way = way
joined rows (onwards link rest) way = onwards link (joined rows rest way)

-- what a point leads to, those do that lead to it
pub led_from : (rows : Rows) (x y : ℕ) → stands y (row rows x) ≡ true → LeadsToCycle rows y → LeadsToCycle rows x
led_from rows x y link c = record { from = c.from; to = c.to; way = onwards link c.way; link = c.link; back = c.back }

-- ---- points that are settled one after the other

-- all links of the point lead to settled ones
data Settled (rows : Rows) : ℕ → Type 0 where
  settles : {x : ℕ} → ((y : ℕ) → stands y (row rows x) ≡ true → Settled rows y) → Settled rows x

cycle_at : (rows : Rows) (x a b : ℕ) → stands b (row rows a) ≡ true → Way rows b a → Way rows x a → ((y : ℕ) → stands y (row rows x) ≡ true → LeadsToCycle rows y → ⊥) → ⊥
cycle_at rows x a b link back here none = none b link (record { from = a; to = b; way = back; link = link; back = back })
cycle_at rows x a b link back (onwards {y = y} first rest) none = none y first (record { from = a; to = b; way = rest; link = link; back = back })

no_cycle : (rows : Rows) {x : ℕ} → Settled rows x → LeadsToCycle rows x → ⊥
no_cycle rows (settles {x} each) c = cycle_at rows x c.from c.to c.link c.back c.way (λ y link. no_cycle rows (each y link))

pub all_stand : (xs before : List ℕ) (y : ℕ) → list_all (λ z. stands z before) xs ≡ true → stands y xs ≡ true → stands y before ≡ true
all_stand [] before y h e = absurd (false≢true e)
all_stand (x ∷ xs) before y h e =
    let parts : (stands x before ≡ true) × (list_all (λ z. stands z before) xs ≡ true) = and_parts (stands x before) (list_all (λ z. stands z before) xs) h in
    go (stands_cases y x xs e) parts.0 (all_stand xs before y parts.1)
  where
    go : (y ≡ x) ⊎ (stands y xs ≡ true) → stands x before ≡ true → (stands y xs ≡ true → stands y before ≡ true) → stands y before ≡ true
    go (inl e) first rest = ap (λ z. stands z before) e ∙ first
    go (inr e) first rest = rest e

settled_behind : (rows : Rows) (before xs : List ℕ) → ((y : ℕ) → stands y before ≡ true → Settled rows y) → is_behind rows before xs ≡ true → (y : ℕ) → stands y xs ≡ true → Settled rows y
settled_behind rows before [] settled h y e = absurd (false≢true e)
settled_behind rows before (x ∷ xs) settled h y e =
    let parts : (list_all (λ z. stands z before) (row rows x) ≡ true) × (is_behind rows (before ++ x ∷ []) xs ≡ true) = and_parts (list_all (λ z. stands z before) (row rows x)) (is_behind rows (before ++ x ∷ []) xs) h in
    let new : Settled rows x = settles (λ z link. settled z (all_stand (row rows x) before z parts.0 link)) in
    go new (settled_behind rows (before ++ x ∷ []) xs (more new) parts.1 y) (stands_cases y x xs e)
  where
    last : (z : ℕ) → Settled rows x → (z ≡ x) ⊎ (stands z [] ≡ true) → Settled rows z
    last z new (inl e) = subst (Settled rows) (sym e) new
    last z new (inr e) = absurd (false≢true e)

    either : (z : ℕ) → Settled rows x → (stands z before ≡ true) ⊎ (stands z (x ∷ []) ≡ true) → Settled rows z
    either z new (inl e) = settled z e
    either z new (inr e) = last z new (stands_cases z x [] e)

    more : Settled rows x → (z : ℕ) → stands z (before ++ x ∷ []) ≡ true → Settled rows z
    more new z e = either z new (append_cases z before (x ∷ []) e)

    go : Settled rows x → (stands y xs ≡ true → Settled rows y) → (y ≡ x) ⊎ (stands y xs ≡ true) → Settled rows y
    go new rest (inl e) = subst (Settled rows) (sym e) new
    go new rest (inr e) = rest e

-- a point that stands behind all to which it has links leads to no cycle
pub none_behind : (rows : Rows) (order : List ℕ) → is_behind rows [] order ≡ true → (x : ℕ) → stands x order ≡ true → LeadsToCycle rows x → ⊥
none_behind rows order h x e = no_cycle rows (settled_behind rows [] order (λ y e. absurd (false≢true e)) h x e)

-- ---- points from which one can always go on

-- one link after the other, from the point through the list
data Trail (rows : Rows) : ℕ → List ℕ → Type 0 where
  ends : {x : ℕ} → Trail rows x []
  goes : {x y : ℕ} {ys : List ℕ} → stands y (row rows x) ≡ true → Trail rows y ys → Trail rows x (y ∷ ys)

along : (rows : Rows) {x : ℕ} {xs : List ℕ} (y : ℕ) → Trail rows x xs → stands y xs ≡ true → (z : ℕ) × (stands z (row rows x) ≡ true) × Way rows z y
along rows y ends e = absurd (false≢true e)
along rows y (goes {x = x} {y = z} {ys} link trail) e = go (along rows y trail) (stands_cases y z ys e)
  where
    go : (stands y ys ≡ true → (w : ℕ) × (stands w (row rows z) ≡ true) × Way rows w y) → (y ≡ z) ⊎ (stands y ys ≡ true) → (w : ℕ) × (stands w (row rows x) ≡ true) × Way rows w y
    go rest (inl e) = (z, link, subst (λ q. Way rows z q) (sym e) here)
    go rest (inr e) = let r : (w : ℕ) × (stands w (row rows z) ≡ true) × Way rows w y = rest e in (z, link, onwards r.1 r.2)

abbrev Once : List ℕ → Type 0
Once xs = (y : ℕ) → times y xs ≤ 1

once_more : (x : ℕ) (xs : List ℕ) → stands x xs ≡ false → Once xs → Once (x ∷ xs)
once_more x xs e once y = go (nat_eq y x) refl
  where
    go : (b : Bool) → nat_eq y x ≡ b → cond b 1 0 + times y xs ≤ 1
    go true h = omega (arith, no_times x xs e, ap (λ z. times z xs) (same_number y x h))
    go false h = omega (arith, once y)

-- a trail comes back to one of its points, or each stands on it once
cycle_or_once : (rows : Rows) {x : ℕ} {xs : List ℕ} → Trail rows x xs → (LeadsToCycle rows x) ⊎ (Once (x ∷ xs))
cycle_or_once rows (ends {x}) = inr (once_more x [] refl (λ y. omega arith))
cycle_or_once rows (goes {x} {y} {ys} link trail) = go (cycle_or_once rows trail) (stands x (y ∷ ys)) refl
  where
    go : (LeadsToCycle rows y) ⊎ (Once (y ∷ ys)) → (b : Bool) → stands x (y ∷ ys) ≡ b → (LeadsToCycle rows x) ⊎ (Once (x ∷ (y ∷ ys)))
    go (inl c) b e = inl (led_from rows x y link c)
    go (inr once) true e =
        let r : (z : ℕ) × (stands z (row rows x) ≡ true) × Way rows z x = along rows x (goes link trail) e in
        inl (record { from = x; to = r.0; way = here; link = r.1; back = r.2 })
    go (inr once) false e = inr (once_more x (y ∷ ys) e once)

-- from each point with P a link leads to another of them, and they are below n
record Endless (rows : Rows) (n : ℕ) (P : ℕ → Type 0) : Type 0 where
  below : (x : ℕ) → P x → x < n
  next : (x : ℕ) → P x → (y : ℕ) × (stands y (row rows x) ≡ true) × P y

record TrailOf (rows : Rows) (n x k : ℕ) : Type 0 where
  points : List ℕ
  trail : Trail rows x points
  long : length points ≡ k
  below : (y : ℕ) → stands y points ≡ true → y < n

trail_of : (rows : Rows) (n : ℕ) (P : ℕ → Type 0) → Endless rows n P → (k x : ℕ) → P x → TrailOf rows n x k
trail_of rows n P endless zero x p = record { points = []; trail = ends; long = refl; below = λ y e. absurd (false≢true e) }
trail_of rows n P endless (suc k) x p =
    let step : (y : ℕ) × (stands y (row rows x) ≡ true) × P y = endless.next x p in
    let rest : TrailOf rows n step.0 k = trail_of rows n P endless k step.0 step.2 in
    record {
      points = step.0 ∷ rest.points;
      trail = goes step.1 rest.trail;
      long = omega (arith, rest.long);
      below = λ y e. among y step.0 rest.points (endless.below step.0 step.2) (rest.below y) (stands_cases y step.0 rest.points e);
    }
  where
    among : (y z : ℕ) (zs : List ℕ) → z < n → (stands y zs ≡ true → y < n) → (y ≡ z) ⊎ (stands y zs ≡ true) → y < n
    among y z zs first rest (inl e) = omega (arith, first, e)
    among y z zs first rest (inr e) = rest e

endless_cycle : (rows : Rows) (n : ℕ) (P : ℕ → Type 0) → Endless rows n P → (x : ℕ) → P x → LeadsToCycle rows x
endless_cycle rows n P endless x p =
    let t : TrailOf rows n x n = trail_of rows n P endless n x p in
    go t (cycle_or_once rows t.trail)
  where
    among : (t : TrailOf rows n x n) (y : ℕ) → (y ≡ x) ⊎ (stands y t.points ≡ true) → y < n
    among t y (inl e) = omega (arith, endless.below x p, e)
    among t y (inr e) = t.below y e

    go : (t : TrailOf rows n x n) → (LeadsToCycle rows x) ⊎ (Once (x ∷ t.points)) → LeadsToCycle rows x
    go t (inl c) = c
    go t (inr once) = absurd (omega (arith, t.long, at_most n (x ∷ t.points) once (λ y e. among t y (stands_cases y x t.points e))))

-- where each point with P has a link to another with P, each leads to a cycle
pub always_onwards : (rows : Rows) (n : ℕ) (P : ℕ → Type 0) → ((x : ℕ) → P x → x < n) → ((x : ℕ) → P x → (y : ℕ) × (stands y (row rows x) ≡ true) × P y) → (x : ℕ) → P x → LeadsToCycle rows x
always_onwards rows n P below next = endless_cycle rows n P (record { below = below; next = next })
