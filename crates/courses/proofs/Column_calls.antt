-- A call for all columns, in lock step with each column's call.
use Rattle.std.proofs.Common.{◌≡◌, ℕ, ℤ, refl, ap, sym, ◌∙◌, subst, List, [], ◌∷◌, map, Bool, true, false, Option, Some, None, ◌⊎◌, inl, inr}
use Rattle.std.specs.Prelude.{is_some}
use Rattle.std.proofs.lemmas.Bool.{false≢true}
use mathlib.Core.Path.{fun_ext, ap₂}
use Rattle.courses.specs.Element.{Value, Element, Store, put, blank, merged}
use Rattle.courses.specs.Interaction.{Orders, answer_of, next_of, store_of}
use Rattle.courses.specs.Renaming.{KeepsApart, view}
use Rattle.courses.specs.Course.{Sort, Answer, Course, line, on_some}
use Rattle.courses.specs.Copying.{put_all, source, Callee, called, entered, returned}
use Rattle.courses.specs.Weaving.{IsFair}
use Rattle.courses.specs.Columns.{Varying, varies, column, is_column, Knowledge, Knows, Kept, Lockstep, CopiesMatch, AllShared, CallsMatch}
use Rattle.courses.proofs.Shared.{column-shared, column-keeps}
use Rattle.courses.proofs.Loops.{not_some}
use Rattle.courses.proofs.Lockstep_laws.{all_or_one}
use Rattle.courses.proofs.Calls.{call_does, copied}

pub view-put : (f : Element → Element) (s : Store) (e : Element) (v : Value) → KeepsApart f → view f (put s (f e) v) ≡ put (view f s) e v
unfolding put
view-put f s e v h = fun_ext (λ x. rw (h e x))

pub view-merged : (f : Element → Element) (p : Element → Bool) (t s : Store) → ((e : Element) → p (f e) ≡ p e) → view f (merged p t s) ≡ merged p (view f t) (view f s)
unfolding merged
view-merged f p t s h = fun_ext (λ e. rw (h e))

-- values put at renamed elements
pub renamed_put_all : (f : Element → Element) → KeepsApart f → (es : List Element) (vs : List Value) (t : Store) → view f (put_all (map f es) vs t) ≡ put_all es vs (view f t)
renamed_put_all f h [] vs t = refl
renamed_put_all f h (e ∷ es) [] t = refl
renamed_put_all f h (e ∷ es) (v ∷ vs) t = renamed_put_all f h es vs (put t (f e) v) ∙ ap (put_all es vs) (view-put f t e v h)

pub put_shared : (vary : Varying) (c : ℤ) (t : Store) (d : Element) (v : Value) → varies vary d ≡ false → view (column vary c) (put t d v) ≡ put (view (column vary c) t) d v
put_shared vary c t d v h = ap (λ x. view (column vary c) (put t x v)) (sym (column-shared vary c d h)) ∙ view-put (column vary c) t d v (column-keeps vary c)

pub put_all_shared : (vary : Varying) (c : ℤ) (ds : List Element) (vs : List Value) (t : Store) → AllShared vary ds → view (column vary c) (put_all ds vs t) ≡ put_all ds vs (view (column vary c) t)
put_all_shared vary c [] vs t h = refl
put_all_shared vary c (d ∷ ds) [] t h = refl
put_all_shared vary c (d ∷ ds) (v ∷ vs) t h = put_all_shared vary c ds vs (put t d v) h.1 ∙ ap (put_all ds vs) (put_shared vary c t d v h.0)

-- copies seen from one column
pub view_copied : (vary : Varying) (cols : List ℤ) (ds xs ds' xs' : List Element) → CopiesMatch vary cols ds xs ds' xs' → (c : ℤ) → is_column c cols ≡ true → (s t : Store) → view (column vary c) (put_all ds' (map s xs') t) ≡ put_all ds (map (view (column vary c) s) xs) (view (column vary c) t)
view_copied vary cols ds xs ds' xs' match c m s t =
    fun_ext (λ e. copied ds' xs' s t (column vary c e) ∙ ap (λ a. on_some a (t (column vary c e)) s) (match c e m) ∙ go e (source ds xs e) ∙ sym (copied ds xs (view (column vary c) s) (view (column vary c) t) e))
  where
    go : (e : Element) (a : Option Element) → on_some (on_some a None (λ x. Some (column vary c x))) (t (column vary c e)) s ≡ on_some a (view (column vary c) t e) (view (column vary c) s)
    go e None = refl
    go e (Some x) = refl

module _ {k l : Sort} (vary : Varying) (cols : List ℤ) (pre deep deep' mid post : Knowledge) (f f' : Callee k) (vs : List Value) (xs es xs' es' : List Element) (calls : CallsMatch vary cols pre deep deep' mid f f' vs xs es xs' es') (g g' : Answer k → Course l) (rest : (a : Answer k) → Lockstep vary cols mid post (line (g a)) (line (g' a))) where
  same_owns : f'.owns ≡ f.owns
  same_owns = fun_ext calls.owns

  view_entered : (c : ℤ) → is_column c cols ≡ true → (s : Store) → view (column vary c) (entered f' vs xs' s) ≡ entered f vs xs (view (column vary c) s)
  view_entered c m s =
      view_copied vary cols f.takes xs f'.takes xs' calls.takes c m s (put_all f'.given vs (merged f'.owns blank s))
      ∙ ap (put_all f.takes (map (view (column vary c) s) xs))
      (ap₂ (λ ds p. view (column vary c) (put_all ds vs (merged p blank s))) calls.given same_owns
      ∙ put_all_shared vary c f.given vs (merged f.owns blank s) calls.given_shared
      ∙ ap (put_all f.given vs) (view-merged (column vary c) f.owns blank s (calls.own_columns c)))

  view_returned : (c : ℤ) → is_column c cols ≡ true → (s u : Store) → view (column vary c) (returned f' es' s u) ≡ returned f es (view (column vary c) s) (view (column vary c) u)
  view_returned c m s u =
      view_copied vary cols es f.leaves es' f'.leaves calls.leaves c m u (merged f'.owns s u)
      ∙ ap (put_all es (map (view (column vary c) u) f.leaves)) (ap (λ p. view (column vary c) (merged p s u)) same_owns ∙ view-merged (column vary c) f.owns s u (calls.own_columns c))

  module _ (o : Orders) (s : Store) (j : ℕ) (o' : Orders) (j' : ℤ → ℕ) (fair : IsFair o) (knows : Knows pre s) where
    abbrev inner_next : ℤ → ℕ
    inner_next c = next_of (line f.body) o' (entered f vs xs (view (column vary c) s)) (j' c)

    -- a column's body, from the store that the wide one shows
    body_seen : (c : ℤ) → is_column c cols ≡ true → answer_of (line f.body) o' (view (column vary c) (entered f' vs xs' s)) (j' c) ≡ answer_of (line f.body) o' (entered f vs xs (view (column vary c) s)) (j' c)
    body_seen c m = ap (λ t. answer_of (line f.body) o' t (j' c)) (view_entered c m s)

    body_ends : (c : ℤ) → is_column c cols ≡ true → is_some (answer_of (line (called f vs xs es g)) o' (view (column vary c) s) (j' c)) ≡ true → is_some (answer_of (line f.body) o' (view (column vary c) (entered f' vs xs' s)) (j' c)) ≡ true
    body_ends c m h = go (is_some (answer_of (line f.body) o' (view (column vary c) (entered f' vs xs' s)) (j' c))) refl
      where
        go : (b : Bool) → is_some (answer_of (line f.body) o' (view (column vary c) (entered f' vs xs' s)) (j' c)) ≡ b → is_some (answer_of (line f.body) o' (view (column vary c) (entered f' vs xs' s)) (j' c)) ≡ true
        go true q = q
        go false q =
            let n = sym (body_seen c m) ∙ not_some _ q in
            absurd (false≢true (sym (ap is_some ((call_does f vs xs es g o' (view (column vary c) s) (j' c)).traps n)) ∙ h))

    module _ (b : Kept vary cols deep' (line f.body) (line f'.body) o (entered f' vs xs' s) j o' j') where
      abbrev wide_last : Store
      wide_last = store_of (line f'.body) o (entered f' vs xs' s) j

      abbrev after_call : Store
      after_call = returned f' es' s wide_last

      own_answer : (c : ℤ) → is_column c cols ≡ true → answer_of (line f.body) o' (entered f vs xs (view (column vary c) s)) (j' c) ≡ Some b.answer
      own_answer c m = sym (body_seen c m) ∙ b.each c m

      own_after : (c : ℤ) → is_column c cols ≡ true → returned f es (view (column vary c) s) (store_of (line f.body) o' (entered f vs xs (view (column vary c) s)) (j' c)) ≡ view (column vary c) after_call
      own_after c m =
          ap (returned f es (view (column vary c) s)) (ap (λ t. store_of (line f.body) o' t (j' c)) (sym (view_entered c m s)) ∙ sym (b.store c m))
          ∙ sym (view_returned c m s wide_last)

      own_part : (c : ℤ) → is_column c cols ≡ true → answer_of (line (called f vs xs es g)) o' (view (column vary c) s) (j' c) ≡ answer_of (line (g b.answer)) o' (view (column vary c) after_call) (inner_next c)
      own_part c m =
          (call_does f vs xs es g o' (view (column vary c) s) (j' c)).answer b.answer (own_answer c m)
          ∙ ap (λ t. answer_of (line (g b.answer)) o' t (inner_next c)) (own_after c m)

      abbrev wide_next : ℕ
      wide_next = next_of (line f'.body) o (entered f' vs xs' s) j

      wide_part : answer_of (line (called f' vs xs' es' g')) o s j ≡ answer_of (line (g' b.answer)) o after_call wide_next
      wide_part = (call_does f' vs xs' es' g' o s j).answer b.answer b.wide

      known : Knows mid after_call
      known = calls.returns s wide_last knows b.knows

      both_kept : Kept vary cols post (line (g b.answer)) (line (g' b.answer)) o after_call wide_next o' inner_next → Kept vary cols post (line (called f vs xs es g)) (line (called f' vs xs' es' g')) o s j o' j'
      both_kept d =
          let ws = (call_does f' vs xs' es' g' o s j).store b.answer b.wide in
          record {
            answer = d.answer;
            wide = wide_part ∙ d.wide;
            each = λ c m. own_part c m ∙ d.each c m;
            store = λ c m.
                ap (view (column vary c)) ws
                ∙ d.store c m
                ∙ ap (λ t. store_of (line (g b.answer)) o' t (inner_next c)) (sym (own_after c m))
                ∙ sym ((call_does f vs xs es g o' (view (column vary c) s) (j' c)).store b.answer (own_answer c m));
            knows = subst (Knows post) (sym ws) d.knows;
          }

      rest_ends : ((c : ℤ) → is_column c cols ≡ true → is_some (answer_of (line (called f vs xs es g)) o' (view (column vary c) s) (j' c)) ≡ true) → Kept vary cols post (line (called f vs xs es g)) (line (called f' vs xs' es' g')) o s j o' j'
      rest_ends h = both_kept ((rest b.answer).ends o after_call wide_next o' inner_next fair known (λ c m. ap is_some (sym (own_part c m)) ∙ h c m))

      rest_traps : (c : ℤ) → is_column c cols ≡ true → is_some (answer_of (line (called f vs xs es g)) o' (view (column vary c) s) (j' c)) ≡ false → is_some (answer_of (line (called f' vs xs' es' g')) o s j) ≡ false
      rest_traps c m h = ap is_some wide_part ∙ (rest b.answer).traps o after_call wide_next o' inner_next fair known c m (ap is_some (sym (own_part c m)) ∙ h)

  pub lockstep_call : Lockstep vary cols pre post (line (called f vs xs es g)) (line (called f' vs xs' es' g'))
  lockstep_call = record {
    ends = λ o s j o' j' fair kn h. rest_ends o s j o' j' fair kn (calls.bodies.ends o (entered f' vs xs' s) j o' j' fair (calls.enters s kn) (λ c m. body_ends o s j o' j' fair kn c m (h c m))) h;
    traps = λ o s j o' j' fair kn c m h. trap o s j o' j' fair kn c m h (all_or_one (λ d. is_some (answer_of (line f.body) o' (view (column vary d) (entered f' vs xs' s)) (j' d))) cols);
  }
    where
      trap : (o : Orders) (s : Store) (j : ℕ) (o' : Orders) (j' : ℤ → ℕ) → IsFair o → Knows pre s → (c : ℤ) → is_column c cols ≡ true → is_some (answer_of (line (called f vs xs es g)) o' (view (column vary c) s) (j' c)) ≡ false → ((d : ℤ) → is_column d cols ≡ true → is_some (answer_of (line f.body) o' (view (column vary d) (entered f' vs xs' s)) (j' d)) ≡ true) ⊎ ((d : ℤ) × (is_column d cols ≡ true) × (is_some (answer_of (line f.body) o' (view (column vary d) (entered f' vs xs' s)) (j' d)) ≡ false)) → is_some (answer_of (line (called f' vs xs' es' g')) o s j) ≡ false
      trap o s j o' j' fair kn c m h (inr (d, n, t)) = ap is_some ((call_does f' vs xs' es' g' o s j).traps (not_some _ (calls.bodies.traps o (entered f' vs xs' s) j o' j' fair (calls.enters s kn) d n t)))
      trap o s j o' j' fair kn c m h (inl all) = rest_traps o s j o' j' fair kn (calls.bodies.ends o (entered f' vs xs' s) j o' j' fair (calls.enters s kn) all) c m h
