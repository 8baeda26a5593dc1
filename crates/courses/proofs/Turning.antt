-- The turns of two parts add up, and a handler that keeps elements aside changes none.
use Rattle.std.proofs.Common.{◌≡◌, ℕ, suc, ◌+◌, refl, ap, ◌∙◌, List, [], ◌∷◌, ◌++◌, Some, None, arith}
use Rattle.std.proofs.Common.{Bool, true, false}
use Rattle.courses.specs.Element.{Value, Element, Store, put, merged}
use Rattle.courses.specs.Interaction.{Note, Own_reads, Own_writes, Turn, Makes, Event, Reads, Writes, Announces, Interaction, Done, Trap, Read, Write, Order, Announce, bind, Orders, answer_of, next_of, log_of, store_of}
use Rattle.courses.specs.Logs.{turns}
use Rattle.courses.specs.Handlers.{keeping}
use Rattle.courses.proofs.Binds.{follows, stops}
use Rattle.courses.proofs.Handled.{merged-own, merged-other, own_put, other_put}

pub turns_appended : (ts us : List Event) → turns (ts ++ us) ≡ turns ts + turns us
turns_appended [] us = omega arith
turns_appended (Reads e ∷ ts) us = turns_appended ts us
turns_appended (Writes e ∷ ts) us = turns_appended ts us
turns_appended (Announces (Own_reads e) ∷ ts) us = turns_appended ts us
turns_appended (Announces (Own_writes e) ∷ ts) us = turns_appended ts us
turns_appended (Announces Turn ∷ ts) us = let h = turns_appended ts us in omega arith
turns_appended (Announces (Makes bounds) ∷ ts) us = turns_appended ts us

pub turns_follow : {A B : Type 0} (r : Interaction A) (f : A → Interaction B) (a : A) (o : Orders) (s : Store) (j : ℕ) → answer_of r o s j ≡ Some a → turns (log_of (bind r f) o s j) ≡ turns (log_of r o s j) + turns (log_of (f a) o (store_of r o s j) (next_of r o s j))
turns_follow r f a o s j h = ap turns (follows r f a o s j h).log ∙ turns_appended (log_of r o s j) (log_of (f a) o (store_of r o s j) (next_of r o s j))

pub turns_stop : {A B : Type 0} (r : Interaction A) (f : A → Interaction B) (o : Orders) (s : Store) (j : ℕ) → answer_of r o s j ≡ None → turns (log_of (bind r f) o s j) ≡ turns (log_of r o s j)
turns_stop r f o s j h = ap turns (stops r f o s j h).log

turns_said : (u : Note) (ts us : List Event) → turns ts ≡ turns us → turns (Announces u ∷ ts) ≡ turns (Announces u ∷ us)
turns_said (Own_reads e) ts us h = h
turns_said (Own_writes e) ts us h = h
turns_said Turn ts us h = ap suc h
turns_said (Makes bounds) ts us h = h

pub turns_kept : {A : Type 0} (p : Element → Bool) (t : Store) (r : Interaction A) (o : Orders) (s : Store) (j : ℕ) → turns (log_of (keeping p t r) o s j) ≡ turns (log_of r o (merged p t s) j)
turns_kept p t (Done a) o s j = refl
turns_kept p t Trap o s j = refl
turns_kept {A} p t (Read e f) o s j = go (p e) refl (λ v. turns_kept p t (f v) o s j)
  where
    go : (b : Bool) → p e ≡ b → ((v : Value) → turns (log_of (keeping p t (f v)) o s j) ≡ turns (log_of (f v) o (merged p t s) j)) → turns (log_of (keeping p t (Read e f)) o s j) ≡ turns (log_of (Read e f) o (merged p t s) j)
    go true q ih = rw (q, merged-own p t s e q) (ih (t e))
    go false q ih = rw (q, merged-other p t s e q) (ih (s e))
turns_kept {A} p t (Write e v r) o s j = go (p e) refl (turns_kept p (put t e v) r o s j) (turns_kept p t r o (put s e v) j)
  where
    go : (b : Bool) → p e ≡ b → turns (log_of (keeping p (put t e v) r) o s j) ≡ turns (log_of r o (merged p (put t e v) s) j) → turns (log_of (keeping p t r) o (put s e v) j) ≡ turns (log_of r o (merged p t (put s e v)) j) → turns (log_of (keeping p t (Write e v r)) o s j) ≡ turns (log_of (Write e v r) o (merged p t s) j)
    go true q h g = rw q (h ∙ ap (λ u. turns (log_of r o u j)) (own_put p t s e v q))
    go false q h g = rw q (g ∙ ap (λ u. turns (log_of r o u j)) (other_put p t s e v q))
turns_kept p t (Order n f) o s j = turns_kept p t (f (o j n)) o s (suc j)
turns_kept p t (Announce u r) o s j = turns_said u _ _ (turns_kept p t r o s j)
