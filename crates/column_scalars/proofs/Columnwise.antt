-- All columns one after another do what each does alone.
use Rattle.std.proofs.Common.{◌≡◌, ℕ, zero, suc, ℤ, pos, ◌+ℤ◌, ◌≤ℤ◌, refl, ap, sym, ◌∙◌, subst, List, [], ◌∷◌, Option, Some, None, Contains, ⊎_elim, arith}
use Rattle.std.proofs.lemmas.Int.{ints}
use lib.Signed.{≤ℤ_refl}
use Rattle.std.specs.Prelude.{⊤}
use Rattle.std.specs.Option.{option_and_then, option_map}
use Rattle.courses.specs.Element.{Undefined, Whole, Element, Store, put}
use Rattle.courses.specs.Ranges.{wholes, extent}
use Rattle.claw_meaning.specs.Syntax.{Text, Expr}
use Rattle.column_scalars.specs.Scalars.{Scalars, IsScalars, AreSums}
use Rattle.column_scalars.specs.Model.{scalar_of, cell_of, ran, ran_each, ran_all, AreColumnwise}
use Rattle.column_scalars.proofs.Members.{first_is, later_is, none_is, member_cases}
use Rattle.column_scalars.proofs.Places.{put_apart, cell_column, cell_name, scalar_name, cell_scalar}
use Rattle.column_scalars.proofs.Agreeing.{no_some, some_same, BothEnd, runs_agree, ran_stays}
use Rattle.column_scalars.proofs.Turns.{upward, wholes_upward}

-- no number is there twice
abbrev Unlike : List ℤ → Type 0
Unlike [] = ⊤
Unlike (c ∷ cs) = (Contains cs c → ⊥) × Unlike cs

onward : (low c : ℤ) → (low +ℤ pos 1) ≤ℤ c → low ≤ℤ c
onward low c h = omega (arith, ints)

above : (n : ℕ) (low c : ℤ) → Contains (upward low n) c → low ≤ℤ c
above zero low c h = absurd (none_is c h)
above (suc n) low c h = ⊎_elim (λ e. subst (λ d. low ≤ℤ d) e (≤ℤ_refl low)) (λ k. onward low c (above n (low +ℤ pos 1) c k)) (member_cases low (upward (low +ℤ pos 1) n) c h)

too_low : (low : ℤ) → (low +ℤ pos 1) ≤ℤ low → ⊥
too_low low h = omega (arith, ints)

upward_unlike : (n : ℕ) (low : ℤ) → Unlike (upward low n)
upward_unlike zero low = tt
upward_unlike (suc n) low = (λ h. too_low low (above n (low +ℤ pos 1) low h), upward_unlike n (low +ℤ pos 1))

wholes_unlike : (low high : ℤ) → Unlike (wholes low high)
wholes_unlike low high = subst Unlike (sym (wholes_upward low (extent low high))) (upward_unlike (extent low high) low)

none_ends : (names : List Text) (at at' : Text → Element) (r : Option Store) → BothEnd names at at' None r → r ≡ None
none_ends names at at' None h = refl
none_ends names at at' (Some t) h = absurd h

module _ (home id : Text) (names : List Text) where
  abbrev AreCells : List ℤ → Store → (ℤ → Store) → Type 0
  AreCells cs s each = (c : ℤ) → Contains cs c → (x : Text) → Contains names x → each c (scalar_of home x) ≡ s (cell_of home c x)

  -- this result of all columns is what each leaves alone
  record Each (assigned : List (Text × Expr)) (cs : List ℤ) (s : Store) (each : ℤ → Store) (result : Option Store) : Type 0 where
    traps : (c : ℤ) → Contains cs c → ran (scalar_of home) assigned (each c) ≡ None → result ≡ None
    trapped : result ≡ None → (c : ℤ) × Contains cs c × (ran (scalar_of home) assigned (each c) ≡ None)
    ends : (t : Store) → result ≡ Some t → (c : ℤ) → Contains cs c → (last : Store) → ran (scalar_of home) assigned (each c) ≡ Some last → (x : Text) → Contains names x → t (cell_of home c x) ≡ last (scalar_of home x)
    stays : (t : Store) → result ≡ Some t → (e : Element) → ((c : ℤ) (x : Text) → Contains cs c → Contains names x → e ≡ cell_of home c x → ⊥) → (e ≡ scalar_of home id → ⊥) → t e ≡ s e

  no_column : (assigned : List (Text × Expr)) (s : Store) (each : ℤ → Store) → Each assigned [] s each (Some s)
  no_column assigned s each = record {
    traps = λ c h k. absurd (none_is c h);
    trapped = λ k. no_some s (sym k);
    ends = λ t k c h. absurd (none_is c h);
    stays = λ t k e n m. ap (λ q. q e) (sym (some_same s t k));
  }

  first_traps : (assigned : List (Text × Expr)) (c : ℤ) (cs : List ℤ) (s : Store) (each : ℤ → Store) → ran (scalar_of home) assigned (each c) ≡ None → Each assigned (c ∷ cs) s each None
  first_traps assigned c cs s each n = record {
    traps = λ d h k. refl;
    trapped = λ k. (c, first_is c cs, n);
    ends = λ t k. no_some t k;
    stays = λ t k. no_some t k;
  }

  first_ends : (assigned : List (Text × Expr)) (sums : AreSums names assigned) (c : ℤ) (cs : List ℤ) → (Contains cs c → ⊥) → (s t : Store) (each : ℤ → Store) (result : Option Store)
      → ran (cell_of home c) assigned (put s (scalar_of home id) (Whole c)) ≡ Some t → BothEnd names (cell_of home c) (scalar_of home) (Some t) (ran (scalar_of home) assigned (each c))
      → Each assigned cs t each result → Each assigned (c ∷ cs) s each result
  first_ends assigned sums c cs other s t each result r both later = record {
    traps = λ d h k. ⊎_elim
        (λ e. absurd (subst (BothEnd names (cell_of home c) (scalar_of home) (Some t)) (ap (λ b. ran (scalar_of home) assigned (each b)) e ∙ k) both))
        (λ m. later.traps d m k) (member_cases c cs d h);
    trapped = λ k. let w = later.trapped k in (w.0, later_is c cs w.0 w.1, w.2);
    ends = λ end k d h last l x m. ⊎_elim
        (λ e. subst (λ b. end (cell_of home b x) ≡ last (scalar_of home x)) e
        (later.stays end k (cell_of home c x) (λ b y n w q. other (subst (Contains cs) (sym (cell_column home c b x y q)) n)) (cell_scalar home c x id)
        ∙ subst (BothEnd names (cell_of home c) (scalar_of home) (Some t)) (ap (λ b. ran (scalar_of home) assigned (each b)) e ∙ l) both x m))
        (λ n. later.ends end k d n last l x m) (member_cases c cs d h);
    stays = λ end k e n m.
        later.stays end k e (λ b y w z q. n b y (later_is c cs b w) z q) m
        ∙ ran_stays names (cell_of home c) e (λ x h q. n c x (first_is c cs) h q) assigned sums (put s (scalar_of home id) (Whole c)) t r
        ∙ put_apart s (scalar_of home id) (Whole c) e (λ q. m (sym q));
  }

  each_column : (assigned : List (Text × Expr)) (sums : AreSums names assigned) (cs : List ℤ) → Unlike cs → (s : Store) (each : ℤ → Store) → AreCells cs s each → Each assigned cs s each (ran_each home id assigned cs s)
  each_column assigned sums [] unlike s each cells = no_column assigned s each
  each_column assigned sums (c ∷ cs) unlike s each cells =
      go (ran (cell_of home c) assigned begun) refl
      (runs_agree names (cell_of home c) (scalar_of home) (cell_name home c c) (scalar_name home) assigned sums begun (each c)
      (λ x h. put_apart s (scalar_of home id) (Whole c) (cell_of home c x) (λ q. cell_scalar home c x id (sym q)) ∙ sym (cells c (first_is c cs) x h)))
      (λ t. each_column assigned sums cs unlike.1 t each)
    where
      begun : Store
      begun = put s (scalar_of home id) (Whole c)

      kept : (t : Store) → ran (cell_of home c) assigned begun ≡ Some t → AreCells cs t each
      kept t r d h x m =
          cells d (later_is c cs d h) x m
          ∙ sym (ran_stays names (cell_of home c) (cell_of home d x) (λ y n q. unlike.0 (subst (Contains cs) (cell_column home d c x y q) h)) assigned sums begun t r
          ∙ put_apart s (scalar_of home id) (Whole c) (cell_of home d x) (λ q. cell_scalar home d x id (sym q)))

      go : (r : Option Store) → ran (cell_of home c) assigned begun ≡ r → BothEnd names (cell_of home c) (scalar_of home) r (ran (scalar_of home) assigned (each c))
          → ((t : Store) → AreCells cs t each → Each assigned cs t each (ran_each home id assigned cs t)) → Each assigned (c ∷ cs) s each (option_and_then (ran_each home id assigned cs) r)
      go None e both rest = first_traps assigned c cs s each (none_ends names (cell_of home c) (scalar_of home) (ran (scalar_of home) assigned (each c)) both)
      go (Some t) e both rest = first_ends assigned sums c cs unlike.0 s t each (ran_each home id assigned cs t) e both (rest t (kept t e))

  behind : (assigned : List (Text × Expr)) (cs : List ℤ) (s : Store) (each : ℤ → Store) (result : Option Store) → Each assigned cs s each result → Each assigned cs s each (option_map (λ t. put t (scalar_of home id) Undefined) result)
  behind assigned cs s each None all = all
  behind assigned cs s each (Some t) all = record {
    traps = λ c h k. no_some t (sym (all.traps c h k));
    trapped = λ k. no_some (put t (scalar_of home id) Undefined) (sym k);
    ends = λ end k c h last l x m.
        ap (λ q. q (cell_of home c x)) (sym (some_same (put t (scalar_of home id) Undefined) end k))
        ∙ put_apart t (scalar_of home id) Undefined (cell_of home c x) (λ q. cell_scalar home c x id (sym q))
        ∙ all.ends t refl c h last l x m;
    stays = λ end k e n m.
        ap (λ q. q e) (sym (some_same (put t (scalar_of home id) Undefined) end k))
        ∙ put_apart t (scalar_of home id) Undefined e (λ q. m (sym q))
        ∙ all.stays t refl e n m;
  }

  all_columns : (assigned : List (Text × Expr)) (sums : AreSums names assigned) (cs : List ℤ) → Unlike cs → (s : Store) (each : ℤ → Store) → AreCells cs s each → Each assigned cs s each (ran_all home id assigned cs s)
  all_columns [] sums cs unlike s each cells = record {
    traps = λ c h k. no_some (each c) (sym k);
    trapped = λ k. no_some s (sym k);
    ends = λ t k c h last l x m. ap (λ q. q (cell_of home c x)) (sym (some_same s t k)) ∙ sym (cells c h x m) ∙ ap (λ q. q (scalar_of home x)) (some_same (each c) last l);
    stays = λ t k e n m. ap (λ q. q e) (sym (some_same s t k));
  }
  all_columns (a ∷ rest) sums cs unlike s each cells =
      behind (a ∷ rest) cs s each (ran_each home id (a ∷ rest) cs s) (each_column (a ∷ rest) sums cs unlike s each cells)

pub are_columnwise : (u : Scalars) → IsScalars u → AreColumnwise u
are_columnwise u i upper s each cells =
    let all = all_columns u.name u.id u.dummies u.assigned i.assigned (wholes (pos u.lower) upper) (wholes_unlike (pos u.lower) upper) s each cells in
    record { traps = all.traps; trapped = all.trapped; ends = all.ends; stays = all.stays }
