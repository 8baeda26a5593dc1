-- The variables that the first units of a file name, unit by unit.
use Rattle.std.proofs.Common.{◌≡◌, ℕ, zero, suc, ◌+◌, ◌<◌, Bool, true, false, nat_eq, List, [], ◌∷◌, ◌++◌, length, get_or, Some, refl, sym, ap, ◌∙◌, subst, arith}
use Rattle.std.specs.Prelude.{slice_get}
use Rattle.std.proofs.lemmas.Bool.Decides.{nat_tests}
use Rattle.std.proofs.lemmas.List.{map-append}
use Rattle.std.proofs.lemmas.Option.{slice_get_within}
use Rattle.fort_tree.specs.declared.unit.File.{File}
use Rattle.fort_tree.specs.declared.unit.Unit as tree_unit
use Rattle.claw_meaning.specs.Syntax.{Text}
use Rattle.numbered_graph.proofs.Times.{same_number}
use Rattle.sound_programs.specs.ArgumentFaults.{module_variables_of}
use Rattle.sound_programs.specs.Placed.{bare_program}
use Rattle.sound_programs.specs.Placing.{placed, placed_unit}
use Rattle.argument_faults.specs.declared.module_names.ModuleVariable.{ModuleVariable}
use Rattle.argument_faults.specs.ModuleNames.{HasSame, pairs, rows_of}
use Rattle.argument_faults.specs.Reaching.{AreNamed}

pub one_unit : (v w : tree_unit.Unit) → Some v ≡ Some w → v ≡ w
one_unit v w e = cc

other : (k n : ℕ) → k < n + 1 → nat_eq k n ≡ false → k < n
other k n h e = grind (arith, nat_tests)

pub record AreNamedUpTo (f : File) (n : ℕ) (rows : List (List (Text × Text))) : Type 0 where
  pub same_length : length rows ≡ n
  pub named : (k : ℕ) (u : tree_unit.Unit) → k < n → slice_get f.units k ≡ Some u → HasSame (get_or rows k []) (module_variables_of (bare_program (placed f)) (placed_unit u))

earlier : (rows : List (List (Text × Text))) (row : List (Text × Text)) (k : ℕ) → k < length rows → get_or (rows ++ row ∷ []) k [] ≡ get_or rows k []
earlier [] row k h = absurd (omega (arith, h))
earlier (r ∷ rows) row zero h = refl
earlier (r ∷ rows) row (suc k) h = earlier rows row k (omega (arith, h))

newest : (rows : List (List (Text × Text))) (row : List (Text × Text)) (k : ℕ) → k ≡ length rows → get_or (rows ++ row ∷ []) k [] ≡ row
newest [] row zero e = refl
newest [] row (suc k) e = absurd (omega (arith, e))
newest (r ∷ rows) row zero e = absurd (omega (arith, e))
newest (r ∷ rows) row (suc k) e = newest rows row k (omega (arith, e))

one_longer : (rows : List (List (Text × Text))) (row : List (Text × Text)) → length (rows ++ row ∷ []) ≡ length rows + 1
one_longer [] row = refl
one_longer (r ∷ rows) row = omega (arith, one_longer rows row)

pub named_more : (f : File) (n : ℕ) (rows : List (List ModuleVariable)) (row : List ModuleVariable) (u : tree_unit.Unit) → slice_get f.units n ≡ Some u
    → HasSame (pairs row) (module_variables_of (bare_program (placed f)) (placed_unit u)) → AreNamedUpTo f n (rows_of rows) → AreNamedUpTo f (n + 1) (rows_of (rows ++ row ∷ []))
named_more f n rows row u there own so_far = subst (AreNamedUpTo f (n + 1)) (sym (map-append pairs rows (row ∷ []))) (record {
  same_length = omega (arith, one_longer (rows_of rows) (pairs row), so_far.same_length);
  named = λ k v h at. go k v h at (nat_eq k n) refl;
})
  where
    go : (k : ℕ) (v : tree_unit.Unit) → k < n + 1 → slice_get f.units k ≡ Some v → (b : Bool) → nat_eq k n ≡ b → HasSame (get_or (rows_of rows ++ pairs row ∷ []) k []) (module_variables_of (bare_program (placed f)) (placed_unit v))
    go k v h at true e =
        let same : k ≡ n = same_number k n e in
        let this : u ≡ v = one_unit u v (sym there ∙ ap (slice_get f.units) (sym same) ∙ at) in
        subst (λ l. HasSame l (module_variables_of (bare_program (placed f)) (placed_unit v))) (sym (newest (rows_of rows) (pairs row) k (same ∙ sym so_far.same_length)))
        (subst (λ w. HasSame (pairs row) (module_variables_of (bare_program (placed f)) (placed_unit w))) this own)
    go k v h at false e =
        let apart : k < n = other k n h e in
        subst (λ l. HasSame l (module_variables_of (bare_program (placed f)) (placed_unit v))) (sym (earlier (rows_of rows) (pairs row) k (omega (arith, apart, so_far.same_length)))) (so_far.named k v apart at)

pub named_none : (f : File) → AreNamedUpTo f 0 []
named_none f = record { same_length = refl; named = λ k u h at. absurd (omega (arith, h)) }

pub named_all : (f : File) (n : ℕ) (rows : List (List (Text × Text))) → n ≡ length f.units → AreNamedUpTo f n rows → AreNamed f rows
named_all f n rows e so_far = record { same_length = so_far.same_length ∙ e; named = λ k u at. so_far.named k u (omega (arith, slice_get_within f.units k u at, e)) at }
