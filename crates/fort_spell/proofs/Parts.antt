-- The units of a module.
use Rattle.std.proofs.Common.{◌≡◌, ℕ, ◌+◌, ◌<◌, length, drop, get_or, Bool, true, false, if◌then◌else◌, List, [], ◌∷◌, refl, ap, ◌∙◌, map, codes}
use Rattle.fort_tree.specs.declared.unit.Unit.{Unit as ProgramUnit}
use Rattle.fort_spell.specs.Pieces.{name_pieces}
use Rattle.fort_spell.specs.Rows.{all_rows, deeper, one_row}
use Rattle.fort_spell.specs.Units.{chosen_unit, contained_rows, has_some, is_host, unit_rows, units_of}
use Rattle.fort_spell.proofs.Forms.{dropped}

hosted_is : (b : Bool) (u : ProgramUnit) (us : List ProgramUnit) (n : ℕ) → all_rows (map unit_rows (if b then u ∷ us else us)) n ≡ (λ rs. chosen_unit b u n (all_rows (map unit_rows us) n rs))
hosted_is true u us n = refl
hosted_is false u us n = refl

pub next_hosted : (number : ℕ) (l : List ProgramUnit) (i : ℕ) (x : ProgramUnit) (n : ℕ) → i < length l → x ≡ get_or l i x →
    all_rows (map unit_rows (units_of number (drop i l))) n ≡ (λ rs. chosen_unit (is_host number x.host) x n (all_rows (map unit_rows (units_of number (drop (i + 1) l))) n rs))
next_hosted number l i x n h e = ap (λ q. all_rows (map unit_rows (units_of number q)) n) (dropped l i x h e) ∙ hosted_is (is_host number x.host) x (units_of number (drop (i + 1) l)) n

pub contained_is : (us : List ProgramUnit) (n : ℕ) → has_some us ≡ true → contained_rows us n ≡ (λ rs. one_row (name_pieces (codes "contains")) n (all_rows (map unit_rows us) (deeper n) rs))
contained_is [] n e = cc
contained_is (u ∷ us) n e = refl
