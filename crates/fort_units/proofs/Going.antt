-- A step over the lines.
use Rattle.std.proofs.Common.{◌≡◌, ℕ, ◌+◌, ◌<◌, List, ◌∷◌, ◌++◌, Option, sym, ap, ◌∙◌, length, get_or, drop}
use Rattle.std.proofs.lemmas.List.{at_drop_more}
use Rattle.fort_tree.specs.declared.choice.Mode.{Mode}
use Rattle.fort_tree.specs.declared.fault.Fault.{Fault}
use Rattle.fort_units.specs.declared.around.Around.{Around}
use Rattle.fort_units.specs.declared.item.Item.{Item}
use Rattle.fort_units.specs.Faults.{at_item}
use Rattle.fort_units.specs.Passing.{noted, faults_from, left_behind, entered, behind, file_of}
use Rattle.fort_units.proofs.Noting.{noted_append}

pub pass_step : (mode : Mode) (o : Around) (first : Option Fault) (items : List Item) (i : ℕ) (x : Item) → i < length items → x ≡ get_or items i x →
    noted first (faults_from mode o (drop i items))
    ≡ noted (noted first (left_behind (file_of x) o ++ at_item mode (entered (file_of x) o) x)) (faults_from mode (behind mode (entered (file_of x) o) x) (drop (i + 1) items))
pass_step mode o first items i x h e =
    at_drop_more (λ is. noted first (faults_from mode o is)) items i x h ∙ ap (λ y. noted first (faults_from mode o (y ∷ drop (i + 1) items))) (sym e)
    ∙ noted_append first (left_behind (file_of x) o ++ at_item mode (entered (file_of x) o) x) (faults_from mode (behind mode (entered (file_of x) o) x) (drop (i + 1) items))

-- what all lines come to stays the same
pub pass_more : (mode : Mode) (o p : Around) (first later : Option Fault) (items : List Item) (i : ℕ) (x : Item) (all : Option Fault) → i < length items → x ≡ get_or items i x →
    p ≡ behind mode (entered (file_of x) o) x → later ≡ noted first (left_behind (file_of x) o ++ at_item mode (entered (file_of x) o) x) → noted first (faults_from mode o (drop i items)) ≡ all →
    noted later (faults_from mode p (drop (i + 1) items)) ≡ all
pass_more mode o p first later items i x all h e is notes before =
    ap (λ q. noted later (faults_from mode q (drop (i + 1) items))) is
    ∙ (ap (λ f. noted f (faults_from mode (behind mode (entered (file_of x) o) x) (drop (i + 1) items))) notes ∙ (sym (pass_step mode o first items i x h e) ∙ before))
