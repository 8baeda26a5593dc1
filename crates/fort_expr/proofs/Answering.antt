-- From the tokens of a part of the line to those of the line.
use Rattle.std.proofs.Common.{◌≡◌, ℕ, ◌-◌, List, take, drop, length, None, Some, refl, sym, subst, arith}
use Rattle.std.proofs.lemmas.List.{take_all, length-drop}
use Rattle.fort_tree.specs.declared.choice.Mode.{Mode}
use Rattle.fort_tree.specs.declared.fault.Code.{Code}
use Rattle.fort_tree.specs.declared.fault.Fault.{Fault}
use Rattle.fort_tree.specs.declared.place.Place.{Place}
use Rattle.fort_tree.specs.declared.statement.Token.{Token}
use Rattle.fort_expr.specs.declared.parsing.Outcome.{Outcome}
use Rattle.fort_expr.specs.Faults.{FaultAt, Parses, place_at}

pub fault-at : (tokens : List Token) (n : ℕ) (c : Code) (k : ℕ) (f : Fault) (p : Place) → f ≡ record { code = c; place = p; item = k; first = None; second = None } → Some p ≡ place_at tokens n → FaultAt tokens n c k f
fault-at tokens n c k f p e h = subst (FaultAt tokens n c k) (sym e) (record { code = refl; place = h; item = refl; first = refl; second = refl })

pub from-part : (o q : Outcome) (mode : Mode) (tokens items : List Token) (at : ℕ) → q ≡ o → items ≡ tokens → Parses q mode (take (length items - at) (drop at items)) → Parses o mode (drop at tokens)
from-part o q mode tokens items at e f h =
    let all : take (length items - at) (drop at items) ≡ drop at items = take_all (length items - at) (drop at items) (let l : length (drop at items) ≡ length items - at = length-drop at items in omega (arith, l)) in
    subst (λ l. Parses o mode (drop at l)) f (subst (Parses o mode) all (subst (λ r. Parses r mode (take (length items - at) (drop at items))) e h))
