use Rattle.std.proofs.Common.{◌≡◌, ◌<◌, length, arith, Some, subst, sym, take, [], ◌∷◌, ◌++◌, true, false, is_some}
use Rattle.std.proofs.lemmas.List.{length-take-le}
use Rattle.indexmap.specs.IndexMap.{get, Updates}
use Rattle.fort_names.specs.NameLists.{IsFirstOfEach}
use Rattle.fort_names.proofs.Placing.{new_key, old_key, up_to_next}
use Rattle.fort_names.proofs.firsts.first_of_each.Goals as goal
use Rattle.fort_names.proofs.firsts.first_of_each.Goals.{then-not-contains_key+in_ok-insert, else-not-contains_key}

-- src/firsts.rt
pub loop-i-preserved : goal.loop-i-preserved
loop-i-preserved g c =
    let eq = g.K.PartialEq.eq in
    let keys = c.args.keys.now in
    let i = c.loop-i.i in
    let item = c.index-keys-i.result in
    let within : i < length keys = omega arith in
    let len : length (take i keys) ≡ i = length-take-le i keys (omega arith) in
    up_to_next eq keys i item c.if-not-contains_key.first within c.index-keys-i.is
    (elim c.if-not-contains_key.branch [
      | then-not-contains_key+in_ok-insert w ↦
          let absent : is_some (get eq c.loop-i.first item) ≡ false = cc in
          let at : Updates eq c.loop-i.first w.insert.new.self item (Some (length (take i keys))) =
          subst (λ n. Updates eq c.loop-i.first w.insert.new.self item (Some n)) (sym len) w.in_ok-insert.ensures.updates in
          subst (λ m. IsFirstOfEach eq (take i keys ++ item ∷ []) m) (sym w.first-is) (new_key eq g.met.K.Eq.laws (take i keys) item c.loop-i.first w.insert.new.self c.loop-i.invariant absent at)
      | else-not-contains_key w ↦
          let there : is_some (get eq c.loop-i.first item) ≡ true = cc in
          subst (λ m. IsFirstOfEach eq (take i keys ++ item ∷ []) m) (sym w.first-is) (old_key eq g.met.K.Eq.laws (take i keys) item c.loop-i.first c.loop-i.invariant there)
    ])
