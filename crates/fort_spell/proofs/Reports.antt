-- The parts of a report.
use Rattle.std.proofs.Common.{◌≡◌, ◌∙◌, ℕ, ◌≤◌, List, [], ◌∷◌, ◌++◌, length, sym, ap, subst, arith, append_assoc, length-append, take, codes}
use Rattle.std.specs.declared.option.Option.{Option}
use Rattle.std.specs.Prelude.{Result, Ok, Err, Some, OnOk, OnErr, decimal, slice_get, unwrap_or}
use Rattle.std.specs.Option.{option_map}
use Rattle.std.proofs.lemmas.List.{append-nil}
use Rattle.std.proofs.lemmas.Grind.{common_steps}
use Rattle.outside.specs.Counts.{Rose}
use Rattle.outside.specs.Taken.{Took, TookPrefix}
use Rattle.fort_tree.specs.declared.place.Place.{Place}
use Rattle.fort_tree.specs.Report.{position_text}
use Rattle.fort_spell.specs.Stream.{Put, bytes_alone, starting, ways}
use Rattle.outside.specs.Files.{Files}
use Rattle.fort_spell.specs.Report.{name_at}
use Rattle.fort_spell.proofs.Streams.{Ended, put_as}

-- The line, the colon and the column make a position.
pub position_parts : (place : Place) (k : List ℕ) → decimal place.line ++ (codes ":" ++ (decimal place.column ++ k)) ≡ position_text place ++ k
position_parts place k = sym (append_assoc (decimal place.line ++ codes ":") (decimal place.column) k
    ∙ append_assoc (decimal place.line) (codes ":") (decimal place.column ++ k))

-- The pieces of a report make the line.
pub report_parts : (file position code words details k : List ℕ) →
    file ++ (codes ":" ++ (position ++ (codes ": " ++ (code ++ (codes " " ++ (words ++ (details ++ (codes "\n" ++ k)))))))) ≡
    (file ++ codes ":" ++ position ++ codes ": " ++ code ++ codes " " ++ words ++ details ++ 10 ∷ []) ++ k
report_parts file position code words details k = simp append_assoc

-- Bytes that are put, in other words.
pub bytes_as : {Q E : Type 0} {x y : Result Q E} {a b : Option (List ℕ)} {f g : ℕ} (w v : List ℕ) → Put (bytes_alone {Q = Q}) x y a b f g (λ k. w ++ k) → w ≡ v → Put (bytes_alone {Q = Q}) x y a b f g (λ k. v ++ k)
bytes_as w v p e = put_as (λ k. w ++ k) (λ k. v ++ k) p (λ k. ap (λ z. z ++ k) e)

-- The name of a file that is listed.
pub listed_name : (files : Files) (index : ℕ) (name : List ℕ) → Some name ≡ option_map (λ file. file.0) (slice_get files index) → name ≡ name_at files index
listed_name files index name is = ap (λ (o : Option (List ℕ)). unwrap_or o []) is

-- What bytes say of the sink once all are put.
took : {E : Type 0} (r : Result (Unit {0}) E) (a b : Option (List ℕ)) (f g : ℕ) (w : List ℕ) → ways (starting {E = E}) r a b f g (λ s k. w ++ k) (bytes_alone {Q = Unit {0}}) → OnOk r (Took a b w)
took (Ok x) a b f g w p = subst (λ z. Took a b z) (sym (append-nil p.bytes) ∙ p.whole [] ∙ append-nil w) p.taken
took (Err x) a b f g w p = tt

take_front : (x y : List ℕ) → take (length x) (x ++ y) ≡ x
take_front x y = grind (arith, common_steps)

prefix_of : (x y z : List ℕ) → x ++ y ≡ z → take (length x) z ≡ x
prefix_of x y z e = ap (take (length x)) (sym e) ∙ take_front x y

part : {E : Type 0} (r : Result (Unit {0}) E) (a b : Option (List ℕ)) (f g : ℕ) (w : List ℕ) → ways (starting {E = E}) r a b f g (λ s k. w ++ k) (bytes_alone {Q = Unit {0}}) → OnErr r (TookPrefix a b w)
part (Ok x) a b f g w p = tt
part (Err x) a b f g w p =
    let same : p.bytes ++ (p.prefix []).0 ≡ w = (p.prefix []).1.1 ∙ append-nil w in
    record {
      count = length p.bytes;
      within = omega (arith, ap length same, length-append p.bytes (p.prefix []).0, (p.prefix []).1.0);
      taken = subst (λ z. Took a b z) (sym (prefix_of p.bytes (p.prefix []).0 w same)) p.taken;
    }

rose : {E : Type 0} (r : Result (Unit {0}) E) (a b : Option (List ℕ)) (f g : ℕ) (w : List ℕ) → ways (starting {E = E}) r a b f g (λ s k. w ++ k) (bytes_alone {Q = Unit {0}}) → OnErr r (Rose f g)
rose (Ok x) a b f g w p = tt
rose (Err x) a b f g w p = p.rose

later : {E : Type 0} (r : Result (Unit {0}) E) (a b : Option (List ℕ)) (f g : ℕ) (w : List ℕ) → ways (starting {E = E}) r a b f g (λ s k. w ++ k) (bytes_alone {Q = Unit {0}}) → f ≤ g
later (Ok x) a b f g w p = p.later
later (Err x) a b f g w p = p.later

pub bytes_ended : {E : Type 0} (r : Result (Unit {0}) E) (a b : Option (List ℕ)) (f g : ℕ) (w : List ℕ) → Put bytes_alone (starting {E = E}) r a b f g (λ k. w ++ k) → Ended r a b f g w
bytes_ended r a b f g w p = record { later = later r a b f g w p.way; took = took r a b f g w p.way; part = part r a b f g w p.way; rose = rose r a b f g w p.way }
