-- A course in lock step that is orderly serves all columns under every plan and schedule.
use Rattle.std.proofs.Common.{ℤ, List, ap}
use Rattle.std.specs.Prelude.{is_some}
use Rattle.courses.specs.Element.{Store}
use Rattle.courses.specs.Course.{Course, Way, line}
use Rattle.courses.specs.Weaving.{rising, IsOrderly}
use Rattle.courses.specs.Plans.{Plan, orders_of}
use Rattle.courses.specs.Columns.{Varying, Knowledge, Knows, Lockstep, Serves}
use Rattle.courses.proofs.Wovens.{woven_alike, orderly_so, all_apart}
use Rattle.courses.proofs.Planned.{fair_plan}
use Rattle.courses.proofs.Two_lines.{lines_alike}

pub serves_so : (vary : Varying) (cols : List ℤ) (pre post : Knowledge) (r q : Course Way) → Lockstep vary cols pre post (line r) (line q) → IsOrderly q → (s : Store) → Knows pre s → (plan : Plan) → Serves vary cols r q s plan
serves_so vary cols pre post r q l h s knows plan =
    let fair = fair_plan plan in
    record {
      traps = λ c m t. l.traps (orders_of plan) s 0 rising (λ c. 0) fair knows c m t;
      ends = λ t.
          let k = l.ends (orders_of plan) s 0 rising (λ c. 0) fair knows t in
          (ap is_some k.wide, k.store);
      apart = all_apart q (orderly_so q h) (orders_of plan) fair s 0;
      woven = λ ks. woven_alike q h ks (orders_of plan) fair s 0;
      lines = λ ks. lines_alike q h ks (orders_of plan) fair s 0;
    }
