-- Ways and cycles when all links are turned.
use Rattle.std.proofs.Common.{◌≡◌, ℕ, true, List, sym, arith}
use Rattle.numbered_graph.specs.Graphs.{Rows, row, stands, Way, here, onwards, IsGraph, IsReverse, IsOrder}
use Rattle.numbered_graph.proofs.Times.{stands_if, times_if}
use Rattle.numbered_graph.proofs.Ways.{joined}
use Rattle.numbered_graph.proofs.Peeling.{callers_within}

pub turned_back : (rows back : Rows) → IsReverse rows back → IsReverse back rows
turned_back rows back reverse = record { same_length = sym reverse.same_length; turned = λ x y. sym (reverse.turned y x) }

pub turned_graph : (rows back : Rows) → IsReverse rows back → IsGraph back
turned_graph rows back reverse = record { within = λ x y e. omega (arith, callers_within rows back reverse x y e, reverse.same_length) }

turned_link : (rows back : Rows) → IsReverse rows back → (x y : ℕ) → stands y (row rows x) ≡ true → stands x (row back y) ≡ true
turned_link rows back reverse x y e = stands_if x (row back y) (omega (arith, times_if y (row rows x) e, reverse.turned x y))

turned_way : (rows back : Rows) → IsReverse rows back → {x y : ℕ} → Way rows x y → Way back y x
turned_way rows back reverse here = here
turned_way rows back reverse (onwards {x = x} {y = y} link way) = joined back (turned_way rows back reverse way) (onwards (turned_link rows back reverse x y link) here)

-- what no cycle leads to lies on none
pub off_cycles : (rows back : Rows) (order : List ℕ) → IsReverse rows back → IsOrder back order → (x y : ℕ) → stands x order ≡ true → stands y (row rows x) ≡ true → Way rows y x → ⊥
off_cycles rows back order reverse is_order x y there link way =
    let across : Way back x y = turned_way rows back reverse way in
    is_order.none_on_cycle x there (record { from = y; to = x; way = across; link = turned_link rows back reverse x y link; back = across })
