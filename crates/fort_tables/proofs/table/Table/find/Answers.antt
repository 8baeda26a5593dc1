use Rattle.std.proofs.Common.{◌≡◌, ◌<◌, ◌+◌, ◌-◌, ◌/◌, ℕ, length, ◌∙◌, sym, subst, arith}
use Rattle.std.proofs.lemmas.List.{length-map}
use Rattle.fort_tables.specs.Order.{texts}
use Rattle.fort_tables.proofs.Ordered.{less-before, greater-before, equal-same}
use Rattle.fort_tables.proofs.Halving.{Narrowed, narrowed-whole, narrowed-left, narrowed-right, found, missed, compared, middle-low, middle-high}
use Rattle.fort_tables.proofs.table.Table.find.Goals as goal

pub loop-low-init : goal.loop-low-init
loop-low-init g c =
    let words = c.args.self.now.words.now in
    subst (Narrowed (texts words) c.args.text.now 0) (length-map words (λ w. w.now) ∙ c.args.self.now.count) (narrowed-whole (texts words) c.args.text.now)

pub loop-low-preserved-in-Less : goal.loop-low-preserved-in-Less
loop-low-preserved-in-Less g c =
    let words = c.args.self.now.words.now in
    let low = c.loop-low.low in
    let high = c.loop-low.high in
    let m : ℕ = low + (high - low) / 2 in
    let within : m < length words = omega (arith, middle-high low high c.loop-low-test.true, c.loop-low.invariant.bound, length-map words (λ w. w.now)) in
    narrowed-left (texts words) c.args.text.now low high m c.args.self.now.ascending c.loop-low.invariant (middle-low low high) (middle-high low high c.loop-low-test.true)
    (less-before c.args.text.now _ (compared words c.args.text.now m _ c.cmp.result _ within c.cmp.ensures c.in-Less.is))

pub loop-low-preserved : goal.loop-low-preserved
loop-low-preserved g c =
    let words = c.args.self.now.words.now in
    let low = c.loop-low.low in
    let high = c.loop-low.high in
    let m : ℕ = low + (high - low) / 2 in
    let within : m < length words = omega (arith, middle-high low high c.loop-low-test.true, c.loop-low.invariant.bound, length-map words (λ w. w.now)) in
    narrowed-right (texts words) c.args.text.now low high m c.args.self.now.ascending c.loop-low.invariant (middle-low low high) (middle-high low high c.loop-low-test.true)
    (greater-before c.args.text.now _ (compared words c.args.text.now m _ c.cmp.result _ within c.cmp.ensures c.in-Greater.is))

pub returns-in-Equal : goal.returns-in-Equal
returns-in-Equal g c =
    let words = c.args.self.now.words.now in
    let low = c.loop-low.low in
    let high = c.loop-low.high in
    let m : ℕ = low + (high - low) / 2 in
    let count : length (texts words) ≡ g.row.N = length-map words (λ w. w.now) ∙ c.args.self.now.count in
    let within : m < g.row.N = omega (arith, middle-high low high c.loop-low-test.true, c.loop-low.invariant.bound, count) in
    let inside : m < length words = omega (arith, within, c.args.self.now.count) in
    found (texts words) c.args.text.now g.row.N m count c.args.self.now.ascending within
    (sym (equal-same c.args.text.now _ (compared words c.args.text.now m _ c.cmp.result _ inside c.cmp.ensures c.in-Equal.is)))

pub returns : goal.returns
returns g c =
    let words = c.args.self.now.words.now in
    missed (texts words) c.args.text.now g.row.N c.loop-low.low c.loop-low.high (length-map words (λ w. w.now) ∙ c.args.self.now.count) c.loop-low.invariant (omega (arith, c.loop-low-test.false))
