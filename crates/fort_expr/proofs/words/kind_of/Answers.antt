use Rattle.std.proofs.Common.{◌≤◌, length, rules, sym, subst}
use Rattle.std.specs.Char.{is_ascii_digit}
use Rattle.std.proofs.lemmas.List.Sums.{prefix_len-le-length}
use Rattle.fort_expr.proofs.words.kind_of.Goals as goal

pub slice_bounds-suffix_kind-count : goal.slice_bounds-suffix_kind-count
slice_bounds-suffix_kind-count c = subst (λ n. n ≤ length c.args.text.now) (sym c.digit_count.ensures) (prefix_len-le-length is_ascii_digit c.args.text.now)

pub slice_bounds-suffix_kind-start : goal.slice_bounds-suffix_kind-start
slice_bounds-suffix_kind-start c =
    let h : c.digit_count.result ≤ length c.args.text.now = subst (λ n. n ≤ length c.args.text.now) (sym c.digit_count.ensures) (prefix_len-le-length is_ascii_digit c.args.text.now) in
    search rules
