use Rattle.std.proofs.Common.{◌≡◌, true, sym, ap, ◌∙◌, None}
use Rattle.kind_faults.specs.Spans.{ascends}
use Rattle.kind_faults.proofs.Apart.{apart}
use Rattle.kind_faults.proofs.spans.are_apart.Goals as goal

-- src/spans.rt
pub returns : goal.returns
returns c =
    λ (h : c.ascend.result ≡ true). apart c.args.choices.now c.in_ok-spans.spans.items c.sort_by_key.new.self.items c.in_ok-spans.ensures c.sort_by_key.ensures.permutation
    (ap (ascends None) (sym c.as_slice.ensures.value) ∙ (sym c.ascend.ensures ∙ h))
