use Rattle.std.proofs.Common.{◌≡◌, ap, ◌∙◌, subst}
use Rattle.std.specs.Result.{OnOk}
use Rattle.numbered_graph.specs.Peeling.{can_release, released}
use Rattle.numbered_graph.proofs.Peeling.{row_read}
use Rattle.numbered_graph.proofs.peeled.Peeling.go_through.Goals as goal

-- src/peeled.rt
pub release-requires : goal.release-requires
release-requires c =
    ap (can_release c.args.self.now) (c.numbers.ensures ∙ row_read c.args.back.now c.args.point c.index-back-point.result c.requires.within c.index-back-point.is) ∙ c.requires.can

pub returns : goal.returns
returns c =
    subst (λ l. OnOk c.release.result (c.release.new.self ≡ released c.args.self.now l))
    (c.numbers.ensures ∙ row_read c.args.back.now c.args.point c.index-back-point.result c.requires.within c.index-back-point.is) c.release.ensures
