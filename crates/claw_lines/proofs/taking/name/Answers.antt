use Rattle.std.proofs.Common.{◌≡◌, IsTrue, subst, sym}
use Rattle.fort_tree.specs.Token.{is_token}
use Rattle.claw_lines.specs.Items.{name_text}
use Rattle.claw_lines.proofs.Texts.{read_token}
use Rattle.claw_lines.proofs.taking.name.Goals as goal

pub returns : goal.returns
returns c =
    let whole : IsTrue (is_token c.text.result.now) = subst (λ t. IsTrue (is_token t)) (sym c.text.ensures.text) c.text.ensures.whole in
    subst (λ t. c.read.result ≡ name_text t) c.text.ensures.text (read_token c.text.result.now c.read.result whole c.read.ensures.some c.read.ensures.value)
