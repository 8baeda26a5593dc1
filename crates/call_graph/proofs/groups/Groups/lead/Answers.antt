use Rattle.std.proofs.Common.{◌∙◌, sym, refl}
use Rattle.std.proofs.lemmas.Bool.{false≢true}
use Rattle.call_graph.proofs.Rooting.{none_leads, one_leads}
use Rattle.call_graph.proofs.groups.Groups.lead.Goals as goal

-- src/groups.rt
pub returns-then-is_apart : goal.returns-then-is_apart
returns-then-is_apart c = (λ e. absurd (false≢true e), λ way. absurd (none_leads c.args.rows.now c.args.self.now c.args.from c.args.to c.requires.groups (sym c.is_apart.ensures ∙ c.if-is_apart.true) way))

pub returns-then-is_joined : goal.returns-then-is_joined
returns-then-is_joined c = (λ e. one_leads c.args.rows.now c.args.self.now c.args.from c.args.to c.requires.groups (sym c.is_joined.ensures ∙ c.if-is_joined.true), λ way. refl)
