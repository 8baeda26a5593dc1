use Rattle.fort_arith.proofs.Division.{quotient_truncates, truncation_quotient, remainder_truncates, truncation_remainder, modulo_floors, floor_modulo}
use Rattle.fort_arith.proofs.laws.division.Goals as goal

pub returns-clause-quotient : goal.returns-clause-quotient
returns-clause-quotient c = λ a b q. (quotient_truncates a b q, λ t. truncation_quotient a b q t.0 t.1)

pub returns-clause-remainder : goal.returns-clause-remainder
returns-clause-remainder c = λ a p r. (remainder_truncates a p r, λ t. truncation_remainder a p t.0 r t.1)

pub returns-clause-modulo : goal.returns-clause-modulo
returns-clause-modulo c = λ a p r. (modulo_floors a p r, λ t. floor_modulo a p t.0 r t.1)
