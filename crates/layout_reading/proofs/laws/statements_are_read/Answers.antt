use Rattle.layout_reading.proofs.Standing.{statement_stands}
use Rattle.layout_reading.proofs.Statements.{form_fits, statement_again}
use Rattle.layout_reading.proofs.Expressions.{all_real}
use Rattle.layout_reading.proofs.laws.statements_are_read.Goals as goal

pub returns-clause-apart : goal.returns-clause-apart
returns-clause-apart c s h o = statement_stands _ (form_fits h.form (all_real h.tokens)) o

pub returns-clause-derived : goal.returns-clause-derived
returns-clause-derived c s tokens h o e =
    let a = statement_again _ tokens (form_fits h.form (all_real h.tokens)) o e in
    record { statement = a.statement; form = a.form; same = a.same }
