use Rattle.std.proofs.Common.{sym, subst}
use Rattle.fort_stmt.specs.Form.{IsStatement}
use Rattle.fort_stmt.specs.Values.{blank}
use Rattle.fort_stmt.proofs.Complete.{derives-form}
use Rattle.fort_stmt.proofs.Sound.{form-derived}
use Rattle.fort_stmt.proofs.laws.statements_are_derived.Goals as goal

pub returns-clause-forms : goal.returns-clause-forms
returns-clause-forms c tokens statement is = derives-form is blank

pub returns-clause-derived : goal.returns-clause-derived
returns-clause-derived c tokens built d = let s = form-derived tokens blank built d in subst (IsStatement tokens) (sym s.2) s.1
