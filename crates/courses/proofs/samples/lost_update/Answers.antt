use Rattle.courses.proofs.Sampled.{in_order, backwards, woven, line_woven, one_by_one, touched}
use Rattle.courses.proofs.samples.lost_update.Goals as goal

pub returns-clause-in_order : goal.returns-clause-in_order
returns-clause-in_order c = in_order

pub returns-clause-backwards : goal.returns-clause-backwards
returns-clause-backwards c = backwards

pub returns-clause-woven : goal.returns-clause-woven
returns-clause-woven c = woven

pub returns-clause-woven_line : goal.returns-clause-woven_line
returns-clause-woven_line c = line_woven

pub returns-clause-one_by_one : goal.returns-clause-one_by_one
returns-clause-one_by_one c = one_by_one

pub returns-clause-touches : goal.returns-clause-touches
returns-clause-touches c = touched
