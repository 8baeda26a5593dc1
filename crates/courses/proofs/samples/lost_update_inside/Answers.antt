use Rattle.courses.proofs.Sampled.{in_order_inside, woven_inside, line_woven_inside, touched_inside}
use Rattle.courses.proofs.samples.lost_update_inside.Goals as goal

pub returns-clause-in_order : goal.returns-clause-in_order
returns-clause-in_order c = in_order_inside

pub returns-clause-woven : goal.returns-clause-woven
returns-clause-woven c = woven_inside

pub returns-clause-woven_line : goal.returns-clause-woven_line
returns-clause-woven_line c = line_woven_inside

pub returns-clause-touches : goal.returns-clause-touches
returns-clause-touches c = touched_inside
