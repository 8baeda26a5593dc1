use Rattle.courses.proofs.Framed.{look_filled, filled_look, filled_same, filled_frame}
use Rattle.courses.proofs.frames.frames.Goals as goal

pub returns-clause-look_filled : goal.returns-clause-look_filled
returns-clause-look_filled c = look_filled

pub returns-clause-filled_look : goal.returns-clause-filled_look
returns-clause-filled_look c = filled_look

pub returns-clause-filled_same : goal.returns-clause-filled_same
returns-clause-filled_same c = filled_same

pub returns-clause-filled_frame : goal.returns-clause-filled_frame
returns-clause-filled_frame c = filled_frame
