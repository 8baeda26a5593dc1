use Rattle.std.proofs.Common.{refl}
use Rattle.claw_top.proofs.Ends.{puts_of}
use Rattle.claw_top.proofs.finishing.finish.Goals as goal

pub returns-in-Usage : goal.returns-in-Usage
returns-in-Usage g c = rw c.in-Usage.is (
  refl,
  puts_of c.put_all-in-Usage.result _ _ _ _ _ _ _ c.status_of-in-Usage.ensures.ok c.status_of-in-Usage.ensures.failed
      c.put_all-in-Usage.ensures.took c.put_all-in-Usage.ensures.part c.put_all-in-Usage.ensures.failed,
)

pub returns-in-CannotRead : goal.returns-in-CannotRead
returns-in-CannotRead g c = rw c.in-CannotRead.is (
  refl,
  puts_of c.put_unreadable.result _ _ _ _ _ _ _ c.status_of-in-CannotRead.ensures.ok c.status_of-in-CannotRead.ensures.failed
      c.put_unreadable.ensures.took c.put_unreadable.ensures.part c.put_unreadable.ensures.failed,
)

pub returns-in-NoMemory : goal.returns-in-NoMemory
returns-in-NoMemory g c = rw c.in-NoMemory.is (
  refl,
  puts_of c.put_all-in-NoMemory.result _ _ _ _ _ _ _ c.status_of-in-NoMemory.ensures.ok c.status_of-in-NoMemory.ensures.failed
      c.put_all-in-NoMemory.ensures.took c.put_all-in-NoMemory.ensures.part c.put_all-in-NoMemory.ensures.failed,
)
