-- After the turn the head stands in the queue, so its task is owed ticks (Legs).
use Rattle.legs.proofs.Legs.{turned_inside, turned_task, turned_room}
use Rattle.legs.proofs.Cursor.next_leg.Goals as goal

pub bounds-queue-head : goal.bounds-queue-head
bounds-queue-head c = turned_inside c.requires c.turned-cursor.ensures

pub bounds-owed-task : goal.bounds-owed-task
bounds-owed-task c = turned_task c.requires c.turned-cursor.ensures

pub at_once-n-requires : goal.at_once-n-requires
at_once-n-requires c = turned_room c.requires c.turned-cursor.ensures
