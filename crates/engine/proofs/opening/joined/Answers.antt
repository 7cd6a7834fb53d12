-- The queue is put straight, the task stored behind it, and the head compared with the task (Joining).
use Rattle.engine.proofs.Joining.{straight_tasks, straight_heads, joined_opens}
use Rattle.engine.proofs.opening.joined.Goals as goal

pub head_with-head-requires : goal.head_with-head-requires
head_with-head-requires c =
    let r = c.requires in
    let s = c.straightened-ready.ensures in
    record {
      tasks = straight_tasks r.kept s.queue_after r.queued_bound r.task_bound r.tasks;
      n_bound = r.queued_bound;
      heads = straight_heads r.kept s.queue_after c.args.task s.value;
    }

pub returns : goal.returns
returns c =
    let r = c.requires in
    let s = c.straightened-ready.ensures in
    joined_opens r.kept s.queue_after s.value r.queued_bound c.head_with-head.ensures
