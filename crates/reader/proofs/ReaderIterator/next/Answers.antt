-- `next` of a reader meets the contract of an iterator. Assumes nothing.
use Rattle.reader.proofs.Steps.{progress}
use Rattle.reader.proofs.ReaderIterator.next.Goals as goal

pub returns-clause-goes : goal.returns-clause-goes
returns-clause-goes c = rw c.take_at-taken.ensures (progress c.args.self.now c.requires)
