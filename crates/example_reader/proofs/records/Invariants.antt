-- The reader stands at a place that steps gave, and each record leaves fewer.
use Rattle.reader.specs.Reading.{Standing, rows_left}
use Rattle.example_reader.proofs.records.Given as goal

abbrev pub invariant-loop : goal.invariant-loop
invariant-loop g l = Standing l.reader

abbrev pub decreases-loop : goal.decreases-loop
decreases-loop g l = rows_left l.reader
