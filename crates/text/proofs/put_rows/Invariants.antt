-- `text::put_rows` meets its contract. The invariant: the lines of the first i rows stand there. Assumes nothing.
use Prim.Native.Nat.{◌*◌}
use Rattle.text.specs.Text.{row_lines}
use Rattle.cells.specs.Pages.{Put}
use Rattle.text.proofs.put_rows.Given as goal

abbrev pub invariant-loop-i : goal.invariant-loop-i
invariant-loop-i l = Put (55 * l.i) l.initial.page l.page
    (row_lines l.columns.tasks.now l.columns.times.now l.columns.amounts.now l.done l.i)
