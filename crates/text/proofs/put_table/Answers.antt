-- `text::put_table` meets its contract: no text; or the header, the rows, the end. Assumes nothing.
use native.Mathlib.Omega.{arith}
use mathlib.Core.Path.{sym, ap, ◌∙◌}
use lib.ListN.{length}
use Rattle.cells.proofs.Writing.{wrote_nothing, wrote_same}
use Rattle.cells.proofs.Pages.{put_then, puts_as, room_behind}
use Rattle.text.proofs.Lines.{table_text_cells}
use Rattle.text.proofs.Columns.{columns_fit_lem_lem, columns_text_fit, columns_text_other}
use Rattle.text.proofs.put_table.Goals as goal

pub returns-then-not-columns_fit : goal.returns-then-not-columns_fit
returns-then-not-columns_fit c =
    let other = sym c.if-not-columns_fit.ensures in
    record { wrote = wrote_same (sym (columns_text_other _ _ _ _ _ other)) (wrote_nothing _ 0); short = omega arith }

pub put_rows-requires-clause-fit : goal.put_rows-requires-clause-fit
put_rows-requires-clause-fit c = columns_fit_lem_lem _ _ (sym c.if-not-columns_fit.ensures)

pub put_rows-requires-clause-room : goal.put_rows-requires-clause-room
put_rows-requires-clause-room c =
    let f = columns_fit_lem_lem c.args.columns c.args.done.now (sym c.if-not-columns_fit.ensures) in
    let page = c.new-page.ensures in
    room_behind c.put_all.ensures _
    (omega (arith, f.few, page.start, ap length page.same_bytes))

pub put_named-requires : goal.put_named-requires
put_named-requires c =
    let f = columns_fit_lem_lem c.args.columns c.args.done.now (sym c.if-not-columns_fit.ensures) in
    let page = c.new-page.ensures in
    room_behind (put_then c.put_all.ensures c.put_rows.ensures) _
    (omega (arith, f.few, page.start, ap length page.same_bytes))

pub returns : goal.returns
returns c =
    let f = columns_fit_lem_lem c.args.columns c.args.done.now (sym c.if-not-columns_fit.ensures) in
    let page = c.new-page.ensures in
    let text = put_then (put_then c.put_all.ensures c.put_rows.ensures) c.put_named.ensures in
    puts_as text page.same_bytes page.start
    (table_text_cells _ _ _ _ _ ∙ sym (columns_text_fit _ _ _ _ _ f.few f.times_too f.amounts_too f.done_too))
    (omega (arith, f.few))
