-- `cells::Page::put_decimal` meets its contract: the library writes the digits before their end. Assumes nothing.
use borrow.Author.Rules.{rules}
use Rattle.cells.proofs.Pages.{digits_start, digits_end, put_digits}
use Rattle.cells.proofs.Page.put_decimal.Goals as goal

pub write_digits-requires : goal.write_digits-requires
write_digits-requires c = (search (rules, digits_start), search (rules, digits_end))

pub returns : goal.returns
returns c = search (rules, put_digits)
