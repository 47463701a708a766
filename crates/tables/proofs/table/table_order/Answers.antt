-- `table_order` meets its contract: octet 1 holds the flags.
use mathlib.Core.Path.{ap, ◌∙◌}
use Rattle.tables.specs.Table.{order_of}
use Rattle.tables.proofs.table.table_order.Goals as goal

pub returns : goal.returns
returns c = c.order_of.ensures ∙ ap order_of c.get.ensures
