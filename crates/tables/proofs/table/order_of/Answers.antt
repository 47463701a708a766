-- `order_of` meets its contract: the test is the definition's.
use borrow.Author.Tests.{eq-eqb, ne_eqb}
use Rattle.tables.specs.Table.{order_of}
use Rattle.tables.proofs.table.order_of.Goals as goal

pub returns-then-flags-eq-BIG_ENDIAN : goal.returns-then-flags-eq-BIG_ENDIAN
unfolding order_of
returns-then-flags-eq-BIG_ENDIAN c = rw (eq-eqb _ _ c.if-flags-eq-BIG_ENDIAN.true)

pub returns : goal.returns
unfolding order_of
returns c = rw (ne_eqb _ _ c.if-flags-eq-BIG_ENDIAN.false)
