-- `head_sound` meets its contract: a head that does not lie within the table is unsound, and of any other the numbers that the definition
-- names are read and tested.
use mathlib.Core.Path.{◌≡◌}
use native.Mathlib.Omega.{arith}
use Prim.Native.Nat.{◌-◌}
use borrow.Author.Tests.{lt-leb}
use lib.ListN.{length}
use Rattle.tables.specs.Table.{block_octets, block_end, head_sound}
use Rattle.tables.proofs.table.head_sound.Goals as goal

pub returns-then-t-at : goal.returns-then-t-at
unfolding head_sound block_end
returns-then-t-at c =
    let a = c.args in
    rw (lt-leb (block_end a.t.now a.at) (length a.t.now) (omega arith))

pub overflow_sub-result : goal.overflow_sub-result
unfolding block_end
overflow_sub-result c = omega arith

pub returns : goal.returns
unfolding head_sound block_end
returns c =
    let a = c.args in
    let e : c.block_end-end.result - a.at ≡ block_octets a.t.now a.at = omega arith in
    rw (
      e,
      c.u32_at.ensures,
      c.u16_at.ensures,
      c.u16_at-count.ensures,
      c.block_end-end.ensures,
    )
