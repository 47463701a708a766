-- `blob_length` meets its contract: fewer than 4 octets left, or fewer than the length says, give 0; otherwise the length was read within
-- the record.
use mathlib.Core.Path.{◌≡◌}
use borrow.Author.Tests.{le-ltb, lt-ltb}
use Rattle.octets.specs.Numbers.{uint_in}
use Rattle.records.specs.Record.{blob_length}
use Rattle.records.proofs.record.blob_length.Goals as goal

pub returns-then-saturating_sub-lt-LENGTH_OCTETS : goal.returns-then-saturating_sub-lt-LENGTH_OCTETS
unfolding blob_length
returns-then-saturating_sub-lt-LENGTH_OCTETS c = rw (← c.saturating_sub.ensures, lt-ltb _ _ c.if-saturating_sub-lt-LENGTH_OCTETS.true)

pub returns-then-saturating_sub-n : goal.returns-then-saturating_sub-n
unfolding blob_length
returns-then-saturating_sub-n c =
    let a = c.args in
    let n : c.u32_in-n.result ≡ uint_in a.order a.r.now a.at 4 = c.u32_in-n.ensures in
    rw (
      ← c.saturating_sub.ensures,
      le-ltb _ _ c.if-saturating_sub-lt-LENGTH_OCTETS.false,
      ← c.saturating_sub-2.ensures,
      ← n,
      lt-ltb _ _ c.if-saturating_sub-n.true,
    )

pub returns : goal.returns
unfolding blob_length
returns c =
    let a = c.args in
    let n : c.u32_in-n.result ≡ uint_in a.order a.r.now a.at 4 = c.u32_in-n.ensures in
    rw (
      ← c.saturating_sub.ensures,
      le-ltb _ _ c.if-saturating_sub-lt-LENGTH_OCTETS.false,
      ← c.saturating_sub-2.ensures,
      ← n,
      le-ltb _ _ c.if-saturating_sub-n.false,
    )
