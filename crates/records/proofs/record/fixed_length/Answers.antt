-- `fixed_length` meets its contract: with fewer octets left than the width the length is 0, and otherwise it is the width; only of a
-- Boolean, which has one octet, that octet is tested too.
use borrow.Author.Tests.{eq-eqb, ne_eqb, le-ltb, lt-ltb}
use Rattle.records.specs.Record.{fixed_length}
use Rattle.records.proofs.record.fixed_length.Goals as goal

pub returns-then-saturating_sub-width : goal.returns-then-saturating_sub-width
unfolding fixed_length
returns-then-saturating_sub-width c =
    rw (← c.requires.0, ← c.saturating_sub.ensures, lt-ltb _ _ c.if-saturating_sub-width.true)

pub returns-then-kind-ne-BOOLEAN : goal.returns-then-kind-ne-BOOLEAN
unfolding fixed_length
returns-then-kind-ne-BOOLEAN c =
    rw (← c.requires.0, ← c.saturating_sub.ensures, le-ltb _ _ c.if-saturating_sub-width.false, ne_eqb _ _ c.if-kind-ne-BOOLEAN.true)

pub returns-then-r-at-gt1 : goal.returns-then-r-at-gt1
unfolding fixed_length
returns-then-r-at-gt1 c =
    rw (
      ← c.requires.0,
      ← c.saturating_sub.ensures,
      le-ltb _ _ c.if-saturating_sub-width.false,
      eq-eqb _ _ c.if-kind-ne-BOOLEAN.false,
      lt-ltb 1 _ c.if-r-at-gt1.true,
    )

pub returns : goal.returns
unfolding fixed_length
returns c =
    rw (
      ← c.requires.0,
      ← c.saturating_sub.ensures,
      le-ltb _ _ c.if-saturating_sub-width.false,
      eq-eqb _ _ c.if-kind-ne-BOOLEAN.false,
      le-ltb 1 _ c.if-r-at-gt1.false,
    )
