-- `varying_length` meets its contract: the three types whose width varies are tested in the definition's order, and a type of no width that
-- is none of them has no field.
use borrow.Author.Tests.{eq-eqb, ne_eqb}
use Rattle.records.specs.Record.{field_length}
use Rattle.records.proofs.record.varying_length.Goals as goal

pub returns-then-kind-eq-STRING : goal.returns-then-kind-eq-STRING
unfolding field_length
returns-then-kind-eq-STRING c =
    rw (
      c.requires,
      eq-eqb _ _ c.if-kind-eq-STRING.true,
      c.string_length.ensures,
      c.field_order.ensures,
    )

pub returns-then-kind-eq-NULL_TERMINATED_STRING : goal.returns-then-kind-eq-NULL_TERMINATED_STRING
unfolding field_length
returns-then-kind-eq-NULL_TERMINATED_STRING c =
    rw (
      c.requires,
      ne_eqb _ _ c.if-kind-eq-STRING.false,
      eq-eqb _ _ c.if-kind-eq-NULL_TERMINATED_STRING.true,
      c.terminated_length.ensures,
    )

pub returns-then-kind-eq-BLOB : goal.returns-then-kind-eq-BLOB
unfolding field_length
returns-then-kind-eq-BLOB c =
    rw (
      c.requires,
      ne_eqb _ _ c.if-kind-eq-STRING.false,
      ne_eqb _ _ c.if-kind-eq-NULL_TERMINATED_STRING.false,
      eq-eqb _ _ c.if-kind-eq-BLOB.true,
      c.blob_length.ensures,
      c.field_order-then-kind-eq-BLOB.ensures,
    )

pub returns : goal.returns
unfolding field_length
returns c =
    rw (
      c.requires,
      ne_eqb _ _ c.if-kind-eq-STRING.false,
      ne_eqb _ _ c.if-kind-eq-NULL_TERMINATED_STRING.false,
      ne_eqb _ _ c.if-kind-eq-BLOB.false,
    )
