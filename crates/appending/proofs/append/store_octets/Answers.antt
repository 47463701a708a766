-- `store_octets` meets its contract: each kind of type has its own store.
use borrow.Author.Tests.{eq-eqb, ne_eqb, lt-ltb, le-ltb}
use Rattle.field_types.specs.FieldTypes.{terminated_type}
use Rattle.appending.specs.Append.{octets_field}
use Rattle.appending.proofs.append.store_octets.Goals as goal

pub returns-then-kind-eq-NULL_TERMINATED_STRING : goal.returns-then-kind-eq-NULL_TERMINATED_STRING
unfolding octets_field
returns-then-kind-eq-NULL_TERMINATED_STRING c = rw (eq-eqb _ terminated_type c.if-kind-eq-NULL_TERMINATED_STRING.true) c.store_terminated.ensures

pub returns-then-width-gt0 : goal.returns-then-width-gt0
unfolding octets_field
returns-then-width-gt0 c =
    rw (
      ne_eqb _ terminated_type c.if-kind-eq-NULL_TERMINATED_STRING.false,
      ← c.width-width.ensures,
      lt-ltb 0 _ c.if-width-gt0.true,
    )
    c.store_plain.ensures

pub returns : goal.returns
unfolding octets_field
returns c =
    rw (
      ne_eqb _ terminated_type c.if-kind-eq-NULL_TERMINATED_STRING.false,
      ← c.width-width.ensures,
      le-ltb 0 _ c.if-width-gt0.false,
    )
    c.store_counted.ensures
