-- `octets_fit` meets its contract: the three types whose width varies are tested in the definition's order, and any other type must be an
-- address of as many octets.
use native.Mathlib.Nat.{zero-add}
use borrow.Author.Tests.{eq-eqb, ne_eqb}
use Rattle.field_types.specs.FieldTypes.{string_type, terminated_type, blob_type}
use Rattle.appending.specs.Append.{octets_fit}
use Rattle.appending.proofs.append.octets_fit.Goals as goal

pub returns-then-kind-eq-STRING : goal.returns-then-kind-eq-STRING
unfolding octets_fit
returns-then-kind-eq-STRING c = rw (eq-eqb _ string_type c.if-kind-eq-STRING.true, c.all_ascii.ensures) (simp zero-add)

pub returns-then-kind-eq-NULL_TERMINATED_STRING : goal.returns-then-kind-eq-NULL_TERMINATED_STRING
unfolding octets_fit
returns-then-kind-eq-NULL_TERMINATED_STRING c =
    rw (ne_eqb _ string_type c.if-kind-eq-STRING.false, eq-eqb _ terminated_type c.if-kind-eq-NULL_TERMINATED_STRING.true) c.none_zero.ensures

pub returns-then-kind-eq-BLOB : goal.returns-then-kind-eq-BLOB
unfolding octets_fit
returns-then-kind-eq-BLOB c =
    rw (
      ne_eqb _ string_type c.if-kind-eq-STRING.false,
      ne_eqb _ terminated_type c.if-kind-eq-NULL_TERMINATED_STRING.false,
      eq-eqb _ blob_type c.if-kind-eq-BLOB.true,
    )

pub returns : goal.returns
unfolding octets_fit
returns c =
    rw (
      ne_eqb _ string_type c.if-kind-eq-STRING.false,
      ne_eqb _ terminated_type c.if-kind-eq-NULL_TERMINATED_STRING.false,
      ne_eqb _ blob_type c.if-kind-eq-BLOB.false,
      c.width-width.ensures,
      c.is_number.ensures,
    )
