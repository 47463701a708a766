-- `step_under` meets its contract: no enabled key left is the end, a length of 0 is 16, and otherwise the field and the cursor after it are
-- built from the same three numbers.
use native.Mathlib.Omega.{arith}
use borrow.Author.Tests.{eq-eqb, ne_eqb, le-leb, lt-leb}
use Rattle.octets.proofs.Numbers.{uint_one}
use Rattle.records.specs.Walk.{step_under}
use Rattle.records.proofs.FieldsWithin.{field_within}
use Rattle.records.proofs.walk.step_under.Goals as goal

pub returns-then-m-k : goal.returns-then-m-k
unfolding step_under
returns-then-m-k c = rw (← c.next_key-k.ensures, le-leb _ _ c.if-m-k.true)

pub returns-then-len-eq0 : goal.returns-then-len-eq0
unfolding step_under
returns-then-len-eq0 c =
    rw (
      ← c.next_key-k.ensures,
      lt-leb _ _ c.if-m-k.false,
      ← c.kind_of-kind.ensures,
      uint_one c.args.t.now 1,
      ← c.order_of-order.ensures,
      ← c.field_length-len.ensures,
      eq-eqb _ _ c.if-len-eq0.true,
    )

pub overflow_add-next-2 : goal.overflow_add-next-2
overflow_add-next-2 c =
    let a = c.args in
    omega (
      arith,
      field_within c.order_of-order.result c.kind_of-kind.result
          a.r.now a.c.at,
    )

pub returns : goal.returns
unfolding step_under
returns c =
    rw (
      ← c.next_key-k.ensures,
      lt-leb _ _ c.if-m-k.false,
      ← c.kind_of-kind.ensures,
      uint_one c.args.t.now 1,
      ← c.order_of-order.ensures,
      ← c.field_length-len.ensures,
      ne_eqb _ _ c.if-len-eq0.false,
      c.value_at-value.ensures,
    )
