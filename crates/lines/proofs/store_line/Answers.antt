-- `store_line` meets its contract: each part is stored behind the one before it. All of them fit, since a number has at most three digits.
use native.Mathlib.Omega.{arith}
use Rattle.lines.proofs.Lines.{spelt_bounds, shown_bounds, line_joined}
use Rattle.lines.proofs.store_line.Goals as goal

pub overflow_add-first : goal.overflow_add-first
overflow_add-first c =
    omega (arith, (spelt_bounds _ 0 _ _ _ c.write_decimal-first.ensures).0)

pub write_decimal-second-requires : goal.write_decimal-second-requires
write_decimal-second-requires c =
    omega (arith, (spelt_bounds _ 0 _ _ _ c.write_decimal-first.ensures).0)

pub write_written-last-requires : goal.write_written-last-requires
write_written-last-requires c =
    omega (
      arith,
      (spelt_bounds _ 0 _ _ _
          c.write_decimal-first.ensures).0,
      (spelt_bounds _ _ _ _ _ c.write_decimal-second.ensures).0,
    )

pub overflow_add-result : goal.overflow_add-result
overflow_add-result c =
    let a =
    c.args in
    omega (
      arith,
      (spelt_bounds _ 0 _ _ _
          c.write_decimal-first.ensures).0,
      (spelt_bounds _ _ _ _ _ c.write_decimal-second.ensures
          ).0,
      (shown_bounds _ _ a.octets.now _ _ c.write_written-last.ensures).0,
    )

pub returns : goal.returns
returns c =
    let w = c in
    let n = w in
    let p = n in
    let a = p.args in
    line_joined a.text.now a.octets.now _ _ _ _ _ a.place a.answer _ _ _ (omega arith)
    p.write_decimal-first.ensures n.put.ensures n.write_decimal-second.ensures
    w.write_written-last.ensures c.put-2.ensures
