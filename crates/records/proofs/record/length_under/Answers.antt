-- `length_under` meets its contract: a disabled key has no field, and the field of any other has the length of its type's.
use mathlib.Core.Path.{sym, ◌∙◌}
use Prim.Native.Nat.{◌<◌}
use native.Mathlib.Omega.{arith}
use Rattle.octets.proofs.Numbers.{uint_one}
use Rattle.field_types.specs.FieldTypes.{width_of}
use Rattle.tables.specs.Table.{table_order}
use Rattle.records.proofs.Records.{fixed_length_lem}
use Rattle.records.proofs.record.length_under.Goals as goal

pub returns-then-width-gt0 : goal.returns-then-width-gt0
returns-then-width-gt0 c =
    let a = c.args in
    let some : 0 < width_of c.kind_of-kind.result = omega (arith, c.width-width.ensures) in
    rw (sym c.is_enabled.ensures ∙ c.if-is_enabled.true, ← c.kind_of-kind.ensures)
    (c.fixed_length.ensures ∙ fixed_length_lem (table_order a.t.now) c.kind_of-kind.result a.r.now a.at some)

pub returns-then-is_enabled : goal.returns-then-is_enabled
returns-then-is_enabled c =
    let t = c.args.t.now in
    rw (
      sym c.is_enabled.ensures ∙ c.if-is_enabled.true,
      c.varying_length.ensures,
      c.order_of.ensures,
      uint_one t 1,
      c.kind_of-kind.ensures,
    )

pub returns : goal.returns
returns c = rw (sym c.is_enabled.ensures ∙ c.if-is_enabled.false)
