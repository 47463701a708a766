-- `value_at` meets its contract: what is no number is not signed, and a number is read in its type's width, signed or not. It has at most 8
-- octets, so `get_uint` reads it whole.
use mathlib.Core.Path.{◌≡◌, sym, ◌∙◌}
use mathlib.Core.Bool.{true, false}
use Prim.Native.Nat.{◌≤◌}
use native.Mathlib.Omega.{arith}
use Rattle.field_types.specs.FieldTypes.{is_number, is_signed}
use Rattle.records.specs.Walk.{value_at}
use Rattle.field_types.proofs.TypeFacts.{number_width, no_number}
use Rattle.records.proofs.Widths.{uint_u64}
use Rattle.records.proofs.walk.value_at.Goals as goal

pub returns-then-not-is_number : goal.returns-then-not-is_number
unfolding value_at
returns-then-not-is_number c =
    let a = c.args in
    let n : is_number a.kind ≡ false = sym c.is_number.ensures ∙ c.if-not-is_number.true in
    rw ((no_number a.kind n).0, n)

pub signed_at-requires : goal.signed_at-requires
signed_at-requires c =
    let a = c.args in
    let n : is_number a.kind ≡ true = sym c.is_number.ensures ∙ c.if-not-is_number.false in
    omega (arith, number_width a.kind n, c.width-width.ensures)

pub returns-then-is_signed : goal.returns-then-is_signed
unfolding value_at
returns-then-is_signed c =
    rw (← c.is_signed.ensures, c.if-is_signed.true, ← c.width-width.ensures, ← c.field_order-field_order.ensures)
    c.signed_at.ensures

pub returns : goal.returns
unfolding value_at
returns c =
    let a = c.args in
    let w = c.width-width in
    let n : is_number a.kind ≡ true = sym c.is_number.ensures ∙ c.if-not-is_number.false in
    let s : is_signed a.kind ≡ false = sym c.is_signed.ensures ∙ c.if-is_signed.false in
    let l : w.result ≤ 8 = omega (arith, number_width a.kind n, w.ensures) in
    let u =
    uint_u64 c.field_order-field_order.result a.r.now (λ i. omega (arith, c.type_inv.r i)) a.at
    w.result l in
    rw (s, n, ← w.ensures, ← c.field_order-field_order.ensures, c.get_uint.ensures, u.1)
