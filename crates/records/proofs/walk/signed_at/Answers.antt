-- `signed_at` meets its contract: `n <= most / 2` says that twice n is below 256 to the w, and 256 to the w minus n is `most - n + 1`.
use mathlib.Core.Path.{◌≡◌, ap, ◌∙◌}
use Prim.Native.Nat.{◌*◌, ◌^◌}
use native.Mathlib.Omega.{arith}
use borrow.Author.Tests.{le-ltb, lt-ltb}
use Rattle.octets.specs.Numbers.{uint_in}
use Rattle.octets.proofs.Numbers.{greatest_of}
use Rattle.records.specs.Walk.{signed_at}
use Rattle.records.specs.declared.walk.Value.TheVariants.{Number, Negative}
use Rattle.records.proofs.Widths.{uint_u64}
use Rattle.records.proofs.walk.signed_at.Goals as goal

pub returns-then-n-most : goal.returns-then-n-most
unfolding signed_at
returns-then-n-most c =
    let a = c.args in
    let g = greatest_of a.w (omega arith) c.greatest-most.ensures in
    let u =
    uint_u64 a.order a.r.now (λ i. omega (arith, c.type_inv.r i)) a.at a.w
    (omega arith) in
    let n : c.get_uint-n.result ≡ uint_in a.order a.r.now a.at a.w =
    c.get_uint-n.ensures ∙ u.1 in
    rw (lt-ltb (2 * uint_in a.order a.r.now a.at a.w) (256 ^ a.w) (omega (arith, u.0, g))) (ap Number n)

pub overflow_sub-result : goal.overflow_sub-result
overflow_sub-result c =
    let a = c.args in
    let g = greatest_of a.w (omega arith) c.greatest-most.ensures in
    let u =
    uint_u64 a.order a.r.now (λ i. omega (arith, c.type_inv.r i)) a.at a.w
    (omega arith) in
    omega (arith, u.0, u.1, g, c.get_uint-n.ensures)

pub returns : goal.returns
unfolding signed_at
returns c =
    let a = c.args in
    let g = greatest_of a.w (omega arith) c.greatest-most.ensures in
    let u =
    uint_u64 a.order a.r.now (λ i. omega (arith, c.type_inv.r i)) a.at a.w
    (omega arith) in
    let n : c.get_uint-n.result ≡ uint_in a.order a.r.now a.at a.w =
    c.get_uint-n.ensures ∙ u.1 in
    rw (le-ltb (2 * uint_in a.order a.r.now a.at a.w) (256 ^ a.w) (omega (arith, u.0, g)))
    (ap Negative (omega (arith, u.0, g)))
