-- `get_uint`: the answers to what its invariant leaves.
use mathlib.Core.Path.{◌≡◌, ap, ◌∙◌}
use lib.ListN.{get_or}
use Prim.Native.Nat.{ℕ, ◌+◌}
use native.Mathlib.Omega.{arith}
use Rattle.numbers.specs.Numbers.{number_of, place_in, uint_in}
use Rattle.numbers.proofs.Numbers.{number_more}
use borrow.Author.Rules.{rules}
use Rattle.number_reading.proofs.get_uint.Goals as goal

pub loop-i-init : goal.loop-i-init
unfolding number_of
loop-i-init c = search rules

pub loop-i-preserved : goal.loop-i-preserved
loop-i-preserved c =
    let a = c.args in
    let l = c.loop-i in
    let digit = c.octet.ensures ∙ ap (λ (k : ℕ). get_or a.s.now (a.at + k) 0) c.place_in.ensures in
    omega (arith, digit, number_more (λ k. get_or a.s.now (a.at + place_in a.order a.w k) 0) l.i)

pub returns : goal.returns
unfolding uint_in
returns c =
    let l = c.loop-i in
    let e : l.i ≡ c.args.w = omega arith in
    cc
