-- `put_uint`: the answers to what its invariant leaves.
use mathlib.Core.List.{List}
use mathlib.Core.Path.{◌≡◌, sym, ap, ◌∙◌}
use Prim.Native.Nat.{ℕ, ◌+◌, ◌-◌, ◌/◌, ◌%◌}
use native.Mathlib.Omega.{arith}
use lib.ListN.{set, length-set}
use lib.Seq.{sets}
use Rattle.numbers.specs.Numbers.{octets_in}
use Rattle.numbers.proofs.Numbers.{high_at, octets_in_length}
use Rattle.numbers.proofs.Stores.{put_fits, put_short, number_step}
use Rattle.number_writing.proofs.put_uint.Goals as goal

pub returns-then-out-at : goal.returns-then-out-at
returns-then-out-at c = let a = c.args in sym (put_short _ _ _ (omega (arith, octets_in_length a.order a.w a.v)))

pub returns-then-out-at-2 : goal.returns-then-out-at-2
returns-then-out-at-2 c = let a = c.args in sym (put_short _ _ _ (omega (arith, octets_in_length a.order a.w a.v)))

pub loop-i-preserved : goal.loop-i-preserved
loop-i-preserved c =
    let l = c.loop-i in
    let a = c.args in
    let rest : List ℕ → List ℕ =
    λ out. sets out (high_at a.order a.at (a.w - (l.i - 1))) (octets_in a.order (l.i - 1) (l.n / 256)) in (
      simp length-set (omega arith),
      ap (λ (k : ℕ). rest (set l.out (a.at + k) (l.n % 256))) c.place_in.ensures
          ∙ number_step a.order l.out a.at a.w l.i l.n c.loop-i-test.true c.loop-i.auto.i
          ∙ l.invariant.1,
    )

pub returns : goal.returns
unfolding octets_in
returns c =
    let l = c.loop-i in
    let a = c.args in
    let z : 0 ≡ l.i = omega arith in
    ap (λ (k : ℕ). sets l.out (high_at a.order a.at (a.w - k)) (octets_in a.order k l.n)) z
    ∙ l.invariant.1
    ∙ sym (put_fits a.out.now a.at (octets_in a.order a.w a.v) (omega (arith, octets_in_length a.order a.w a.v)))
