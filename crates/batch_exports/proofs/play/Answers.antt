-- `play`: the answers to what its invariant leaves.
use Rattle.std.proofs.Common.{◌≡◌, ◌-◌, refl, arith}
use Rattle.batch_exports.specs.Calls.{played}
use Rattle.batch_exports.proofs.Calls.{played_in_place}
use Rattle.batch_exports.proofs.play.Goals as goal

pub loop-i-init : goal.loop-i-init
unfolding played
loop-i-init c =
    let a = c.args in
    let e : a.from - a.from ≡ 0 = omega arith in
    (omega arith, (omega arith, rw e refl))

pub loop-i-preserved : goal.loop-i-preserved
loop-i-preserved c =
    let h = c.loop-i in
    let more = played_in_place _ _ h.i _ h.s h.last h.store h.out _ _ _ (omega arith) h.invariant.1.1 c.call_at-last.ensures in
    (omega arith, (omega arith, more))
