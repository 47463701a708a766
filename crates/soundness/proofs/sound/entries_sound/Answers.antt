-- `entries_sound`: the answers to what its invariant leaves. A turn adds the next entry's test, and the bound is the power of 2 that the
-- definition compares with.
use mathlib.Core.Path.{refl, ap}
use mathlib.Core.Bool.{Bool, ◌&&◌}
use native.Mathlib.Omega.{arith}
use Prim.Native.Nat.{ℕ}
use Rattle.octets.specs.Each.{every}
use Rattle.session.specs.Sound.{entry_sound}
use Rattle.octets.proofs.Each.{every_more}
use Rattle.session.proofs.Arrays.{one_shifted}
use Rattle.soundness.proofs.sound.entries_sound.Goals as goal

-- how many bits the bound has
abbrev bound_bits : ℕ
bound_bits = 32

pub loop-i-init : goal.loop-i-init
unfolding every
loop-i-init c = refl

pub loop-i-preserved : goal.loop-i-preserved
loop-i-preserved c =
    let l = c.loop-i in
    let a = c.args in
    let test = entry_sound a.servers a.q.now.lengths a.q.now.receivers l.i in
    rw (every_more, one_shifted bound_bits a.servers (omega arith)) (ap (λ (b : Bool). b && test) l.invariant)
