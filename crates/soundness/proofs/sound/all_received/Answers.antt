-- `all_received`: the answers to what its invariant leaves.
use mathlib.Core.Path.{◌≡◌, ap, ◌∙◌}
use mathlib.Core.Bool.{Bool, ◌&&◌}
use native.Mathlib.Omega.{arith}
use lib.ListN.{get_or}
use Rattle.octets.specs.Each.{every}
use Rattle.octets.proofs.Each.{every_more}
use Rattle.session.specs.Queue.{has}
use Rattle.session.proofs.Arrays.{has_both, has_all}
use Rattle.soundness.proofs.sound.all_received.Goals as goal

pub loop-i-init : goal.loop-i-init
unfolding every
loop-i-init c = has_all _ c.requires.1

pub loop-i-preserved : goal.loop-i-preserved
loop-i-preserved c =
    let l = c.loop-i in
    let a = c.args in
    let x = get_or a.receivers.now l.i 0 in
    rw every_more (has_both l.common x a.v ∙ ap (λ (b : Bool). b && has x a.v) l.invariant)

pub returns : goal.returns
returns c =
    let l = c.loop-i in
    let e : l.i ≡ c.args.n = omega arith in
    rw (← e) (c.has_server.ensures ∙ l.invariant)
