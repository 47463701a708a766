-- `octets_to`: the answers to what its invariant leaves.
use mathlib.Core.Path.{refl}
use Prim.Native.Nat.{ℕ, ◌<◌}
use native.Mathlib.Omega.{arith}
use lib.ListN.{length}
use Rattle.std.proofs.lemmas.List.{get_or-take}
use Rattle.std.proofs.lemmas.Grind.{common_steps}
use lib.Seq.{get_or-drop}
use Rattle.session.specs.Queue.{sum_of}
use Rattle.session.proofs.Arrays.{sum_more}
use borrow.Author.Rules.{rules}
use Rattle.queue.proofs.octets_to.Goals as goal

pub loop-length-init : goal.loop-length-init
unfolding sum_of
loop-length-init c = (refl, omega arith)

pub loop-length-preserved : goal.loop-length-preserved
loop-length-preserved c =
    let i = c.loop-length.length-index in
    let xs = c.args.lengths.now in
    let l : i < length xs = search rules in
    let m = sum_more xs i l in
    grind (arith, common_steps, get_or-take {A = ℕ}, get_or-drop {A = ℕ}, m)
