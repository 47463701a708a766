-- `shift`: the answers to what its invariant leaves.
use Rattle.std.proofs.Common.{◌≡◌, ◌-◌, length, ◌∙◌, arith, rules}
use Rattle.session.proofs.Arrays.{moved_more, moved_all}
use Rattle.receiving.proofs.release.shift.Goals as goal

pub loop-i-preserved : goal.loop-i-preserved
loop-i-preserved c =
    let xs = c.args.entries in
    let l : length xs ≡ 64 = search rules in
    moved_more xs _ 64 _ _ l (omega arith) c.loop-i.invariant

pub returns : goal.returns
returns c =
    let a = c.args in
    let l : length a.entries ≡ 64 = search rules in
    let e : c.loop-i.i ≡ 64 - a.n = omega arith in
    rw e at c.loop-i.invariant ∙ moved_all a.entries 64 a.n l c.requires
