-- `none_zero`: the answers to what its invariant leaves.
use mathlib.Core.Path.{refl, sym, ap, ◌∙◌}
use mathlib.Core.Bool.{not}
use native.Mathlib.Omega.{arith}
use Prim.Native.Nat.{ℕ}
use lib.Dec.{eqb}
use lib.ListN.{get_or}
use Rattle.numbers.specs.Each.{every}
use Rattle.numbers.proofs.Each.{every_more}
use Rattle.appending.proofs.append.none_zero.Goals as goal

pub loop-octet-init : goal.loop-octet-init
unfolding every
loop-octet-init c = refl

pub loop-octet-preserved : goal.loop-octet-preserved
loop-octet-preserved c =
    let l = c.loop-octet in
    rw l.invariant (sym (every_more l.octet-index (λ i. not (eqb (get_or c.args.octets.now i 0) 0))))

pub returns : goal.returns
returns c =
    c.loop-octet.invariant ∙ ap (λ (n : ℕ). every n (λ i. not (eqb (get_or c.args.octets.now i 0) 0))) (omega arith)
