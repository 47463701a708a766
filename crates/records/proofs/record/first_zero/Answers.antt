-- `first_zero`: the answers to what its invariant leaves.
use mathlib.Core.Path.{◌≡◌, refl, sym, ◌∙◌}
use native.Mathlib.Omega.{arith}
use Prim.Native.Nat.{◌+◌, ◌-◌, ◌≤◌}
use lib.Dec.{eqb}
use lib.ListN.{length, get_or}
use borrow.Author.Tests.{eq-eqb, ne_eqb}
use Rattle.octets.specs.Each.{first_from}
use Rattle.octets.proofs.Each.{first_here, first_on, first_none}
use Rattle.records.proofs.record.first_zero.Goals as goal

pub loop-p-init : goal.loop-p-init
loop-p-init c = refl

pub returns-then-r-p-eq0 : goal.returns-then-r-p-eq0
returns-then-r-p-eq0 c =
    let l = c.loop-p in
    let r = c.args.r.now in
    sym (first_here l.p (length r - l.p) (λ q. eqb (get_or r q 0) 0) (omega arith) (eq-eqb _ _ c.if-r-p-eq0.true)) ∙ l.invariant

pub loop-p-preserved : goal.loop-p-preserved
loop-p-preserved c =
    let l = c.loop-p in
    let r = c.args.r.now in
    let k : length r - (l.p + 1) ≡ length r - l.p - 1 = omega arith in
    rw k (sym (first_on l.p (length r - l.p) (λ q. eqb (get_or r q 0) 0) (omega arith) (ne_eqb _ _ c.if-r-p-eq0.false)) ∙ l.invariant)

pub returns : goal.returns
returns c =
    let l = c.loop-p in
    let at = c.args.at in
    let r = c.args.r.now in
    let last = sym (first_none l.p (length r - l.p) (λ q. eqb (get_or r q 0) 0) (omega arith)) ∙ l.invariant in
    let past : length r ≤ at → first_from at (length r - at) (λ q. eqb (get_or r q 0) 0) ≡ at =
    λ h. first_none at (length r - at) (λ q. eqb (get_or r q 0) 0) (omega arith) in
    grind (arith, last, past, l.auto.p-end)
