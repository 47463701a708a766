-- `next_key`: the answers to what its invariant leaves.
use mathlib.Core.Path.{◌≡◌, refl, sym, ◌∙◌}
use native.Mathlib.Omega.{arith}
use Prim.Native.Nat.{◌+◌, ◌-◌, ◌≤◌}
use Rattle.octets.specs.Each.{first_from}
use Rattle.octets.proofs.Each.{first_here, first_on, first_none}
use Rattle.tables.specs.Table.{key_at, is_enabled}
use Rattle.records.specs.Walk.{next_key}
use Rattle.records.proofs.walk.next_key.Goals as goal

pub loop-k-init : goal.loop-k-init
unfolding next_key
loop-k-init c = refl

pub returns-then-is_enabled : goal.returns-then-is_enabled
returns-then-is_enabled c =
    let l = c.loop-k in
    let a = c.args in
    sym (first_here l.k (a.m.count - l.k) (λ j. is_enabled a.t.now (key_at a.m.keys j)) (omega arith)
    (sym c.is_enabled.ensures ∙ c.if-is_enabled.true)) ∙ l.invariant

pub loop-k-preserved : goal.loop-k-preserved
loop-k-preserved c =
    let l = c.loop-k in
    let a = c.args in
    let k : a.m.count - (l.k + 1) ≡ a.m.count - l.k - 1 = omega arith in
    rw k (sym (first_on l.k (a.m.count - l.k) (λ j. is_enabled a.t.now (key_at a.m.keys j)) (omega arith)
    (sym c.is_enabled.ensures ∙ c.if-is_enabled.false)) ∙ l.invariant)

pub returns : goal.returns
unfolding next_key
returns c =
    let l = c.loop-k in
    let a = c.args in
    let last = sym (first_none l.k (a.m.count - l.k) (λ j. is_enabled a.t.now (key_at a.m.keys j)) (omega arith)) ∙ l.invariant in
    let past : a.m.count ≤ a.index → first_from a.index (a.m.count - a.index) (λ j. is_enabled a.t.now (key_at a.m.keys j)) ≡ a.index =
    λ h. first_none a.index (a.m.count - a.index) (λ j. is_enabled a.t.now (key_at a.m.keys j)) (omega arith) in
    grind (arith, last, past, l.auto.k-end)
