-- `all_ascii`: the answers to what its invariant leaves.
use mathlib.Core.Path.{◌≡◌, refl, sym, ap, ◌∙◌}
use mathlib.Core.Bool.{Bool, true, ◌&&◌}
use native.Mathlib.Omega.{arith}
use Prim.Native.Nat.{ℕ, ◌+◌, ◌-◌, ◌≤◌, ◌<◌}
use lib.Dec.{ltb}
use mathlib.Core.List.{List}
use lib.ListN.{get_or, length, drop, get_or-eq_default}
use lib.Seq.{get_or-drop, get_or-take}
use Rattle.numbers.specs.Each.{every}
use Rattle.numbers.specs.Numbers.{ascii_limit, all_ascii}
use Rattle.numbers.proofs.Each.{every_more, every_enough}
use Rattle.number_reading.proofs.all_ascii.Goals as goal

pub loop-octet-init : goal.loop-octet-init
unfolding every
loop-octet-init c = refl

-- one octet more
ascii_more : (s : List ℕ) (at i x : ℕ) (ok : Bool) → ok ≡ all_ascii s at i → x ≡ get_or s (at + i) 0
    → ok && ltb x ascii_limit ≡ all_ascii s at (i + 1)
ascii_more s at i x ok e o = rw (e, o) (sym (every_more i (λ i. ltb (get_or s (at + i) 0) ascii_limit)))

pub loop-octet-preserved : goal.loop-octet-preserved
loop-octet-preserved c =
    let a = c.args in
    let l = c.loop-octet in
    let start = length a.s.now - c.saturating_sub-left.result in
    let place : start + l.octet-index ≡ a.at + l.octet-index = omega arith in
    let octet = get_or-take _ (drop start a.s.now) l.octet-index 0 (omega arith) in
    ascii_more a.s.now a.at l.octet-index _ l.ok l.invariant
    (octet ∙ get_or-drop start a.s.now l.octet-index 0 ∙ ap (λ (k : ℕ). get_or a.s.now k 0) place)

pub returns : goal.returns
returns c =
    let a = c.args in
    let l = c.loop-octet in
    let past : (i : ℕ) → l.octet-index ≤ i → i < a.n → ltb (get_or a.s.now (a.at + i) 0) ascii_limit ≡ true =
    λ i h k. rw (get_or-eq_default a.s.now 0 {n = a.at + i} (omega arith)) refl in
    l.invariant ∙ sym (every_enough a.n l.octet-index (λ i. ltb (get_or a.s.now (a.at + i) 0) ascii_limit) (omega arith) past)
