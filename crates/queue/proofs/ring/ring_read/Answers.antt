-- `ring_read` meets its contract. Octets that do not reach past the end of the store are one part of it; others are two, up to the end and
-- from the beginning on. Numbers outside of store and output leave the output as it was (laws `copied-..`).
use mathlib.Core.Path.{◌≡◌, refl, sym, ap, ◌∙◌}
use mathlib.Core.List.{List}
use Prim.Native.Nat.{ℕ, ◌+◌, ◌-◌, ◌≤◌}
use native.Mathlib.Omega.{arith}
use lib.ListN.{length, take, drop, length-drop}
use lib.Seq.{length-take-le, take_all}
use Rattle.octets.specs.Numbers.{put_at}
use Rattle.queue.proofs.Rings.{copied_outside, copied_too_many, copied_short, copied_near, copied_far}
use Rattle.queue.proofs.ring.ring_read.Goals as goal

pub returns-then-room-at : goal.returns-then-room-at
returns-then-room-at c =
    let a = c.args in
    copied_outside a.store.now a.at a.n a.out.now a.place c.if-room-at.true

pub returns-then-room-n : goal.returns-then-room-n
returns-then-room-n c =
    let a = c.args in
    copied_too_many a.store.now a.at a.n a.out.now a.place (omega arith) c.if-room-n.true

pub returns-then-n-first : goal.returns-then-n-first
returns-then-n-first c =
    let a = c.args in
    let s = a.store.now in
    let e : a.at + a.n - a.at ≡ a.n = omega arith in
    c.copy.ensures
    ∙ ap (λ (k : ℕ). put_at a.out.now a.place (take k (drop a.at s))) e
    ∙ copied_near s a.at a.n a.out.now a.place (omega arith) (omega arith)

pub returns-then-saturating_sub-n : goal.returns-then-saturating_sub-n
returns-then-saturating_sub-n c =
    let a = c.args in
    copied_short a.store.now a.at a.n a.out.now a.place (omega arith) (omega arith)
    (omega (arith, c.if-saturating_sub-n.true))

pub slice_bounds-copy-length-3 : goal.slice_bounds-copy-length-3
slice_bounds-copy-length-3 c =
    let a = c.args in
    sym (length-take-le (a.n - (length a.store.now - a.at)) a.store.now (omega arith))

pub returns : goal.returns
returns c =
    let w = c in
    let a = w.args in
    let s = a.store.now in
    let o = a.out.now in
    let f = length s - a.at in
    let l : length (drop a.at s) ≤ f = omega (arith, length-drop a.at s) in
    let h : a.place + a.n ≤ length o = omega (arith, w.if-saturating_sub-n.false) in
    c.copy-3.ensures
    ∙ ap (λ (l : List ℕ). put_at l (a.place + f) (take (a.n - f) s))
    (c.copy-2.ensures ∙ ap (put_at o a.place) (take_all f (drop a.at s) l))
    ∙ copied_far s a.at a.n o a.place f refl (omega arith) (omega arith) (omega arith) h
