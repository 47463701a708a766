-- `ring_write` meets its contract. Octets that do not reach past the end of the store are one run; others are two, up to the end and from
-- the beginning on. More octets than places, and no places, leave the store as it was (laws `stored-..`).
use mathlib.Core.Path.{sym, ap, ◌∙◌}
use mathlib.Core.List.{List}
use Prim.Native.Nat.{ℕ, ◌-◌}
use native.Mathlib.Nat.{mod-lt}
use native.Mathlib.Omega.{arith}
use lib.ListN.{length, take, drop}
use lib.Seq.{length-take-le}
use Rattle.octets.specs.Numbers.{put_at}
use Rattle.octets.proofs.Stores.{take_rest}
use Rattle.queue.proofs.Rings.{stored_outside, stored_nowhere, stored_near, stored_far}
use Rattle.queue.proofs.ring.ring_write.Goals as goal

pub returns-then-room-octets : goal.returns-then-room-octets
returns-then-room-octets c = stored_outside _ _ _ c.if-room-octets.true

pub returns-then-room-eq0 : goal.returns-then-room-eq0
returns-then-room-eq0 c = stored_nowhere _ _ _ (omega arith) c.if-room-eq0.true

pub overflow_sub-first : goal.overflow_sub-first
overflow_sub-first c =
    let a = c.args in
    omega (arith, c.wrapped-place.ensures, mod-lt a.at {m = length a.store.now} (omega arith))

pub returns-then-octets-first : goal.returns-then-octets-first
returns-then-octets-first c =
    let a = c.args in
    let w = c.wrapped-place in
    let m = mod-lt a.at {m = length a.store.now} (omega arith) in
    c.copy.ensures
    ∙ stored_near a.store.now a.at a.octets.now w.result w.ensures (omega arith) (omega (arith, w.ensures, m))

pub slice_bounds-copy-end : goal.slice_bounds-copy-end
slice_bounds-copy-end c = sym (length-take-le _ _ (omega arith))

pub returns : goal.returns
returns c =
    let z = c in
    let w = z.wrapped-place in
    let a = z.args in
    let st = a.store.now in
    let xs = a.octets.now in
    let f = length st - w.result in
    c.copy-3.ensures
    ∙ ap (λ (l : List ℕ). put_at l 0 (take (length xs - f) (drop f xs))) z.copy-2.ensures
    ∙ ap (put_at (put_at st w.result (take f xs)) 0) (take_rest xs f)
    ∙ stored_far st a.at xs w.result w.ensures (omega arith) (omega arith)
