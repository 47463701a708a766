-- The largest store is all 0, and the length that a tape's settings name, a number of 16 bits and 1, is at most its own. So the part that
-- is lent lies within it, and is the store that the settings name.
use Rattle.std.proofs.Common.{arith, ◌≡◌, ℕ, List, length, take, replicate, ap, sym, ◌∙◌, length-take-le}
use Rattle.std.proofs.lemmas.List.{take-replicate, length-replicate}
use Rattle.exporter.specs.Limits.{max_store_octets}
use Rattle.contents.specs.Tape.{body_of}
use Rattle.events.specs.Events.{store_length}
use Rattle.events.proofs.Events.{store_small}
use Rattle.replay.proofs.lend.Goals as goal

-- the largest store has its length
whole : (store : List ℕ) → store ≡ replicate max_store_octets 0 → length store ≡ max_store_octets
whole store e = ap length e ∙ length-replicate {A = ℕ} max_store_octets 0

pub slice_bounds-replay-end : goal.slice_bounds-replay-end
slice_bounds-replay-end g c =
    let h = store_small c.args.tape.now (λ i. omega (arith, c.type_inv.tape i)) in
    omega (arith, h, c.store_length-len.ensures, whole c.args.store.now c.requires)

pub slice_bounds-replay-end-2 : goal.slice_bounds-replay-end-2
slice_bounds-replay-end-2 g c =
    let h = store_small c.args.tape.now (λ i. omega (arith, c.type_inv.tape i)) in
    let w = whole c.args.store.now c.requires in
    sym (length-take-le _ c.args.store.now (omega (arith, h, c.store_length-len.ensures, w)))

pub replay-requires : goal.replay-requires
replay-requires g c =
    let n = store_length (body_of c.args.tape.now 0) in
    let h = store_small c.args.tape.now (λ i. omega (arith, c.type_inv.tape i)) in
    ap (λ (k : ℕ). take k c.args.store.now) c.store_length-len.ensures
    ∙ ap (take n) c.requires
    ∙ take-replicate n max_store_octets 0 h
