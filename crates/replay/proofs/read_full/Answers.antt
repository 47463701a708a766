-- What a read puts behind what stands there is what it read, so both together are what was read.
use Rattle.std.proofs.Common.{rules, ◌≡◌, ◌≤◌, ◌+◌, ◌-◌, ◌++◌, ℕ, List, length, take, drop}
use Rattle.std.proofs.Common.{sym, ap, ◌∙◌, subst, le_refl, drop_at, length-take-le}
use Rattle.std.proofs.lemmas.Slice.{take-put_mid_below}
use Rattle.std.proofs.Math.Seq.{take-add, take-append-le}
use Rattle.std.proofs.KnownBytes.{Consumes-trans}
use Rattle.std.specs.Io.KnownBytes.{Consumes}
use borrow.Rule.Slice.PartMut.{put_mid, post_of}
use Rattle.replay.proofs.read_full.Goals as goal

-- what stands in front, and the first n octets of what is put behind it
take_put : (a k n : ℕ) (xs ys : List ℕ) → a ≤ length xs → n ≤ length ys
    → take a xs ++ take n ys ≡ take (a + n) (put_mid a k xs ys)
take_put a k n xs ys within fits =
    let new = put_mid a k xs ys in
    let after = post_of a k xs in
    let behind = drop_at (take a xs) (ys ++ after) a (length-take-le a xs within) in
    let back = ap (take n) behind ∙ take-append-le n ys after fits in
    let front = take-put_mid_below a k xs ys a (le_refl a) within in
    ap (λ (l : List ℕ). take a xs ++ l) (sym back)
    ∙ ap (λ (l : List ℕ). l ++ take n (drop a new)) (sym front)
    ∙ sym (take-add a n new)

pub loop-done-preserved : goal.loop-done-preserved
loop-done-preserved g c =
    let at = c.loop-done in
    let got = c.in_ok-n in
    let room = length at.buffer - at.done in
    let joined = take_put at.done room got.n at.buffer c.read.new.buf at.invariant.1 got.ensures.bound.0 in
    let read = Consumes-trans _ _ _ _ _ at.invariant.2 got.ensures.bytes.0 in
    (search rules, search rules, subst (Consumes _ _) joined read)
