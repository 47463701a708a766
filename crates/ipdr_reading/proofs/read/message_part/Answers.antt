-- `message_part` meets its contract: a message that is refused and one without text or record have no part; else it is what stands behind
-- the length.
use mathlib.Core.List.{List, []}
use mathlib.Core.Path.{◌≡◌, refl, sym, ap, ◌∙◌}
use Prim.Native.Nat.{ℕ, ◌+◌}
use native.Mathlib.Nat.{zero-add}
use Rattle.headers.proofs.Headers.{checked_done, checked_refused}
use Rattle.ipdr.specs.Messages.{counted_place, part_at, part_of}
use Rattle.ipdr.proofs.Messages.{header_refused, part_refused, part_none, part_behind}
use Rattle.ipdr_reading.proofs.read.message_part.Goals as goal

-- no part, at the start
at_start : (m : List ℕ) (a b : ℕ) → (part_at m ≡ 0) × (part_of m ≡ []) → ([] ≡ part_of m) × ((a ≡ a) × (b ≡ part_at m + b))
at_start m a b p = (sym p.1, (refl, sym (zero-add b) ∙ ap (λ (k : ℕ). k + b) (sym p.0)))

pub returns-then-is_err : goal.returns-then-is_err
returns-then-is_err c =
    let m = c.args.message.now in
    let h = checked_refused _ m c.check_header.ensures (sym c.if-is_err.ensures.value) in
    at_start m _ _ (part_refused m (λ e. h (sym (header_refused m h) ∙ e)))

pub returns-in-Some : goal.returns-in-Some
returns-in-Some c =
    let m = c.args.message.now in
    let h = checked_done _ m c.check_header.ensures (sym c.if-is_err.ensures.value) in
    let p = part_behind m h c.in-Some.at (c.in-Some.ensures ∙ ap counted_place c.get.ensures) in
    let q = c.counted_part.ensures in
    (q.0 ∙ sym p.1, (q.1.0, q.1.1 ∙ ap (λ (k : ℕ). k + c.args.message.ref_ptr.1) (sym p.0)))

pub returns-in-None : goal.returns-in-None
returns-in-None c =
    let m = c.args.message.now in
    at_start m _ _ (part_none m (c.in-None.ensures ∙ ap counted_place c.get.ensures))
