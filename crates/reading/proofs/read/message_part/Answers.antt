-- `message_part` meets its contract: a DATA that is not refused has 16 octets and a TMPL DATA a sound table, what lies behind the head is
-- the part, and no other message has one.
use mathlib.Core.List.{List, []}
use mathlib.Core.Path.{◌≡◌, refl, sym, ap, ◌∙◌}
use Prim.Native.Nat.{ℕ, ◌+◌}
use native.Mathlib.Nat.{zero-add}
use native.Mathlib.Omega.{arith}
use Rattle.headers.proofs.Headers.{checked_done, checked_refused}
use Rattle.octets.proofs.Numbers.{uint_one}
use Rattle.octets.proofs.Stores.{take_rest}
use Rattle.tables.specs.Table.{table_sound}
use Rattle.messages.specs.Messages.{part_at, part_of}
use Rattle.messages.proofs.Messages.{header_refused, header_long, part_of_data, part_of_table, part_of_refused, part_of_other}
use Rattle.messages.proofs.Messages.{short_refused, long_read, unsound_refused, sound_read}
use Rattle.reading.proofs.read.message_part.Goals as goal
use Rattle.reading.proofs.read.message_part.Goals.{in_default-via-in-16+else-table_sound, in_default-via-in_default-1}

-- no part, at the start
at_start : (m : List ℕ) (a b : ℕ) → (part_at m ≡ 0) × (part_of m ≡ []) → ([] ≡ part_of m) × ((a ≡ a) × (b ≡ part_at m + b))
at_start m a b p = (sym p.1, (refl, sym (zero-add b) ∙ ap (λ (k : ℕ). k + b) (sym p.0)))

pub returns-then-is_err : goal.returns-then-is_err
returns-then-is_err c =
    let m = c.args.message.now in
    let h = checked_refused _ m c.check_header.ensures (sym c.if-is_err.ensures.value) in
    at_start m _ _ (part_of_refused m (λ e. h (sym (header_refused m h) ∙ e)))

pub bounds-message-1 : goal.bounds-message-1
bounds-message-1 c =
    let long = header_long _ (checked_done _ _ c.check_header.ensures (sym c.if-is_err.ensures.value)) in
    omega arith

pub slice_bounds-table_sound-count : goal.slice_bounds-table_sound-count
slice_bounds-table_sound-count c = header_long _ (checked_done _ _ c.check_header.ensures (sym c.if-is_err.ensures.value))

pub slice_bounds-table_sound-start : goal.slice_bounds-table_sound-start
slice_bounds-table_sound-start c =
    let long = header_long _ (checked_done _ _ c.check_header.ensures (sym c.if-is_err.ensures.value)) in
    omega arith

pub slice_bounds-result-count-in-16 : goal.slice_bounds-result-count-in-16
slice_bounds-result-count-in-16 c = header_long _ (checked_done _ _ c.check_header.ensures (sym c.if-is_err.ensures.value))

pub slice_bounds-result-start-in-16 : goal.slice_bounds-result-start-in-16
slice_bounds-result-start-in-16 c =
    let long = header_long _ (checked_done _ _ c.check_header.ensures (sym c.if-is_err.ensures.value)) in
    omega arith

pub returns-in-32 : goal.returns-in-32
returns-in-32 c =
    let m = c.args.message.now in
    let h = checked_done _ m c.check_header.ensures (sym c.if-is_err.ensures.value) in
    at_start m _ _ (part_of_refused m (short_refused m h (uint_one m 1 ∙ c.in-32.is) (omega arith)))

pub returns-in-32-2 : goal.returns-in-32-2
returns-in-32-2 c =
    let m = c.args.message.now in
    let h = checked_done _ m c.check_header.ensures (sym c.if-is_err.ensures.value) in
    let e = uint_one m 1 ∙ c.in-32.is in
    let p = part_of_data m (long_read m h e (omega arith)) e in
    (take_rest m 16 ∙ sym p.1, (refl, ap (λ (k : ℕ). k + c.args.message.ref_ptr.1) (sym p.0)))

pub returns-in-16 : goal.returns-in-16
returns-in-16 c =
    let m = c.args.message.now in
    let h = checked_done _ m c.check_header.ensures (sym c.if-is_err.ensures.value) in
    let e = uint_one m 1 ∙ c.in-16.is in
    let t = sym (ap table_sound (take_rest m 8)) ∙ sym c.if-table_sound.ensures in
    let p = part_of_table m (sound_read m h e t) e in
    (take_rest m 8 ∙ sym p.1, (refl, ap (λ (k : ℕ). k + c.args.message.ref_ptr.1) (sym p.0)))

pub returns-in_default : goal.returns-in_default
returns-in_default c =
    let m = c.args.message.now in
    let h = checked_done _ m c.check_header.ensures (sym c.if-is_err.ensures.value) in
    let n = uint_one m 1 in
    at_start m _ _
    (elim c.in_default.branch [
      | in_default-via-in-16+else-table_sound w ↦
          part_of_refused m (unsound_refused m h (n ∙ w.in-16.is) (sym (ap table_sound (take_rest m 8)) ∙ sym w.if-table_sound.ensures))
      | in_default-via-in_default-1 w ↦ part_of_other m (λ e. omega arith) (λ e. omega arith)
    ])
