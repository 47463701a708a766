-- `write_data` meets its contract: header, fields and record are put one behind the other.
use mathlib.Core.Path.{◌≡◌, refl, ap, ◌∙◌}
use mathlib.Core.Bool.{Bool, true, false}
use mathlib.Core.List.{[], ◌∷◌}
use Prim.Native.Nat.{ℕ, ◌≤◌}
use native.Mathlib.Omega.{arith}
use Rattle.octets.specs.Numbers.{octets_of, put_at}
use Rattle.ipdr.specs.Messages.{octet_of, numbers, data_number, data_values, widths_of, is_counted}
use Rattle.ipdr.proofs.Messages.{octet_from, begun_short, counted_refused, counted_done}
use Rattle.ipdr_writing.proofs.write.write_data.Goals as goal

pub returns-in_err-len : goal.returns-in_err-len
unfolding widths_of is_counted
returns-in_err-len c =
    let a = c.args in
    counted_refused (numbers data_number a.session (data_values a.head))
    _ _ (2 ∷ 2 ∷ 1 ∷ 8 ∷ []) refl refl c.in_err-len.ensures c.from_residual.ensures.1

pub put_counted-requires : goal.put_counted-requires
put_counted-requires c = (omega arith, begun_short _ _ _ _ _ c.in_ok-len.ensures)

-- the mark's octet is 1 or 0
mark_few : (b : Bool) → octet_of b ≤ 1
mark_few true = omega arith
mark_few false = omega arith

pub returns : goal.returns
unfolding widths_of is_counted
returns c =
    let a = c.args in
    let few = mark_few a.head.duplicate in
    let mark = c.from.ensures ∙ octet_from a.head.duplicate in
    let marked : c.put-3.new.out ≡ put_at c.put-2.new.out 12 (octets_of 1 (octet_of a.head.duplicate)) =
    c.put-3.ensures ∙ ap (λ (v : ℕ). put_at c.put-2.new.out 12 (octets_of 1 v)) (omega (arith, mark, few)) in
    counted_done (numbers data_number a.session (data_values a.head))
    _ _ (2 ∷ 2 ∷ 1 ∷ 8 ∷ []) refl refl c.in_ok-len.ensures _ _
    (rw (← c.put.ensures, ← c.put-2.ensures, ← marked, ← c.put-4.ensures))
    c.put_counted.ensures
