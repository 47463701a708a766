-- `write_connect` meets its contract: header, fields and text are put one behind the other.
use mathlib.Core.Path.{refl}
use mathlib.Core.List.{[], ◌∷◌}
use native.Mathlib.Omega.{arith}
use Rattle.ipdr.specs.Messages.{numbers, connect, connect_values, widths_of, is_counted}
use Rattle.ipdr.proofs.Messages.{begun_short, counted_refused, counted_done}
use Rattle.ipdr_writing.proofs.write.write_connect.Goals as goal

pub returns-in_err-len : goal.returns-in_err-len
unfolding widths_of is_counted
returns-in_err-len c =
    let a = c.args in
    counted_refused (numbers connect a.session (connect_values a.fields))
    _ _ (4 ∷ 2 ∷ 4 ∷ 4 ∷ []) refl refl c.in_err-len.ensures c.from_residual.ensures.1

pub put_counted-requires : goal.put_counted-requires
put_counted-requires c = (omega arith, begun_short _ _ _ _ _ c.in_ok-len.ensures)

pub returns : goal.returns
unfolding widths_of is_counted
returns c =
    let a = c.args in
    counted_done (numbers connect a.session (connect_values a.fields))
    _ _ (4 ∷ 2 ∷ 4 ∷ 4 ∷ []) refl refl c.in_ok-len.ensures _ _
    (rw (
      ← c.put.ensures,
      ← c.put-2.ensures,
      ← c.put-3.ensures,
      ← c.put-4.ensures,
    ))
    c.put_counted.ensures
