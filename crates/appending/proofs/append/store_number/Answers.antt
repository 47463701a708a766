-- `store_number` meets its contract: where there is room `put_uint` stores the octets.
use mathlib.Core.Path.{sym, ◌∙◌}
use Rattle.octets.proofs.Judging.{handed_on}
use Rattle.octets.proofs.Numbers.{octets_in_length}
use Rattle.appending.proofs.Appends.{has_room, no_room, stored_short, stored_fits}
use Rattle.appending.proofs.append.store_number.Goals as goal

pub returns-in_err-end : goal.returns-in_err-end
returns-in_err-end c =
    let r = no_room _ _ (sym c.place_after.ensures ∙ c.in_err-end.was) in
    rw (handed_on c.from_residual.ensures.1, r.1) (stored_short _ _ _ (rw octets_in_length r.0))

pub returns : goal.returns
returns c =
    let r = has_room _ _ (sym c.place_after.ensures ∙ c.in_ok-end.was) in
    stored_fits _ _ _ _ _ (rw octets_in_length r.0) (rw octets_in_length r.1) c.put_uint.ensures
