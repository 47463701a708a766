-- `store_plain` meets its contract: where there is room `copy` stores the octets.
use mathlib.Core.Path.{sym, ◌∙◌}
use Rattle.octets.proofs.Judging.{handed_on}
use Rattle.appending.proofs.Appends.{has_room, no_room, stored_short, stored_fits}
use Rattle.appending.proofs.append.store_plain.Goals as goal

pub returns-in_err-end : goal.returns-in_err-end
returns-in_err-end c =
    let r = no_room _ _ (sym c.place_after.ensures ∙ c.in_err-end.was) in
    rw (handed_on c.from_residual.ensures.1, r.1) (stored_short _ _ _ r.0)

pub returns : goal.returns
returns c =
    let r = has_room _ _ (sym c.place_after.ensures ∙ c.in_ok-end.was) in
    stored_fits _ _ _ _ _ r.0 r.1 c.copy.ensures
