-- `store_terminated` meets its contract: one octet more than given fits, and two stores, one behind the other, are the store of both.
use mathlib.Core.Path.{sym, ap, ◌∙◌}
use mathlib.Core.List.{List, [], ◌∷◌}
use Prim.Native.Nat.{ℕ, ◌+◌}
use native.Mathlib.Omega.{arith}
use lib.ListN.{length}
use Rattle.octets.specs.Numbers.{octets_in, put_at}
use Rattle.octets.proofs.Judging.{handed_on}
use Rattle.appending.proofs.Appends.{has_room, no_room, joined_short, joined_fits}
use Rattle.appending.proofs.append.store_terminated.Goals as goal

pub returns-in_err-zero_at : goal.returns-in_err-zero_at
returns-in_err-zero_at c =
    let r = no_room _ _ (sym c.place_after.ensures ∙ c.in_err-zero_at.was) in
    rw (handed_on c.from_residual.ensures.1, r.1) (joined_short c.args.octets.now (0 ∷ []) _ _ (omega (arith, r.0)))

pub returns-in_err-end : goal.returns-in_err-end
returns-in_err-end c =
    let z = has_room _ _ (sym c.place_after.ensures ∙ c.in_ok-zero_at.was) in
    let r = no_room _ _ (sym c.place_after-2.ensures ∙ c.in_err-end.was) in
    rw (handed_on c.from_residual-in_err-end.ensures.1, r.1) (joined_short c.args.octets.now (0 ∷ []) _ _ (omega (arith, z.1, r.0)))

pub returns : goal.returns
unfolding octets_in
returns c =
    let a = c.args in
    let z = has_room _ _ (sym c.place_after.ensures ∙ c.in_ok-zero_at.was) in
    let r = has_room _ _ (sym c.place_after-2.ensures ∙ c.in_ok-end.was) in
    joined_fits a.octets.now (0 ∷ []) a.out.now _ _ _ (omega (arith, z.1, r.0)) (omega (arith, z.1, r.1))
    (rw z.1 at c.put.ensures ∙ ap (λ (o : List ℕ). put_at o (a.at + length a.octets.now) (0 ∷ [])) c.copy.ensures)
