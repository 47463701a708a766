-- `store_counted` meets its contract: the length and the octets fit, and two stores, one behind the other, are the store of both.
use mathlib.Core.Path.{◌≡◌, sym, ap, ◌∙◌}
use mathlib.Core.List.{List}
use Prim.Native.Nat.{ℕ, ◌+◌}
use native.Mathlib.Omega.{arith}
use lib.ListN.{length}
use Rattle.octets.specs.Numbers.{octets_in, put_at}
use Rattle.octets.proofs.Judging.{handed_on}
use Rattle.octets.proofs.Numbers.{octets_in_length}
use Rattle.appending.proofs.Appends.{has_room, no_room, joined_short, joined_fits}
use Rattle.appending.proofs.append.store_counted.Goals as goal

pub returns-in_err-start : goal.returns-in_err-start
returns-in_err-start c =
    let a = c.args in
    let r = no_room _ _ (sym c.place_after.ensures ∙ c.in_err-start.was) in
    rw (handed_on c.from_residual.ensures.1, r.1)
    (joined_short (octets_in a.order 4 (length a.octets.now)) a.octets.now _ _
    (omega (arith, r.0, octets_in_length a.order 4 (length a.octets.now))))

pub returns-in_err-behind : goal.returns-in_err-behind
returns-in_err-behind c =
    let a = c.args in
    let s = has_room _ _ (sym c.place_after.ensures ∙ c.in_ok-start.was) in
    let r = no_room _ _ (sym c.place_after-2.ensures ∙ c.in_err-behind.was) in
    rw (handed_on c.from_residual-in_err-behind.ensures.1, r.1)
    (joined_short (octets_in a.order 4 (length a.octets.now)) a.octets.now _ _
    (omega (arith, s.1, r.0, octets_in_length a.order 4 (length a.octets.now))))

pub returns : goal.returns
returns c =
    let a = c.args in
    let front = octets_in a.order 4 (length a.octets.now) in
    let n : length front ≡ 4 = octets_in_length a.order 4 (length a.octets.now) in
    let s = has_room _ _ (sym c.place_after.ensures ∙ c.in_ok-start.was) in
    let r = has_room _ _ (sym c.place_after-2.ensures ∙ c.in_ok-behind.was) in
    joined_fits front a.octets.now a.out.now _ _ _ (omega (arith, n, s.1, r.0)) (omega (arith, n, s.1, r.1))
    (rw n (rw s.1 at c.copy.ensures ∙ ap (λ (o : List ℕ). put_at o (a.at + 4) a.octets.now) c.put_uint.ensures))
