-- `crane_append` meets its contract: flags that no table has are refused; else its calls answer what their definitions say, one of the
-- other, and the output is what `append` leaves.
use Rattle.std.proofs.Common.{sym, ◌∙◌}
use Rattle.exports.specs.Numbers.{append_under, append_under_out}
use Rattle.exports.proofs.fields.crane_append.Goals as goal

pub returns-then-not-flags_sound : goal.returns-then-not-flags_sound
unfolding append_under append_under_out
returns-then-not-flags_sound c = let l = sym c.flags_sound.ensures ∙ c.if-not-flags_sound.true in (rw l c.number.ensures, rw l)

pub returns : goal.returns
unfolding append_under append_under_out
returns c =
    let a = c.append.ensures in
    let v = c in
    let l = sym v.flags_sound.ensures ∙ v.if-not-flags_sound.false in (
      rw (l, c.carried_number.ensures, a.0.same, v.value_of.ensures, v.order_of.ensures),
      rw (l, a.1, v.value_of.ensures, v.order_of.ensures),
    )
