-- `append` meets its contract: a value that does not fit is refused, and the field of any other is stored; minus n is written as 256 to the
-- w minus n.
use mathlib.Core.Path.{◌≡◌, sym, ap, ◌∙◌}
use Prim.Native.Nat.{ℕ, ◌+◌, ◌-◌, ◌^◌}
use native.Mathlib.Omega.{arith}
use Rattle.records.specs.declared.walk.Value.TheVariants.{Octets, Number, Negative}
use Rattle.octets.proofs.Numbers.{greatest_of}
use Rattle.octets.proofs.Judging.{answered_with_lem}
use Rattle.appending.proofs.ReadBack.{append_answer_lem}
use Rattle.appending.proofs.Appends.{append_stored, append_refused, negative_range}
use Rattle.appending.proofs.append.append.Goals as goal

pub returns-then-octets_fit : goal.returns-then-octets_fit
returns-then-octets_fit c =
    let o = c.field_order-field_order in
    answered_with_lem (append_answer_lem _ _ _ _ _ _)
    (append_stored _ _ _ Octets _ _ _ _ _ c.in-Octets.is
    (sym c.octets_fit.ensures ∙ c.if-octets_fit.true)
    (rw o.ensures at c.store_octets.ensures))

pub returns-then-number_fits : goal.returns-then-number_fits
returns-then-number_fits c =
    answered_with_lem (append_answer_lem _ _ _ _ _ _)
    (append_stored _ _ _ (Number c.in-Number.n) _ _ _ _ _ c.in-Number.is
    (sym c.number_fits.ensures ∙ c.if-number_fits.true)
    (rw (c.field_order-field_order.ensures, c.width-width.ensures) at c.store_number.ensures))

pub overflow_sub-greatest : goal.overflow_sub-greatest
overflow_sub-greatest c =
    let f = sym c.negative_fits.ensures ∙ c.if-negative_fits.true in
    let w = c.width-width in
    let g = greatest_of w.result (omega (arith, negative_range _ _ f, w.ensures)) c.greatest.ensures in
    omega (arith, negative_range _ _ f, ap (λ (w : ℕ). 256 ^ w) w.ensures, g)

pub overflow_add-greatest : goal.overflow_add-greatest
overflow_add-greatest c =
    let f = sym c.negative_fits.ensures ∙ c.if-negative_fits.true in
    omega (arith, negative_range _ _ f, c.greatest.ensures)

pub returns-then-negative_fits : goal.returns-then-negative_fits
returns-then-negative_fits c =
    let n = c.in-Negative.n in
    let w = c.width-width in
    let f = sym c.negative_fits.ensures ∙ c.if-negative_fits.true in
    let g = greatest_of w.result (omega (arith, negative_range _ _ f, w.ensures)) c.greatest.ensures in
    let e : c.greatest.result - n + 1 ≡ 256 ^ w.result - n =
    omega (arith, negative_range _ _ f, ap (λ (w : ℕ). 256 ^ w) w.ensures, g) in
    answered_with_lem (append_answer_lem _ _ _ _ _ _)
    (append_stored _ _ _ (Negative n) _ _ _ _ _ c.in-Negative.is f
    (rw (c.field_order-field_order.ensures, w.ensures) at (rw e at c.store_number-then-negative_fits.ensures)))

pub returns-else-octets_fit : goal.returns-else-octets_fit
returns-else-octets_fit c =
    answered_with_lem (append_answer_lem _ _ _ _ _ _)
    (append_refused _ _ _ Octets _ _ _ c.in-Octets.is (sym c.octets_fit.ensures ∙ c.if-octets_fit.false))

pub returns-else-number_fits : goal.returns-else-number_fits
returns-else-number_fits c =
    answered_with_lem (append_answer_lem _ _ _ _ _ _)
    (append_refused _ _ _ (Number _) _ _ _ c.in-Number.is
    (sym c.number_fits.ensures ∙ c.if-number_fits.false))

pub returns-else-negative_fits : goal.returns-else-negative_fits
returns-else-negative_fits c =
    answered_with_lem (append_answer_lem _ _ _ _ _ _)
    (append_refused _ _ _ (Negative _) _ _ _ c.in-Negative.is
    (sym c.negative_fits.ensures ∙ c.if-negative_fits.false))
