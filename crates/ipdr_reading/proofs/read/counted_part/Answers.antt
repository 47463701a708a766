-- `counted_part` meets its contract: where the length fits, the message has it and the octets behind it; else there are none.
use mathlib.Core.Path.{refl, sym, ◌∙◌}
use native.Mathlib.Nat.{zero-add}
use native.Mathlib.Omega.{arith}
use Rattle.octets.proofs.Stores.{take_rest}
use Rattle.ipdr.proofs.Fields.{counted_fitting}
use Rattle.ipdr_reading.proofs.read.counted_part.Goals as goal

pub overflow_add-result : goal.overflow_add-result
overflow_add-result c =
    let a = c.args in
    let fits = sym c.counted_fits.ensures ∙ c.if-counted_fits.true in
    omega (arith, counted_fitting a.message.now a.at fits)

pub slice_bounds-result-count : goal.slice_bounds-result-count
slice_bounds-result-count c =
    let a = c.args in
    let fits = sym c.counted_fits.ensures ∙ c.if-counted_fits.true in
    omega (arith, counted_fitting a.message.now a.at fits)

pub slice_bounds-result-start : goal.slice_bounds-result-start
slice_bounds-result-start c =
    let a = c.args in
    let fits = sym c.counted_fits.ensures ∙ c.if-counted_fits.true in
    omega (arith, counted_fitting a.message.now a.at fits)

pub returns-then-counted_fits : goal.returns-then-counted_fits
returns-then-counted_fits c =
    let a = c.args in
    let fits = sym c.counted_fits.ensures ∙ c.if-counted_fits.true in
    rw fits (take_rest a.message.now _, (refl, refl))

pub returns : goal.returns
returns c =
    let fits = sym c.counted_fits.ensures ∙ c.if-counted_fits.false in
    rw fits (refl, (refl, sym (zero-add _)))
