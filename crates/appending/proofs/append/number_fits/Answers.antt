-- `number_fits` meets its contract: Boolean, signed and other number types are tested in the definition's order. To be at most the greatest
-- number of w octets, or half of it, is to be below 256 to the w, or half of it.
use mathlib.Core.Path.{◌≡◌, sym, ◌∙◌}
use mathlib.Core.Bool.{true, false}
use native.Mathlib.Omega.{arith}
use borrow.Author.Tests.{eq-eqb, ne_eqb}
use Rattle.field_types.specs.FieldTypes.{is_number, is_signed, boolean_type}
use Rattle.appending.specs.Append.{number_fits}
use Rattle.field_types.proofs.TypeFacts.{number_width, signed_number}
use Rattle.octets.proofs.Numbers.{greatest_of}
use Rattle.records.proofs.Widths.{below_test, half_test}
use Rattle.appending.proofs.append.number_fits.Goals as goal

pub returns-then-kind-eq-BOOLEAN : goal.returns-then-kind-eq-BOOLEAN
unfolding number_fits
returns-then-kind-eq-BOOLEAN c = rw (eq-eqb c.args.kind boolean_type c.if-kind-eq-BOOLEAN.true)

pub returns-then-is_signed : goal.returns-then-is_signed
unfolding number_fits
returns-then-is_signed c =
    let a = c.args in
    let s : is_signed a.kind ≡ true = sym c.is_signed.ensures ∙ c.if-is_signed.true in
    let w = c.width-width in
    let g =
    greatest_of w.result (omega (arith, number_width a.kind (signed_number a.kind s), w.ensures)) c.greatest.ensures in
    rw (ne_eqb a.kind boolean_type c.if-kind-eq-BOOLEAN.false, s, ← w.ensures, g)
    (half_test a.n w.result)

pub returns-then-is_number : goal.returns-then-is_number
unfolding number_fits
returns-then-is_number c =
    let a = c.args in
    let s : is_signed a.kind ≡ false =
    sym c.is_signed.ensures ∙ c.if-is_signed.false in
    let n : is_number a.kind ≡ true = sym c.is_number.ensures ∙ c.if-is_number.true in
    let w = c.width-width in
    let g = greatest_of w.result (omega (arith, number_width a.kind n, w.ensures)) c.greatest-then-is_number.ensures in
    rw (ne_eqb a.kind boolean_type c.if-kind-eq-BOOLEAN.false, s, n, ← w.ensures, g)
    (below_test a.n w.result)

pub returns : goal.returns
unfolding number_fits
returns c =
    let a = c.args in
    let s : is_signed a.kind ≡ false = sym c.is_signed.ensures ∙ c.if-is_signed.false in
    let n : is_number a.kind ≡ false = sym c.is_number.ensures ∙ c.if-is_number.false in
    rw (ne_eqb a.kind boolean_type c.if-kind-eq-BOOLEAN.false, s, n)
