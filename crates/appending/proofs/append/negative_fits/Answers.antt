-- `negative_fits` meets its contract: half of 256 to the w is half of the greatest number of w octets plus 1.
use mathlib.Core.Path.{◌≡◌, sym, ap, ◌∙◌}
use mathlib.Core.Bool.{Bool, true, ◌&&◌}
use Prim.Native.Nat.{◌≤◌}
use native.Mathlib.Omega.{arith}
use lib.Dec.{leb}
use Rattle.field_types.specs.FieldTypes.{is_signed}
use Rattle.appending.specs.Append.{negative_fits}
use Rattle.field_types.proofs.TypeFacts.{number_width, signed_number}
use Rattle.octets.proofs.Numbers.{greatest_of}
use Rattle.records.proofs.Widths.{size_test}
use Rattle.appending.proofs.append.negative_fits.Goals as goal

pub returns-then-not-is_signed : goal.returns-then-not-is_signed
unfolding negative_fits
returns-then-not-is_signed c = rw (sym c.is_signed.ensures ∙ c.if-not-is_signed.true)

pub returns : goal.returns
unfolding negative_fits
returns c =
    let a = c.args in
    let s : is_signed a.kind ≡ true = sym c.is_signed.ensures ∙ c.if-not-is_signed.false in
    let w = c.width in
    let l : (1 ≤ w.result) × (w.result ≤ 8) = omega (arith, number_width a.kind (signed_number a.kind s), w.ensures) in
    rw (s, ← w.ensures, greatest_of w.result l.1 c.greatest-most.ensures)
    (ap (λ (b : Bool). leb 1 a.n && b) (size_test a.n w.result l.0))
