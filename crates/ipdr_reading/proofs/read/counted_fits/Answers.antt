-- `counted_fits` meets its contract: with fewer than four octets left there is no length; else it is compared with the octets behind it.
use mathlib.Core.List.{[], ◌∷◌}
use mathlib.Core.Path.{refl, ◌∙◌}
use Prim.Native.Nat.{◌+◌}
use native.Mathlib.Omega.{arith}
use borrow.Author.Tests.{le-leb, lt-leb}
use lib.ListN.{length}
use Rattle.octets.proofs.Numbers.{uint_read}
use Rattle.ipdr.specs.Fields.{counted_fits}
use Rattle.ipdr_reading.proofs.read.counted_fits.Goals as goal

pub returns-then-saturating_sub-lt-LENGTH_OCTETS : goal.returns-then-saturating_sub-lt-LENGTH_OCTETS
unfolding counted_fits
returns-then-saturating_sub-lt-LENGTH_OCTETS c =
    let a = c.args in
    rw (lt-leb (a.at + 4) (length a.message.now) (omega (arith, c.saturating_sub.ensures)))

pub returns : goal.returns
unfolding counted_fits
returns c =
    let a = c.args in
    let m = a.message.now in
    let at = a.at in
    rw (
      le-leb (at + 4) (length m) (omega (arith, c.saturating_sub.ensures)),
      ← (c.u32_of-len.ensures ∙ uint_read m at 4 (at ∷ (at + 1) ∷ (at + 2) ∷ (at + 3) ∷ []) refl (omega arith, (refl, (refl, (refl, tt))))),
    )
