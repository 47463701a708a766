-- `u32_in` meets its contract: four octets read from the first on make the big-endian number, and from the last on the little-endian one.
use mathlib.Core.Path.{refl, ◌∙◌}
use mathlib.Core.List.{[], ◌∷◌}
use Prim.Native.Nat.{◌+◌}
use native.Mathlib.Omega.{arith}
use Rattle.numbers.specs.declared.OctetOrder.TheVariants.{BigEndian, LittleEndian}
use Rattle.octets.proofs.Numbers.{uint_in_read}
use Rattle.records.proofs.within.u32_in.Goals as goal

pub returns-in-BigEndian : goal.returns-in-BigEndian
returns-in-BigEndian c =
    let a = c.args in
    let places = a.at ∷ (a.at + 1) ∷ (a.at + 2) ∷ (a.at + 3) ∷ [] in
    rw c.in-BigEndian.is (c.u32_of.ensures ∙ uint_in_read BigEndian a.s.now a.at 4 places refl (omega arith, (refl, (refl, (refl, tt)))))

pub returns-in-LittleEndian : goal.returns-in-LittleEndian
returns-in-LittleEndian c =
    let a = c.args in
    let places = (a.at + 3) ∷ (a.at + 2) ∷ (a.at + 1) ∷ a.at ∷ [] in
    rw c.in-LittleEndian.is
    (c.u32_of-in-LittleEndian.ensures ∙ uint_in_read LittleEndian a.s.now a.at 4 places refl (refl, (refl, (refl, (omega arith, tt)))))
