-- `kind_of` meets its contract: two octets read one by one make the number at their place.
use mathlib.Core.List.{[], ◌∷◌}
use mathlib.Core.Path.{refl, ◌∙◌}
use Prim.Native.Nat.{◌+◌}
use native.Mathlib.Omega.{arith}
use Rattle.octets.proofs.Numbers.{uint_read}
use Rattle.tables.specs.Table.{key_at}
use Rattle.records.proofs.record.kind_of.Goals as goal

pub returns : goal.returns
returns c =
    let a = c.args in
    let at = key_at a.m.keys a.k + 4 in
    c.u16_of.ensures ∙ uint_read a.t.now at 2 (at ∷ (at + 1) ∷ []) refl (omega arith, (refl, tt))
