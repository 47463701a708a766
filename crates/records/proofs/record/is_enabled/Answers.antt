-- `is_enabled` meets its contract: four octets read one by one make the attributes that it tests.
use mathlib.Core.List.{[], ◌∷◌}
use mathlib.Core.Path.{refl, ◌∙◌}
use Prim.Native.Nat.{◌+◌}
use native.Mathlib.Omega.{arith}
use Rattle.octets.proofs.Numbers.{uint_read}
use Rattle.tables.specs.Table.{key_at}
use Rattle.records.proofs.record.is_enabled.Goals as goal

pub returns : goal.returns
returns c =
    let a = c.args in
    let at = key_at a.m.keys a.k + 8 in
    rw (c.u32_of.ensures ∙ uint_read a.t.now at 4 (at ∷ (at + 1) ∷ (at + 2) ∷ (at + 3) ∷ []) refl (omega arith, (refl, (refl, (refl, tt)))))
