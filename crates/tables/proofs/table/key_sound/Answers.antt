-- `key_sound` meets its contract: octets read one by one make the numbers that the definition tests.
use mathlib.Core.List.{[], ◌∷◌}
use mathlib.Core.Path.{refl, ◌∙◌}
use native.Mathlib.Omega.{arith}
use Prim.Native.Nat.{◌+◌}
use Rattle.octets.proofs.Numbers.{uint_read}
use Rattle.tables.specs.Table.{key_sound}
use Rattle.tables.proofs.table.key_sound.Goals as goal

pub returns : goal.returns
unfolding key_sound
returns c =
    let a = c.args in
    let t = a.t.now in
    let kind =
    c.u16_of.ensures
    ∙ uint_read t (a.at + 4) 2 ((a.at + 4) ∷ (a.at + 5) ∷ []) refl (omega arith, (omega arith, tt)) in
    let reserved =
    c.u16_of-2.ensures
    ∙ uint_read t (a.at + 6) 2 ((a.at + 6) ∷ (a.at + 7) ∷ []) refl (omega arith, (omega arith, tt)) in
    let attributes =
    c.u32_of.ensures ∙ uint_read t (a.at + 8) 4 ((a.at + 8) ∷ (a.at + 9) ∷ (a.at + 10) ∷ (a.at + 11) ∷ []) refl
    (omega arith, (omega arith, (omega arith, (omega arith, tt)))) in
    rw (attributes, reserved, c.is_type.ensures, kind)
