-- `data_head` meets its contract: each field is read at its place, octet by octet.
use mathlib.Core.List.{[], ◌∷◌}
use mathlib.Core.Path.{refl, ◌∙◌}
use Rattle.octets.proofs.Numbers.{uint_one, uint_read}
use Rattle.messages.specs.Messages.{data_head_of}
use Rattle.reading.proofs.read.data_head.Goals as goal

pub returns : goal.returns
unfolding data_head_of
returns c =
    let m = c.args.message.now in
    rw (
      uint_one m 2,
      uint_one m 10,
      uint_one m 11,
      ← (c.u16_of.ensures ∙ uint_read m 8 2 (8 ∷ 9 ∷ []) refl (refl, (refl, tt))),
      ← (c.u32_of.ensures ∙ uint_read m 12 4 (12 ∷ 13 ∷ 14 ∷ 15 ∷ []) refl (refl, (refl, (refl, (refl, tt))))),
    )
