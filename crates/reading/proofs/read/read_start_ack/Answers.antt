-- `read_start_ack` meets its contract: where the length fits, the octets read one by one are the boot time.
use mathlib.Core.List.{[], ◌∷◌}
use mathlib.Core.Path.{refl, ◌∙◌}
use borrow.Author.Tests.{eq-eqb}
use Rattle.octets.proofs.Numbers.{uint_one, uint_read}
use Rattle.reading.proofs.read.read_start_ack.Goals as goal

pub returns : goal.returns
returns c =
    let m = c.args.message.now in
    rw (
      eq-eqb _ _ c.if-message-ne-START_ACK_OCTETS.false,
      uint_one m 2,
      ← (c.u32_of.ensures ∙ uint_read m 8 4 (8 ∷ 9 ∷ 10 ∷ 11 ∷ []) refl (refl, (refl, (refl, (refl, tt))))),
    )
