-- `write_final_tmpl_data_ack` meets its contract: the Configuration ID and three zeros follow the header.
use mathlib.Core.List.{[], ◌∷◌}
use mathlib.Core.Path.{refl, ◌∙◌}
use native.Mathlib.Omega.{arith}
use Rattle.octets.specs.Numbers.{octets_in}
use Rattle.messages.specs.Messages.{header_octets_of, message_of, final_tmpl_data_ack}
use Rattle.messages.proofs.Messages.{header_put, placed_short, placed}
use Rattle.octets.proofs.Stores.{sets_then}
use Rattle.writing.proofs.write.write_final_tmpl_data_ack.Goals as goal

pub returns-then-out-lt-FINAL_TMPL_DATA_ACK_OCTETS : goal.returns-then-out-lt-FINAL_TMPL_DATA_ACK_OCTETS
unfolding message_of octets_in
returns-then-out-lt-FINAL_TMPL_DATA_ACK_OCTETS c = placed_short _ _ c.if-out-lt-FINAL_TMPL_DATA_ACK_OCTETS.true

pub returns : goal.returns
unfolding message_of octets_in
returns c =
    let a = c.args in
    placed _ _ _ 12 refl c.if-out-lt-FINAL_TMPL_DATA_ACK_OCTETS.false
    (sets_then a.out.now (header_octets_of final_tmpl_data_ack a.session 12) (a.config ∷ 0 ∷ 0 ∷ 0 ∷ []) _ 8
    (c.put_header.ensures ∙ header_put final_tmpl_data_ack a.session 12 a.out.now (omega arith)) refl)
