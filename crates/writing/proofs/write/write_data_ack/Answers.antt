-- `write_data_ack` meets its contract: the DSN follows the header, the Configuration ID and three zeros follow the DSN.
use mathlib.Core.List.{[], ◌∷◌, ◌++◌}
use mathlib.Core.Path.{refl, ◌∙◌}
use native.Mathlib.Omega.{arith}
use Rattle.octets.specs.Numbers.{octets_in, octets_of}
use Rattle.messages.specs.Messages.{header_octets_of, message_of, data_ack}
use Rattle.messages.proofs.Messages.{header_put, placed_short, placed}
use Rattle.octets.proofs.Stores.{put_then, sets_then}
use Rattle.writing.proofs.write.write_data_ack.Goals as goal

pub returns-then-out-lt-DATA_ACK_OCTETS : goal.returns-then-out-lt-DATA_ACK_OCTETS
unfolding message_of octets_in
returns-then-out-lt-DATA_ACK_OCTETS c = placed_short _ _ c.if-out-lt-DATA_ACK_OCTETS.true

pub returns : goal.returns
unfolding message_of octets_in
returns c =
    let a = c.args in
    let room = c.if-out-lt-DATA_ACK_OCTETS.false in
    let header = header_octets_of data_ack a.session 16 in
    let dsn = octets_of 4 a.dsn in
    let front =
    c.put.ensures
    ∙ put_then a.out.now header dsn _ 8 (c.put_header.ensures ∙ header_put data_ack a.session 16 a.out.now (omega arith)) refl
    (omega arith) in
    placed _ _ _ 16 refl room (sets_then a.out.now (header ++ dsn) (a.config ∷ 0 ∷ 0 ∷ 0 ∷ []) _ 12 front refl)
