-- `write_start_ack` meets its contract: the boot time follows the header.
use native.Mathlib.Omega.{arith}
use mathlib.Core.Path.{refl, ◌∙◌}
use Rattle.octets.specs.Numbers.{octets_in, octets_of}
use Rattle.messages.specs.Messages.{header_octets_of, message_of, start_ack}
use Rattle.messages.proofs.Messages.{header_put, placed_short, placed}
use Rattle.octets.proofs.Stores.{put_then}
use Rattle.writing.proofs.write.write_start_ack.Goals as goal

pub returns-then-out-lt-START_ACK_OCTETS : goal.returns-then-out-lt-START_ACK_OCTETS
unfolding message_of octets_in
returns-then-out-lt-START_ACK_OCTETS c = placed_short _ _ c.if-out-lt-START_ACK_OCTETS.true

pub returns : goal.returns
unfolding message_of octets_in
returns c =
    let a = c.args in
    let room = c.if-out-lt-START_ACK_OCTETS.false in
    let header = header_octets_of start_ack a.session 12 in
    placed _ _ _ 12 refl room
    (c.put.ensures
    ∙ put_then a.out.now header (octets_of 4 a.boot_time) _ 8
    (c.put_header.ensures ∙ header_put start_ack a.session 12 a.out.now (omega arith)) refl room)
