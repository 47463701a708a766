-- `write_message` meets its contract: each arm writes the layout of its message, and for messages without a part only the room decides.
use mathlib.Core.Path.{refl}
use Rattle.octets.proofs.Judging.{answered_with_lem}
use Rattle.messages.specs.Messages.{layout_of}
use Rattle.messages.proofs.Messages.{allowed}
use Rattle.messages.proofs.RoundTrip.{written_number_lem}
use Rattle.writing.proofs.write.write_message.Goals as goal

pub returns-in-Start : goal.returns-in-Start
unfolding layout_of
returns-in-Start c =
    answered_with_lem (written_number_lem _ _ _)
    (rw c.in-Start.is
    (allowed _ _ _ _ _ refl refl c.write_bare.ensures))

pub returns-in-StartAck : goal.returns-in-StartAck
unfolding layout_of
returns-in-StartAck c =
    answered_with_lem (written_number_lem _ _ _)
    (rw c.in-StartAck.is
    (allowed _ _ _ _ _ refl refl c.write_start_ack.ensures))

pub returns-in-Stop : goal.returns-in-Stop
unfolding layout_of
returns-in-Stop c =
    answered_with_lem (written_number_lem _ _ _)
    (rw c.in-Stop.is
    (allowed _ _ _ _ _ refl refl c.write_bare-in-Stop.ensures))

pub returns-in-StopAck : goal.returns-in-StopAck
unfolding layout_of
returns-in-StopAck c =
    answered_with_lem (written_number_lem _ _ _)
    (rw c.in-StopAck.is
    (allowed _ _ _ _ _ refl refl c.write_bare-in-StopAck.ensures))

pub returns-in-TmplData : goal.returns-in-TmplData
returns-in-TmplData c =
    answered_with_lem (written_number_lem _ _ _)
    (rw c.in-TmplData.is c.write_tmpl_data.ensures)

pub returns-in-FinalTmplDataAck : goal.returns-in-FinalTmplDataAck
unfolding layout_of
returns-in-FinalTmplDataAck c =
    answered_with_lem (written_number_lem _ _ _)
    (rw c.in-FinalTmplDataAck.is
    (allowed _ _ _ _ _ refl refl c.write_final_tmpl_data_ack.ensures))

pub returns-in-StartNegotiate : goal.returns-in-StartNegotiate
unfolding layout_of
returns-in-StartNegotiate c =
    answered_with_lem (written_number_lem _ _ _)
    (rw c.in-StartNegotiate.is
    (allowed _ _ _ _ _ refl refl c.write_bare-in-StartNegotiate.ensures))

pub returns-in-StartNegotiateAck : goal.returns-in-StartNegotiateAck
unfolding layout_of
returns-in-StartNegotiateAck c =
    answered_with_lem (written_number_lem _ _ _)
    (rw c.in-StartNegotiateAck.is
    (allowed _ _ _ _ _ refl refl c.write_bare-in-StartNegotiateAck.ensures))

pub returns-in-Data : goal.returns-in-Data
returns-in-Data c =
    answered_with_lem (written_number_lem _ _ _)
    (rw c.in-Data.is c.write_data.ensures)

pub returns-in-DataAck : goal.returns-in-DataAck
unfolding layout_of
returns-in-DataAck c =
    answered_with_lem (written_number_lem _ _ _)
    (rw c.in-DataAck.is
    (allowed _ _ _ _ _ refl refl c.write_data_ack.ensures))
