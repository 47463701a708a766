-- `write_message` meets its contract: each arm is its message's own writing.
use mathlib.Core.Path.{refl}
use Rattle.octets.proofs.Judging.{answered_with_lem}
use Rattle.ipdr.specs.Messages.{widths_of, is_counted}
use Rattle.ipdr.proofs.RoundTrip.{written_number_lem}
use Rattle.ipdr_writing.proofs.write.write_message.Goals as goal

pub write_bare-requires : goal.write_bare-requires
unfolding widths_of is_counted
write_bare-requires c = (refl, refl)

pub write_stop-requires : goal.write_stop-requires
unfolding widths_of is_counted
write_stop-requires c = (refl, refl)

pub write_bare-requires-in-Disconnect : goal.write_bare-requires-in-Disconnect
unfolding widths_of is_counted
write_bare-requires-in-Disconnect c = (refl, refl)

pub write_stop-requires-in-SessionStop : goal.write_stop-requires-in-SessionStop
unfolding widths_of is_counted
write_stop-requires-in-SessionStop c = (refl, refl)

pub returns-in-FlowStart : goal.returns-in-FlowStart
returns-in-FlowStart c =
    let a = c.args in
    let w = c.write_bare.ensures a.part.now in
    answered_with_lem (written_number_lem a.message a.part.now a.out.now)
    (rw c.in-FlowStart.is (w.answered, w.left))

pub returns-in-FlowStop : goal.returns-in-FlowStop
returns-in-FlowStop c =
    let a = c.args in
    let w = c.write_stop.ensures in
    answered_with_lem (written_number_lem a.message a.part.now a.out.now)
    (rw c.in-FlowStop.is (w.answered, w.left))

pub returns-in-Connect : goal.returns-in-Connect
returns-in-Connect c =
    let a = c.args in
    let w = c.write_connect.ensures in
    answered_with_lem (written_number_lem a.message a.part.now a.out.now)
    (rw c.in-Connect.is (w.answered, w.left))

pub returns-in-ConnectResponse : goal.returns-in-ConnectResponse
returns-in-ConnectResponse c =
    let a = c.args in
    let w = c.write_connect_response.ensures in
    answered_with_lem (written_number_lem a.message a.part.now a.out.now)
    (rw c.in-ConnectResponse.is (w.answered, w.left))

pub returns-in-Disconnect : goal.returns-in-Disconnect
returns-in-Disconnect c =
    let a = c.args in
    let w = c.write_bare-in-Disconnect.ensures a.part.now in
    answered_with_lem (written_number_lem a.message a.part.now a.out.now)
    (rw c.in-Disconnect.is (w.answered, w.left))

pub returns-in-SessionStart : goal.returns-in-SessionStart
returns-in-SessionStart c =
    let a = c.args in
    let w = c.write_session_start.ensures a.part.now in
    answered_with_lem (written_number_lem a.message a.part.now a.out.now)
    (rw c.in-SessionStart.is (w.answered, w.left))

pub returns-in-SessionStop : goal.returns-in-SessionStop
returns-in-SessionStop c =
    let a = c.args in
    let w = c.write_stop-in-SessionStop.ensures in
    answered_with_lem (written_number_lem a.message a.part.now a.out.now)
    (rw c.in-SessionStop.is (w.answered, w.left))

pub returns-in-Data : goal.returns-in-Data
returns-in-Data c =
    let a = c.args in
    let w = c.write_data.ensures in
    answered_with_lem (written_number_lem a.message a.part.now a.out.now)
    (rw c.in-Data.is (w.answered, w.left))

pub returns-in-DataAcknowledge : goal.returns-in-DataAcknowledge
returns-in-DataAcknowledge c =
    let a = c.args in
    let w = c.write_data_acknowledge.ensures a.part.now in
    answered_with_lem (written_number_lem a.message a.part.now a.out.now)
    (rw c.in-DataAcknowledge.is (w.answered, w.left))

pub returns-in-Error : goal.returns-in-Error
returns-in-Error c =
    let a = c.args in
    let w = c.write_error.ensures in
    answered_with_lem (written_number_lem a.message a.part.now a.out.now)
    (rw c.in-Error.is (w.answered, w.left))
