-- `place_of` meets its contract: each arm is its message's place, behind fields and length, or 0.
use Rattle.std.proofs.Common.{ℕ, sym, ap}
use Rattle.ipdr.specs.Messages.{widths_of, is_counted, carried_at}
use Rattle.ipdr.specs.declared.message.Content.{Content}
use Rattle.ipdr_exports.proofs.ipdr_calls.place_of.Goals as goal

-- the place, by what is said
abbrev place : Content → ℕ
place c = carried_at (record { session = 0; content = c })

pub returns-in-FlowStart : goal.returns-in-FlowStart
unfolding widths_of is_counted
returns-in-FlowStart c = sym (ap place c.in-FlowStart.is)

pub returns-in-FlowStop : goal.returns-in-FlowStop
unfolding widths_of is_counted
returns-in-FlowStop c = sym (ap place c.in-FlowStop.is)

pub returns-in-Connect : goal.returns-in-Connect
unfolding widths_of is_counted
returns-in-Connect c = sym (ap place c.in-Connect.is)

pub returns-in-ConnectResponse : goal.returns-in-ConnectResponse
unfolding widths_of is_counted
returns-in-ConnectResponse c = sym (ap place c.in-ConnectResponse.is)

pub returns-in-Disconnect : goal.returns-in-Disconnect
unfolding widths_of is_counted
returns-in-Disconnect c = sym (ap place c.in-Disconnect.is)

pub returns-in-SessionStart : goal.returns-in-SessionStart
unfolding widths_of is_counted
returns-in-SessionStart c = sym (ap place c.in-SessionStart.is)

pub returns-in-SessionStop : goal.returns-in-SessionStop
unfolding widths_of is_counted
returns-in-SessionStop c = sym (ap place c.in-SessionStop.is)

pub returns-in-Data : goal.returns-in-Data
unfolding widths_of is_counted
returns-in-Data c = sym (ap place c.in-Data.is)

pub returns-in-DataAcknowledge : goal.returns-in-DataAcknowledge
unfolding widths_of is_counted
returns-in-DataAcknowledge c = sym (ap place c.in-DataAcknowledge.is)

pub returns-in-Error : goal.returns-in-Error
unfolding widths_of is_counted
returns-in-Error c = sym (ap place c.in-Error.is)
