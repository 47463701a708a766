-- What the values of private functions stand for: transitions and what they write. These definitions render no rule of 01: the rules are in
-- Steps, and every public contract cites those.
use Rattle.std.specs.Prelude.{ℕ, Bool, true, List, Option, Some, None}
use Rattle.octets.specs.Answers.{refusal_number}
use Rattle.messages.specs.declared.message.Message.{Message}
use Rattle.wire.specs.Table.{table_sound}
use Rattle.session.specs.Servers.{Transition, start, stop, negotiate, offer, down, agree, malformed}
use Rattle.session.specs.declared.state.Settings.{Settings}
use Rattle.messages.specs.declared.message.Message.TheVariants.{StartAck, StopAck, StartNegotiateAck, TmplData}
use Rattle.transitions.specs.declared.transition.Move.{Move}
use Rattle.transitions.specs.declared.transition.Move.TheVariants as code

-- ---- transitions

-- The transition that the code's value stands for, with the table that is lent.
abbrev pub transition_of : List ℕ → Move → Transition
transition_of table code.Start = start
transition_of table code.Stop = stop
transition_of table code.Negotiate = negotiate
transition_of table code.Offer = offer table
transition_of table code.Down = down
transition_of table (code.Agree config) = agree config
transition_of table (code.Malformed r) = malformed (refusal_number r)

-- The table that an offer writes is sound; no other transition writes one.
abbrev pub table_fits : Transition → Bool
table_fits start = true
table_fits stop = true
table_fits negotiate = true
table_fits (offer table) = table_sound table
table_fits down = true
table_fits (agree config) = true
table_fits (malformed a) = true

-- The message that the code's value writes: START, STOP and START NEGOTIATE are acknowledged, an offer is TMPL DATA. `reply_to` has it with
-- its part.
abbrev pub reply_of : Settings → Move → Option Message
reply_of p code.Start = Some (StartAck p.session p.boot)
reply_of p code.Stop = Some (StopAck p.session)
reply_of p code.Negotiate = Some (StartNegotiateAck p.session)
reply_of p code.Offer = Some (TmplData p.session)
reply_of p code.Down = None
reply_of p (code.Agree config) = None
reply_of p (code.Malformed a) = None
