-- The replay tape: its contents, its bodies, and which tapes are sound (01, "Replay tape").
use Rattle.std.specs.Prelude.{ℕ, zero, suc, ◌+◌, ◌*◌, Bool, not, ◌&&◌, ◌||◌, cond, List, [], ◌∷◌, eqb, leb, length, take, drop}
use Rattle.octets.specs.Answers.{◌when◌, judge, unsound_tape}
use Rattle.octets.specs.Numbers.{uint_at}
use Rattle.octets.specs.Each.{every, all_of}
use Rattle.session.specs.Limits.{max_servers}

-- ---- the kinds of events

-- The exporter's settings.
abbrev pub settings_kind : ℕ
settings_kind = 0

-- The table of the session.
abbrev pub table_kind : ℕ
table_kind = 1

-- A put of a record under a template ID.
abbrev pub put_kind : ℕ
put_kind = 2

-- A message from a server.
abbrev pub message_kind : ℕ
message_kind = 3

-- The line to a server is down.
abbrev pub down_kind : ℕ
down_kind = 4

-- A tick.
abbrev pub tick_kind : ℕ
tick_kind = 5

-- Next data.
abbrev pub next_kind : ℕ
next_kind = 6

-- Templates are offered to a server.
abbrev pub offer_kind : ℕ
offer_kind = 7

-- ---- contents and bodies

-- How many events there are.
abbrev pub event_count : List ℕ → ℕ
event_count t = uint_at t 0 2

-- Where event i stands in the contents, after the count; the bodies begin where one event more would stand.
abbrev pub contents_at : ℕ → ℕ
contents_at i = 2 + 4 * i

-- The kind of event i.
abbrev pub kind_at : List ℕ → ℕ → ℕ
kind_at t i = uint_at t (contents_at i) 1

-- The server that event i names.
abbrev pub server_at : List ℕ → ℕ → ℕ
server_at t i = uint_at t (contents_at i + 1) 1

-- How many octets the body of event i has.
abbrev pub body_length : List ℕ → ℕ → ℕ
body_length t i = uint_at t (contents_at i + 2) 2

-- Where the body of event i begins: after the contents and the bodies before it.
unfoldable pub body_at : List ℕ → ℕ → ℕ
body_at t zero = contents_at (event_count t)
body_at t (suc i) = body_at t i + body_length t i

-- The n octets from a place on, of a tape or of a body; fewer where it ends before.
unfoldable pub octets_at : List ℕ → ℕ → ℕ → List ℕ
octets_at t at n = take n (drop at t)

-- The body of event i.
abbrev pub body_of : List ℕ → ℕ → List ℕ
body_of t i = octets_at t (body_at t i) (body_length t i)

-- ---- soundness

-- A tape has at most 32,768 octets.
abbrev pub max_tape_octets : ℕ
max_tape_octets = 32768

-- A tape has at least two events: settings and table.
abbrev pub min_events : ℕ
min_events = 2

-- A tape has at most 512 events.
abbrev pub max_events : ℕ
max_events = 512

-- Settings are always and only first, the table is always and only second, and the calls follow.
abbrev pub kind_fits : ℕ → ℕ → Bool
kind_fits i kind =
    cond (eqb i 0) (eqb kind settings_kind)
    (cond (eqb i 1) (eqb kind table_kind)
    (leb put_kind kind && leb kind offer_kind))

-- Only a message, a line that is down and an offer name a server; for the others the octet is 0.
abbrev pub server_fits : ℕ → ℕ → Bool
server_fits kind server = eqb server 0 || (eqb kind message_kind || eqb kind down_kind || eqb kind offer_kind)

-- Where the priorities begin in the settings; the other numbers stand before them.
abbrev pub priorities_at : ℕ
priorities_at = 16

-- How many priorities the shorter form of settings has; the longer one has one for each server that there can be (02, ask 7).
abbrev pub short_form_priorities : ℕ
short_form_priorities = 8

-- How many octets settings with so many priorities have.
abbrev pub settings_octets : ℕ → ℕ
settings_octets priorities = priorities_at + priorities

-- How many octets the template ID has in front of a put's record.
abbrev pub template_id_octets : ℕ
template_id_octets = 2

-- Settings have 24 octets or 32, a put at least the two of its template ID; a table and a message have any number, and the other calls
-- none.
abbrev pub body_length_fits : ℕ → ℕ → Bool
body_length_fits kind n =
    cond (eqb kind settings_kind) (eqb n (settings_octets short_form_priorities) || eqb n (settings_octets max_servers))
    (cond (eqb kind put_kind) (leb template_id_octets n)
    (eqb kind table_kind || eqb kind message_kind || eqb n 0))

-- Event i is sound.
unfoldable pub event_sound : List ℕ → ℕ → Bool
event_sound t i =
    kind_fits i (kind_at t i) && server_fits (kind_at t i) (server_at t i) && body_length_fits (kind_at t i) (body_length t i)

-- A tape is sound: at most 32,768 octets, 2 to 512 events, each of them sound, and nothing after the last body.
unfoldable pub tape_sound : List ℕ → Bool
tape_sound t =
    all_of
    (leb (length t) max_tape_octets
    ∷ leb min_events (event_count t)
    ∷ leb (event_count t) max_events
    ∷ every (event_count t) (event_sound t)
    ∷ eqb (body_at t (event_count t)) (length t)
    ∷ [])

-- 22 for a tape that is not sound, else 0.
abbrev pub tape_answer : List ℕ → ℕ
tape_answer t = judge ((unsound_tape when not (tape_sound t)) ∷ [])
