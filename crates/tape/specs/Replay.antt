-- The whole replay of a tape: from its octets to the lines of the output (01, "Replay tape").
use Rattle.std.specs.Prelude.{ℕ, zero, suc, ◌+◌, ◌-◌, cond, List, [], ◌∷◌, eqb, length, replicate}
use Rattle.octets.specs.Answers.{done}
use Rattle.exporter.specs.Steps.{octets_written}
use Rattle.exporter.specs.Claim.{Exporter}
use Rattle.exporter.specs.InOctets.{Event, event_step, after_event, fresh_over}
use Rattle.session.specs.declared.state.Settings.{Settings}
use Rattle.contents.specs.Tape.{event_count, kind_at, server_at, body_of, tape_sound}
use Rattle.events.specs.Events.{settings_of, set_up_by, store_length, table_answer, event_call}
use Rattle.lines.specs.Lines.{line_of, tape_refused}

-- ---- the session

-- The settings of a tape.
abbrev pub tape_settings : List ℕ → Settings
tape_settings t = settings_of (body_of t 0)

-- The store that a tape's settings name: all octets 0 at first.
abbrev pub tape_store : List ℕ → List ℕ
tape_store t = replicate (store_length (body_of t 0)) 0

-- ---- the calls

-- How many octets the program's output buffer has.
abbrev pub output_buffer_octets : ℕ
output_buffer_octets = 16392

-- The output buffer: a call looks at its length only.
abbrev pub output_buffer : List ℕ
output_buffer = replicate output_buffer_octets 0

-- The calls of the n events from event i on: each put and offer is lent the tape's table, the body of event 1.
unfoldable pub calls_from : List ℕ → ℕ → ℕ → List Event
calls_from t i zero = []
calls_from t i (suc n) = event_call (kind_at t i) (server_at t i) (body_of t i) output_buffer (body_of t 1) ∷ calls_from t (i + 1) n

-- The calls of a tape: its events from the third on.
abbrev pub tape_calls : List ℕ → List Event
tape_calls t = calls_from t 2 (event_count t - 2)

-- ---- lines

-- The lines of calls that an exporter takes, the first of them at place i.
unfoldable pub lines_of : Exporter → ℕ → List Event → List (List ℕ)
lines_of x i [] = []
lines_of x i (e ∷ es) = let o = event_step x e in line_of i o.answer (octets_written o) ∷ lines_of (after_event x e) (i + 1) es

-- The run goes on only after an answer of 0.
abbrev pub if_done : ℕ → List (List ℕ) → List (List ℕ)
if_done answer lines = cond (eqb answer done) lines []

-- The lines of a sound tape: the settings', the table's, then those of the calls, made of a fresh exporter.
abbrev pub event_lines : List ℕ → List (List ℕ)
event_lines t =
    let first = (set_up_by (body_of t 0) (length (tape_store t))).answer in
    let second = table_answer (tape_settings t) (body_of t 1) in
    line_of 0 first [] ∷ if_done first
    (line_of 1 second [] ∷ if_done second
    (lines_of (fresh_over (tape_settings t) (tape_store t)) 2 (tape_calls t)))

-- The lines of any tape. One that is not sound is judged 22 (`tape_answer`), which the output says as `tape refused`.
unfoldable pub replay : List ℕ → List (List ℕ)
replay t = cond (tape_sound t) (event_lines t) (tape_refused ∷ [])
