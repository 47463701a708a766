-- A replay in turns, one line each, as the code takes it: opening a tape, then one event more. What a program prints has no contract, so
-- the contracts of the turns cite this page, and not the one of the whole replay; `TurnByTurn` below says that the lines are those of
-- `replay`, and the law `turn_by_turn` shows it.
use Rattle.std.specs.Prelude.{ℕ, zero, suc, ◌+◌, ◌-◌, ◌≤◌, ◌≡◌, cond, ◌&&◌, List, [], ◌∷◌, eqb, length}
use Rattle.std.proofs.lemmas.List.Edits.{sets}
use Rattle.octets.specs.Answers.{done}
use Rattle.octets.specs.Numbers.{Octets}
use Rattle.exporter.specs.Steps.{octets_written, set_up}
use Rattle.exporter.specs.InOctets.{Event, ClaimInOctets}
use Rattle.session.specs.declared.state.State.{State}
use Rattle.contents.specs.Tape.{event_count, kind_at, server_at, body_length, body_at, body_of, octets_at, tape_sound}
use Rattle.lines.specs.Lines.{line_of, tape_refused, line_octets}
use Rattle.events.specs.Events.{set_up_by, table_answer, event_call, effect, effect_store}
use Rattle.tape.specs.Replay.{output_buffer_octets, output_buffer, tape_settings, tape_store, tape_calls, replay}
use Rattle.tape.specs.declared.replay.Progress.{Progress}
use Rattle.tape.specs.declared.replay.Turn.{Turn}

-- What a turn gives: its line, the octets that its call wrote, how far the replay is and the store afterwards.
pub record Played : Type 0 where
  pub line : List ℕ
  pub written : List ℕ
  pub progress : Progress
  pub store : List ℕ

-- Opening a tape over a store, which is to have the length that the settings name (`store_length`): the tape is judged 22, then its
-- settings 20 (`set_up_by`), by the store's own length. After a refusal no event is left, and the state counts for nothing.
unfoldable pub opened : List ℕ → List ℕ → Played
opened t store =
    let made = set_up_by (body_of t 0) (length store) in
    record {
      line = cond (tape_sound t) (line_of 0 made.answer []) tape_refused;
      written = [];
      progress =
          record {
            state = made.state;
            left = cond (tape_sound t && eqb made.answer done) (event_count t - 1) 0;
            at = body_at t 1;
          };
      store = store;
    }

-- The place of the next event.
abbrev pub index_of : List ℕ → Progress → ℕ
index_of t r = event_count t - r.left

-- Its body.
abbrev pub next_body : List ℕ → Progress → List ℕ
next_body t r = octets_at t r.at (body_length t (index_of t r))

-- Where that ends.
abbrev pub next_end : List ℕ → Progress → ℕ
next_end t r = r.at + length (next_body t r)

-- The progress after an event, with a state and a number of events left.
abbrev pub progressed : List ℕ → Progress → State → ℕ → Progress
progressed t r s left = record { state = s; left = left; at = next_end t r }

-- The table's turn: no event is left after a refusal.
abbrev pub table_turn : List ℕ → Progress → List ℕ → Played
table_turn t r store =
    let answer = table_answer (tape_settings t) (body_of t 1) in
    record {
      line = line_of 1 answer [];
      written = [];
      progress = progressed t r r.state (cond (eqb answer done) (r.left - 1) 0);
      store = store;
    }

-- The call of the next event, which is lent an output of the program's length.
abbrev pub next_call : List ℕ → Progress → Event
next_call t r = event_call (kind_at t (index_of t r)) (server_at t (index_of t r)) (next_body t r) output_buffer (body_of t 1)

-- A call's turn.
abbrev pub call_turn : List ℕ → Progress → List ℕ → Played
call_turn t r store =
    let e = next_call t r in
    let o = effect r.state store e in
    record {
      line = line_of (index_of t r) o.answer (octets_written o);
      written = octets_written o;
      progress = progressed t r o.state (r.left - 1);
      store = effect_store r.state store e;
    }

-- One event more, from the progress that opening or the turn before gave: no line where none is left.
unfoldable pub played : List ℕ → Progress → List ℕ → Played
played t r store =
    cond (eqb r.left 0) (record { line = []; written = []; progress = r; store = store })
    (cond (eqb (index_of t r) 1) (table_turn t r store) (call_turn t r store))

-- ---- what the code needs and gives

-- What taking the table needs, where its body ends at a place.
pub record TableReady (t : List ℕ) (r : Progress) (at : ℕ) (text : List ℕ) : Type 0 where
  -- an event is left
  pub some : 1 ≤ r.left
  -- where its body ends
  pub end : at ≡ next_end t r
  -- the text has room for the line of an event that wrote nothing
  pub room : line_octets 0 ≤ length text

-- What taking the call of event i needs, whose body is b and ends at a place.
pub record CallReady (t : List ℕ) (r : Progress) (i : ℕ) (b : List ℕ) (at : ℕ) (out text : List ℕ) : Type 0 where
  -- an event is left
  pub some : 1 ≤ r.left
  -- its place
  pub place : i ≡ index_of t r
  -- its body
  pub body : b ≡ next_body t r
  -- where that ends
  pub end : at ≡ r.at + length b
  -- the output has the length of the program's
  pub lent : length out ≡ output_buffer_octets
  -- the text has room for the line of a call that fills the output
  pub room : line_octets (length out) ≤ length text

-- What the code answers of a turn.
abbrev pub turn_of : Played → Turn
turn_of p = record { len = length p.line; progress = p.progress }

-- The same with the text that it leaves.
abbrev pub Lined : Played → List ℕ → Turn → List ℕ → Type 0
Lined p text turn text_after = (turn ≡ turn_of p) × (text_after ≡ sets text 0 p.line)

-- The same with the store, the output and the text that it leaves.
abbrev pub Turned : Played → List ℕ → List ℕ → Turn → List ℕ → List ℕ → List ℕ → Type 0
Turned p out text turn store_after out_after text_after =
    (turn ≡ turn_of p)
    × ((store_after ≡ p.store) × ((out_after ≡ sets out 0 p.written) × (text_after ≡ sets text 0 p.line)))

-- The lines of the next turns, at most n, until no event is left.
unfoldable pub turns_from : List ℕ → ℕ → Played → List (List ℕ)
turns_from t zero p = []
turns_from t (suc n) p =
    let q = played t p.progress p.store in
    cond (eqb p.progress.left 0) [] (q.line ∷ turns_from t n q)

-- The lines of all turns: that of opening, then one for each event as long as one is left; fewer are left than the tape has.
abbrev pub turns : List ℕ → List ℕ → List (List ℕ)
turns t store = (opened t store).line ∷ turns_from t (event_count t) (opened t store)

-- ---- what is claimed of replays

-- Turn by turn, over the store that the settings name, the lines are those of the whole replay.
abbrev pub TurnByTurn : Type 0
TurnByTurn = (t : List ℕ) → turns t (tape_store t) ≡ replay t

-- Of any octets whose settings set-up accepts, the calls are a list of calls from a fresh exporter, and the exporter's claim (demand
-- 3) holds of it, whatever the table is.
abbrev pub CallsClaimed : Type 0
CallsClaimed =
    (t : List ℕ) → Octets t → (set_up (tape_settings t) (length (tape_store t))).answer ≡ done
    → ClaimInOctets (tape_settings t) (tape_store t) (tape_calls t)
