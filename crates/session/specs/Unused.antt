-- Unused priorities and other unused entries are ignored (02, ask 7): whatever priorities and phases stand behind those of an exporter's
-- servers, and also where none do, it answers and writes the same.
use Rattle.std.specs.Prelude.{◌≡◌, List, [], ◌∷◌, ℕ, ◌≤◌, ◌<◌, get_or, take}
use Rattle.session.specs.Servers.{with_servers}
use Rattle.session.specs.Steps.{octets_written, set_up}
use Rattle.session.specs.Claim.{Exporter}
use Rattle.session.specs.InOctets.{Event, event_step, after_event, fresh_over}
use Rattle.session.specs.declared.state.Settings.{Settings}
use Rattle.session.specs.declared.state.State.{State}

-- ---- other entries

-- The settings with other priorities.
abbrev pub with_priorities : List ℕ → Settings → Settings
with_priorities priorities p =
    record {
      session = p.session;
      config = p.config;
      boot = p.boot;
      initial = p.initial;
      servers = p.servers;
      priorities = priorities;
      threshold = p.threshold;
      duration = p.duration;
    }

-- Two lists of priorities have the same for each of the first n servers.
abbrev pub SameUsed : ℕ → List ℕ → List ℕ → Type 0
SameUsed n a b = (v : ℕ) → v < n → get_or a v 0 ≡ get_or b v 0

-- The state with other priorities, and with the first n entries of its servers alone.
abbrev pub with_entries : List ℕ → ℕ → State → State
with_entries priorities n s =
    record {
      settings = with_priorities priorities s.settings;
      capacity = s.capacity;
      delivery = with_servers s.delivery (take n s.delivery.servers);
      due = s.due;
      queue = s.queue;
      start = s.start;
      next = s.next;
    }

-- The exporter with the first n entries alone, of its priorities and of its servers.
abbrev pub cut_to : ℕ → Exporter → Exporter
cut_to n x = record { state = with_entries (take n x.state.settings.priorities) n x.state; store = x.store }

-- ---- the claim

-- What a call answers and writes.
pub record Response : Type 0 where
  pub answer : ℕ
  pub written : List ℕ

-- The same of each of a list of calls, from an exporter on.
unfoldable pub responses : Exporter → List Event → List Response
responses x [] = []
responses x (e ∷ es) =
    let o = event_step x e in record { answer = o.answer; written = octets_written o } ∷ responses (after_event x e) es

-- The claim, of all settings, stores and exporters.
pub record UnusedEntries : Type 0 where
  -- set-up answers the same whatever the priorities are
  pub set_ups : (p : Settings) (priorities : List ℕ) (octets : ℕ)
      → (set_up (with_priorities priorities p) octets).answer ≡ (set_up p octets).answer
  -- every list of calls from the fresh exporter answers and writes the same whatever the unused priorities are
  pub calls : (p : Settings) (priorities store : List ℕ) → SameUsed p.servers p.priorities priorities → (es : List Event)
      → responses (fresh_over (with_priorities priorities p) store) es ≡ responses (fresh_over p store) es
  -- and from any exporter the same without the entries from n on, as long as each server keeps its own, so whatever those entries are: up
  -- to 8 servers need no more than the 8 entries that there were before ask 7
  pub entries : (x : Exporter) (n : ℕ) → x.state.settings.servers ≤ n → (es : List Event) → responses (cut_to n x) es ≡ responses x es
