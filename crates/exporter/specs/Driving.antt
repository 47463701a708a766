-- A session as a driver goes through it, call by call, with what each call answers and writes. It renders no rule of its own: it is the
-- example of the crate's front page, computed from the definitions of the calls.
use Rattle.std.specs.Prelude.{◌≡◌, List, [], ◌∷◌, ◌++◌, ℕ, replicate}
use Rattle.octets.specs.Answers.{done, no_active_server, nothing_to_send}
use Rattle.session.specs.Limits.{max_servers, min_store_octets}
use Rattle.session.specs.Steps.{octets_written}
use Rattle.session.specs.Claim.{Exporter}
use Rattle.session.specs.InOctets.{Event, Put, NextData, Receive, OfferTemplates, Tick, event_step, after_event, fresh_over}
use Rattle.session.specs.Examples.{a_table}
use Rattle.session.specs.declared.state.Settings.{Settings}

-- A call, its answer and the octets that it writes.
pub record Turn : Type 0 where
  pub call : Event
  pub answer : ℕ
  pub octets : List ℕ

-- The calls of a list, made one after the other, give these answers and write these octets.
abbrev pub Goes : Exporter → List Turn → Type 0
Goes x [] = Unit {0}
Goes x (t ∷ ts) =
    let o = event_step x t.call in
    ((o.answer ≡ t.answer) × (octets_written o ≡ t.octets)) × Goes (after_event x t.call) ts

-- Session 7 with one server and the table of the examples, Configuration ID 1; its first DSN is 1.
abbrev pub settings : Settings
settings =
    record {
      session = 7;
      config = 1;
      boot = 3600;
      initial = 1;
      servers = 1;
      priorities = replicate max_servers 0;
      threshold = 1;
      duration = 10;
    }

-- The output that each call is lent.
abbrev pub output : List ℕ
output = replicate 64 0

-- A record is put before anybody listens, and cannot be sent yet. Server 0 starts, is offered the table and agrees to it: now the record is
-- sent, with S, since it began the activation; there is no second. Its acknowledgement releases it, and a tick finds nothing to wait for.
abbrev pub turns : List Turn
turns =
    record { call = Put a_table 3 (0x00 ∷ 0x05 ∷ []); answer = done; octets = [] }
    ∷ record { call = NextData output; answer = no_active_server; octets = [] }
    ∷ record {
      call = Receive 0 (0x01 ∷ 0x01 ∷ 0x07 ∷ 0x00 ∷ 0x00 ∷ 0x00 ∷ 0x00 ∷ 0x08 ∷ []) output;
      answer = done;
      octets = 0x01 ∷ 0x02 ∷ 0x07 ∷ 0x00 ∷ 0x00 ∷ 0x00 ∷ 0x00 ∷ 0x0C ∷ 0x00 ∷ 0x00 ∷ 0x0E ∷ 0x10 ∷ [];
    }
    ∷ record {
      call = OfferTemplates 0 a_table output;
      answer = done;
      octets = (0x01 ∷ 0x10 ∷ 0x07 ∷ 0x00 ∷ 0x00 ∷ 0x00 ∷ 0x00 ∷ 0x24 ∷ []) ++ a_table;
    }
    ∷ record {
      call = Receive 0 (0x01 ∷ 0x13 ∷ 0x07 ∷ 0x00 ∷ 0x00 ∷ 0x00 ∷ 0x00 ∷ 0x0C ∷ 0x01 ∷ 0x00 ∷ 0x00 ∷ 0x00 ∷ []) output;
      answer = done;
      octets = [];
    }
    ∷ record {
      call = NextData output;
      answer = done;
      octets =
          0x01 ∷ 0x20 ∷ 0x07 ∷ 0x00 ∷ 0x00 ∷ 0x00 ∷ 0x00 ∷ 0x12
          ∷ 0x00 ∷ 0x03 ∷ 0x01 ∷ 0x01 ∷ 0x00 ∷ 0x00 ∷ 0x00 ∷ 0x01 ∷ 0x00 ∷ 0x05 ∷ [];
    }
    ∷ record { call = NextData output; answer = nothing_to_send; octets = [] }
    ∷ record {
      call =
          Receive 0
          (0x01 ∷ 0x21 ∷ 0x07 ∷ 0x00 ∷ 0x00 ∷ 0x00 ∷ 0x00 ∷ 0x10 ∷ 0x00 ∷ 0x00 ∷ 0x00 ∷ 0x01 ∷ 0x01 ∷ 0x00 ∷ 0x00 ∷ 0x00 ∷ [])
          output;
      answer = done;
      octets = [];
    }
    ∷ record { call = Tick; answer = done; octets = [] }
    ∷ []

-- The session goes as it is written here, from a fresh exporter over the smallest store on.
abbrev pub Driven : Type 0
Driven = Goes (fresh_over settings (replicate min_store_octets 0)) turns
