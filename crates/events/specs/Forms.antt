-- The two forms of settings, 24 octets with 8 priorities and 32 with 16 (02, ask 7): rows worked out from the papers.
use Rattle.std.specs.Prelude.{◌≡◌, List, [], ◌∷◌, ◌++◌, map, ℕ, replicate}
use Rattle.session.specs.Order.{numbers_where}
use Rattle.session.specs.declared.state.Settings.{Settings}
use Rattle.contents.specs.Tape.{settings_kind, body_length_fits}
use Rattle.events.specs.Events.{settings_of, set_up_by, store_length}

-- The body of event 0 with so many servers and these priorities; every other setting is in its limits.
abbrev pub body_with : ℕ → List ℕ → List ℕ
body_with servers priorities =
    0x07 ∷ 0x01 ∷ servers ∷ 0x01 ∷ 0x00 ∷ 0x0A ∷ 0x03 ∷ 0xFF ∷ 0x00 ∷ 0x00 ∷ 0x00 ∷ 0x00 ∷ 0x00 ∷ 0x00 ∷ 0x0E ∷ 0x10 ∷ priorities

-- The priorities of the shorter form.
abbrev pub eight_priorities : List ℕ
eight_priorities = 0x11 ∷ 0x12 ∷ 0x13 ∷ 0x14 ∷ 0x15 ∷ 0x16 ∷ 0x17 ∷ 0x18 ∷ []

-- The priorities of the longer form.
abbrev pub sixteen_priorities : List ℕ
sixteen_priorities = eight_priorities ++ (0x19 ∷ 0x1A ∷ 0x1B ∷ 0x1C ∷ 0x1D ∷ 0x1E ∷ 0x1F ∷ 0x20 ∷ [])

-- What event 0 answers with these priorities, by how many servers it names.
abbrev pub answers_with : List ℕ → List ℕ → List ℕ
answers_with priorities = map (λ servers. (set_up_by (body_with servers priorities) 1024).answer)

-- The settings in which every octet up to the priorities is another.
abbrev pub each_octet : List ℕ → Settings
each_octet priorities =
    record {
      session = 0x01;
      config = 0x02;
      servers = 0x03;
      threshold = 0x04;
      duration = 0x0506;
      initial = 0x090A0B0C;
      boot = 0x0D0E0F10;
      priorities = priorities;
    }

-- Their body.
abbrev pub each_octet_body : List ℕ → List ℕ
each_octet_body priorities =
    0x01 ∷ 0x02 ∷ 0x03 ∷ 0x04 ∷ 0x05 ∷ 0x06 ∷ 0x07 ∷ 0x08 ∷ 0x09 ∷ 0x0A ∷ 0x0B ∷ 0x0C ∷ 0x0D ∷ 0x0E ∷ 0x0F ∷ 0x10 ∷ priorities

-- The rows.
pub record SettingsForms : Type 0 where
  -- of all lengths up to 127 a body of event 0 can have 24 and 32
  pub lengths : numbers_where (body_length_fits settings_kind) 128 ≡ 24 ∷ 32 ∷ []
  -- with 24 octets 1 and 8 servers are accepted, and none, 9, 16, 17 and 255 are 20
  pub shorter : answers_with eight_priorities (0 ∷ 1 ∷ 8 ∷ 9 ∷ 16 ∷ 17 ∷ 255 ∷ []) ≡ 20 ∷ 0 ∷ 0 ∷ 20 ∷ 20 ∷ 20 ∷ 20 ∷ []
  -- with 32 octets 1, 8, 9 and 16 are accepted, and none, 17 and 255 are 20
  pub longer : answers_with sixteen_priorities (0 ∷ 1 ∷ 8 ∷ 9 ∷ 16 ∷ 17 ∷ 255 ∷ []) ≡ 20 ∷ 0 ∷ 0 ∷ 0 ∷ 0 ∷ 20 ∷ 20 ∷ []
  -- each number is read from its octets, in both forms alike
  pub shorter_read : settings_of (each_octet_body eight_priorities) ≡ each_octet (eight_priorities ++ replicate 8 0)
  pub longer_read : settings_of (each_octet_body sixteen_priorities) ≡ each_octet sixteen_priorities
  pub store_read : map store_length (map each_octet_body (eight_priorities ∷ sixteen_priorities ∷ [])) ≡ 0x0709 ∷ 0x0709 ∷ []
