-- An unused priority is ignored in both forms of settings (02, ask 7): what stands behind the priorities of the servers that the settings
-- name changes no line.
use Rattle.std.specs.Prelude.{◌≡◌, true, List, ℕ, ◌+◌, ◌≤◌, ◌<◌, length, get_or}
use Rattle.contents.specs.Tape.{body_of, tape_sound, priorities_at}
use Rattle.tape.specs.Replay.{tape_settings, tape_calls, replay}

-- Where the priorities of the servers that a tape names end in its settings.
abbrev pub used_end : List ℕ → ℕ
used_end t = priorities_at + (tape_settings t).servers

-- Two sound tapes, of one form or of both, are the same but for unused priorities.
pub record SameButUnused (t u : List ℕ) : Type 0 where
  pub sound : tape_sound t ≡ true
  pub sound_too : tape_sound u ≡ true
  -- each has a priority for every server
  pub enough : used_end t ≤ length (body_of t 0)
  pub enough_too : used_end t ≤ length (body_of u 0)
  -- the settings are the same up to the last of these
  pub used : (i : ℕ) → i < used_end t → get_or (body_of t 0) i 0 ≡ get_or (body_of u 0) i 0
  -- the table and the calls are the same
  pub table : body_of t 1 ≡ body_of u 1
  pub calls : tape_calls t ≡ tape_calls u

-- Their replays print the same lines.
abbrev pub UnusedPrinted : Type 0
UnusedPrinted = (t u : List ℕ) → SameButUnused t u → replay u ≡ replay t
