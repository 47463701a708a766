-- Opening tapes of both forms of settings (02, ask 7): rows worked out from the papers, each a whole tape and all its lines.
use Rattle.std.specs.Prelude.{◌≡◌, List, [], ◌∷◌, ◌++◌, map, ℕ, length, take}
use Rattle.session.specs.Examples.{a_table}
use Rattle.lines.specs.Lines.{line_of, tape_refused}
use Rattle.events.specs.Forms.{body_with, eight_priorities, sixteen_priorities}
use Rattle.tape.specs.Replay.{replay}

-- A tape of two events: settings of this body, below 256 octets, and the table of the examples.
abbrev pub tape_of : List ℕ → List ℕ
tape_of b = 0x00 ∷ 0x02 ∷ 0x00 ∷ 0x00 ∷ 0x00 ∷ length b ∷ 0x01 ∷ 0x00 ∷ 0x00 ∷ 0x1C ∷ (b ++ a_table)

-- Settings and table are accepted.
abbrev pub accepted : List (List ℕ)
accepted = line_of 0 0 [] ∷ line_of 1 0 [] ∷ []

-- The settings are refused with 20, and the run ends.
abbrev pub outside : List (List ℕ)
outside = line_of 0 20 [] ∷ []

-- The tape is refused: 22.
abbrev pub unsound : List (List ℕ)
unsound = tape_refused ∷ []

-- 24 octets: 8 servers, then 9. 32 octets: 9 servers, 16, then 17. Other lengths, each with servers that are outside the limits too: 23
-- octets, 25, 31 and 33.
abbrev pub Openings : Type 0
Openings =
    map (λ b. replay (tape_of b))
    (body_with 8 eight_priorities
    ∷ body_with 9 eight_priorities
    ∷ body_with 9 sixteen_priorities
    ∷ body_with 16 sixteen_priorities
    ∷ body_with 17 sixteen_priorities
    ∷ body_with 0 (take 7 eight_priorities)
    ∷ body_with 0 (take 9 sixteen_priorities)
    ∷ body_with 17 (take 15 sixteen_priorities)
    ∷ body_with 17 (sixteen_priorities ++ (0x21 ∷ []))
    ∷ [])
    ≡ accepted ∷ outside ∷ accepted ∷ accepted ∷ outside ∷ unsound ∷ unsound ∷ unsound ∷ unsound ∷ []
