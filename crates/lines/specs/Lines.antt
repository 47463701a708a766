-- A line of the replay program's output (01, "Replay tape"), as the codes of its characters.
use Rattle.std.specs.Prelude.{ℕ, ◌+◌, ◌*◌, ◌/◌, ◌%◌, ◌≡◌, cond, List, [], ◌∷◌, ◌++◌, leb, ltb, length}
use Rattle.std.proofs.lemmas.List.Edits.{sets}

-- A space.
abbrev pub space : ℕ
space = 32

-- The end of a line.
abbrev pub newline : ℕ
newline = 10

-- The character of a digit below 16: 0 to 9, then a to f.
abbrev pub digit : ℕ → ℕ
digit d = cond (ltb d 10) (48 + d) (87 + d)

-- A number below 1,000 in decimal, without zeros in front: a place is at most 511, an answer at most 22.
unfoldable pub decimal : ℕ → List ℕ
decimal n =
    cond (ltb n 10) (digit n ∷ [])
    (cond (ltb n 100) (digit (n / 10) ∷ digit (n % 10) ∷ [])
    (digit (n / 100 % 10) ∷ digit (n / 10 % 10) ∷ digit (n % 10) ∷ []))

-- Octets in lower-case hex, two digits each.
unfoldable pub hex : List ℕ → List ℕ
hex [] = []
hex (x ∷ octets) = digit (x / 16 % 16) ∷ digit (x % 16) ∷ hex octets

-- What follows the answer: if octets were written, a space and their hex.
abbrev pub written_text : List ℕ → List ℕ
written_text [] = []
written_text (x ∷ octets) = space ∷ hex (x ∷ octets)

-- The line of an event: its place, a space, its answer and what it wrote.
unfoldable pub line_of : ℕ → ℕ → List ℕ → List ℕ
line_of place answer octets = decimal place ++ (space ∷ decimal answer) ++ written_text octets ++ (newline ∷ [])

-- The only line of a tape that is not sound: `tape refused`.
abbrev pub tape_refused : List ℕ
tape_refused = 116 ∷ 97 ∷ 112 ∷ 101 ∷ space ∷ 114 ∷ 101 ∷ 102 ∷ 117 ∷ 115 ∷ 101 ∷ 100 ∷ newline ∷ []

-- ---- how many octets a line has

-- The most digits of a place or an answer.
abbrev pub number_digits : ℕ
number_digits = 3

-- The hex digits of n octets.
abbrev pub hex_digits : ℕ → ℕ
hex_digits n = 2 * n

-- The most octets of a line beside hex digits: a place, a space, an answer, a space and the end of the line.
abbrev pub frame_octets : ℕ
frame_octets = number_digits + 1 + number_digits + 1 + 1

-- The most octets of the line of an event that wrote n octets.
abbrev pub line_octets : ℕ → ℕ
line_octets n = frame_octets + hex_digits n

-- What of a line is written to a text of `room` octets: the line where there is room for `need` octets, else nothing.
abbrev pub fitted : ℕ → ℕ → List ℕ → List ℕ
fitted room need line = cond (leb need room) line []

-- ---- storing a part of a line

-- Characters were stored in a text at a place, which gave the place behind them and the text afterwards.
abbrev pub Stored : List ℕ → ℕ → List ℕ → ℕ → List ℕ → Type 0
Stored text at part next after = (next ≡ at + length part) × (after ≡ sets text at part)

-- A whole line was stored from the first octet on, which gave its length and the text afterwards.
abbrev pub Printed : List ℕ → List ℕ → ℕ → List ℕ → Type 0
Printed text line len after = (len ≡ length line) × (after ≡ sets text 0 line)
