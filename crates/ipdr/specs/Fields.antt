-- A message's fields by their widths, one behind the other and unpadded, and octets behind a 32-bit length, to a message's end (document
-- 002, sections 2.4, 3 and 8).
use Rattle.std.specs.Prelude.{ℕ, ◌+◌, ◌-◌, ◌^◌, ◌<◌, Bool, ◌&&◌, List, [], ◌∷◌, ◌++◌, eqb, leb, length}
use Rattle.octets.specs.Numbers.{uint_at, octets_of}

-- The octets of fields of given widths.
abbrev pub widths_total : List ℕ → ℕ
widths_total [] = 0
widths_total (w ∷ ws) = w + widths_total ws

-- The values of the fields that stand in m from `at` on.
abbrev pub values_at : List ℕ → ℕ → List ℕ → List ℕ
values_at m at [] = []
values_at m at (w ∷ ws) = uint_at m at w ∷ values_at m (at + w) ws

-- The octets of fields of given widths and values; a value that is not given is 0.
abbrev pub octets_by_widths : List ℕ → List ℕ → List ℕ
octets_by_widths [] vs = []
octets_by_widths (w ∷ ws) [] = octets_of w 0 ++ octets_by_widths ws []
octets_by_widths (w ∷ ws) (v ∷ vs) = octets_of w v ++ octets_by_widths ws vs

-- There is a value for each width, and it fits it.
abbrev pub InWidths : List ℕ → List ℕ → Type 0
InWidths [] [] = Unit {0}
InWidths [] (v ∷ vs) = ⊥
InWidths (w ∷ ws) [] = ⊥
InWidths (w ∷ ws) (v ∷ vs) = (v < 256 ^ w) × InWidths ws vs

-- Octets of the length in front of a text or a record.
abbrev pub length_octets : ℕ
length_octets = 4

-- Octets behind their length.
abbrev pub counted_octets : List ℕ → List ℕ
counted_octets part = octets_of length_octets (length part) ++ part

-- From `at` on there stand a length and exactly as many octets, to the end.
unfoldable pub counted_fits : List ℕ → ℕ → Bool
counted_fits m at = leb (at + length_octets) (length m) && eqb (uint_at m at length_octets) (length m - (at + length_octets))
