-- Numbers in octets at any width and in either order (01, "Messages"; 02, ask 6), and octets stored at a place.
use Rattle.std.specs.Prelude.{ℕ, zero, suc, ◌+◌, ◌-◌, ◌*◌, ◌/◌, ◌%◌, ◌<◌, Bool, cond, List, [], ◌∷◌, ◌++◌, leb, ltb, length, get_or}
use Rattle.std.proofs.lemmas.List.Edits.{sets}
use Rattle.numbers.specs.Each.{every}
use Rattle.numbers.specs.declared.OctetOrder.{OctetOrder}
use Rattle.numbers.specs.declared.OctetOrder.TheVariants.{BigEndian, LittleEndian}

-- ---- the number that octets make

-- The number whose w digits to the base 256 are d 0, the most significant, to d (w - 1).
unfoldable pub number_of : (ℕ → ℕ) → ℕ → ℕ
number_of d zero = 0
number_of d (suc w) = number_of d w * 256 + d w

-- Where digit i of w digits stands among their octets, digit 0 being the most significant.
abbrev pub place_in : OctetOrder → ℕ → ℕ → ℕ
place_in BigEndian w i = i
place_in LittleEndian w i = w - suc i

-- The number in the w octets of s from place `at` on, in an order. A place past the end reads 0.
unfoldable pub uint_in : OctetOrder → List ℕ → ℕ → ℕ → ℕ
uint_in order s at w = number_of (λ i. get_or s (at + place_in order w i) 0) w

-- The same most significant octet first, as everywhere outside record data.
abbrev pub uint_at : List ℕ → ℕ → ℕ → ℕ
uint_at s at w = uint_in BigEndian s at w

-- ---- the octets of a number

-- Octets of more significance and octets of less, side by side: in the big-endian order those of more stand in front, in the little-endian
-- order behind.
abbrev pub join_in : OctetOrder → List ℕ → List ℕ → List ℕ
join_in BigEndian high low = high ++ low
join_in LittleEndian high low = low ++ high

-- The w octets of v, in an order; v is taken modulo 256 to the w.
unfoldable pub octets_in : OctetOrder → ℕ → ℕ → List ℕ
octets_in order zero v = []
octets_in order (suc w) v = join_in order (octets_in order w (v / 256)) (v % 256 ∷ [])

-- The same most significant octet first, as everywhere outside record data.
abbrev pub octets_of : ℕ → ℕ → List ℕ
octets_of w v = octets_in BigEndian w v

-- ---- octets at a place

-- Octets stored from place `at` on where all of them fit, and nothing changed where they do not.
unfoldable pub put_at : List ℕ → ℕ → List ℕ → List ℕ
put_at out at octets = cond (leb (at + length octets) (length out)) (sets out at octets) out

-- Every element is below 256, as in any slice of octets.
abbrev pub Octets : List ℕ → Type 0
Octets s = (i : ℕ) → get_or s i 0 < 256

-- The smaller of two numbers.
abbrev pub smaller : ℕ → ℕ → ℕ
smaller a b = cond (leb a b) a b

-- ASCII octets are below this.
abbrev pub ascii_limit : ℕ
ascii_limit = 128

-- Each of the n octets from place `at` on is below 128. A place past the end reads 0, which is below.
abbrev pub all_ascii : List ℕ → ℕ → ℕ → Bool
all_ascii s at n = every n (λ i. ltb (get_or s (at + i) 0) ascii_limit)
