-- Record data under flags 1 and under flags 0, as 01 ("Template table") and 02 (ask 6) give it: the octets of fields, what is read in them,
-- and the answers of records and tables. Each is a row of one table, and the one claim is that every row holds.
use Rattle.std.specs.Prelude.{ℕ, ◌+◌, ◌≡◌, Bool, true, false, List, [], ◌∷◌, ◌++◌, ℤ, pos, negsuc, length, replicate, Result, Ok}
use Rattle.std.proofs.Math.Option.{Option, none, some}
use Rattle.octets.specs.Numbers.{uint_in, octets_in}
use Rattle.tables.specs.Table.{big_endian_flags, order_of, table_sound}
use Rattle.records.specs.Record.{field_length, record_answer}
use Rattle.records.specs.Walk.{value_at, integer_at, step_of, walk_start, visited}
use Rattle.records.specs.declared.walk.Value.{Value}
use Rattle.records.specs.declared.walk.Value.TheVariants.{Octets, Number, Negative}
use Rattle.appending.specs.Append.{field_octets, append_of, append_out}
use Rattle.numbers.specs.declared.refusal.Refusal.{Refusal}

-- A row. Where it gives two fields or lengths, the first is under flags 1 and the second under flags 0.
pub data Row : Type 0 where
  -- a type, a number of it, its integer, its fields
  number : ℕ → Value → ℤ → List ℕ → List ℕ → Row
  -- a type, octets of it, their fields
  octets_held : ℕ → List ℕ → List ℕ → List ℕ → Row
  -- a type, octets, and the lengths of its field at the first of them
  lengths : ℕ → List ℕ → ℕ → ℕ → Row
  -- a table, and whether it is sound
  sound : List ℕ → Bool → Row
  -- flags, a template ID, a record, and its answer number under `table_of`
  judged : ℕ → ℕ → List ℕ → ℕ → Row
  -- flags, a record under `table_of`, and the number in its first field
  walked : ℕ → List ℕ → ℕ → Row
  -- a width, a number, what is left of it modulo 256 to the width, its octets
  width : ℕ → ℕ → ℕ → List ℕ → List ℕ → Row

-- Template 3, with key 1 of type 4 and key 2 of type 400c, under flags and the two octets of the template count.
abbrev pub table_of : ℕ → ℕ → ℕ → List ℕ
table_of flags high low =
    1 ∷ flags ∷ high ∷ low ∷ 0 ∷ 3 ∷ 0 ∷ 2 ∷ 0 ∷ 0 ∷ 0 ∷ 0 ∷ 0 ∷ 0 ∷ 0 ∷ 0x24
    ∷ 0 ∷ 0 ∷ 0 ∷ 1 ∷ 0 ∷ 4 ∷ 0 ∷ 0 ∷ 0 ∷ 0 ∷ 0 ∷ 0
    ∷ 0 ∷ 0 ∷ 0 ∷ 2 ∷ 0x40 ∷ 0x0C ∷ 0 ∷ 0 ∷ 0 ∷ 0 ∷ 0 ∷ 0 ∷ []

-- Octets between others, from place 1 on.
abbrev pub amid : List ℕ → List ℕ
amid field = 0xEE ∷ field ++ (0x7F ∷ [])

-- What is made of a value and its field: the octets of its field; the field's length, value and integer where it stands among others; and
-- what appending the value to an output of that length answers and leaves.
pub record Handling : Type 0 where
  pub octets : List ℕ
  pub len : ℕ
  pub value : Value
  pub integer : Option ℤ
  pub answer : Result ℕ Refusal
  pub out : List ℕ

-- What is made of them under flags.
abbrev pub handled : ℕ → ℕ → Value → List ℕ → List ℕ → Handling
handled flags type value given field =
    let order = order_of flags in
    let room = amid (replicate (length field) 0xAA) in
    record {
      octets = field_octets order type value given;
      len = field_length order type (amid field) 1;
      value = value_at order type (amid field) 1;
      integer = integer_at order type (amid field) 1;
      answer = append_of order type value given room 1;
      out = append_out order type value given room 1;
    }

-- What is to be made of them where the field holds the value.
abbrev pub due : Value → Option ℤ → List ℕ → Handling
due value integer field =
    record { octets = field; len = length field; value = value; integer = integer; answer = Ok (1 + length field); out = amid field }

-- Under flags, the field holds the value.
abbrev pub HandledAs : ℕ → ℕ → Value → List ℕ → Option ℤ → List ℕ → Type 0
HandledAs flags type value given integer field = handled flags type value given field ≡ due value integer field

-- What a row says.
abbrev pub Holds : Row → Type 0
Holds (number type value integer big little) =
    HandledAs big_endian_flags type value [] (some integer) big × HandledAs 0 type value [] (some integer) little
Holds (octets_held type given big little) =
    HandledAs big_endian_flags type Octets given none big × HandledAs 0 type Octets given none little
Holds (lengths type r big little) =
    (field_length (order_of big_endian_flags) type r 0 ≡ big) × (field_length (order_of 0) type r 0 ≡ little)
Holds (sound t so) = table_sound t ≡ so
Holds (judged flags id r answer) = record_answer (table_of flags 0 1) id r ≡ answer
Holds (walked flags r n) =
    visited (step_of (table_of flags 0 1) 3 r) 5 walk_start
    ≡ record { kind = 4; at = 0; len = 2; value = Number n } ∷ record { kind = 0x400c; at = 2; len = 7; value = Octets } ∷ []
Holds (width w v left big little) =
    (uint_in (order_of big_endian_flags) (amid big) 1 w ∷ octets_in (order_of big_endian_flags) w v ≡ left ∷ big)
    × (uint_in (order_of 0) (amid little) 1 w ∷ octets_in (order_of 0) w v ≡ left ∷ little)

-- Every row holds.
abbrev pub AllHold : List Row → Type 0
AllHold [] = Unit {0}
AllHold (x ∷ xs) = Holds x × AllHold xs

-- The limits of the unsigned and of the signed type of 1 + n octets, whose greatest numbers are given.
abbrev pub limits : ℕ → ℕ → ℕ → ℕ → ℕ → List Row
limits unsigned signed n most high =
    let zeros : List ℕ = replicate n 0 in
    let ones : List ℕ = replicate n 0xFF in
    number unsigned (Number 0) (pos 0) (0 ∷ zeros) (0 ∷ zeros)
    ∷ number unsigned (Number 1) (pos 1) (zeros ++ (1 ∷ [])) (1 ∷ zeros)
    ∷ number unsigned (Number most) (pos most) (0xFF ∷ ones) (0xFF ∷ ones)
    ∷ number signed (Number 0) (pos 0) (0 ∷ zeros) (0 ∷ zeros)
    ∷ number signed (Number 1) (pos 1) (zeros ++ (1 ∷ [])) (1 ∷ zeros)
    ∷ number signed (Number high) (pos high) (0x7F ∷ ones) (ones ++ (0x7F ∷ []))
    ∷ number signed (Negative 1) (negsuc 0) (0xFF ∷ ones) (0xFF ∷ ones)
    ∷ number signed (Negative (1 + high)) (negsuc high) (0x80 ∷ zeros) (zeros ++ (0x80 ∷ []))
    ∷ []

-- A number, and octets, whose field is the same under either flags.
abbrev pub number_same : ℕ → ℕ → List ℕ → Row
number_same type n field = number type (Number n) (pos n) field field

abbrev pub octets_same : ℕ → List ℕ → List ℕ → Row
octets_same type given field = octets_held type given field field

-- Integers at their limits.
abbrev pub integers : List Row
integers =
    limits 2 3 0 255 127
    ++ limits 4 5 1 65535 32767
    ++ limits 6 7 3 4294967295 2147483647
    ++ limits 8 9 7 18446744073709551615 9223372036854775807

-- Integers of different octets, float and double 1, Booleans, the five times, both addresses, a string, a blob and a null terminated
-- string.
abbrev pub others : List Row
others =
    number 4 (Number 258) (pos 258) (1 ∷ 2 ∷ []) (2 ∷ 1 ∷ [])
    ∷ number 5 (Negative 32510) (negsuc 32509) (0x81 ∷ 2 ∷ []) (2 ∷ 0x81 ∷ [])
    ∷ number 6 (Number 16909060) (pos 16909060) (1 ∷ 2 ∷ 3 ∷ 4 ∷ []) (4 ∷ 3 ∷ 2 ∷ 1 ∷ [])
    ∷ number 7 (Negative 2130574588) (negsuc 2130574587) (0x81 ∷ 2 ∷ 3 ∷ 4 ∷ []) (4 ∷ 3 ∷ 2 ∷ 0x81 ∷ [])
    ∷ number 9 (Negative 9150748177064392952) (negsuc 9150748177064392951)
    (0x81 ∷ 2 ∷ 3 ∷ 4 ∷ 5 ∷ 6 ∷ 7 ∷ 8 ∷ []) (8 ∷ 7 ∷ 6 ∷ 5 ∷ 4 ∷ 3 ∷ 2 ∷ 0x81 ∷ [])
    ∷ number 8 (Number 9332165983064197000) (pos 9332165983064197000)
    (0x81 ∷ 0x82 ∷ 0x83 ∷ 0x84 ∷ 0x85 ∷ 0x86 ∷ 0x87 ∷ 0x88 ∷ []) (0x88 ∷ 0x87 ∷ 0x86 ∷ 0x85 ∷ 0x84 ∷ 0x83 ∷ 0x82 ∷ 0x81 ∷ [])
    ∷ number 0xa (Number 1065353216) (pos 1065353216) (0x3F ∷ 0x80 ∷ 0 ∷ 0 ∷ []) (0 ∷ 0 ∷ 0x80 ∷ 0x3F ∷ [])
    ∷ number 0xb (Number 4607182418800017408) (pos 4607182418800017408)
    (0x3F ∷ 0xF0 ∷ 0 ∷ 0 ∷ 0 ∷ 0 ∷ 0 ∷ 0 ∷ []) (0 ∷ 0 ∷ 0 ∷ 0 ∷ 0 ∷ 0 ∷ 0xF0 ∷ 0x3F ∷ [])
    ∷ number_same 1 0 (0 ∷ [])
    ∷ number_same 1 1 (1 ∷ [])
    ∷ number_same 0x12 1700000000 (0x65 ∷ 0x53 ∷ 0xF1 ∷ 0 ∷ [])
    ∷ number_same 0x13 1700000000123 (0 ∷ 0 ∷ 1 ∷ 0x8B ∷ 0xCF ∷ 0xE5 ∷ 0x68 ∷ 0x7B ∷ [])
    ∷ number_same 0x14 1700000000123456 (0 ∷ 6 ∷ 0x0A ∷ 0x24 ∷ 0x18 ∷ 0x20 ∷ 0x22 ∷ 0x40 ∷ [])
    ∷ number_same 0x15 16909060 (1 ∷ 2 ∷ 3 ∷ 4 ∷ [])
    ∷ number_same 0x16 4294967294 (0xFF ∷ 0xFF ∷ 0xFF ∷ 0xFE ∷ [])
    ∷ octets_same 0x10 (0xC0 ∷ 0 ∷ 2 ∷ 1 ∷ []) (0xC0 ∷ 0 ∷ 2 ∷ 1 ∷ [])
    ∷ octets_same 0x11 (0x20 ∷ 1 ∷ 0x0D ∷ 0xB8 ∷ 0 ∷ 0 ∷ 0 ∷ 0 ∷ 0 ∷ 0 ∷ 0 ∷ 0 ∷ 0 ∷ 0 ∷ 0 ∷ 1 ∷ [])
    (0x20 ∷ 1 ∷ 0x0D ∷ 0xB8 ∷ 0 ∷ 0 ∷ 0 ∷ 0 ∷ 0 ∷ 0 ∷ 0 ∷ 0 ∷ 0 ∷ 0 ∷ 0 ∷ 1 ∷ [])
    ∷ octets_held 0x400c (0x61 ∷ 0x62 ∷ 0x63 ∷ []) (0 ∷ 0 ∷ 0 ∷ 3 ∷ 0x61 ∷ 0x62 ∷ 0x63 ∷ []) (3 ∷ 0 ∷ 0 ∷ 0 ∷ 0x61 ∷ 0x62 ∷ 0x63 ∷ [])
    ∷ octets_held 0x4015 (0xFF ∷ 0 ∷ 0x80 ∷ []) (0 ∷ 0 ∷ 0 ∷ 3 ∷ 0xFF ∷ 0 ∷ 0x80 ∷ []) (3 ∷ 0 ∷ 0 ∷ 0 ∷ 0xFF ∷ 0 ∷ 0x80 ∷ [])
    ∷ octets_same 0x400d (0xFF ∷ 0x80 ∷ []) (0xFF ∷ 0x80 ∷ 0 ∷ [])
    ∷ []

-- Fields of which at most one length is not 0: a 32-bit length in the other order is too long; an octet of a string is not below 128; a
-- Boolean is 2.
abbrev pub invalid : List Row
invalid =
    lengths 0x400c (0 ∷ 0 ∷ 0 ∷ 3 ∷ 0x61 ∷ 0x62 ∷ 0x63 ∷ []) 7 0
    ∷ lengths 0x400c (3 ∷ 0 ∷ 0 ∷ 0 ∷ 0x61 ∷ 0x62 ∷ 0x63 ∷ []) 0 7
    ∷ lengths 0x4015 (0 ∷ 0 ∷ 0 ∷ 3 ∷ 0x61 ∷ 0x62 ∷ 0x63 ∷ []) 7 0
    ∷ lengths 0x4015 (3 ∷ 0 ∷ 0 ∷ 0 ∷ 0x61 ∷ 0x62 ∷ 0x63 ∷ []) 0 7
    ∷ lengths 0x400c (0 ∷ 0 ∷ 0 ∷ 3 ∷ 0x61 ∷ 0x62 ∷ 0x80 ∷ []) 0 0
    ∷ lengths 0x400c (3 ∷ 0 ∷ 0 ∷ 0 ∷ 0x61 ∷ 0x62 ∷ 0x80 ∷ []) 0 0
    ∷ lengths 0x4015 (3 ∷ 0 ∷ 0 ∷ 0 ∷ 0x61 ∷ 0x62 ∷ 0x80 ∷ []) 0 7
    ∷ lengths 0x4015 (0 ∷ 0 ∷ 1 ∷ 2 ∷ replicate 258 0x61) 262 0
    ∷ lengths 0x4015 (2 ∷ 1 ∷ 0 ∷ 0 ∷ replicate 258 0x61) 0 262
    ∷ lengths 1 (2 ∷ []) 0 0
    ∷ []

-- Tables of flags 0 to 2 and 255, with a template count whose octets are turned, empty, and of a head alone; records judged under flags 0
-- to 2 and walked under 0 and 1; and widths that no type has.
abbrev pub whole : List Row
whole =
    sound (table_of 0 0 1) true ∷ sound (table_of 1 0 1) true ∷ sound (table_of 2 0 1) false ∷ sound (table_of 255 0 1) false
    ∷ sound (table_of 0 1 0) false ∷ sound (table_of 1 1 0) false ∷ sound [] false ∷ sound (1 ∷ 0 ∷ 0 ∷ 1 ∷ []) false
    ∷ judged 1 3 (0 ∷ 5 ∷ 0 ∷ 0 ∷ 0 ∷ 3 ∷ 0x61 ∷ 0x62 ∷ 0x63 ∷ []) 0
    ∷ judged 0 3 (0 ∷ 5 ∷ 0 ∷ 0 ∷ 0 ∷ 3 ∷ 0x61 ∷ 0x62 ∷ 0x63 ∷ []) 16
    ∷ judged 0 3 (5 ∷ 0 ∷ 3 ∷ 0 ∷ 0 ∷ 0 ∷ 0x61 ∷ 0x62 ∷ 0x63 ∷ []) 0
    ∷ judged 1 3 (5 ∷ 0 ∷ 3 ∷ 0 ∷ 0 ∷ 0 ∷ 0x61 ∷ 0x62 ∷ 0x63 ∷ []) 16
    ∷ judged 2 3 (5 ∷ 0 ∷ 3 ∷ 0 ∷ 0 ∷ 0 ∷ 0x61 ∷ 0x62 ∷ 0x63 ∷ []) 21
    ∷ judged 0 768 (5 ∷ 0 ∷ 3 ∷ 0 ∷ 0 ∷ 0 ∷ 0x61 ∷ 0x62 ∷ 0x63 ∷ []) 15
    ∷ judged 0 3 (5 ∷ 0 ∷ 3 ∷ 0 ∷ 0 ∷ 0 ∷ 0x61 ∷ 0x62 ∷ []) 16
    ∷ walked 1 (0 ∷ 5 ∷ 0 ∷ 0 ∷ 0 ∷ 3 ∷ 0x61 ∷ 0x62 ∷ 0x63 ∷ []) 5
    ∷ walked 0 (5 ∷ 0 ∷ 3 ∷ 0 ∷ 0 ∷ 0 ∷ 0x61 ∷ 0x62 ∷ 0x63 ∷ []) 5
    ∷ width 0 5 0 [] []
    ∷ width 3 66051 66051 (1 ∷ 2 ∷ 3 ∷ []) (3 ∷ 2 ∷ 1 ∷ [])
    ∷ width 2 66051 515 (2 ∷ 3 ∷ []) (3 ∷ 2 ∷ [])
    ∷ []

-- All of them.
abbrev pub rows : List Row
rows = integers ++ others ++ invalid ++ whole
