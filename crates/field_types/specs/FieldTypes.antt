-- The field types, one row each (01, "Template table"; 02, ask 6).
use Rattle.std.specs.Prelude.{ℕ, Bool, true, false, cond, List, [], ◌∷◌, map}
use Rattle.octets.specs.Each.{look_up}
use Rattle.numbers.specs.declared.OctetOrder.{OctetOrder}
use Rattle.numbers.specs.declared.OctetOrder.TheVariants.{BigEndian}

-- What the octets of a field stand for: an unsigned number (floats by their bits, Booleans and times too), a signed number, or themselves.
pub data Class : Type 0 where
  unsigned signed octets : Class

-- A row: the type's number, the width of its fields in octets, 0 where that varies, its class, and whether under a little-endian table the
-- number in its fields (the value, or the 32-bit length in front) stands least significant octet first. Where there is no number of two
-- octets or more, as in an address, the last column changes no field.
pub record Row : Type 0 where
  pub number : ℕ
  pub width : ℕ
  pub class : Class
  pub turns : Bool

-- A row, by its columns.
abbrev pub row : ℕ → ℕ → Class → Bool → Row
row number width class turns = record { number = number; width = width; class = class; turns = turns }

-- The last column where under a little-endian table the least significant octet stands first.
abbrev pub turned : Bool
turned = true

-- The last column where a field is the same under every table.
abbrev pub unturned : Bool
unturned = false

-- ---- the numbers of the types

-- Boolean: one octet, 0 or 1.
abbrev pub boolean_type : ℕ
boolean_type = 0x01

-- Unsigned integer of 8 bits.
abbrev pub unsigned8_type : ℕ
unsigned8_type = 0x02

-- Signed integer of 8 bits.
abbrev pub signed8_type : ℕ
signed8_type = 0x03

-- Unsigned integer of 16 bits.
abbrev pub unsigned16_type : ℕ
unsigned16_type = 0x04

-- Signed integer of 16 bits.
abbrev pub signed16_type : ℕ
signed16_type = 0x05

-- Unsigned integer of 32 bits.
abbrev pub unsigned32_type : ℕ
unsigned32_type = 0x06

-- Signed integer of 32 bits.
abbrev pub signed32_type : ℕ
signed32_type = 0x07

-- Unsigned integer of 64 bits.
abbrev pub unsigned64_type : ℕ
unsigned64_type = 0x08

-- Signed integer of 64 bits.
abbrev pub signed64_type : ℕ
signed64_type = 0x09

-- Float, 32 bits.
abbrev pub float_type : ℕ
float_type = 0x0a

-- Double, 64 bits.
abbrev pub double_type : ℕ
double_type = 0x0b

-- IPv4 address.
abbrev pub ipv4_type : ℕ
ipv4_type = 0x10

-- IPv6 address.
abbrev pub ipv6_type : ℕ
ipv6_type = 0x11

-- Time in seconds, 32 bits.
abbrev pub seconds_type : ℕ
seconds_type = 0x12

-- Time in milliseconds, 64 bits.
abbrev pub milliseconds64_type : ℕ
milliseconds64_type = 0x13

-- Time in microseconds, 64 bits.
abbrev pub microseconds64_type : ℕ
microseconds64_type = 0x14

-- Time in milliseconds, 32 bits.
abbrev pub milliseconds32_type : ℕ
milliseconds32_type = 0x15

-- Time in microseconds, 32 bits.
abbrev pub microseconds32_type : ℕ
microseconds32_type = 0x16

-- String: a 32-bit length, then octets below 128.
abbrev pub string_type : ℕ
string_type = 0x400c

-- Null terminated string: octets to the first zero, which counts.
abbrev pub terminated_type : ℕ
terminated_type = 0x400d

-- Blob: a 32-bit length, then octets.
abbrev pub blob_type : ℕ
blob_type = 0x4015

-- ---- the rows

-- Boolean; the integers; float and double; the two addresses; the five times; string, null terminated string and blob.
abbrev pub rows : List Row
rows =
    row boolean_type 1 unsigned unturned
    ∷ row unsigned8_type 1 unsigned turned ∷ row signed8_type 1 signed turned
    ∷ row unsigned16_type 2 unsigned turned ∷ row signed16_type 2 signed turned
    ∷ row unsigned32_type 4 unsigned turned ∷ row signed32_type 4 signed turned
    ∷ row unsigned64_type 8 unsigned turned ∷ row signed64_type 8 signed turned
    ∷ row float_type 4 unsigned turned ∷ row double_type 8 unsigned turned
    ∷ row ipv4_type 4 octets unturned ∷ row ipv6_type 16 octets unturned
    ∷ row seconds_type 4 unsigned unturned
    ∷ row milliseconds64_type 8 unsigned unturned ∷ row microseconds64_type 8 unsigned unturned
    ∷ row milliseconds32_type 4 unsigned unturned ∷ row microseconds32_type 4 unsigned unturned
    ∷ row string_type 0 octets turned ∷ row terminated_type 0 octets unturned ∷ row blob_type 0 octets turned
    ∷ []

-- The numbers of all types, in the rows' order.
abbrev pub type_numbers : List ℕ
type_numbers = map (λ r. r.number) rows

-- What f gives of the row with a number, or `other` where no row has it.
abbrev pub of_row : {A : Type 0} → (Row → A) → A → List Row → ℕ → A
of_row f other rs n = look_up (λ r. r.number) f other rs n

-- The width of a type's fields, 0 where it varies and for a number that is no type's.
unfoldable pub width_of : ℕ → ℕ
width_of n = of_row (λ r. r.width) 0 rows n

-- The number is a type's.
unfoldable pub is_type : ℕ → Bool
is_type n = of_row (λ r. true) false rows n

-- A class of signed numbers.
abbrev pub is_signed_class : Class → Bool
is_signed_class unsigned = false
is_signed_class signed = true
is_signed_class octets = false

-- A class of numbers.
abbrev pub is_number_class : Class → Bool
is_number_class unsigned = true
is_number_class signed = true
is_number_class octets = false

-- The type's fields are signed numbers.
unfoldable pub is_signed : ℕ → Bool
is_signed n = of_row (λ r. is_signed_class r.class) false rows n

-- The type's fields are numbers.
unfoldable pub is_number : ℕ → Bool
is_number n = of_row (λ r. is_number_class r.class) false rows n

-- The number in the type's fields has the octet order of the table.
unfoldable pub is_turned : ℕ → Bool
is_turned n = of_row (λ r. r.turns) unturned rows n

-- The octet order of the number in a type's fields, under a table of an octet order.
unfoldable pub field_order : OctetOrder → ℕ → OctetOrder
field_order order n = cond (is_turned n) order BigEndian
