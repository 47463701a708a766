-- A collector's journal (02, ask 4): the octets of an entry, the entries that octets stand for, and reading one entry at a place.
use Rattle.std.specs.Prelude.{ℕ, zero, suc, ◌+◌, ◌-◌, Bool, ◌&&◌, cond, List, [], ◌∷◌, ◌++◌, eqb, leb, length, take, drop, Option, Some, None, Result, Ok, Err}
use Rattle.octets.specs.Answers.{done, body_length_wrong}
use Rattle.numbers.specs.declared.refusal.Refusal.{Refusal}
use Rattle.numbers.specs.declared.refusal.Refusal.TheVariants.{BodyLengthWrong}
use Rattle.octets.specs.Numbers.{uint_at, octets_of}
use Rattle.collection.specs.declared.journal.Entry.{Entry}

-- ---- what an entry says, and its octets

-- A record that was accepted: its DSN, its duplicate mark D, its template ID and its octets.
pub record JournalEntry : Type 0 where
  pub dsn : ℕ
  pub duplicate : Bool
  pub template : ℕ
  pub octets : List ℕ

-- Octets of an entry in front of its record: DSN 4, D 1, template ID 2, length 2.
abbrev pub entry_head_octets : ℕ
entry_head_octets = 9

-- How many octets the entry of a record has.
abbrev pub entry_length : List ℕ → ℕ
entry_length r = entry_head_octets + length r

-- D as an octet: 0 or 1.
abbrev pub mark_octet : Bool → ℕ
mark_octet d = cond d 1 0

-- The octets of an entry: DSN 32, D 8, template ID 16, length 16, the record.
unfoldable pub entry_octets : JournalEntry → List ℕ
entry_octets x =
    octets_of 4 x.dsn
    ++ (mark_octet x.duplicate ∷ (octets_of 2 x.template ++ (octets_of 2 (length x.octets) ++ x.octets)))

-- The octets of entries, one behind the other.
unfoldable pub entries_octets : List JournalEntry → List ℕ
entries_octets [] = []
entries_octets (x ∷ xs) = entry_octets x ++ entries_octets xs

-- ---- reading one entry at a place

-- How many octets are left from a place on.
abbrev pub left : List ℕ → ℕ → ℕ
left j at = length j - at

-- The length that the entry at a place states for its record.
abbrev pub stated_length : List ℕ → ℕ → ℕ
stated_length j at = uint_at j (at + 7) 2

-- An entry stands at a place: its head and its record are within the octets, and its D is 0 or 1.
unfoldable pub is_entry : List ℕ → ℕ → Bool
is_entry j at =
    leb entry_head_octets (left j at) && leb (uint_at j (at + 4) 1) 1 && leb (stated_length j at) (left j at - entry_head_octets)

-- The entry at a place, by its DSN, D, template ID, and the place and length of its record.
unfoldable pub entry_at : List ℕ → ℕ → Entry
entry_at j at =
    record {
      dsn = uint_at j at 4;
      duplicate = eqb (uint_at j (at + 4) 1) 1;
      template = uint_at j (at + 5) 2;
      at = at + entry_head_octets;
      len = stated_length j at;
    }

-- Reading at a place: none where no octet is left, an entry where one stands, else 8, as lengths that disagree are.
unfoldable pub read_entry : List ℕ → ℕ → Result (Option Entry) Refusal
read_entry j at =
    cond (leb (length j) at) (Ok None) (cond (is_entry j at) (Ok (Some (entry_at j at))) (Err BodyLengthWrong))

-- ---- the entries that octets stand for

-- The entry with its record's octets, by where it was read.
unfoldable pub entry_of : List ℕ → Entry → JournalEntry
entry_of j x = record { dsn = x.dsn; duplicate = x.duplicate; template = x.template; octets = take x.len (drop x.at j) }

-- What a walk over a journal finds: its entries up to the first octets that are none, and the answer there: 0 at the end, else 8.
pub record Walked : Type 0 where
  pub entries : List JournalEntry
  pub answer : ℕ

-- One entry more in front.
abbrev pub behind : JournalEntry → Walked → Walked
behind x w = record { entries = x ∷ w.entries; answer = w.answer }

-- The walk from a place on, of at most n entries, each beginning where the record before it ends.
unfoldable pub walk_from : ℕ → List ℕ → ℕ → Walked
walk_from zero j at = record { entries = []; answer = done }
walk_from (suc n) j at =
    cond (leb (length j) at)
    (record { entries = []; answer = done })
    (cond (is_entry j at)
    (behind (entry_of j (entry_at j at)) (walk_from n j (at + entry_head_octets + stated_length j at)))
    (record { entries = []; answer = body_length_wrong }))

-- The whole walk: there are no more entries than octets.
abbrev pub walked : List ℕ → Walked
walked j = walk_from (length j) j 0
