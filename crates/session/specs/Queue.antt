-- The queue of held records: three arrays and a ring of octets, and the list of records that they stand for (01, "Exporter").
--
use Rattle.std.specs.Prelude.{ℕ, zero, suc, ◌+◌, ◌-◌, ◌/◌, ◌%◌, ◌^◌, Bool, false, not, ◌&&◌, ◌||◌, List, [], ◌∷◌, ◌++◌, length, get_or, set, take, drop, replicate, eqb}
use Rattle.std.specs.Int.Bits.{bit_or}
use Rattle.octets.specs.Numbers.{put_at}
use Rattle.std.specs.Prelude.{Option, Some, None}
use Rattle.session.specs.declared.state.Queue.{Queue}
use Rattle.session.specs.declared.state.State.{State}

-- A record with its template ID.
pub record Entry : Type 0 where
  pub template : ℕ
  pub octets : List ℕ

-- ---- the ring

-- The n octets from place `at` on, modulo the store's length.
unfoldable pub ring_read : ℕ → List ℕ → ℕ → ℕ → List ℕ
ring_read room store at zero = []
ring_read room store at (suc n) = get_or store (at % room) 0 ∷ ring_read room store (at + 1) n

-- The store with octets copied one by one to the places from `at` on, modulo its length.
unfoldable pub ring_write : ℕ → List ℕ → ℕ → List ℕ → List ℕ
ring_write room store at [] = store
ring_write room store at (x ∷ octets) = ring_write room (set store (at % room) x) (at + 1) octets

-- The store with octets copied in two runs (02, ask 3): from `at` on, modulo its length, up to its end, then the rest from its beginning.
-- With no more octets than it has places, it ends as copying one by one leaves it (law `two_runs`).
unfoldable pub ring_runs : List ℕ → ℕ → List ℕ → List ℕ
ring_runs store at octets =
    let place = at % length store in
    let first = length store - place in
    put_at (put_at store place (take first octets)) 0 (drop first octets)

-- ---- the held records

-- The sum of a list's numbers.
unfoldable pub sum_of : List ℕ → ℕ
sum_of [] = 0
sum_of (x ∷ xs) = x + sum_of xs

-- How many octets the first k records have together.
abbrev pub octets_to : Queue → ℕ → ℕ
octets_to q k = sum_of (take k q.lengths)

-- How many octets all held records have together.
abbrev pub held_octets : Queue → ℕ
held_octets q = octets_to q q.count

-- The place in the store where the record at place i of the queue begins, by the ring's start and the lengths: behind those before it,
-- modulo the store's length.
abbrev pub ring_place : ℕ → ℕ → List ℕ → ℕ → ℕ
ring_place capacity start lengths i = (start + sum_of (take i lengths)) % capacity

-- The octets of the record at place i of the queue: they follow those before it from the ring's start on.
unfoldable pub record_at : State → List ℕ → ℕ → List ℕ
record_at s store i = ring_read s.capacity store (s.start + octets_to s.queue i) (get_or s.queue.lengths i 0)

-- The held records in ring order, with their template IDs: those at the n places from i on.
unfoldable pub held_from : State → List ℕ → ℕ → ℕ → List Entry
held_from s store i zero = []
held_from s store i (suc n) =
    record { template = get_or s.queue.templates i 0; octets = record_at s store i } ∷ held_from s store (i + 1) n

-- All held records.
abbrev pub held : State → List ℕ → List Entry
held s store = held_from s store 0 s.queue.count

-- ---- sets of servers, as the bits of a number

-- Server v is in the set m.
unfoldable pub has : ℕ → ℕ → Bool
has m v = eqb (m / 2 ^ v % 2) 1

-- The set with server v.
abbrev pub with : ℕ → ℕ → ℕ
with m v = bit_or m (2 ^ v)

-- The set with the active server, if there is one.
abbrev pub marked_set : Option ℕ → ℕ → ℕ
marked_set None m = m
marked_set (Some v) m = with m v

-- One of the first n servers, other than v, is in the set.
unfoldable pub has_other : ℕ → ℕ → ℕ → Bool
has_other zero v m = false
has_other (suc n) v m = (not (eqb n v) && has m n) || has_other n v m

-- ---- what the calls do to the arrays

-- A put fills the first unused entries; nobody was sent the record.
unfoldable pub pushed : Queue → ℕ → ℕ → Queue
pushed q template len =
    record {
      count = q.count + 1;
      lengths = set q.lengths q.count len;
      templates = set q.templates q.count template;
      receivers = set q.receivers q.count 0;
    }

-- The entries from n on, moved to the front, with 0 in the last n.
abbrev pub shifted : List ℕ → ℕ → List ℕ
shifted xs n = drop n xs ++ replicate n 0

-- A release of the first n records: the whole arrays move down.
unfoldable pub drop_front : Queue → ℕ → Queue
drop_front q n =
    record {
      count = q.count - n;
      lengths = shifted q.lengths n;
      templates = shifted q.templates n;
      receivers = shifted q.receivers n;
    }

-- The queue whose record at place i was sent to the servers of the set m.
unfoldable pub marked : Queue → ℕ → ℕ → Queue
marked q i m =
    record {
      count = q.count;
      lengths = q.lengths;
      templates = q.templates;
      receivers = set q.receivers i m;
    }
