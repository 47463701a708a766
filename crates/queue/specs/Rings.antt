-- What the ring's helpers answer on all inputs. Where the numbers are those of a sound state and its store, each is the definition of
-- `session` that it names (laws in proofs/Rings).
use Rattle.std.specs.Prelude.{ℕ, ◌&&◌, cond, List, leb, ltb, length}
use Rattle.octets.specs.Numbers.{put_at}
use Rattle.session.specs.Queue.{ring_place, ring_read, ring_write}

-- The place where the record at place i of the queue begins, in a store of this length; 0 where the ring's start is not below the length.
unfoldable pub record_start : ℕ → ℕ → List ℕ → ℕ → ℕ
record_start capacity start lengths i = cond (ltb start capacity) (ring_place capacity start lengths i) 0

-- The store with octets copied to the places from `at` on, modulo its length; as it was where there are more octets than places.
unfoldable pub ring_stored : List ℕ → ℕ → List ℕ → List ℕ
ring_stored store at octets = cond (leb (length octets) (length store)) (ring_write (length store) store at octets) store

-- The output with the n octets from place `at` on, modulo the store's length, copied to a place of it; as it was where `at` is no place of
-- the store, where it has fewer than n, or where they do not fit the output.
unfoldable pub ring_copied : List ℕ → ℕ → ℕ → List ℕ → ℕ → List ℕ
ring_copied store at n out place =
    cond (ltb at (length store) && leb n (length store)) (put_at out place (ring_read (length store) store at n)) out
