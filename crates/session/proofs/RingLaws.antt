-- Writing to the ring goes octet by octet. An octet before what is written stays, because places less than a length apart are different; so
-- what was held is read as before, and what is written is read back.
use mathlib.Core.Path.{◌≡◌, refl, ◌∙◌}
use mathlib.Core.List.{List, [], ◌∷◌}
use Prim.Native.Nat.{ℕ, zero, suc, ◌+◌, ◌%◌, ◌≤◌, ◌<◌}
use native.Mathlib.Nat.{mod-lt}
use native.Mathlib.Omega.{arith}
use lib.ListN.{length, get_or, set, length-set}
use lib.Seq.{get_or-set_same, get_or-set_other}
use Rattle.session.specs.Queue.{ring_read, ring_write}
use Rattle.session.proofs.Places.{apart}

pub write_length : (room : ℕ) (st : List ℕ) (at : ℕ) (r : List ℕ) → length (ring_write room st at r) ≡ length st
unfolding ring_write
write_length room st at [] = refl
write_length room st at (x ∷ r) = write_length room (set st (at % room) x) (at + 1) r ∙ length-set st (at % room) x

-- an octet before what is written
octet_stays : (room : ℕ) (st : List ℕ) (i at : ℕ) (r : List ℕ) → i < at → at + length r ≤ i + room
    → get_or (ring_write room st at r) (i % room) 0 ≡ get_or st (i % room) 0
unfolding ring_write
octet_stays room st i at [] h k = refl
octet_stays room st i at (x ∷ r) h k =
    octet_stays room (set st (at % room) x) i (at + 1) r (omega arith) (omega arith)
    ∙ get_or-set_other st (at % room) (i % room) x 0 (apart room i at h (omega arith))

-- octets before what is written
pub read_before : (room : ℕ) (st : List ℕ) (i n at : ℕ) (r : List ℕ) → i + n ≤ at → at + length r ≤ i + room
    → ring_read room (ring_write room st at r) i n ≡ ring_read room st i n
unfolding ring_read
read_before room st i zero at r h k = refl
read_before room st i (suc n) at r h k =
    rw (octet_stays room st i at r (omega arith) k, read_before room st (i + 1) n at r (omega arith) (omega arith))

-- the octets written
pub read_written : (room : ℕ) (st : List ℕ) (at : ℕ) (r : List ℕ) → 0 < room → length st ≡ room → length r ≤ room
    → ring_read room (ring_write room st at r) at (length r) ≡ r
unfolding ring_read ring_write
read_written room st at [] z l h = refl
read_written room st at (x ∷ r) z l h =
    let st' = set st (at % room) x in
    let e : get_or (ring_write room st' (at + 1) r) (at % room) 0 ≡ x =
    octet_stays room st' at (at + 1) r (omega arith) (omega arith) ∙ get_or-set_same st (at % room) x 0 (omega (arith, mod-lt at z)) in
    rw (e, read_written room st' (at + 1) r z (length-set st (at % room) x ∙ l) (omega arith))
