-- What the ring's helpers answer, case by case: with the numbers of a sound state the definitions of `session`, outside of them nothing.
-- Reading and writing copy one part of the store, or two where the octets reach past its end.
use mathlib.Core.Path.{◌≡◌, refl, sym, ap, ◌∙◌}
use Prim.Native.Nat.{ℕ, ◌+◌, ◌-◌, ◌%◌, ◌≤◌, ◌<◌, min}
use mathlib.Core.List.{List, [], ◌∷◌}
use native.Mathlib.Nat.{mod-eq_of_lt, mod-lt, add-mod_right}
use native.Mathlib.Omega.{arith}
use borrow.Author.Tests.{le-leb, lt-leb, le-ltb, lt-ltb, leb-true, leb-false}
use mathlib.Core.Bool.{Bool, true, false}
use lib.Dec.{leb}
use lib.ListN.{length, take, drop, length-drop}
use lib.Seq.{sets, length-take-le, take_all}
use Rattle.octets.specs.Numbers.{put_at}
use Rattle.octets.proofs.Stores.{put_fits, put_short, put_join}
use Rattle.session.specs.Queue.{sum_of, ring_place, ring_read, ring_write, ring_runs}
use Rattle.session.proofs.Rings.{read_length, read_near, read_far, write_run, two_runs}
use Rattle.queue.specs.Rings.{record_start, ring_stored, ring_copied}

-- ---- places

-- a place past the end of the store, brought back by its length
pub place_back : (at room : ℕ) → room ≤ at → (at - room) % room ≡ at % room
place_back at room h =
    let e : at - room + room ≡ at = omega arith in
    sym (add-mod_right (at - room) room) ∙ ap (λ (n : ℕ). n % room) e

-- ---- where a record begins

pub start_inside : (capacity start : ℕ) (lengths : List ℕ) (i : ℕ) → start < capacity
    → record_start capacity start lengths i ≡ ring_place capacity start lengths i
unfolding record_start
start_inside capacity start lengths i h = rw (lt-ltb start capacity h)

pub start_outside : (capacity start : ℕ) (lengths : List ℕ) (i : ℕ) → capacity ≤ start → 0 ≡ record_start capacity start lengths i
unfolding record_start
start_outside capacity start lengths i h = rw (le-ltb start capacity h)

-- the octets behind the start end before the end of the store
pub start_near : (capacity start : ℕ) (lengths : List ℕ) (i n : ℕ) → n ≡ sum_of (take i lengths) → start < capacity → n < capacity - start
    → start + n ≡ record_start capacity start lengths i
start_near capacity start lengths i n e h k =
    let m : start + sum_of (take i lengths) < capacity = omega arith in
    rw e (sym (start_inside capacity start lengths i h ∙ mod-eq_of_lt {n = start + sum_of (take i lengths)} {m = capacity} m))

-- they reach past it
pub start_far : (capacity start : ℕ) (lengths : List ℕ) (i n : ℕ) → n ≡ sum_of (take i lengths) → start < capacity → capacity - start ≤ n
    → (n - (capacity - start)) % capacity ≡ record_start capacity start lengths i
start_far capacity start lengths i n e h k =
    let t : n - (capacity - start) ≡ start + sum_of (take i lengths) - capacity = omega arith in
    ap (λ (j : ℕ). j % capacity) t ∙ place_back _ capacity (omega arith) ∙ sym (start_inside capacity start lengths i h)

-- ---- writing

module _ (store : List ℕ) (at : ℕ) (octets : List ℕ) where
  pub stored_inside : length octets ≤ length store → ring_stored store at octets ≡ ring_write (length store) store at octets
  unfolding ring_stored
  stored_inside h = rw (le-leb (length octets) (length store) h)

  pub stored_outside : length store < length octets → store ≡ ring_stored store at octets
  unfolding ring_stored
  stored_outside h = rw (lt-leb (length octets) (length store) h)

  -- no places, and so no octets
  pub stored_nowhere : length octets ≤ length store → length store ≡ 0 → store ≡ ring_stored store at octets
  unfolding ring_write
  stored_nowhere h e = sym (stored_inside h ∙ go octets (omega arith))
    where
      go : (xs : List ℕ) → length xs ≤ 0 → ring_write (length store) store at xs ≡ store
      go [] l = refl
      go (x ∷ xs) l = absurd (omega arith)

  -- the octets do not reach past the end
  pub stored_near : (place : ℕ) → place ≡ at % length store → 0 < length store → place + length octets ≤ length store
      → put_at store place octets ≡ ring_stored store at octets
  stored_near place e z h =
      write_run store place at octets h (ap (λ (k : ℕ). k % length store) e ∙ mod-eq_of_lt (mod-lt at z))
      ∙ sym (stored_inside (omega arith))

  -- they do: up to the end, and then the rest from the beginning on
  pub stored_far : (place : ℕ) → place ≡ at % length store → 0 < length store → length octets ≤ length store
      → put_at (put_at store place (take (length store - place) octets)) 0 (drop (length store - place) octets) ≡ ring_stored store at octets
  unfolding ring_runs
  stored_far place e z k = rw e (two_runs store at octets z k) ∙ sym (stored_inside k)

-- ---- reading

module _ (store : List ℕ) (at n : ℕ) (out : List ℕ) (place : ℕ) where
  -- the n octets
  abbrev octets_at : List ℕ
  octets_at = ring_read (length store) store at n

  pub copied_from : at < length store → n ≤ length store → ring_copied store at n out place ≡ put_at out place octets_at
  unfolding ring_copied
  copied_from h k = rw (lt-ltb at (length store) h, le-leb n (length store) k)

  pub copied_inside : at < length store → n ≤ length store → place + n ≤ length out
      → ring_copied store at n out place ≡ sets out place octets_at
  copied_inside h k l = copied_from h k ∙ put_fits out place octets_at (omega (arith, read_length (length store) store at n))

  pub copied_outside : length store ≤ at → out ≡ ring_copied store at n out place
  unfolding ring_copied
  copied_outside h = rw (le-ltb at (length store) h)

  pub copied_too_many : at < length store → length store < n → out ≡ ring_copied store at n out place
  unfolding ring_copied
  copied_too_many h k = rw (lt-ltb at (length store) h, lt-leb n (length store) k)

  pub copied_short : at < length store → n ≤ length store → length out < place + n → out ≡ ring_copied store at n out place
  copied_short h k l = sym (copied_from h k ∙ put_short out place octets_at (omega (arith, read_length (length store) store at n)))

  -- the octets do not reach past the end
  pub copied_near : at + n ≤ length store → at < length store → put_at out place (take n (drop at store)) ≡ ring_copied store at n out place
  copied_near h k = ap (put_at out place) (sym (read_near (length store) store at n refl h)) ∙ sym (copied_from k (omega arith))

  -- they do: up to the end, and then from the beginning on
  pub copied_far : (f : ℕ) → f ≡ length store - at → at < length store → n ≤ length store → f ≤ n → place + n ≤ length out
      → put_at (put_at out place (drop at store)) (place + f) (take (n - f) store) ≡ ring_copied store at n out place
  copied_far f e h k l r =
      let X = drop at store in
      let Y = take (n - f) store in
      let lx : length X ≡ f = length-drop at store ∙ sym e in
      let ly : length Y ≡ n - f = length-take-le (n - f) store (omega arith) in
      ap (λ (j : ℕ). put_at (put_at out place X) (place + j) Y) (sym lx)
      ∙ put_join out place X Y (omega arith)
      ∙ ap (put_at out place) (rw e (sym (read_far (length store) store at n refl h (omega arith) k)))
      ∙ sym (copied_from h k)
