-- Reading from the ring is splitting it: a octets and b octets behind them are a + b octets. So what does not reach past the end is one
-- part of the store, and what does is two. Writing goes likewise, in one run or in two.
use mathlib.Core.Path.{◌≡◌, refl, sym, ap, ◌∙◌}
use mathlib.Core.Bool.{Bool, true, false}
use mathlib.Core.List.{List, [], ◌∷◌, ◌++◌}
use Prim.Native.Nat.{ℕ, zero, suc, ◌+◌, ◌-◌, ◌%◌, ◌≤◌, ◌<◌}
use native.Mathlib.Nat.{add-zero, zero-add, add-mod_right, mod-add-mod, mod-eq_of_lt, mod-lt}
use native.Mathlib.Numerals.{add-one}
use native.Mathlib.Omega.{arith}
use borrow.Author.Tests.{leb-true, leb-false}
use lib.Dec.{leb}
use lib.ListN.{length, get_or, take, drop, set, length-drop, take-append-drop, drop_of_length-le}
use lib.Seq.{drop-cons, take_all, sets, length-sets, length-take-le}
use Rattle.octets.specs.Numbers.{put_at}
use Rattle.octets.proofs.Stores.{put_fits}
use Rattle.session.specs.Queue.{ring_read, ring_write, ring_runs}

-- ---- reading

-- a octets, and b octets behind them
read_join : (room : ℕ) (st : List ℕ) (at a b : ℕ) → ring_read room st at (a + b) ≡ ring_read room st at a ++ ring_read room st (at + a) b
unfolding ring_read
read_join room st at zero b = rw (zero-add, add-zero)
read_join room st at (suc a) b =
    let e : at + 1 + a ≡ at + suc a = omega arith in
    let n : suc a + b ≡ suc (a + b) = omega arith in
    rw (n, ← e) (ap (λ (l : List ℕ). get_or st (at % room) 0 ∷ l) (read_join room st (at + 1) a b))

-- places that are the same modulo the store's length have the same next one
next_same : (room a b : ℕ) → a % room ≡ b % room → (a + 1) % room ≡ (b + 1) % room
next_same room a b e = sym (mod-add-mod a room 1) ∙ ap (λ (x : ℕ). (x + 1) % room) e ∙ mod-add-mod b room 1

-- only the place modulo the store's length counts
pub read_same : (room : ℕ) (st : List ℕ) (a b n : ℕ) → a % room ≡ b % room → ring_read room st a n ≡ ring_read room st b n
unfolding ring_read
read_same room st a b zero e = refl
read_same room st a b (suc n) e = rw (e, read_same room st (a + 1) (b + 1) n (next_same room a b e))

pub read_length : (room : ℕ) (st : List ℕ) (at n : ℕ) → length (ring_read room st at n) ≡ n
unfolding ring_read
read_length room st at zero = refl
read_length room st at (suc n) = ap suc (read_length room st (at + 1) n)

-- octets that do not reach past the end
pub read_near : (room : ℕ) (st : List ℕ) (at n : ℕ) → room ≡ length st → at + n ≤ room → ring_read room st at n ≡ take n (drop at st)
unfolding ring_read
read_near room st at zero e h = refl
read_near room st at (suc n) e h =
    let l : at < length st = omega arith in
    rw (mod-eq_of_lt {n = at} {m = room} (omega arith), read_near room st (at + 1) n e (omega arith), drop-cons st at 0, add-one)

-- octets up to the end, and then from the beginning on
pub read_far : (room : ℕ) (st : List ℕ) (at n : ℕ) → room ≡ length st → at < room → room ≤ at + n → n ≤ room
    → ring_read room st at n ≡ drop at st ++ take (n - (room - at)) st
read_far room st at n e l h k =
    let a = room - at in
    let m = n - a in
    let s : n ≡ a + m = omega arith in
    let t : at + a ≡ 0 + room = omega arith in
    let w : length (drop at st) ≤ a = simp length-drop (omega arith) in
    ap (ring_read room st at) s
    ∙ read_join room st at a m
    ∙ ap (λ (xs : List ℕ). xs ++ ring_read room st (at + a) m) (read_near room st at a e (omega arith) ∙ take_all a (drop at st) w)
    ∙ ap (λ (xs : List ℕ). drop at st ++ xs)
    (ap (λ (i : ℕ). ring_read room st i m) t ∙ read_same room st (0 + room) 0 m (add-mod_right 0 room)
    ∙ read_near room st 0 m e (omega arith))

-- ---- writing

-- only the place modulo the store's length counts
write_same : (room : ℕ) (st : List ℕ) (a b : ℕ) (octets : List ℕ) → a % room ≡ b % room
    → ring_write room st a octets ≡ ring_write room st b octets
unfolding ring_write
write_same room st a b [] e = refl
write_same room st a b (x ∷ octets) e = rw e (write_same room (set st (b % room) x) (a + 1) (b + 1) octets (next_same room a b e))

-- octets, and others behind them
write_join : (room : ℕ) (st : List ℕ) (at : ℕ) (xs ys : List ℕ)
    → ring_write room st at (xs ++ ys) ≡ ring_write room (ring_write room st at xs) (at + length xs) ys
unfolding ring_write
write_join room st at [] ys = rw add-zero refl
write_join room st at (x ∷ xs) ys =
    let e : at + 1 + length xs ≡ at + suc (length xs) = omega arith in
    rw (← e) (write_join room (set st (at % room) x) (at + 1) xs ys)

-- octets that do not reach past the end
write_near : (room : ℕ) (st : List ℕ) (at : ℕ) (octets : List ℕ) → at + length octets ≤ room
    → ring_write room st at octets ≡ sets st at octets
unfolding ring_write
write_near room st at [] h = refl
write_near room st at (x ∷ octets) h =
    rw (mod-eq_of_lt {n = at} {m = room} (omega arith), add-one at) (write_near room (set st at x) (suc at) octets (omega arith))

-- a run of octets that does not reach past the end is one store, whichever number its place has
pub write_run : (st : List ℕ) (place at : ℕ) (octets : List ℕ) → place + length octets ≤ length st → place % length st ≡ at % length st
    → put_at st place octets ≡ ring_write (length st) st at octets
write_run st place at octets h e =
    put_fits st place octets h ∙ sym (write_near (length st) st place octets h) ∙ write_same (length st) st place at octets e

-- the first run up to the end, and the second from the beginning on
write_runs : (st : List ℕ) (at first : ℕ) (octets : List ℕ) → at % length st + first ≡ length st → 0 < length st
    → first ≤ length octets → length octets ≤ length st
    → put_at (put_at st (at % length st) (take first octets)) 0 (drop first octets) ≡ ring_write (length st) st at octets
write_runs st at first octets e z h k =
    let room = length st in
    let place = at % room in
    let n : length (take first octets) ≡ first = length-take-le first octets h in
    let m : place % room ≡ at % room = mod-eq_of_lt (mod-lt at z) in
    let mid = put_at st place (take first octets) in
    let one : mid ≡ ring_write room st at (take first octets) = write_run st place at (take first octets) (omega arith) m in
    let l : length mid ≡ room =
    ap length (put_fits st place (take first octets) (omega arith)) ∙ length-sets st place (take first octets) in
    let b : 0 % room ≡ (at + first) % room =
    sym (add-mod_right 0 room) ∙ ap (λ (x : ℕ). x % room) (zero-add room ∙ sym e) ∙ mod-add-mod at room first in
    let two : put_at mid 0 (drop first octets) ≡ ring_write room mid (at + first) (drop first octets) =
    write_run mid 0 (at + first) (drop first octets) (omega (arith, length-drop first octets)) (rw l b)
    ∙ ap (λ (r : ℕ). ring_write r mid (at + first) (drop first octets)) l in
    two
    ∙ ap (λ (s : List ℕ). ring_write room s (at + first) (drop first octets)) one
    ∙ ap (λ (j : ℕ). ring_write room (ring_write room st at (take first octets)) (at + j) (drop first octets)) (sym n)
    ∙ sym (write_join room st at (take first octets) (drop first octets))
    ∙ ap (ring_write room st at) (take-append-drop first octets)

-- of octets that the first run has room for, nothing is left for the second
one_run : (st : List ℕ) (place first : ℕ) (octets : List ℕ) → length octets ≤ first
    → put_at (put_at st place (take first octets)) 0 (drop first octets) ≡ put_at st place octets
one_run st place first octets h =
    ap (λ (xs : List ℕ). put_at (put_at st place xs) 0 (drop first octets)) (take_all first octets h)
    ∙ ap (put_at (put_at st place octets) 0) (drop_of_length-le octets h)
    ∙ put_fits (put_at st place octets) 0 [] (omega arith)

-- Two runs leave every octet of the store as copying octet by octet, modulo its length, leaves it.
pub two_runs : (st : List ℕ) (at : ℕ) (octets : List ℕ) → 0 < length st → length octets ≤ length st
    → ring_runs st at octets ≡ ring_write (length st) st at octets
unfolding ring_runs
two_runs st at octets z k = go (leb (length octets) f) refl
  where
    f : ℕ
    f = length st - at % length st

    l : at % length st < length st
    l = mod-lt at z

    go : (b : Bool) → leb (length octets) f ≡ b → ring_runs st at octets ≡ ring_write (length st) st at octets
    go true e =
        let h : length octets ≤ f = leb-true (length octets) f e in
        one_run st (at % length st) f octets h ∙ write_run st (at % length st) at octets (omega (arith, l)) (mod-eq_of_lt l)
    go false e = write_runs st at f octets (omega (arith, l)) z (omega (arith, leb-false (length octets) f e)) k
