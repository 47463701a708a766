-- Octets stored at a place: what fits is stored and what does not changes nothing; two stores, one behind the other, are one. A number is
-- stored in two parts, or octet by octet from its least significant one, in either order.
use mathlib.Core.Path.{◌≡◌, refl, sym, ap, ◌∙◌}
use mathlib.Core.Bool.{Bool, true, false, cond}
use mathlib.Core.List.{List, [], ◌∷◌, ◌++◌, append_assoc}
use Prim.Native.Nat.{ℕ, zero, suc, ◌+◌, ◌-◌, ◌/◌, ◌%◌, ◌^◌, ◌≤◌, ◌<◌}
use native.Mathlib.Nat.{add-suc, add-zero, suc-add, zero-add}
use native.Mathlib.Numerals.{add-one}
use native.Mathlib.Omega.{arith}
use borrow.Author.Tests.{le-leb, lt-leb}
use lib.ListN.{length, get_or, take, drop, set, length-append, drop_of_length-le, get_or-append, length-drop, take-append-drop}
use lib.Seq.{sets, sets-eq, length-sets, drop-cons, length-take-le, get_or-append-add, set_comm, take_all, drop-drop, take_at, drop_at}
use Rattle.numbers.specs.Numbers.{place_in, uint_in, join_in, octets_in, put_at}
use Rattle.numbers.specs.declared.OctetOrder.{OctetOrder}
use Rattle.numbers.specs.declared.OctetOrder.TheVariants.{BigEndian, LittleEndian}
use Rattle.numbers.proofs.Numbers.{high_at, low_at, uint_in_same, octets_in_length, octets_in_join, octets_in_mod, read_back_in}

-- a claim about a choice holds where it holds in each case
pub cond_cases : {A : Type 0} (P : A → Type 0) (b : Bool) (x y : A) → (b ≡ true → P x) → (b ≡ false → P y) → P (cond b x y)
cond_cases P true x y h k = h refl
cond_cases P false x y h k = k refl

-- octets that fit are stored
pub put_fits : (out : List ℕ) (at : ℕ) (vs : List ℕ) → at + length vs ≤ length out → put_at out at vs ≡ sets out at vs
unfolding put_at
put_fits out at vs h = rw (le-leb (at + length vs) (length out) h)

-- octets that do not fit change nothing
pub put_short : (out : List ℕ) (at : ℕ) (vs : List ℕ) → length out < at + length vs → put_at out at vs ≡ out
unfolding put_at
put_short out at vs h = rw (lt-leb (at + length vs) (length out) h)

-- what follows is stored next
pub sets_append : (a l : List ℕ) (at : ℕ) (b : List ℕ) → sets (sets l at a) (at + length a) b ≡ sets l at (a ++ b)
sets_append [] l at b = ap (λ (n : ℕ). sets l n b) (add-zero at)
sets_append (x ∷ a) l at b =
    ap (λ (n : ℕ). sets (sets (set l at x) (suc at) a) n b) (add-suc at (length a) ∙ sym (suc-add at (length a)))
    ∙ sets_append a (set l at x) (suc at) b

-- two puts, one behind the other, are the put of both
pub put_join : (out : List ℕ) (at : ℕ) (a b : List ℕ) → at + length a + length b ≤ length out
    → put_at (put_at out at a) (at + length a) b ≡ put_at out at (a ++ b)
put_join out at a b h =
    ap (λ (l : List ℕ). put_at l (at + length a) b) (put_fits out at a (omega arith))
    ∙ put_fits (sets out at a) (at + length a) b (omega (arith, length-sets out at a))
    ∙ sets_append a out at b
    ∙ sym (put_fits out at (a ++ b) (omega (arith, length-append a b)))

-- the octets that were stored stand at their place
pub sets_at : (out : List ℕ) (at : ℕ) (vs : List ℕ) (i : ℕ) → at + length vs ≤ length out → i < length vs
    → get_or (sets out at vs) (at + i) 0 ≡ get_or vs i 0
sets_at out at vs i h l =
    let front = take at out in
    let n : length front ≡ at = length-take-le at out (omega arith) in
    ap (λ (r : List ℕ). get_or r (at + i) 0) (sets-eq vs out at h)
    ∙ ap (λ (k : ℕ). get_or (front ++ vs ++ drop (at + length vs) out) (k + i) 0) (sym n)
    ∙ ap (λ (l : List ℕ). get_or l (length front + i) 0) (append_assoc front vs (drop (at + length vs) out))
    ∙ get_or-append-add front (vs ++ drop (at + length vs) out) i 0
    ∙ get_or-append vs (drop (at + length vs) out) 0 i l

-- octets stored from the first place on, and what stands behind them
pub sets_first : (out octets : List ℕ) → length octets ≤ length out → sets out 0 octets ≡ octets ++ drop (length octets) out
sets_first out octets h = sets-eq octets out 0 (omega arith) ∙ ap (λ (k : ℕ). octets ++ drop k out) (zero-add (length octets))

-- they begin the output, and behind them it is as it was
pub output_begins : (octets out : List ℕ) → length octets ≤ length out
    → (take (length octets) (sets out 0 octets) ≡ octets) × (drop (length octets) (sets out 0 octets) ≡ drop (length octets) out)
output_begins octets out h =
    let e = sets_first out octets h in (
      ap (take (length octets)) e ∙ take_at octets (drop (length octets) out) (length octets) refl,
      ap (drop (length octets)) e ∙ drop_at octets (drop (length octets) out) (length octets) refl,
    )

-- octets stored from the first place on are the first octets of what that left
pub sets_front : (out l vs : List ℕ) → l ≡ sets out 0 vs → length vs ≤ length out → take (length vs) l ≡ vs
sets_front out l vs e h = ap (take (length vs)) e ∙ (output_begins vs out h).0

-- reading a number where it was written gives it back
pub put_reads : (order : OctetOrder) (out : List ℕ) (at w v : ℕ) → at + w ≤ length out → v < 256 ^ w
    → uint_in order (put_at out at (octets_in order w v)) at w ≡ v
put_reads order out at w v h l =
    let vs = octets_in order w v in
    let n : length vs ≡ w = octets_in_length order w v in
    ap (λ (o : List ℕ). uint_in order o at w) (put_fits out at vs (omega arith))
    ∙ uint_in_same order (sets out at vs) vs at 0 w
    (λ i k. sets_at out at vs i (omega arith) (omega arith) ∙ ap (λ (j : ℕ). get_or vs j 0) (sym (zero-add i)))
    ∙ read_back_in order w v l

-- an octet stored in front of others that are stored
set_before : (vs l : List ℕ) (at k x : ℕ) → at < k → set (sets l k vs) at x ≡ sets (set l at x) k vs
set_before [] l at k x h = refl
set_before (y ∷ vs) l at k x h =
    set_before vs (set l k y) at (suc k) x (omega arith) ∙ ap (λ (r : List ℕ). sets r (suc k) vs) (set_comm l k at y x (λ q. omega arith))

-- octets stored in front of those that are stored behind them
sets_before : (a l : List ℕ) (at : ℕ) (b : List ℕ) → sets (sets l (at + length a) b) at a ≡ sets l at (a ++ b)
sets_before [] l at b = ap (λ (n : ℕ). sets l n b) (add-zero at)
sets_before (x ∷ a) l at b =
    let e : at + suc (length a) ≡ suc at + length a = add-suc at (length a) ∙ sym (suc-add at (length a)) in
    ap (λ (r : List ℕ). sets r (suc at) a) (set_before b l at (at + suc (length a)) x (omega arith))
    ∙ ap (λ (n : ℕ). sets (sets (set l at x) n b) (suc at) a) e
    ∙ sets_before a (set l at x) (suc at) b

-- octets of more significance stored first, then those of less
store_high_first : (order : OctetOrder) (l : List ℕ) (at : ℕ) (high low : List ℕ)
    → sets (sets l (high_at order at (length low)) high) (low_at order at (length high)) low ≡ sets l at (join_in order high low)
store_high_first BigEndian l at high low = sets_append high l at low
store_high_first LittleEndian l at high low = sets_before low l at high

-- octets of less significance stored first, then those of more
store_low_first : (order : OctetOrder) (l : List ℕ) (at : ℕ) (high low : List ℕ)
    → sets (sets l (low_at order at (length high)) low) (high_at order at (length low)) high ≡ sets l at (join_in order high low)
store_low_first BigEndian l at high low = sets_before high l at low
store_low_first LittleEndian l at high low = sets_append low l at high

-- where a number has room, so have its parts
parts_fit : (order : OctetOrder) (at a b n : ℕ) → at + (a + b) ≤ n → (high_at order at b + a ≤ n) × (low_at order at a + b ≤ n)
parts_fit BigEndian at a b n h = (omega arith, omega arith)
parts_fit LittleEndian at a b n h = (omega arith, omega arith)

-- a number written in two parts, of a octets and of b of less significance
put_parts_lem : (order : OctetOrder) (out : List ℕ) (at a b v : ℕ) → at + (a + b) ≤ length out
    → put_at (put_at out (high_at order at b) (octets_in order a (v / 256 ^ b))) (low_at order at a) (octets_in order b (v % 256 ^ b))
    ≡ put_at out at (octets_in order (a + b) v)
put_parts_lem order out at a b v h =
    let high = octets_in order a (v / 256 ^ b) in
    let low = octets_in order b v in
    let n : length high ≡ a = octets_in_length order a (v / 256 ^ b) in
    let m : length low ≡ b = octets_in_length order b v in
    let fit = parts_fit order at a b (length out) h in
    let first = sets out (high_at order at b) high in
    let l = length-sets out (high_at order at b) high in
    ap (put_at (put_at out (high_at order at b) high) (low_at order at a)) (octets_in_mod order b v)
    ∙ ap (λ (o : List ℕ). put_at o (low_at order at a) low) (put_fits out (high_at order at b) high (omega arith))
    ∙ put_fits first (low_at order at a) low (omega arith)
    ∙ ap (λ (k : ℕ). sets (sets out (high_at order at k) high) (low_at order at a) low) (sym m)
    ∙ ap (λ (k : ℕ). sets (sets out (high_at order at (length low)) high) (low_at order at k) low) (sym n)
    ∙ store_high_first order out at high low
    ∙ ap (sets out at) (sym (octets_in_join order a b v))
    ∙ sym (put_fits out at (octets_in order (a + b) v) (omega (arith, octets_in_length order (a + b) v)))

-- the same of what two stores left: `mid` between them, `after` in the end
pub put_twice : (order : OctetOrder) (out mid after : List ℕ) (at a b v : ℕ)
    → mid ≡ put_at out (high_at order at b) (octets_in order a (v / 256 ^ b))
    → after ≡ put_at mid (low_at order at a) (octets_in order b (v % 256 ^ b)) → at + (a + b) ≤ length out
    → after ≡ put_at out at (octets_in order (a + b) v)
put_twice order out mid after at a b v p q h =
    q ∙ ap (λ (l : List ℕ). put_at l (low_at order at a) (octets_in order b (v % 256 ^ b))) p ∙ put_parts_lem order out at a b v h

-- Of w octets, those of more significance than the last w - i begin at `high_at order at (w - i)`: at first all of them.
pub high_whole : (order : OctetOrder) (at w : ℕ) → high_at order at (w - w) ≡ at
high_whole BigEndian at w = refl
high_whole LittleEndian at w = omega arith

high_next : (order : OctetOrder) (at w i : ℕ) → suc i ≤ w → high_at order at (w - i) ≡ high_at order (high_at order at (w - suc i)) 1
high_next BigEndian at w i h = refl
high_next LittleEndian at w i h = omega arith

low_next : (order : OctetOrder) (at w i : ℕ) → suc i ≤ w → at + place_in order w i ≡ low_at order (high_at order at (w - suc i)) i
low_next BigEndian at w i h = refl
low_next LittleEndian at w i h = refl

-- a turn of a loop that writes a number from its least significant octet on
pub number_step : (order : OctetOrder) (l : List ℕ) (at w i v : ℕ) → 0 < i → i ≤ w
    → sets (set l (at + place_in order w (i - 1)) (v % 256)) (high_at order at (w - (i - 1))) (octets_in order (i - 1) (v / 256))
    ≡ sets l (high_at order at (w - i)) (octets_in order i v)
unfolding octets_in
number_step order l at w zero v h k = absurd (omega arith)
number_step order l at w (suc i) v h k =
    let e : suc i - 1 ≡ i = omega arith in
    let high = octets_in order i (v / 256) in
    let low = v % 256 ∷ [] in
    let start = high_at order at (w - suc i) in
    let n : length high ≡ i = octets_in_length order i (v / 256) in
    ap (λ (j : ℕ). sets (sets l (at + place_in order w j) low) (high_at order at (w - j)) (octets_in order j (v / 256))) e
    ∙ ap (λ (j : ℕ). sets (sets l j low) (high_at order at (w - i)) high) (low_next order at w i k ∙ ap (low_at order start) (sym n))
    ∙ ap (λ (j : ℕ). sets (sets l (low_at order start (length high)) low) j high) (high_next order at w i k)
    ∙ store_low_first order l start high low

-- the invariant of a loop that stores `octets` from `at` on: `out` was `before` and has i of them, and storing the others gives what
-- storing all of them in `before` gives
abbrev pub Storing : List ℕ → ℕ → List ℕ → List ℕ → ℕ → Type 0
Storing before at octets out i =
    (i ≤ length octets) × ((length out ≡ length before) × (sets out (at + i) (drop i octets) ≡ sets before at octets))

-- it holds where none are stored
pub storing_none : (out : List ℕ) (at : ℕ) (octets : List ℕ) → Storing out at octets out 0
storing_none out at octets = (omega arith, (refl, ap (λ (n : ℕ). sets out n octets) (add-zero at)))

-- a turn of such a loop: what is left to store shrinks by one
pub sets_step : (out : List ℕ) (at : ℕ) (octets : List ℕ) (i : ℕ) → i < length octets
    → sets (set out (at + i) (get_or octets i 0)) (at + (i + 1)) (drop (i + 1) octets) ≡ sets out (at + i) (drop i octets)
sets_step out at octets i h = rw (add-one, add-suc, drop-cons octets i 0)

-- the same by a run of octets, those from i up to j
pub sets_run : (out : List ℕ) (at : ℕ) (octets : List ℕ) (i j : ℕ) → i ≤ j → j ≤ length octets
    → sets (sets out (at + i) (take (j - i) (drop i octets))) (at + j) (drop j octets) ≡ sets out (at + i) (drop i octets)
sets_run out at octets i j h k =
    let run = take (j - i) (drop i octets) in
    let n : length run ≡ j - i = length-take-le (j - i) (drop i octets) (omega (arith, length-drop i octets)) in
    let e : at + j ≡ at + i + length run = omega arith in
    let d : i + (j - i) ≡ j = omega arith in
    ap (λ (p : ℕ). sets (sets out (at + i) run) p (drop j octets)) e
    ∙ ap (sets (sets out (at + i) run) (at + i + length run)) (ap (λ (p : ℕ). drop p octets) (sym d) ∙ sym (drop-drop (j - i) i octets))
    ∙ sets_append run out (at + i) (drop (j - i) (drop i octets))
    ∙ ap (sets out (at + i)) (take-append-drop (j - i) (drop i octets))

-- nothing is left to store
pub sets_done : (out : List ℕ) (k : ℕ) (octets : List ℕ) (i : ℕ) → length octets ≤ i → sets out k (drop i octets) ≡ out
sets_done out k octets i h = rw (drop_of_length-le octets h)

-- ---- octets one behind the other

-- what is left behind the first n octets
pub take_rest : (m : List ℕ) (n : ℕ) → take (length m - n) (drop n m) ≡ drop n m
take_rest m n = take_all (length m - n) (drop n m) (omega (arith, length-drop n m))

-- octets behind those that were written from the first octet on
pub sets_then : (out a b l : List ℕ) (at : ℕ) → l ≡ sets out 0 a → length a ≡ at → sets l at b ≡ sets out 0 (a ++ b)
sets_then out a b l at e n =
    ap (λ (x : List ℕ). sets x at b) e ∙ ap (λ (k : ℕ). sets (sets out 0 a) k b) (sym n ∙ sym (zero-add (length a))) ∙ sets_append a out 0 b

pub put_then : (out a b l : List ℕ) (at : ℕ) → l ≡ sets out 0 a → length a ≡ at → at + length b ≤ length out
    → put_at l at b ≡ sets out 0 (a ++ b)
put_then out a b l at e n h =
    put_fits l at b (omega (arith, ap length e, length-sets out 0 a)) ∙ sets_then out a b l at e n
