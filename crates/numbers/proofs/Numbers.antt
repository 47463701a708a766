-- Laws of numbers in octets, each once for every width and for either order; at the end the names by which messages and tables cite them,
-- whose numbers stand most significant octet first.
use mathlib.Core.Path.{◌≡◌, refl, sym, ap, ◌∙◌}
use mathlib.Core.Bool.{Bool, true, false}
use mathlib.Core.List.{List, [], ◌∷◌, ◌++◌, map, append-nil, append_assoc}
use Prim.Native.Nat.{ℕ, zero, suc, ◌+◌, ◌-◌, ◌*◌, ◌/◌, ◌%◌, ◌^◌, ◌≤◌, ◌<◌}
use native.Mathlib.Nat.{add-zero, zero-add, add-suc, suc-add, add_comm, add_assoc, le_refl, pow-zero, pow-suc, mul_assoc, mul_comm, div-one}
use native.Mathlib.Nat.{div-add-mod', div-lt_iff_lt-mul, div-div-eq-div-mul}
use native.Mathlib.Numerals.{add-one}
use native.Mathlib.Omega.{arith}
use borrow.Author.Tests.{le-leb, leb-true, leb-false}
use lib.Dec.{lit<, leb}
use lib.ListN.{length, get_or, take, drop, length-append, length-drop, take-append-drop, get_or-append, get_or-eq_default}
use lib.Seq.{take-suc, drop-cons, drop-drop, get_or-drop, get_or-append-add, get_or-append_seam}
use Rattle.numbers.specs.Numbers.{number_of, place_in, uint_in, uint_at, join_in, octets_in, octets_of, Octets, smaller}
use Rattle.numbers.specs.declared.OctetOrder.{OctetOrder}
use Rattle.numbers.specs.declared.OctetOrder.TheVariants.{BigEndian, LittleEndian}

-- ---- the number of given digits

-- w digits make a number below 256 to the w
pub number_below : (d : ℕ → ℕ) (w : ℕ) → ((i : ℕ) → i < w → d i < 256) → number_of d w < 256 ^ w
unfolding number_of
number_below d zero digit = le_refl 1
number_below d (suc w) digit = rw pow-suc (omega (arith, number_below d w (λ i l. digit i (omega arith)), digit w (le_refl (suc w))))

-- the number depends on its digits alone
pub number_same : (d e : ℕ → ℕ) (w : ℕ) → ((i : ℕ) → i < w → d i ≡ e i) → number_of d w ≡ number_of e w
unfolding number_of
number_same d e zero h = refl
number_same d e (suc w) h = rw (number_same d e w (λ i l. h i (omega arith)), h w (le_refl (suc w)))

-- one digit more
pub number_more : (d : ℕ → ℕ) (w : ℕ) → number_of d (w + 1) ≡ number_of d w * 256 + d w
unfolding number_of
number_more d w = rw add-one refl

-- digits that are all 0
number_zero : (d : ℕ → ℕ) (w : ℕ) → ((i : ℕ) → d i ≡ 0) → number_of d w ≡ 0
unfolding number_of
number_zero d zero h = refl
number_zero d (suc w) h = omega (arith, number_zero d w h, h w)

-- a digits followed by b digits
pub number_join : (d : ℕ → ℕ) (a b : ℕ) → number_of d (a + b) ≡ number_of d a * 256 ^ b + number_of (λ i. d (a + i)) b
unfolding number_of
number_join d a zero = rw (add-zero a, pow-zero) (omega arith)
number_join d a (suc b) =
    let n = number_of d a in
    let e : n * (256 ^ b * 256) ≡ n * 256 ^ b * 256 = sym (mul_assoc n (256 ^ b) 256) in
    rw (add-suc, number_join d a b, pow-suc) (omega (arith, e))

-- ---- places in an order

-- a digit stands among the octets
pub place_below : (order : OctetOrder) (w i : ℕ) → i < w → place_in order w i < w
place_below BigEndian w i l = l
place_below LittleEndian w i l = omega arith

-- Where the octets of more significance begin, of octets from place `at` on of which b have less.
abbrev pub high_at : OctetOrder → ℕ → ℕ → ℕ
high_at BigEndian at b = at
high_at LittleEndian at b = at + b

-- Where the octets of less significance begin, of octets from place `at` on of which a have more.
abbrev pub low_at : OctetOrder → ℕ → ℕ → ℕ
low_at BigEndian at a = at + a
low_at LittleEndian at a = at

high_place : (order : OctetOrder) (at a b i : ℕ) → i < a → at + place_in order (a + b) i ≡ high_at order at b + place_in order a i
high_place BigEndian at a b i l = refl
high_place LittleEndian at a b i l = omega arith

low_place : (order : OctetOrder) (at a b i : ℕ) → i < b → at + place_in order (a + b) (a + i) ≡ low_at order at a + place_in order b i
low_place BigEndian at a b i l = sym (add_assoc at a i)
low_place LittleEndian at a b i l = omega arith

-- ---- the number at a place

pub uint_in_within : (order : OctetOrder) (s : List ℕ) (at w : ℕ) → ((i : ℕ) → i < w → get_or s (at + i) 0 < 256)
    → uint_in order s at w < 256 ^ w
unfolding uint_in
uint_in_within order s at w octet =
    number_below (λ i. get_or s (at + place_in order w i) 0) w (λ i l. octet (place_in order w i) (place_below order w i l))

pub uint_in_below : (order : OctetOrder) (s : List ℕ) → Octets s → (at w : ℕ) → uint_in order s at w < 256 ^ w
uint_in_below order s octet at w = uint_in_within order s at w (λ i l. octet (at + i))

-- the same octets make the same number, wherever they stand
pub uint_in_same : (order : OctetOrder) (s t : List ℕ) (a b w : ℕ) → ((i : ℕ) → i < w → get_or s (a + i) 0 ≡ get_or t (b + i) 0)
    → uint_in order s a w ≡ uint_in order t b w
unfolding uint_in
uint_in_same order s t a b w h =
    number_same (λ i. get_or s (a + place_in order w i) 0) (λ i. get_or t (b + place_in order w i) 0) w
    (λ i l. h (place_in order w i) (place_below order w i l))

-- a octets and b octets of less significance
pub uint_in_join : (order : OctetOrder) (s : List ℕ) (at a b : ℕ)
    → uint_in order s at (a + b) ≡ uint_in order s (high_at order at b) a * 256 ^ b + uint_in order s (low_at order at a) b
unfolding uint_in
uint_in_join order s at a b =
    let d : ℕ → ℕ = λ i. get_or s (at + place_in order (a + b) i) 0 in
    let high : ℕ → ℕ = λ i. get_or s (high_at order at b + place_in order a i) 0 in
    let low : ℕ → ℕ = λ i. get_or s (low_at order at a + place_in order b i) 0 in
    number_join d a b
    ∙ ap (λ (n : ℕ). n * 256 ^ b + number_of (λ i. d (a + i)) b)
    (number_same d high a (λ i l. ap (λ (n : ℕ). get_or s n 0) (high_place order at a b i l)))
    ∙ ap (λ (n : ℕ). number_of high a * 256 ^ b + n)
    (number_same (λ i. d (a + i)) low b (λ i l. ap (λ (n : ℕ). get_or s n 0) (low_place order at a b i l)))

-- one octet is its own number
pub uint_in_one : (order : OctetOrder) (s : List ℕ) (at : ℕ) → uint_in order s at 1 ≡ get_or s at 0
unfolding uint_in number_of
uint_in_one BigEndian s at = rw add-zero (omega arith)
uint_in_one LittleEndian s at = rw add-zero (omega arith)

-- The places are those of a number's digits from digit k on.
abbrev pub Places : OctetOrder → ℕ → ℕ → ℕ → List ℕ → Type 0
Places order at w k [] = Unit {0}
Places order at w k (p ∷ places) = (p ≡ at + place_in order w k) × Places order at w (suc k) places

digit_read : (order : OctetOrder) (s : List ℕ) (at w k : ℕ) (places : List ℕ) → Places order at w k places → (i : ℕ) → i < length places
    → get_or (map (λ p. get_or s p 0) places) i 0 ≡ get_or s (at + place_in order w (k + i)) 0
digit_read order s at w k [] h i l = absurd (omega arith)
digit_read order s at w k (p ∷ places) h zero l =
    ap (λ (n : ℕ). get_or s n 0) (h.0 ∙ ap (λ (n : ℕ). at + place_in order w n) (sym (add-zero k)))
digit_read order s at w k (p ∷ places) h (suc i) l =
    digit_read order s at w (suc k) places h.1 i (omega arith)
    ∙ ap (λ (n : ℕ). get_or s (at + place_in order w n) 0) (suc-add k i ∙ sym (add-suc k i))

-- octets that were read one by one, the most significant first
pub uint_in_read : (order : OctetOrder) (s : List ℕ) (at w : ℕ) (places : List ℕ) → length places ≡ w → Places order at w 0 places
    → uint_at (map (λ p. get_or s p 0) places) 0 w ≡ uint_in order s at w
unfolding uint_in
uint_in_read order s at w places n h =
    number_same (λ i. get_or (map (λ p. get_or s p 0) places) (0 + i) 0) (λ i. get_or s (at + place_in order w i) 0) w
    (λ i l. ap (λ (n : ℕ). get_or (map (λ p. get_or s p 0) places) n 0) (zero-add i)
    ∙ digit_read order s at w 0 places h i (omega arith)
    ∙ ap (λ (n : ℕ). get_or s (at + place_in order w n) 0) (zero-add i))

-- past the end the number is 0
pub uint_in_past : (order : OctetOrder) (s : List ℕ) (at w : ℕ) → length s ≤ at → uint_in order s at w ≡ 0
unfolding uint_in
uint_in_past order s at w h =
    number_zero (λ i. get_or s (at + place_in order w i) 0) w (λ i. get_or-eq_default s 0 {n = at + place_in order w i} (omega arith))

-- behind other octets
pub uint_in_append : (order : OctetOrder) (s t : List ℕ) (at w : ℕ) → uint_in order (s ++ t) (length s + at) w ≡ uint_in order t at w
uint_in_append order s t at w =
    uint_in_same order (s ++ t) t (length s + at) at w
    (λ i l. ap (λ (n : ℕ). get_or (s ++ t) n 0) (add_assoc (length s) at i) ∙ get_or-append-add s t (at + i) 0)

-- in front of other octets
pub uint_in_front : (order : OctetOrder) (s t : List ℕ) (at w : ℕ) → at + w ≤ length s → uint_in order (s ++ t) at w ≡ uint_in order s at w
uint_in_front order s t at w h = uint_in_same order (s ++ t) s at at w (λ i l. get_or-append s t 0 (at + i) (omega arith))

-- ---- the octets of a number

join_length : (order : OctetOrder) (high low : List ℕ) → length (join_in order high low) ≡ length high + length low
join_length BigEndian high low = length-append high low
join_length LittleEndian high low = length-append low high ∙ add_comm (length low) (length high)

join_none : (order : OctetOrder) (high : List ℕ) → join_in order high [] ≡ high
join_none BigEndian high = append-nil high
join_none LittleEndian high = refl

join_assoc : (order : OctetOrder) (high mid low : List ℕ)
    → join_in order (join_in order high mid) low ≡ join_in order high (join_in order mid low)
join_assoc BigEndian high mid low = append_assoc high mid low
join_assoc LittleEndian high mid low = sym (append_assoc low mid high)

pub octets_in_length : (order : OctetOrder) (w v : ℕ) → length (octets_in order w v) ≡ w
unfolding octets_in
octets_in_length order zero v = refl
octets_in_length order (suc w) v =
    join_length order (octets_in order w (v / 256)) (v % 256 ∷ []) ∙ add-one _ ∙ ap suc (octets_in_length order w (v / 256))

-- each of them is below 256
pub octets_in_below : (order : OctetOrder) (w v i : ℕ) → i < w → get_or (octets_in order w v) i 0 < 256
unfolding octets_in
octets_in_below order zero v i l = absurd (omega arith)
octets_in_below LittleEndian (suc w) v zero l = omega arith
octets_in_below LittleEndian (suc w) v (suc i) l = octets_in_below LittleEndian w (v / 256) i (omega arith)
octets_in_below BigEndian (suc w) v i l =
    go (octets_in_length BigEndian w (v / 256)) (octets_in_below BigEndian w (v / 256) i) (leb (suc i) w) refl
  where
    front : List ℕ
    front = octets_of w (v / 256)

    go : length front ≡ w → (i < w → get_or front i 0 < 256) → (b : Bool) → leb (suc i) w ≡ b → get_or (front ++ (v % 256 ∷ [])) i 0 < 256
    go n below true e =
        let h = leb-true (suc i) w e in
        rw (get_or-append front (v % 256 ∷ []) 0 i (omega arith)) (below h)
    go n below false e =
        let q : i ≡ length front = omega (arith, leb-false (suc i) w e) in
        rw (q, get_or-append_seam front (v % 256) [] 0) (omega arith)

-- a octets and b octets of less significance
pub octets_in_join : (order : OctetOrder) (a b v : ℕ)
    → octets_in order (a + b) v ≡ join_in order (octets_in order a (v / 256 ^ b)) (octets_in order b v)
unfolding octets_in
octets_in_join order a zero v = rw (add-zero, pow-zero, div-one, join_none)
octets_in_join order a (suc b) v =
    let e : v / 256 / 256 ^ b ≡ v / 256 ^ suc b =
    div-div-eq-div-mul v 256 (256 ^ b) ∙ ap (λ (n : ℕ). v / n) (mul_comm 256 (256 ^ b) ∙ sym (pow-suc 256 b)) in
    rw (add-suc, octets_in_join order a b (v / 256), e, join_assoc)

-- the number of octets of more and octets of less significance
join_number : (order : OctetOrder) (high low : List ℕ)
    → uint_in order (join_in order high low) 0 (length high + length low)
    ≡ uint_in order high 0 (length high) * 256 ^ length low + uint_in order low 0 (length low)
join_number order high low = uint_in_join order (join_in order high low) 0 (length high) (length low) ∙ parts order
  where
    a : ℕ
    a = length high

    b : ℕ
    b = length low

    parts : (order : OctetOrder)
        → uint_in order (join_in order high low) (high_at order 0 b) a * 256 ^ b + uint_in order (join_in order high low) (low_at order 0 a) b
        ≡ uint_in order high 0 a * 256 ^ b + uint_in order low 0 b
    parts BigEndian =
        rw (uint_in_front BigEndian high low 0 a (omega arith), zero-add a ∙ sym (add-zero a), uint_in_append BigEndian high low 0 b)
    parts LittleEndian =
        rw (uint_in_front LittleEndian low high 0 b (omega arith), zero-add b ∙ sym (add-zero b), uint_in_append LittleEndian low high 0 a)

-- reading the w octets of a number gives it back
pub read_back_in : (order : OctetOrder) (w v : ℕ) → v < 256 ^ w → uint_in order (octets_in order w v) 0 w ≡ v
unfolding octets_in
read_back_in order zero v h = uint_in_past order [] 0 0 (omega arith) ∙ omega (arith, rw (pow-zero 256) at h)
read_back_in order (suc w) v h =
    let high = octets_in order w (v / 256) in
    let low = v % 256 ∷ [] in
    let n : length high ≡ w = octets_in_length order w (v / 256) in
    let q : uint_in order high 0 (length high) ≡ v / 256 =
    ap (uint_in order high 0) n ∙ read_back_in order w (v / 256) ((div-lt_iff_lt-mul (lit< tt)).1 (rw (pow-suc 256 w) at h)) in
    let r : uint_in order low 0 1 ≡ v % 256 = uint_in_one order low 0 in
    ap (uint_in order (join_in order high low) 0) (ap suc (sym n) ∙ sym (add-one (length high)))
    ∙ join_number order high low
    ∙ omega (arith, q, r, div-add-mod' v 256)

-- only what v is modulo 256 to the w counts
octets_add : (order : OctetOrder) (w k r : ℕ) → octets_in order w (k * 256 ^ w + r) ≡ octets_in order w r
unfolding octets_in
octets_add order zero k r = refl
octets_add order (suc w) k r =
    let m = k * 256 ^ w in
    let e : k * 256 ^ suc w ≡ m * 256 = ap (λ (n : ℕ). k * n) (pow-suc 256 w) ∙ sym (mul_assoc k (256 ^ w) 256) in
    let q : (k * 256 ^ suc w + r) / 256 ≡ m + r / 256 = omega (arith, e) in
    let l : (k * 256 ^ suc w + r) % 256 ≡ r % 256 = omega (arith, e) in
    ap (λ (n : ℕ). join_in order (octets_in order w ((k * 256 ^ suc w + r) / 256)) (n ∷ [])) l
    ∙ ap (λ (n : ℕ). join_in order (octets_in order w n) (r % 256 ∷ [])) q
    ∙ ap (λ (s : List ℕ). join_in order s (r % 256 ∷ [])) (octets_add order w k (r / 256))

pub octets_in_mod : (order : OctetOrder) (w v : ℕ) → octets_in order w (v % 256 ^ w) ≡ octets_in order w v
octets_in_mod order w v = sym (octets_add order w (v / 256 ^ w) (v % 256 ^ w)) ∙ ap (octets_in order w) (div-add-mod' v (256 ^ w))

-- w octets of more significance and one of less are the w + 1 octets from their place on
join_part : (order : OctetOrder) (s : List ℕ) (at w : ℕ) → at + suc w ≤ length s
    → join_in order (take w (drop (high_at order at 1) s)) (get_or s (low_at order at w) 0 ∷ []) ≡ take (suc w) (drop at s)
join_part BigEndian s at w h =
    ap (λ (x : ℕ). take w (drop at s) ++ (x ∷ [])) (sym (get_or-drop at s w 0))
    ∙ sym (take-suc (drop at s) w 0 (omega (arith, length-drop at s)))
join_part LittleEndian s at w h =
    ap (λ (k : ℕ). get_or s at 0 ∷ take w (drop k s)) (add-one at) ∙ ap (take (suc w)) (sym (drop-cons s at 0 (omega arith)))

-- the w octets of the number that was read are the octets that were read
pub write_back_in : (order : OctetOrder) (s : List ℕ) → Octets s → (at w : ℕ) → at + w ≤ length s
    → octets_in order w (uint_in order s at w) ≡ take w (drop at s)
unfolding octets_in
write_back_in order s octet at zero h = refl
write_back_in order s octet at (suc w) h =
    let n = uint_in order s (high_at order at 1) w in
    let x = get_or s (low_at order at w) 0 in
    let e : uint_in order s at (suc w) ≡ n * 256 + x =
    ap (uint_in order s at) (sym (add-one w))
    ∙ uint_in_join order s at w 1
    ∙ omega (arith, uint_in_one order s (low_at order at w)) in
    let q : (n * 256 + x) / 256 ≡ n = omega (arith, octet (low_at order at w)) in
    let r : (n * 256 + x) % 256 ≡ x = omega (arith, octet (low_at order at w)) in
    ap (λ (k : ℕ). join_in order (octets_in order w (k / 256)) (k % 256 ∷ [])) e
    ∙ ap (λ (k : ℕ). join_in order (octets_in order w k) ((n * 256 + x) % 256 ∷ [])) q
    ∙ ap (λ (k : ℕ). join_in order (octets_in order w n) (k ∷ [])) r
    ∙ ap (λ (l : List ℕ). join_in order l (x ∷ [])) (write_back_in order s octet (high_at order at 1) w (high_room order at w (length s) h))
    ∙ join_part order s at w h
  where
    high_room : (order : OctetOrder) (at w n : ℕ) → at + suc w ≤ n → high_at order at 1 + w ≤ n
    high_room BigEndian at w n h = omega arith
    high_room LittleEndian at w n h = omega arith

-- ---- octets split into numbers

-- the octets of a number, then the rest
pub cut_in : (order : OctetOrder) (s : List ℕ) → Octets s → (at w : ℕ) → at + w ≤ length s
    → drop at s ≡ octets_in order w (uint_in order s at w) ++ drop (at + w) s
cut_in order s octet at w h =
    sym (take-append-drop w (drop at s))
    ∙ ap (λ (l : List ℕ). take w (drop at s) ++ l) (drop-drop w at s)
    ∙ ap (λ (l : List ℕ). l ++ drop (at + w) s) (sym (write_back_in order s octet at w h))

-- ---- the same most significant octet first

pub uint_below : (s : List ℕ) → Octets s → (at w : ℕ) → uint_at s at w < 256 ^ w
uint_below = uint_in_below BigEndian

pub uint_one : (s : List ℕ) (at : ℕ) → uint_at s at 1 ≡ get_or s at 0
uint_one = uint_in_one BigEndian

pub uint_read : (s : List ℕ) (at w : ℕ) (places : List ℕ) → length places ≡ w → Places BigEndian at w 0 places
    → uint_at (map (λ p. get_or s p 0) places) 0 w ≡ uint_at s at w
uint_read = uint_in_read BigEndian

pub uint_append : (s t : List ℕ) (at w : ℕ) → uint_at (s ++ t) (length s + at) w ≡ uint_at t at w
uint_append = uint_in_append BigEndian

pub uint_front : (s t : List ℕ) (at w : ℕ) → at + w ≤ length s → uint_at (s ++ t) at w ≡ uint_at s at w
uint_front = uint_in_front BigEndian

pub octets_length : (w v : ℕ) → length (octets_of w v) ≡ w
octets_length = octets_in_length BigEndian

pub read_back : (w v : ℕ) → v < 256 ^ w → uint_at (octets_of w v) 0 w ≡ v
read_back = read_back_in BigEndian

pub cut : (s : List ℕ) → Octets s → (at w : ℕ) → at + w ≤ length s → drop at s ≡ octets_of w (uint_at s at w) ++ drop (at + w) s
cut = cut_in BigEndian

-- one octet, then the rest
pub cut_one : (s : List ℕ) (at : ℕ) → at < length s → drop at s ≡ uint_at s at 1 ∷ drop (suc at) s
cut_one s at h = drop-cons s at 0 h ∙ ap (λ (x : ℕ). x ∷ drop (suc at) s) (sym (uint_one s at))

-- ---- the greatest number

-- up to 8 octets, the width that `greatest` counts is the width itself
pub greatest_of : (w : ℕ) → w ≤ 8 → {r : ℕ} → r ≡ 256 ^ smaller w 8 - 1 → r ≡ 256 ^ w - 1
greatest_of w h e = rw (le-leb w 8 h) at e
