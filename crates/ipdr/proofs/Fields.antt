-- Laws of fields by their widths, and of octets behind their length: what is written reads back, and what is read is written again. Those
-- of fields go by the widths; each field cites the law of its width.
use mathlib.Core.Path.{◌≡◌, refl, sym, ap, ◌∙◌}
use mathlib.Core.Bool.{true}
use mathlib.Core.List.{List, [], ◌∷◌, ◌++◌, append_assoc}
use Prim.Native.Nat.{ℕ, ◌+◌, ◌-◌, ◌^◌, ◌≤◌, ◌<◌}
use native.Mathlib.Nat.{add-zero, zero-add, add_assoc}
use native.Mathlib.Omega.{arith}
use borrow.Author.Tests.{le-leb, eq-eqb, leb-true, eqb-true}
use lib.Dec.{eqb, leb}
use lib.ListN.{length, drop, length-append, length-drop}
use lib.Seq.{sets, length-sets, drop_at}
use Rattle.octets.specs.Numbers.{uint_at, octets_of, put_at, Octets}
use Rattle.octets.proofs.Stores.{put_fits, sets_append}
use Rattle.octets.proofs.Numbers.{uint_append, uint_front, octets_length, read_back, cut}
use Rattle.octets.proofs.Each.{and_left, and_right}
use Rattle.ipdr.specs.Fields.{widths_total, values_at, octets_by_widths, InWidths, length_octets, counted_octets, counted_fits}

-- ---- fields

-- how many octets fields have
pub fields_length : (ws vs : List ℕ) → length (octets_by_widths ws vs) ≡ widths_total ws
fields_length [] vs = refl
fields_length (w ∷ ws) [] = length-append (octets_of w 0) (octets_by_widths ws []) ∙ omega (arith, octets_length w 0, fields_length ws [])
fields_length (w ∷ ws) (v ∷ vs) =
    length-append (octets_of w v) (octets_by_widths ws vs) ∙ omega (arith, octets_length w v, fields_length ws vs)

-- a number that stands behind other octets
behind : (front s : List ℕ) (at w v : ℕ) → length front ≡ at → v < 256 ^ w → uint_at (front ++ (octets_of w v ++ s)) at w ≡ v
behind front s at w v n l =
    ap (λ (k : ℕ). uint_at (front ++ (octets_of w v ++ s)) k w) (sym n ∙ sym (add-zero (length front)))
    ∙ uint_append front (octets_of w v ++ s) 0 w
    ∙ uint_front (octets_of w v) s 0 w (omega (arith, octets_length w v))
    ∙ read_back w v l

-- values that fit their widths read back, whatever stands before and behind them
pub values_back : (ws vs : List ℕ) → InWidths ws vs → (front rest : List ℕ) (at : ℕ) → length front ≡ at
    → values_at (front ++ (octets_by_widths ws vs ++ rest)) at ws ≡ vs
values_back [] [] h front rest at n = refl
values_back [] (v ∷ vs) h front rest at n = absurd h
values_back (w ∷ ws) [] h front rest at n = absurd h
values_back (w ∷ ws) (v ∷ vs) h front rest at n =
    let one = octets_of w v in
    let more = octets_by_widths ws vs in
    let l : length (front ++ one) ≡ at + w = length-append front one ∙ omega (arith, octets_length w v) in
    let s : (front ++ ((one ++ more) ++ rest)) ≡ (front ++ (one ++ (more ++ rest))) =
    ap (λ (x : List ℕ). front ++ x) (append_assoc one more rest) in
    ap (λ (x : List ℕ). uint_at x at w ∷ values_at x (at + w) ws) s
    ∙ ap (λ (k : ℕ). k ∷ values_at (front ++ (one ++ (more ++ rest))) (at + w) ws) (behind front (more ++ rest) at w v n h.0)
    ∙ ap (λ (x : List ℕ). v ∷ values_at x (at + w) ws) (sym (append_assoc front one (more ++ rest)))
    ∙ ap (λ (x : List ℕ). v ∷ x) (values_back ws vs h.1 (front ++ one) rest (at + w) l)

-- the octets of the values that were read are the octets that were read
pub values_written : (m : List ℕ) → Octets m → (ws : List ℕ) (at : ℕ) → at + widths_total ws ≤ length m
    → drop at m ≡ octets_by_widths ws (values_at m at ws) ++ drop (at + widths_total ws) m
values_written m octet [] at h = ap (λ (k : ℕ). drop k m) (sym (add-zero at))
values_written m octet (w ∷ ws) at h =
    let one = octets_of w (uint_at m at w) in
    let more = octets_by_widths ws (values_at m (at + w) ws) in
    cut m octet at w (omega arith)
    ∙ ap (λ (x : List ℕ). one ++ x) (values_written m octet ws (at + w) (omega arith))
    ∙ ap (λ (k : ℕ). one ++ (more ++ drop k m)) (add_assoc at w (widths_total ws))
    ∙ sym (append_assoc one more (drop (at + (w + widths_total ws)) m))

-- An output after fields of given widths and values were put to it from `at` on, one behind the other.
abbrev pub put_fields : List ℕ → ℕ → List ℕ → List ℕ → List ℕ
put_fields out at [] vs = out
put_fields out at (w ∷ ws) [] = put_fields (put_at out at (octets_of w 0)) (at + w) ws []
put_fields out at (w ∷ ws) (v ∷ vs) = put_fields (put_at out at (octets_of w v)) (at + w) ws vs

put_field : (out one more : List ℕ) (at w : ℕ) → length one ≡ w → at + w ≤ length out
    → sets (put_at out at one) (at + w) more ≡ sets out at (one ++ more)
put_field out one more at w n h =
    ap (λ (l : List ℕ). sets l (at + w) more) (put_fits out at one (omega arith))
    ∙ ap (λ (k : ℕ). sets (sets out at one) (at + k) more) (sym n)
    ∙ sets_append one out at more

put_length : (out : List ℕ) (at : ℕ) (one : List ℕ) → at + length one ≤ length out → length (put_at out at one) ≡ length out
put_length out at one h = ap length (put_fits out at one h) ∙ length-sets out at one

-- fields that were put so are stored as their octets
pub fields_put : (ws vs out : List ℕ) (at : ℕ) → at + widths_total ws ≤ length out
    → put_fields out at ws vs ≡ sets out at (octets_by_widths ws vs)
fields_put [] vs out at h = refl
fields_put (w ∷ ws) [] out at h =
    let one = octets_of w 0 in
    let n : length one ≡ w = octets_length w 0 in
    fields_put ws [] (put_at out at one) (at + w) (omega (arith, put_length out at one (omega arith)))
    ∙ put_field out one (octets_by_widths ws []) at w n (omega arith)
fields_put (w ∷ ws) (v ∷ vs) out at h =
    let one = octets_of w v in
    let n : length one ≡ w = octets_length w v in
    fields_put ws vs (put_at out at one) (at + w) (omega (arith, put_length out at one (omega arith)))
    ∙ put_field out one (octets_by_widths ws vs) at w n (omega arith)

-- octets put behind those that were stored from the first octet on
pub put_behind : (out front l more : List ℕ) (at : ℕ) → l ≡ sets out 0 front → length front ≡ at → at + length more ≤ length out
    → put_at l at more ≡ sets out 0 (front ++ more)
put_behind out front l more at e n h =
    put_fits l at more (omega (arith, ap length e, length-sets out 0 front))
    ∙ ap (λ (x : List ℕ). sets x at more) e
    ∙ ap (λ (k : ℕ). sets (sets out 0 front) k more) (sym n ∙ sym (zero-add (length front)))
    ∙ sets_append front out 0 more

-- ---- octets behind their length, to the end

pub counted_length : (part : List ℕ) → length (counted_octets part) ≡ length_octets + length part
counted_length part = length-append (octets_of 4 (length part)) part ∙ omega (arith, octets_length 4 (length part))

-- behind other octets their length fits, and they are what stands behind it
pub counted_back : (front part : List ℕ) (at : ℕ) → length front ≡ at → length part < 2 ^ 32
    → (counted_fits (front ++ counted_octets part) at ≡ true) × (drop (at + length_octets) (front ++ counted_octets part) ≡ part)
unfolding counted_fits
counted_back front part at n l =
    let m = front ++ counted_octets part in
    let len = octets_of 4 (length part) in
    let long : length m ≡ at + 4 + length part = length-append front (counted_octets part) ∙ omega (arith, counted_length part) in
    let field : uint_at m at 4 ≡ length m - (at + 4) = behind front part at 4 (length part) n l ∙ omega arith in
    let joined : length (front ++ len) ≡ at + 4 = length-append front len ∙ omega (arith, octets_length 4 (length part)) in (
      rw (le-leb (at + 4) (length m) (omega arith)) (eq-eqb (uint_at m at 4) (length m - (at + 4)) field),
      ap (drop (at + 4)) (sym (append_assoc front len part)) ∙ drop_at (front ++ len) part (at + 4) joined,
    )

-- where their length fits, they stand behind it
pub counted_written : (m : List ℕ) → Octets m → (at : ℕ) → counted_fits m at ≡ true → drop at m ≡ counted_octets (drop (at + length_octets) m)
unfolding counted_fits
counted_written m octet at h =
    let long = leb-true (at + 4) (length m) (and_left (leb (at + 4) (length m)) (eqb (uint_at m at 4) (length m - (at + 4))) h) in
    let field =
    eqb-true (uint_at m at 4) (length m - (at + 4)) (and_right (leb (at + 4) (length m)) (eqb (uint_at m at 4) (length m - (at + 4))) h) in
    cut m octet at 4 long ∙ ap (λ (k : ℕ). octets_of 4 k ++ drop (at + 4) m) (field ∙ sym (length-drop (at + 4) m))

-- where their length fits, it does
pub counted_fitting : (m : List ℕ) (at : ℕ) → counted_fits m at ≡ true → at + length_octets ≤ length m
unfolding counted_fits
counted_fitting m at h = leb-true (at + 4) (length m) (and_left (leb (at + 4) (length m)) (eqb (uint_at m at 4) (length m - (at + 4))) h)
