-- The table of field types: rules that are computed over its rows, once.
use mathlib.Core.Path.{◌≡◌, refl, sym, ◌∙◌}
use mathlib.Core.Bool.{Bool, true, false, cond, ◌&&◌, ◌||◌}
use mathlib.Core.List.{List, [], ◌∷◌, ◌++◌}
use Prim.Native.Nat.{ℕ, ◌+◌, ◌≤◌, ◌<◌}
use native.Mathlib.Omega.{arith}
use borrow.Author.Tests.{ltb-true, ltb-false, eqb-true, ne_eqb, lt-leb}
use lib.Dec.{ltb, leb, eqb}
use lib.ListN.{get_or, take, drop}
use Rattle.octets.specs.Each.{every}
use Rattle.field_types.specs.FieldTypes.{boolean_type, unsigned8_type, signed8_type, signed16_type, signed32_type, signed64_type}
use Rattle.field_types.specs.FieldTypes.{double_type, ipv4_type, seconds_type, microseconds32_type, string_type, terminated_type, blob_type}
use Rattle.field_types.specs.FieldTypes.{Row, rows, of_row, width_of, is_type, is_signed, is_number, is_turned, is_signed_class}
use Rattle.field_types.specs.FieldTypes.{is_number_class}
use Rattle.octets.proofs.Each.{every_at, and_left, and_right, and_false, same, same_true}

-- every row has a number below b
abbrev numbers_below : ℕ → List Row → Bool
numbers_below b [] = true
numbers_below b (r ∷ rs) = ltb r.number b && numbers_below b rs

-- such rows are passed over for a number that is not below b
skip : {A : Type 0} (f : Row → A) (other : A) (rs later : List Row) (b n : ℕ) → numbers_below b rs ≡ true → b ≤ n
    → of_row f other (rs ++ later) n ≡ of_row f other later n
skip f other [] later b n e h = refl
skip f other (r ∷ rs) later b n e h =
    let l : r.number < b = ltb-true r.number b (and_left (ltb r.number b) (numbers_below b rs) e) in
    rw (ne_eqb n r.number (λ q. omega arith)) (skip f other rs later b n (and_right (ltb r.number b) (numbers_below b rs) e) h)

-- the types of a fixed width have numbers below this
abbrev pub fixed_end : ℕ
fixed_end = microseconds32_type + 1

-- and so many rows, which stand first
abbrev fixed_rows : ℕ
fixed_rows = 18

-- past them only the three others are left
pub past_fixed : {A : Type 0} (f : Row → A) (other : A) (n : ℕ) → fixed_end ≤ n
    → of_row f other rows n ≡ of_row f other (drop fixed_rows rows) n
past_fixed f other n h = skip f other (take fixed_rows rows) (drop fixed_rows rows) fixed_end n refl h

-- ---- what the code computes is what the rows say: for numbers that a fixed width may have by a test of each, for others by the law above

split : (code def : ℕ → Bool) → every fixed_end (λ n. same (code n) (def n)) ≡ true → ((n : ℕ) → fixed_end ≤ n → code n ≡ def n) → (n : ℕ)
    → code n ≡ def n
split code def low high n = go (ltb n fixed_end) refl
  where
    go : (b : Bool) → ltb n fixed_end ≡ b → code n ≡ def n
    go true t = same_true (code n) (def n) (every_at fixed_end (λ n. same (code n) (def n)) low n (ltb-true n fixed_end t))
    go false t = high n (ltb-false n fixed_end t)

abbrev type_code : ℕ → Bool
type_code n =
    (leb boolean_type n && leb n double_type) || (leb ipv4_type n && leb n microseconds32_type) || eqb n string_type || eqb n terminated_type
    || eqb n blob_type

any_of : (a b c : Bool) → (a || b || c) ≡ cond a true (cond b true (cond c true false))
any_of true b c = refl
any_of false true c = refl
any_of false false true = refl
any_of false false false = refl

pub type_code_lem : (n : ℕ) → type_code n ≡ is_type n
unfolding every is_type
type_code_lem n =
    split type_code is_type refl
    (λ n h. rw (
      lt-leb n double_type (omega arith),
      lt-leb n microseconds32_type (omega arith),
      and_false (leb boolean_type n),
      and_false (leb ipv4_type n),
    ) (any_of (eqb n string_type) (eqb n terminated_type) (eqb n blob_type))
    ∙ sym (past_fixed (λ r. true) false n h))
    n

-- none of the three is a number
none_of : {A : Type 0} (a b c : Bool) (x : A) → x ≡ cond a x (cond b x (cond c x x))
none_of true b c x = refl
none_of false true c x = refl
none_of false false true x = refl
none_of false false false x = refl

abbrev number_code : ℕ → Bool
number_code n = (leb boolean_type n && leb n double_type) || (leb seconds_type n && leb n microseconds32_type)

pub number_code_lem : (n : ℕ) → number_code n ≡ is_number n
unfolding every is_number
number_code_lem n =
    split number_code is_number refl
    (λ n h. rw (
      lt-leb n double_type (omega arith),
      lt-leb n microseconds32_type (omega arith),
      and_false (leb boolean_type n),
      and_false (leb seconds_type n),
    ) (none_of (eqb n string_type) (eqb n terminated_type) (eqb n blob_type) false)
    ∙ sym (past_fixed (λ r. is_number_class r.class) false n h))
    n

abbrev signed_code : ℕ → Bool
signed_code n = eqb n signed8_type || eqb n signed16_type || eqb n signed32_type || eqb n signed64_type

pub signed_code_lem : (n : ℕ) → signed_code n ≡ is_signed n
unfolding every is_signed
signed_code_lem n =
    split signed_code is_signed refl
    (λ n h. rw (
      ne_eqb n signed8_type (λ e. omega arith),
      ne_eqb n signed16_type (λ e. omega arith),
      ne_eqb n signed32_type (λ e. omega arith),
      ne_eqb n signed64_type (λ e. omega arith),
    ) (none_of (eqb n string_type) (eqb n terminated_type) (eqb n blob_type) false)
    ∙ sym (past_fixed (λ r. is_signed_class r.class) false n h))
    n

abbrev turned_code : ℕ → Bool
turned_code n = (leb unsigned8_type n && leb n double_type) || eqb n string_type || eqb n blob_type

-- of the three, the string and the blob are turned
turned_rest : (n : ℕ) → (eqb n string_type || eqb n blob_type)
    ≡ cond (eqb n string_type) true (cond (eqb n terminated_type) false (cond (eqb n blob_type) true false))
turned_rest n = go (eqb n blob_type) refl
  where
    string_alone : (a b : Bool) → (a || false) ≡ cond a true (cond b false false)
    string_alone true b = refl
    string_alone false true = refl
    string_alone false false = refl

    go : (c : Bool) → eqb n blob_type ≡ c
        → (eqb n string_type || c) ≡ cond (eqb n string_type) true (cond (eqb n terminated_type) false (cond c true false))
    go true e = rw (eqb-true n blob_type e)
    go false e = string_alone (eqb n string_type) (eqb n terminated_type)

pub turned_code_lem : (n : ℕ) → turned_code n ≡ is_turned n
unfolding every is_turned
turned_code_lem n =
    split turned_code is_turned refl
    (λ n h. rw (lt-leb n double_type (omega arith), and_false (leb unsigned8_type n)) (turned_rest n)
    ∙ sym (past_fixed (λ r. r.turns) false n h))
    n

-- the widths in the code's order: by number, from 0
abbrev pub widths : List ℕ
widths = 0 ∷ 1 ∷ 1 ∷ 1 ∷ 2 ∷ 2 ∷ 4 ∷ 4 ∷ 8 ∷ 8 ∷ 4 ∷ 8 ∷ 0 ∷ 0 ∷ 0 ∷ 0 ∷ 4 ∷ 16 ∷ 4 ∷ 8 ∷ 8 ∷ 4 ∷ 4 ∷ []

pub width_low : (n : ℕ) → n < fixed_end → get_or widths n 0 ≡ width_of n
unfolding every width_of
width_low n l = eqb-true (get_or widths n 0) (width_of n) (every_at fixed_end (λ n. eqb (get_or widths n 0) (width_of n)) refl n l)

pub width_high : (n : ℕ) → fixed_end ≤ n → 0 ≡ width_of n
unfolding width_of
width_high n h = none_of (eqb n string_type) (eqb n terminated_type) (eqb n blob_type) 0 ∙ sym (past_fixed (λ r. r.width) 0 n h)
