-- Facts of the table of field types. What a test finds of every row holds of the row with any number, and the test is computed once.
use mathlib.Core.Path.{◌≡◌, refl, sym, ap, ◌∙◌}
use mathlib.Core.Bool.{Bool, true, false, cond, ◌&&◌, false≢true}
use mathlib.Core.List.{List, [], ◌∷◌}
use Prim.Native.Nat.{ℕ, ◌≤◌, ◌<◌}
use native.Mathlib.Omega.{arith}
use borrow.Author.Tests.{leb-true, ne_eqb}
use lib.Dec.{eqb, leb}
use Rattle.field_types.specs.FieldTypes.{Row, rows, of_row, width_of, is_number, is_signed, is_number_class, is_signed_class, boolean_type}
use Rattle.field_types.specs.FieldTypes.{string_type, terminated_type, blob_type}
use Rattle.octets.proofs.Each.{and_left, and_right}

-- every row passes
abbrev every_row : (Row → Bool) → List Row → Bool
every_row test [] = true
every_row test (r ∷ rs) = test r && every_row test rs

pick : {A B : Type 0} (test : A → B → Bool) (is : Bool) (x y : A) (u v : B) → test x u ≡ true → test y v ≡ true
    → test (cond is x y) (cond is u v) ≡ true
pick test true x y u v h k = h
pick test false x y u v h k = k

-- what a test finds of two columns in every row, and where no row has the number, it finds of the two of any number
of_rows : {A B : Type 0} (test : A → B → Bool) (f : Row → A) (a : A) (g : Row → B) (b : B) (rs : List Row) (n : ℕ)
    → test a b ≡ true → every_row (λ r. test (f r) (g r)) rs ≡ true → test (of_row f a rs n) (of_row g b rs n) ≡ true
of_rows test f a g b [] n other all = other
of_rows test f a g b (r ∷ rs) n other all =
    let first = test (f r) (g r) in
    let others = every_row (λ q. test (f q) (g q)) rs in
    pick test (eqb n r.number) (f r) (of_row f a rs n) (g r) (of_row g b rs n) (and_left first others all)
    (of_rows test f a g b rs n other (and_right first others all))

-- if the first, then the second
abbrev follows : Bool → Bool → Bool
follows a b = cond a b true

-- a number has 1 to 8 octets
pub number_width : (type : ℕ) → is_number type ≡ true → (1 ≤ width_of type) × (width_of type ≤ 8)
unfolding is_number width_of
number_width type h =
    let w = width_of type in
    let e : leb 1 w && leb w 8 ≡ true =
    rw h at (of_rows (λ a w. follows a (leb 1 w && leb w 8)) (λ r. is_number_class r.class) false (λ r. r.width) 0 rows type refl refl) in
    (leb-true 1 w (and_left (leb 1 w) (leb w 8) e), leb-true w 8 (and_right (leb 1 w) (leb w 8) e))

-- a signed number is a number
pub signed_number : (type : ℕ) → is_signed type ≡ true → is_number type ≡ true
unfolding is_number is_signed
signed_number type h =
    rw h at (of_rows (λ a b. follows a b) (λ r. is_signed_class r.class) false (λ r. is_number_class r.class) false rows type refl refl)

-- a Boolean is an unsigned number
pub boolean_unsigned : (type : ℕ) → type ≡ boolean_type → (is_number type ≡ true) × (is_signed type ≡ false)
unfolding is_number is_signed
boolean_unsigned type e = rw e (refl, refl)

pub boolean_width : (type : ℕ) → type ≡ boolean_type → width_of type ≡ 1
unfolding width_of
boolean_width type e = rw e

-- a type of a fixed width is none whose width varies
not_varying : (type other : ℕ) → 0 < width_of type → width_of other ≡ 0 → eqb type other ≡ false
not_varying type other some none = ne_eqb type other (λ e. omega (arith, ap width_of e))

pub fixed_type : (type : ℕ) → 0 < width_of type
    → (eqb type string_type ≡ false) × ((eqb type terminated_type ≡ false) × (eqb type blob_type ≡ false))
unfolding width_of
fixed_type type some =
    (not_varying type string_type some refl, (not_varying type terminated_type some refl, not_varying type blob_type some refl))

-- what is no number is not signed, and no Boolean
pub no_number : (type : ℕ) → is_number type ≡ false → (is_signed type ≡ false) × (eqb type boolean_type ≡ false)
no_number type h = (go (is_signed type) refl, ne_eqb type boolean_type (λ e. absurd (false≢true (sym h ∙ (boolean_unsigned type e).0))))
  where
    go : (b : Bool) → is_signed type ≡ b → b ≡ false
    go true e = sym (signed_number type e) ∙ h
    go false e = refl
