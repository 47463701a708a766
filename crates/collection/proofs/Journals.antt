-- Laws of a journal: an entry read at the place of its octets is that entry, so the octets of entries walk back as those entries, and an
-- entry stored behind the used octets adds one. Each goes by the octets of one entry, of which every number reads back.
use mathlib.Core.Path.{◌≡◌, refl, sym, ap, ◌∙◌}
use mathlib.Core.Bool.{Bool, true, false}
use mathlib.Core.List.{List, [], ◌∷◌, ◌++◌, append_assoc, append-nil}
use Prim.Native.Nat.{ℕ, zero, suc, ◌+◌, ◌-◌, ◌<◌, ◌≤◌, ◌^◌}
use native.Mathlib.Omega.{arith}
use native.Mathlib.Nat.{add-zero}
use borrow.Author.Tests.{le-leb, lt-leb}
use lib.Dec.{eqb, leb}
use lib.ListN.{length, take, drop, length-append, length-take}
use lib.Seq.{sets, sets-eq, length-sets, take_at, drop-drop, take-append_seam, drop-append_seam}
use Rattle.octets.specs.Answers.{done}
use Rattle.octets.specs.Numbers.{number_of, uint_in, uint_at, octets_in}
use Rattle.octets.proofs.Numbers.{read_back, uint_one, uint_append}
use Rattle.collection.specs.Journal.{JournalEntry, entry_head_octets, entry_length, mark_octet, entry_octets, entries_octets, stated_length}
use Rattle.collection.specs.Journal.{is_entry, entry_at, entry_of, walk_from, walked}

-- the numbers of an entry fit their places
pub record Fits (x : JournalEntry) : Type 0 where
  pub dsn : x.dsn < 2 ^ 32
  pub template : x.template < 2 ^ 16
  pub short : length x.octets < 2 ^ 16

-- something holds of every entry
abbrev pub Each : (JournalEntry → Type 0) → List JournalEntry → Type 0
Each P [] = Unit {0}
Each P (x ∷ xs) = P x × Each P xs

-- ---- the octets of one entry

mark_back : (b : Bool) → eqb (mark_octet b) 1 ≡ b
mark_back true = refl
mark_back false = refl

mark_small : (b : Bool) → leb (mark_octet b) 1 ≡ true
mark_small true = refl
mark_small false = refl

module _ (x : JournalEntry) (t : List ℕ) where
  at_dsn : x.dsn < 2 ^ 32 → uint_at (entry_octets x ++ t) 0 4 ≡ x.dsn
  unfolding entry_octets octets_in uint_in number_of
  at_dsn l = read_back 4 x.dsn l

  at_template : x.template < 2 ^ 16 → uint_at (entry_octets x ++ t) 5 2 ≡ x.template
  unfolding entry_octets octets_in uint_in number_of
  at_template l = read_back 2 x.template l

  at_length : length x.octets < 2 ^ 16 → uint_at (entry_octets x ++ t) 7 2 ≡ length x.octets
  unfolding entry_octets octets_in uint_in number_of
  at_length l = read_back 2 (length x.octets) l

  at_mark : uint_at (entry_octets x ++ t) 4 1 ≡ mark_octet x.duplicate
  unfolding entry_octets octets_in
  at_mark = uint_one _ 4

  behind_head : drop 9 (entry_octets x ++ t) ≡ x.octets ++ t
  unfolding entry_octets octets_in
  behind_head = refl

pub entry_length_lem : (x : JournalEntry) → length (entry_octets x) ≡ entry_length x.octets
unfolding entry_octets octets_in
entry_length_lem x = omega arith

-- ---- one entry at a place

-- the octets of an entry behind others and before others
abbrev placed : List ℕ → JournalEntry → List ℕ → List ℕ
placed pre x t = pre ++ (entry_octets x ++ t)

module _ (pre : List ℕ) (x : JournalEntry) (t : List ℕ) (f : Fits x) where
  abbrev j : List ℕ
  j = placed pre x t

  abbrev p : ℕ
  p = length pre

  long : length j ≡ p + (entry_length x.octets + length t)
  long = omega (arith, length-append pre (entry_octets x ++ t), length-append (entry_octets x) t, entry_length_lem x)

  is_dsn : uint_at j p 4 ≡ x.dsn
  is_dsn = ap (λ (k : ℕ). uint_at j k 4) (sym (add-zero p)) ∙ uint_append pre (entry_octets x ++ t) 0 4 ∙ at_dsn x t f.dsn

  is_mark : uint_at j (p + 4) 1 ≡ mark_octet x.duplicate
  is_mark = uint_append pre (entry_octets x ++ t) 4 1 ∙ at_mark x t

  is_template : uint_at j (p + 5) 2 ≡ x.template
  is_template = uint_append pre (entry_octets x ++ t) 5 2 ∙ at_template x t f.template

  pub is_stated : stated_length j p ≡ length x.octets
  is_stated = uint_append pre (entry_octets x ++ t) 7 2 ∙ at_length x t f.short

  is_record : take (length x.octets) (drop (p + 9) j) ≡ x.octets
  is_record =
      ap (take (length x.octets))
      (sym (drop-drop 9 p j) ∙ ap (drop 9) (drop-append_seam pre (entry_octets x ++ t)) ∙ behind_head x t)
      ∙ take-append_seam x.octets t

  pub stands : is_entry j p ≡ true
  unfolding is_entry
  stands =
      rw (
        is_mark,
        is_stated,
        mark_small x.duplicate,
        le-leb 9 (length j - p) (omega (arith, long)),
        le-leb (length x.octets) (length j - p - 9) (omega (arith, long)),
      )

  pub not_end : leb (length j) p ≡ false
  not_end = lt-leb (length j) p (omega (arith, long))

  pub read_back_entry : entry_of j (entry_at j p) ≡ x
  unfolding entry_of entry_at
  read_back_entry = rw (is_dsn, is_mark, is_template, is_stated, mark_back x.duplicate, is_record)

-- ---- entries one behind the other

entries_count : (xs : List JournalEntry) → length xs ≤ length (entries_octets xs)
unfolding entries_octets
entries_count [] = omega arith
entries_count (x ∷ xs) = omega (arith, length-append (entry_octets x) (entries_octets xs), entry_length_lem x, entries_count xs)

-- they walk back from where they begin to the end
pub walk_back : (n : ℕ) (pre : List ℕ) (xs : List JournalEntry) → length xs ≤ n → Each Fits xs
    → walk_from n (pre ++ entries_octets xs) (length pre) ≡ record { entries = xs; answer = done }
unfolding walk_from entries_octets
walk_back zero pre [] l f = refl
walk_back (suc n) pre [] l f =
    rw (le-leb (length (pre ++ [])) (length pre) (omega (arith, length-append {A = ℕ} pre [])))
walk_back zero pre (x ∷ xs) l f = let z : ⊥ = omega arith in absurd z
walk_back (suc n) pre (x ∷ xs) l f =
    let t = entries_octets xs in
    let next = pre ++ entry_octets x in
    let there : length pre + entry_head_octets + length x.octets ≡ length next = omega (arith, length-append pre (entry_octets x), entry_length_lem x) in
    let same : placed pre x t ≡ next ++ t = sym (append_assoc pre (entry_octets x) t) in
    rw (
      not_end pre x t f.0,
      stands pre x t f.0,
      read_back_entry pre x t f.0,
      is_stated pre x t f.0,
      there,
      same,
      walk_back n next xs (omega arith) f.1,
    )

pub entries_append : (xs ys : List JournalEntry) → entries_octets (xs ++ ys) ≡ entries_octets xs ++ entries_octets ys
unfolding entries_octets
entries_append [] ys = refl
entries_append (x ∷ xs) ys = rw (entries_append xs ys) (sym (append_assoc (entry_octets x) (entries_octets xs) (entries_octets ys)))

-- ---- a journal

-- the used octets of a journal are those of these entries
pub record Holds (used : ℕ) (journal : List ℕ) (xs : List JournalEntry) : Type 0 where
  pub inside : used ≤ length journal
  pub stored : take used journal ≡ entries_octets xs
  pub fit : Each Fits xs

-- so they walk back
pub holds_walked : (used : ℕ) (journal : List ℕ) (xs : List JournalEntry) → Holds used journal xs
    → walked (take used journal) ≡ record { entries = xs; answer = done }
holds_walked used journal xs h =
    ap (λ (o : List ℕ). walk_from (length o) o 0) h.stored
    ∙ walk_back (length (entries_octets xs)) [] xs (entries_count xs) h.fit

each_append : (P : JournalEntry → Type 0) (xs ys : List JournalEntry) → Each P xs → Each P ys → Each P (xs ++ ys)
each_append P [] ys f g = g
each_append P (x ∷ xs) ys f g = (f.0, each_append P xs ys f.1 g)

-- an entry stored behind the used octets, which it fits, is one entry more
pub holds_append : (used : ℕ) (journal : List ℕ) (xs : List JournalEntry) (x : JournalEntry) → Fits x
    → used + entry_length x.octets ≤ length journal → Holds used journal xs
    → Holds (used + entry_length x.octets) (sets journal used (entry_octets x)) (xs ++ (x ∷ []))
unfolding entries_octets
holds_append used journal xs x f room h =
    let n = entry_length_lem x in
    let e : sets journal used (entry_octets x) ≡ take used journal ++ entry_octets x ++ drop (used + length (entry_octets x)) journal =
    sets-eq (entry_octets x) journal used (omega arith) in
    let front : length (take used journal ++ entry_octets x) ≡ used + entry_length x.octets =
    omega (arith, length-append (take used journal) (entry_octets x), length-take used journal, h.inside) in
    record {
      inside = omega (arith, length-sets journal used (entry_octets x));
      stored =
          ap (take (used + entry_length x.octets)) e
          ∙ take_at (take used journal ++ entry_octets x) (drop (used + length (entry_octets x)) journal) (used + entry_length x.octets) front
          ∙ ap (λ (s : List ℕ). s ++ entry_octets x) h.stored
          ∙ sym (entries_append xs (x ∷ []) ∙ ap (λ (s : List ℕ). entries_octets xs ++ s) (append-nil (entry_octets x)));
      fit = each_append Fits xs (x ∷ []) h.fit (f, tt);
    }
