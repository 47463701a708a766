-- Laws of template tables: IDs that rise all differ; what a sound block and a sound table say of their numbers; a found template's key
-- blocks lie within the table. The code's loops over blocks and keys cite them.
use mathlib.Core.Path.{◌≡◌, refl, ap}
use mathlib.Core.Bool.{Bool, true, false, cond, not, ◌&&◌}
use mathlib.Core.List.{List, [], ◌∷◌, ◌++◌}
use Prim.Native.Nat.{ℕ, zero, suc, ◌+◌, ◌-◌, ◌*◌, ◌≤◌, ◌<◌}
use native.Mathlib.Nat.{le_refl}
use native.Mathlib.Omega.{arith}
use native.Mathlib.Numerals.{add-one}
use borrow.Author.Rules.{rules}
use borrow.Author.Tests.{ltb-true, ltb-false, leb-true, leb-false, eqb-true, ne_eqb}
use lib.Dec.{ltb, leb, eqb, lit≤}
use lib.ListN.{length}
use Rattle.std.specs.Prelude.{Ok, Err}
use Rattle.octets.specs.Answers.{Check, ◌when◌, judge, judged, done, unsound_table, template_not_found, answer_number, refusal_of}
use Rattle.octets.specs.Answers.{refusal_number}
use Rattle.octets.proofs.Judging.{judged_number}
use Rattle.octets.specs.Each.{every, absent, differ}
use Rattle.tables.specs.Table.{key_octets, block_head_octets, max_keys, max_table_octets, max_templates, table_head_octets, flags_sound}
use Rattle.tables.specs.Table.{key_count, block_flags, block_length, block_octets, block_end, head_sound, block_sound, block_at, blocks_sound}
use Rattle.tables.specs.Table.{templates_differ, table_flags, template_count, table_sound, is_missing, template_index, template_at}
use Rattle.tables.specs.Table.{template_of, template_checks, find_answer, find_of, locate_of}
use Rattle.tables.specs.declared.table.Template.{Template}
use Rattle.numbers.specs.declared.refusal.Refusal.{Refusal}
use Rattle.numbers.specs.declared.refusal.Refusal.TheVariants.{UnsoundTable, TemplateNotFound}
use Rattle.octets.proofs.Each.{clause_first, clause_rest, every_at, every_step, every_intro, and_left, and_right}

-- ---- IDs that rise all differ

-- the first k IDs differ, and none is above the last of them
abbrev pub Rising : (ℕ → ℕ) → ℕ → Type 0
Rising ids k = (differ ids k ≡ true) × ((j : ℕ) → j < k → ids j ≤ ids (k - 1))

pub rise_start : (ids : ℕ → ℕ) → Rising ids 1
unfolding every
rise_start ids = (refl, λ j l. let e : j ≡ 0 = omega arith in rw e (le_refl (ids 0)))

pub rise_step : (ids : ℕ → ℕ) (k : ℕ) → 1 ≤ k → Rising ids k → ids (k - 1) < ids k → Rising ids (k + 1)
rise_step ids k h r l = (
  every_step k (λ k. absent ids k (ids k)) r.0
      (every_intro k (λ j. not (eqb (ids j) (ids k))) (λ j b. ap not (ne_eqb (ids j) (ids k) (λ e. omega (arith, r.1 j b))))),
  λ j b. let e : k + 1 - 1 ≡ k = omega arith in rw e (go j b (ltb j k) refl),
)
  where
    go : (j : ℕ) → j < k + 1 → (b : Bool) → ltb j k ≡ b → ids j ≤ ids k
    go j b true t = omega (arith, r.1 j (ltb-true j k t))
    go j b false t = let e : j ≡ k = omega (arith, ltb-false j k t) in rw e (le_refl (ids k))

-- ---- what a sound block says

-- the numbers of a sound head
pub record HeadFacts (t : List ℕ) (at : ℕ) : Type 0 where
  pub within : block_end t at ≤ length t
  pub some : 1 ≤ key_count t at
  pub few : key_count t at ≤ max_keys

pub head_facts : (t : List ℕ) (at : ℕ) → head_sound t at ≡ true → HeadFacts t at
unfolding head_sound
head_facts t at e =
    let w = leb (block_end t at) (length t) in
    let s = leb 1 (key_count t at) in
    let f = leb (key_count t at) max_keys in
    let g = eqb (block_flags t at) 0 in
    let three = and_left (w && s && f) g (and_left (w && s && f && g) (eqb (block_length t at) (block_octets t at)) e) in
    let two = and_left (w && s) f three in
    record {
      within = leb-true (block_end t at) (length t) (and_left w s two);
      some = leb-true 1 (key_count t at) (and_right w s two);
      few = leb-true (key_count t at) max_keys (and_right (w && s) f three);
    }

-- a sound block has a sound head
pub block_head : (t : List ℕ) (at : ℕ) → block_sound t at ≡ true → head_sound t at ≡ true
unfolding block_sound
block_head t at e = clause_first (head_sound t at) _ e

-- and its head lies within the table
pub block_inside : (t : List ℕ) (at : ℕ) → block_sound t at ≡ true → at + block_head_octets ≤ length t
unfolding block_end
block_inside t at e = omega (arith, (head_facts t at (block_head t at e)).within)

-- ---- where blocks lie

pub block_at_more : (t : List ℕ) (i : ℕ) → block_at t (i + 1) ≡ block_end t (block_at t i)
unfolding block_at
block_at_more t i = rw add-one refl

-- behind sound blocks one is still within the table, or at the end of its head
pub block_near : (t : List ℕ) (n : ℕ) → length t ≤ max_table_octets → blocks_sound t n ≡ true → (j : ℕ) → j ≤ n → block_at t j ≤ max_table_octets
unfolding block_at
block_near t n h e zero l = lit≤ tt
block_near t n h e (suc j) l =
    omega (arith, (head_facts t (block_at t j) (block_head t (block_at t j) (every_at n (λ i. block_sound t (block_at t i)) e j l))).within)

-- each sound block begins within the table
pub block_in : (t : List ℕ) (n : ℕ) → blocks_sound t n ≡ true → (j : ℕ) → j < n → block_at t j + block_head_octets ≤ length t
block_in t n e j l = block_inside t (block_at t j) (every_at n (λ i. block_sound t (block_at t i)) e j l)

-- ---- what a sound table says

pub record TableFacts (t : List ℕ) : Type 0 where
  pub short : length t ≤ max_table_octets
  pub some : 1 ≤ template_count t
  pub few : template_count t ≤ max_templates
  pub blocks : blocks_sound t (template_count t) ≡ true
  pub differ : templates_differ t (template_count t) ≡ true
  pub ends : block_at t (template_count t) ≡ length t

pub table_facts : (t : List ℕ) → table_sound t ≡ true → TableFacts t
unfolding table_sound
table_facts t e =
    let e₁ = clause_rest (leb (length t) max_table_octets) _ e in
    let e₂ = clause_rest (flags_sound (table_flags t)) _ e₁ in
    let e₃ = clause_rest (leb 1 (template_count t)) _ e₂ in
    let e₄ = clause_rest (leb (template_count t) max_templates) _ e₃ in
    let e₅ = clause_rest (blocks_sound t (template_count t)) _ e₄ in
    let e₆ = clause_rest (templates_differ t (template_count t)) _ e₅ in
    record {
      short = leb-true (length t) max_table_octets (clause_first (leb (length t) max_table_octets) _ e);
      some = leb-true 1 (template_count t) (clause_first (leb 1 (template_count t)) _ e₂);
      few = leb-true (template_count t) max_templates (clause_first (leb (template_count t) max_templates) _ e₃);
      blocks = clause_first (blocks_sound t (template_count t)) _ e₄;
      differ = clause_first (templates_differ t (template_count t)) _ e₅;
      ends = eqb-true (block_at t (template_count t)) (length t) (clause_first (eqb (block_at t (template_count t)) (length t)) _ e₆);
    }

-- it has its head, since its first block lies behind that
pub table_long : (t : List ℕ) → table_sound t ≡ true → table_head_octets ≤ length t
unfolding block_at
table_long t e = let f = table_facts t e in omega (arith, block_in t (template_count t) f.blocks 0 f.some)

-- a template that is found has a sound head
found_head : (t : List ℕ) (id : ℕ) → table_sound t ≡ true → is_missing t id ≡ false → HeadFacts t (block_at t (template_index t id))
found_head t id e m =
    let f = table_facts t e in
    let i = template_index t id in
    let b = every_at (template_count t) (λ i. block_sound t (block_at t i)) f.blocks i (leb-false (template_count t) i m) in
    head_facts t (block_at t i) (block_head t (block_at t i) b)

-- THE LAW OF A FOUND TEMPLATE: its key blocks lie within the table
pub template_within : (t : List ℕ) (id : ℕ) → table_sound t ≡ true → is_missing t id ≡ false
    → (template_of t id).keys + key_octets * (template_of t id).count ≤ length t
unfolding template_at block_end
template_within t id e m = omega (arith, (found_head t id e m).within)

-- and are at most 32
pub template_few : (t : List ℕ) (id : ℕ) → table_sound t ≡ true → is_missing t id ≡ false → (template_of t id).count ≤ 32
unfolding template_at
template_few t id e m = (found_head t id e m).few

-- ---- what finding a template says

-- in a sound table finding is locating
pub find_located : (t : List ℕ) (id : ℕ) → table_sound t ≡ true → find_of t id ≡ locate_of t id
unfolding find_of locate_of judged refusal_of
find_located t id e = rw e (go (is_missing t id))
  where
    go : (b : Bool) → judged (cond b template_not_found done) (template_of t id) ≡ cond b (Err TemplateNotFound) (Ok (template_of t id))
    go true = refl
    go false = refl

-- in an unsound table it is refused
pub find_unsound : (t : List ℕ) (id : ℕ) → table_sound t ≡ false → find_of t id ≡ Err UnsoundTable
unfolding find_of judged refusal_of
find_unsound t id e = rw e refl

-- the answer number of finding a template is the number that it is judged by
pub found_number : (t : List ℕ) (id : ℕ) → answer_number (find_of t id) ≡ find_answer t id
unfolding find_of
found_number t id = go (table_sound t) (is_missing t id)
  where
    go : (s b : Bool) → let n = judge ((unsound_table when not s) ∷ (template_not_found when b) ∷ []) in
        answer_number (judged n (template_of t id)) ≡ n
    go false b = judged_number 21 (template_of t id) (lit≤ tt)
    go true true = judged_number 15 (template_of t id) (lit≤ tt)
    go true false = judged_number 0 (template_of t id) (lit≤ tt)

-- a template that is found: the table is sound, and this is its template with the ID
pub found : (t : List ℕ) (id : ℕ) (m : Template) → find_of t id ≡ Ok m
    → (table_sound t ≡ true) × ((is_missing t id ≡ false) × (template_of t id ≡ m))
unfolding find_of judged refusal_of
found t id m = go (table_sound t) (is_missing t id)
  where
    go : (s b : Bool) → judged (judge ((unsound_table when not s) ∷ (template_not_found when b) ∷ [])) (template_of t id) ≡ Ok m
        → (s ≡ true) × ((b ≡ false) × (template_of t id ≡ m))
    go true true e = absurd (search rules)
    go true false e = (refl, (refl, cc))
    go false b e = absurd (search rules)

-- its key blocks lie within the table
pub found_within : (t : List ℕ) (id : ℕ) (m : Template) → find_of t id ≡ Ok m → m.keys + key_octets * m.count ≤ length t
found_within t id m e =
    let f = found t id m e in
    rw f.1.1 at (template_within t id f.0 f.1.0)

-- a refusal is not 0, and is the answer of whatever is judged further, which is judged by its number
pub not_found : {A : Type 0} (t : List ℕ) (id : ℕ) (refusal : Refusal) → find_of t id ≡ Err refusal → (more : List Check) (value : A)
    → (eqb (refusal_number refusal) done ≡ false)
    × ((judge (template_checks t id ++ more) ≡ refusal_number refusal)
    × (judged (judge (template_checks t id ++ more)) value ≡ Err refusal))
unfolding find_of judged refusal_of
not_found {A = A} t id refusal = go (table_sound t) (is_missing t id)
  where
    go : (s b : Bool) → let checks = (unsound_table when not s) ∷ (template_not_found when b) ∷ [] in
        judged (judge checks) (template_of t id) ≡ Err refusal → (more : List Check) (value : A)
        → (eqb (refusal_number refusal) done ≡ false)
        × ((judge (checks ++ more) ≡ refusal_number refusal)
        × (judged (judge (checks ++ more)) value ≡ Err refusal))
    go true true e more value = (cc, (cc, cc))
    go true false e more value = absurd (search rules)
    go false b e more value = (cc, (cc, cc))
