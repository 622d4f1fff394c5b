-- Records back to back: parsed, they are the records, each at its place.
use Rattle.std.specs.Prelude.{◌≡◌, refl, List, [], ◌∷◌, ◌++◌, true, ℕ, zero, suc, ◌+◌, ◌-◌, ◌≤◌, length, drop}
use Rattle.std.proofs.Common.{sym, ap, ◌∙◌, append_assoc, append-nil, add-zero, arith, length-append, take-append-drop}
use Rattle.std.proofs.Math.Seq.{drop-append_seam}
use Rattle.model.specs.Choice.{joined}
use Rattle.model.specs.Number.{Bytes, AreBytes}
use Rattle.model.specs.Shape.{Source, fault}
use Rattle.model.specs.Record.{Rec, record_bytes, Got, bad, got, read, on_got}
use Rattle.model.specs.Items.{Items, end, item, items_from, items_of, records, is_whole}
use Rattle.laws.specs.Choice.{impossible}
use Rattle.laws.specs.Lists.{All}
use Rattle.laws_records.specs.Records.{read_record, reads}

-- all records pass
abbrev pub AllPass : Source → List Rec → Type 0
AllPass source rs = All (λ r. fault source r.kind r.run ≡ 0) rs

-- records from a place on, and what comes after them
abbrev pub placed : ℕ → List Rec → (ℕ → Items) → Items
placed place [] rest = rest place
placed place (r ∷ rs) rest = item place r (placed (place + length (record_bytes r)) rs rest)

pub items_skip : (source : Source) (skip place : ℕ) (s : Bytes)
    → items_from source skip place s ≡ items_from source 0 (place + skip) (drop skip s)
unfolding items_from
items_skip source zero place [] = refl
items_skip source (suc skip) place [] = refl
items_skip source zero place (b ∷ s) = rw add-zero
items_skip source (suc skip) place (b ∷ s) =
    let e : place + 1 + skip ≡ place + suc skip = omega arith in
    items_skip source skip (place + 1) s ∙ rw e

-- what Read accepts is the first item, and what it refuses is the last
pub items_got : (source : Source) (place : ℕ) (s : Bytes) (r : Rec) (n : ℕ) → read source s ≡ got r n
    → items_from source 0 place s ≡ item place r (items_from source 0 (place + n) (drop n s))
unfolding items_from
items_got source place [] r n e = let h = (reads source [] r n e).head in let k = (reads source [] r n e).fits in absurd (omega arith)
items_got source place (b ∷ s) r zero e = let h = (reads source (b ∷ s) r zero e).head in absurd (omega arith)
items_got source place (b ∷ s) r (suc n) e =
    let m : suc n - 1 ≡ n = omega arith in
    let q : place + 1 + n ≡ place + suc n = omega arith in
    rw e (ap (item place r) (rw (m, ← q) (items_skip source n (place + 1) s)))

pub items_bad : (source : Source) (place : ℕ) (b : ℕ) (s : Bytes) (n : ℕ) → read source (b ∷ s) ≡ bad n
    → items_from source 0 place (b ∷ s) ≡ Items.bad n place
unfolding items_from
items_bad source place b s n e = rw e

-- 1. Records that pass

pub items_record : (source : Source) (place : ℕ) (r : Rec) (s : Bytes) → fault source r.kind r.run ≡ 0
    → items_from source 0 place (record_bytes r ++ s) ≡ item place r (items_from source 0 (place + length (record_bytes r)) s)
items_record source place r s ok =
    items_got source place (record_bytes r ++ s) r (length (record_bytes r)) (read_record source r s ok)
    ∙ ap (λ (z : Bytes). item place r (items_from source 0 (place + length (record_bytes r)) z)) (drop-append_seam (record_bytes r) s)

pub items-append : (source : Source) (place : ℕ) (rs : List Rec) (s : Bytes) → AllPass source rs
    → items_from source 0 place (joined record_bytes rs ++ s) ≡ placed place rs (λ p. items_from source 0 p s)
items-append source place [] s ok = refl
items-append source place (r ∷ rs) s ok =
    ap (items_from source 0 place) (append_assoc (record_bytes r) (joined record_bytes rs) s)
    ∙ items_record source place r (joined record_bytes rs ++ s) ok.0
    ∙ ap (item place r) (items-append source (place + length (record_bytes r)) rs s ok.1)

pub items-records : (source : Source) (rs : List Rec) → AllPass source rs → items_of source (joined record_bytes rs) ≡ placed 0 rs (λ p. end)
unfolding items_from
items-records source rs ok = ap (items_from source 0 0) (sym (append-nil (joined record_bytes rs))) ∙ items-append source 0 rs [] ok

-- the place after records
ended : (place : ℕ) (r : Rec) (rs : List Rec)
    → place + length (record_bytes r) + length (joined record_bytes rs) ≡ place + length (record_bytes r ++ joined record_bytes rs)
ended place r rs = simp length-append (omega arith)

pub records-placed : (place : ℕ) (rs : List Rec) (rest : ℕ → Items)
    → records (placed place rs rest) ≡ rs ++ records (rest (place + length (joined record_bytes rs)))
unfolding records
records-placed place [] rest = rw add-zero
records-placed place (r ∷ rs) rest = rw (← ended place r rs, records-placed (place + length (record_bytes r)) rs rest)

pub whole-placed : (place : ℕ) (rs : List Rec) (rest : ℕ → Items)
    → is_whole (placed place rs rest) ≡ is_whole (rest (place + length (joined record_bytes rs)))
unfolding is_whole
whole-placed place [] rest = rw add-zero
whole-placed place (r ∷ rs) rest = rw (← ended place r rs) (whole-placed (place + length (record_bytes r)) rs rest)

-- records that pass are read back, all of them
pub records-items : (source : Source) (rs : List Rec) → AllPass source rs
    → (records (items_of source (joined record_bytes rs)) ≡ rs) × (is_whole (items_of source (joined record_bytes rs)) ≡ true)
unfolding records is_whole
records-items source rs ok = rw (items-records source rs ok) (records-placed 0 rs (λ p. end) ∙ append-nil rs, whole-placed 0 rs (λ p. end))

-- 2. Bytes that are whole records

-- the records pass, and these are their bytes
pub record Spells (source : Source) (rs : List Rec) (s : Bytes) : Type 0 where
  pub spelt : joined record_bytes rs ≡ s
  pub pass : AllPass source rs

spells_from : (source : Source) (skip place : ℕ) (s : Bytes) → AreBytes s → skip ≤ length s → is_whole (items_from source skip place s) ≡ true
    → Spells source (records (items_from source skip place s)) (drop skip s)
unfolding items_from records is_whole
spells_from source zero place [] p h w = record { spelt = refl; pass = tt }
spells_from source (suc skip) place [] p h w = absurd (omega arith)
spells_from source (suc skip) place (b ∷ s) p h w = spells_from source skip (place + 1) s p.1 (omega arith) w
spells_from source zero place (b ∷ s) p h w = go (read source (b ∷ s)) refl w (λ n k. spells_from source n (place + 1) s p.1 k)
  where
    items : Got → Items
    items g = on_got g (λ number. Items.bad number place) (λ r used. item place r (items_from source (used - 1) (place + 1) s))

    go : (g : Got) → read source (b ∷ s) ≡ g → is_whole (items g) ≡ true
        → ((n : ℕ) → n ≤ length s → is_whole (items_from source n (place + 1) s) ≡ true
        → Spells source (records (items_from source n (place + 1) s)) (drop n s))
        → Spells source (records (items g)) (b ∷ s)
    go (bad n) e v i = impossible cc
    go (got r n) e v i =
        let d = reads source (b ∷ s) r n e in
        let j = i (n - 1) (omega (arith, d.fits)) v in
        let q : suc (n - 1) ≡ n = omega (arith, d.head) in
        let t : drop (n - 1) s ≡ drop n (b ∷ s) = ap (λ (m : ℕ). drop m (b ∷ s)) q in
        record {
          spelt = ap (λ (z : Bytes). record_bytes r ++ z) (j.spelt ∙ t) ∙ rw (← d.spelt p) (take-append-drop n (b ∷ s));
          pass = (d.passes, j.pass);
        }

pub spells-items : (source : Source) (s : Bytes) → AreBytes s → is_whole (items_of source s) ≡ true
    → Spells source (records (items_of source s)) s
spells-items source s p w = spells_from source 0 0 s p (omega arith) w

-- such bytes have their records placed from 0 on
pub items-spelt : (source : Source) (rs : List Rec) (s : Bytes) → Spells source rs s → items_of source s ≡ placed 0 rs (λ p. end)
items-spelt source rs s d = rw (← d.spelt) (items-records source rs d.pass)
