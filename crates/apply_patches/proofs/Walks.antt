-- A walk that changes entries where they stand: those before its place are changed, the others are as they were.
use mathlib.Core.Path.{◌≡◌, refl, sym, ap, ap₂, ◌∙◌, subst}
use mathlib.Core.List.{List, [], ◌∷◌, ◌++◌, map, append_assoc, append-nil}
use Prim.Native.Nat.{ℕ, ◌+◌, ◌-◌, ◌≤◌, ◌<◌}
use native.Mathlib.Omega.{arith}
use borrow.Rule.Slice.PartMut.{put_mid, post_of, same_len_mid, mid_len, drop_put}
use lib.ListN.{length, take, drop, get_or, length-append}
use lib.Seq.{slice, length-take-le, take-take, take_at, drop-drop, slice_empty}
use Rattle.model.specs.Number.{Bytes, AreBytes}
use Rattle.model.specs.Shape.{stored, fault}
use Rattle.model.specs.Record.{Rec, record_bytes}
use Rattle.model.specs.Contents.{Entry, kept}
use Rattle.model.specs.Image.{entry_of}
use Rattle.model.specs.Move.{clear_named, count_partition}
use Rattle.laws.specs.Numbers.{take_are_bytes}
use Rattle.laws.specs.Lists.{All, all_imp, all_both, all_map, map-all, map-map}
use Rattle.laws_records.specs.Items.{AllPass, records-items}
use Rattle.keys.proofs.Found.{lent_slice, slice_again}
use Rattle.keys.proofs.Keys.{known_bytes}
use Rattle.entries.specs.Entries.{records_in, spelt, Entries, IsRecord, record_in}
use Rattle.entries.specs.declared.Cursor.{Cursor}
use Rattle.entries.proofs.Changes.{record-in}
use Rattle.entries.proofs.Parts.{entries_pass}
use Rattle.entries.proofs.Seeks.{no_records}
use Rattle.entries.proofs.Turns.{Stands, lent, turn_falls}
use Rattle.find.specs.Found.{AllKept}
use Rattle.apply_work.specs.Work.{reals_in, groups_in, Good}
use Rattle.apply_work.specs.declared.Bounds.{Bounds}
use Rattle.apply_patches.specs.Patches.{CountFits, StandsFor, patched}
use Rattle.apply_patches.proofs.Entries.{Fits, Sound, clear_named_fits, count_partition_fits}

-- the record in a record's place
abbrev remade : (Entry → Entry) → Rec → Rec
remade f r = kept (f (entry_of r))

-- a change of records that pass a test
pub record Suits (f : Entry → Entry) (P : Rec → Type 0) : Type 0 where
  pub sound : (r : Rec) → P r → Sound r
  pub fits : (r : Rec) → P r → Fits r (f (entry_of r))

-- the walk is at `at` of the part up to `mid`
pub record Walked (f : Entry → Entry) (P : Rec → Type 0) (w₀ w : Bytes) (mid at : ℕ) : Type 0 where
  pub same : length w ≡ length w₀
  pub are : AreBytes w
  pub most : at ≤ mid
  pub entries : Entries (slice at mid w)
  pub left : All P (records_in (slice at mid w))
  pub front : take at w ++ spelt (map (remade f) (records_in (slice at mid w))) ≡ spelt (map (remade f) (records_in (take mid w₀)))
  pub back : drop mid w ≡ drop mid w₀

pub walked_start : (f : Entry → Entry) (P : Rec → Type 0) (w : Bytes) (mid : ℕ) → AreBytes w → Entries (take mid w) → All P (records_in (take mid w))
    → Walked f P w w mid 0
walked_start f P w mid are e all =
    record { same = refl; are = are; most = omega arith; entries = e; left = all; front = refl; back = refl }

drop_again : (s t : Bytes) (from to : ℕ) → from ≤ to → drop from s ≡ drop from t → drop to s ≡ drop to t
drop_again s t from to h e =
    let g : from + (to - from) ≡ to = omega arith in
    ap (λ n. drop n s) (sym g)
    ∙ sym (drop-drop (to - from) from s)
    ∙ ap (drop (to - from)) e
    ∙ drop-drop (to - from) from t
    ∙ ap (λ n. drop n t) g

module _ {f : Entry → Entry} {P : Rec → Type 0} {w₀ w : Bytes} {mid at : ℕ} (within : mid ≤ length w₀) (h : Walked f P w₀ w mid at) where
  -- the part that is walked is whole, and of bytes
  pub whole : length (take mid w) ≡ mid
  whole = length-take-le mid w (omega (arith, h.same))

  pub walked_bytes : AreBytes (take mid w)
  walked_bytes = take_are_bytes mid w h.are

-- 1. A turn

module _ {f : Entry → Entry} {P : Rec → Type 0} (suits : Suits f P) {w₀ w : Bytes} {mid at : ℕ} (within : mid ≤ length w₀)
    (h : Walked f P w₀ w mid at) {start end : ℕ} {next : Cursor} (t : Stands (take mid w) at start end next) where
  longer : start ≤ end
  longer = omega (arith, t.first, t.last)

  inside : end ≤ mid
  inside = omega (arith, t.last, t.entry.fits, whole within h)

  pub place-within : (start ≤ end) × (end ≤ length w)
  place-within = (longer, omega (arith, inside, within, h.same))

  next-end : next.at ≡ end
  next-end = ap (λ c. c.at) t.after

  pub falls : mid - next.at < mid - at
  falls = let q = turn_falls (take mid w) at start end next t in omega (arith, whole within h)

  -- the entry as it is lent
  abbrev here : Bytes
  here = take (end - start) (drop start w)

  here-bytes : here ≡ record_bytes t.entry.entry
  here-bytes =
      lent_slice w start end longer
      ∙ ap (drop start) (sym (take-take end mid w inside))
      ∙ sym (lent_slice (take mid w) start end longer)
      ∙ lent (take mid w) at start end next t

  here_is : IsRecord here
  here_is = record { value = t.entry.entry; bytes = here-bytes; passes = t.entry.passes }

  here_record : record_in here ≡ t.entry.entry
  unfolding here_is
  here_record = record-in here here_is

  list : records_in (slice at mid w) ≡ t.entry.entry ∷ records_in (slice end mid w)
  list = t.entry.list ∙ ap (λ x. t.entry.entry ∷ records_in (slice x mid w)) (sym t.last)

  all_left : All P (t.entry.entry ∷ records_in (slice end mid w))
  all_left = subst (λ l. All P l) list h.left

  pub here_suits : P (record_in here)
  here_suits = rw here_record all_left.0

  pub here-stands : StandsFor here
  here-stands = record { is = here_is; keeps = (suits.sound (record_in here) here_suits).keeps }

  -- the entry is changed, and nothing else
  module _ {x : Bytes} (e : x ≡ patched f here) where
    abbrev after : Bytes
    after = put_mid start (end - start) w x

    x_is : x ≡ record_bytes (remade f t.entry.entry)
    x_is = e ∙ ap (λ r. record_bytes (remade f r)) here_record

    x_long : length x ≡ end - start
    x_long =
        ap length x_is
        ∙ (suits.fits t.entry.entry all_left.0).long
        ∙ sym (ap length here-bytes)
        ∙ mid_len start end w place-within.1

    after-rest : drop end after ≡ drop end w
    after-rest = drop_put start end w x longer place-within.1 x_long

    after_front : take end after ≡ take at w ++ record_bytes (remade f t.entry.entry)
    after_front =
        let far : length (take start w ++ x) ≡ end =
        length-append (take start w) x ∙ ap₂ (λ a b. a + b) (length-take-le start w (omega (arith, longer, place-within.1))) x_long ∙ omega (arith, longer) in
        ap (take end) (sym (append_assoc (take start w) x (post_of start (end - start) w)))
        ∙ take_at (take start w ++ x) (post_of start (end - start) w) end far
        ∙ ap₂ (λ a b. take a w ++ b) t.first x_is

    pub turned : ((i : ℕ) → get_or after i 0 < 256) → Walked f P w₀ after mid next.at
    turned are =
        let r = t.entry.entry in
        let l = records_in (slice end mid w) in
        let rest : slice end mid after ≡ slice end mid w = slice_again after w end mid inside after-rest in
        let k : Walked f P w₀ after mid end = record {
          same = same_len_mid start (end - start) w x (x_long ∙ sym (mid_len start end w place-within.1)) ∙ h.same;
          are = known_bytes after are;
          most = inside;
          entries = rw (rest, t.last) t.entry.rest;
          left = rw rest all_left.1;
          front =
              ap₂ (λ a s. a ++ spelt (map (remade f) (records_in s))) after_front rest
              ∙ append_assoc (take at w) (record_bytes (remade f r)) (spelt (map (remade f) l))
              ∙ ap (λ m. take at w ++ spelt (map (remade f) m)) (sym list)
              ∙ h.front;
          back = drop_again after w end mid inside after-rest ∙ h.back;
        } in
        subst (λ n. Walked f P w₀ after mid n) (sym next-end) k

-- 2. The end

module _ {f : Entry → Entry} {P : Rec → Type 0} (suits : Suits f P) {w₀ : Bytes} {bounds : Bounds} (good : Good w₀ bounds) (all : All P (reals_in w₀ bounds)) where
  abbrev made : List Rec
  made = map (remade f) (reals_in w₀ bounds)

  made_pass : AllPass stored made
  made_pass =
      all_map P (λ r. fault stored r.kind r.run ≡ 0) (remade f) (λ r p. (suits.fits r p).passes) (reals_in w₀ bounds) all

  made_kept : AllKept made
  made_kept = all_map P (λ r. kept (entry_of r) ≡ r) (remade f) (λ r p. ap kept (suits.fits r p).back) (reals_in w₀ bounds) all

  made-entries : map entry_of made ≡ map f (map entry_of (reals_in w₀ bounds))
  made-entries =
      map-map entry_of (remade f) (reals_in w₀ bounds)
      ∙ map-all (λ r. entry_of (remade f r)) (λ r. f (entry_of r)) (reals_in w₀ bounds)
      (all_imp P (λ r. entry_of (remade f r) ≡ f (entry_of r)) (λ r p. (suits.fits r p).back) (reals_in w₀ bounds) all)
      ∙ sym (map-map f entry_of (reals_in w₀ bounds))

  module _ {w : Bytes} {at : ℕ} (h : Walked f P w₀ w bounds.mid at) (past : length (take bounds.mid w) ≤ at) where
    within : bounds.mid ≤ length w₀
    within = omega (arith, good.order, good.fits)

    at_end_lem : at ≡ bounds.mid
    at_end_lem = omega (arith, whole within h, h.most)

    reals_bytes : take bounds.mid w ≡ spelt made
    reals_bytes =
        let none : slice at bounds.mid w ≡ [] = ap (λ n. slice n bounds.mid w) at_end_lem ∙ slice_empty bounds.mid w in
        ap (λ n. take n w) (sym at_end_lem)
        ∙ sym (ap (λ l. take at w ++ spelt (map (remade f) l)) (no_records (slice at bounds.mid w) none) ∙ append-nil (take at w))
        ∙ h.front

    reals_are : reals_in w bounds ≡ made
    reals_are = rw reals_bytes (records-items stored made made_pass).0

    groups_bytes : slice bounds.mid bounds.used w ≡ slice bounds.mid bounds.used w₀
    groups_bytes = slice_again w w₀ bounds.mid bounds.used good.order h.back

    pub closed : Good w bounds × (map entry_of (reals_in w bounds) ≡ map f (map entry_of (reals_in w₀ bounds))) × (groups_in w bounds ≡ groups_in w₀ bounds)
    closed = (
      record {
        order = good.order;
        fits = omega (arith, good.fits, h.same);
        reals = rw reals_bytes (records-items stored made made_pass).1;
        groups = rw groups_bytes good.groups;
        keeps = rw reals_are made_kept;
      },
      ap (map entry_of) reals_are ∙ made-entries,
      ap records_in groups_bytes,
    )

-- 3. The real entries of a work array

module _ {w : Bytes} {bounds : Bounds} (are : AreBytes w) (good : Good w bounds) where
  pub all_sound : All Sound (reals_in w bounds)
  all_sound =
      let passes : Rec → Type 0 = λ r. fault stored r.kind r.run ≡ 0 in
      let keeps : Rec → Type 0 = λ r. kept (entry_of r) ≡ r in
      all_imp (λ r. passes r × keeps r) Sound (λ r p. record { passes = p.0; keeps = p.1 }) (reals_in w bounds)
      (all_both passes keeps (reals_in w bounds) (entries_pass (take bounds.mid w) (take_are_bytes bounds.mid w are) good.reals) good.keeps)

  counts_back : (l : List Rec) → All CountFits (map entry_of l) → All (λ r. CountFits (entry_of r)) l
  counts_back [] a = tt
  counts_back (r ∷ l) a = (a.0, counts_back l a.1)

  pub all-counted : All CountFits (map entry_of (reals_in w bounds)) → All (λ r. Sound r × CountFits (entry_of r)) (reals_in w bounds)
  all-counted a = all_both Sound (λ r. CountFits (entry_of r)) (reals_in w bounds) all_sound (counts_back (reals_in w bounds) a)

-- 4. The two changes

pub clear_named_suits : (id : Bytes) → Suits (clear_named id) Sound
clear_named_suits id = record { sound = λ r s. s; fits = λ r s. clear_named_fits r s id }

pub count_partition_suits : (name : Bytes) (new replicas : ℕ) → new ≤ 1 → replicas < 65536 → Suits (count_partition name new replicas) (λ r. Sound r × CountFits (entry_of r))
count_partition_suits name new replicas low few = record { sound = λ r p. p.0; fits = λ r p. count_partition_fits r p.0 name new replicas p.1 low few }
