-- What is found at a key: an entry of the key's kind, which reads back and is such as Apply stores.
use Rattle.std.specs.Prelude.{◌≡◌, List, Bool, true, false, ◌&&◌, not, ℕ, ◌≤◌, ◌<◌, ltb, length}
use Rattle.std.proofs.Math.Path.{refl}
use Rattle.std.proofs.Common.{sym, ◌∙◌, ap, lit<}
use Rattle.std.proofs.Math.Option.{Option, none, some}
use native.Mathlib.Omega.{arith}
use borrow.Author.Tests.{ltb-true, lt-ltb, leb-true, leb-false, not-true}
use Rattle.model.specs.Choice.{given}
use Rattle.model.specs.Number.{AreBytes, number, bytes, span, half, place, is_negative}
use Rattle.model.specs.Order.{Key}
use Rattle.model.specs.Run.{Run, value}
use Rattle.model.specs.Record.{Rec, rec}
use Rattle.model.specs.Key.{rank, key_rank, key_of, producer_key}
use Rattle.model.specs.Map.{get}
use Rattle.model.specs.Contents.{Entry, topic, part, plain, kept, key, storable}
use Rattle.model.specs.Move.{fields, run_at, stored_next, is_above}
use Rattle.model.specs.declared.Kind.{Kind}
use Rattle.model.specs.declared.Kind.TheVariants.{Topic, Partition, ProducerIds}
use Rattle.laws.specs.Choice.{impossible, and_right}
use Rattle.laws.specs.Lists.{All, in_all}
use Rattle.laws.specs.Map.{get_in}
use Rattle.laws.specs.Numbers.{number_bound, place_nonnegative, place-negative}
use Rattle.laws_image.specs.Fits.{Readable}
use Rattle.laws_image.specs.Orderly.{Storable}
use Rattle.laws_image.specs.Ranks.{rank_injective, key_rank_lem}
use Rattle.laws_apply.specs.Entries.{Stored}

-- an entry of a kind, with its fields
pub record Found (kind : Kind) (run : Run) : Type 0 where
  pub entry : Entry
  pub stored : Stored entry
  pub keeps : kept entry ≡ rec kind run

same_kind : (kind other : Kind) (run : Run) → key_rank (key_of other run) ≡ rank kind → 0 < rank kind → other ≡ kind
same_kind kind other run e h = rank_injective other kind (sym (key_rank_lem other run) ∙ e) h

pub found : (l : List Entry) → All Stored l → (k : Key) (kind : Kind) → key_rank k ≡ rank kind → 0 < rank kind → (run : Run)
    → run_at k l ≡ some run → Found kind run
unfolding fields kept key
found l u k kind ranked pos run e = go (get key k l) refl e
  where
    go : (o : Option Entry) → get key k l ≡ o → fields o ≡ some run → Found kind run
    go none f q = impossible cc
    go (some (topic name id count factor named)) f q = impossible cc
    go (some (part r)) f q =
        let i = get_in key k l (part r) f in
        let same : r ≡ run = cc in
        let kinds = same_kind kind Partition r (ap key_rank i.1 ∙ ranked) pos in
        record { entry = part r; stored = in_all Stored l u (part r) i.0; keeps = λ j. rec (kinds j) (same j) }
    go (some (plain r)) f q =
        let i = get_in key k l (plain r) f in
        let same : r.run ≡ run = cc in
        let kinds = same_kind kind r.kind r.run (ap key_rank i.1 ∙ ranked) pos in
        record { entry = plain r; stored = in_all Stored l u (plain r) i.0; keeps = λ j. rec (kinds j) (same j) }

pub found_readable : {kind : Kind} {run : Run} → Found kind run → Readable (rec kind run)
found_readable f = rw f.keeps at f.stored.readable

-- one that is no topic and no partition is such as Apply stores
pub found-storable : {kind : Kind} {run : Run} → Found kind run → (kind ≡ Topic → ⊥) → (kind ≡ Partition → ⊥) → storable kind run ≡ true
unfolding kept
found-storable {kind} {run} f no_topic no_partition = go f.entry f.keeps f.stored.storable
  where
    go : (e : Entry) → kept e ≡ rec kind run → Storable e → storable kind run ≡ true
    go (topic name id count factor named) q s = absurd (no_topic (sym (ap (λ (r : Rec). r.kind) q)))
    go (part r) q s = absurd (no_partition (sym (ap (λ (z : Rec). z.kind) q)))
    go (plain r) q s = rw q at s

-- Producer ids: a next id above the stored one, or above 0, is above 0

above_zero : (n : ℕ) → n < span 8 → half 8 < place 8 n → ltb 0 n && not (is_negative 8 n) ≡ true
above_zero n small h = go (is_negative 8 n) refl
  where
    go : (b : Bool) → is_negative 8 n ≡ b → ltb 0 n && not b ≡ true
    go true e =
        let p = place-negative 8 n (leb-true (half 8) n e) small in
        absurd (omega arith)
    go false e =
        let p = place_nonnegative 8 n (leb-false (half 8) n e) in
        rw (lt-ltb 0 n (omega arith))

module _ (l : List Entry) (u : All Stored l) where
  stored_place : half 8 ≤ place 8 (number (stored_next l))
  unfolding rank key_rank storable
  stored_place = go (run_at producer_key l) refl
    where
      go : (o : Option Run) → run_at producer_key l ≡ o → half 8 ≤ place 8 (number (given o (bytes 8 0) (value 3)))
      go none e = omega arith
      go (some run) e =
          let n = number (value 3 run) in
          let here = found l u producer_key ProducerIds refl (lit< tt) run e in
          let s = found-storable here (λ q. impossible cc) (λ q. impossible cc) in
          let low = leb-false (half 8) n (not-true (is_negative 8 n) (and_right (ltb 0 n) (not (is_negative 8 n)) s)) in
          rw (place_nonnegative 8 n low) (omega arith)

  pub above-storable : (f : Run) → AreBytes (value 3 f) → length (value 3 f) ≡ 8 → is_above 8 (value 3 f) (stored_next l) ≡ true
      → storable ProducerIds f ≡ true
  unfolding storable
  above-storable f b wide h =
      let n = number (value 3 f) in
      let up = ltb-true (place 8 (number (stored_next l))) (place 8 n) h in
      let least = stored_place in
      above_zero n (rw wide at (number_bound (value 3 f) b)) (omega arith)
