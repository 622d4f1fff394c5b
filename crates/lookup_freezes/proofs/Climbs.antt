-- The longest prefix: the prefixes and the entries ascend together, so that each prefix is sought after the place of the one before it.
use mathlib.Core.Path.{◌≡◌, refl, sym, ap, ◌∙◌, subst}
use mathlib.Core.List.{List, [], ◌∷◌, ◌++◌}
use mathlib.Core.Option.{Option, none, some}
use Prim.Native.Nat.{ℕ, suc, ◌+◌, ◌-◌, ◌≤◌, ◌<◌}
use native.Mathlib.Omega.{arith}
use lib.ListN.{length, take, drop, length-drop}
use lib.Seq.{drop-drop, length-take-le}
use Rattle.model.specs.Choice.{given}
use Rattle.model.specs.Number.{Bytes, AreBytes}
use Rattle.model.specs.Order.{Key}
use Rattle.model.specs.Shape.{stored, fault}
use Rattle.model.specs.Record.{Rec}
use Rattle.model.specs.Key.{freeze_key}
use Rattle.model.specs.Map.{get}
use Rattle.model.specs.Contents.{record_key}
use Rattle.model.specs.Lookup.{prefixed, longest_by}
use Rattle.laws.specs.Lists.{All, all_append, all-append_right}
use Rattle.laws.specs.Map.{get_in, get_after, under_trans}
use Rattle.laws.specs.Numbers.{drop_are_bytes}
use Rattle.laws.specs.Order.{Lt}
use Rattle.laws.specs.Split.{below, here, above, split, below-under}
use Rattle.laws_records.specs.Items.{AllPass, records-items}
use Rattle.entries.specs.Entries.{records_in, Entries, Placed}
use Rattle.entries.specs.declared.Place.{Place}
use Rattle.entries.proofs.Parts.{entries_pass}
use Rattle.find.specs.Found.{query_key, AllKept, record_at}
use Rattle.keys.proofs.Found.{rest-lent}
use Rattle.lookup_freezes.specs.Freezes.{frozen_in, Chosen}
use Rattle.lookup_freezes.proofs.Prefixes.{shorter, longest-shorter, freeze-below}
use Rattle.lookup_freezes.proofs.Places.{placed, chosen_part, chosen_first, chosen_next}

-- a later key's entry is not before the place of an earlier one
get-above : (j k : Key) → Lt j k → (l : List Rec) → get record_key k l ≡ get record_key k (above record_key j l)
get-above j k less l =
    ap (get record_key k) (split record_key j l)
    ∙ get_after record_key k (below record_key j l ++ here record_key j l) (above record_key j l)
    (all_append (λ x. Lt (record_key x) k) (below record_key j l) (here record_key j l)
    (under_trans record_key j k less (below record_key j l) (below-under record_key j l)) (go (get record_key j l) refl))
  where
    go : (o : Option Rec) → get record_key j l ≡ o → All (λ x. Lt (record_key x) k) (given o [] (λ x. x ∷ []))
    go none e = tt
    go (some x) e = (rw (get_in record_key j l x e).1 less, tt)

-- the entries after a key's place
module _ (t : Bytes) (are : AreBytes t) (whole : Entries t) {k : Key} {a e : ℕ} (p : Placed t k a e) where
  rest_pass : AllPass stored (above record_key k (records_in t))
  rest_pass =
      all-append_right (λ r. fault stored r.kind r.run ≡ 0) (below record_key k (records_in t) ++ here record_key k (records_in t)) (above record_key k (records_in t))
      (subst (λ l. AllPass stored l) (split record_key k (records_in t)) (entries_pass t are whole))

  rest-records : records_in (drop e t) ≡ above record_key k (records_in t)
  rest-records = ap records_in p.after ∙ (records-items stored (above record_key k (records_in t)) rest_pass).0

  rest-entries : Entries (drop e t)
  rest-entries = rw p.after (records-items stored (above record_key k (records_in t)) rest_pass).1

-- the prefixes of less than `n` bytes have been sought: the longest stored one of them is at `best`, and the longer ones stand from `from` on
pub record Climb (s name : Bytes) (n from : ℕ) (best : Place) : Type 0 where
  pub chosen : Chosen s (shorter (frozen_in s prefixed) name n) best.at best.end
  pub onward : (m : ℕ) → n ≤ m → m ≤ length name
      → get record_key (freeze_key prefixed (take m name)) (records_in s) ≡ get record_key (freeze_key prefixed (take m name)) (records_in (drop from s))
  pub entries : Entries (drop from s)
  pub inside : from ≤ length s
  pub within : n ≤ length name

pub climb_start : (s name : Bytes) → Entries s → Climb s name 0 0 (record { at = 0; end = 0 })
unfolding record_at
climb_start s name whole = record {
  chosen = record { holds = λ q. absurd (omega arith); says = refl };
  onward = λ m h k. refl;
  entries = whole;
  inside = omega arith;
  within = omega arith;
}

module _ {s name : Bytes} {n from : ℕ} {best : Place} (h : Climb s name n from best) where
  pub lent-entries : Entries (take (length s - from) (drop from s))
  lent-entries = rw (rest-lent from s) h.entries

  pub prefix_fits : length name ≤ 255 → length (take n name) ≤ 255
  prefix_fits short = omega (arith, length-take-le n name h.within, h.within)

  pub place-within : {k : Key} {a e : ℕ} → Placed (take (length s - from) (drop from s)) k a e → (from + a ≤ length s) × (from + e ≤ length s)
  place-within p =
      let size = ap length (rest-lent from s) ∙ length-drop from s in
      (omega (arith, p.order, p.most, h.inside), omega (arith, p.most, h.inside))

  module _ {a e : ℕ} (p : Placed (take (length s - from) (drop from s)) (query_key 18 (take n name) prefixed) a e) where
    sought : Placed (drop from s) (freeze_key prefixed (take n name)) a e
    sought = placed (drop from s) (take n name) prefixed (subst (λ t. Placed t (query_key 18 (take n name) prefixed) a e) (rest-lent from s) p)

    module _ (are : AreBytes s) (keeps : AllKept (records_in s)) where
      one : Chosen s (frozen_in s prefixed (take n name)) (from + a) (from + e)
      one = chosen_part s from (freeze_key prefixed (take n name)) (h.onward n (omega arith) h.within) h.inside are h.entries keeps sought

      pub climb_found : from + a < from + e → {b : Place} → b ≡ record { at = from + a; end = from + e }
          → Chosen s (shorter (frozen_in s prefixed) name (suc n)) b.at b.end
      climb_found longer q = rw q (chosen_first s (shorter (frozen_in s prefixed) name n) one longer)

      pub climb_kept : from + e ≤ from + a → {b : Place} → b ≡ best → Chosen s (shorter (frozen_in s prefixed) name (suc n)) b.at b.end
      climb_kept empty q = rw q (chosen_next s (shorter (frozen_in s prefixed) name n) one empty h.chosen)

      module _ {b : Place} (c : Chosen s (shorter (frozen_in s prefixed) name (suc n)) b.at b.end) where
        pub climb_end : n ≡ length name → Chosen s (longest_by (frozen_in s prefixed) [] name) b.at b.end
        climb_end q =
            let all : shorter (frozen_in s prefixed) name (suc n) ≡ longest_by (frozen_in s prefixed) [] name =
            ap (λ m. shorter (frozen_in s prefixed) name (suc m)) q ∙ sym (longest-shorter (frozen_in s prefixed) name) in
            subst (λ o. Chosen s o b.at b.end) all c

        later : (m : ℕ) → n + 1 ≤ m → m ≤ length name
            → get record_key (freeze_key prefixed (take m name)) (records_in s) ≡ get record_key (freeze_key prefixed (take m name)) (records_in (drop (from + e) s))
        later m low high =
            let j = freeze_key prefixed (take n name) in
            let k = freeze_key prefixed (take m name) in
            let records : records_in (drop e (drop from s)) ≡ above record_key j (records_in (drop from s)) =
            rest-records (drop from s) (drop_are_bytes from s are) h.entries sought in
            h.onward m (omega arith) high
            ∙ get-above j k (freeze-below prefixed name n m (omega arith) high) (records_in (drop from s))
            ∙ ap (get record_key k) (sym records ∙ ap records_in (drop-drop e from s))

        pub climb_on : (n ≡ length name → ⊥) → Climb s name (n + 1) (from + e) b
        climb_on more =
            let next : suc n ≡ n + 1 = omega arith in
            record {
              chosen = subst (λ m. Chosen s (shorter (frozen_in s prefixed) name m) b.at b.end) next c;
              onward = later;
              entries = subst (λ t. Entries t) (drop-drop e from s) (rest-entries (drop from s) (drop_are_bytes from s are) h.entries sought);
              inside = (place-within p).1;
              within = omega (arith, h.within);
            }
