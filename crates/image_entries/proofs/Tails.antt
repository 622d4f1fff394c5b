-- A walk up to the first bare entry: the entries before it are the real ones, those from it on the empty groups.
use mathlib.Core.Path.{◌≡◌, refl, sym, ap, ◌∙◌, subst}
use mathlib.Core.Bool.{Bool, true, false}
use mathlib.Core.List.{List, [], ◌∷◌, ◌++◌, append_assoc, append-nil}
use Prim.Native.Nat.{ℕ, ◌+◌, ◌-◌, ◌≤◌}
use native.Mathlib.Omega.{arith}
use lib.ListN.{length, take, drop}
use lib.Seq.{take-add}
use Rattle.model.specs.Number.{Bytes, AreBytes}
use Rattle.model.specs.Shape.{stored, fault}
use Rattle.model.specs.Record.{Rec, record_bytes}
use Rattle.model.specs.Items.{items_from, is_whole, records}
use Rattle.model.specs.Contents.{is_bare}
use Rattle.model.specs.Image.{real_of, empties_of}
use Rattle.laws.specs.Lists.{all_append, joined-append}
use Rattle.laws.specs.Numbers.{take_are_bytes}
use Rattle.laws_records.specs.Items.{AllPass, records-items}
use Rattle.fields.proofs.Parse.{take-drop}
use Rattle.entries.specs.Entries.{records_in, spelt, Entries, size_at, record_in}
use Rattle.entries.specs.declared.Cursor.{Cursor}
use Rattle.entries.proofs.Parts.{entries_pass}
use Rattle.entries.proofs.Seeks.{entries-spelt}
use Rattle.entries.proofs.Turns.{Stands}
use Rattle.image_entries.specs.Stored.{Parted}
use Rattle.image_entries.proofs.Turns.{entry_is, next-at, past_end}

-- 1. Entries and one more

module _ (t : Bytes) (are_bytes : AreBytes t) (e : Entries t) (r : Rec) (ok : fault stored r.kind r.run ≡ 0) where
  pass_more : AllPass stored (records_in t ++ (r ∷ []))
  pass_more = all_append (λ x. fault stored x.kind x.run ≡ 0) (records_in t) (r ∷ []) (entries_pass t are_bytes e) (ok, tt)

  spelt-more : spelt (records_in t ++ (r ∷ [])) ≡ t ++ record_bytes r
  spelt-more =
      joined-append record_bytes (records_in t) (r ∷ [])
      ∙ ap (λ x. spelt (records_in t) ++ x) (append-nil (record_bytes r))
      ∙ ap (λ x. x ++ record_bytes r) (entries-spelt t are_bytes e)

  one_more : Entries (t ++ record_bytes r) × (records_in (t ++ record_bytes r) ≡ records_in t ++ (r ∷ []))
  one_more = let p = records-items stored (records_in t ++ (r ∷ [])) pass_more in rw (← spelt-more) (p.1, p.0)

-- 2. The walk

pub record Cut (s : Bytes) (at : ℕ) : Type 0 where
  pub most : at ≤ length s
  pub front : Entries (take at s)
  pub entries : Entries (drop at s)
  pub reals : records_in (take at s) ++ real_of (records_in (drop at s)) ≡ real_of (records_in s)
  pub empties : empties_of (records_in (drop at s)) ≡ empties_of (records_in s)

pub cut_start : (s : Bytes) → Entries s → Cut s 0
unfolding items_from is_whole records
cut_start s e = record { most = omega arith; front = refl; entries = e; reals = refl; empties = refl }

-- a list by its first element
module _ (r : Rec) (l : List Rec) where
  real_bare : is_bare r ≡ true → real_of (r ∷ l) ≡ []
  unfolding real_of
  real_bare b = rw b

  real_other : is_bare r ≡ false → real_of (r ∷ l) ≡ r ∷ real_of l
  unfolding real_of
  real_other b = rw b

  empties_bare : is_bare r ≡ true → empties_of (r ∷ l) ≡ r ∷ l
  unfolding empties_of
  empties_bare b = rw b

  empties_other : is_bare r ≡ false → empties_of (r ∷ l) ≡ empties_of l
  unfolding empties_of
  empties_other b = rw b

none : (l : List Rec) → l ≡ [] → (real_of l ≡ []) × (empties_of l ≡ l)
unfolding real_of empties_of
none l e = rw e (refl, refl)

module _ {s : Bytes} {at : ℕ} (h : Cut s at) where
  parted : (real_of (records_in (drop at s)) ≡ []) × (empties_of (records_in (drop at s)) ≡ records_in (drop at s)) → Parted s at
  parted n = record {
    most = h.most;
    real_entries = h.front;
    empty_entries = h.entries;
    reals = sym (append-nil (records_in (take at s))) ∙ ap (λ l. records_in (take at s) ++ l) (sym n.0) ∙ h.reals;
    empties = sym n.1 ∙ h.empties;
  }

  pub cut_end : length s ≤ at → Parted s (length s)
  cut_end past =
      let e : at ≡ length s = let m = h.most in omega arith in
      subst (λ x. Parted s x) e (parted (none (records_in (drop at s)) (past_end s at past)))

  module _ {start end : ℕ} {next : Cursor} (t : Stands s at start end next) {b : Bool} (e : b ≡ is_bare (record_in (take (end - start) (drop start s)))) where
    told : is_bare t.entry.entry ≡ b
    told = sym (e ∙ ap is_bare (entry_is t))

    pub cut_here : b ≡ true → Parted s start
    cut_here is =
        let r = t.entry.entry in
        let l = records_in (drop (at + size_at s at) s) in
        let bare = told ∙ is in
        subst (λ x. Parted s x) (sym t.first)
        (parted (ap real_of t.entry.list ∙ real_bare r l bare, ap empties_of t.entry.list ∙ empties_bare r l bare ∙ sym t.entry.list))

    pub cut_on : AreBytes s → b ≡ false → Cut s next.at
    cut_on are_bytes is =
        let r = t.entry.entry in
        let l = records_in (drop (at + size_at s at) s) in
        let other = told ∙ is in
        let front : take (at + size_at s at) s ≡ take at s ++ record_bytes r =
        take-add at (size_at s at) s ∙ ap (λ x. take at s ++ x) (take-drop at (size_at s at) s ∙ t.entry.bytes_are) in
        let more = one_more (take at s) (take_are_bytes at s are_bytes) h.front r t.entry.passes in
        let c : Cut s (at + size_at s at) = record {
          most = t.entry.fits;
          front = rw front more.0;
          entries = t.entry.rest;
          reals =
              ap (λ x. records_in x ++ real_of l) front
              ∙ ap (λ x. x ++ real_of l) more.1
              ∙ append_assoc (records_in (take at s)) (r ∷ []) (real_of l)
              ∙ ap (λ x. records_in (take at s) ++ x) (sym (ap real_of t.entry.list ∙ real_other r l other))
              ∙ h.reals;
          empties = sym (ap empties_of t.entry.list ∙ empties_other r l other) ∙ h.empties;
        } in
        subst (λ x. Cut s x) (sym (next-at t)) c
