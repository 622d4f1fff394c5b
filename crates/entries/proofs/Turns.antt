-- A turn of a walk over entries: a step finds the entry at its place, and ends only at the end.
use mathlib.Core.Path.{◌≡◌, refl, sym, ap, ◌∙◌, subst}
use Prim.Native.Nat.{ℕ, ◌+◌, ◌-◌, ◌≤◌, ◌<◌, Ordering}
use native.Mathlib.Decide.{dec_lt}
use native.Mathlib.Omega.{arith}
use lib.ListN.{length, take, drop}
use lib.Seq.{slice}
use Rattle.model.specs.Number.{Bytes, AreBytes}
use Rattle.model.specs.Order.{Key, compare_keys, ordering}
use Rattle.model.specs.Record.{record_bytes}
use Rattle.model.specs.Contents.{record_key}
use Rattle.std.specs.declared.cmp.Ordering.{Ordering as Order}
use Rattle.std.specs.declared.cmp.Ordering.TheVariants.{Less, Equal, Greater}
use Rattle.laws.specs.Choice.{impossible}
use Rattle.keys.specs.Keys.{key_in, Keyed}
use Rattle.keys.proofs.Found.{lent_slice}
use Rattle.entries.specs.Entries.{Entries, size_at, step_at, Placed}
use Rattle.entries.specs.declared.Cursor.{Cursor}
use Rattle.entries.specs.declared.Step.{Step}
use Rattle.entries.specs.declared.Step.TheVariants.{Entry, Torn, End}
use Rattle.entries.proofs.Records.{record-keyed, record-key}
use Rattle.entries.proofs.Steps.{step_end, step_entry}
use Rattle.entries.proofs.Seeks.{At, entry_at, Here, pass_less, found_equal, found_greater}

shown : (s : Bytes) (at : ℕ) → at < length s → At s at → Entry at (at + size_at s at) (record { at = at + size_at s at }) ≡ step_at s at
shown s at inside a = let f = a.fits in step_entry s at inside (omega arith) _ refl (omega arith)

-- what a step that found an entry says
pub record Stands (s : Bytes) (at start end : ℕ) (next : Cursor) : Type 0 where
  pub first : start ≡ at
  pub last : end ≡ at + size_at s at
  pub after : next ≡ record { at = end }
  pub entry : At s at

module _ (s : Bytes) (are_bytes : AreBytes s) (at : ℕ) (whole : Entries (drop at s)) {r : Step} (e : r ≡ step_at s at) where
  pub stands : {start end : ℕ} {next : Cursor} → r ≡ Entry start end next → Stands s at start end next
  stands {start} {end} {next} h = elim (dec_lt at (length s)) [ yes p ↦ inside p | no q ↦ past (omega arith) ]
    where
      inside : at < length s → Stands s at start end next
      inside p =
          let a = entry_at s at p are_bytes whole in
          let same : Entry start end next ≡ Entry at (at + size_at s at) (record { at = at + size_at s at }) = sym h ∙ e ∙ sym (shown s at p a) in
          let last : end ≡ at + size_at s at = cc in
          let after : next ≡ record { at = at + size_at s at } = cc in
          record { first = cc; last = last; after = after ∙ ap (λ x. record { at = x }) (sym last); entry = a }

      past : length s ≤ at → Stands s at start end next
      past q = let z : Entry start end next ≡ End = sym h ∙ e ∙ sym (step_end s at q) in impossible cc

  pub ended : r ≡ End → length s ≤ at
  ended h = elim (dec_lt at (length s)) [ yes p ↦ inside p | no q ↦ omega arith ]
    where
      inside : at < length s → length s ≤ at
      inside p = let z : Entry at (at + size_at s at) (record { at = at + size_at s at }) ≡ End = shown s at p (entry_at s at p are_bytes whole) ∙ sym e ∙ h in impossible cc

  pub not_torn : {A : Type 0} → r ≡ Torn → A
  not_torn {A} h = elim (dec_lt at (length s)) [ yes p ↦ inside p | no q ↦ past (omega arith) ]
    where
      inside : at < length s → A
      inside p = let z : Entry at (at + size_at s at) (record { at = at + size_at s at }) ≡ Torn = shown s at p (entry_at s at p are_bytes whole) ∙ sym e ∙ h in impossible cc

      past : length s ≤ at → A
      past q = let z : End ≡ Torn = step_end s at q ∙ sym e ∙ h in impossible cc

-- the entry's bytes as they are lent, and its key
module _ (s : Bytes) (at start end : ℕ) (next : Cursor) (t : Stands s at start end next) where
  pub lent : take (end - start) (drop start s) ≡ record_bytes t.entry.entry
  lent =
      let f = t.first in
      let l = t.last in
      lent_slice s start end (omega arith) ∙ ap (λ x. slice x end s) f ∙ ap (λ x. slice at x s) l ∙ t.entry.bytes_are

  pub lent-keyed : Keyed (take (end - start) (drop start s))
  lent-keyed = rw lent (record-keyed t.entry.entry t.entry.passes)

  pub lent_order : (o : Order) (x : Ordering) (k : Key) → ordering o ≡ compare_keys (key_in (take (end - start) (drop start s))) k → ordering o ≡ x
      → compare_keys (record_key t.entry.entry) k ≡ x
  lent_order o x k h e = sym (lent_key h) ∙ e
    where
      lent_key : ordering o ≡ compare_keys (key_in (take (end - start) (drop start s))) k → ordering o ≡ compare_keys (record_key t.entry.entry) k
      lent_key h = h ∙ ap (λ x. compare_keys x k) (ap key_in lent ∙ record-key t.entry.entry t.entry.passes)

  -- the next step begins after the entry
  next-at : next.at ≡ at + size_at s at
  next-at = ap (λ c. c.at) t.after ∙ t.last

  pub turn_falls : length s - next.at < length s - at
  turn_falls = omega (arith, next-at, t.entry.fits)

  -- the exits of a turn, by the order of the entry's key and another
  module _ (are_bytes : AreBytes s) (k : Key) (h : Here s k at) (o : Order) (e : ordering o ≡ compare_keys (key_in (take (end - start) (drop start s))) k) where
    pub turn_less : o ≡ Less → Here s k next.at
    turn_less told =
        let less = lent_order o Ordering.lt k e (ap ordering told) in
        subst (λ x. Here s k x) (sym next-at) (pass_less s are_bytes k at h t.entry less)

    pub turn_equal : o ≡ Equal → Placed s k start end
    turn_equal told =
        let equal = lent_order o Ordering.eq k e (ap ordering told) in
        subst (λ x. Placed s k x end) (sym t.first) (subst (λ x. Placed s k at x) (sym t.last) (found_equal s are_bytes k at h t.entry equal))

    pub turn_greater : o ≡ Greater → Placed s k start start
    turn_greater told =
        let greater = lent_order o Ordering.gt k e (ap ordering told) in
        subst (λ x. Placed s k x x) (sym t.first) (found_greater s are_bytes k at h t.entry greater)
