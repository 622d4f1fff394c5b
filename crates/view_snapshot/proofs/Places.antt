-- What an entry adds to a viewer's snapshot: its record where it is seen, and else nothing.
use mathlib.Core.Path.{◌≡◌, refl, sym, ap, ◌∙◌}
use mathlib.Core.Bool.{Bool, true, false, cond, not}
use mathlib.Core.List.{List, []}
use Prim.Native.Nat.{ℕ, ◌+◌, ◌*◌, ◌≤◌}
use native.Mathlib.Omega.{arith}
use borrow.Author.Tests.{not-true, not-false}
use lib.ListN.{length}
use Rattle.model.specs.Number.{Bytes}
use Rattle.model.specs.Record.{record_bytes}
use Rattle.model.specs.Contents.{record_key}
use Rattle.model.specs.View.{is_seen}
use Rattle.keys.specs.Keys.{key_in}
use Rattle.entries.specs.Entries.{IsRecord, record_in}
use Rattle.entries.proofs.Changes.{record-in, key_in_lem}
use Rattle.records.specs.Answers.{put_at}
use Rattle.records.proofs.Written.{put_at_nothing}
use Rattle.find.specs.Returned.{returned_size, returned_bytes}
use Rattle.find.proofs.Puts.{length-returned}
use Rattle.find.proofs.Finds.{entire}
use Rattle.snapshot.proofs.Totals.{size_low}
use Rattle.view_snapshot.specs.Seen.{seen_bytes}

module _ (ps : List Bytes) (e : Bytes) (i : IsRecord e) {b : Bool} (eb : b ≡ is_seen ps (key_in e)) where
  seen_is : is_seen ps (record_key (record_in e)) ≡ b
  seen_is = ap (λ r. is_seen ps (record_key r)) (record-in e i) ∙ ap (is_seen ps) (sym (key_in_lem e i)) ∙ sym eb

  spelt_is : record_bytes (record_in e) ≡ e
  spelt_is = ap record_bytes (record-in e i) ∙ sym i.bytes

  module _ (h : not b ≡ true) where
    hidden : seen_bytes ps (record_in e) ≡ []
    hidden = ap (λ x. cond x (returned_bytes (record_bytes (record_in e))) []) (seen_is ∙ not-true b h)

    pub size_hidden : (0 ≡ length (seen_bytes ps (record_in e))) × (0 ≤ 19 * length e)
    size_hidden = (ap length (sym hidden), omega arith)

    pub place_hidden : (out : Bytes) (at : ℕ) → (at ≡ at + length (seen_bytes ps (record_in e))) × (out ≡ put_at out at (seen_bytes ps (record_in e)))
    place_hidden out at = (omega (arith, ap length hidden), sym (put_at_nothing out at) ∙ ap (put_at out at) (sym hidden))

  module _ (h : not b ≡ false) where
    shown : seen_bytes ps (record_in e) ≡ returned_bytes e
    shown = ap (λ x. cond x (returned_bytes (record_bytes (record_in e))) []) (seen_is ∙ not-false b h) ∙ ap returned_bytes spelt_is

    long : length (seen_bytes ps (record_in e)) ≡ returned_size e
    long = ap length shown ∙ length-returned e (entire e i)

    pub size_shown : {n : ℕ} → n ≡ returned_size e → (n ≡ length (seen_bytes ps (record_in e))) × (n ≤ 19 * length e)
    size_shown en = (en ∙ sym long, omega (arith, en, size_low e))

    pub fits_shown : (at room : ℕ) → at + length (seen_bytes ps (record_in e)) ≤ room → at + returned_size e ≤ room
    fits_shown at room k = omega (arith, k, long)

    pub place_shown : (out : Bytes) (at : ℕ) {n : ℕ} {w : Bytes} → n ≡ returned_size e → w ≡ put_at out at (returned_bytes e)
        → (at + n ≡ at + length (seen_bytes ps (record_in e))) × (w ≡ put_at out at (seen_bytes ps (record_in e)))
    place_shown out at en ew = (omega (arith, en, long), ew ∙ ap (put_at out at) (sym shown))
