-- The exits of both operations.
use mathlib.Core.Path.{◌≡◌, refl, sym, ap, ◌∙◌}
use mathlib.Core.Bool.{Bool, true, false, not}
use mathlib.Core.List.{[], ◌∷◌, ◌++◌}
use Prim.Native.Nat.{ℕ}
use lib.ListN.{drop}
use borrow.Author.Tests.{not-true, not-false}
use Rattle.model.specs.Number.{Bytes, is_offset}
use Rattle.model.specs.Shape.{logged, framed}
use Rattle.model.specs.Record.{record_bytes}
use Rattle.model.specs.Items.{items_of}
use Rattle.model.specs.Reply.{Reply, refused, Ended, emit_bytes}
use Rattle.model.specs.Snapshot.{offset_rec, offset_size}
use Rattle.model.specs.Convert.{passes, run_checked, start_checked, start_offset, beside, with_offset_of, without_offset_of}
use Rattle.convert.specs.Convert.{check_of}
use Rattle.convert.specs.declared.Check.{Check}
use Rattle.convert.specs.declared.Check.TheVariants.{Passes, Fails}

-- a reply and a buffer, as an operation's definition has them
abbrev Ends : Reply → Bytes → Ended → Type 0
Ends reply buffer e = (reply ≡ e.reply) × (buffer ≡ e.buffer)

module _ (run : Bytes) (n : ℕ) (out : Bytes) {b : Bool} (eb : b ≡ is_offset n) where
  pub too_low : not b ≡ true → Ends (refused 23) out (with_offset_of run n out)
  unfolding with_offset_of
  too_low h = rw (sym eb ∙ not-true b h) (refl, refl)

  module _ (h : not b ≡ false) {c : Check} (ec : check_of c ≡ run_checked (items_of logged run)) where
    pub old-stopped : {m at : ℕ} → c ≡ Fails m at → Ends (record { number = m; values = at ∷ [] }) out (with_offset_of run n out)
    unfolding with_offset_of
    old-stopped q = rw (sym eb ∙ not-false b h, sym ec ∙ ap check_of q) (refl, refl)

    pub old-passed : c ≡ Passes → {reply : Reply} {v : Bytes} → Ends reply v (emit_bytes (record_bytes (offset_rec n) ++ run) out)
        → Ends reply v (with_offset_of run n out)
    unfolding with_offset_of
    old-passed q p = rw (sym eb ∙ not-false b h, sym ec ∙ ap check_of q) p

module _ (run out : Bytes) {c : Check} (ec : check_of c ≡ start_checked (items_of framed run)) where
  pub new-stopped : {m at : ℕ} → c ≡ Fails m at → Ends (record { number = m; values = at ∷ [] }) out (without_offset_of run out)
  unfolding without_offset_of
  new-stopped q = rw (sym ec ∙ ap check_of q) (refl, refl)

  module _ (q : c ≡ Passes) where
    pub new_passes : start_checked (items_of framed run) ≡ passes
    new_passes = sym ec ∙ ap check_of q

    pub new-passed : {reply : Reply} {v : Bytes} → Ends reply v (beside (start_offset (items_of framed run)) (emit_bytes (drop offset_size run) out))
        → Ends reply v (without_offset_of run out)
    unfolding without_offset_of
    new-passed p = rw new_passes p
