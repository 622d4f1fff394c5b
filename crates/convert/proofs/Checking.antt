-- A run over records that are read one after the other: what is left to check is all that there was to check.
use mathlib.Core.Path.{◌≡◌, refl, sym, ap, ◌∙◌}
use mathlib.Core.List.{[], ◌∷◌}
use Prim.Native.Nat.{ℕ, ◌+◌, ◌-◌, ◌≤◌, ◌<◌}
use native.Mathlib.Omega.{arith}
use lib.ListN.{length, get_or, take, drop, length-drop, drop_of_length-le}
use lib.Seq.{get_or-drop, drop-drop}
use Rattle.model.specs.Number.{Bytes, AreBytes}
use Rattle.model.specs.Shape.{Source, framed}
use Rattle.model.specs.Record.{Rec, bad, got, read}
use Rattle.model.specs.Items.{items_from, items_of}
use Rattle.model.specs.Reply.{accepted, refused}
use Rattle.model.specs.Convert.{Checked, passes, fails, run_checked, start_checked}
use Rattle.laws.specs.Numbers.{drop_are_bytes}
use Rattle.laws_records.specs.Records.{reads}
use Rattle.laws_records.specs.Items.{items_got, items_bad}
use Rattle.laws_records.specs.Framed.{offset_read, no_offset-read}
use Rattle.keys.proofs.Found.{rest-lent}
use Rattle.records.specs.Answers.{got_reply}
use Rattle.records.proofs.Replies.{used_got, refused_bad}

-- what is said of the records from a place on
abbrev pub said_from : Source → Bytes → ℕ → Checked
said_from source run at = run_checked (items_from source 0 at (drop at run))

pub record Reached (source : Source) (run : Bytes) (start at : ℕ) : Type 0 where
  pub within : at ≤ length run
  pub same : said_from source run at ≡ said_from source run start

module _ (source : Source) (run : Bytes) where
  -- 1. The first record from a place on

  module _ (at : ℕ) where
    said_bad : (n : ℕ) → at < length run → read source (drop at run) ≡ bad n → said_from source run at ≡ fails n at
    unfolding run_checked
    said_bad n h e = go (drop at run) (omega (arith, length-drop at run)) e
      where
        go : (s : Bytes) → 0 < length s → read source s ≡ bad n → run_checked (items_from source 0 at s) ≡ fails n at
        go [] k q = absurd (omega arith)
        go (b ∷ s) k q = ap run_checked (items_bad source at b s n q)

    module _ (r : Rec) (n : ℕ) (e : read source (drop at run) ≡ got r n) (are : AreBytes run) where
      -- the byte at the place is the kind's number
      first_byte : get_or run at 0 ≡ get_or (drop at run) 0 0
      first_byte = let z : at ≡ at + 0 = omega arith in ap (λ k. get_or run k 0) z ∙ sym (get_or-drop at run 0 0)

      said-offset : get_or run at 0 ≡ 26 → said_from source run at ≡ fails 22 at
      unfolding run_checked
      said-offset h =
          ap run_checked (items_got source at (drop at run) r n e)
          ∙ rw (offset_read source (drop at run) (drop_are_bytes at run are) r n e (sym first_byte ∙ h)) refl

      said_other : (get_or run at 0 ≡ 26 → ⊥) → said_from source run at ≡ said_from source run (at + n)
      unfolding run_checked
      said_other h =
          ap run_checked (items_got source at (drop at run) r n e)
          ∙ rw (no_offset-read source (drop at run) (drop_are_bytes at run are) r n e (λ q. h (first_byte ∙ q)), drop-drop n at run) refl

  -- 2. A turn, and the ends

  pub reached-start : (start : ℕ) → start ≤ length run → Reached source run start start
  reached-start start h = record { within = h; same = refl }

  module _ {start at : ℕ} (h : Reached source run start at) where
    -- the bytes from the place on, as they are lent
    abbrev lent : Bytes
    lent = take (length run - at) (drop at run)

    pub stopped_unread : at < length run → {n : ℕ} → refused n ≡ got_reply (read source lent) → fails n at ≡ said_from source run start
    stopped_unread k {n} e =
        sym (said_bad at n k (refused_bad (read source (drop at run)) n (e ∙ ap (λ s. got_reply (read source s)) (rest-lent at run)))) ∙ h.same

    pub all_passes : length run ≤ at → passes ≡ said_from source run start
    unfolding run_checked items_from
    all_passes k = sym (ap (λ s. run_checked (items_from source 0 at s)) (drop_of_length-le run k)) ∙ h.same

    module _ (are : AreBytes run) {n : ℕ} (e : accepted (n ∷ []) ≡ got_reply (read source lent)) where
      it : (r : Rec) × (read source (drop at run) ≡ got r n)
      it = used_got (read source (drop at run)) n (e ∙ ap (λ s. got_reply (read source s)) (rest-lent at run))

      pub stopped-offset : get_or run at 0 ≡ 26 → fails 22 at ≡ said_from source run start
      stopped-offset k = sym (said-offset at it.0 n it.1 are k) ∙ h.same

      pub turn_places : (0 < n) × (at + n ≤ length run)
      turn_places =
          let d = reads source (drop at run) it.0 n it.1 in
          (omega (arith, d.head), omega (arith, d.fits, length-drop at run, h.within))

      pub turned : (get_or run at 0 ≡ 26 → ⊥) → Reached source run start (at + n)
      turned k = record { within = turn_places.1; same = sym (said_other at it.0 n it.1 are k) ∙ h.same }

-- 3. The new form's first record

module _ (run : Bytes) where
  abbrev said : Checked
  said = start_checked (items_of framed run)

  pub start_empty : length run ≡ 0 → fails 22 0 ≡ said
  unfolding start_checked items_from
  start_empty = go run
    where
      go : (s : Bytes) → length s ≡ 0 → fails 22 0 ≡ start_checked (items_of framed s)
      go [] h = refl
      go (b ∷ s) h = absurd (omega arith)

  pub start_unread : (length run ≡ 0 → ⊥) → {n : ℕ} → refused n ≡ got_reply (read framed run) → fails n 0 ≡ said
  unfolding start_checked
  start_unread h {n} e = go run (omega (arith, h)) (refused_bad (read framed run) n e)
    where
      go : (s : Bytes) → 0 < length s → read framed s ≡ bad n → fails n 0 ≡ start_checked (items_of framed s)
      go [] k q = absurd (omega arith)
      go (b ∷ s) k q = sym (ap start_checked (items_bad framed 0 b s n q))

  module _ (are : AreBytes run) {n : ℕ} (e : accepted (n ∷ []) ≡ got_reply (read framed run)) where
    first : (r : Rec) × (read framed run ≡ got r n)
    first = used_got (read framed run) n e

    pub start_fits : n ≤ length run
    start_fits = (reads framed run first.0 n first.1).fits

    pub start_other : (get_or run 0 0 ≡ 26 → ⊥) → fails 22 0 ≡ said
    unfolding start_checked
    start_other h = sym (ap start_checked (items_got framed 0 run first.0 n first.1) ∙ rw (no_offset-read framed run are first.0 n first.1 h) refl)

    pub start_offset_lem : get_or run 0 0 ≡ 26 → {c : Checked} → c ≡ said_from framed run n → c ≡ said
    unfolding start_checked
    start_offset_lem h {c} q =
        let z : 0 + n ≡ n = omega arith in
        q
        ∙ ap (λ m. run_checked (items_from framed 0 m (drop n run))) (sym z)
        ∙ sym (ap start_checked (items_got framed 0 run first.0 n first.1) ∙ rw (offset_read framed run are first.0 n first.1 h) refl)
