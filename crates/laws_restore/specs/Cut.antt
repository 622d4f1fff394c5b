-- A cut of any image makes exactly the image that 01 names: "Without those premises, whatever image is cut becomes exactly the one".
use Rattle.std.specs.Prelude.{◌≡◌, refl, [], ◌∷◌, ◌++◌, Bool, true, false, cond, leb, eqb, length, drop}
use Rattle.std.proofs.Common.{◌∙◌}
use Rattle.std.proofs.Math.Seq.{take-append_seam}
use Rattle.model.specs.Choice.{joined}
use Rattle.model.specs.Number.{Bytes}
use Rattle.model.specs.Record.{record_bytes}
use Rattle.model.specs.Reply.{accepted, Ended, unchanged, emit_bytes}
use Rattle.model.specs.Image.{contents_of, image_of}
use Rattle.model.specs.Snapshot.{emit, snapshot, snapshot_of, restore_of, restored}
use Rattle.model.specs.History.{written, cut_image, CutBecomesRestored}
use Rattle.laws_image.specs.Exact.{image_fits}
use Rattle.laws_image.specs.Fits.{Fits}
use Rattle.laws_restore.specs.Restored.{restore_snapshot}

pub cut_becomes_restored : CutBecomesRestored
unfolding snapshot_of emit emit_bytes cut_image
cut_becomes_restored image own other bytes is same = rw is (go (leb (length s) (length own)))
  where
    s : Bytes
    s = joined record_bytes (snapshot (contents_of image))

    -- what Snapshot says, by whether its output has room
    whole : Bool → Ended
    whole b = cond b (record { reply = accepted (length s ∷ []); buffer = s ++ drop (length s) own }) (unchanged 19 own)

    made : Ended
    made = record { reply = accepted []; buffer = image_of (length image) (restored (contents_of image)) }

    makes : restore_of s other ≡ made
    makes =
        let fits : Fits (length other) (contents_of image) = rw same (image_fits image bytes is) in
        restore_snapshot other (contents_of image) fits ∙ rw same

    go : (b : Bool) → cond (eqb (whole b).reply.number 0) (restore_of (written (whole b)) other ≡ made)
        (cond (eqb (whole b).reply.number 0) (restore_of (written (whole b)) other).buffer image ≡ image)
    go true = rw (take-append_seam s (drop (length s) own)) makes
    go false = refl
