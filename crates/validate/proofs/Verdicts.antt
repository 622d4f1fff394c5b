-- Validate, exit by exit.
use mathlib.Core.Path.{◌≡◌, sym, ap, ap₂, ◌∙◌}
use mathlib.Core.Bool.{Bool, true, false, not}
use mathlib.Core.List.{[], ◌∷◌, map}
use Prim.Native.Nat.{ℕ, ◌-◌}
use borrow.Author.Tests.{not-true, not-false}
use lib.ListN.{take, drop}
use Rattle.model.specs.Number.{Bytes, AreBytes}
use Rattle.model.specs.Shape.{logged}
use Rattle.model.specs.Record.{read}
use Rattle.model.specs.Image.{head_size, entry_of, is_image, contents_of}
use Rattle.model.specs.Reply.{accepted, refused}
use Rattle.model.specs.Validate.{judge, validate_of}
use Rattle.model.specs.Answers.{number_reply}
use Rattle.entries.specs.Entries.{records_in}
use Rattle.find.specs.Logged.{logged_in}
use Rattle.find.specs.Reals.{Reals}
use Rattle.find.proofs.Lent.{lent-held}
use Rattle.find.proofs.Logged.{it, logged_is}
use Rattle.records.specs.Answers.{got_reply}
use Rattle.records.proofs.Replies.{refused_bad}

module _ (image input : Bytes) {is : Bool} (ei : is ≡ is_image image) where
  pub no_image : not is ≡ true → number_reply 1 ≡ validate_of image input
  unfolding validate_of
  no_image h = rw (← ei, not-true is h)

  module _ (h : not is ≡ false) where
    pub image_is : is_image image ≡ true
    image_is = sym ei ∙ not-false is h

    pub read-refused : {n : ℕ} → refused n ≡ got_reply (read logged input) → number_reply n ≡ validate_of image input
    unfolding validate_of
    read-refused {n} e = rw (image_is, refused_bad (read logged input) n e)

    pub judged : (are_bytes : AreBytes input) {n end j : ℕ} (e : accepted (n ∷ []) ≡ got_reply (read logged input)) (r : Reals image end)
        → j ≡ judge (logged_in (take n input)) (map entry_of (records_in (take (end - head_size) (drop head_size image)))) → number_reply j ≡ validate_of image input
    unfolding validate_of
    judged are_bytes {n} {end} {j} e r q =
        let same : j ≡ judge (it input are_bytes e).0 (contents_of image).real = q ∙ ap₂ judge (logged_is input are_bytes e) (lent-held image r) in
        rw (image_is, (it input are_bytes e).1) (ap number_reply same)
