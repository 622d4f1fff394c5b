-- What the operations' answers make of a step.
use mathlib.Core.Path.{◌≡◌, refl}
use mathlib.Core.Bool.{true, false, cond}
use mathlib.Core.List.{[], ◌∷◌}
use mathlib.Core.Option.{none, some}
use Prim.Native.Nat.{ℕ}
use borrow.Author.Tests.{ne_eqb}
use lib.Dec.{eqb}
use lib.ListN.{take}
use Rattle.model.specs.Number.{Bytes}
use Rattle.model.specs.Reply.{Reply, accepted, refused}
use Rattle.model.specs.Snapshot.{snapshot_of, restore_of}
use Rattle.model.specs.History.{verdict, cut_image}
use Rattle.model.specs.Answers.{number_reply}
use Rattle.snapshot.proofs.Shots.{refusal_counts}

-- a record, by what Validate says of it
module _ {v : ℕ} {r : Reply} (e : number_reply v ≡ r) where
  pub refused_verdict : (a : Reply) → (v ≡ 0 → ⊥)
      → verdict (number_reply v) (cond (eqb v 0) (some (number_reply 0)) none) ≡ verdict r (cond (eqb r.number 0) (some a) none)
  refused_verdict a h = rw (← e, ne_eqb _ _ h) refl

  pub refused_image : (b c : Bytes) → (v ≡ 0 → ⊥) → c ≡ cond (eqb r.number 0) b c
  refused_image b c h = rw (← e, ne_eqb _ _ h) refl

  pub applied_verdict : {n : ℕ} {a : Reply} → number_reply n ≡ a
      → verdict (number_reply v) (cond (eqb v 0) (some (number_reply n)) none) ≡ verdict r (cond (eqb r.number 0) (some a) none)
  applied_verdict f = rw (← e, ← f) refl

  pub applied_image : (b c : Bytes) → v ≡ 0 → b ≡ cond (eqb r.number 0) b c
  applied_image b c h = rw (← e, h) refl

-- a cut, by what the snapshot says
module _ (image own : Bytes) where
  pub cut_taken : (n : ℕ) (o : Bytes) → accepted (n ∷ []) ≡ (snapshot_of image own).reply → o ≡ (snapshot_of image own).buffer
      → (b : Bytes) → b ≡ (restore_of (take n o) image).buffer
      → (true ≡ eqb (snapshot_of image own).reply.number 0) × ((b ≡ cut_image own image image) × (o ≡ (snapshot_of image own).buffer))
  unfolding cut_image
  cut_taken n o e f b h = rw (← e, ← f) (refl, (h, refl))

  pub cut_refused : (n : ℕ) (o : Bytes) → refused n ≡ (snapshot_of image own).reply → o ≡ (snapshot_of image own).buffer
      → (false ≡ eqb (snapshot_of image own).reply.number 0) × ((image ≡ cut_image own image image) × (o ≡ (snapshot_of image own).buffer))
  unfolding cut_image
  cut_refused n o e f = let k = refusal_counts image own n e in rw (← e, ne_eqb _ _ k) (refl, (refl, f))
