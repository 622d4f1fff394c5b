-- A stored record's bytes without its flag are the record that its entry is returned as.
use mathlib.Core.Path.{◌≡◌, refl, sym, ap, ◌∙◌}
use mathlib.Core.Bool.{Bool, true, false}
use mathlib.Core.List.{◌++◌}
use Prim.Native.Nat.{ℕ, ◌+◌, ◌-◌}
use native.Mathlib.Omega.{arith}
use lib.Dec.{eqb}
use lib.ListN.{length, take, length-append}
use lib.Seq.{slice, take_at}
use Rattle.model.specs.Number.{Bytes, bytes, number}
use Rattle.model.specs.Run.{Run, done, item, value, bytes_of}
use Rattle.model.specs.Kind.{kind_number}
use Rattle.model.specs.Record.{Rec, record_bytes}
use Rattle.model.specs.Contents.{topic, returned, kept, topic_run, flag_bytes}
use Rattle.model.specs.Image.{entry_of}
use Rattle.fields.proofs.Parse.{take-drop}
use Rattle.records.specs.Answers.{head}
use Rattle.laws_records.specs.Runs.{item_append}
use Rattle.find.specs.Returned.{flag_size, returned_bytes}

-- 1. A topic

abbrev flag : Bool → Run
flag named = item 5 (flag_bytes named) done

length-flag : (named : Bool) → length (bytes_of (flag named)) ≡ flag_size
unfolding bytes_of
length-flag true = refl
length-flag false = refl

nothing_before : (x : Bytes) → x ≡ bytes_of done ++ x
unfolding bytes_of
nothing_before x = refl

module _ (name id : Bytes) (count factor : ℕ) (named : Bool) where
  abbrev body : Bytes
  body = bytes_of (topic_run name id count factor done)

  abbrev bits : Bytes
  bits = bytes_of (flag named)

  body-flag : bytes_of (topic_run name id count factor (flag named)) ≡ body ++ bits
  body-flag =
      item_append 1 name _ _ bits (item_append 2 id _ _ bits (item_append 3 (bytes 4 count) _ _ bits (item_append 4 (bytes 2 factor) done (flag named) bits (nothing_before bits))))

  length-body : length (bytes_of (topic_run name id count factor (flag named))) ≡ length body + flag_size
  length-body = ap length body-flag ∙ length-append body bits ∙ ap (λ n. length body + n) (length-flag named)

  -- the bytes of the topic in an image, and of its record
  pub topic_returned : record_bytes (returned (topic name id count factor named)) ≡ returned_bytes (record_bytes (kept (topic name id count factor named)))
  unfolding returned kept record_bytes returned_bytes kind_number
  topic_returned =
      let whole = bytes_of (topic_run name id count factor (flag named)) in
      let e = head 1 (length whole) ++ whole in
      let n : length body ≡ length e - flag_size - 3 = omega (arith, length-body) in
      let m : length e - flag_size ≡ 3 + length body = omega (arith, length-body) in
      let cut : slice 3 (3 + length body) e ≡ body = sym (take-drop 3 (length body) e) ∙ ap (take (length body)) body-flag ∙ take_at body bits (length body) refl in
      ap (λ k. head 1 k ++ body) n ∙ ap (λ x. head 1 (length e - flag_size - 3) ++ x) (sym (ap (λ k. slice 3 k e) m ∙ cut))

-- 2. Any entry that stands as a record

other_returned : (r : Rec) → eqb (kind_number r.kind) 1 ≡ false → record_bytes r ≡ returned_bytes (record_bytes r)
unfolding returned_bytes record_bytes
other_returned r h = rw h

pub record-returned : (r : Rec) → kept (entry_of r) ≡ r → record_bytes (returned (entry_of r)) ≡ returned_bytes (record_bytes r)
record-returned r back = go (eqb (kind_number r.kind) 1) refl (eqb (kind_number r.kind) 2) refl
  where
    of_topic_lem : (name id : Bytes) (count factor : ℕ) (named : Bool) → entry_of r ≡ topic name id count factor named
        → record_bytes (returned (entry_of r)) ≡ returned_bytes (record_bytes r)
    of_topic_lem name id count factor named q =
        ap (λ x. record_bytes (returned x)) q ∙ topic_returned name id count factor named ∙ ap (λ x. returned_bytes (record_bytes x)) (ap kept (sym q) ∙ back)

    other : eqb (kind_number r.kind) 1 ≡ false → returned (entry_of r) ≡ kept (entry_of r) → record_bytes (returned (entry_of r)) ≡ returned_bytes (record_bytes r)
    other e q = ap record_bytes (q ∙ back) ∙ other_returned r e

    go : (t : Bool) → eqb (kind_number r.kind) 1 ≡ t → (p : Bool) → eqb (kind_number r.kind) 2 ≡ p → record_bytes (returned (entry_of r)) ≡ returned_bytes (record_bytes r)
    go true e p f = of_topic_lem (value 1 r.run) (value 2 r.run) (number (value 3 r.run)) (number (value 4 r.run)) (eqb (number (value 5 r.run)) 1) (unfold entry_of in rw e)
    go false e true f = other e (unfold entry_of returned kept in rw (e, f))
    go false e false f = other e (unfold entry_of returned kept in rw (e, f))
