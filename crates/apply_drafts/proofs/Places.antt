-- Where a field goes: the fields of smaller tags are passed, and it is put in the place of the one of its tag, or before the first greater one.
use mathlib.Core.Path.{◌≡◌, refl, sym, ap, ◌∙◌, subst}
use mathlib.Core.List.{◌++◌, append_assoc}
use Prim.Native.Nat.{ℕ, ◌+◌, ◌-◌, ◌≤◌, ◌<◌}
use native.Mathlib.Omega.{arith}
use borrow.Author.Tests.{eq-eqb, ne_eqb, lt-ltb, le-ltb}
use lib.ListN.{length, take, drop, length-append, length-drop, take-append-drop}
use lib.Seq.{slice, take_at}
use Rattle.model.specs.Number.{Bytes, AreBytes}
use Rattle.model.specs.Run.{done, torn, item, bytes_of, set_field}
use Rattle.laws.specs.Numbers.{slice_are_bytes}
use Rattle.laws_records.specs.Runs.{Whole, bytes_run}
use Rattle.fields.specs.Fields.{fields_from}
use Rattle.fields.specs.declared.Cursor.{Cursor}
use Rattle.fields.proofs.Took.{Moved}
use Rattle.keys.specs.Keys.{run_in}
use Rattle.keys.proofs.Found.{slice-rest}
use Rattle.keys.proofs.Elements.{begins}
use Rattle.records.specs.Answers.{head}
use Rattle.apply_drafts.specs.Drafts.{IsDraft, Spot}

-- what was passed, and the rest with the field set, make all with the field set
pub record Ahead (s : Bytes) (tag : ℕ) (c : Cursor) : Type 0 where
  pub low : 3 ≤ c.at
  pub order : c.at ≤ c.to
  pub last : c.to ≡ length s
  pub whole : Whole (fields_from s c)
  pub same : (w : Bytes) → take c.at s ++ bytes_of (set_field tag w (fields_from s c)) ≡ take 3 s ++ bytes_of (set_field tag w (run_in s))

pub ahead_start : (s : Bytes) (tag : ℕ) → IsDraft s → Ahead s tag (record { at = 3; to = length s })
ahead_start s tag d = record {
  low = omega arith;
  order = d.headed;
  last = refl;
  whole = subst Whole (sym (begins s)) d.whole;
  same = λ w. ap (λ r. take 3 s ++ bytes_of (set_field tag w r)) (begins s);
}

module _ (s : Bytes) (tag : ℕ) (c : Cursor) (a : Ahead s tag c) where
  pub not_torn : fields_from s c ≡ torn → ⊥
  not_torn e = subst Whole e a.whole

  module _ (are : AreBytes s) where
    -- the fields from a cursor on are the bytes from there on
    rest-spelt : (d : Cursor) → d.to ≡ length s → Whole (fields_from s d) → drop d.at s ≡ bytes_of (fields_from s d)
    rest-spelt d e w =
        sym (slice-rest d.at s)
        ∙ ap (λ n. slice d.at n s) (sym e)
        ∙ sym (bytes_run (slice d.at d.to s) (slice_are_bytes d.at d.to s are) w)

    -- the field goes before the fields from a cursor on
    spot_before : (d : Cursor) → c.at ≤ d.at → d.at ≤ d.to → d.to ≡ length s → Whole (fields_from s d)
        → ((w : Bytes) → set_field tag w (fields_from s c) ≡ item tag w (fields_from s d)) → Spot s tag c.at d.at
    unfolding bytes_of
    spot_before d above order last whole e = record {
      low = a.low;
      order = above;
      most = omega arith;
      sets = λ w.
          let f = head tag (length w) ++ w in
          ap (λ x. take c.at s ++ f ++ x) (rest-spelt d last whole)
          ∙ append_assoc (take c.at s) f (bytes_of (fields_from s d))
          ∙ ap (λ r. take c.at s ++ bytes_of r) (sym (e w))
          ∙ a.same w;
    }

    spot_here : ((w : Bytes) → set_field tag w (fields_from s c) ≡ item tag w (fields_from s c)) → Spot s tag c.at c.at
    spot_here e = spot_before c (omega arith) a.order a.last a.whole e

    -- no field is left
    pub spot_end : fields_from s c ≡ done → Spot s tag c.at c.at
    unfolding set_field
    spot_end e = spot_here (λ w. rw e)

    module _ (t start len : ℕ) (next : Cursor) (m : Moved c t start len next) (v : Bytes) (e : fields_from s c ≡ item t v (fields_from s next)) where
      -- a greater tag
      pub spot_past : tag < t → Spot s tag c.at c.at
      unfolding set_field
      spot_past h = let apart : t ≡ tag → ⊥ = λ q. omega arith in spot_here (λ w. rw (e, le-ltb t tag (omega arith), ne_eqb t tag apart))

      -- the tag itself
      rest-whole : Whole (fields_from s next)
      rest-whole = subst Whole e a.whole

      last_too : next.to ≡ length s
      last_too = m.ends ∙ a.last

      pub spot_at : t ≡ tag → Spot s tag c.at (start + len)
      unfolding set_field
      spot_at q =
          let set : (w : Bytes) → set_field tag w (fields_from s c) ≡ item tag w (fields_from s next) = λ w. rw (e, le-ltb t tag (omega arith), eq-eqb t tag q) in
          subst (Spot s tag c.at) (sym m.part) (spot_before next (omega (arith, m.onward)) (omega (arith, m.most, m.ends)) last_too rest-whole set)

      -- a smaller tag: its field is passed
      passed : take next.at s ≡ take c.at s ++ (head t (length v) ++ v)
      unfolding bytes_of
      passed =
          let front = take c.at s ++ (head t (length v) ++ v) in
          let rest = bytes_of (fields_from s next) in
          let all : s ≡ front ++ rest =
          sym (take-append-drop c.at s)
          ∙ ap (λ x. take c.at s ++ x) (rest-spelt c a.last a.whole ∙ ap bytes_of e)
          ∙ sym (append_assoc (take c.at s) (head t (length v) ++ v) rest) in
          let sum : length s ≡ length front + length rest = ap length all ∙ length-append front rest in
          let left : length rest ≡ length s - next.at = ap length (sym (rest-spelt next last_too rest-whole)) ∙ length-drop next.at s in
          let size : length front ≡ next.at = omega (arith, m.most, a.last) in
          ap (take next.at) all ∙ take_at front rest next.at size

      pub ahead_turn : t ≤ tag → (t ≡ tag → ⊥) → Ahead s tag next
      unfolding bytes_of set_field
      ahead_turn h apart = record {
        low = omega (arith, a.low, m.onward);
        order = omega (arith, m.most, m.ends);
        last = last_too;
        whole = rest-whole;
        same = λ w.
            let rest = set_field tag w (fields_from s next) in
            let set : set_field tag w (fields_from s c) ≡ item t v rest = rw (e, lt-ltb t tag (omega arith)) in
            ap (λ x. x ++ bytes_of rest) passed
            ∙ append_assoc (take c.at s) (head t (length v) ++ v) (bytes_of rest)
            ∙ ap (λ r. take c.at s ++ bytes_of r) (sym set)
            ∙ a.same w;
      }
