-- A walk over a record's fields: how long those to come are as they are known, and what is written of those that are passed.
use mathlib.Core.Path.{◌≡◌, refl, sym, ap, ◌∙◌, subst}
use mathlib.Core.List.{[], ◌++◌}
use Prim.Native.Nat.{ℕ, ◌+◌, ◌-◌, ◌≤◌, ◌<◌}
use native.Mathlib.Omega.{arith}
use lib.ListN.{length, take, drop, length-append, length-drop}
use lib.Seq.{slice, length-slice}
use Rattle.model.specs.Number.{Bytes}
use Rattle.model.specs.Run.{done, torn, item, bytes_of, drop_field}
use Rattle.laws_records.specs.Runs.{Whole, length_run}
use Rattle.fields.specs.Fields.{fields_from}
use Rattle.fields.specs.declared.Cursor.{Cursor}
use Rattle.fields.proofs.Took.{Moved}
use Rattle.keys.specs.Keys.{run_in}
use Rattle.records.specs.Answers.{put_at}
use Rattle.keys.proofs.Found.{lent_slice}
use Rattle.keys.proofs.Elements.{begins}
use Rattle.downgrade_brokers.specs.Known.{emptied, known, known_field, known_size}
use Rattle.records.proofs.Growing.{Growing, grow_start, part_fits, grow, grown}
use Rattle.downgrade_brokers.proofs.Known.{known_item, length-field, known_low}

-- 1. The cursor

pub record Ahead (s : Bytes) (c : Cursor) : Type 0 where
  pub order : c.at ≤ c.to
  pub last : c.to ≡ length s
  pub whole : Whole (fields_from s c)

ahead_start : (s : Bytes) → 3 ≤ length s → Whole (run_in s) → Ahead s (record { at = 3; to = length s })
ahead_start s headed whole = record { order = headed; last = refl; whole = subst Whole (sym (begins s)) whole }

module _ {s : Bytes} {c : Cursor} (a : Ahead s c) where
  pub inside : (c.at ≤ c.to) × (c.to ≤ length s)
  inside = (a.order, omega (arith, a.last))

  pub not_torn : {A : Type 0} → fields_from s c ≡ torn → A
  not_torn e = absurd (subst Whole e a.whole)

  module _ {t start len : ℕ} {next : Cursor} (m : Moved c t start len next) where
    pub ends_inside : start + len ≤ length s
    ends_inside = omega (arith, m.part, m.most, a.last)

    value-length : length (slice start (start + len) s) ≡ len
    value-length = length-slice start (start + len) s ends_inside ∙ omega arith

    pub falls : next.to - next.at < c.to - c.at
    falls = omega (arith, m.onward, m.most, m.ends)

    ahead_turn : fields_from s c ≡ item t (slice start (start + len) s) (fields_from s next) → Ahead s next
    ahead_turn e = record { order = omega (arith, m.most, m.ends); last = m.ends ∙ a.last; whole = subst Whole e a.whole }

-- the fields to come, as they are known
abbrev to_come : Bytes → ℕ → ℕ → Cursor → Bytes
to_come s empty gone c = bytes_of (known empty gone (fields_from s c))

abbrev all : Bytes → ℕ → ℕ → Bytes
all s empty gone = bytes_of (known empty gone (run_in s))

none-to_come : (s : Bytes) (empty gone : ℕ) (c : Cursor) → fields_from s c ≡ done → to_come s empty gone c ≡ []
unfolding emptied drop_field bytes_of
none-to_come s empty gone c e = rw e

one-to_come : (s : Bytes) (empty gone : ℕ) (c next : Cursor) (t : ℕ) (v : Bytes) → fields_from s c ≡ item t v (fields_from s next)
    → to_come s empty gone c ≡ known_field empty gone t v ++ to_come s empty gone next
one-to_come s empty gone c next t v e = ap (λ r. bytes_of (known empty gone r)) e ∙ known_item empty gone t v (fields_from s next)

-- 2. Their length

pub record Counted (s : Bytes) (empty gone : ℕ) (c : Cursor) (n : ℕ) : Type 0 where
  pub ahead : Ahead s c
  pub sum : n + length (to_come s empty gone c) ≡ length (all s empty gone)
  pub low : length (all s empty gone) + 3 ≤ length s

pub count-start : (s : Bytes) (empty gone : ℕ) → 3 ≤ length s → Whole (run_in s) → Counted s empty gone (record { at = 3; to = length s }) 0
count-start s empty gone headed whole = record {
  ahead = ahead_start s headed whole;
  sum = let same = ap (λ r. length (bytes_of (known empty gone r))) (begins s) in omega arith;
  low = omega (arith, known_low empty gone (run_in s), length_run (drop 3 s) whole, length-drop 3 s);
}

module _ {s : Bytes} {empty gone : ℕ} {c : Cursor} {n : ℕ} (h : Counted s empty gone c n) where
  pub counted : fields_from s c ≡ done → (n ≡ length (all s empty gone)) × (n + 3 ≤ length s)
  counted e =
      let z = ap length (none-to_come s empty gone c e) in
      let same : n ≡ length (all s empty gone) = omega (arith, h.sum) in
      (same, omega (arith, h.low))

  module _ {t start len : ℕ} {next : Cursor} (m : Moved c t start len next) (e : fields_from s c ≡ item t (slice start (start + len) s) (fields_from s next)) {k : ℕ} (ek : k ≡ known_size empty gone t len) where
    turn_sum : n + k + length (to_come s empty gone next) ≡ length (all s empty gone)
    turn_sum =
        let v = slice start (start + len) s in
        let piece : length (known_field empty gone t v) ≡ k =
        length-field empty gone t v ∙ ap (known_size empty gone t) (value-length h.ahead m) ∙ sym ek in
        omega (arith, h.sum, ap length (one-to_come s empty gone c next t v e), length-append (known_field empty gone t v) (to_come s empty gone next))

    pub count_fits_lem : n + k ≤ length s
    count_fits_lem = omega (arith, turn_sum, h.low)

    pub count_turn : Counted s empty gone next (n + k)
    count_turn = record { ahead = ahead_turn h.ahead m e; sum = turn_sum; low = h.low }

-- 3. What is written

pub record Wrote (s : Bytes) (empty gone : ℕ) (out w : Bytes) (at : ℕ) (c : Cursor) (to : ℕ) : Type 0 where
  pub ahead : Ahead s c
  pub grows : Growing out w at to (all s empty gone) (to_come s empty gone c)

pub write_start : (s : Bytes) (empty gone : ℕ) (out : Bytes) (at : ℕ) → 3 ≤ length s → Whole (run_in s) → at + length (all s empty gone) ≤ length out
    → Wrote s empty gone out out at (record { at = 3; to = length s }) at
write_start s empty gone out at headed whole fits = record {
  ahead = ahead_start s headed whole;
  grows = subst (λ r. Growing out out at at (all s empty gone) (bytes_of (known empty gone r))) (sym (begins s)) (grow_start out at (all s empty gone) fits);
}

module _ {s : Bytes} {empty gone : ℕ} {out w : Bytes} {at : ℕ} {c : Cursor} {to : ℕ} (h : Wrote s empty gone out w at c to) where
  pub wrote : fields_from s c ≡ done → (to ≡ at + length (all s empty gone)) × (w ≡ put_at out at (all s empty gone))
  wrote e = grown h.grows (none-to_come s empty gone c e)

  module _ {t start len : ℕ} {next : Cursor} (m : Moved c t start len next) (e : fields_from s c ≡ item t (slice start (start + len) s) (fields_from s next)) where
    lent : take (start + len - start) (drop start s) ≡ slice start (start + len) s
    lent = lent_slice s start (start + len) (omega arith)

    next-part : to_come s empty gone c ≡ known_field empty gone t (take (start + len - start) (drop start s)) ++ to_come s empty gone next
    next-part = rw lent (one-to_come s empty gone c next t (slice start (start + len) s) e)

    pub known_fits : to + length (known_field empty gone t (take (start + len - start) (drop start s))) ≤ length w
    known_fits = part_fits h.grows (known_field empty gone t (take (start + len - start) (drop start s))) (to_come s empty gone next) next-part

    pub write_turn : {v : Bytes} {n : ℕ}
        → (n ≡ to + length (known_field empty gone t (take (start + len - start) (drop start s))))
        × (v ≡ put_at w to (known_field empty gone t (take (start + len - start) (drop start s)))) → Wrote s empty gone out v at next n
    write_turn q = record { ahead = ahead_turn h.ahead m e; grows = grow h.grows (known_field empty gone t (take (start + len - start) (drop start s))) (to_come s empty gone next) next-part q }
