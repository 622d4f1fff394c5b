-- A walk that counts the entries of which a test holds: the number so far and that of the entries to come are the number of all.
use mathlib.Core.Path.{◌≡◌, sym, ap, ◌∙◌, subst}
use mathlib.Core.Bool.{Bool, true, false, cond}
use mathlib.Core.List.{List, [], ◌∷◌}
use Prim.Native.Nat.{ℕ, suc, ◌+◌, ◌-◌, ◌*◌, ◌≤◌, ◌<◌}
use native.Mathlib.Omega.{arith}
use lib.ListN.{length, take, drop}
use Rattle.model.specs.Number.{Bytes}
use Rattle.model.specs.Record.{Rec}
use Rattle.entries.specs.Entries.{records_in, Entries, size_at, record_in}
use Rattle.entries.specs.declared.Cursor.{Cursor}
use Rattle.entries.proofs.Turns.{Stands}
use Rattle.image_entries.proofs.Turns.{entry_is, next-at, past_end}

-- 1. Lists

unfoldable pub how_many : (Rec → Bool) → List Rec → ℕ
how_many test [] = 0
how_many test (r ∷ l) = cond (test r) (suc (how_many test l)) (how_many test l)

none-there : (test : Rec → Bool) (l : List Rec) → l ≡ [] → how_many test l ≡ 0
unfolding how_many
none-there test l e = rw e

-- 2. The walk. An entry has three bytes or more

pub record Counted (test : Rec → Bool) (s : Bytes) (at n : ℕ) : Type 0 where
  pub entries : Entries (drop at s)
  pub few : 3 * n ≤ at
  pub most : at ≤ length s
  pub same : n + how_many test (records_in (drop at s)) ≡ how_many test (records_in s)

pub counted_start : (test : Rec → Bool) (s : Bytes) → Entries s → Counted test s 0 0
counted_start test s e = record { entries = e; few = omega arith; most = omega arith; same = omega arith }

module _ {test : Rec → Bool} {s : Bytes} {at n : ℕ} (h : Counted test s at n) where
  pub counted-all : length s ≤ at → (n ≡ how_many test (records_in s)) × (3 * n ≤ length s)
  counted-all past = (omega (arith, h.same, none-there test (records_in (drop at s)) (past_end s at past)), omega (arith, h.few, h.most))

  module _ {start end : ℕ} {next : Cursor} (t : Stands s at start end next) where
    pub room : n < length s
    room = omega (arith, h.few, t.entry.fits)

    module _ {b : Bool} (e : b ≡ test (record_in (take (end - start) (drop start s)))) where
      split : n + cond b (suc (how_many test (records_in (drop (at + size_at s at) s)))) (how_many test (records_in (drop (at + size_at s at) s)))
          ≡ how_many test (records_in s)
      unfolding how_many
      split = rw (e, entry_is t) (ap (λ x. n + x) (sym (ap (how_many test) t.entry.list)) ∙ h.same)

      moved : (m : ℕ) → m ≤ n + 1 → m + how_many test (records_in (drop (at + size_at s at) s)) ≡ how_many test (records_in s) → Counted test s next.at m
      moved m most same =
          subst (λ x. Counted test s x m) (sym (next-at t))
          (record { entries = t.entry.rest; few = omega (arith, h.few); most = t.entry.fits; same = same })

      pub counted-one : b ≡ true → Counted test s next.at (n + 1)
      counted-one is = let p = rw is at split in moved (n + 1) (omega arith) (omega (arith, p))

      pub counted_other : b ≡ false → Counted test s next.at n
      counted_other is = moved n (omega arith) (rw is at split)
