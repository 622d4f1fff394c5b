-- A walk that asks a test of every entry: the answer for the rest is the answer for all.
use mathlib.Core.Path.{◌≡◌, refl, sym, ap, ◌∙◌, subst}
use mathlib.Core.Bool.{Bool, true, false, ◌&&◌}
use mathlib.Core.List.{List, []}
use Prim.Native.Nat.{ℕ, ◌+◌, ◌-◌, ◌≤◌}
use lib.ListN.{length, take, drop}
use Rattle.model.specs.Choice.{every}
use Rattle.model.specs.Number.{Bytes}
use Rattle.model.specs.Record.{Rec}
use Rattle.entries.specs.Entries.{records_in, Entries, size_at, record_in}
use Rattle.entries.specs.declared.Cursor.{Cursor}
use Rattle.entries.proofs.Turns.{Stands}
use Rattle.image_entries.proofs.Turns.{entry_is, next-at, past_end}

pub record Asked (test : Rec → Bool) (s : Bytes) (at : ℕ) : Type 0 where
  pub entries : Entries (drop at s)
  pub same : every test (records_in (drop at s)) ≡ every test (records_in s)

pub asked_start : (test : Rec → Bool) (s : Bytes) → Entries s → Asked test s 0
asked_start test s e = record { entries = e; same = refl }

every-none : (test : Rec → Bool) (l : List Rec) → l ≡ [] → true ≡ every test l
every-none test l e = rw e

module _ {test : Rec → Bool} {s : Bytes} {at : ℕ} (h : Asked test s at) where
  pub asked_all : length s ≤ at → true ≡ every test (records_in s)
  asked_all past = every-none test (records_in (drop at s)) (past_end s at past) ∙ h.same

  module _ {start end : ℕ} {next : Cursor} (t : Stands s at start end next) {b : Bool} (e : b ≡ test (record_in (take (end - start) (drop start s)))) where
    split : b && every test (records_in (drop (at + size_at s at) s)) ≡ every test (records_in s)
    split = rw (e, entry_is t) (sym (ap (every test) t.entry.list) ∙ h.same)

    pub passed : b ≡ true → Asked test s next.at
    passed pass = subst (λ x. Asked test s x) (sym (next-at t)) (record { entries = t.entry.rest; same = rw pass at split })

    pub failed : b ≡ false → false ≡ every test (records_in s)
    failed fail = rw fail at split
