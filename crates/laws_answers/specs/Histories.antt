-- The value of a short history's answer, the bytes written, is below 2^32.
use Rattle.std.specs.Prelude.{◌≡◌, refl, List, [], ◌∷◌, ℕ, zero, suc, ◌+◌, ◌-◌, ◌*◌, ◌≤◌, ◌<◌, length}
use Rattle.std.proofs.Math.Option.{Option, none, some}
use Rattle.std.proofs.Common.{arith, length-append}
use Rattle.model.specs.Choice.{given}
use Rattle.model.specs.Number.{Bytes}
use Rattle.model.specs.Shape.{framed}
use Rattle.model.specs.Reply.{unchanged, emit_bytes}
use Rattle.model.specs.Record.{Rec, Got, bad, got, read, on_got}
use Rattle.model.specs.Items as Items
use Rattle.model.specs.Items.{items_from, items_of, records}
use Rattle.model.specs.ShortHistory.{record_limit, history_at, few_fault, bytes_at, history_bytes, numbered, faultless, history_of}
use Rattle.laws_records.specs.Records.{reads}
use Rattle.laws_short.specs.Numbers.{only_histories}
use Rattle.laws_answers.specs.Records.{longest_record, record-short}
use Rattle.laws_answers.specs.Values.{Below, none_below, emit-below}

-- a record of an input is no longer than a record
record-below : (s : Bytes) (skip place p : ℕ) → length (bytes_at (records (items_from framed skip place s)) p) ≤ longest_record
unfolding items_from records
record-below [] skip place p = omega arith
record-below (b ∷ s) (suc skip) place p = record-below s skip (place + 1) p
record-below (b ∷ s) zero place p = go (read framed (b ∷ s)) refl p (λ skip q. record-below s skip (place + 1) q)
  where
    go : (g : Got) → read framed (b ∷ s) ≡ g → (q : ℕ)
        → ((skip m : ℕ) → length (bytes_at (records (items_from framed skip (place + 1) s)) m) ≤ longest_record)
        → length (bytes_at (records (on_got g (λ n. Items.bad n place) (λ r used. Items.item place r (items_from framed (used - 1) (place + 1) s)))) q) ≤ longest_record
    go (bad n) e q f = omega arith
    go (got r used) e zero f = record-short framed r (reads framed (b ∷ s) r used e).passes
    go (got r used) e (suc q) f = f (used - 1) q

history_size : (rs : List Rec) → ((p : ℕ) → length (bytes_at rs p) ≤ longest_record) → (ps : List ℕ) → length (history_bytes rs ps) ≤ longest_record * length ps
history_size rs h [] = omega arith
history_size rs h (p ∷ ps) = omega (arith, length-append (bytes_at rs p) (history_bytes rs ps), h p, history_size rs h ps)

numbered_below : (rs : List Rec) → ((p : ℕ) → length (bytes_at rs p) ≤ longest_record) → (number : ℕ) (out : Bytes) → Below (numbered rs number out).reply
numbered_below [] h number out = none_below 5
numbered_below (r ∷ rs) h number out = go (history_at (length (r ∷ rs)) number) refl
  where
    go : (o : Option (List ℕ)) → history_at (length (r ∷ rs)) number ≡ o
        → Below (given o (unchanged 26 out) (λ ps. emit_bytes (history_bytes (r ∷ rs) ps) out)).reply
    go none e = none_below 26
    go (some ps) e =
        emit-below (history_bytes (r ∷ rs) ps) out
        (omega (arith, history_size (r ∷ rs) h ps, (only_histories (length (r ∷ rs)) (omega arith) number ps e).0))

pub history_below : (input : Bytes) (number : ℕ) (out : Bytes) → Below (history_of input number out).reply
unfolding history_of
history_below input number out = go (few_fault record_limit (items_of framed input))
  where
    go : (n : ℕ) → Below (faultless n (numbered (records (items_of framed input)) number out) out).reply
    go zero = numbered_below (records (items_of framed input)) (record-below input 0 0) number out
    go (suc n) = none_below (suc n)
