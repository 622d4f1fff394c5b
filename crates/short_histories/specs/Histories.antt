-- What the code says of the records, of a number's history, and of where a record stands, in the model's terms.
use Rattle.std.specs.Prelude.{◌≡◌, List, ℕ, suc, ◌-◌, ◌^◌, ◌≤◌, ◌<◌, length, take, drop}
use Rattle.std.proofs.Math.Option.{none, some}
use Rattle.model.specs.Number.{Bytes}
use Rattle.model.specs.Shape.{framed}
use Rattle.model.specs.Record.{Rec}
use Rattle.model.specs.Items.{Items, items_from, items_of, records}
use Rattle.model.specs.ShortHistory.{record_limit, length_limit, positions, history_at, few_fault, bytes_at}
use Rattle.short_histories.specs.declared.Count.{Count}
use Rattle.short_histories.specs.declared.Count.TheVariants.{Records, Refused}
use Rattle.short_histories.specs.declared.Found.{Found}
use Rattle.short_histories.specs.declared.Found.TheVariants.{History, Past}

abbrev pub items_at : Bytes → ℕ → Items
items_at s at = items_from framed 0 at (drop at s)

abbrev pub records_in : Bytes → List Rec
records_in s = records (items_of framed s)

-- the records have no fault and are so many, or they have one
abbrev pub CountAs : Bytes → Count → Type 0
CountAs s (Records n) = (few_fault record_limit (items_of framed s) ≡ 0) × (n ≡ length (records_in s)) × (n ≤ record_limit)
CountAs s (Refused n) = (few_fault record_limit (items_of framed s) ≡ n) × (0 < n)

-- the history under a number, by its length and its number among those of the length
abbrev pub FoundAs : ℕ → ℕ → Found → Type 0
FoundAs n number (History len i) = (history_at n number ≡ some (positions n len i)) × (len ≤ length_limit) × (i < n ^ len)
FoundAs n number Past = history_at n number ≡ none

-- where the record at a position stands
pub record PartAs (s : Bytes) (position start end : ℕ) : Type 0 where
  pub spelt : take (end - start) (drop start s) ≡ bytes_at (records_in s) position
  pub ordered : start ≤ end
  pub within : end ≤ length s
  pub short : end - start < 65539
