-- What the code's answers say: 01's number, and the values that come with it. 01: "the promises use a definition that gives this paper's number
-- and values for each case of the enum".
use Rattle.std.specs.Prelude.{[], ◌∷◌, ℕ}
use Rattle.model.specs.Reply.{Reply, accepted, refused}
use Rattle.model.specs.declared.answers.Answer.{Answer}
use Rattle.model.specs.declared.answers.Answer.TheVariants.{Used, Refused}
use Rattle.model.specs.declared.answers.Value.{Value}
use Rattle.model.specs.declared.answers.Value.TheVariants.{Is, Refused as NoValue}
use Rattle.model.specs.declared.answers.Rated.{Rated}
use Rattle.model.specs.declared.answers.Rated.TheVariants.{Rate, None, Refused as NoRate}
use Rattle.model.specs.declared.answers.Restored.{Restored}
use Rattle.model.specs.declared.answers.Restored.TheVariants.{Done, Refused as NotDone, Stopped}
use Rattle.model.specs.declared.answers.RunAnswer.{RunAnswer}
use Rattle.model.specs.declared.answers.RunAnswer.TheVariants.{Written, Refused as NotWritten, Stopped as NotRead}
use Rattle.model.specs.declared.answers.Separated.{Separated}
use Rattle.model.specs.declared.answers.Separated.TheVariants.{Written as Both, Refused as Neither, Stopped as NotSeparated}
use Rattle.model.specs.declared.answers.Compared.{Compared}
use Rattle.model.specs.declared.answers.Compared.TheVariants.{Parted, Agree, Refused as NotCompared}
use Rattle.model.specs.declared.answers.Counted.{Counted}
use Rattle.model.specs.declared.answers.Counted.TheVariants.{Written as WithCount, Refused as NoCount}

-- Open, Validate, Apply: a number alone, 0 where it is accepted
abbrev pub number_reply : ℕ → Reply
number_reply n = record { number = n; values = [] }

-- Read, Write, Snapshot, the downgrade, the lookups that write: the bytes used or written
abbrev pub replied : Answer → Reply
replied (Used n) = accepted (n ∷ [])
replied (Refused n) = refused n

-- the lookups of a number
abbrev pub valued : Value → Reply
valued (Is n) = accepted (n ∷ [])
valued (NoValue n) = refused n

-- the throttle: a rate, which none is not
abbrev pub rating : Rated → Reply
rating (Rate n) = accepted (n ∷ [])
rating None = accepted []
rating (NoRate n) = refused n

-- Restore: "A record's refusal adds that record's first byte's place"
abbrev pub restore_reply : Restored → Reply
restore_reply Done = accepted []
restore_reply (NotDone n) = refused n
restore_reply (Stopped n at) = record { number = n; values = at ∷ [] }

-- a run of records: the bytes written, or a record's refusal "with the place as in Restore"; then the same with an offset beside the bytes
abbrev pub run_reply : RunAnswer → Reply
run_reply (Written n) = accepted (n ∷ [])
run_reply (NotWritten n) = refused n
run_reply (NotRead n at) = record { number = n; values = at ∷ [] }

abbrev pub separate_reply : Separated → Reply
separate_reply (Both n offset) = accepted (n ∷ offset ∷ [])
separate_reply (Neither n) = refused n
separate_reply (NotSeparated n at) = record { number = n; values = at ∷ [] }

-- two recordings: 1 where they part and 0 where they agree, then the count
abbrev pub compared_reply : Compared → Reply
compared_reply (Parted k) = accepted (1 ∷ k ∷ [])
compared_reply (Agree k) = accepted (0 ∷ k ∷ [])
compared_reply (NotCompared n) = refused n

-- the freezes of a list: the bytes written, then the freezes read
abbrev pub count_reply : Counted → Reply
count_reply (WithCount n read) = accepted (n ∷ read ∷ [])
count_reply (NoCount n) = refused n
