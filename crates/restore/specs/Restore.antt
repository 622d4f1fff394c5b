-- What a run over records comes to.
use Rattle.std.specs.Prelude.{◌≡◌, true, [], ◌∷◌, ◌++◌, ℕ, ◌-◌, ◌≤◌, ◌<◌, length, take}
use Rattle.model.specs.Number.{Bytes, number, span}
use Rattle.model.specs.Run.{value}
use Rattle.model.specs.Shape.{logged, framed}
use Rattle.model.specs.Record.{Rec, got, read}
use Rattle.model.specs.Items.{items_from, items_of}
use Rattle.model.specs.Contents.{Contents, fresh}
use Rattle.model.specs.Reply.{Reply, accepted, refused}
use Rattle.model.specs.Apply.{stays, becomes, apply}
use Rattle.model.specs.Snapshot.{is_offset_rec, Replayed, stopped, replay, replay_run}
use Rattle.records.specs.Answers.{got_reply}
use Rattle.apply_work.specs.Work.{state_in}
use Rattle.apply_step.specs.Step.{Holding}
use Rattle.apply_work.specs.declared.State.{State}
use Rattle.model.specs.declared.answers.Answer.{Answer}
use Rattle.model.specs.declared.answers.Answer.TheVariants.{Used, Refused as NotRead}
use Rattle.restore.specs.declared.Begun.{Begun}
use Rattle.restore.specs.declared.Begun.TheVariants.{At, Refused as NotBegun}
use Rattle.restore.specs.declared.Next.{Next}
use Rattle.restore.specs.declared.Next.TheVariants.{Moved, Unread, Refused}
use Rattle.restore.specs.declared.Ran.{Ran}
use Rattle.restore.specs.declared.Ran.TheVariants.{Done, Unread as RanUnread, Refused as RanRefused}

-- the records of an input, from nothing
abbrev pub replayed : ℕ → Bytes → Replayed
replayed capacity input = replay_run capacity (items_of framed input)

-- the log offset that an input starts with, or a refusal of the first record
abbrev pub BegunAs : Bytes → Begun → Type 0
BegunAs input (At o n) = (r : Rec) × (read framed input ≡ got r n) × (is_offset_rec r ≡ true) × (o ≡ number (value 1 r.run))
BegunAs input (NotBegun n) = (capacity : ℕ) → replayed capacity input ≡ stopped n 0 fresh

-- the state of no records
abbrev pub fresh_at : ℕ → State
fresh_at o = record { bounds = record { mid = 0; used = 0 }; epoch = span 8 - 1; kraft = 0; offset = o }

-- a run ends at the first record of an input
abbrev pub EndsBy : ℕ → Bytes → Type 0
EndsBy n input = (capacity place : ℕ) (c : Contents) → 0 < length input → replay capacity (items_from framed 0 place input) c ≡ stopped n place c

abbrev pub InsideAs : Bytes → Answer → Type 0
InsideAs input (Used n) = accepted (n ∷ []) ≡ got_reply (read logged input)
InsideAs input (NotRead n) = EndsBy n input

-- the first record of an input, behind the log offset
abbrev pub NextIs : Bytes → State → ℕ → Bytes → Bytes → Next → Type 0
NextIs w s capacity input v (Moved t n) =
    (r : Rec) × (read logged input ≡ got r n) × (apply capacity r (state_in w s) ≡ becomes (state_in v t)) × Holding v t capacity
NextIs w s capacity input v (Unread n) = EndsBy n input × (v ≡ w)
NextIs w s capacity input v (Refused n) = (r : Rec) × (m : ℕ) × (read logged input ≡ got r m) × (apply capacity r (state_in w s) ≡ stays n)

-- the records before a place are applied, whatever bytes follow them
pub record Reached (capacity : ℕ) (input : Bytes) (at : ℕ) (w : Bytes) (s : State) : Type 0 where
  pub within : at ≤ length input
  pub holding : Holding w s capacity
  pub replays : (t : Bytes) → replayed capacity (take at input ++ t) ≡ replay capacity (items_from framed 0 at t) (state_in w s)

abbrev pub whole_contents : ℕ → Bytes → Contents
whole_contents capacity input = (replayed capacity input).contents

-- all of them are applied
abbrev pub Whole : ℕ → Bytes → Type 0
Whole capacity input = (replayed capacity input).reply ≡ accepted []

abbrev pub RanAs : ℕ → Bytes → Bytes → Ran → Type 0
RanAs capacity input w (Done s) = Holding w s capacity × (replayed capacity input ≡ record { reply = accepted []; contents = state_in w s })
RanAs capacity input w (RanUnread n at s) = Holding w s capacity × (replayed capacity input ≡ stopped n at (state_in w s))
RanAs capacity input w (RanRefused n at) =
    (at ≤ length input) × Whole capacity (take at input) × (replayed capacity input ≡ stopped n at (whole_contents capacity (take at input)))
