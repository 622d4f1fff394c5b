-- What a turn of two runs comes to, and what holds of them after some.
use Rattle.std.specs.Prelude.{◌≡◌, Bool, true, false, ℕ, zero, suc, ◌-◌, ◌≤◌, length, take, drop}
use Rattle.model.specs.Choice.{joined}
use Rattle.model.specs.Number.{Bytes, AreBytes}
use Rattle.model.specs.Shape.{logged}
use Rattle.model.specs.Record.{Rec, record_bytes, got, read}
use Rattle.model.specs.Items.{items_from}
use Rattle.model.specs.Contents.{fresh}
use Rattle.model.specs.Image.{is_image, contents_of}
use Rattle.model.specs.Apply.{becomes, apply_at}
use Rattle.model.specs.Snapshot.{offset_size, body}
use Rattle.model.specs.Recordings.{Standing, ended, refused_by, standing, same_standing, same_snapshots, closing, parting_from, parting_of}
use Rattle.recordings.specs.declared.Stand.{Stand}
use Rattle.recordings.specs.declared.Stand.TheVariants as stand
use Rattle.recordings.specs.declared.Shared.{Shared}
use Rattle.recordings.specs.declared.Shared.TheVariants as shared
use Rattle.recordings.specs.declared.Turn.{Turn}
use Rattle.recordings.specs.declared.Turn.TheVariants as turn

-- an image, of bytes
pub record Sound (b : Bytes) : Type 0 where
  pub is : is_image b ≡ true
  pub are_bytes : AreBytes b

-- a fresh one
pub record Fresh (b : Bytes) : Type 0 where
  pub sound : Sound b
  pub held : contents_of b ≡ fresh

-- 1. One run

-- how a run that is over stands, by 0 where it has ended
abbrev pub over_by : ℕ → Standing
over_by zero = ended
over_by (suc n) = refused_by (suc n)

-- how a run stands beside an image, wherever it stands
abbrev pub Stands : Bytes → ℕ → Bytes → Standing → Type 0
Stands image k run s = (place : ℕ) → standing (length image) k (items_from logged 0 place run) (contents_of image) ≡ s

-- the record at the start of a run, of n bytes, makes `v` of an image
pub record Moved (image : Bytes) (k : ℕ) (run : Bytes) (n : ℕ) (v : Bytes) : Type 0 where
  pub value : Rec
  pub reads : read logged run ≡ got value n
  pub applies : apply_at (length image) k value (contents_of image) ≡ becomes (contents_of v)
  pub sound : Sound v
  pub long : length v ≡ length image

abbrev pub AdvancedAs : Bytes → ℕ → Bytes → Bytes → Stand → Type 0
AdvancedAs image k run v (stand.On n) = Moved image k run n v
AdvancedAs image k run v (stand.Over n) = Stands image k run (over_by n) × (v ≡ image)

-- 2. Snapshots

-- the bytes of an array from the offset's record on, up to n, are the snapshot's
pub record Shot (image out : Bytes) (n : ℕ) : Type 0 where
  pub least : offset_size ≤ n
  pub most : n ≤ length out
  pub is : take (n - offset_size) (drop offset_size out) ≡ joined record_bytes (body (contents_of image))

-- 3. Both runs

abbrev pub SharedAs : Bytes → ℕ → Bytes → Bytes → Bytes → Bytes → Shared → Type 0
SharedAs first k one other v w (shared.Moved n) = Moved first k one n v × Moved first k other n w × (w ≡ v)
SharedAs first k one other v w shared.Nothing = (v ≡ first) × (w ≡ first)

-- two runs part here, or agree, wherever they stand
abbrev pub Closes : Bytes → Bytes → ℕ → Bytes → Bytes → Bool → Type 0
Closes first second k one other t =
    (p q : ℕ) → parting_from (length first) k (items_from logged 0 p one) (contents_of first) (items_from logged 0 q other) (contents_of second) ≡
    closing t k (contents_of first) (contents_of second)

-- both go on, with the same snapshots, and their images are known to be equal or not
pub record Onward (first second : Bytes) (k : ℕ) (one other : Bytes) (v w : Bytes) (n m : ℕ) (equal : Bool) : Type 0 where
  pub one-moved : Moved first k one n v
  pub other_moved : Moved second k other m w
  pub shots : same_snapshots (contents_of first) (contents_of second) ≡ true
  pub known : equal ≡ true → w ≡ v

abbrev pub TurnAs : Bytes → Bytes → ℕ → Bytes → Bytes → Bytes → Bytes → Turn → Type 0
TurnAs first second k one other v w (turn.On n m equal) = Onward first second k one other v w n m equal
TurnAs first second k one other v w turn.Parted = Closes first second k one other false × (v ≡ first) × (w ≡ second)
TurnAs first second k one other v w turn.Agree = Closes first second k one other true × (v ≡ first) × (w ≡ second)

-- the first run goes on by n bytes, and `u` is its image then: the second one is asked, and both images are moved or neither
abbrev pub AskedAs : Bytes → Bytes → Bytes → ℕ → ℕ → Bytes → Bytes → Bytes → Turn → Type 0
AskedAs first second u k n other v w (turn.On j m equal) = (j ≡ n) × (v ≡ u) × Moved second k other m w × (equal ≡ true → w ≡ v)
AskedAs first second u k n other v w turn.Parted = (number : ℕ) × Stands second k other (over_by number) × (v ≡ first) × (w ≡ second)
AskedAs first second u k n other v w turn.Agree = ⊥

-- the first run is over: whether the second one stands alike
abbrev pub ClosedAs : Bytes → ℕ → ℕ → Bytes → Turn → Type 0
ClosedAs second k number other (turn.On n m equal) = ⊥
ClosedAs second k number other turn.Parted =
    (q : ℕ) → same_standing (over_by number) (standing (length second) k (items_from logged 0 q other) (contents_of second)) ≡ false
ClosedAs second k number other turn.Agree =
    (q : ℕ) → same_standing (over_by number) (standing (length second) k (items_from logged 0 q other) (contents_of second)) ≡ true

-- 4. All turns

-- after k records of each run, which end at `at` and at `to`
pub record Running (capacity : ℕ) (one other : Bytes) (k at to : ℕ) (first second : Bytes) (equal : Bool) : Type 0 where
  pub within : at ≤ length one
  pub inside : to ≤ length other
  pub counted : k ≤ at
  pub sound-first : Sound first
  pub sound_second : Sound second
  pub long_first : length first ≡ capacity
  pub long_second : length second ≡ capacity
  pub known : equal ≡ true → second ≡ first
  pub comes : parting_of capacity one other ≡
      parting_from capacity k (items_from logged 0 at (drop at one)) (contents_of first) (items_from logged 0 to (drop to other)) (contents_of second)
