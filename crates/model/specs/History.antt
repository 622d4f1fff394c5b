-- Histories and cuts: 01's section of that name, and demand 3: cuts are unseen, what a cut makes, that an image stays one, and that each
-- premise is needed. `crates/history` proves them, the last `crates/cases`.
use Rattle.std.specs.Prelude.{◌≡◌, ℕ, ◌-◌, ◌<◌, Bool, true, false, cond, ◌&&◌, not, List, [], ◌∷◌, ◌++◌, eqb, length, take}
use Rattle.std.proofs.Math.Option.{Option, none, some}
use Rattle.model.specs.Choice.{every}
use Rattle.model.specs.Number.{Bytes, AreBytes, number, span, is_negative}
use Rattle.model.specs.Order.{same_bytes}
use Rattle.model.specs.Run.{value}
use Rattle.model.specs.Kind.{kind_number}
use Rattle.model.specs.Shape.{logged}
use Rattle.model.specs.Record.{read, on_got}
use Rattle.model.specs.Key.{topic_key}
use Rattle.model.specs.Map.{get}
use Rattle.model.specs.Contents.{Entry, topic, part, plain, key, Contents}
use Rattle.model.specs.Image.{is_capacity, is_image, contents_of, image_of, open_of}
use Rattle.model.specs.Move.{partition_topic, replicas, node_count}
use Rattle.model.specs.Validate.{validate_of}
use Rattle.model.specs.Apply.{apply_of}
use Rattle.model.specs.Snapshot.{snapshot_of, restore_of, restored}
use Rattle.model.specs.Lookup.{topic_by_name, topic_by_id, partition_of, broker_of, epoch_of, offset_of, short_of, freeze_of, throttle_of}
use Rattle.model.specs.FreezeList.{freeze_list_of}
use Rattle.model.specs.View.{Query, view_of}
use Rattle.model.specs.Downgrade.{downgrade_of}
use Rattle.model.specs.Reply.{Reply, accepted, Ended}
use Rattle.model.specs.declared.Kind.TheVariants.{FeaturesEpoch}

-- 1. Steps

-- each with its own inputs and output buffer
pub data Step : Type 0 where
  -- an offset and a record's bytes, any bytes: validated, then applied where Validate says 0
  give : ℕ → Bytes → Step
  -- lookups: a name, an id, a topic and a number, a node, each with an output; a node and a kind byte
  ask_topic : Bytes → Bytes → Step
  ask_topic_id : Bytes → Bytes → Step
  ask_partition : Bytes → ℕ → Bytes → Step
  ask_broker : ℕ → Bytes → Step
  ask_epoch : Step
  ask_offset : Step
  ask_short : Step
  ask_freeze : Bytes → Bytes → Step
  -- a list of names and an output
  ask_freezes : Bytes → Bytes → Step
  -- a viewer's query, its prefixes and an output
  view : Query → Bytes → Bytes → Step
  ask_throttle : ℕ → ℕ → Step
  -- the listing for a level, and a snapshot, each with an output
  ask_downgrade : ℕ → Bytes → Step
  snap : Bytes → Step
  -- a snapshot into a buffer of its own, restored into another
  cut : Bytes → Bytes → Step

pub data Answer : Type 0 where
  -- Validate's reply and, exactly where that is 0, Apply's
  verdict : Reply → Option Reply → Answer
  said : Reply → Answer
  wrote : Ended → Answer

-- "A record step gives any bytes to Validate and, exactly where that says 0, to Apply; their numbers are its verdict."
abbrev pub admitted : Bytes → Bytes → Bool
admitted input image = eqb (validate_of image input).number 0

abbrev pub judged : ℕ → Bytes → Bytes → Answer
judged offset input image = verdict (validate_of image input) (cond (admitted input image) (some (apply_of image offset input).reply) none)

abbrev pub image_after : ℕ → Bytes → Bytes → Bytes
image_after offset input image = cond (admitted input image) (apply_of image offset input).buffer image

-- the value that comes with a number, 0 where none does
abbrev pub first_value : List ℕ → ℕ
first_value [] = 0
first_value (n ∷ ns) = n

-- the bytes that an operation said it wrote
abbrev pub written : Ended → Bytes
written e = take (first_value e.reply.values) e.buffer

-- "A cut is Snapshot into a buffer of its own, then Restore of exactly the bytes it wrote, into another buffer of the image's capacity, whatever
-- that held; the next step gets that one. Where Snapshot says 19 there is no cut and nothing changes"
unfoldable pub cut_image : Bytes → Bytes → Bytes → Bytes
cut_image own other image =
    cond (eqb (snapshot_of image own).reply.number 0) (restore_of (written (snapshot_of image own)) other).buffer image

-- what a step answers, and the image that the next step gets
unfoldable pub answer : Step → Bytes → List Answer
answer (give offset input) image = judged offset input image ∷ []
answer (ask_topic name out) image = wrote (topic_by_name image name out) ∷ []
answer (ask_topic_id id out) image = wrote (topic_by_id image id out) ∷ []
answer (ask_partition name n out) image = wrote (partition_of image name n out) ∷ []
answer (ask_broker node out) image = wrote (broker_of image node out) ∷ []
answer ask_epoch image = said (epoch_of image) ∷ []
answer ask_offset image = said (offset_of image) ∷ []
answer ask_short image = said (short_of image) ∷ []
answer (ask_freeze name out) image = wrote (freeze_of image name out) ∷ []
answer (ask_freezes list out) image = wrote (freeze_list_of image list out) ∷ []
answer (view q list out) image = wrote (view_of q image list out) ∷ []
answer (ask_throttle node which) image = said (throttle_of image node which) ∷ []
answer (ask_downgrade level out) image = wrote (downgrade_of image level out) ∷ []
answer (snap out) image = wrote (snapshot_of image out) ∷ []
answer (cut own other) image = []

unfoldable pub after : Step → Bytes → Bytes
after (give offset input) image = image_after offset input image
after (cut own other) image = cut_image own other image
after (ask_topic name out) image = image
after (ask_topic_id id out) image = image
after (ask_partition name n out) image = image
after (ask_broker node out) image = image
after ask_epoch image = image
after ask_offset image = image
after ask_short image = image
after (ask_freeze name out) image = image
after (ask_freezes list out) image = image
after (view q list out) image = image
after (ask_throttle node which) image = image
after (ask_downgrade level out) image = image
after (snap out) image = image

-- of the offset and the record that a step gives, and `a` where it gives none
unfoldable pub on_given : {A : Type 0} → A → (ℕ → Bytes → A) → Step → A
on_given a f (give offset input) = f offset input
on_given a f (cut own other) = a
on_given a f (ask_topic name out) = a
on_given a f (ask_topic_id id out) = a
on_given a f (ask_partition name n out) = a
on_given a f (ask_broker node out) = a
on_given a f ask_epoch = a
on_given a f ask_offset = a
on_given a f ask_short = a
on_given a f (ask_freeze name out) = a
on_given a f (ask_freezes list out) = a
on_given a f (view q list out) = a
on_given a f (ask_throttle node which) = a
on_given a f (ask_downgrade level out) = a
on_given a f (snap out) = a

-- 2. Histories

unfoldable pub run : List Step → Bytes → List Answer
run [] image = []
run (s ∷ steps) image = answer s image ++ run steps (after s image)

-- the image that a history reaches
unfoldable pub reached : List Step → Bytes → Bytes
reached [] image = image
reached (s ∷ steps) image = reached steps (after s image)

unfoldable pub is_cut : Step → Bool
is_cut (cut own other) = true
is_cut (give offset input) = false
is_cut (ask_topic name out) = false
is_cut (ask_topic_id id out) = false
is_cut (ask_partition name n out) = false
is_cut (ask_broker node out) = false
is_cut ask_epoch = false
is_cut ask_offset = false
is_cut ask_short = false
is_cut (ask_freeze name out) = false
is_cut (ask_freezes list out) = false
is_cut (view q list out) = false
is_cut (ask_throttle node which) = false
is_cut (ask_downgrade level out) = false
is_cut (snap out) = false

-- "Its uncut history is the same list without the cuts."
unfoldable pub uncut : List Step → List Step
uncut [] = []
uncut (s ∷ steps) = cond (is_cut s) (uncut steps) (s ∷ uncut steps)

-- 3. The premises

-- "no stored topics share an id"
unfoldable pub has_id : Bytes → Entry → Bool
has_id i (topic name id count factor named) = same_bytes id i
has_id i (part r) = false
has_id i (plain r) = false

unfoldable pub ids_apart : List Entry → Bool
ids_apart [] = true
ids_apart (topic name id count factor named ∷ l) = every (λ e. not (has_id id e)) l && ids_apart l
ids_apart (part r ∷ l) = ids_apart l
ids_apart (plain r ∷ l) = ids_apart l

-- "every partition has its topic's replication factor of replicas"
unfoldable pub factor_is : ℕ → Option Entry → Bool
factor_is n none = true
factor_is n (some (topic name id count factor named)) = eqb factor n
factor_is n (some (part r)) = true
factor_is n (some (plain r)) = true

unfoldable pub factor_holds : List Entry → Entry → Bool
factor_holds l (topic name id count factor named) = true
factor_holds l (part r) = factor_is (node_count (replicas r)) (get key (topic_key (partition_topic r)) l)
factor_holds l (plain r) = true

-- both, of an image's contents
unfoldable pub premises : Contents → Bool
premises c = ids_apart c.real && every (factor_holds c.real) c.real

-- "no epoch record is negative": no record of kind 13 that a step gives
unfoldable pub epoch_mild : Bytes → Bool
epoch_mild input =
    on_got (read logged input) (λ n. true) λ r n. cond (eqb (kind_number r.kind) (kind_number FeaturesEpoch)) (not (is_negative 8 (number (value 1 r.run)))) true

-- "room never runs out": no Apply says 18
unfoldable pub room_lasts : ℕ → Bytes → Bytes → Bool
room_lasts offset input image = not (admitted input image && eqb (apply_of image offset input).reply.number 18)

-- the four premises apart, in the order in which the demand has them
pub data Premise : Type 0 where
  ids : Premise
  factors : Premise
  epochs : Premise
  room : Premise

-- of a step, and of the image that it gets
unfoldable pub meets_at : Premise → Step → Bytes → Bool
meets_at ids s image = ids_apart (contents_of image).real
meets_at factors s image = every (factor_holds (contents_of image).real) (contents_of image).real
meets_at epochs s image = on_given true (λ offset input. epoch_mild input) s
meets_at room s image = on_given true (λ offset input. room_lasts offset input image) s

-- "at every step"
unfoldable pub meets : Premise → List Step → Bytes → Bool
meets p [] image = true
meets p (s ∷ steps) image = meets_at p s image && meets p steps (after s image)

-- all four
unfoldable pub holds : List Step → Bytes → Bool
holds steps image = meets ids steps image && meets factors steps image && meets epochs steps image && meets room steps image

-- 4. What is given: records that are bytes, offsets of eight bytes, and restore buffers of the image's capacity

abbrev pub StepGiven : ℕ → Step → Type 0
StepGiven capacity (give offset input) = AreBytes input × (offset < span 8)
StepGiven capacity (cut own other) = length other ≡ capacity
StepGiven capacity (ask_topic name out) = Unit {0}
StepGiven capacity (ask_topic_id id out) = Unit {0}
StepGiven capacity (ask_partition name n out) = Unit {0}
StepGiven capacity (ask_broker node out) = Unit {0}
StepGiven capacity ask_epoch = Unit {0}
StepGiven capacity ask_offset = Unit {0}
StepGiven capacity ask_short = Unit {0}
StepGiven capacity (ask_freeze name out) = Unit {0}
StepGiven capacity (ask_freezes list out) = Unit {0}
StepGiven capacity (view q list out) = Unit {0}
StepGiven capacity (ask_throttle node which) = Unit {0}
StepGiven capacity (ask_downgrade level out) = Unit {0}
StepGiven capacity (snap out) = Unit {0}

abbrev pub Given : ℕ → List Step → Type 0
Given capacity [] = Unit {0}
Given capacity (s ∷ steps) = StepGiven capacity s × Given capacity steps

-- 5. Demand 3

-- "For every history, refused steps included, wherever its cuts fall and however many there are, every other step answers exactly as in the
-- uncut history"; 02, 5: "A cut history also agrees on the offset", that of the image behind the last step too
abbrev pub CutsUnseen : Type 0
CutsUnseen =
    (buffer : Bytes) → is_capacity (length buffer) ≡ true → (steps : List Step) → Given (length buffer) steps →
    holds (uncut steps) (open_of buffer).buffer ≡ true →
    (run steps (open_of buffer).buffer ≡ run (uncut steps) (open_of buffer).buffer) ×
    (offset_of (reached steps (open_of buffer).buffer) ≡ offset_of (reached (uncut steps) (open_of buffer).buffer))

-- 02, 5: "The image keeps the log offset (i64) of the last record applied, with effect or without (M4), -1 when fresh": that of the last step to
-- which Validate and Apply say 0, wherever cuts fall, with no premise
unfoldable pub offset_after : ℕ → Step → Bytes → ℕ
offset_after before s image =
    on_given before (λ offset input. cond (admitted input image && eqb (apply_of image offset input).reply.number 0) offset before) s

unfoldable pub last_applied : ℕ → List Step → Bytes → ℕ
last_applied before [] image = before
last_applied before (s ∷ steps) image = last_applied (offset_after before s image) steps (after s image)

abbrev pub OffsetOfLast : Type 0
OffsetOfLast =
    (buffer : Bytes) → is_capacity (length buffer) ≡ true → (steps : List Step) → Given (length buffer) steps →
    let start = (open_of buffer).buffer in
    offset_of (reached steps start) ≡ accepted (last_applied (span 8 - 1) steps start ∷ [])

-- "Without those premises, whatever image is cut becomes exactly the one that 01 names": of any image
abbrev pub CutBecomesRestored : Type 0
CutBecomesRestored =
    (image own other : Bytes) → AreBytes image → is_image image ≡ true → length other ≡ length image →
    cond (eqb (snapshot_of image own).reply.number 0)
    (restore_of (written (snapshot_of image own)) other ≡ record { reply = accepted []; buffer = image_of (length image) (restored (contents_of image)) })
    (cut_image own other image ≡ image)

-- and of any image that a history reaches: Restore gives 0 there, and the next step gets that image
abbrev pub CutAnywhere : Type 0
CutAnywhere =
    (buffer : Bytes) → is_capacity (length buffer) ≡ true → (steps : List Step) → Given (length buffer) steps →
    (own other : Bytes) → length other ≡ length buffer →
    let image = reached steps (open_of buffer).buffer in
    eqb (snapshot_of image own).reply.number 0 ≡ true →
    ((restore_of (written (snapshot_of image own)) other).reply ≡ accepted []) ×
    (reached (steps ++ (cut own other ∷ [])) (open_of buffer).buffer ≡ image_of (length buffer) (restored (contents_of image)))

-- what every step gets is an image, by the exact test and with no premise
abbrev pub ReachedIsImage : Type 0
ReachedIsImage =
    (buffer : Bytes) → is_capacity (length buffer) ≡ true → (steps : List Step) → Given (length buffer) steps →
    is_image (reached steps (open_of buffer).buffer) ≡ true

-- and so is what Restore leaves, whatever it was given and whether or not it refused a record of it
abbrev pub RestoreLeavesImage : Type 0
RestoreLeavesImage =
    (input buffer : Bytes) → AreBytes input → is_capacity (length buffer) ≡ true → is_image (restore_of input buffer).buffer ≡ true

-- A premise is needed: of some history all others hold, and yet its cuts are seen.
pub record PremiseNeeded (p : Premise) : Type 0 where
  pub buffer : Bytes
  pub steps : List Step
  pub capacity : is_capacity (length buffer) ≡ true
  pub given : Given (length buffer) steps
  pub others : (q : Premise) → (q ≡ p → ⊥) → meets q (uncut steps) (open_of buffer).buffer ≡ true
  pub seen : run steps (open_of buffer).buffer ≡ run (uncut steps) (open_of buffer).buffer → ⊥
