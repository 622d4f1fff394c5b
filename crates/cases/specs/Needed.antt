-- Each premise of the theorem is needed: one table of four short histories. Of each the other three premises hold, and yet its last step
-- answers otherwise than in the uncut history. The table computes.
use Rattle.std.specs.Prelude.{◌≡◌, refl, Bool, true, false, ◌||◌, List, [], ◌∷◌, ◌++◌, ℕ, zero, suc, ◌-◌, ◌<◌, T, ltb, eqb, length, replicate}
use Rattle.std.proofs.Common.{sym, ◌∙◌, ap, ltb→lt, eqb-true}
use Rattle.std.proofs.Math.Facts.{and_yes}
use Rattle.std.proofs.lemmas.Bool.{eqb-false}
use Rattle.model.specs.Number.{Bytes, AreBytes, number, bytes, span}
use Rattle.model.specs.Number as Number
use Rattle.model.specs.Choice as Choice
use Rattle.model.specs.Choice.{every, given}
use Rattle.model.specs.Text as Text
use Rattle.model.specs.Run as Run
use Rattle.model.specs.Order as Order
use Rattle.model.specs.Kind as Kind
use Rattle.model.specs.Nodes as Nodes
use Rattle.model.specs.Shape as Shape
use Rattle.model.specs.Reply as Reply
use Rattle.model.specs.Record as Record
use Rattle.model.specs.Key as Key
use Rattle.model.specs.Map as Map
use Rattle.model.specs.Contents as Contents
use Rattle.model.specs.Items as Items
use Rattle.model.specs.Image as Image
use Rattle.model.specs.Image.{is_capacity}
use Rattle.model.specs.Move as Move
use Rattle.model.specs.Validate as Validate
use Rattle.model.specs.Apply as Apply
use Rattle.model.specs.Snapshot as Snapshot
use Rattle.model.specs.Lookup as Lookup
use Rattle.model.specs.History as History
use Rattle.model.specs.History.{Step, give, ask_topic, ask_topic_id, ask_epoch, cut, Answer, verdict, said, wrote, first_value, run, uncut, Given}
use Rattle.model.specs.History.{Premise, ids, factors, epochs, room, meets, PremiseNeeded}
use Rattle.cases.specs.Inputs.{p, r, level, topic_named, partition, unset, epoch_is, lent, opened, output, field_of}

-- 1. What a history shows

-- a number in the last answer: Apply's, the value of a lookup, or a field of the record that it wrote
unfoldable returned : ℕ → List Answer → ℕ
returned tag [] = 0
returned tag (a ∷ b ∷ l) = returned tag (b ∷ l)
returned tag (verdict v a ∷ []) = given a 0 (λ x. x.number)
returned tag (said x ∷ []) = first_value x.values
returned tag (wrote e ∷ []) = number (field_of tag e)

-- a history from a fresh image, and what it shows at the end, with its cuts and without them
record Example : Type 0 where
  capacity : ℕ
  steps : List Step
  field : ℕ
  with_cuts : ℕ
  without : ℕ

-- 2. The table

-- a restart at a capacity
abbrev restart : ℕ → Step
restart capacity = cut output (replicate capacity 9)

-- one replica, and two
abbrev one : Bytes
one = bytes 8 1

abbrev two : Bytes
two = bytes 8 1 ++ bytes 8 2

abbrev table : Premise → Example
-- two topics of one id: the id names "p", which was given last, and after a restart "r", the greater name
table ids = record {
  capacity = 300;
  steps = give 0 (topic_named r 0) ∷ give 1 (topic_named p 0) ∷ restart 300 ∷ ask_topic_id (bytes 16 5) output ∷ [];
  field = 1;
  with_cuts = 0x72;
  without = 0x70;
}
-- partition 1 with one replica, then partition 0 with two: the factor is that of the last given, 2, and after a restart the highest one's, 1
table factors = record {
  capacity = 400;
  steps =
      give 0 (topic_named p 0) ∷ give 1 (partition p 1 one []) ∷ give 2 (partition p 0 two []) ∷ restart 400 ∷ ask_topic p output ∷ [];
  field = 4;
  with_cuts = 1;
  without = 2;
}
-- the epoch -5: after a restart it is the number of levels minus 1, which is -1
table epochs = record {
  capacity = 200;
  steps = give 0 (epoch_is (span 8 - 5)) ∷ restart 200 ∷ ask_epoch ∷ [];
  field = 0;
  with_cuts = span 8 - 1;
  without = span 8 - 5;
}
-- an empty group of 17 bytes, which a restart drops: only then is there room for 12 bytes more
table room = record {
  capacity = 166;
  steps = give 0 (unset 1) ∷ restart 166 ∷ give 1 (level 1) ∷ [];
  field = 0;
  with_cuts = 0;
  without = 18;
}

-- 3. What of it computes

-- a number that tells the premises apart
abbrev place : Premise → ℕ
place ids = 0
place factors = 1
place epochs = 2
place room = 3

record Computes (p : Premise) (e : Example) : Type 0 where
  capacity : is_capacity (length (lent e.capacity)) ≡ true
  given : Given (length (lent e.capacity)) e.steps
  others : (q : Premise) → eqb (place q) (place p) || meets q (uncut e.steps) (opened e.capacity) ≡ true
  cut_shows : returned e.field (run e.steps (opened e.capacity)) ≡ e.with_cuts
  uncut-shows : returned e.field (run (uncut e.steps) (opened e.capacity)) ≡ e.without
  differ : eqb e.with_cuts e.without ≡ false

each : (test : Premise → Bool) → test ids ≡ true → test factors ≡ true → test epochs ≡ true → test room ≡ true
    → (q : Premise) → test q ≡ true
each test i f e r ids = i
each test i f e r factors = f
each test i f e r epochs = e
each test i f e r room = r

are_bytes_lem : (s : Bytes) → T (every (λ x. ltb x 256) s) → AreBytes s
are_bytes_lem [] h = tt
are_bytes_lem (x ∷ s) h = let b = and_yes (ltb x 256) (every (λ y. ltb y 256) s) h in (ltb→lt x 256 b.0, are_bytes_lem s b.1)

-- what a record step is given: bytes, and an offset of eight bytes
record-given : (s : Bytes) (n : ℕ) → T (every (λ x. ltb x 256) s) → T (ltb n (span 8)) → AreBytes s × (n < span 8)
record-given s n h wide = (are_bytes_lem s h, ltb→lt n (span 8) wide)

computes : (p : Premise) → Computes p (table p)
unfolding returned Number.is_offset Text.well_formed Text.following Text.text_after Run.parse Run.bytes_of Run.field Run.drop_field Run.set_field
    Order.compare_bytes Order.compare_keys Order.same_bytes Kind.kind_of Kind.kind_number Nodes.nodes_from Nodes.is_among Nodes.no_repeats Shape.rows_of Shape.any_required Shape.may_follow
    Shape.leaf_fault Shape.run_fault Shape.value_fault Shape.shape_of Reply.emit_bytes Record.record_bytes Record.read Key.rank Key.subject
    Key.key_of Key.key_rank Key.key_name Map.put Map.get Map.remove Map.any Map.count Map.ascending Contents.returned Contents.kept
    Contents.key Contents.group_of Contents.of_topic Contents.partitions Contents.size Choice.total Contents.weight Contents.is_group
    Contents.storable_entry Contents.names_id Contents.named_apart Contents.sound Items.items_from Items.records Items.is_whole
    Image.is_capacity Image.mark Image.header Image.entry_bytes Image.image_of Image.entry_of Image.flag_reads Image.real_of Image.empties_of
    Image.contents_of Image.header_ok Image.entries_ok Image.is_image Image.open_of Move.clear_named Move.clear_old_named Move.count_of Move.count_partition
    Move.on_real Move.on_empties Move.on_fixed Move.move Move.moves Move.plan Move.moved Move.overflows Validate.lawful_name Validate.topic_exists Validate.alone
    Validate.against Validate.judge Validate.validate_of Apply.apply Apply.apply_at Apply.apply_of Snapshot.emit Snapshot.epoch_records
    Snapshot.kraft_records Snapshot.body Snapshot.snapshot Snapshot.snapshot_of Snapshot.replay Snapshot.replay_run Snapshot.restore_of Lookup.topic_by_name Lookup.named_by
    Lookup.topic_by_id Lookup.epoch_of History.run History.is_cut History.uncut History.answer History.after History.cut_image History.has_id
    History.ids_apart History.factor_holds History.epoch_mild History.room_lasts History.on_given History.meets_at History.meets
computes ids = record {
  capacity = refl;
  given = (record-given (topic_named r 0) 0 tt tt, (record-given (topic_named p 0) 1 tt tt, (refl, (tt, tt))));
  others = each _ refl refl refl refl;
  cut_shows = refl;
  uncut-shows = refl;
  differ = refl;
}
computes factors = record {
  capacity = refl;
  given = (record-given (topic_named p 0) 0 tt tt, (record-given (partition p 1 one []) 1 tt tt, (record-given (partition p 0 two []) 2 tt tt, (refl, (tt, tt)))));
  others = each _ refl refl refl refl;
  cut_shows = refl;
  uncut-shows = refl;
  differ = refl;
}
computes epochs = record {
  capacity = refl;
  given = (record-given (epoch_is (span 8 - 5)) 0 tt tt, (refl, (tt, tt)));
  others = each _ refl refl refl refl;
  cut_shows = refl;
  uncut-shows = refl;
  differ = refl;
}
computes room = record {
  capacity = refl;
  given = (record-given (unset 1) 0 tt tt, (refl, (record-given (level 1) 1 tt tt, tt)));
  others = each _ refl refl refl refl;
  cut_shows = refl;
  uncut-shows = refl;
  differ = refl;
}

-- 4. The theorem

-- a test of each premise but one
others_meet : (p : Premise) (test : Premise → Bool) → ((q : Premise) → eqb (place q) (place p) || test q ≡ true)
    → (q : Premise) → (q ≡ p → ⊥) → test q ≡ true
others_meet p test h q apart = go (eqb (place q) (place p)) refl (h q)
  where
    at : ℕ → Premise
    at zero = ids
    at (suc zero) = factors
    at (suc (suc zero)) = epochs
    at (suc (suc (suc n))) = room

    same : (x : Premise) → at (place x) ≡ x
    same ids = refl
    same factors = refl
    same epochs = refl
    same room = refl

    go : (b : Bool) → eqb (place q) (place p) ≡ b → b || test q ≡ true → test q ≡ true
    go true e x = absurd (apart (sym (same q) ∙ ap at (eqb-true (place q) (place p) e) ∙ same p))
    go false e x = x

pub premises_needed : (p : Premise) → PremiseNeeded p
premises_needed p =
    let e = table p in
    let c = computes p in
    record {
      buffer = lent e.capacity;
      steps = e.steps;
      capacity = c.capacity;
      given = c.given;
      others = others_meet p (λ q. meets q (uncut e.steps) (opened e.capacity)) c.others;
      seen = λ same. eqb-false e.with_cuts e.without c.differ (sym c.cut_shows ∙ ap (returned e.field) same ∙ c.uncut-shows);
    }
