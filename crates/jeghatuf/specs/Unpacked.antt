-- What an entry point returns can be taken apart again: its upper half is the definition's number, and its lower half the value that came with
-- it, or how many values did. One line for each entry point but `jeghatuf_is_image` and `jeghatuf_field`, whose answers are 1 or 0. Where a line
-- asks that the image is bytes, a slice of `u8` is; it need be no image.
use Rattle.std.specs.Prelude.{List, ℕ}
use Rattle.std.proofs.Math.Option.{Option, none, some}
use Rattle.std.proofs.Common.{arith}
use Rattle.model.specs.Choice.{given}
use Rattle.model.specs.Number.{Bytes, AreBytes}
use Rattle.model.specs.Kind.{kind_of}
use Rattle.model.specs.Reply.{unchanged}
use Rattle.model.specs.Record.{read_of, write_of}
use Rattle.model.specs.Image.{open_of}
use Rattle.model.specs.Validate.{validate_of}
use Rattle.model.specs.Apply.{apply_of}
use Rattle.model.specs.Snapshot.{snapshot_of, restore_of}
use Rattle.model.specs.Convert.{with_offset_of, without_offset_of}
use Rattle.model.specs.Lookup.{topic_by_name, topic_by_id, partition_of, broker_of, epoch_of, offset_of, short_of, freeze_of, throttle_of}
use Rattle.model.specs.FreezeList.{freeze_list_of}
use Rattle.model.specs.LogFreeze.{log_freeze_of}
use Rattle.model.specs.View.{view_snapshot_of, view_topic_of, view_partition_of, view_freeze_of}
use Rattle.model.specs.Recordings.{compare_of}
use Rattle.model.specs.Downgrade.{downgrade_of}
use Rattle.model.specs.ShortHistory.{history_of}
use Rattle.model.specs.Kafka.{read_kafka_of, write_kafka_of}
use Rattle.model.specs.declared.Kind.{Kind}
use Rattle.laws_answers.specs.Values.{Below, none_below, read_below, write_below, open_below, validate_below, apply-below, topic_below, topic_id_below}
use Rattle.laws_answers.specs.Values.{partition-below, broker_below, short-below, freeze-below, throttle_once, snapshot-below, downgrade-below}
use Rattle.laws_answers.specs.Jobs.{freezes_below}
use Rattle.laws_answers.specs.Views.{view_snapshot-below, view_topic_below, view_partition-below, view_freeze-below}
use Rattle.laws_answers.specs.Comparisons.{compare-below}
use Rattle.laws_answers.specs.Histories.{history_below}
use Rattle.laws_answers.specs.Kafka.{kafka_read-below, kafka_write_below}
use Rattle.packing.specs.Undone.{PackedBack, CountedBack, AloneBack, packed_undone, counted_undone, alone_undone}
use Rattle.jeghatuf.specs.Write.{write_of_number}

pub record Unpacked : Type 0 where
  -- a value, 0 where none comes
  pub jeghatuf_read : (input : Bytes) → PackedBack (read_of input)
  pub jeghatuf_write : (kind : ℕ) (tags : Bytes) (lengths : List ℕ) (values out : Bytes) → PackedBack (write_of_number kind tags lengths values out).reply
  pub jeghatuf_open : (buffer : Bytes) → PackedBack (open_of buffer).reply
  pub jeghatuf_validate : (image input : Bytes) → PackedBack (validate_of image input)
  pub jeghatuf_apply : (image : Bytes) (offset : ℕ) (input : Bytes) → PackedBack (apply_of image offset input).reply
  pub jeghatuf_topic : (image name out : Bytes) → AreBytes image → PackedBack (topic_by_name image name out).reply
  pub jeghatuf_topic_by_id : (image id out : Bytes) → AreBytes image → PackedBack (topic_by_id image id out).reply
  pub jeghatuf_partition : (image name : Bytes) (number : ℕ) (out : Bytes) → AreBytes image → PackedBack (partition_of image name number out).reply
  pub jeghatuf_broker : (image : Bytes) (node : ℕ) (out : Bytes) → AreBytes image → PackedBack (broker_of image node out).reply
  pub jeghatuf_short_count : (image : Bytes) → AreBytes image → PackedBack (short_of image)
  pub jeghatuf_freeze : (image name out : Bytes) → AreBytes image → PackedBack (freeze_of image name out).reply
  pub jeghatuf_freezes : (image list out : Bytes) → PackedBack (freeze_list_of image list out).reply
  pub jeghatuf_compare : (first second one other : Bytes) → PackedBack (compare_of first second one other).reply
  pub jeghatuf_snapshot : (image out : Bytes) → AreBytes image → PackedBack (snapshot_of image out).reply
  pub jeghatuf_downgrade : (image : Bytes) (level : ℕ) (out : Bytes) → AreBytes image → PackedBack (downgrade_of image level out).reply
  pub jeghatuf_view_snapshot : (image list out : Bytes) → AreBytes image → PackedBack (view_snapshot_of image list out).reply
  pub jeghatuf_view_topic : (image list name out : Bytes) → AreBytes image → PackedBack (view_topic_of image list name out).reply
  pub jeghatuf_view_partition : (image list name : Bytes) (number : ℕ) (out : Bytes) → AreBytes image → PackedBack (view_partition_of image list name number out).reply
  pub jeghatuf_view_freeze : (image list name out : Bytes) → AreBytes image → PackedBack (view_freeze_of image list name out).reply
  pub jeghatuf_history : (input : Bytes) (number : ℕ) (out : Bytes) → PackedBack (history_of input number out).reply
  pub jeghatuf_kafka_read : (input out : Bytes) → PackedBack (read_kafka_of input out).reply
  pub jeghatuf_kafka_write : (input out : Bytes) → PackedBack (write_kafka_of input out).reply
  -- how many values came: the value itself is in the lent list
  pub jeghatuf_throttle : (image : Bytes) (node kind : ℕ) → CountedBack (throttle_of image node kind)
  -- a number alone: the values are in the lent list
  pub jeghatuf_features-epoch : (image : Bytes) → AloneBack (epoch_of image)
  pub jeghatuf_log_offset : (image : Bytes) → AloneBack (offset_of image)
  pub jeghatuf_restore : (input image : Bytes) → AloneBack (restore_of input image).reply
  pub jeghatuf_with_offset : (run : Bytes) (offset : ℕ) (out : Bytes) → AloneBack (with_offset_of run offset out).reply
  pub jeghatuf_without-offset : (run out : Bytes) → AloneBack (without_offset_of run out).reply
  pub jeghatuf_log_freeze : (run name out : Bytes) → AloneBack (log_freeze_of run name out).reply

-- a number of no kind is a refusal, which has no value
write_number-below : (kind : ℕ) (tags : Bytes) (lengths : List ℕ) (values out : Bytes) → Below (write_of_number kind tags lengths values out).reply
unfolding write_of_number
write_number-below kind tags lengths values out = go (kind_of kind)
  where
    go : (o : Option Kind) → Below (given o (unchanged 3 out) (λ k. write_of k tags lengths values out)).reply
    go none = none_below 3
    go (some k) = write_below k tags lengths values out

pub unpacked : Unpacked
unpacked = record {
  jeghatuf_read = λ input. packed_undone (read_of input) (read_below input);
  jeghatuf_write = λ kind tags lengths values out.
      packed_undone (write_of_number kind tags lengths values out).reply (write_number-below kind tags lengths values out);
  jeghatuf_open = λ buffer. packed_undone (open_of buffer).reply (open_below buffer);
  jeghatuf_validate = λ image input. packed_undone (validate_of image input) (validate_below image input);
  jeghatuf_apply = λ image offset input. packed_undone (apply_of image offset input).reply (apply-below image offset input);
  jeghatuf_topic = λ image name out b. packed_undone (topic_by_name image name out).reply (topic_below image b name out);
  jeghatuf_topic_by_id = λ image id out b. packed_undone (topic_by_id image id out).reply (topic_id_below image b id out);
  jeghatuf_partition = λ image name number out b. packed_undone (partition_of image name number out).reply (partition-below image b name number out);
  jeghatuf_broker = λ image node out b. packed_undone (broker_of image node out).reply (broker_below image b node out);
  jeghatuf_short_count = λ image b. packed_undone (short_of image) (short-below image b);
  jeghatuf_freeze = λ image name out b. packed_undone (freeze_of image name out).reply (freeze-below image b name out);
  jeghatuf_freezes = λ image list out. packed_undone (freeze_list_of image list out).reply (freezes_below image list out);
  jeghatuf_compare = λ first second one other. packed_undone (compare_of first second one other).reply (compare-below first second one other);
  jeghatuf_snapshot = λ image out b. packed_undone (snapshot_of image out).reply (snapshot-below image b out);
  jeghatuf_downgrade = λ image level out b. packed_undone (downgrade_of image level out).reply (downgrade-below image b level out);
  jeghatuf_view_snapshot = λ image list out b. packed_undone (view_snapshot_of image list out).reply (view_snapshot-below image b list out);
  jeghatuf_view_topic = λ image list name out b. packed_undone (view_topic_of image list name out).reply (view_topic_below image b list name out);
  jeghatuf_view_partition = λ image list name number out b.
      packed_undone (view_partition_of image list name number out).reply (view_partition-below image b list name number out);
  jeghatuf_view_freeze = λ image list name out b. packed_undone (view_freeze_of image list name out).reply (view_freeze-below image b list name out);
  jeghatuf_history = λ input number out. packed_undone (history_of input number out).reply (history_below input number out);
  jeghatuf_kafka_read = λ input out. packed_undone (read_kafka_of input out).reply (kafka_read-below input out);
  jeghatuf_kafka_write = λ input out. packed_undone (write_kafka_of input out).reply (kafka_write_below input out);
  jeghatuf_throttle = λ image node kind. counted_undone (throttle_of image node kind) (omega (arith, throttle_once image node kind));
  jeghatuf_features-epoch = λ image. alone_undone (epoch_of image);
  jeghatuf_log_offset = λ image. alone_undone (offset_of image);
  jeghatuf_restore = λ input image. alone_undone (restore_of input image).reply;
  jeghatuf_with_offset = λ run offset out. alone_undone (with_offset_of run offset out).reply;
  jeghatuf_without-offset = λ run out. alone_undone (without_offset_of run out).reply;
  jeghatuf_log_freeze = λ run name out. alone_undone (log_freeze_of run name out).reply;
}
