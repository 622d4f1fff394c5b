-- The records that the cases are made of, and what an operation wrote.
use Rattle.std.specs.Prelude.{ℕ, [], ◌∷◌, ◌++◌, replicate}
use Rattle.model.specs.Number.{Bytes, bytes}
use Rattle.model.specs.Run.{done, item, value}
use Rattle.model.specs.Shape.{logged}
use Rattle.model.specs.Record.{Rec, rec, record_bytes, read, on_got}
use Rattle.model.specs.Image.{open_of}
use Rattle.model.specs.Reply.{Ended}
use Rattle.model.specs.declared.Kind.TheVariants.{Topic, Partition, BrokerConfig, ProducerIds, FeaturesEpoch, PartitionDirAssignment, PartitionOffsetAdvance, TopicFreeze}

-- 1. Records

-- a record's bytes
abbrev pub encode : Rec → Bytes
encode r = record_bytes r

-- "p", "ro", "room", "room-7", "r", "__", "__room"
abbrev pub p : Bytes
p = 0x70 ∷ []

abbrev pub ro : Bytes
ro = 0x72 ∷ 0x6f ∷ []

abbrev pub room : Bytes
room = 0x72 ∷ 0x6f ∷ 0x6f ∷ 0x6d ∷ []

abbrev pub room_7 : Bytes
room_7 = room ++ (0x2d ∷ 0x37 ∷ [])

abbrev pub r : Bytes
r = 0x72 ∷ []

abbrev pub underscores : Bytes
underscores = 0x5f ∷ 0x5f ∷ []

abbrev pub underscores-room : Bytes
underscores-room = underscores ++ room

-- FeatureLevel "a" at a level, in the bytes that 01 gives
abbrev pub level : ℕ → Bytes
level n = 0x0b ∷ 0 ∷ 9 ∷ 1 ∷ 0 ∷ 1 ∷ 0x61 ∷ 2 ∷ 0 ∷ 2 ∷ 0 ∷ n ∷ []

abbrev pub next_id : ℕ → Bytes
next_id n = encode (rec ProducerIds (item 1 (bytes 8 1) (item 2 (bytes 8 0) (item 3 (bytes 8 n) done))))

-- a frozen prefix
abbrev pub frozen : Bytes → Bytes
frozen scope =
    encode (rec TopicFreeze
    (item 1 scope (item 2 (1 ∷ []) (item 3 (1 ∷ []) (item 4 [] (item 5 [] (item 6 (bytes 8 0) (item 7 (bytes 16 0) (item 8 [] (item 9 [] done))))))))))

-- a topic of the id 5 and the replication factor 1
abbrev pub topic_named : Bytes → ℕ → Bytes
topic_named name count = encode (rec Topic (item 1 name (item 2 (bytes 16 5) (item 3 (bytes 4 count) (item 4 (bytes 2 1) done)))))

abbrev pub partition : Bytes → ℕ → Bytes → Bytes → Bytes
partition name n replicas dirs =
    encode (rec Partition
    (item 1 name (item 2 (bytes 4 n) (item 3 (bytes 8 1) (item 4 replicas (item 5 replicas (item 6 (bytes 4 0) (item 7 [] (item 8 [] (item 9 dirs
    (item 10 (bytes 4 0) done)))))))))))

abbrev pub advance : ℕ → Bytes
advance n = encode (rec PartitionOffsetAdvance (item 1 p (item 2 (bytes 4 0) (item 3 (bytes 8 n) done))))

abbrev pub directory : Bytes → ℕ → ℕ → Bytes → Bytes
directory name n replica id =
    encode (rec PartitionDirAssignment (item 1 name (item 2 (bytes 4 n) (item 3 (bytes 8 replica) (item 4 id done)))))

-- the removal of a node's config "p"
abbrev pub unset : ℕ → Bytes
unset node = encode (rec BrokerConfig (item 1 (bytes 8 node) (item 2 p done)))

abbrev pub epoch_is : ℕ → Bytes
epoch_is e = encode (rec FeaturesEpoch (item 1 (bytes 8 e) done))

-- the log offset that a snapshot starts with: kind 26, tag 1
abbrev pub offset_is : ℕ → Bytes
offset_is n = 0x1a ∷ 0 ∷ 11 ∷ 1 ∷ 0 ∷ 8 ∷ bytes 8 n

-- 2. Buffers

-- a buffer that held something else, and a fresh image in it
abbrev pub lent : ℕ → Bytes
lent capacity = replicate capacity 7

abbrev pub opened : ℕ → Bytes
opened capacity = (open_of (lent capacity)).buffer

abbrev pub output : Bytes
output = replicate 300 0

-- a field of the record that a lookup wrote; nothing where it wrote none
abbrev pub field_of : ℕ → Ended → Bytes
field_of tag e = on_got (read logged e.buffer) (λ n. []) (λ r used. value tag r.run)
