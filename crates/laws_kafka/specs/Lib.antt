-- Kafka's record bytes
--   the shortest varint reads back, and a varint read strictly is the shortest .... Varints.read_varint_lem, varint-read
--   fields, messages and the frame, both ways ..................................... Kafka.read-written, written-read
--   the two round trips of 02, of the operations .................................. Trips.kafka_reads_back, kafka-writes-back
pub mod Varints
pub mod Kafka
pub mod Trips
