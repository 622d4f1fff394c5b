-- The value that comes with an answer, the bytes used or written or a count, is below 2^32.
--
--   how long the records of an image can be ............... Records.Short, Records.entries-short, Records.entries_few
--   how long the listing for a downgrade can be ........... Listing.listing-short
--   each operation's value ................................ Values.Below, Values.read_below and its neighbours; a viewer's: Views
--   the bytes written for a list of jobs .................. Jobs.freezes_below
--   where two recordings part ............................. Comparisons.compare-below
--   a short history's ..................................... Histories.history_below
--   Kafka's record bytes, both ways ....................... Kafka.kafka_read-below, kafka-write-below
pub mod Records
pub mod Listing
pub mod Values
pub mod Jobs
pub mod Views
pub mod Comparisons
pub mod Histories
pub mod Kafka
