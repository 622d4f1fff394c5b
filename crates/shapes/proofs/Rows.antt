-- The table gives each shape the rows that `model` has, by computation.
use mathlib.Core.Path.{◌≡◌, refl}
use Rattle.model.specs.Shape.{Shape, record_of, stored_topic, endpoint, approval, entity, pair, feature, rows_of}
use Rattle.model.specs.declared.Kind.TheVariants.{Topic, Partition, BrokerRegistration, DeleteTopic, TopicConfig, BrokerConfig, ClientQuota, ProducerIds, UnregisterBroker, KRaftVersion, FeatureLevel, ClientMetricsConfig, FeaturesEpoch, PartitionDirAssignment}
use Rattle.model.specs.declared.Kind.TheVariants.{PartitionOffsetAdvance, GroupConfig, ControllerRegistration, TopicFreeze, BreakGlassProposal, DeleteBreakGlassProposal, PartitionElr, PartitionRecovery, PartitionUpdate, BrokerRegistrationChange, UnregisterController, LogOffset}
use Rattle.shapes.specs.Table as Table
use Rattle.shapes.specs.Table.{base_of, rows_from}

pub rows_from_lem : (s : Shape) → rows_from (base_of s) ≡ rows_of s
unfolding rows_from base_of rows_of Table.table Table.shapes Table.pack_shape Table.pack_rows Table.last_required Table.form_code Table.form_size Table.how_often Table.shape_at Table.form_of Table.presence_of
rows_from_lem (record_of Topic) = refl
rows_from_lem (record_of Partition) = refl
rows_from_lem (record_of BrokerRegistration) = refl
rows_from_lem (record_of DeleteTopic) = refl
rows_from_lem (record_of TopicConfig) = refl
rows_from_lem (record_of BrokerConfig) = refl
rows_from_lem (record_of ClientQuota) = refl
rows_from_lem (record_of ProducerIds) = refl
rows_from_lem (record_of UnregisterBroker) = refl
rows_from_lem (record_of KRaftVersion) = refl
rows_from_lem (record_of FeatureLevel) = refl
rows_from_lem (record_of ClientMetricsConfig) = refl
rows_from_lem (record_of FeaturesEpoch) = refl
rows_from_lem (record_of PartitionDirAssignment) = refl
rows_from_lem (record_of PartitionOffsetAdvance) = refl
rows_from_lem (record_of GroupConfig) = refl
rows_from_lem (record_of ControllerRegistration) = refl
rows_from_lem (record_of TopicFreeze) = refl
rows_from_lem (record_of BreakGlassProposal) = refl
rows_from_lem (record_of DeleteBreakGlassProposal) = refl
rows_from_lem (record_of PartitionElr) = refl
rows_from_lem (record_of PartitionRecovery) = refl
rows_from_lem (record_of PartitionUpdate) = refl
rows_from_lem (record_of BrokerRegistrationChange) = refl
rows_from_lem (record_of UnregisterController) = refl
rows_from_lem (record_of LogOffset) = refl
rows_from_lem stored_topic = refl
rows_from_lem endpoint = refl
rows_from_lem approval = refl
rows_from_lem entity = refl
rows_from_lem pair = refl
rows_from_lem feature = refl
