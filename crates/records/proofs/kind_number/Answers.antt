-- `records::kind_number` meets its contract, kind by kind.
use Rattle.model.specs.Kind.{kind_number}
use Rattle.records.proofs.kind_number.Goals as goal

pub returns-in-Topic : goal.returns-in-Topic
unfolding kind_number
returns-in-Topic c = rw c.in-Topic.is

pub returns-in-Partition : goal.returns-in-Partition
unfolding kind_number
returns-in-Partition c = rw c.in-Partition.is

pub returns-in-BrokerRegistration : goal.returns-in-BrokerRegistration
unfolding kind_number
returns-in-BrokerRegistration c = rw c.in-BrokerRegistration.is

pub returns-in-DeleteTopic : goal.returns-in-DeleteTopic
unfolding kind_number
returns-in-DeleteTopic c = rw c.in-DeleteTopic.is

pub returns-in-TopicConfig : goal.returns-in-TopicConfig
unfolding kind_number
returns-in-TopicConfig c = rw c.in-TopicConfig.is

pub returns-in-BrokerConfig : goal.returns-in-BrokerConfig
unfolding kind_number
returns-in-BrokerConfig c = rw c.in-BrokerConfig.is

pub returns-in-ClientQuota : goal.returns-in-ClientQuota
unfolding kind_number
returns-in-ClientQuota c = rw c.in-ClientQuota.is

pub returns-in-ProducerIds : goal.returns-in-ProducerIds
unfolding kind_number
returns-in-ProducerIds c = rw c.in-ProducerIds.is

pub returns-in-UnregisterBroker : goal.returns-in-UnregisterBroker
unfolding kind_number
returns-in-UnregisterBroker c = rw c.in-UnregisterBroker.is

pub returns-in-KRaftVersion : goal.returns-in-KRaftVersion
unfolding kind_number
returns-in-KRaftVersion c = rw c.in-KRaftVersion.is

pub returns-in-FeatureLevel : goal.returns-in-FeatureLevel
unfolding kind_number
returns-in-FeatureLevel c = rw c.in-FeatureLevel.is

pub returns-in-ClientMetricsConfig : goal.returns-in-ClientMetricsConfig
unfolding kind_number
returns-in-ClientMetricsConfig c = rw c.in-ClientMetricsConfig.is

pub returns-in-FeaturesEpoch : goal.returns-in-FeaturesEpoch
unfolding kind_number
returns-in-FeaturesEpoch c = rw c.in-FeaturesEpoch.is

pub returns-in-PartitionDirAssignment : goal.returns-in-PartitionDirAssignment
unfolding kind_number
returns-in-PartitionDirAssignment c = rw c.in-PartitionDirAssignment.is

pub returns-in-PartitionOffsetAdvance : goal.returns-in-PartitionOffsetAdvance
unfolding kind_number
returns-in-PartitionOffsetAdvance c = rw c.in-PartitionOffsetAdvance.is

pub returns-in-GroupConfig : goal.returns-in-GroupConfig
unfolding kind_number
returns-in-GroupConfig c = rw c.in-GroupConfig.is

pub returns-in-ControllerRegistration : goal.returns-in-ControllerRegistration
unfolding kind_number
returns-in-ControllerRegistration c = rw c.in-ControllerRegistration.is

pub returns-in-TopicFreeze : goal.returns-in-TopicFreeze
unfolding kind_number
returns-in-TopicFreeze c = rw c.in-TopicFreeze.is

pub returns-in-BreakGlassProposal : goal.returns-in-BreakGlassProposal
unfolding kind_number
returns-in-BreakGlassProposal c = rw c.in-BreakGlassProposal.is

pub returns-in-DeleteBreakGlassProposal : goal.returns-in-DeleteBreakGlassProposal
unfolding kind_number
returns-in-DeleteBreakGlassProposal c = rw c.in-DeleteBreakGlassProposal.is

pub returns-in-PartitionElr : goal.returns-in-PartitionElr
unfolding kind_number
returns-in-PartitionElr c = rw c.in-PartitionElr.is

pub returns-in-PartitionRecovery : goal.returns-in-PartitionRecovery
unfolding kind_number
returns-in-PartitionRecovery c = rw c.in-PartitionRecovery.is

pub returns-in-PartitionUpdate : goal.returns-in-PartitionUpdate
unfolding kind_number
returns-in-PartitionUpdate c = rw c.in-PartitionUpdate.is

pub returns-in-BrokerRegistrationChange : goal.returns-in-BrokerRegistrationChange
unfolding kind_number
returns-in-BrokerRegistrationChange c = rw c.in-BrokerRegistrationChange.is

pub returns-in-UnregisterController : goal.returns-in-UnregisterController
unfolding kind_number
returns-in-UnregisterController c = rw c.in-UnregisterController.is

pub returns-in-LogOffset : goal.returns-in-LogOffset
unfolding kind_number
returns-in-LogOffset c = rw c.in-LogOffset.is
