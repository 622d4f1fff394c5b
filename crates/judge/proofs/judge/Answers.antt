-- `judge::judge` meets its contract, kind by kind.
use mathlib.Core.Path.{refl, ap, ◌∙◌}
use mathlib.Core.Bool.{not}
use native.Mathlib.Omega.{arith}
use Rattle.model.specs.Choice.{unless, is_some}
use Rattle.model.specs.Kind.{kind_number}
use Rattle.model.specs.Shape.{rows_of, shape_of}
use Rattle.model.specs.Key.{node_key}
use Rattle.model.specs.Map.{get}
use Rattle.model.specs.Contents.{key}
use Rattle.model.specs.Validate.{alone, against}
use Rattle.model.specs.declared.Kind.TheVariants.{Topic, Partition, BrokerRegistration, DeleteTopic, TopicConfig, BrokerConfig, ClientQuota, ProducerIds, UnregisterBroker, KRaftVersion, FeatureLevel, ClientMetricsConfig, FeaturesEpoch}
use Rattle.model.specs.declared.Kind.TheVariants.{PartitionDirAssignment, PartitionOffsetAdvance, GroupConfig, ControllerRegistration, TopicFreeze, BreakGlassProposal, DeleteBreakGlassProposal, PartitionElr, PartitionRecovery, PartitionUpdate, BrokerRegistrationChange, UnregisterController}
use Rattle.laws.specs.Refused.{no_kind}
use Rattle.entries.specs.Held.{entries_in}
use Rattle.judge.specs.Judge.{empty_scope}
use Rattle.find.proofs.Epochs.{of_node}
use Rattle.find.proofs.Logged.{headed, kind_zero, kind_past, value_of, topic_logged, nested_logged}
use Rattle.judge.proofs.Logged.{judged, judged-alone}
use Rattle.judge.proofs.judge.Goals as goal

pub bounds-rec-0 : goal.bounds-rec-0
bounds-rec-0 c = omega (arith, headed _ c.requires.1)

pub topic_fault-requires : goal.topic_fault-requires
topic_fault-requires c = let p = c.requires in (p.0, topic_logged _ p.1 c.in-1.is)

pub unknown_topic-requires : goal.unknown_topic-requires
unfolding rows_of shape_of kind_number
unknown_topic-requires c = let p = c.requires in (p.0, headed _ p.1, (value_of _ p.1 Partition c.in-2.is 1 refl refl).1)

pub unknown_topic-requires-in-4 : goal.unknown_topic-requires-in-4
unfolding rows_of shape_of kind_number
unknown_topic-requires-in-4 c = let p = c.requires in (p.0, headed _ p.1, (value_of _ p.1 DeleteTopic c.in-4.is 1 refl refl).1)

pub unknown_topic-requires-in-5 : goal.unknown_topic-requires-in-5
unfolding rows_of shape_of kind_number
unknown_topic-requires-in-5 c = let p = c.requires in (p.0, headed _ p.1, (value_of _ p.1 TopicConfig c.in-5.is 1 refl refl).1)

pub producer_fault-requires : goal.producer_fault-requires
unfolding rows_of shape_of kind_number
producer_fault-requires c =
    let p = c.requires in
    (p.0, headed _ p.1, value_of _ p.1 ProducerIds c.in-8.is 1 refl refl, value_of _ p.1 ProducerIds c.in-8.is 3 refl refl)

pub node_at-requires : goal.node_at-requires
unfolding rows_of shape_of kind_number
node_at-requires c = let p = c.requires in (headed _ p.1, value_of _ p.1 UnregisterBroker c.in-9.is 1 refl refl)

pub at_epoch-requires : goal.at_epoch-requires
at_epoch-requires c = let p = c.requires in (p.0, headed _ p.1)

pub empty_scope-requires : goal.empty_scope-requires
empty_scope-requires c = headed _ c.requires.1

pub proposal_fault-requires : goal.proposal_fault-requires
unfolding rows_of shape_of kind_number
proposal_fault-requires c =
    let p = c.requires in
    let w = value_of _ p.1 BreakGlassProposal c.in-19.is 1 refl refl in
    (p.0, headed _ p.1, omega (arith, w))

pub unknown_partition-requires : goal.unknown_partition-requires
unfolding rows_of shape_of kind_number
unknown_partition-requires c =
    let p = c.requires in
    (p.0, headed _ p.1, (value_of _ p.1 PartitionElr c.in-21.is 1 refl refl).1, value_of _ p.1 PartitionElr c.in-21.is 2 refl refl)

pub unknown_partition-requires-in-22 : goal.unknown_partition-requires-in-22
unfolding rows_of shape_of kind_number
unknown_partition-requires-in-22 c =
    let p = c.requires in
    (p.0, headed _ p.1, (value_of _ p.1 PartitionRecovery c.in-22.is 1 refl refl).1, value_of _ p.1 PartitionRecovery c.in-22.is 2 refl refl)

pub unknown_nested-requires : goal.unknown_nested-requires
unknown_nested-requires c = let p = c.requires in (p.0, headed _ p.1, nested_logged _ p.1 c.in-23.is)

pub node_at-requires-in-24 : goal.node_at-requires-in-24
unfolding rows_of shape_of kind_number
node_at-requires-in-24 c =
    let p = c.requires in (headed _ p.1, value_of _ p.1 BrokerRegistrationChange c.in-24.is 1 refl refl)

pub at_epoch-requires-in-24 : goal.at_epoch-requires-in-24
at_epoch-requires-in-24 c = let p = c.requires in (p.0, headed _ p.1)

pub node_at-requires-in-25 : goal.node_at-requires-in-25
unfolding rows_of shape_of kind_number
node_at-requires-in-25 c = let p = c.requires in (headed _ p.1, value_of _ p.1 UnregisterController c.in-25.is 1 refl refl)

pub unknown_controller-requires : goal.unknown_controller-requires
unknown_controller-requires c = c.requires.0

pub returns-in-1 : goal.returns-in-1
unfolding alone against kind_number
returns-in-1 c = c.topic_fault.ensures ∙ judged _ c.requires.1 Topic c.in-1.is _

pub returns-in-2 : goal.returns-in-2
unfolding alone against kind_number
returns-in-2 c = c.unknown_topic.ensures ∙ judged _ c.requires.1 Partition c.in-2.is _

pub returns-in-3 : goal.returns-in-3
unfolding alone against kind_number
returns-in-3 c = judged _ c.requires.1 BrokerRegistration c.in-3.is _

pub returns-in-4 : goal.returns-in-4
unfolding alone against kind_number
returns-in-4 c = c.unknown_topic-in-4.ensures ∙ judged _ c.requires.1 DeleteTopic c.in-4.is _

pub returns-in-5 : goal.returns-in-5
unfolding alone against kind_number
returns-in-5 c = c.unknown_topic-in-5.ensures ∙ judged _ c.requires.1 TopicConfig c.in-5.is _

pub returns-in-6 : goal.returns-in-6
unfolding alone against kind_number
returns-in-6 c = judged _ c.requires.1 BrokerConfig c.in-6.is _

pub returns-in-7 : goal.returns-in-7
unfolding alone against kind_number
returns-in-7 c = judged _ c.requires.1 ClientQuota c.in-7.is _

pub returns-in-8 : goal.returns-in-8
unfolding alone against kind_number
returns-in-8 c = c.producer_fault.ensures ∙ judged _ c.requires.1 ProducerIds c.in-8.is _

pub returns-in-9 : goal.returns-in-9
unfolding alone against kind_number
returns-in-9 c =
    c.unless.ensures ∙ ap (λ x. unless x 9) (c.at_epoch.ensures ∙ of_node c.args.s.now c.args.rec.now c.node_at.ensures)
    ∙ judged _ c.requires.1 UnregisterBroker c.in-9.is _

pub returns-in-10 : goal.returns-in-10
unfolding alone against kind_number
returns-in-10 c = judged _ c.requires.1 KRaftVersion c.in-10.is _

pub returns-in-11 : goal.returns-in-11
unfolding alone against kind_number
returns-in-11 c = judged _ c.requires.1 FeatureLevel c.in-11.is _

pub returns-in-12 : goal.returns-in-12
unfolding alone against kind_number
returns-in-12 c = judged _ c.requires.1 ClientMetricsConfig c.in-12.is _

pub returns-in-13 : goal.returns-in-13
unfolding alone against kind_number
returns-in-13 c = judged _ c.requires.1 FeaturesEpoch c.in-13.is _

pub returns-in-14 : goal.returns-in-14
unfolding alone against kind_number
returns-in-14 c = judged _ c.requires.1 PartitionDirAssignment c.in-14.is _

pub returns-in-15 : goal.returns-in-15
unfolding alone against kind_number
returns-in-15 c = judged _ c.requires.1 PartitionOffsetAdvance c.in-15.is _

pub returns-in-16 : goal.returns-in-16
unfolding alone against kind_number
returns-in-16 c = judged _ c.requires.1 GroupConfig c.in-16.is _

pub returns-in-17 : goal.returns-in-17
unfolding alone against kind_number
returns-in-17 c = judged _ c.requires.1 ControllerRegistration c.in-17.is _

pub returns-in-18 : goal.returns-in-18
unfolding alone against kind_number empty_scope
returns-in-18 c =
    c.unless-in-18.ensures ∙ ap (λ x. unless (not x) 13) c.empty_scope.ensures
    ∙ judged-alone _ c.requires.1 TopicFreeze c.in-18.is _ refl

pub returns-in-19 : goal.returns-in-19
unfolding alone against kind_number
returns-in-19 c = c.proposal_fault.ensures ∙ judged _ c.requires.1 BreakGlassProposal c.in-19.is _

pub returns-in-20 : goal.returns-in-20
unfolding alone against kind_number
returns-in-20 c = judged _ c.requires.1 DeleteBreakGlassProposal c.in-20.is _

pub returns-in-21 : goal.returns-in-21
unfolding alone against kind_number
returns-in-21 c = c.unknown_partition.ensures ∙ judged _ c.requires.1 PartitionElr c.in-21.is _

pub returns-in-22 : goal.returns-in-22
unfolding alone against kind_number
returns-in-22 c = c.unknown_partition-in-22.ensures ∙ judged _ c.requires.1 PartitionRecovery c.in-22.is _

pub returns-in-23 : goal.returns-in-23
unfolding alone against kind_number
returns-in-23 c = c.unknown_nested.ensures ∙ judged _ c.requires.1 PartitionUpdate c.in-23.is _

pub returns-in-24 : goal.returns-in-24
unfolding alone against kind_number
returns-in-24 c =
    c.unless-in-24.ensures ∙ ap (λ x. unless x 8) (c.at_epoch-in-24.ensures ∙ of_node c.args.s.now c.args.rec.now c.node_at-in-24.ensures)
    ∙ judged _ c.requires.1 BrokerRegistrationChange c.in-24.is _

pub returns-in-25 : goal.returns-in-25
unfolding alone against kind_number
returns-in-25 c =
    c.unknown_controller.ensures
    ∙ ap (λ v. unless (is_some (get key (node_key ControllerRegistration v) (entries_in c.args.s.now))) 10) c.node_at-in-25.ensures
    ∙ judged _ c.requires.1 UnregisterController c.in-25.is _

pub returns-in-0 : goal.returns-in-0
returns-in-0 c = kind_zero _ c.requires.1 c.in-0.in-0-own.keys26

pub returns-in-0-2 : goal.returns-in-0-2
returns-in-0-2 c = kind_past _ c.requires.1 (no_kind _ _ c.in-0.in-0-own.rest)
