-- `kinds::is_storable` meets its contract, kind by kind.
use mathlib.Core.Path.{refl, ap, ◌∙◌}
use mathlib.Core.Bool.{◌&&◌, not}
use native.Mathlib.Omega.{arith}
use lib.Dec.{eqb, ltb}
use lib.ListN.{length}
use Rattle.model.specs.Number.{is_negative}
use Rattle.model.specs.Kind.{kind_number}
use Rattle.model.specs.Shape.{rows_of, shape_of}
use Rattle.model.specs.Contents.{storable}
use Rattle.model.specs.declared.Kind.TheVariants.{Topic, Partition, BrokerRegistration, DeleteTopic, TopicConfig, BrokerConfig, ClientQuota, ProducerIds, UnregisterBroker, KRaftVersion, FeatureLevel, ClientMetricsConfig, FeaturesEpoch}
use Rattle.model.specs.declared.Kind.TheVariants.{PartitionDirAssignment, PartitionOffsetAdvance, GroupConfig, ControllerRegistration, TopicFreeze, BreakGlassProposal, DeleteBreakGlassProposal, PartitionElr, PartitionRecovery, PartitionUpdate, BrokerRegistrationChange, UnregisterController}
use Rattle.laws.specs.Refused.{no_kind}
use Rattle.image_entries.proofs.Records.{headed, value_is}
use Rattle.image_entries.proofs.Both.{not_first, not_second}
use Rattle.image_entries.proofs.ByKind.{by_kind_lem, kind_zero, kind_past}
use Rattle.image_entries.proofs.kinds.is_storable.Goals as goal

pub bounds-e-0 : goal.bounds-e-0
bounds-e-0 c = omega (arith, headed _ c.requires)

pub value_number-requires : goal.value_number-requires
unfolding rows_of shape_of kind_number
value_number-requires c = let i = c.requires in (i, omega arith, value_is _ i ProducerIds c.in-8.is 3 refl refl)

pub value_number-requires-in-11 : goal.value_number-requires-in-11
unfolding rows_of shape_of kind_number
value_number-requires-in-11 c = let i = c.requires in (i, omega arith, value_is _ i FeatureLevel c.in-11.is 2 refl refl)

pub value_number-requires-in-18 : goal.value_number-requires-in-18
unfolding rows_of shape_of kind_number
value_number-requires-in-18 c = let i = c.requires in (i, omega arith, ap length (value_is _ i TopicFreeze c.in-18.is 3 refl refl).only)

pub value_number-requires-in-22 : goal.value_number-requires-in-22
unfolding rows_of shape_of kind_number
value_number-requires-in-22 c = let i = c.requires in (i, omega arith, ap length (value_is _ i PartitionRecovery c.in-22.is 3 refl refl).only)

pub returns-in-1 : goal.returns-in-1
unfolding storable kind_number
returns-in-1 c = by_kind_lem _ c.requires Topic c.in-1.is

pub returns-in-2 : goal.returns-in-2
unfolding storable kind_number
returns-in-2 c = by_kind_lem _ c.requires Partition c.in-2.is

pub returns-in-3 : goal.returns-in-3
unfolding storable kind_number
returns-in-3 c = by_kind_lem _ c.requires BrokerRegistration c.in-3.is

pub returns-in-4 : goal.returns-in-4
unfolding storable kind_number
returns-in-4 c = by_kind_lem _ c.requires DeleteTopic c.in-4.is

pub returns-in-5 : goal.returns-in-5
unfolding storable kind_number
returns-in-5 c = c.has.ensures ∙ by_kind_lem _ c.requires TopicConfig c.in-5.is

pub returns-in-6 : goal.returns-in-6
unfolding storable kind_number
returns-in-6 c = c.has-in-6.ensures ∙ by_kind_lem _ c.requires BrokerConfig c.in-6.is

pub returns-in-7 : goal.returns-in-7
unfolding storable kind_number
returns-in-7 c = c.has_value_in_order.ensures ∙ by_kind_lem _ c.requires ClientQuota c.in-7.is

pub returns-in-8 : goal.returns-in-8
unfolding storable kind_number
returns-in-8 c =
    c.is_positive.ensures ∙ ap (λ x. ltb 0 x && not (is_negative 8 x)) c.value_number.ensures
    ∙ by_kind_lem _ c.requires ProducerIds c.in-8.is

pub returns-in-9 : goal.returns-in-9
unfolding storable kind_number
returns-in-9 c = by_kind_lem _ c.requires UnregisterBroker c.in-9.is

pub returns-in-10 : goal.returns-in-10
unfolding storable kind_number
returns-in-10 c = by_kind_lem _ c.requires KRaftVersion c.in-10.is

pub returns-in-11 : goal.returns-in-11
unfolding storable kind_number
returns-in-11 c =
    ap (λ x. not (eqb x 0)) c.value_number-in-11.ensures
    ∙ by_kind_lem _ c.requires FeatureLevel c.in-11.is

pub returns-in-12 : goal.returns-in-12
unfolding storable kind_number
returns-in-12 c = c.has-in-12.ensures ∙ by_kind_lem _ c.requires ClientMetricsConfig c.in-12.is

pub returns-in-13 : goal.returns-in-13
unfolding storable kind_number
returns-in-13 c = by_kind_lem _ c.requires FeaturesEpoch c.in-13.is

pub returns-in-14 : goal.returns-in-14
unfolding storable kind_number
returns-in-14 c = by_kind_lem _ c.requires PartitionDirAssignment c.in-14.is

pub returns-in-15 : goal.returns-in-15
unfolding storable kind_number
returns-in-15 c = by_kind_lem _ c.requires PartitionOffsetAdvance c.in-15.is

pub returns-in-16 : goal.returns-in-16
unfolding storable kind_number
returns-in-16 c = c.has-in-16.ensures ∙ by_kind_lem _ c.requires GroupConfig c.in-16.is

pub returns-in-17 : goal.returns-in-17
unfolding storable kind_number
returns-in-17 c = by_kind_lem _ c.requires ControllerRegistration c.in-17.is

pub returns-in-18 : goal.returns-in-18
unfolding storable kind_number
returns-in-18 c = ap (λ x. eqb x 1) c.value_number-in-18.ensures ∙ by_kind_lem _ c.requires TopicFreeze c.in-18.is

pub returns-in-19 : goal.returns-in-19
unfolding storable kind_number
returns-in-19 c = by_kind_lem _ c.requires BreakGlassProposal c.in-19.is

pub returns-in-20 : goal.returns-in-20
unfolding storable kind_number
returns-in-20 c = by_kind_lem _ c.requires DeleteBreakGlassProposal c.in-20.is

pub returns-then-not-is_empty : goal.returns-then-not-is_empty
unfolding storable kind_number
returns-then-not-is_empty c =
    not_first _ c.is_empty.ensures c.if-not-is_empty.true-raw
    ∙ by_kind_lem _ c.requires PartitionElr c.in-21.is

pub returns-else-not-is_empty : goal.returns-else-not-is_empty
unfolding storable kind_number
returns-else-not-is_empty c =
    not_second _ c.is_empty.ensures c.if-not-is_empty.false-raw c.is_empty-else-not-is_empty.ensures
    ∙ by_kind_lem _ c.requires PartitionElr c.in-21.is

pub returns-in-22 : goal.returns-in-22
unfolding storable kind_number
returns-in-22 c =
    ap (λ x. not (eqb x 0)) c.value_number-in-22.ensures
    ∙ by_kind_lem _ c.requires PartitionRecovery c.in-22.is

pub returns-in-23 : goal.returns-in-23
unfolding storable kind_number
returns-in-23 c = by_kind_lem _ c.requires PartitionUpdate c.in-23.is

pub returns-in-24 : goal.returns-in-24
unfolding storable kind_number
returns-in-24 c = by_kind_lem _ c.requires BrokerRegistrationChange c.in-24.is

pub returns-in-25 : goal.returns-in-25
unfolding storable kind_number
returns-in-25 c = by_kind_lem _ c.requires UnregisterController c.in-25.is

pub returns-in-0 : goal.returns-in-0
returns-in-0 c = kind_zero _ c.requires c.in-0.in-0-own.keys26

pub returns-in-0-2 : goal.returns-in-0-2
returns-in-0-2 c = kind_past _ c.requires (no_kind _ _ c.in-0.in-0-own.rest)
