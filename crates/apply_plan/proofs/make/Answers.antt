-- `apply_plan::make` meets its contract: each arm makes the plan of its kind.
use mathlib.Core.Path.{refl}
use native.Mathlib.Omega.{arith}
use Rattle.model.specs.Kind.{kind_number}
use Rattle.model.specs.declared.Kind.TheVariants.{Partition, BrokerRegistration, TopicConfig, BrokerConfig, ClientQuota, ProducerIds, UnregisterBroker, FeatureLevel, ClientMetricsConfig, PartitionDirAssignment}
use Rattle.model.specs.declared.Kind.TheVariants.{PartitionOffsetAdvance, GroupConfig, ControllerRegistration, TopicFreeze, BreakGlassProposal, PartitionElr, PartitionRecovery, PartitionUpdate, BrokerRegistrationChange}
use Rattle.laws.specs.Choice.{impossible}
use Rattle.laws.specs.Numbers.{length-bytes}
use Rattle.laws.specs.Refused.{no_kind}
use Rattle.find.proofs.Logged.{headed, kind_zero, kind_past}
use Rattle.find.proofs.Queries.{controller_query}
use Rattle.apply_plan.proofs.Steps.{epoch_width, kraft_width}
use Rattle.apply_plan.proofs.Arms.{drop-lent}
use Rattle.apply_plan.proofs.ByKind.{logged_is, record-kind, by_record, broker, topic_config, level, metrics, group, controller, freeze, proposal, elr, recovery, set_is}
use Rattle.apply_plan.proofs.ByKind.{set_is_plain, set-made, topic_made, part-made, delete_made, name_fits, update_made, proposal_asked, proposal_made, controller_width, controller_made, config_made, config_grouped, config_ordered}
use Rattle.apply_plan.proofs.OnStates.{planned_bounds, planned_level, planned_epoch, planned_kraft, planned_offset}
use Rattle.apply_plan.proofs.make.Goals as goal

pub bounds-rec-0 : goal.bounds-rec-0
bounds-rec-0 c = omega (arith, headed _ c.requires.0.logged)

pub put_partition-requires : goal.put_partition-requires
unfolding kind_number
put_partition-requires c =
    let ready = c.requires in (
      ready.0.good,
      logged_is _ ready.0.logged Partition c.in-2.is (λ e. impossible cc),
      record-kind _ ready.0.logged Partition c.in-2.is (λ e. impossible cc),
      ready.0.counts,
      omega (arith, ready.0.space),
    )

pub set-requires : goal.set-requires
unfolding kind_number
set-requires c =
    let ready = c.requires in
    let is = c.in-3.is in
    (ready.0.good, set_is _ ready.0.logged BrokerRegistration broker is, set_is_plain _ ready.0.logged BrokerRegistration broker is, omega (arith, ready.0.space))

pub delete_topic-requires : goal.delete_topic-requires
unfolding kind_number
delete_topic-requires c =
    let ready = c.requires in
    (ready.0.good, headed _ ready.0.logged, name_fits _ ready.0.logged c.in-4.is)

pub set-requires-in-5 : goal.set-requires-in-5
unfolding kind_number
set-requires-in-5 c =
    let ready = c.requires in
    let is = c.in-5.is in
    (ready.0.good, set_is _ ready.0.logged TopicConfig topic_config is, set_is_plain _ ready.0.logged TopicConfig topic_config is, omega (arith, ready.0.space))

pub member-requires : goal.member-requires
unfolding kind_number
member-requires c =
    let ready = c.requires in
    let is = c.in-6.is in (
      ready.0.good,
      logged_is _ ready.0.logged BrokerConfig is (λ e. impossible cc),
      config_grouped _ ready.0.logged is,
      config_ordered _ ready.0.logged is _,
      omega (arith, ready.0.space),
      ready.1,
    )

pub quota-requires : goal.quota-requires
unfolding kind_number
quota-requires c =
    let ready = c.requires in (
      ready.0.good,
      logged_is _ ready.0.logged ClientQuota c.in-7.is (λ e. impossible cc),
      record-kind _ ready.0.logged ClientQuota c.in-7.is (λ e. impossible cc),
      omega (arith, ready.0.space),
      ready.1,
      ready.2,
    )

pub producers-requires : goal.producers-requires
unfolding kind_number
producers-requires c =
    let ready = c.requires in (
      ready.0.good,
      logged_is _ ready.0.logged ProducerIds c.in-8.is (λ e. impossible cc),
      record-kind _ ready.0.logged ProducerIds c.in-8.is (λ e. impossible cc),
      ready.0.stored,
      omega (arith, ready.0.space),
    )

pub unregister-requires : goal.unregister-requires
unfolding kind_number
unregister-requires c =
    let ready = c.requires in (
      ready.0.good,
      logged_is _ ready.0.logged UnregisterBroker c.in-9.is (λ e. impossible cc),
      record-kind _ ready.0.logged UnregisterBroker c.in-9.is (λ e. impossible cc),
    )

pub with_kraft-requires : goal.with_kraft-requires
unfolding kind_number
with_kraft-requires c =
    let ready = c.requires in
    (headed _ ready.0.logged, kraft_width _ ready.0.logged c.in-10.is)

pub set-requires-in-11 : goal.set-requires-in-11
unfolding kind_number
set-requires-in-11 c =
    let ready = c.requires in
    let is = c.in-11.is in
    (ready.0.good, set_is _ ready.0.logged FeatureLevel level is, set_is_plain _ ready.0.logged FeatureLevel level is, omega (arith, ready.0.space))

pub set-requires-in-12 : goal.set-requires-in-12
unfolding kind_number
set-requires-in-12 c =
    let ready = c.requires in
    let is = c.in-12.is in
    (ready.0.good, set_is _ ready.0.logged ClientMetricsConfig metrics is, set_is_plain _ ready.0.logged ClientMetricsConfig metrics is, omega (arith, ready.0.space))

pub with_epoch-requires : goal.with_epoch-requires
unfolding kind_number
with_epoch-requires c =
    let ready = c.requires in
    (headed _ ready.0.logged, epoch_width _ ready.0.logged c.in-13.is)

pub assign-requires : goal.assign-requires
unfolding kind_number
assign-requires c =
    let ready = c.requires in (
      ready.0.good,
      logged_is _ ready.0.logged PartitionDirAssignment c.in-14.is (λ e. impossible cc),
      record-kind _ ready.0.logged PartitionDirAssignment c.in-14.is (λ e. impossible cc),
      ready.0.ascends,
      omega (arith, ready.0.space),
      ready.1,
    )

pub add_offset-requires : goal.add_offset-requires
unfolding kind_number
add_offset-requires c =
    let ready = c.requires in (
      ready.0.good,
      logged_is _ ready.0.logged PartitionOffsetAdvance c.in-15.is (λ e. impossible cc),
      record-kind _ ready.0.logged PartitionOffsetAdvance c.in-15.is (λ e. impossible cc),
      omega (arith, ready.0.space),
      ready.1,
    )

pub set-requires-in-16 : goal.set-requires-in-16
unfolding kind_number
set-requires-in-16 c =
    let ready = c.requires in
    let is = c.in-16.is in
    (ready.0.good, set_is _ ready.0.logged GroupConfig group is, set_is_plain _ ready.0.logged GroupConfig group is, omega (arith, ready.0.space))

pub set-requires-in-17 : goal.set-requires-in-17
unfolding kind_number
set-requires-in-17 c =
    let ready = c.requires in
    let is = c.in-17.is in
    (ready.0.good, set_is _ ready.0.logged ControllerRegistration controller is, set_is_plain _ ready.0.logged ControllerRegistration controller is, omega (arith, ready.0.space))

pub set-requires-in-18 : goal.set-requires-in-18
unfolding kind_number
set-requires-in-18 c =
    let ready = c.requires in
    let is = c.in-18.is in
    (ready.0.good, set_is _ ready.0.logged TopicFreeze freeze is, set_is_plain _ ready.0.logged TopicFreeze freeze is, omega (arith, ready.0.space))

pub set-requires-in-19 : goal.set-requires-in-19
unfolding kind_number
set-requires-in-19 c =
    let ready = c.requires in
    let is = c.in-19.is in
    (ready.0.good, set_is _ ready.0.logged BreakGlassProposal proposal is, set_is_plain _ ready.0.logged BreakGlassProposal proposal is, omega (arith, ready.0.space))

pub erase_first-requires : goal.erase_first-requires
unfolding kind_number
erase_first-requires c =
    let ready = c.requires in
    (ready.0.good, headed _ ready.0.logged, proposal_asked _ ready.0.logged c.in-20.is)

pub set-requires-in-21 : goal.set-requires-in-21
unfolding kind_number
set-requires-in-21 c =
    let ready = c.requires in
    let is = c.in-21.is in
    (ready.0.good, set_is _ ready.0.logged PartitionElr elr is, set_is_plain _ ready.0.logged PartitionElr elr is, omega (arith, ready.0.space))

pub set-requires-in-22 : goal.set-requires-in-22
unfolding kind_number
set-requires-in-22 c =
    let ready = c.requires in
    let is = c.in-22.is in
    (ready.0.good, set_is _ ready.0.logged PartitionRecovery recovery is, set_is_plain _ ready.0.logged PartitionRecovery recovery is, omega (arith, ready.0.space))

pub update-requires : goal.update-requires
unfolding kind_number
update-requires c =
    let ready = c.requires in (
      ready.0.good,
      logged_is _ ready.0.logged PartitionUpdate c.in-23.is (λ e. impossible cc),
      record-kind _ ready.0.logged PartitionUpdate c.in-23.is (λ e. impossible cc),
      ready.0.counts,
      ready.0.space,
      ready.1,
    )

pub change_broker-requires : goal.change_broker-requires
unfolding kind_number
change_broker-requires c =
    let ready = c.requires in (
      ready.0.good,
      logged_is _ ready.0.logged BrokerRegistrationChange c.in-24.is (λ e. impossible cc),
      record-kind _ ready.0.logged BrokerRegistrationChange c.in-24.is (λ e. impossible cc),
      omega (arith, ready.0.space),
      ready.1,
    )

pub node_at-requires : goal.node_at-requires
unfolding kind_number
node_at-requires c =
    let ready = c.requires in
    (headed _ ready.0.logged, controller_width _ ready.0.logged c.in-25.is)

pub erase_node-requires : goal.erase_node-requires
unfolding kind_number
erase_node-requires c =
    let ready = c.requires in
    (ready.0.good, controller_query _ (length-bytes 8 c.node_at.result.0))

pub returns-in-1 : goal.returns-in-1
unfolding kind_number
returns-in-1 c =
    let ready = c.requires.0 in
    let is = c.in-1.is in
    let made = topic_made _ ready.logged is c.put_topic.ensures in
    planned_bounds c.args.rec.now ready.logged c.args.w.now _ c.args.state made is (refl, refl, refl, refl) c.with_bounds.ensures

pub returns-in-2 : goal.returns-in-2
unfolding kind_number
returns-in-2 c =
    let ready = c.requires.0 in
    let is = c.in-2.is in
    let made = part-made _ ready.logged is c.put_partition.ensures in
    planned_bounds c.args.rec.now ready.logged c.args.w.now _ c.args.state made is (refl, refl, refl, refl) c.with_bounds-in-2.ensures

pub returns-in-3 : goal.returns-in-3
unfolding kind_number
returns-in-3 c =
    let ready = c.requires.0 in
    let is = c.in-3.is in
    let made = set-made _ ready.logged BrokerRegistration broker is ready.good c.set.ensures in
    planned_bounds c.args.rec.now ready.logged c.args.w.now _ c.args.state made is (refl, refl, refl, refl) c.with_bounds-in-3.ensures

pub returns-in-4 : goal.returns-in-4
unfolding kind_number
returns-in-4 c =
    let ready = c.requires.0 in
    let is = c.in-4.is in
    let made = delete_made _ ready.logged is c.delete_topic.ensures in
    planned_bounds c.args.rec.now ready.logged c.args.w.now _ c.args.state made is (refl, refl, refl, refl) c.with_bounds-in-4.ensures

pub returns-in-5 : goal.returns-in-5
unfolding kind_number
returns-in-5 c =
    let ready = c.requires.0 in
    let is = c.in-5.is in
    let made = set-made _ ready.logged TopicConfig topic_config is ready.good c.set-in-5.ensures in
    planned_bounds c.args.rec.now ready.logged c.args.w.now _ c.args.state made is (refl, refl, refl, refl) c.with_bounds-in-5.ensures

pub returns-in-6 : goal.returns-in-6
unfolding kind_number
returns-in-6 c =
    let ready = c.requires.0 in
    let is = c.in-6.is in
    let made = config_made _ ready.logged is c.member.ensures in
    planned_bounds c.args.rec.now ready.logged c.args.w.now _ c.args.state made is (refl, refl, refl, refl) c.with_bounds-in-6.ensures

pub returns-in-7 : goal.returns-in-7
unfolding kind_number
returns-in-7 c =
    let ready = c.requires.0 in
    let is = c.in-7.is in
    let made = by_record _ ready.logged ClientQuota is (λ e. impossible cc) c.quota.ensures in
    planned_bounds c.args.rec.now ready.logged c.args.w.now _ c.args.state made is (refl, refl, refl, refl) c.with_bounds-in-7.ensures

pub returns-in-8 : goal.returns-in-8
unfolding kind_number
returns-in-8 c =
    let ready = c.requires.0 in
    let is = c.in-8.is in
    let made = by_record _ ready.logged ProducerIds is (λ e. impossible cc) c.producers.ensures in
    planned_bounds c.args.rec.now ready.logged c.args.w.now _ c.args.state made is (refl, refl, refl, refl) c.with_bounds-in-8.ensures

pub returns-in-9 : goal.returns-in-9
unfolding kind_number
returns-in-9 c =
    let ready = c.requires.0 in
    let is = c.in-9.is in
    let made = by_record _ ready.logged UnregisterBroker is (λ e. impossible cc) c.unregister.ensures in
    planned_bounds c.args.rec.now ready.logged c.args.w.now _ c.args.state made is (refl, refl, refl, refl) c.with_bounds-in-9.ensures

pub returns-in-10 : goal.returns-in-10
returns-in-10 c =
    let ready = c.requires.0 in
    planned_kraft c.args.rec.now ready.logged c.args.w.now c.args.state ready.good c.in-10.is c.with_kraft.ensures

pub returns-in-11 : goal.returns-in-11
unfolding kind_number
returns-in-11 c =
    let ready = c.requires.0 in
    let is = c.in-11.is in
    let made = set-made _ ready.logged FeatureLevel level is ready.good c.set-in-11.ensures in
    planned_level c.args.rec.now ready.logged c.args.w.now _ c.args.state made is c.with_level.ensures

pub returns-in-12 : goal.returns-in-12
unfolding kind_number
returns-in-12 c =
    let ready = c.requires.0 in
    let is = c.in-12.is in
    let made = set-made _ ready.logged ClientMetricsConfig metrics is ready.good c.set-in-12.ensures in
    planned_bounds c.args.rec.now ready.logged c.args.w.now _ c.args.state made is (refl, refl, refl, refl) c.with_bounds-in-12.ensures

pub returns-in-13 : goal.returns-in-13
returns-in-13 c =
    let ready = c.requires.0 in
    planned_epoch c.args.rec.now ready.logged c.args.w.now c.args.state ready.good c.in-13.is c.with_epoch.ensures

pub returns-in-14 : goal.returns-in-14
unfolding kind_number
returns-in-14 c =
    let ready = c.requires.0 in
    let is = c.in-14.is in
    let made = by_record _ ready.logged PartitionDirAssignment is (λ e. impossible cc) c.assign.ensures in
    planned_bounds c.args.rec.now ready.logged c.args.w.now _ c.args.state made is (refl, refl, refl, refl) c.with_bounds-in-14.ensures

pub returns-in-15 : goal.returns-in-15
returns-in-15 c =
    planned_offset c.args.rec.now c.requires.0.logged c.in-15.is c.args.w.now c.add_offset.new.w c.args.state
    c.add_offset.result c.add_offset.ensures

pub returns-in-16 : goal.returns-in-16
unfolding kind_number
returns-in-16 c =
    let ready = c.requires.0 in
    let is = c.in-16.is in
    let made = set-made _ ready.logged GroupConfig group is ready.good c.set-in-16.ensures in
    planned_bounds c.args.rec.now ready.logged c.args.w.now _ c.args.state made is (refl, refl, refl, refl) c.with_bounds-in-16.ensures

pub returns-in-17 : goal.returns-in-17
unfolding kind_number
returns-in-17 c =
    let ready = c.requires.0 in
    let is = c.in-17.is in
    let made = set-made _ ready.logged ControllerRegistration controller is ready.good c.set-in-17.ensures in
    planned_bounds c.args.rec.now ready.logged c.args.w.now _ c.args.state made is (refl, refl, refl, refl) c.with_bounds-in-17.ensures

pub returns-in-18 : goal.returns-in-18
unfolding kind_number
returns-in-18 c =
    let ready = c.requires.0 in
    let is = c.in-18.is in
    let made = set-made _ ready.logged TopicFreeze freeze is ready.good c.set-in-18.ensures in
    planned_bounds c.args.rec.now ready.logged c.args.w.now _ c.args.state made is (refl, refl, refl, refl) c.with_bounds-in-18.ensures

pub returns-in-19 : goal.returns-in-19
unfolding kind_number
returns-in-19 c =
    let ready = c.requires.0 in
    let is = c.in-19.is in
    let made = set-made _ ready.logged BreakGlassProposal proposal is ready.good c.set-in-19.ensures in
    planned_bounds c.args.rec.now ready.logged c.args.w.now _ c.args.state made is (refl, refl, refl, refl) c.with_bounds-in-19.ensures

pub returns-in-20 : goal.returns-in-20
unfolding kind_number
returns-in-20 c =
    let ready = c.requires.0 in
    let is = c.in-20.is in
    let made = proposal_made _ ready.logged is c.erase_first.ensures in
    planned_bounds c.args.rec.now ready.logged c.args.w.now _ c.args.state made is (refl, refl, refl, refl) c.with_bounds-in-20.ensures

pub returns-in-21 : goal.returns-in-21
unfolding kind_number
returns-in-21 c =
    let ready = c.requires.0 in
    let is = c.in-21.is in
    let made = set-made _ ready.logged PartitionElr elr is ready.good c.set-in-21.ensures in
    planned_bounds c.args.rec.now ready.logged c.args.w.now _ c.args.state made is (refl, refl, refl, refl) c.with_bounds-in-21.ensures

pub returns-in-22 : goal.returns-in-22
unfolding kind_number
returns-in-22 c =
    let ready = c.requires.0 in
    let is = c.in-22.is in
    let made = set-made _ ready.logged PartitionRecovery recovery is ready.good c.set-in-22.ensures in
    planned_bounds c.args.rec.now ready.logged c.args.w.now _ c.args.state made is (refl, refl, refl, refl) c.with_bounds-in-22.ensures

pub returns-in-23 : goal.returns-in-23
unfolding kind_number
returns-in-23 c =
    let ready = c.requires.0 in
    let is = c.in-23.is in
    let made = update_made _ ready.logged is c.update.ensures in
    planned_bounds c.args.rec.now ready.logged c.args.w.now _ c.args.state made is (refl, refl, refl, refl) c.with_bounds-in-23.ensures

pub returns-in-24 : goal.returns-in-24
unfolding kind_number
returns-in-24 c =
    let ready = c.requires.0 in
    let is = c.in-24.is in
    let made = by_record _ ready.logged BrokerRegistrationChange is (λ e. impossible cc) c.change_broker.ensures in
    planned_bounds c.args.rec.now ready.logged c.args.w.now _ c.args.state made is (refl, refl, refl, refl) c.with_bounds-in-24.ensures

pub returns-in-25 : goal.returns-in-25
unfolding kind_number
returns-in-25 c =
    let ready = c.requires.0 in
    let is = c.in-25.is in
    let made = controller_made _ ready.logged is (drop-lent 17 c.node_at.ensures c.erase_node.ensures) in
    planned_bounds c.args.rec.now ready.logged c.args.w.now _ c.args.state made is (refl, refl, refl, refl) c.with_bounds-in-25.ensures

pub returns-in-0 : goal.returns-in-0
unfolding kind_number
returns-in-0 c = kind_zero _ c.requires.0.logged c.in-0.in-0-own.keys26

pub returns-in-0-2 : goal.returns-in-0-2
returns-in-0-2 c = kind_past _ c.requires.0.logged (no_kind _ _ c.in-0.in-0-own.rest)
