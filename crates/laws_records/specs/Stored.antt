-- Records as an image stores them: as they are logged, but for a topic's one field more.
use Rattle.std.specs.Prelude.{◌≡◌, Bool, true, false, ℕ, eqb}
use Rattle.std.proofs.Math.Path.{refl}
use Rattle.std.proofs.Common.{sym, ◌∙◌, ne_eqb}
use Rattle.model.specs.Number.{Bytes}
use Rattle.model.specs.Run.{Run, done, item}
use Rattle.model.specs.Kind.{kind_number}
use Rattle.model.specs.declared.Kind.{Kind}
use Rattle.model.specs.declared.Kind.TheVariants.{Topic}
use Rattle.model.specs.Shape.{rows_of, any_required, may_follow, leaf_fault, run_fault, value_fault, logged, stored, framed, shape_of, fault}
use Rattle.model.specs.Contents.{topic_run, flag_bytes}
use Rattle.laws_records.specs.Kinds.{number_injective}
use Rattle.laws_records.specs.Faults.{fault-run}

module _ (kind : Kind) (apart : kind ≡ Topic → ⊥) where
  pub shape_stored : shape_of stored kind ≡ shape_of logged kind
  unfolding shape_of kind_number
  shape_stored = rw (ne_eqb (kind_number kind) 1 (λ e. apart (number_injective kind Topic e)))

  pub fault_stored : (run : Run) → fault stored kind run ≡ fault logged kind run
  fault_stored run = rw shape_stored

pub fault_topic : (name id : Bytes) (count factor : ℕ) (named : Bool)
    → fault stored Topic (topic_run name id count factor (item 5 (flag_bytes named) done))
    ≡ fault logged Topic (topic_run name id count factor done)
unfolding rows_of shape_of kind_number any_required may_follow leaf_fault value_fault run_fault
fault_topic name id count factor true = refl
fault_topic name id count factor false = refl

-- a topic passes whatever its count, factor and flag
pub topic_passes : (name id : Bytes) (count factor c f : ℕ) (named b : Bool)
    → fault stored Topic (topic_run name id c f (item 5 (flag_bytes b) done))
    ≡ fault stored Topic (topic_run name id count factor (item 5 (flag_bytes named) done))
topic_passes name id count factor c f named b = fault_topic name id c f b ∙ same ∙ sym (fault_topic name id count factor named)
  where
    same : fault logged Topic (topic_run name id c f done) ≡ fault logged Topic (topic_run name id count factor done)
    same = unfold rows_of shape_of any_required may_follow leaf_fault value_fault run_fault in refl

-- what is logged reads by itself and in a snapshot too; the other way round but for kind 26
pub logged_framed : (kind : Kind) (run : Run) → fault logged kind run ≡ 0 → fault framed kind run ≡ 0
unfolding shape_of
logged_framed kind run ok = fault-run logged kind run ok

pub framed_logged : (kind : Kind) (run : Run) → eqb (kind_number kind) 26 ≡ false → fault framed kind run ≡ fault logged kind run
unfolding shape_of
framed_logged kind run h = rw h refl
