-- Groups: the configs of a node and the quotas of an entity list are those whose keys are equal but for the last part.
use Rattle.std.specs.Prelude.{◌≡◌, refl, Bool, true, false, ◌&&◌, ◌||◌, not, ◌↔◌}
use Rattle.std.proofs.Math.Path.{sym, ap}
use Rattle.std.proofs.Common.{◌∙◌, arith, lit<, lit≤}
use mathlib.Core.List.{List, [], ◌∷◌, ◌++◌}
use Rattle.std.proofs.Math.Option.{Option, none, some}
use Rattle.model.specs.Choice.{is_some, is_empty}
use Rattle.model.specs.Number.{Bytes}
use Rattle.model.specs.Order.{Key, same_bytes}
use Rattle.model.specs.Run.{Run, run_of, field, value, values, set_field, drop_field}
use Rattle.model.specs.Kind.{kind_number}
use Rattle.model.specs.Text.{text_after}
use Rattle.model.specs.Shape.{rows_of, shape_of, stored, fault}
use Rattle.model.specs.Record.{Rec, rec}
use Rattle.model.specs.Key.{rank, name_part, number_part, entities_key, subject, key_of, group_key, starts_with}
use Rattle.model.specs.Contents.{Entry, topic, part, plain, returned, key, record_key, group_of, in_group_of}
use Rattle.model.specs.Contents.{entities_in_order, is_config, is_quota, is_bare, is_group}
use Rattle.model.specs.declared.Kind.{Kind}
use Rattle.model.specs.declared.Kind.TheVariants.{BrokerConfig, ClientQuota}
use Rattle.laws.specs.Choice.{impossible, and_left, and_right, and_both}
use Rattle.laws.specs.Order.{same_bytes_self, same_bytes_true}
use Rattle.laws_records.specs.Fields.{field-set_other, value-set-same, value-set_other, values-set_other, set-fields}
use Rattle.laws_records.specs.Fields.{field-drop-same, value-drop_other, values-drop_other, drop-none, drop-fields}
use Rattle.laws_records.specs.Faults.{set-fault, drop-fault, fault_required, fault-set_field}
use Rattle.laws_image.specs.Fits.{Readable}
use Rattle.laws_image.specs.Kinds.{is_kind}
use Rattle.laws_image.specs.Ranks.{rank_injective}

-- the kinds that have groups
pub data Grouped : Kind → Type 0 where
  config : Grouped BrokerConfig
  quota : Grouped ClientQuota

pub grouped : (r : Rec) → is_config r || is_quota r ≡ true → Grouped r.kind
grouped r h = go (is_config r) refl (is_quota r) refl h
  where
    go : (a : Bool) → is_config r ≡ a → (b : Bool) → is_quota r ≡ b → a || b ≡ true → Grouped r.kind
    go true e b f q = rw (is_kind r.kind BrokerConfig e) config
    go false e true f q = rw (is_kind r.kind ClientQuota f) quota
    go false e false f q = impossible cc

grouped_kind : {k : Kind} → Grouped k → (r : Run) → is_config (rec k r) || is_quota (rec k r) ≡ true
unfolding kind_number
grouped_kind config r = refl
grouped_kind quota r = refl

-- 1. Keys without their last part

pub group_last : (k : Key) (p : Bytes) → group_key (k ++ (p ∷ [])) ≡ k
unfolding group_key
group_last [] p = refl
group_last (a ∷ []) p = refl
group_last (a ∷ b ∷ k) p = ap (λ (t : Key). a ∷ t) (group_last (b ∷ k) p)

pub starts_group : (k : Key) → starts_with (group_key k) k ≡ true
unfolding group_key starts_with
starts_group [] = refl
starts_group (p ∷ []) = refl
starts_group (p ∷ q ∷ k) = and_both (same_bytes p p) (starts_with (group_key (q ∷ k)) (q ∷ k)) (same_bytes_self p) (starts_group (q ∷ k))

starts_first : (p q : Bytes) (g k : Key) → starts_with (p ∷ g) (q ∷ k) ≡ true → (p ≡ q) × (starts_with g k ≡ true)
unfolding starts_with
starts_first p q g k h = (same_bytes_true p q (and_left (same_bytes p q) (starts_with g k) h), and_right (same_bytes p q) (starts_with g k) h)

-- 2. Entities end with an empty part, which no entity has

entities-append : (es : List Bytes) (k : Key) → entities_key es k ≡ entities_key es [] ++ k
unfolding entities_key
entities-append [] k = refl
entities-append (e ∷ es) k = ap (λ (t : Key). (1 ∷ value 1 (run_of e)) ∷ name_part (field 2 (run_of e)) ∷ t) (entities-append es k)

entities-start : (es fs : List Bytes) (k : Key) → starts_with (entities_key es []) (entities_key fs k) ≡ true
    → entities_key es [] ≡ entities_key fs []
unfolding entities_key
entities-start [] [] k h = refl
entities-start [] (f ∷ fs) k h = let e = (starts_first [] (1 ∷ value 1 (run_of f)) [] _ h).0 in impossible cc
entities-start (e ∷ es) [] k h = let q = (starts_first (1 ∷ value 1 (run_of e)) [] _ k h).0 in impossible cc
entities-start (e ∷ es) (f ∷ fs) k h =
    let a = starts_first (1 ∷ value 1 (run_of e)) (1 ∷ value 1 (run_of f)) _ _ h in
    let b = starts_first (name_part (field 2 (run_of e))) (name_part (field 2 (run_of f))) (entities_key es []) (entities_key fs k) a.1 in
    cc (a.0, b.0, entities-start es fs k b.1)

-- 3. The keys of groups

-- a group's key: of a config its node, of a quota its entities
abbrev pub grouping : {k : Kind} → Grouped k → Run → Key
grouping config r = (rank BrokerConfig ∷ []) ∷ number_part (value 1 r) ∷ []
grouping quota r = (rank ClientQuota ∷ []) ∷ entities_key (values 1 r) []

-- a member's key is its group's, then its name
member_key : {k : Kind} (g : Grouped k) (r : Run) → key_of k r ≡ grouping g r ++ (value 2 r ∷ [])
unfolding key_of subject
member_key config r = refl
member_key quota r = ap (λ (t : Key). (rank ClientQuota ∷ []) ∷ t) (entities-append (values 1 r) (value 2 r ∷ []))

pub group_grouping : {k : Kind} (g : Grouped k) (r : Run) → group_key (key_of k r) ≡ grouping g r
group_grouping g r = ap group_key (member_key g r) ∙ group_last (grouping g r) (value 2 r)

pub group_member : {k : Kind} (g : Grouped k) (r : Run) → key_of k r ≡ group_key (key_of k r) ++ (value 2 r ∷ [])
group_member g r = member_key g r ∙ ap (λ (t : Key). t ++ (value 2 r ∷ [])) (sym (group_grouping g r))

-- a key that starts with a group's is of its kind, and of its group
same_kind : {k : Kind} (g : Grouped k) (r : Run) (other : Kind) (s : Run) → starts_with (grouping g r) (key_of other s) ≡ true → other ≡ k
unfolding key_of rank
same_kind config r other s h =
    let e = (starts_first (3 ∷ []) (rank other ∷ []) _ (subject other s) h).0 in
    let q : rank other ≡ 3 = cc in
    rank_injective other BrokerConfig q (lit< tt)
same_kind quota r other s h =
    let e = (starts_first (10 ∷ []) (rank other ∷ []) _ (subject other s) h).0 in
    let q : rank other ≡ 10 = cc in
    rank_injective other ClientQuota q (lit< tt)

same_group : {k : Kind} (g : Grouped k) (r s : Run) → starts_with (grouping g r) (key_of k s) ≡ true → grouping g r ≡ grouping g s
unfolding key_of subject
same_group config r s h =
    let p = number_part (value 1 r) in
    let q = number_part (value 1 s) in
    let a = starts_first (rank BrokerConfig ∷ []) (rank BrokerConfig ∷ []) (p ∷ []) (q ∷ value 2 s ∷ []) h in
    let b = starts_first p q [] (value 2 s ∷ []) a.1 in
    ap (λ (p : Bytes). (rank BrokerConfig ∷ []) ∷ p ∷ []) b.0
same_group quota r s h =
    let k = value 2 s ∷ [] in
    let a = starts_first (rank ClientQuota ∷ []) (rank ClientQuota ∷ []) (entities_key (values 1 r) []) (entities_key (values 1 s) k) h in
    ap (λ (t : Key). (rank ClientQuota ∷ []) ∷ t) (entities-start (values 1 r) (values 1 s) k a.1)

group_of-start : {k : Kind} (g : Grouped k) (r : Run) (other : Kind) (s : Run) → starts_with (group_key (key_of k r)) (key_of other s) ≡ true
    → group_key (key_of other s) ≡ group_key (key_of k r)
group_of-start {k} g r other s h =
    let q : starts_with (grouping g r) (key_of other s) ≡ true = rw (group_grouping g r) at h in
    let e : other ≡ k = same_kind g r other s q in
    let w : starts_with (grouping g r) (key_of k s) ≡ true = rw e at q in
    ap (λ (j : Kind). group_key (key_of j s)) e ∙ group_grouping g s ∙ sym (same_group g r s w) ∙ sym (group_grouping g r)

-- 4. Members of a group

-- an entry's key is its record's
pub key-returned : (e : Entry) → key e ≡ record_key (returned e)
unfolding key returned key_of subject field
key-returned (topic name id count factor named) = refl
key-returned (part r) = refl
key-returned (plain r) = refl

start_of_group : (g k : Key) → group_key k ≡ g → starts_with g k ≡ true
start_of_group g k e = rw (← e) (starts_group k)

module _ (r : Rec) (g : Grouped r.kind) where
  pub in_group : (e : Entry) → (in_group_of r (key e) ≡ true) ↔ (group_key (key e) ≡ group_key (record_key r))
  in_group e = (there, start_of_group (group_key (record_key r)) (key e))
    where
      there : in_group_of r (key e) ≡ true → group_key (key e) ≡ group_key (record_key r)
      there = rw (key-returned e) (group_of-start g r.run (returned e).kind (returned e).run)

  pub in_group_record : (s : Rec) → (in_group_of r (record_key s) ≡ true) ↔ (group_key (record_key s) ≡ group_key (record_key r))
  in_group_record s = (group_of-start g r.run s.kind s.run, start_of_group (group_key (record_key r)) (record_key s))

-- 5. The record of an empty group

-- a run without a name and a value
abbrev bared : Run → Run
bared r = set_field 2 [] (drop_field 3 r)

module _ (r : Run) where
  bared-values : values 1 (bared r) ≡ values 1 r
  bared-values = values-set_other 2 [] 1 (λ e. omega arith) (drop_field 3 r) ∙ values-drop_other 3 1 (λ e. omega arith) r

  bared-value : value 1 (bared r) ≡ value 1 r
  bared-value = value-set_other 2 [] 1 (λ e. omega arith) (drop_field 3 r) ∙ value-drop_other 3 1 (λ e. omega arith) r

  bared_name : value 2 (bared r) ≡ []
  bared_name = value-set-same 2 [] (drop_field 3 r)

  bared-field : field 3 (bared r) ≡ none
  bared-field = field-set_other 2 [] 3 (λ e. omega arith) (drop_field 3 r) ∙ field-drop-same 3 r

bared-grouping : {k : Kind} (g : Grouped k) (r : Run) → grouping g (bared r) ≡ grouping g r
bared-grouping config r = rw (bared-value r)
bared-grouping quota r = rw (bared-values r)

module _ (r : Rec) (g : Grouped r.kind) where
  -- it is of the same group, with an empty name
  pub group_key_lem : group_key (record_key (group_of r)) ≡ group_key (record_key r)
  unfolding group_of
  group_key_lem = group_grouping g (bared r.run) ∙ bared-grouping g r.run ∙ sym (group_grouping g r.run)

  pub group_record_key : record_key (group_of r) ≡ group_key (record_key r) ++ ([] ∷ [])
  unfolding group_of
  group_record_key = group_member g (bared r.run) ∙ rw (group_key_lem, bared_name r.run)

  pub in_group_of_lem : (k : Key) → in_group_of (group_of r) k ≡ in_group_of r k
  in_group_of_lem k = ap (λ (t : Key). starts_with t k) group_key_lem

  pub group_is_group : is_config r || entities_in_order (values 1 r.run) ≡ true → is_group (group_of r) ≡ true
  unfolding is_group group_of
  group_is_group h =
      let run = r.run in
      and_both (is_bare (group_of r) && is_empty (value 2 (bared run))) (is_config r || entities_in_order (values 1 (bared run)))
      (and_both (is_bare (group_of r)) (is_empty (value 2 (bared run))) (rw (bared-field run, grouped_kind g run)) (rw (bared_name run)))
      (rw (bared-values run) h)

-- what the test of an empty group's record says
pub record GroupHolds (r : Rec) : Type 0 where
  pub kind : Grouped r.kind
  pub name : value 2 r.run ≡ []
  pub bare : field 3 r.run ≡ none
  pub ordered : is_config r || entities_in_order (values 1 r.run) ≡ true

empty_nil : (v : Bytes) → is_empty v ≡ true → v ≡ []
empty_nil [] h = refl
empty_nil (x ∷ v) h = impossible cc

missing-none : (o : Option Bytes) → not (is_some o) ≡ true → o ≡ none
missing-none none h = refl
missing-none (some v) h = impossible cc

pub group_holds : (r : Rec) → is_group r ≡ true → GroupHolds r
unfolding is_group
group_holds r h =
    let kinds = is_config r || is_quota r in
    let lacking = not (is_some (field 3 r.run)) in
    let nameless = is_empty (value 2 r.run) in
    let ordered = is_config r || entities_in_order (values 1 r.run) in
    let two = and_left (kinds && lacking && nameless) ordered h in
    let one = and_left (kinds && lacking) nameless two in
    record {
      kind = grouped r (and_left kinds lacking one);
      name = empty_nil (value 2 r.run) (and_right (kinds && lacking) nameless two);
      bare = missing-none (field 3 r.run) (and_right kinds lacking one);
      ordered = and_right (kinds && lacking && nameless) ordered h;
    }

-- 6. It reads back, and an empty group's record is its own group's

bared_passes : {k : Kind} → Grouped k → (r : Run) → fault stored k r ≡ 0 → fault stored k (bared r) ≡ 0
unfolding rows_of shape_of kind_number text_after
bared_passes config r ok =
    set-fault stored BrokerConfig (drop_field 3 r) (drop-fault stored BrokerConfig r ok 3 refl refl) 2 refl [] refl (refl, lit≤ tt)
bared_passes quota r ok =
    set-fault stored ClientQuota (drop_field 3 r) (drop-fault stored ClientQuota r ok 3 refl refl) 2 refl [] refl (refl, lit≤ tt)

-- a member's name is there
member_name : {k : Kind} → Grouped k → (r : Run) → fault stored k r ≡ 0 → field 2 r ≡ some (value 2 r)
unfolding rows_of shape_of kind_number
member_name config r ok = let t = fault_required stored BrokerConfig r ok 2 refl refl in simp t.1
member_name quota r ok = let t = fault_required stored ClientQuota r ok 2 refl refl in simp t.1

nameless : {k : Kind} → Grouped k → (r : Run) → fault stored k r ≡ 0 → value 2 r ≡ [] → field 3 r ≡ none → bared r ≡ r
nameless {k} g r ok e f =
    ap (set_field 2 []) (drop-none 3 r f) ∙ fault-set_field stored k r ok 2 [] (member_name g r ok ∙ ap some e)

module _ (r : Rec) (readable : Readable r) where
  pub group_readable : Grouped r.kind → Readable (group_of r)
  unfolding group_of
  group_readable g = record {
    passes = bared_passes g r.run readable.passes;
    fields = set-fields 2 [] (drop_field 3 r.run) (lit< tt) tt (drop-fields 3 r.run readable.fields);
  }

  pub group_still : is_group r ≡ true → group_of r ≡ r
  unfolding group_of
  group_still h =
      let d = group_holds r h in
      ap (rec r.kind) (nameless d.kind r.run readable.passes d.name d.bare)
