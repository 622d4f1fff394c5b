-- One quota in two spellings, its entities the other way round: 02's request 8, and what it claims of images and of Restore.
-- `crates/laws_apply` proves the claims.
use Rattle.std.specs.Prelude.{◌≡◌, Bool, true, false, cond, ◌&&◌}
use mathlib.Core.List.{List, [], ◌∷◌, ◌++◌, map, Memᴰ}
use Rattle.std.proofs.Math.Option.{Option, none, some}
use Rattle.model.specs.Choice.{given, is_empty, last_of}
use Rattle.model.specs.Number.{Bytes, AreBytes}
use Rattle.model.specs.Order.{Key, compare_keys, same_bytes, is_same}
use Rattle.model.specs.Run.{Run, field, value, values}
use Rattle.model.specs.Shape.{framed}
use Rattle.model.specs.Record.{Rec, rec}
use Rattle.model.specs.Items.{items_of, records}
use Rattle.model.specs.Key.{group_key}
use Rattle.model.specs.Contents.{returned, record_key, entity_key, is_quota, Contents}
use Rattle.model.specs.Image.{is_image, contents_of}
use Rattle.model.specs.Move.{run_at, sorted_quota}
use Rattle.model.specs.Reply.{accepted}
use Rattle.model.specs.Snapshot.{restore_of}
use Rattle.model.specs.declared.Kind.TheVariants.{ClientQuota}

-- 1. The same entities in any order

-- a list without the first of its keys that is a given one; none where it has none
unfoldable pub without : Key → List Key → Option (List Key)
without k [] = none
without k (x ∷ l) = cond (is_same (compare_keys k x)) (some l) (given (without k l) none (λ m. some (x ∷ m)))

-- whether two lists hold the same keys, each as often
unfoldable pub is_permuted : List Key → List Key → Bool
is_permuted [] m = is_empty m
is_permuted (k ∷ l) m = given (without k m) false (is_permuted l)

-- what a quota's entities say: each its type, and its name or that it has none
abbrev pub entities_of : Run → List Key
entities_of f = map entity_key (values 1 f)

abbrev pub same_entities : Run → Run → Bool
same_entities f g = is_permuted (entities_of f) (entities_of g)

-- a quota record with the same entities, in any order, and the same quota key
unfoldable pub is_quota_of : Run → Rec → Bool
is_quota_of f r = is_quota r && same_entities f r.run && same_bytes (value 2 f) (value 2 r.run)

-- 2. What stands

-- the group that Apply puts a quota into
abbrev pub quota_group : Run → Key
quota_group f = group_key (record_key (sorted_quota f))

-- the value that contents have for a quota
abbrev pub quota_value : Run → Contents → Option Bytes
quota_value f c = given (run_at (record_key (sorted_quota f)) c.real) none (field 3)

-- quotas with the same entities stand in one group, the empty groups among them
abbrev pub InOneGroup : Contents → Type 0
InOneGroup c =
    let held = map returned c.real ++ c.empties in
    (f g : Run) → Memᴰ (rec ClientQuota f) held → Memᴰ (rec ClientQuota g) held → same_entities f g ≡ true →
    group_key (record_key (rec ClientQuota f)) ≡ group_key (record_key (rec ClientQuota g))

-- 3. The claims

-- "Two tools write the same quota with its two user entities the other way round": Apply puts both into one group
abbrev pub QuotasMeet : Type 0
QuotasMeet = (f g : Run) → same_entities f g ≡ true → quota_group f ≡ quota_group g

-- "A buffer with the old order is no image"
abbrev pub OneGroup : Type 0
OneGroup = (image : Bytes) → AreBytes image → is_image image ≡ true → InOneGroup (contents_of image)

-- "An old snapshot that holds both spellings, where Restore takes it, gives one group; for each quota key the later record's value stands." The
-- last record of a quota in the run may stand anywhere in it, and leaves no value where it has none. By 02, 5, the run starts with kind 26.
abbrev pub LaterStands : Type 0
LaterStands =
    (run b : Bytes) → AreBytes run → (restore_of run b).reply ≡ accepted [] →
    let c = contents_of (restore_of run b).buffer in
    InOneGroup c × ((f : Run) → quota_value f c ≡ given (last_of (is_quota_of f) (records (items_of framed run))) none (λ r. field 3 r.run))
