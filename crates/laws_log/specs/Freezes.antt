-- What a record does to the freeze of a pattern and scope: a freeze record of them puts it in force or takes it out, every other record leaves it.
use Rattle.std.specs.Prelude.{◌≡◌, List, [], ◌∷◌, Bool, cond, eqb}
use Rattle.std.proofs.Math.Path.{refl, ap}
use Rattle.std.proofs.Common.{◌∙◌, arith, lit<, eq-eqb}
use Rattle.std.proofs.Math.Option.{Option, none, some}
use Rattle.std.proofs.Math.Bool.{true, false}
use Rattle.model.specs.Choice.{given}
use Rattle.model.specs.Number.{Bytes, number}
use Rattle.model.specs.Order.{Key, same_bytes}
use Rattle.model.specs.Run.{Run, value}
use Rattle.model.specs.Kind.{kind_number}
use Rattle.model.specs.Record.{Rec, rec}
use Rattle.model.specs.Key.{rank, subject, key_of, freeze_key}
use Rattle.model.specs.Map.{put, get, remove}
use Rattle.model.specs.Contents.{Entry, plain, returned, key, Contents}
use Rattle.model.specs.Move.{set_or_drop, on_real, move, moves, plan, moved}
use Rattle.model.specs.Lookup.{returned_at}
use Rattle.model.specs.LogFreeze.{is_freeze, is_freeze_of, in_force}
use Rattle.model.specs.declared.Kind.TheVariants.{TopicFreeze}
use Rattle.laws.specs.Choice.{true_false, and_left, and_right}
use Rattle.laws.specs.Order.{same_bytes_self, same_bytes_true}
use Rattle.laws.specs.Map.{Asc, get-put-same, get-put_other, get_remove_same, get_remove_other}
use Rattle.laws_image.specs.Kinds.{is_kind}
use Rattle.laws_image.specs.Ranks.{rank_injective}
use Rattle.laws_apply.specs.Untouched.{moved_other}

module _ (pattern scope : Bytes) where
  abbrev k : Key
  k = freeze_key pattern scope

  abbrev shows : Contents → Option Rec
  shows c = returned_at k c.real

  abbrev record_of : Option Entry → Option Rec
  record_of o = given o none (λ e. some (returned e))

  same-freeze : (f : Run) → is_freeze_of pattern scope (rec TopicFreeze f) ≡ true → k ≡ key_of TopicFreeze f
  unfolding is_freeze_of kind_number key_of subject
  same-freeze f h =
      let a = same_bytes (value 2 f) pattern in
      let b = same_bytes (value 1 f) scope in
      let p = same_bytes_true (value 2 f) pattern (and_left a b h) in
      let s = same_bytes_true (value 1 f) scope (and_right a b h) in
      cc (p, s)

  other_freeze : (f : Run) → is_freeze_of pattern scope (rec TopicFreeze f) ≡ false → k ≡ key_of TopicFreeze f → ⊥
  unfolding is_freeze_of kind_number key_of subject
  other_freeze f h e =
      let p : pattern ≡ value 2 f = cc in
      let s : scope ≡ value 1 f = cc in
      true_false (rw (same_bytes_self pattern, same_bytes_self scope) refl) (rw (← p, ← s) at h)

  -- a freeze, and a thaw
  set-freeze : (f : Run) (l : List Entry) → Asc key l → (t : Bool) → is_freeze_of pattern scope (rec TopicFreeze f) ≡ t → (b : Bool)
      → returned_at k (on_real (set_or_drop b (rec TopicFreeze f)) l) ≡ cond t (cond b (some (rec TopicFreeze f)) none) (returned_at k l)
  unfolding on_real key returned
  set-freeze f l a true e true =
      ap (λ (x : Key). returned_at x (put key (plain (rec TopicFreeze f)) l)) (same-freeze f e)
      ∙ ap record_of (get-put-same key (plain (rec TopicFreeze f)) l)
  set-freeze f l a true e false =
      ap (λ (x : Key). returned_at x (remove key (key_of TopicFreeze f) l)) (same-freeze f e) ∙ ap record_of (get_remove_same key (key_of TopicFreeze f) l a)
  set-freeze f l a false e true = ap record_of (get-put_other key k (plain (rec TopicFreeze f)) (other_freeze f e) l)
  set-freeze f l a false e false = ap record_of (get_remove_other key k (key_of TopicFreeze f) (other_freeze f e) l a)

  -- a record of another kind
  other_kind : (r : Rec) (c : Contents) → Asc key c.real → is_freeze r ≡ false → get key k (moved r c).real ≡ get key k c.real
  unfolding rank
  other_kind r c a h = moved_other 14 (lit< tt) (λ q. omega arith) (pattern ∷ scope ∷ []) r c a other
    where
      own : rank r.kind ≡ 14 → is_freeze r ≡ true
      own q = rw (rank_injective r.kind TopicFreeze q (lit< tt)) (eq-eqb (kind_number TopicFreeze) (kind_number TopicFreeze) refl)

      other : rank r.kind ≡ 14 → ⊥
      other q = true_false (own q) h

  by_kind_lem : (r : Rec) (c : Contents) → Asc key c.real → (t : Bool) → is_freeze r ≡ t
      → shows (moved r c) ≡ cond (is_freeze_of pattern scope r) (in_force r) (shows c)
  by_kind_lem r c a true e =
      let f = r.run in
      rw (is_kind r.kind TopicFreeze e)
      (unfold moved plan moves move in set-freeze f c.real a (is_freeze_of pattern scope (rec TopicFreeze f)) refl (eqb (number (value 3 f)) 1))
  by_kind_lem r c a false e =
      let no : is_freeze_of pattern scope r ≡ false = unfold is_freeze_of in rw e refl in
      rw no (ap record_of (other_kind r c a e))

  pub moved-freeze : (r : Rec) (c : Contents) → Asc key c.real → shows (moved r c) ≡ cond (is_freeze_of pattern scope r) (in_force r) (shows c)
  moved-freeze r c a = by_kind_lem r c a (is_freeze r) refl
