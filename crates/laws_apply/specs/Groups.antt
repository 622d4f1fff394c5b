-- Empty groups: each reads back and has no member among the entries, after every change that a move makes.
use Rattle.std.specs.Prelude.{◌≡◌, refl, List, [], ◌∷◌, ◌++◌, map, Bool, true, false, cond, ◌||◌, ℕ}
use Rattle.std.proofs.Common.{sym, ◌∙◌, ap}
use Rattle.model.specs.Number.{Bytes}
use Rattle.model.specs.Order.{Key, same_bytes}
use Rattle.model.specs.Run.{Run, value, values}
use Rattle.model.specs.Record.{Rec}
use Rattle.model.specs.Key.{rank, rank_part, number_part, entities_key, subject, key_of, key_rank, group_key, starts_with}
use Rattle.model.specs.Map.{put, remove, any}
use Rattle.model.specs.Contents.{Entry, plain, key, record_key, group_of, in_group_of, entities_in_order, is_config, is_group}
use Rattle.model.specs.declared.Kind.{Kind}
use Rattle.model.specs.declared.Kind.TheVariants.{BrokerConfig, ClientQuota}
use Rattle.laws.specs.Choice.{impossible, not_true_false, and_left}
use Rattle.laws.specs.Order.{same_bytes_true}
use Rattle.laws.specs.Lists.{All, In, all_in, in_all, all_imp, Sub}
use Rattle.laws.specs.Map.{Asc, in_remove, remove_asc, remove-sub, put_asc, all-put, get_remove_same, in_get}
use Rattle.laws.specs.Count.{sub_any, any-put, any-map}
use Rattle.laws_image.specs.Fits.{Readable}
use Rattle.laws_image.specs.Groups.{Grouped, config, quota, group_member, in_group_record, group_key_lem, group_record_key, group_is_group}
use Rattle.laws_image.specs.Groups.{group_holds, group_readable}

-- the record of an empty group
pub record Vacant (l : List Entry) (r : Rec) : Type 0 where
  pub readable : Readable r
  pub group : is_group r ≡ true
  pub memberless : any key (in_group_of r) l ≡ false

pub record Empties (l : List Entry) (g : List Rec) : Type 0 where
  pub ascends : Asc record_key g
  pub each : All (Vacant l) g

-- 1. Other entries

-- a key that no member of a group has
abbrev pub Ungrouped : Key → Type 0
Ungrouped k = (kind : Kind) → Grouped kind → key_rank k ≡ rank kind → ⊥

first_part : (n : ℕ) (g k : Key) → starts_with ((n ∷ []) ∷ g) k ≡ true → key_rank k ≡ n
unfolding starts_with key_rank
first_part n g [] h = impossible cc
first_part n g (q ∷ k) h =
    let e = same_bytes_true (n ∷ []) q (and_left (same_bytes (n ∷ []) q) (starts_with g k) h) in
    rw (← e)

entities_group : (p : Bytes) (es : List Bytes) (k : Key) → group_key (p ∷ entities_key es k) ≡ p ∷ group_key (entities_key es k)
unfolding entities_key group_key
entities_group p [] k = refl
entities_group p (e ∷ es) k = refl

-- a group's key begins with its rank, and so do its members'
member_rank : {kind : Kind} → Grouped kind → (run : Run) (k : Key) → starts_with (group_key (key_of kind run)) k ≡ true → key_rank k ≡ rank kind
unfolding key_of subject group_key
member_rank config run k h = first_part (rank BrokerConfig) (group_key (number_part (value 1 run) ∷ value 2 run ∷ [])) k h
member_rank quota run k h =
    let name = value 2 run ∷ [] in
    first_part (rank ClientQuota) (group_key (entities_key (values 1 run) name)) k
    (rw (entities_group (rank_part ClientQuota) (values 1 run) name) at h)

module _ (l : List Entry) (g : List Rec) (empties : Empties l g) where
  -- each group stays empty where it has no member among the entries
  still_empty : (m : List Entry) → ((r : Rec) → Vacant l r → any key (in_group_of r) m ≡ false) → Empties m g
  still_empty m h = record {
    ascends = empties.ascends;
    each =
        all_imp (Vacant l) (Vacant m) (λ r v. record { readable = v.readable; group = v.group; memberless = h r v }) g empties.each;
  }

  pub put_empties : (e : Entry) → Ungrouped (key e) → Empties (put key e l) g
  put_empties e h = still_empty (put key e l) λ r v.
      let kind = (group_holds r v.group).kind in
      let apart = not_true_false (in_group_of r (key e)) (λ q. h r.kind kind (member_rank kind r.run (key e) q)) in
      any-put key (in_group_of r) e l ∙ rw (apart, v.memberless)

  pub sub_empties : (m : List Entry) → Sub m l → Empties m g
  sub_empties m s = still_empty m λ r v. sub_any key (in_group_of r) s v.memberless

  pub map_empties : (f : Entry → Entry) → ((e : Entry) → key (f e) ≡ key e) → Empties (map f l) g
  map_empties f same = still_empty (map f l) λ r v. any-map key key f same (in_group_of r) l ∙ v.memberless

  -- 2. A member joins its group, which is then no empty one

  module _ (r : Rec) (kind : Grouped r.kind) where
    -- an empty group of the same key
    same_group : (x : Rec) → is_group x ≡ true → group_key (record_key r) ≡ group_key (record_key x) → record_key x ≡ record_key (group_of r)
    same_group x h e =
        let d = group_holds x h in
        group_member d.kind x.run
        ∙ (λ i. sym e i ++ (d.name i ∷ []))
        ∙ sym (group_record_key r kind)

    pub join_empties : Empties (put key (plain r) l) (remove record_key (record_key (group_of r)) g)
    unfolding key
    join_empties = record { ascends = ascends; each = all_in (Vacant (put key (plain r) l)) (remove record_key k g) vacant }
      where
        k : Key
        k = record_key (group_of r)

        ascends : Asc record_key (remove record_key k g)
        ascends = remove_asc record_key k g empties.ascends

        -- it is gone
        gone : (x : Rec) → In x (remove record_key k g) → record_key x ≡ k → ⊥
        gone x i e =
            let found = in_get record_key (remove record_key k g) ascends x i in
            let none_left = get_remove_same record_key k g empties.ascends in
            impossible cc

        vacant : (x : Rec) → In x (remove record_key k g) → Vacant (put key (plain r) l) x
        vacant x i =
            let v = in_all (Vacant l) g empties.each x (in_remove record_key k g x i) in
            let kind = (group_holds x v.group).kind in
            let apart = not_true_false (in_group_of x (record_key r)) (λ q.
            gone x i (same_group x v.group ((in_group_record x kind r).0 q))) in
            record {
              readable = v.readable;
              group = v.group;
              memberless = any-put key (in_group_of x) (plain r) l ∙ rw (apart, v.memberless);
            }

    -- 3. A member leaves its group, which is empty if no other is left

    pub leave_empties : Readable r → is_config r || entities_in_order (values 1 r.run) ≡ true
        → let m = remove key (record_key r) l in
        Empties m (cond (any key (in_group_of r) m) g (put record_key (group_of r) g))
    leave_empties readable ordered = go (any key (in_group_of r) m) refl
      where
        m : List Entry
        m = remove key (record_key r) l

        rest : Empties m g
        rest = sub_empties m (remove-sub key (record_key r) l)

        go : (b : Bool) → any key (in_group_of r) m ≡ b → Empties m (cond b g (put record_key (group_of r) g))
        go true e = rest
        go false e = record {
          ascends = put_asc record_key (group_of r) g rest.ascends;
          each =
              all-put record_key (Vacant m) (group_of r) g rest.each (record {
                readable = group_readable r readable kind;
                group = group_is_group r kind ordered;
                memberless = ap (λ (t : Key). any key (starts_with t) m) (group_key_lem r kind) ∙ e;
              });
        }
