-- A lawful move, and so a list of them, keeps what Apply keeps of contents.
use Rattle.std.specs.Prelude.{◌≡◌, refl, List, [], ◌∷◌, map, Bool, true, false, cond, ℕ, ◌+◌, ◌<◌, ltb}
use Rattle.std.proofs.Common.{sym, ap, ◌∙◌, lit<, ltb-true}
use native.Mathlib.Omega.{arith}
use Rattle.model.specs.Number.{Bytes, span, half, is_negative, is_offset}
use Rattle.model.specs.Run.{Run}
use Rattle.model.specs.Record.{Rec}
use Rattle.model.specs.Key.{rank, key_rank, key_of, topic_key}
use Rattle.model.specs.Map.{get, remove, keep}
use Rattle.model.specs.Contents.{Entry, topic, part, plain, key, record_key, kept, Fixed, Contents, dated}
use Rattle.model.specs.Move.{Move, put_m, drop_m, join_m, leave_m, topic_m, part_m, directories_m, delete_m, bump_m, epoch_m, kraft_m}
use Rattle.model.specs.Move.{clear_named, clear_old_named, count_of, set_directories, apart_from}
use Rattle.model.specs.Move.{on_real, on_empties, bumped, on_fixed, move, moves, plan, moved}
use Rattle.model.specs.declared.Kind.{Kind}
use Rattle.model.specs.declared.Kind.TheVariants.{Partition}
use Rattle.laws.specs.Lists.{All, all_map}
use Rattle.laws.specs.Map.{Asc, put_asc, remove_asc, keep_asc, map_asc, all-put, all_remove, all_keep, remove-sub, keep-sub}
use Rattle.laws_image.specs.Groups.{Grouped, config, quota}
use Rattle.laws_image.specs.Ranks.{rank_injective, key_rank_lem}
use Rattle.laws_apply.specs.Entries.{Stored, topic_stored, key-clear_named, key-clear_old_named, clear_named_stored, clear_old_named_stored}
use Rattle.laws_apply.specs.Entries.{told, key-told, told_stored, key-directories, part_stored, directories_stored}
use Rattle.laws_apply.specs.Topics.{Topics, Elsewhere, storable_elsewhere, put_topics, remove_topics, directories_topics, clear_old_named_topics}
use Rattle.laws_apply.specs.Topics.{keep_topics, topic_topics, part_topics}
use Rattle.laws_apply.specs.Groups.{Empties, Ungrouped, put_empties, sub_empties, map_empties, join_empties, leave_empties}
use Rattle.laws_apply.specs.Lawful.{Puts, Lawful}

-- what is so of contents that fit, but for the room and the counts' width
pub record Holds (c : Contents) : Type 0 where
  pub ascends : Asc key c.real
  pub entries : All Stored c.real
  pub topics : Topics c.real
  pub empties : Empties c.real c.empties
  pub epoch : c.fixed.epoch < span 8
  pub kraft : c.fixed.kraft < span 2
  pub offset : is_offset c.fixed.offset ≡ true

-- 1. Entries

plain_stored : (r : Rec) → Puts r → Stored (plain r)
unfolding kept
plain_stored r p = record { readable = p.readable; factor = tt; storable = p.storable }

stored_move : (m : Move) → Lawful m → (l : List Entry) → All Stored l → All Stored (on_real m l)
unfolding on_real
stored_move (put_m r) h l u = all-put key Stored (plain r) l u (plain_stored r h.0)
stored_move (drop_m k) h l u = all_remove key Stored k l u
stored_move (join_m r) h l u = all-put key Stored (plain r) l u (plain_stored r h.0)
stored_move (leave_m r) h l u = all_remove key Stored (record_key r) l u
stored_move (topic_m name id factor) h l u =
    let old = get key (topic_key name) l in
    let m = map (clear_old_named old) l in
    let e = topic name id (count_of old) factor true in
    all-put key Stored e (map (clear_named id) m)
    (all_map Stored Stored (clear_named id) (clear_named_stored id) m (all_map Stored Stored (clear_old_named old) (clear_old_named_stored old) l u))
    (topic_stored name id (count_of old) factor true h.0 h.1)
stored_move (part_m r) h l u =
    all-put key Stored (part r) (map (told r l) l) (all_map Stored Stored (told r l) (told_stored r h l) l u) (part_stored r h)
stored_move (directories_m k v) h l u = all_map Stored Stored (set_directories k v) (directories_stored k v h) l u
stored_move (delete_m name) h l u =
    let old = get key (topic_key name) l in
    all_keep key Stored (apart_from name) (map (clear_old_named old) l) (all_map Stored Stored (clear_old_named old) (clear_old_named_stored old) l u)
stored_move bump_m h l u = u
stored_move (epoch_m e) h l u = u
stored_move (kraft_m v) h l u = u

pub asc_move : (m : Move) (l : List Entry) → Asc key l → Asc key (on_real m l)
unfolding on_real
asc_move (put_m r) l a = put_asc key (plain r) l a
asc_move (drop_m k) l a = remove_asc key k l a
asc_move (join_m r) l a = put_asc key (plain r) l a
asc_move (leave_m r) l a = remove_asc key (record_key r) l a
asc_move (topic_m name id factor) l a =
    let old = get key (topic_key name) l in
    let m = map (clear_old_named old) l in
    put_asc key (topic name id (count_of old) factor true) (map (clear_named id) m)
    (map_asc key key (clear_named id) (key-clear_named id) m (map_asc key key (clear_old_named old) (key-clear_old_named old) l a))
asc_move (part_m r) l a = put_asc key (part r) (map (told r l) l) (map_asc key key (told r l) (key-told r l) l a)
asc_move (directories_m k v) l a = map_asc key key (set_directories k v) (key-directories k v) l a
asc_move (delete_m name) l a =
    let old = get key (topic_key name) l in
    keep_asc key (apart_from name) (map (clear_old_named old) l) (map_asc key key (clear_old_named old) (key-clear_old_named old) l a)
asc_move bump_m l a = a
asc_move (epoch_m e) l a = a
asc_move (kraft_m v) l a = a

-- 2. Topics

group_elsewhere : (r : Rec) → Grouped r.kind → Elsewhere (record_key r)
group_elsewhere r g = grouped_elsewhere g r.run
  where
    grouped_elsewhere : {k : Kind} → Grouped k → (run : Run) → Elsewhere (key_of k run)
    grouped_elsewhere config run = unfold key_of key_rank rank in record { no_topic = λ e. omega arith; no_partition = λ e. omega arith }
    grouped_elsewhere quota run = unfold key_of key_rank rank in record { no_topic = λ e. omega arith; no_partition = λ e. omega arith }

topics_move : (m : Move) → Lawful m → (l : List Entry) → Asc key l → Topics l → Topics (on_real m l)
unfolding on_real key
topics_move (put_m r) h l a t = put_topics l t (plain r) (storable_elsewhere r h.0.storable)
topics_move (drop_m k) h l a t = remove_topics l t k h a
topics_move (join_m r) h l a t = put_topics l t (plain r) (storable_elsewhere r h.0.storable)
topics_move (leave_m r) h l a t = remove_topics l t (record_key r) (group_elsewhere r h.grouped) a
topics_move (topic_m name id factor) h l a t = topic_topics name id factor l t
topics_move (part_m r) h l a t = part_topics r l t
topics_move (directories_m k v) h l a t = directories_topics k v l t
topics_move (delete_m name) h l a t =
    let old = get key (topic_key name) l in
    keep_topics name (map (clear_old_named old) l) (map_asc key key (clear_old_named old) (key-clear_old_named old) l a) (clear_old_named_topics old l t)
topics_move bump_m h l a t = t
topics_move (epoch_m e) h l a t = t
topics_move (kraft_m v) h l a t = t

-- 3. Empty groups

group_rank : {k : Kind} → Grouped k → 0 < rank k
unfolding rank
group_rank config = lit< tt
group_rank quota = lit< tt

-- a key's rank tells whether it is of a kind that has groups
record-ungrouped : (r : Rec) → (Grouped r.kind → ⊥) → Ungrouped (record_key r)
record-ungrouped r h kind g q =
    let e : r.kind ≡ kind = rank_injective r.kind kind (sym (key_rank_lem r.kind r.run) ∙ q) (group_rank g) in
    h (rw e g)

topic_ungrouped : (name : Bytes) → Ungrouped (topic_key name)
unfolding key_rank rank
topic_ungrouped name kind config q = omega arith
topic_ungrouped name kind quota q = omega arith

part_ungrouped : (r : Run) → Ungrouped (key_of Partition r)
unfolding key_of key_rank rank
part_ungrouped r kind config q = omega arith
part_ungrouped r kind quota q = omega arith

empties_move : (m : Move) → Lawful m → (l : List Entry) (g : List Rec) → Empties l g → Empties (on_real m l) (on_empties m l g)
unfolding on_real on_empties key
empties_move (put_m r) h l g e = put_empties l g e (plain r) (record-ungrouped r h.1)
empties_move (drop_m k) h l g e = sub_empties l g e (remove key k l) (remove-sub key k l)
empties_move (join_m r) h l g e = join_empties l g e r h.1
empties_move (leave_m r) h l g e = leave_empties l g e r h.grouped h.readable h.ordered
empties_move (topic_m name id factor) h l g e =
    let old = get key (topic_key name) l in
    let m = map (clear_old_named old) l in
    put_empties (map (clear_named id) m) g
    (map_empties m g (map_empties l g e (clear_old_named old) (key-clear_old_named old)) (clear_named id) (key-clear_named id))
    (topic name id (count_of old) factor true) (topic_ungrouped name)
empties_move (part_m r) h l g e =
    put_empties (map (told r l) l) g (map_empties l g e (told r l) (key-told r l)) (part r) (part_ungrouped r)
empties_move (directories_m k v) h l g e = map_empties l g e (set_directories k v) (key-directories k v)
empties_move (delete_m name) h l g e =
    let old = get key (topic_key name) l in
    let m = map (clear_old_named old) l in
    sub_empties m g (map_empties l g e (clear_old_named old) (key-clear_old_named old)) (keep key (apart_from name) m) (keep-sub key (apart_from name) m)
empties_move bump_m h l g e = e
empties_move (epoch_m x) h l g e = e
empties_move (kraft_m v) h l g e = e

-- 4. The fixed parts

bumped_fits : (e : ℕ) → e < span 8 → bumped e < span 8
unfolding bumped
bumped_fits e h = go (is_negative 8 e) (ltb (e + 1) (half 8)) refl
  where
    go : (a b : Bool) → ltb (e + 1) (half 8) ≡ b → cond a 0 (cond b (e + 1) e) < span 8
    go true b q = lit< tt
    go false true q = omega (arith, ltb-true (e + 1) (half 8) q)
    go false false q = h

epoch-move : (m : Move) → Lawful m → (f : Fixed) → f.epoch < span 8 → (on_fixed m f).epoch < span 8
unfolding on_fixed
epoch-move bump_m h f e = bumped_fits f.epoch e
epoch-move (epoch_m x) h f e = h
epoch-move (kraft_m v) h f e = e
epoch-move (put_m r) h f e = e
epoch-move (drop_m k) h f e = e
epoch-move (join_m r) h f e = e
epoch-move (leave_m r) h f e = e
epoch-move (topic_m name id factor) h f e = e
epoch-move (part_m r) h f e = e
epoch-move (directories_m k v) h f e = e
epoch-move (delete_m name) h f e = e

-- no move sets the log offset
pub offset-move : (m : Move) (f : Fixed) → (on_fixed m f).offset ≡ f.offset
unfolding on_fixed
offset-move (put_m r) f = refl
offset-move (drop_m k) f = refl
offset-move (join_m r) f = refl
offset-move (leave_m r) f = refl
offset-move (topic_m name id factor) f = refl
offset-move (part_m r) f = refl
offset-move (directories_m k v) f = refl
offset-move (delete_m name) f = refl
offset-move bump_m f = refl
offset-move (epoch_m e) f = refl
offset-move (kraft_m v) f = refl

kraft-move : (m : Move) → Lawful m → (f : Fixed) → f.kraft < span 2 → (on_fixed m f).kraft < span 2
unfolding on_fixed
kraft-move bump_m h f k = k
kraft-move (epoch_m x) h f k = k
kraft-move (kraft_m v) h f k = h
kraft-move (put_m r) h f k = k
kraft-move (drop_m d) h f k = k
kraft-move (join_m r) h f k = k
kraft-move (leave_m r) h f k = k
kraft-move (topic_m name id factor) h f k = k
kraft-move (part_m r) h f k = k
kraft-move (directories_m d v) h f k = k
kraft-move (delete_m name) h f k = k

-- nor looks at it
fixed_move : (n : ℕ) (m : Move) (f : Fixed)
    → on_fixed m (record { epoch = f.epoch; kraft = f.kraft; offset = n })
    ≡ record { epoch = (on_fixed m f).epoch; kraft = (on_fixed m f).kraft; offset = n }
unfolding on_fixed
fixed_move n (put_m r) f = refl
fixed_move n (drop_m k) f = refl
fixed_move n (join_m r) f = refl
fixed_move n (leave_m r) f = refl
fixed_move n (topic_m name id factor) f = refl
fixed_move n (part_m r) f = refl
fixed_move n (directories_m k v) f = refl
fixed_move n (delete_m name) f = refl
fixed_move n bump_m f = refl
fixed_move n (epoch_m e) f = refl
fixed_move n (kraft_m v) f = refl

-- 5. Contents

moves-dated : (n : ℕ) (ms : List Move) (c : Contents) → moves ms (dated n c) ≡ dated n (moves ms c)
unfolding moves move
moves-dated n [] c = refl
moves-dated n (m ∷ ms) c =
    ap (λ f. moves ms (record { real = on_real m c.real; empties = on_empties m c.real c.empties; fixed = f })) (fixed_move n m c.fixed)
    ∙ moves-dated n ms (move m c)

pub moved-dated : (n : ℕ) (r : Rec) (c : Contents) → moved r (dated n c) ≡ dated n (moved r c)
unfolding moved
moved-dated n r c = moves-dated n (plan r.kind r.run c.real) c

pub move-holds : (m : Move) → Lawful m → (c : Contents) → Holds c → Holds (move m c)
unfolding move
move-holds m h c d = record {
  ascends = asc_move m c.real d.ascends;
  entries = stored_move m h c.real d.entries;
  topics = topics_move m h c.real d.ascends d.topics;
  empties = empties_move m h c.real c.empties d.empties;
  epoch = epoch-move m h c.fixed d.epoch;
  kraft = kraft-move m h c.fixed d.kraft;
  offset = rw (offset-move m c.fixed) d.offset;
}

pub moves_hold : (ms : List Move) → All Lawful ms → (c : Contents) → Holds c → Holds (moves ms c)
unfolding moves
moves_hold [] h c d = d
moves_hold (m ∷ ms) h c d = moves_hold ms h.1 (move m c) (move-holds m h.0 c d)
