-- Contents that differ in their empty groups alone: one's are some of the other's. Every record keeps them so.
use Rattle.std.specs.Prelude.{◌≡◌, refl, List, [], ◌∷◌, Bool, true, false, cond, ◌≤◌, length}
use Rattle.std.proofs.Common.{ap, arith}
use Rattle.model.specs.Choice.{total}
use Rattle.model.specs.Record.{Rec, record_bytes}
use Rattle.model.specs.Map.{put, remove, any}
use Rattle.model.specs.Contents.{Entry, key, record_key, group_of, in_group_of, Contents, size, weight}
use Rattle.model.specs.Move.{Move, put_m, drop_m, join_m, leave_m, topic_m, part_m, directories_m, delete_m, bump_m, epoch_m, kraft_m}
use Rattle.model.specs.Move.{on_real, on_empties, on_fixed, move, moves, plan, moved}
use Rattle.laws.specs.Lists.{All, Sub, sub_self, sub-total}
use Rattle.laws.specs.Map.{Asc}
use Rattle.laws.specs.Split.{sub-put, sub-remove}
use Rattle.laws_image.specs.Snapshot.{Loggable}
use Rattle.laws_apply.specs.Lawful.{Lawful}
use Rattle.laws_apply.specs.Moves.{Holds, move-holds}
use Rattle.laws_apply.specs.Plans.{plan_lawful}

-- contents c beside contents u: c may lack empty groups
pub record Like (u c : Contents) : Type 0 where
  pub real : c.real ≡ u.real
  pub fixed : c.fixed ≡ u.fixed
  pub empties : Sub c.empties u.empties

pub like_self : (c : Contents) → Like c c
like_self c = record { real = refl; fixed = refl; empties = sub_self c.empties }

-- what lacks empty groups weighs no more
pub like_weight : (u c : Contents) → Like u c → weight c ≤ weight u
unfolding weight
like_weight u c k =
    let entries = ap (total size) k.real in
    let groups = sub-total (λ r. length (record_bytes r)) k.empties in
    omega arith

-- 1. One move

empties_sub : (m : Move) (l : List Entry) {h g : List Rec} → Sub h g → Asc record_key g → Sub (on_empties m l h) (on_empties m l g)
unfolding on_empties
empties_sub (join_m r) l s a = sub-remove record_key (record_key (group_of r)) s a
empties_sub (leave_m r) l {h} {g} s a = go (any key (in_group_of r) (remove key (record_key r) l))
  where
    go : (b : Bool) → Sub (cond b h (put record_key (group_of r) h)) (cond b g (put record_key (group_of r) g))
    go true = s
    go false = sub-put record_key (group_of r) s a
empties_sub (put_m r) l s a = s
empties_sub (drop_m k) l s a = s
empties_sub (topic_m name id factor) l s a = s
empties_sub (part_m r) l s a = s
empties_sub (directories_m k v) l s a = s
empties_sub (delete_m name) l s a = s
empties_sub bump_m l s a = s
empties_sub (epoch_m e) l s a = s
empties_sub (kraft_m v) l s a = s

like_move : (m : Move) (u c : Contents) → Like u c → Asc record_key u.empties → Like (move m u) (move m c)
unfolding move
like_move m u c k a = record {
  real = ap (on_real m) k.real;
  fixed = ap (on_fixed m) k.fixed;
  empties = rw k.real (empties_sub m u.real k.empties a);
}

-- 2. A record's moves, which the entries decide

like_moves : (ms : List Move) → All Lawful ms → (u c : Contents) → Holds u → Like u c → Like (moves ms u) (moves ms c)
unfolding moves
like_moves [] h u c s k = k
like_moves (m ∷ ms) h u c s k =
    like_moves ms h.1 (move m u) (move m c) (move-holds m h.0 u s) (like_move m u c k s.empties.ascends)

pub like_moved : (r : Rec) → Loggable r → (u c : Contents) → Holds u → Like u c → Like (moved r u) (moved r c)
unfolding moved
like_moved r given u c s k =
    let ms = plan r.kind r.run u.real in
    let planned : moves (plan r.kind r.run c.real) c ≡ moves ms c = ap (λ l. moves (plan r.kind r.run l) c) k.real in
    rw planned (like_moves ms (plan_lawful r.kind r.run u.real given.0 given.1 s.entries) u c s k)
