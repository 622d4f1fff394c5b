-- One turn of two runs: what the parting from a count on is, by the snapshots there and by how the runs stand.
use Rattle.std.specs.Prelude.{◌≡◌, Bool, ◌&&◌, ℕ, suc}
use Rattle.std.proofs.Math.Path.{refl}
use Rattle.std.proofs.Common.{ap}
use Rattle.std.proofs.Math.Bool.{true, false, cond}
use Rattle.model.specs.Record.{Rec}
use Rattle.model.specs.Items.{Items, end, bad, item}
use Rattle.model.specs.Contents.{Contents}
use Rattle.model.specs.Apply.{Applied, stays, becomes, apply_at}
use Rattle.model.specs.Snapshot.{on_applied}
use Rattle.model.specs.Recordings.{Standing, goes_on, ended, refused_by, standing, same_standing, same_snapshots, Parting, parted, closing, parting_from, is_over}
use Rattle.laws.specs.Choice.{true_false}

module _ (capacity k : ℕ) where
  -- both go on, and so does the comparison
  pub parting_on : (p q : ℕ) (r s : Rec) (ia ib : Items) (a b x y : Contents) → apply_at capacity k r a ≡ becomes x → apply_at capacity k s b ≡ becomes y
      → same_snapshots a b ≡ true → parting_from capacity k (item p r ia) a (item q s ib) b ≡ parting_from capacity (suc k) ia x ib y
  unfolding parting_from
  parting_on p q r s ia ib a b x y e f h = rw (h, e, f) refl

  -- whether two records are refused alike
  two : (a b : Contents) (m n : Applied) → (next : Contents → Contents → Parting)
      → is_over (on_applied m refused_by (λ d. goes_on)) ≡ true
      → on_applied m (λ i. closing (same_standing (refused_by i) (on_applied n refused_by (λ y. goes_on))) k a b) (λ x. on_applied n (λ i. parted k a b) (next x))
      ≡ closing (same_standing (on_applied m refused_by (λ d. goes_on)) (on_applied n refused_by (λ d. goes_on))) k a b
  two a b (stays i) n next h = refl
  two a b (becomes x) n next h = absurd (true_false h refl)

  -- one of them does not: the snapshots and how they stand decide
  pub parting_over : (ia : Items) (a : Contents) (ib : Items) (b : Contents) → is_over (standing capacity k ia a) ≡ true
      → parting_from capacity k ia a ib b ≡ closing (same_snapshots a b && same_standing (standing capacity k ia a) (standing capacity k ib b)) k a b
  unfolding parting_from standing
  parting_over end a ib b h = refl
  parting_over (bad n p) a ib b h = refl
  parting_over (item p r ia) a end b h = refl
  parting_over (item p r ia) a (bad m q) b h = refl
  parting_over (item p r ia) a (item q s ib) b h = both (same_snapshots a b) refl
    where
      both : (t : Bool) → same_snapshots a b ≡ t
          → cond t
          (on_applied (apply_at capacity k r a)
          (λ n. closing (same_standing (refused_by n) (on_applied (apply_at capacity k s b) refused_by (λ y. goes_on))) k a b)
          (λ x. on_applied (apply_at capacity k s b) (λ m. parted k a b) (λ y. parting_from capacity (suc k) ia x ib y)))
          (parted k a b)
          ≡ closing (t && same_standing (on_applied (apply_at capacity k r a) refused_by (λ d. goes_on)) (on_applied (apply_at capacity k s b) refused_by (λ d. goes_on))) k a b
      both false e = refl
      both true e = two a b (apply_at capacity k r a) (apply_at capacity k s b) (λ x y. parting_from capacity (suc k) ia x ib y) h

  -- the first goes on and the second does not
  pub on_over : (s t : Standing) → s ≡ goes_on → is_over t ≡ true → same_standing s t ≡ false
  unfolding same_standing
  on_over s goes_on e h = absurd (true_false h refl)
  on_over s ended e h = rw e refl
  on_over s (refused_by n) e h = rw e refl

  closing_apart : (a b : Contents) (t s : Bool) → s ≡ false → closing (t && s) k a b ≡ parted k a b
  closing_apart a b false s e = refl
  closing_apart a b true s e = rw e refl

  one_on : (a b : Contents) (m n : Applied) (t : Bool) (next : Contents → Contents → Parting)
      → on_applied m refused_by (λ d. goes_on) ≡ goes_on → is_over (on_applied n refused_by (λ d. goes_on)) ≡ true
      → cond t
      (on_applied m (λ i. closing (same_standing (refused_by i) (on_applied n refused_by (λ y. goes_on))) k a b) (λ x. on_applied n (λ i. parted k a b) (next x)))
      (parted k a b)
      ≡ parted k a b
  one_on a b m n false next e h = refl
  one_on a b (stays i) n true next e h = absurd (true_false refl (ap is_over e))
  one_on a b (becomes x) (stays i) true next e h = refl
  one_on a b (becomes x) (becomes y) true next e h = absurd (true_false h refl)

  pub parting_apart : (ia : Items) (a : Contents) (ib : Items) (b : Contents) → standing capacity k ia a ≡ goes_on → is_over (standing capacity k ib b) ≡ true
      → parting_from capacity k ia a ib b ≡ parted k a b
  unfolding parting_from standing
  parting_apart end a ib b e h = absurd (true_false refl (ap is_over e))
  parting_apart (bad n p) a ib b e h = absurd (true_false refl (ap is_over e))
  parting_apart (item p r ia) a end b e h =
      closing_apart a b (same_snapshots a b) (same_standing (standing capacity k (item p r ia) a) ended) (on_over (standing capacity k (item p r ia) a) ended e h)
  parting_apart (item p r ia) a (bad m q) b e h =
      closing_apart a b (same_snapshots a b) (same_standing (standing capacity k (item p r ia) a) (refused_by m)) (on_over (standing capacity k (item p r ia) a) (refused_by m) e h)
  parting_apart (item p r ia) a (item q s ib) b e h =
      one_on a b (apply_at capacity k r a) (apply_at capacity k s b) (same_snapshots a b) (λ x y. parting_from capacity (suc k) ia x ib y) e h

  -- other snapshots
  pub parting_unlike : (ia : Items) (a : Contents) (ib : Items) (b : Contents) → same_snapshots a b ≡ false → parting_from capacity k ia a ib b ≡ parted k a b
  unfolding parting_from
  parting_unlike end a ib b h = rw h refl
  parting_unlike (bad n p) a ib b h = rw h refl
  parting_unlike (item p r ia) a end b h = rw h refl
  parting_unlike (item p r ia) a (bad m q) b h = rw h refl
  parting_unlike (item p r ia) a (item q s ib) b h = rw h refl
