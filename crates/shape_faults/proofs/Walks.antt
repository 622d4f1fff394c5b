-- What came before a field: the key and the count for its tag, and the state after it.
use mathlib.Core.Path.{◌≡◌, refl, ap}
use mathlib.Core.Bool.{Bool, true, false, cond}
use mathlib.Core.Option.{Option, none, some}
use Prim.Native.Nat.{ℕ, ◌+◌, ◌≤◌, ◌<◌}
use native.Mathlib.Omega.{arith}
use borrow.Author.Tests.{le-leb}
use lib.Dec.{eqb}
use lib.Seq.{slice}
use Rattle.model.specs.Number.{Bytes}
use Rattle.model.specs.Shape.{Presence, Before, key_before, count_before}
use Rattle.shapes.specs.Table.{many_in, number_at}
use Rattle.fields.specs.Fields.{held, Within}
use Rattle.fields.specs.declared.Found.{Found}
use Rattle.fields.specs.declared.Found.TheVariants.{Part, Missing}
use Rattle.shape_faults.specs.Walk.{prior_key, PriorIn, no_key, begun, prior_for, count_for, before_in, key_of, presence_at, passed}
use Rattle.shape_faults.specs.declared.Prior.{Prior}
use Rattle.shape_faults.specs.declared.Walk.{Walk}
use Rattle.shape_faults.proofs.Tags.{repeats_many, repeats_once}

-- 1. The key that was found

module _ (s : Bytes) {r : Found} {key : Option Bytes} (e : held s r ≡ key) where
  pub key-found : {at n : ℕ} → r ≡ Part at n → prior_key s (record { start = at; end = at + n }) ≡ key
  unfolding held
  key-found {at} {n} h = let k : some (slice at (at + n) s) ≡ key = rw h at e in rw (le-leb at (at + n) (omega arith)) k

  pub key-missing : r ≡ Missing → (p : Prior) → p ≡ no_key → (prior_key s p ≡ key) × PriorIn s p
  unfolding held
  key-missing h p q = let k : none ≡ key = rw h at e in (rw q k, rw q (omega arith))

pub part-within : {to at n : ℕ} {r : Found} → r ≡ Part at n → Within to r → at + n ≤ to
unfolding Within
part-within h w = rw h at w

-- 2. Before any field, and for a field of a tag

module _ (s : Bytes) {w : Walk} (e : w ≡ begun) where
  pub begun_in : PriorIn s w.prior
  begun_in = rw e (omega arith)

  pub begun-count : w.count ≡ 0
  begun-count = rw e

pub count_most : (b : Before) (tag : ℕ) → count_before b tag ≤ b.count
count_most b tag = go (eqb tag b.last)
  where
    go : (q : Bool) → cond q b.count 0 ≤ b.count
    go true = omega arith
    go false = omega arith

module _ (w : Walk) (tag : ℕ) (s : Bytes) (p : Prior) (e : p ≡ prior_for w tag) where
  pub prior_key_lem : prior_key s p ≡ key_before (before_in s w) tag
  prior_key_lem = rw e (go (eqb tag w.last))
    where
      go : (b : Bool) → prior_key s (cond b w.prior no_key) ≡ cond b (prior_key s w.prior) none
      go true = refl
      go false = refl

  pub prior_in_lem : PriorIn s w.prior → PriorIn s p
  prior_in_lem h = rw e (go (eqb tag w.last))
    where
      go : (b : Bool) → PriorIn s (cond b w.prior no_key)
      go true = h
      go false = omega arith

-- 3. After a field

module _ (s : Bytes) (base : ℕ) (w : Walk) (tag : ℕ) (v : Bytes) (count row many : ℕ) (ec : count ≡ count_for w tag) (er : row ≡ number_at (base + tag))
    (em : many ≡ many_in row) (p : Prior) where
  pub past_many : 1 < many → prior_key s p ≡ key_of v
      → before_in s (record { last = tag; count = count + 1; prior = p }) ≡ passed (presence_at base tag) (before_in s w) tag v
  unfolding passed
  past_many h e =
      let k : 1 < many_in (number_at (base + tag)) = rw (← er, ← em) h in
      rw (ec, e, repeats_many _ k)

  pub past_once : many ≤ 1 → p ≡ no_key
      → before_in s (record { last = tag; count = count + 1; prior = p }) ≡ passed (presence_at base tag) (before_in s w) tag v
  unfolding passed
  past_once h e =
      let k : many_in (number_at (base + tag)) ≤ 1 = rw (← er, ← em) h in
      rw (ec, e, repeats_once _ k)

pub passed-count : (p : Presence) (b : Before) (tag : ℕ) (v : Bytes) {next : Before} → next ≡ passed p b tag v → next.count ≤ b.count + 1
unfolding passed
passed-count p b tag v e = omega (arith, ap (λ (n : Before). n.count) e, count_most b tag)
