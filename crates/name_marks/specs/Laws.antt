-- Marks on indexes that stand name by name, and places behind a scope's names.
use Rattle.std.specs.Prelude.{◌≡◌, refl, Bool, true, false, cond, not, List, [], ◌∷◌, ◌++◌, length, replicate}
use Rattle.std.proofs.Common.{sym, ap, ◌∙◌, arith}
use Rattle.std.proofs.Math.Option.{none}
use Prim.Native.Nat.{ℕ, zero, suc, ◌*◌, Ordering}
use Rattle.model.specs.Choice.{every, joined}
use Rattle.model.specs.Number.{Bytes, bytes}
use Rattle.model.specs.Order.{compare_bytes, is_below}
use Rattle.model.specs.FreezeList.{job_limit}
use Rattle.laws.specs.Choice.{impossible, and_left, and_right, and_both}
use Rattle.laws.specs.Order.{bytes-total, gt_lt, is_below_true}
use Rattle.name_marks.specs.declared.Window.{Window}
use Rattle.name_marks.specs.Marks.{marked, Accepted, below, Behind}

-- 1. Marks

pub marked-joined : (test : Bytes → Bool) (i : ℕ) (f : Bytes → ℕ) (ns : List Bytes) (t : Bytes)
    → marked test i ns (joined (λ n. bytes 2 (f n)) ns ++ t) ≡ joined (λ n. bytes 2 (cond (test n) i (f n))) ns ++ t
unfolding marked
marked-joined test i f [] t = refl
marked-joined test i f (n ∷ ns) t = go (test n) (marked-joined test i f ns t)
  where
    go : (b : Bool) → marked test i ns (joined (λ m. bytes 2 (f m)) ns ++ t) ≡ joined (λ m. bytes 2 (cond (test m) i (f m))) ns ++ t
        → cond b (bytes 2 i) (bytes 2 (f n)) ++ marked test i ns (joined (λ m. bytes 2 (f m)) ns ++ t)
        ≡ (bytes 2 (cond b i (f n)) ++ joined (λ m. bytes 2 (cond (test m) i (f m))) ns) ++ t
    go true h = ap (λ l. bytes 2 i ++ l) h
    go false h = ap (λ l. bytes 2 (f n) ++ l) h

pub marked_nothing : (test : Bytes → Bool) (i : ℕ) (ns : List Bytes) (out : Bytes) → every (λ n. not (test n)) ns ≡ true → marked test i ns out ≡ out
unfolding marked
marked_nothing test i [] out h = refl
marked_nothing test i (n ∷ ns) [] h = refl
marked_nothing test i (n ∷ ns) (a ∷ []) h = refl
marked_nothing test i (n ∷ ns) (a ∷ b ∷ out) h =
    go (test n) (and_left (not (test n)) (every (λ m. not (test m)) ns) h)
    (marked_nothing test i ns out (and_right (not (test n)) (every (λ m. not (test m)) ns) h))
  where
    go : (t : Bool) → not t ≡ true → marked test i ns out ≡ out → cond t (bytes 2 i) (a ∷ b ∷ []) ++ marked test i ns out ≡ a ∷ b ∷ out
    go true q r = impossible cc
    go false q r = ap (λ l. a ∷ b ∷ l) r

-- hex FF throughout is hex FFFF at each name
pub filled : (ns : List Bytes) (t : Bytes) → replicate (2 * length ns) 255 ++ t ≡ joined (λ n. bytes 2 0xffff) ns ++ t
filled ns t = go ns (2 * length ns) refl
  where
    go : (ns : List Bytes) (k : ℕ) → k ≡ 2 * length ns → replicate k 255 ++ t ≡ joined (λ n. bytes 2 0xffff) ns ++ t
    go [] zero e = refl
    go [] (suc k) e = absurd (omega arith)
    go (n ∷ ns) zero e = absurd (omega arith)
    go (n ∷ ns) (suc zero) e = absurd (omega arith)
    go (n ∷ ns) (suc (suc k)) e = ap (λ l. 255 ∷ 255 ∷ l) (go ns k (omega arith))

-- 2. Places

pub behind-start : (list scope : Bytes) → Accepted list → Behind list (record { at = 0; n = 0 }) scope
behind-start list scope accepted = record {
  place = record {
    passed = [];
    most = job_limit;
    prior = none;
    within = omega arith;
    count = refl;
    room = omega arith;
    fault = accepted;
    all = refl;
  };
  before = refl;
}

-- what is below a scope is below a later one
below-later : (scope next name : Bytes) → (compare_bytes next scope ≡ Ordering.lt → ⊥) → below scope name ≡ true → below next name ≡ true
below-later scope next name h b = ap is_below (go (compare_bytes scope next) refl)
  where
    low : compare_bytes name scope ≡ Ordering.lt
    low = is_below_true (compare_bytes name scope) b

    go : (o : Ordering) → compare_bytes scope next ≡ o → compare_bytes name next ≡ Ordering.lt
    go Ordering.lt q = bytes-total.step name scope next low q
    go Ordering.eq q = ap (compare_bytes name) (sym (bytes-total.eqv scope next q)) ∙ low
    go Ordering.gt q = absurd (h (gt_lt bytes-total scope next q))

all-later : (scope next : Bytes) → (compare_bytes next scope ≡ Ordering.lt → ⊥) → (ns : List Bytes) → every (below scope) ns ≡ true → every (below next) ns ≡ true
all-later scope next h [] b = refl
all-later scope next h (n ∷ ns) b =
    and_both (below next n) (every (below next) ns)
    (below-later scope next n h (and_left (below scope n) (every (below scope) ns) b))
    (all-later scope next h ns (and_right (below scope n) (every (below scope) ns) b))

pub behind-later : (list : Bytes) (w : Window) (scope next : Bytes) → (compare_bytes next scope ≡ Ordering.lt → ⊥) → Behind list w scope → Behind list w next
behind-later list w scope next h b = record { place = b.place; before = all-later scope next h b.place.passed b.before }
