-- The freezes that no pass reads change no answer: every name of an accepted list is not above its last.
use Rattle.std.specs.Prelude.{◌≡◌, refl, Bool, true, false, cond, ◌&&◌, ◌||◌, not, List, [], ◌∷◌, leb, ltb, length, take}
use Rattle.std.proofs.Common.{sym, ap, ◌∙◌}
use Rattle.std.proofs.Math.Option.{Option, none, some}
use Prim.Native.Nat.{ℕ, zero, suc, ◌+◌, ◌*◌, Ordering}
use Rattle.model.specs.Choice.{every, or_then, unless}
use Rattle.model.specs.Number.{Bytes}
use Rattle.model.specs.Text.{is_text}
use Rattle.model.specs.Order.{compare_bytes, is_below}
use Rattle.model.specs.Shape.{string_limit}
use Rattle.model.specs.Image.{contents_of}
use Rattle.model.specs.Names.{bad, name, in_order, name_fault, unless_bad, names_from, names_of, list_fault, listed}
use Rattle.model.specs.FreezeList.{last_name, UnreadUnseen, job_limit}
use Rattle.laws.specs.Choice.{impossible, and_both, and_left, and_right}
use Rattle.laws.specs.Order.{bytes-total, gt_lt, lt≢gt, lt≢eq}
use Rattle.laws_image.specs.Orderly.{orderly}
use Rattle.laws_image.specs.Exact.{image_fits}
use Rattle.laws_freezes.specs.Freezes.{unread_unseen}

abbrev up_to : Bytes → Bytes → Bool
up_to last n = not (is_below (compare_bytes last n))

-- each is not below the one before
abbrev pub rising : Option Bytes → List Bytes → Bool
rising prior [] = true
rising prior (n ∷ ns) = in_order prior n && rising (some n) ns

fault_order : (prior : Option Bytes) (v : Bytes) → name_fault true prior v ≡ 0 → in_order prior v ≡ true
unfolding name_fault
fault_order prior v h = go (is_text v) (in_order prior v) (leb (length v) string_limit) h
  where
    go : (a b c : Bool) → or_then (unless a 4) (or_then (unless (not true || b) 4) (unless c 5)) ≡ 0 → b ≡ true
    go true true c h = refl
    go true false c h = impossible cc
    go false b c h = impossible cc

-- the names of an accepted list are in order
pub listed-rising : (most : ℕ) (prior : Option Bytes) (skip : ℕ) (s : Bytes) → list_fault (names_from true most prior skip s) ≡ 0
    → rising prior (listed (names_from true most prior skip s)) ≡ true
unfolding names_from list_fault listed
listed-rising most prior skip [] e = refl
listed-rising most prior (suc skip) (x ∷ s) e = listed-rising most prior skip s e
listed-rising zero prior zero (h ∷ s) e = impossible cc
listed-rising (suc most) prior zero (h ∷ []) e = impossible cc
listed-rising (suc most) prior zero (h ∷ l ∷ s) e =
    go (ltb (length s) (h * 256 + l)) (name_fault true prior v) refl e (listed-rising most (some v) (suc (h * 256 + l)) (l ∷ s))
  where
    v : Bytes
    v = take (h * 256 + l) s

    go : (b : Bool) (n : ℕ) → name_fault true prior v ≡ n
        → list_fault (cond b (bad 2) (unless_bad n (name v (names_from true most (some v) (suc (h * 256 + l)) (l ∷ s))))) ≡ 0
        → (list_fault (names_from true most (some v) (suc (h * 256 + l)) (l ∷ s)) ≡ 0 → rising (some v) (listed (names_from true most (some v) (suc (h * 256 + l)) (l ∷ s))) ≡ true)
        → rising prior (listed (cond b (bad 2) (unless_bad n (name v (names_from true most (some v) (suc (h * 256 + l)) (l ∷ s)))))) ≡ true
    go true n q e i = impossible cc
    go false zero q e i = and_both (in_order prior v) (rising (some v) (listed (names_from true most (some v) (suc (h * 256 + l)) (l ∷ s)))) (fault_order prior v q) (i e)
    go false (suc n) q e i = impossible cc

pub not_below : (o : Ordering) → not (is_below o) ≡ true → o ≡ Ordering.lt → ⊥
not_below Ordering.lt h e = impossible cc
not_below Ordering.eq h e = lt≢eq (sym e)
not_below Ordering.gt h e = lt≢gt (sym e)

is_not_below : (o : Ordering) → (o ≡ Ordering.lt → ⊥) → not (is_below o) ≡ true
is_not_below Ordering.lt h = absurd (h refl)
is_not_below Ordering.eq h = refl
is_not_below Ordering.gt h = refl

-- where n is not above m, and m not above the last, n is not
step_down : (last n m : Bytes) → in_order (some n) m ≡ true → up_to last m ≡ true → up_to last n ≡ true
step_down last n m h u = is_not_below (compare_bytes last n) (λ e. go e (compare_bytes n m) refl)
  where
    go : compare_bytes last n ≡ Ordering.lt → (o : Ordering) → compare_bytes n m ≡ o → ⊥
    go e Ordering.lt q = not_below (compare_bytes last m) u (bytes-total.step last n m e q)
    go e Ordering.eq q = not_below (compare_bytes last m) u (ap (compare_bytes last) (sym (bytes-total.eqv n m q)) ∙ e)
    go e Ordering.gt q = not_below (compare_bytes m n) h (gt_lt bytes-total n m q)

pub up_to-last : (prior : Option Bytes) (last : Bytes) (ns : List Bytes) → rising prior ns ≡ true → last_name ns ≡ some last
    → every (up_to last) ns ≡ true
unfolding last_name
up_to-last prior last [] h e = refl
up_to-last prior last (n ∷ []) h e =
    let s : n ≡ last = cc in
    rw (s, bytes-total.same last) refl
up_to-last prior last (n ∷ m ∷ ns) h e =
    let r = and_right (in_order prior n) (rising (some n) (m ∷ ns)) h in
    let i = up_to-last (some n) last (m ∷ ns) r e in
    and_both (up_to last n) (every (up_to last) (m ∷ ns))
    (step_down last n m (and_left (in_order (some n) m) (rising (some m) ns) r) (and_left (up_to last m) (every (up_to last) ns) i)) i

pub unread_unseen_by_list : UnreadUnseen
unread_unseen_by_list image bytes is list last accepted is_last =
    let f = image_fits image bytes is in
    let l = (contents_of image).real in (
      up_to-last none last (listed (names_of true job_limit list)) (listed-rising job_limit none 0 list accepted) is_last,
      λ n h. unread_unseen last n (not_below (compare_bytes last n) h) l (orderly (contents_of image) f.orderly).ascends,
    )
