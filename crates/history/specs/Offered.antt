-- A record step on contents: what Validate says of what was read, and what Apply then makes of the contents.
use Rattle.std.specs.Prelude.{◌≡◌, Bool, cond, ℕ, ◌≤◌, ◌<◌, leb, eqb}
use Rattle.std.proofs.Math.Path.{refl}
use Rattle.std.proofs.Common.{ap, arith, leb-true, le-leb, eqb-true}
use Rattle.std.proofs.Math.Bool.{true, false}
use Rattle.model.specs.Number.{span}
use Rattle.model.specs.Record.{Rec, Got, bad, got, on_got}
use Rattle.model.specs.Contents.{Fixed, Contents, dated, weight}
use Rattle.model.specs.Move.{moved, overflows}
use Rattle.model.specs.Validate.{judge}
use Rattle.model.specs.Apply.{Applied, stays, becomes, apply, dated_by, is_later, apply_at}
use Rattle.laws_image.specs.Fits.{Fits}
use Rattle.laws_image.specs.Snapshot.{Loggable}
use Rattle.laws_apply.specs.Moves.{Holds}
use Rattle.laws_apply.specs.MovedFits.{contents_after, applied-at_fits}
use Rattle.history.specs.Like.{Like, like_weight, like_moved}
use Rattle.history.specs.Good.{Premises, Good}
use Rattle.history.specs.Accepted.{MildRecord, good_moved}

-- Validate's number, of what was read
abbrev pub validated : Got → Contents → ℕ
validated g c = on_got g (λ n. n) (λ r used. judge r c.real)

-- what Apply does with it
abbrev pub applied : ℕ → ℕ → Got → Contents → Applied
applied capacity o g c = on_got g stays (λ r used. apply_at capacity o r c)

-- the step: Apply's where Validate says 0, else nothing changes
abbrev pub offered : ℕ → ℕ → Got → Contents → Applied
offered capacity o g c = cond (eqb (validated g c) 0) (applied capacity o g c) (stays (validated g c))

-- 1. Contents fit after it

-- a record that was read
abbrev pub IsRead : Got → Type 0
IsRead (bad n) = Unit {0}
IsRead (got r used) = Loggable r

pub offered_fits : (capacity o : ℕ) → o < span 8 → (c : Contents) → Fits capacity c → (g : Got) → IsRead g
    → Fits capacity (contents_after c (offered capacity o g c))
offered_fits capacity o wide c fits g read = go (eqb (validated g c) 0) g read
  where
    go : (b : Bool) (h : Got) → IsRead h → Fits capacity (contents_after c (cond b (applied capacity o h c) (stays (validated h c))))
    go true (bad n) p = fits
    go true (got r used) p = applied-at_fits capacity o c fits wide r p.0 p.1
    go false h p = fits

-- 2. Both of two contents stay, by the same number, or both become others

pub data Matched (P : Contents → Contents → Type 0) : Applied → Applied → Type 0 where
  both_stay : (n : ℕ) → Matched P (stays n) (stays n)
  both_become : {u c : Contents} → P u c → Matched P (becomes u) (becomes c)

-- what Apply does, by its two tests
abbrev tested : Rec → Contents → Bool → Bool → Applied
tested r c leaves room = cond leaves (stays 17) (cond room (becomes (moved r c)) (stays 18))

-- like contents, which are good where they meet the premises
abbrev pub Next : Contents → Contents → Type 0
Next u c = Like u c × (Premises u.real → Good u)

abbrev pub IsMild : Got → Type 0
IsMild (bad n) = Unit {0}
IsMild (got r used) = MildRecord r

module _ (capacity o : ℕ) (u c : Contents) (k : Like u c) (s : Holds u) (good : Good u) (premise : Premises u.real) where
  apply_matched : (r : Rec) → Loggable r → MildRecord r → judge r u.real ≡ 0 → (apply capacity r u ≡ stays 18 → ⊥)
      → Matched Next (apply capacity r u) (apply capacity r c)
  unfolding apply
  apply_matched r given mild ok room =
      rw (ap (overflows r) k.real) (go (overflows r u.real) (leb (weight (moved r u)) capacity) refl room)
    where
      like : Like (moved r u) (moved r c)
      like = like_moved r given u c s k

      go : (a b : Bool) → leb (weight (moved r u)) capacity ≡ b → (tested r u a b ≡ stays 18 → ⊥)
          → Matched Next (tested r u a b) (tested r c a (leb (weight (moved r c)) capacity))
      go true b q h = both_stay 17
      go false true q h =
          let room-u = leb-true (weight (moved r u)) capacity q in
          let room-c : weight (moved r c) ≤ capacity = omega (arith, like_weight (moved r u) (moved r c) like) in
          rw (le-leb (weight (moved r c)) capacity room-c) (both_become (like, good_moved r given mild u s good ok premise))
      go false false q h = absurd (h refl)

  -- the same at an offset
  dated_matched : {a b : Applied} → Matched Next a b → Matched Next (dated_by o a) (dated_by o b)
  dated_matched (both_stay n) = both_stay n
  dated_matched (both_become {u = v} {c = d} p) =
      let dates : Fixed → Fixed = λ f. record { epoch = f.epoch; kraft = f.kraft; offset = o } in
      let like : Like (dated o v) (dated o d) = record { real = p.0.real; fixed = ap dates p.0.fixed; empties = p.0.empties } in
      both_become (like, λ q. let g = p.1 q in record { accurate = g.accurate; early = g.early })

  at_matched : (r : Rec) → Loggable r → MildRecord r → judge r u.real ≡ 0 → (apply_at capacity o r u ≡ stays 18 → ⊥)
      → Matched Next (apply_at capacity o r u) (apply_at capacity o r c)
  unfolding apply_at
  at_matched r given mild ok room = rw (ap (λ (f : Fixed). is_later f.offset o) k.fixed) (go (is_later u.fixed.offset o) refl)
    where
      go : (b : Bool) → is_later u.fixed.offset o ≡ b
          → Matched Next (cond b (dated_by o (apply capacity r u)) (stays 21)) (cond b (dated_by o (apply capacity r c)) (stays 21))
      go true e = dated_matched (apply_matched r given mild ok (λ q. room (rw (e, q) refl)))
      go false e = both_stay 21

  pub offered_matched : (g : Got) → IsRead g → IsMild g → (eqb (validated g u) 0 ≡ true → applied capacity o g u ≡ stays 18 → ⊥)
      → Matched Next (offered capacity o g u) (offered capacity o g c)
  offered_matched (bad n) read mild room = go (eqb n 0)
    where
      go : (b : Bool) → Matched Next (cond b (stays n) (stays n)) (cond b (stays n) (stays n))
      go true = both_stay n
      go false = both_stay n
  offered_matched (got r used) read mild room = rw (ap (judge r) k.real) (go (eqb (judge r u.real) 0) refl)
    where
      go : (b : Bool) → eqb (judge r u.real) 0 ≡ b
          → Matched Next (cond b (apply_at capacity o r u) (stays (judge r u.real))) (cond b (apply_at capacity o r c) (stays (judge r u.real)))
      go true e = at_matched r read mild (eqb-true (judge r u.real) 0 e) (room e)
      go false e = both_stay (judge r u.real)
