-- A broker as a level knows it: known once, it is known the same way again.
use Rattle.std.specs.Prelude.{◌≡◌, refl, [], Bool, true, false, cond, ℕ, ◌≤◌, ◌<◌, eqb}
use Rattle.std.proofs.Common.{ap, ◌∙◌, arith, lt-ltb, le-ltb, ne_eqb, eq-eqb}
use Rattle.std.proofs.Math.Decide.{dec_lt}
use Rattle.model.specs.Number.{Bytes}
use Rattle.model.specs.Run.{Run, done, torn, item, value, set_field, drop_field}
use Rattle.model.specs.Key.{key_of, subject}
use Rattle.model.specs.Downgrade.{is_under, directories_level, cordoned_level, project}
use Rattle.model.specs.declared.Kind.TheVariants.{BrokerRegistration}
use Rattle.laws_records.specs.Fields.{set-set, value-set_other, value-drop_other}

drop-drop : (tag : ℕ) (r : Run) → drop_field tag (drop_field tag r) ≡ drop_field tag r
unfolding drop_field
drop-drop tag done = refl
drop-drop tag torn = refl
drop-drop tag (item t v r) = go (eqb t tag) refl (drop-drop tag r)
  where
    go : (b : Bool) → eqb t tag ≡ b → drop_field tag (drop_field tag r) ≡ drop_field tag r
        → drop_field tag (cond b (drop_field tag r) (item t v (drop_field tag r))) ≡ cond b (drop_field tag r) (item t v (drop_field tag r))
    go true e i = i
    go false e i = rw (e, i)

-- a field that was set stays where another is dropped, so that setting it again changes nothing
set-drop-set : (a b : ℕ) (w : Bytes) → a < b → (r : Run) → set_field a w (drop_field b (set_field a w r)) ≡ drop_field b (set_field a w r)
unfolding set_field drop_field
set-drop-set a b w h done = let n : a ≡ b → ⊥ = λ e. omega arith in rw (ne_eqb a b n, le-ltb a a (omega arith), eq-eqb a a refl)
set-drop-set a b w h torn = let n : a ≡ b → ⊥ = λ e. omega arith in rw (ne_eqb a b n, le-ltb a a (omega arith), eq-eqb a a refl)
set-drop-set a b w h (item t v r) = elim (dec_lt t a) [ yes p ↦ early p (set-drop-set a b w h r) | no q ↦ late (omega arith) ]
  where
    early : t < a → set_field a w (drop_field b (set_field a w r)) ≡ drop_field b (set_field a w r)
        → set_field a w (drop_field b (set_field a w (item t v r))) ≡ drop_field b (set_field a w (item t v r))
    early p i =
        let n : t ≡ b → ⊥ = λ e. omega arith in
        rw (lt-ltb t a p, ne_eqb t b n, lt-ltb t a p, i)

    late : a ≤ t → set_field a w (drop_field b (set_field a w (item t v r))) ≡ drop_field b (set_field a w (item t v r))
    late q = let n : a ≡ b → ⊥ = λ e. omega arith in rw (le-ltb t a q, ne_eqb a b n, le-ltb a a (omega arith), eq-eqb a a refl)

pub project_again : (level : ℕ) (b : Run) → project level (project level b) ≡ project level b
unfolding project
project_again level b = go (is_under level directories_level) (is_under level cordoned_level)
  where
    at : Bool → Bool → Run → Run
    at d c r = let dirs = cond d (set_field 8 [] r) r in cond c (drop_field 11 dirs) dirs

    go : (d c : Bool) → at d c (at d c b) ≡ at d c b
    go true true = ap (drop_field 11) (set-drop-set 8 11 [] (omega arith) b) ∙ drop-drop 11 (set_field 8 [] b)
    go true false = set-set 8 [] [] b
    go false true = drop-drop 11 b
    go false false = refl

pub project-key : (level : ℕ) (b : Run) → key_of BrokerRegistration (project level b) ≡ key_of BrokerRegistration b
unfolding project key_of subject
project-key level b = go (is_under level directories_level) (is_under level cordoned_level)
  where
    drops : (r : Run) → value 1 (drop_field 11 r) ≡ value 1 r
    drops r = value-drop_other 11 1 (λ e. omega arith) r

    sets : value 1 (set_field 8 [] b) ≡ value 1 b
    sets = value-set_other 8 [] 1 (λ e. omega arith) b

    at : Bool → Bool → Run → Run
    at d c r = let dirs = cond d (set_field 8 [] r) r in cond c (drop_field 11 dirs) dirs

    go : (d c : Bool) → key_of BrokerRegistration (at d c b) ≡ key_of BrokerRegistration b
    go true true = rw (drops (set_field 8 [] b), sets)
    go true false = rw sets
    go false true = rw (drops b)
    go false false = refl
