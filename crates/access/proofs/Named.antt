-- The named answers, by whether there is a number.
use mathlib.Core.Path.{◌≡◌, refl, sym, ◌∙◌}
use mathlib.Core.List.{[], ◌∷◌}
use mathlib.Core.Option.{Option, none, some}
use Prim.Native.Nat.{ℕ, ◌<◌}
use native.Mathlib.Omega.{arith}
use borrow.Author.Tests.{ne_eqb}
use lib.IntN.{ℤ}
use lib.ListN.{length, get_or}
use Rattle.model.specs.Number.{Bytes}
use Rattle.model.specs.Kind.{kind_number, kind_of}
use Rattle.laws.specs.Choice.{impossible}
use Rattle.quota.specs.Quota.{quota_of}
use Rattle.quota.specs.declared.Quota.{Quota}
use Rattle.access.specs.Access.{field_number, number_in, signed, kind_tag, node_in, epoch_in, quota_in, found_number, Below}
use Rattle.access.specs.declared.Number.{Number}
use Rattle.access.specs.declared.Number.TheVariants.{Is, Missing}
use Rattle.access.specs.declared.Node.TheVariants.{Is as node, Missing as no_node}
use Rattle.access.specs.declared.Epoch.TheVariants.{Is as epoch, Missing as no_epoch}
use Rattle.access.specs.declared.QuotaValue.TheVariants.{Is as quota_value, Missing as no_quota}

module _ {r : Number} {p : Option ℕ} (e : found_number r ≡ p) where
  answer_is : {n : ℕ} → r ≡ Is n → p ≡ some n
  unfolding found_number
  answer_is h = sym e ∙ rw h

  answer-missing : r ≡ Missing → p ≡ none
  unfolding found_number
  answer-missing h = sym e ∙ rw h

pub below_is : {bound : ℕ} {r : Number} {n : ℕ} → r ≡ Is n → Below bound r → n < bound
unfolding Below
below_is {bound} {r} {n} h b = let q : Below bound (Is n) = rw h at b in q

pub node_empty : (s : Bytes) → length s ≡ 0 → no_node ≡ node_in s
unfolding node_in kind_tag kind_of
node_empty [] h = refl
node_empty (x ∷ s) h = impossible (omega arith)

module _ (s : Bytes) (tag : ℕ) (t : tag ≡ kind_tag (get_or s 0 0)) where
  pub node_none : tag ≡ 0 → no_node ≡ node_in s
  unfolding node_in
  node_none h = rw (← t, h)

  module _ (h : tag ≡ 0 → ⊥) {r : Number} (e : found_number r ≡ field_number s tag 8) where
    pub node_is : {n : ℕ} → r ≡ Is n → node (record { 0 = n }) ≡ node_in s
    unfolding node_in
    node_is q = rw (← t, ne_eqb _ _ h, answer_is e q)

    pub node_missing : r ≡ Missing → no_node ≡ node_in s
    unfolding node_in
    node_missing q = rw (← t, ne_eqb _ _ h, answer-missing e q)

module _ (s : Bytes) {r : Number} (e : found_number r ≡ number_in s 2 6 4) where
  pub epoch_is_lem : {n : ℕ} {z : ℤ} → r ≡ Is n → z ≡ signed 4 n → epoch (record { 0 = z }) ≡ epoch_in s
  unfolding epoch_in kind_number
  epoch_is_lem h q = rw (answer_is e h, q)

  pub epoch-missing : r ≡ Missing → no_epoch ≡ epoch_in s
  unfolding epoch_in kind_number
  epoch-missing h = rw (answer-missing e h)

module _ (s : Bytes) {r : Number} (e : found_number r ≡ number_in s 7 3 8) where
  pub quota_is : {n : ℕ} {q : Quota} → r ≡ Is n → q ≡ quota_of n → quota_value q ≡ quota_in s
  unfolding quota_in kind_number
  quota_is h q = rw (answer_is e h, q)

  pub quota_missing : r ≡ Missing → no_quota ≡ quota_in s
  unfolding quota_in kind_number
  quota_missing h = rw (answer-missing e h)
