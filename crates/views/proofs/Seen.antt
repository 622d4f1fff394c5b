-- Which entries a viewer sees: those of the six groups under topics, by the name that their keys begin with.
use mathlib.Core.Path.{◌≡◌, refl, sym, ap, ◌∙◌}
use mathlib.Core.Bool.{Bool, false}
use mathlib.Core.List.{List}
use mathlib.Core.Option.{none, some}
use Prim.Native.Nat.{ℕ, ◌≤◌, ◌<◌}
use Rattle.model.specs.Number.{Bytes}
use Rattle.model.specs.Run.{value}
use Rattle.model.specs.View.{visible, is_seen}
use Rattle.keys.specs.Keys.{kind_in, run_in, rank_of, key_in, Keyed}
use Rattle.entries.proofs.Apart.{topic_low, topic_high, topic_named_lem}

module _ (ps : List Bytes) (e : Bytes) (keyed : Keyed e) (n : ℕ) (en : n ≡ rank_of (kind_in e)) where
  pub seen_low : n < 4 → false ≡ is_seen ps (key_in e)
  unfolding is_seen
  seen_low h = rw (topic_low e keyed n en h)

  pub seen_high : 9 < n → false ≡ is_seen ps (key_in e)
  unfolding is_seen
  seen_high h = rw (topic_high e keyed n en h)

  pub seen_named : 4 ≤ n → n ≤ 9 → {v : Bytes} {b : Bool} → v ≡ value 1 (run_in e) → b ≡ visible ps v → b ≡ is_seen ps (key_in e)
  unfolding is_seen
  seen_named low high is shows = rw (topic_named_lem e keyed n en low high) (shows ∙ ap (visible ps) is)
