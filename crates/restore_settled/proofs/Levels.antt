-- No entry is a level: a walk's turns, and what it says of the levels' number.
use mathlib.Core.Path.{◌≡◌, refl, sym, ◌∙◌}
use mathlib.Core.Bool.{true, false, not}
use mathlib.Core.List.{List, [], ◌∷◌, map}
use Prim.Native.Nat.{ℕ, ◌-◌}
use native.Mathlib.Omega.{arith}
use borrow.Author.Tests.{eq-eqb, ne_eqb}
use lib.Dec.{eqb}
use lib.ListN.{get_or, take, drop}
use Rattle.model.specs.Choice.{every}
use Rattle.model.specs.Number.{Bytes}
use Rattle.model.specs.Kind.{kind_number}
use Rattle.model.specs.Record.{Rec}
use Rattle.model.specs.Key.{rank}
use Rattle.model.specs.Contents.{key}
use Rattle.model.specs.Image.{entry_of}
use Rattle.model.specs.Snapshot.{is_level, levels}
use Rattle.model.specs.declared.Kind.TheVariants.{FeatureLevel}
use Rattle.laws.specs.Choice.{impossible}
use Rattle.laws.specs.Lists.{All, every_true}
use Rattle.laws.specs.Count.{count_none}
use Rattle.laws_image.specs.Entries.{entry_key}
use Rattle.laws_image.specs.Ranks.{rank_injective, key_rank_lem}
use Rattle.entries.specs.Entries.{record_in}
use Rattle.entries.specs.declared.Cursor.{Cursor}
use Rattle.entries.proofs.Turns.{Stands}
use Rattle.image_entries.proofs.Turns.{entry_is}
use Rattle.image_counts.proofs.Topics.{kind_here}
use Rattle.restore_settled.specs.Settled.{is_no_level}

-- an entry's first byte tells
module _ {s : Bytes} {at start end : ℕ} {next : Cursor} (t : Stands s at start end next) where
  pub level-here : get_or s start 0 ≡ 11 → false ≡ is_no_level (record_in (take (end - start) (drop start s)))
  unfolding is_no_level
  level-here e = rw (entry_is t, eq-eqb (kind_number t.entry.entry.kind) 11 (sym (kind_here t) ∙ e)) refl

  pub no_level-here : (get_or s start 0 ≡ 11 → ⊥) → true ≡ is_no_level (record_in (take (end - start) (drop start s)))
  unfolding is_no_level
  no_level-here d = rw (entry_is t, ne_eqb (kind_number t.entry.entry.kind) 11 (λ e. d (kind_here t ∙ e))) refl

no_level-key : (r : Rec) → is_no_level r ≡ true → is_level (key (entry_of r)) ≡ false
unfolding is_no_level is_level kind_number rank
no_level-key r h =
    rw (entry_key r, key_rank_lem r.kind r.run)
    (ne_eqb (rank r.kind) (rank FeatureLevel) (λ (e : rank r.kind ≡ rank FeatureLevel).
    let k = rank_injective r.kind FeatureLevel e (omega arith) in absurd_level r h k))
  where
    absurd_level : (r : Rec) → not (eqb (kind_number r.kind) 11) ≡ true → r.kind ≡ FeatureLevel → ⊥
    absurd_level r h k = let q : not (eqb (kind_number FeatureLevel) 11) ≡ true = rw k at h in impossible cc

pub no_levels : (l : List Rec) → every is_no_level l ≡ true → levels (map entry_of l) ≡ 0
unfolding levels
no_levels l h = count_none key is_level (map entry_of l) (go l (every_true is_no_level l h))
  where
    go : (l : List Rec) → All (λ r. is_no_level r ≡ true) l → All (λ e. is_level (key e) ≡ false) (map entry_of l)
    go [] u = tt
    go (r ∷ l) u = (no_level-key r u.0, go l u.1)
