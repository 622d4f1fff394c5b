-- Moves made on a work array compose.
use mathlib.Core.Path.{◌≡◌, refl, sym, ap, ◌∙◌}
use mathlib.Core.List.{List, [], ◌∷◌, ◌++◌}
use Prim.Native.Nat.{◌+◌, ◌≤◌}
use native.Mathlib.Omega.{arith}
use lib.ListN.{length, length-append}
use Rattle.model.specs.Number.{Bytes}
use Rattle.model.specs.Shape.{stored}
use Rattle.model.specs.Contents.{Fixed, Contents}
use Rattle.model.specs.Move.{Move, on_real, on_empties, move, moves}
use Rattle.laws_records.specs.Faults.{fault-length}
use Rattle.laws_records.specs.Records.{length_record}
use Rattle.entries.specs.Entries.{IsRecord}
use Rattle.apply_work.specs.Work.{groups_in, Good, held_in, contents_in, most_record, Made}
use Rattle.apply_work.specs.declared.Bounds.{Bounds}

-- what a move can need
pub record-size : (s : Bytes) → IsRecord s → length s ≤ most_record
record-size s i =
    omega (arith, ap length i.bytes, length_record i.value, fault-length stored i.value.kind i.value.run i.passes)

-- no move
pub made_none : {w : Bytes} {bounds : Bounds} → Good w bounds → Made [] w bounds w bounds
unfolding moves
made_none good = record { good = good; real = λ f. refl; empties = λ f. refl; most = omega arith }

-- one move, by what it makes of the real entries and of the empty groups
pub made_one : (m : Move) {w v : Bytes} {bounds r : Bounds} → Good v r → held_in v r ≡ on_real m (held_in w bounds)
    → groups_in v r ≡ on_empties m (held_in w bounds) (groups_in w bounds) → r.used ≤ bounds.used + most_record → Made (m ∷ []) w bounds v r
unfolding moves move
made_one m good real empties most = record { good = good; real = λ f. real; empties = λ f. empties; most = omega arith }

moves-append : (ms ns : List Move) (c : Contents) → moves (ms ++ ns) c ≡ moves ns (moves ms c)
unfolding moves
moves-append [] ns c = refl
moves-append (m ∷ ms) ns c = moves-append ms ns (move m c)

-- some moves, and then others
pub made_then : (ms ns : List Move) {w v u : Bytes} {bounds r q : Bounds} → Made ms w bounds v r → Made ns v r u q → Made (ms ++ ns) w bounds u q
made_then ms ns {w} {v} {u} {bounds} {r} {q} a b =
    let between : (f : Fixed) → contents_in v r (moves ms (contents_in w bounds f)).fixed ≡ moves ms (contents_in w bounds f) =
    λ f. rw (a.real f, a.empties f) refl in
    let after : (f : Fixed) → moves ns (contents_in v r (moves ms (contents_in w bounds f)).fixed) ≡ moves (ms ++ ns) (contents_in w bounds f) =
    λ f. ap (moves ns) (between f) ∙ sym (moves-append ms ns (contents_in w bounds f)) in
    record {
      good = b.good;
      real = λ f. b.real (moves ms (contents_in w bounds f)).fixed ∙ ap (λ (c : Contents). c.real) (after f);
      empties = λ f. b.empties (moves ms (contents_in w bounds f)).fixed ∙ ap (λ (c : Contents). c.empties) (after f);
      most = omega (arith, length-append ms ns, a.most, b.most);
    }
