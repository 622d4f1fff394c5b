-- What the comparison of two recordings says, 1 or 0, is below 2^32.
use Rattle.std.specs.Prelude.{Bool, true, false, cond, ◌&&◌, eqb, length}
use Rattle.std.proofs.Common.{arith}
use Rattle.model.specs.Number.{Bytes}
use Rattle.model.specs.Image.{is_capacity}
use Rattle.model.specs.Reply.{refused}
use Rattle.model.specs.Recordings.{Parting, parted, agree, parting_of, compared_as, compare_of}
use Rattle.laws_answers.specs.Values.{Below, none_below}

pub compare-below : (first second one other : Bytes) → Below (compare_of first second one other).reply
unfolding compare_of
compare-below first second one other = go (is_capacity (length first) && eqb (length first) (length second))
  where
    each : (p : Parting) → Below (compared_as (length first) p).reply
    each (parted k a b) = omega arith
    each (agree k a b) = omega arith

    go : (t : Bool)
        → Below (cond t (compared_as (length first) (parting_of (length first) one other)) (record { reply = refused 1; first = first; second = second })).reply
    go true = each (parting_of (length first) one other)
    go false = none_below 1
