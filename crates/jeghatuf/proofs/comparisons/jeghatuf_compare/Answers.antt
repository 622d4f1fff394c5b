-- `jeghatuf::comparisons::jeghatuf_compare` meets its contract: whether the runs part, and the count beside it, or a number.
use Rattle.jeghatuf.proofs.Packs.{compare_parted, compare_agree, compare-refused}
use Rattle.jeghatuf.proofs.comparisons.jeghatuf_compare.Goals as goal

pub returns-in-Parted : goal.returns-in-Parted
returns-in-Parted c =
    let e = c.compare.ensures in
    let p = compare_parted e.result_value c.in-Parted.is _ c.put_first.ensures in
    record { value = p.0; first_after = e.first_after; second_after = e.second_after; value_after = p.1 }

pub returns-in-Agree : goal.returns-in-Agree
returns-in-Agree c =
    let e = c.compare.ensures in
    let p = compare_agree e.result_value c.in-Agree.is _ c.put_first-in-Agree.ensures in
    record { value = p.0; first_after = e.first_after; second_after = e.second_after; value_after = p.1 }

pub returns-in-Refused : goal.returns-in-Refused
returns-in-Refused c =
    let e = c.compare.ensures in
    let p = compare-refused e.result_value c.in-Refused.is c.alone.ensures _ in
    record { value = p.0; first_after = e.first_after; second_after = e.second_after; value_after = p.1 }
