-- `keys::compare_keys` meets its contract: ranks decide, and within a rank what tells its entries apart.
use mathlib.Core.Path.{◌≡◌, ◌∙◌}
use native.Mathlib.Omega.{arith}
use Rattle.keys.proofs.Keys.{rank_less, rank_greater, same_order, both_fit, known_bytes}
use Rattle.keys.proofs.compare_keys.Goals as goal

pub returns-then-x-y : goal.returns-then-x-y
returns-then-x-y c =
    let p = c.requires in
    rank_less _ _ _ _ c.rank_of-x.ensures c.rank_of-y.ensures p.0 p.1 c.if-x-y.true

pub returns-then-y-x : goal.returns-then-y-x
returns-then-y-x c =
    let p = c.requires in
    rank_greater _ _ _ _ c.rank_of-x.ensures c.rank_of-y.ensures p.0 p.1 c.if-y-x.true

pub compare_by-requires : goal.compare_by-requires
compare_by-requires c =
    let p = c.requires in
    let a = c.args in
    let e : c.rank_of-x.result ≡ c.rank_of-y.result = omega arith in
    let w =
    both_fit a.a.now a.b.now p.0 p.1 (known_bytes a.a.now (λ i. omega (arith, c.shared_slice_known-1.given i)))
    (known_bytes a.b.now (λ i. omega (arith, c.shared_slice_known-2-1.given i)))
    _ _ _ c.rank_of-x.ensures c.rank_of-y.ensures e c.form_of.ensures in
    (p.0.headed, p.1.headed, w.0, w.1)

pub returns : goal.returns
returns c =
    let p = c.requires in
    let a = c.args in
    let e : c.rank_of-x.result ≡ c.rank_of-y.result = omega arith in
    c.compare_by.ensures
    ∙ same_order a.a.now a.b.now p.0 p.1 (known_bytes a.a.now (λ i. omega (arith, c.shared_slice_known-1.given i)))
    (known_bytes a.b.now (λ i. omega (arith, c.shared_slice_known-2-1.given i)))
    _ _ _ c.rank_of-x.ensures c.rank_of-y.ensures e c.form_of.ensures
