-- `header::header_ok` meets its contract, exit by exit.
use native.Mathlib.Omega.{arith}
use Rattle.keys.proofs.Keys.{known_bytes}
use Rattle.header.proofs.Fronts.{bad_front, bad_low, bad_high, bad_rest, last_offset_lem}
use Rattle.header.proofs.header_ok.Goals as goal

pub returns-then-not-front_ok : goal.returns-then-not-front_ok
returns-then-not-front_ok c =
    let are_bytes = known_bytes c.args.b.now (λ i. omega (arith, c.type_inv.b i)) in
    bad_front c.args.b.now are_bytes c.requires c.front_ok.ensures c.if-not-front_ok.true-raw

pub returns-then-used-lt-HEAD_SIZE : goal.returns-then-used-lt-HEAD_SIZE
returns-then-used-lt-HEAD_SIZE c =
    let are_bytes = known_bytes c.args.b.now (λ i. omega (arith, c.type_inv.b i)) in
    bad_low c.args.b.now are_bytes c.requires c.front_ok.ensures c.if-not-front_ok.false-raw c.used_in-used.ensures.0 c.if-used-lt-HEAD_SIZE.true

pub returns-then-b-used : goal.returns-then-b-used
returns-then-b-used c =
    let are_bytes = known_bytes c.args.b.now (λ i. omega (arith, c.type_inv.b i)) in
    bad_high c.args.b.now are_bytes c.requires c.front_ok.ensures c.if-not-front_ok.false-raw c.used_in-used.ensures.0 c.if-used-lt-HEAD_SIZE.false c.if-b-used.true

pub returns-then-not-is_clear : goal.returns-then-not-is_clear
returns-then-not-is_clear c =
    let are_bytes = known_bytes c.args.b.now (λ i. omega (arith, c.type_inv.b i)) in
    bad_rest c.args.b.now are_bytes c.requires c.front_ok.ensures c.if-not-front_ok.false-raw c.used_in-used.ensures.0 c.if-used-lt-HEAD_SIZE.false
    c.if-b-used.false c.is_clear.ensures c.if-not-is_clear.true-raw

pub returns : goal.returns
returns c =
    let are_bytes = known_bytes c.args.b.now (λ i. omega (arith, c.type_inv.b i)) in
    last_offset_lem c.args.b.now are_bytes c.requires c.front_ok.ensures c.if-not-front_ok.false-raw c.used_in-used.ensures.0 c.if-used-lt-HEAD_SIZE.false
    c.if-b-used.false c.is_clear.ensures c.if-not-is_clear.false-raw c.offset_in.ensures c.is_offset.ensures
