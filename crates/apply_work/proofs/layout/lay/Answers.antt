-- `apply_work::lay` meets its contract: the entries are copied, the rest is cleared and the header is written.
use native.Mathlib.Omega.{arith}
use Rattle.model.specs.Number.{AreBytes}
use Rattle.keys.proofs.Keys.{known_bytes}
use Rattle.apply_work.proofs.Lays.{used-whole, laid}
use Rattle.apply_work.proofs.layout.lay.Goals as goal

pub slice_bounds-copy-end : goal.slice_bounds-copy-end
slice_bounds-copy-end c =
    let bytes_in : AreBytes c.args.w.now = known_bytes c.args.w.now (λ i. omega (arith, c.type_inv.w i)) in
    used-whole bytes_in c.requires.0

pub copy-requires : goal.copy-requires
copy-requires c =
    let bytes_in : AreBytes c.args.w.now = known_bytes c.args.w.now (λ i. omega (arith, c.type_inv.w i)) in
    omega (arith, used-whole bytes_in c.requires.0, c.requires.1)

pub returns : goal.returns
returns c =
    let bytes_in : AreBytes c.args.w.now = known_bytes c.args.w.now (λ i. omega (arith, c.type_inv.w i)) in
    laid bytes_in c.requires.0 c.args.image.now c.requires.1 c.copy.new.dst c.clear.new.s
    c.copy.ensures c.copy.auto.dst c.clear.ensures _ c.put_header.ensures
