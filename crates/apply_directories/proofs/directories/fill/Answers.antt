-- `directories::fill` meets its contract, whichever is longer.
use native.Mathlib.Omega.{arith}
use Rattle.apply_directories.proofs.Filled.{dirs_filled}
use Rattle.apply_directories.proofs.directories.fill.Goals as goal

pub returns-then-len-old : goal.returns-then-len-old
returns-then-len-old c =
    dirs_filled c.args.dirs.now c.args.old.now c.args.id.now c.args.count c.args.slot _ c.requires c.clear.ensures
    c.copy.ensures c.copy-2.ensures (omega arith)

pub returns : goal.returns
returns c =
    dirs_filled c.args.dirs.now c.args.old.now c.args.id.now c.args.count c.args.slot _ c.requires c.clear.ensures
    c.copy.ensures c.copy-2.ensures (omega arith)
