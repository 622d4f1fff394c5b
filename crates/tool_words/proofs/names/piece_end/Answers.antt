use native.Mathlib.Omega.{arith}
use Rattle.tool_words.proofs.names.piece_end.Goals as goal

pub loop-end-init : goal.loop-end-init
loop-end-init c = (omega arith, omega arith)

pub returns-then-text-end : goal.returns-then-text-end
returns-then-text-end c = (omega arith, omega arith)

pub loop-end-preserved : goal.loop-end-preserved
loop-end-preserved c = (omega arith, omega arith)

pub returns : goal.returns
returns c = (omega arith, omega arith)
