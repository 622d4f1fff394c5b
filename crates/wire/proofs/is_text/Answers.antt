-- `wire::is_text` meets its contract: the library's UTF-8 is the model's.
use native.Mathlib.Omega.{arith}
use mathlib.Core.Path.{◌≡◌}
use Rattle.model.specs.Text.{is_text}
use Rattle.wire.proofs.Utf8.{tested}
use Rattle.wire.proofs.is_text.Goals as goal

pub returns : goal.returns
returns c =
    let told : c.is_ok.result ≡ is_text c.args.s.now = tested c.args.s.now c.is_ok.result (grind arith) in
    grind (arith, told)
