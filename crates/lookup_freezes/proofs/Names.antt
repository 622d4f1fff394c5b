-- A name that passes its checks has at most 255 bytes.
use mathlib.Core.Path.{◌≡◌, sym}
use Prim.Native.Nat.{◌≤◌}
use native.Mathlib.Omega.{arith}
use borrow.Author.Tests.{leb-true}
use lib.Dec.{leb}
use lib.ListN.{length}
use Rattle.model.specs.Choice.{unless}
use Rattle.model.specs.Number.{Bytes}
use Rattle.model.specs.Text.{is_text}
use Rattle.model.specs.Shape.{string_limit, text_fault}
use Rattle.laws.specs.Choice.{or_then_right, unless_true}

pub name_fits : (name : Bytes) → 0 ≡ text_fault string_limit name → length name ≤ 255
name_fits name e =
    leb-true (length name) string_limit (unless_true (leb (length name) string_limit) 5 (omega arith) (or_then_right (unless (is_text name) 4) (unless (leb (length name) string_limit) 5) (sym e)))
