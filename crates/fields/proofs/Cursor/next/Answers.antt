-- `Cursor::next` meets its contract: what it tells is the fields from the cursor on.
use mathlib.Core.Path.{◌≡◌, refl, sym}
use native.Mathlib.Omega.{arith}
use Rattle.fields.specs.Fields.{told, Onward}
use Rattle.fields.proofs.Parse.{parse-end, parse_cut, parse_past, parse_item}
use Rattle.fields.proofs.Cursor.next.Goals as goal

pub returns-then-at-to : goal.returns-then-at-to
unfolding told Onward
returns-then-at-to c =
    let e : c.args.self.at ≡ c.args.self.to = omega arith in
    (sym (parse-end _ _ c.requires.1 _ e), tt)

pub returns-then-to-at-lt3 : goal.returns-then-to-at-lt3
unfolding told Onward
returns-then-to-at-lt3 c = (sym (parse_cut _ _ c.requires.1 _ c.if-at-to.false c.if-to-at-lt3.true), tt)

pub returns-then-len-to : goal.returns-then-len-to
unfolding told Onward
returns-then-len-to c =
    (sym (parse_past _ _ c.requires.1 _ _ (omega arith) c.get16-len.ensures.0 c.if-len-to.true), tt)

pub returns : goal.returns
unfolding told Onward
returns c =
    let a = c.args in
    let g = c.get16-len in
    let within = c.requires.1 in (
      rw c.size.ensures.0
          (sym (parse_item a.s.now a.self.to within a.self.at g.result (omega arith) g.ensures.0 c.if-len-to.false)),
      (omega arith, omega arith, refl, refl, omega arith, omega arith, omega arith),
    )
