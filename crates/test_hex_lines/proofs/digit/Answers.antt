-- `test_hex_lines::digit` is `digit_of`, range by range.
use borrow.Author.Tests.{lt-ltb, le-ltb, le-leb, lt-leb}
use mathlib.Core.Path.{refl}
use Rattle.test_hex_lines.proofs.digit.Goals as goal

pub returns-then-b-lt48 : goal.returns-then-b-lt48
returns-then-b-lt48 c = simp (lt-ltb _ _ c.if-b-lt48.true) refl

pub returns-then-b-le57 : goal.returns-then-b-le57
returns-then-b-le57 c = simp (le-ltb _ _ c.if-b-lt48.false, le-leb _ _ c.if-b-le57.true) refl

pub returns-then-b-lt97 : goal.returns-then-b-lt97
returns-then-b-lt97 c = simp (le-ltb _ _ c.if-b-lt48.false, lt-leb _ _ c.if-b-le57.false, lt-ltb _ _ c.if-b-lt97.true) refl

pub returns-then-b-le102 : goal.returns-then-b-le102
returns-then-b-le102 c = simp (le-ltb _ _ c.if-b-lt48.false, lt-leb _ _ c.if-b-le57.false, le-ltb _ _ c.if-b-lt97.false, le-leb _ _ c.if-b-le102.true) refl

pub returns : goal.returns
returns c = simp (le-ltb _ _ c.if-b-lt48.false, lt-leb _ _ c.if-b-le57.false, le-ltb _ _ c.if-b-lt97.false, lt-leb _ _ c.if-b-le102.false) refl
