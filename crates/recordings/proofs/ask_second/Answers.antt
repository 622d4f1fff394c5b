-- `recordings::ask_second` meets its contract: both images are moved, or neither.
use mathlib.Core.Path.{subst}
use Rattle.recordings.specs.Turns.{AdvancedAs}
use Rattle.recordings.proofs.Copies.{copied}
use Rattle.recordings.proofs.Turning.{asked_on, asked_over}
use Rattle.recordings.proofs.ask_second.Goals as goal

pub returns-in-On : goal.returns-in-On
returns-in-On c =
    let a = c.args in
    asked_on a.first.now a.second.now a.moved.now a.offset a.n a.other.now (copied a.first.now a.moved.now c.requires.1 c.copy.ensures)
    (subst (AdvancedAs a.second.now a.offset a.other.now c.advance.new.image) c.in-On.is c.advance.ensures) c.same.ensures

pub returns-in-Over : goal.returns-in-Over
returns-in-Over c =
    let a = c.args in
    asked_over a.first.now a.second.now a.moved.now a.offset a.n a.other.now c.in-Over.number
    (subst (AdvancedAs a.second.now a.offset a.other.now c.advance.new.image) c.in-Over.is c.advance.ensures)
