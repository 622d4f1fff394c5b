-- `recordings::close` meets its contract: the second run is over by the same number, or stands otherwise.
use mathlib.Core.Path.{sym, subst}
use Rattle.recordings.specs.Turns.{Sound}
use Rattle.recordings.proofs.Copies.{copied}
use Rattle.recordings.proofs.Turning.{closed_on, closed_alike, closed_unlike}
use Rattle.recordings.proofs.close.Goals as goal

pub advance-requires : goal.advance-requires
advance-requires c =
    subst Sound (sym (copied c.args.spare.now c.args.second.now c.requires.1 c.copy.ensures)) c.requires.0

pub returns-then-number-there : goal.returns-then-number-there
returns-then-number-there c =
    let a = c.args in
    let copy = copied a.spare.now a.second.now c.requires.1 c.copy.ensures in
    closed_alike a.second.now a.offset a.other.now a.number copy c.advance.new.image _ c.advance.ensures c.in-Over.is c.if-number-there.true

pub returns-in-On : goal.returns-in-On
returns-in-On c =
    let a = c.args in
    let copy = copied a.spare.now a.second.now c.requires.1 c.copy.ensures in
    closed_on a.second.now a.offset a.other.now a.number copy c.advance.new.image _ c.advance.ensures c.in-On.is

pub returns-else-number-there : goal.returns-else-number-there
returns-else-number-there c =
    let a = c.args in
    let copy = copied a.spare.now a.second.now c.requires.1 c.copy.ensures in
    closed_unlike a.second.now a.offset a.other.now a.number copy c.advance.new.image _ c.advance.ensures c.in-Over.is c.if-number-there.false
