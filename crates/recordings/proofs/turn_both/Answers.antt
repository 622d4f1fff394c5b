-- `recordings::turn_both` meets its contract: one try serves both, or the snapshots are compared.
use mathlib.Core.Path.{sym, ap, ◌∙◌, subst}
use borrow.Author.Tests.{not-false}
use lib.ListN.{length}
use Rattle.recordings.specs.Turns.{Sound, SharedAs}
use Rattle.recordings.proofs.Turning.{turn_again, turn_shared}
use Rattle.recordings.proofs.turn_both.Goals as goal

pub advance_both-requires : goal.advance_both-requires
advance_both-requires c =
    (c.requires.0, c.requires.4 (not-false _ c.if-not-equal.false-raw))

pub turn_apart-requires-in-Nothing : goal.turn_apart-requires-in-Nothing
turn_apart-requires-in-Nothing c =
    let a = c.args in
    let both = c.advance_both in
    let same = c.requires.4 (not-false _ c.if-not-equal.false-raw) in
    let p = subst (SharedAs a.first.now a.offset a.one.now a.other.now both.new.first both.new.second) c.in-Nothing.is both.ensures in
    (subst Sound (sym p.0) c.requires.0, subst Sound (sym p.1) c.requires.0, ap length (p.1 ∙ sym p.0), c.requires.3 ∙ ap length (sym p.0))

pub returns-in-Moved : goal.returns-in-Moved
returns-in-Moved c =
    let a = c.args in
    let both = c.advance_both in
    let same = c.requires.4 (not-false _ c.if-not-equal.false-raw) in
    turn_shared same (subst (SharedAs a.first.now a.offset a.one.now a.other.now both.new.first both.new.second) c.in-Moved.is both.ensures)

pub returns-in-Nothing : goal.returns-in-Nothing
returns-in-Nothing c =
    let a = c.args in
    let both = c.advance_both in
    let same = c.requires.4 (not-false _ c.if-not-equal.false-raw) in
    let p = subst (SharedAs a.first.now a.offset a.one.now a.other.now both.new.first both.new.second) c.in-Nothing.is both.ensures in
    turn_again a.offset a.one.now a.other.now (p.0, p.1 ∙ sym same) c.turn_apart-in-Nothing.new.first c.turn_apart-in-Nothing.new.second c.turn_apart-in-Nothing.result
    c.turn_apart-in-Nothing.ensures
