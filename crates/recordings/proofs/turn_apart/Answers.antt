-- `recordings::turn_apart` meets its contract: the snapshots are compared, and the first run is asked on a copy.
use mathlib.Core.Path.{sym, subst}
use Rattle.recordings.specs.Turns.{Sound}
use Rattle.recordings.specs.declared.Stand.TheVariants as stand
use Rattle.recordings.proofs.Copies.{copied}
use Rattle.recordings.proofs.Turning.{on_copy, turn_unlike, turn_closed, turn_asked}
use Rattle.recordings.proofs.turn_apart.Goals as goal

pub returns-then-not-same_snapshots : goal.returns-then-not-same_snapshots
returns-then-not-same_snapshots c =
    let a = c.args in
    turn_unlike a.first.now a.second.now a.offset a.one.now a.other.now c.requires.2 c.same_snapshots.ensures c.if-not-same_snapshots.true-raw

pub advance-requires : goal.advance-requires
advance-requires c =
    subst Sound (sym (copied c.args.spare.now c.args.first.now (sym c.requires.3) c.copy.ensures)) c.requires.0

pub returns-in-On : goal.returns-in-On
returns-in-On c =
    let a = c.args in
    let copy = copied a.spare.now a.first.now (sym c.requires.3) c.copy.ensures in
    let moved = on_copy copy a.offset a.one.now c.advance.new.image _ c.advance.ensures in
    let on = moved (stand.On c.in-On.n) c.in-On.is in
    turn_asked a.first.now a.second.now a.offset a.one.now a.other.now c.requires.2 c.same_snapshots.ensures c.if-not-same_snapshots.false-raw on c.ask_second.new.first c.ask_second.new.second c.ask_second.result
    c.ask_second.ensures

pub returns-in-Over : goal.returns-in-Over
returns-in-Over c =
    let a = c.args in
    let copy = copied a.spare.now a.first.now (sym c.requires.3) c.copy.ensures in
    let moved = on_copy copy a.offset a.one.now c.advance.new.image _ c.advance.ensures in
    turn_closed a.first.now a.second.now a.offset a.one.now a.other.now c.requires.2 c.same_snapshots.ensures c.if-not-same_snapshots.false-raw c.in-Over.number (moved (stand.Over c.in-Over.number) c.in-Over.is).0
    c.close.result c.close.ensures
