use mathlib.Core.Path.{ap₂, ◌∙◌}
use native.Mathlib.Omega.{arith}
use Rattle.model.specs.Run.{values}
use Rattle.keys.specs.Entities.{compare_entities}
use Rattle.keys.proofs.Elements.{begins, stands, lasts, both_end, first_ends, second_ends, heads_less, heads_equal, heads_greater}
use Rattle.keys.proofs.entities.compare_entities.Goals as goal

pub loop-start-init : goal.loop-start-init
loop-start-init c =
    let p = c.requires in
    let a = begins c.args.a.now in
    let b = begins c.args.b.now in (
      (p.first, omega arith),
      (p.second, omega arith),
      rw a p.first-ascends,
      rw b p.second_ascends,
      ap₂ (λ x y. compare_entities (values 1 x) (values 1 y)) a b,
    )

pub next_entity-requires : goal.next_entity-requires
next_entity-requires c = c.loop-start.invariant.0

pub next_entity-requires-in-At : goal.next_entity-requires-in-At
next_entity-requires-in-At c = c.loop-start.invariant.1

pub compare_entity-requires : goal.compare_entity-requires
compare_entity-requires c =
    let x = stands c.in-At.is c.next_entity.ensures in
    let y = stands c.in-At-next_entity.is c.next_entity-in-At.ensures in
    ((x.forward, x.most), (y.forward, y.most))

pub returns-in-Less : goal.returns-in-Less
returns-in-Less c =
    let x = stands c.in-At.is c.next_entity.ensures in
    let y = stands c.in-At-next_entity.is c.next_entity-in-At.ensures in
    let h = c.compare_entity.ensures in
    heads_less _ _ _ _ _ _ x.front y.front h c.in-Less.is ∙ c.loop-start.invariant.4

pub loop-start-smaller : goal.loop-start-smaller
loop-start-smaller c =
    let x = stands c.in-At.is c.next_entity.ensures in
    omega (arith, x.onwards, x.ends, x.inside)

pub loop-start-preserved : goal.loop-start-preserved
loop-start-preserved c =
    let x = stands c.in-At.is c.next_entity.ensures in
    let y = stands c.in-At-next_entity.is c.next_entity-in-At.ensures in
    let h = c.compare_entity.ensures in
    let i = c.loop-start.invariant in (
      (x.inside, omega (arith, x.ends, i.0.1)),
      (y.inside, omega (arith, y.ends, i.1.1)),
      x.ascends i.2,
      y.ascends i.3,
      heads_equal _ _ _ _ _ _ x.front y.front h c.in-Equal.is ∙ i.4,
    )

pub returns-in-Greater : goal.returns-in-Greater
returns-in-Greater c =
    let x = stands c.in-At.is c.next_entity.ensures in
    let y = stands c.in-At-next_entity.is c.next_entity-in-At.ensures in
    let h = c.compare_entity.ensures in
    heads_greater _ _ _ _ _ _ x.front y.front h c.in-Greater.is ∙ c.loop-start.invariant.4

pub returns-in-Last-next_entity : goal.returns-in-Last-next_entity
returns-in-Last-next_entity c =
    let x = stands c.in-At.is c.next_entity.ensures in
    let i = c.loop-start.invariant in
    let y = lasts _ _ c.in-Last-next_entity.is c.next_entity-in-At.ensures i.3 in
    second_ends _ _ _ _ x.front y ∙ i.4

pub next_entity-requires-in-Last : goal.next_entity-requires-in-Last
next_entity-requires-in-Last c = c.loop-start.invariant.1

pub returns-in-At-next_entity-2 : goal.returns-in-At-next_entity-2
returns-in-At-next_entity-2 c =
    let i = c.loop-start.invariant in
    let x = lasts _ _ c.in-Last.is c.next_entity.ensures i.2 in
    let y = stands c.in-At-next_entity-2.is c.next_entity-in-Last.ensures in
    first_ends _ _ _ _ x y.front ∙ i.4

pub returns-in-Last-next_entity-2 : goal.returns-in-Last-next_entity-2
returns-in-Last-next_entity-2 c =
    let i = c.loop-start.invariant in
    let x = lasts _ _ c.in-Last.is c.next_entity.ensures i.2 in
    let y = lasts _ _ c.in-Last-next_entity-2.is c.next_entity-in-Last.ensures i.3 in
    both_end _ _ x y ∙ i.4
