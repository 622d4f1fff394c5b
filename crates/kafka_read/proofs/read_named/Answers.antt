-- `kafka_read::read_named` meets its contract, an exit after the other.
use native.Mathlib.Omega.{arith}
use Rattle.kafka_read.proofs.Emitted.{part-short, part_width}
use Rattle.kafka_read.proofs.Taken.{no_name, name_ends, no_rest, rest_ends, named-written}
use Rattle.kafka_read.proofs.read_named.Goals as goal

pub read_rest-requires : goal.read_rest-requires
read_rest-requires c =
    let a = c.args in
    (name_ends a.kind a.width a.others.now c.requires.3 a.s.now a.out.now a.at c.read_name.result c.read_name.ensures c.in-Text.is).1

pub overflow_add-last : goal.overflow_add-last
overflow_add-last c =
    let a = c.args in
    omega (
      arith,
      rest_ends a.kind a.width a.others.now c.requires.3 a.s.now a.out.now a.at c.read_name.result c.read_name.ensures c.in-Text.is
          c.read_rest.result c.read_rest.ensures c.in-To.is,
    )

pub slice_bounds-emit-count : goal.slice_bounds-emit-count
slice_bounds-emit-count c =
    let a = c.args in
    (name_ends a.kind a.width a.others.now c.requires.3 a.s.now a.out.now a.at c.read_name.result c.read_name.ensures c.in-Text.is).0

pub slice_bounds-emit-start : goal.slice_bounds-emit-start
slice_bounds-emit-start c =
    let a = c.args in
    (name_ends a.kind a.width a.others.now c.requires.3 a.s.now a.out.now a.at c.read_name.result c.read_name.ensures c.in-Text.is).0

pub slice_bounds-emit-end : goal.slice_bounds-emit-end
slice_bounds-emit-end c =
    let a = c.args in
    (name_ends a.kind a.width a.others.now c.requires.3 a.s.now a.out.now a.at c.read_name.result c.read_name.ensures c.in-Text.is).1

pub slice_bounds-emit-end-in-To : goal.slice_bounds-emit-end-in-To
slice_bounds-emit-end-in-To c =
    let a = c.args in
    omega (
      arith,
      rest_ends a.kind a.width a.others.now c.requires.3 a.s.now a.out.now a.at c.read_name.result c.read_name.ensures c.in-Text.is
          c.read_rest.result c.read_rest.ensures c.in-To.is,
    )

pub emit-requires : goal.emit-requires
emit-requires c =
    let a = c.args in
    let ends = name_ends a.kind a.width a.others.now c.requires.3 a.s.now a.out.now a.at c.read_name.result c.read_name.ensures c.in-Text.is in
    (part-short a.s.now _ _ 255 ends.2, part_width a.s.now c.in-Text.end a.width 255 c.requires.1, c.requires.2)

pub returns-in-Refused : goal.returns-in-Refused
returns-in-Refused c =
    let a = c.args in
    no_name a.kind a.width a.others.now c.requires.3 a.s.now a.out.now a.at c.read_name.result c.read_name.ensures c.in-Refused.is

pub returns-in-Refused-read_rest : goal.returns-in-Refused-read_rest
returns-in-Refused-read_rest c =
    let a = c.args in
    no_rest a.kind a.width a.others.now c.requires.3 a.s.now a.out.now a.at c.read_name.result c.read_name.ensures c.in-Text.is
    c.read_rest.result c.read_rest.ensures c.in-Refused-read_rest.is

pub returns-in-To : goal.returns-in-To
returns-in-To c =
    let a = c.args in
    named-written a.kind a.width a.others.now c.requires.3 a.s.now a.out.now a.at c.read_name.result c.read_name.ensures c.in-Text.is
    c.read_rest.result c.read_rest.ensures c.in-To.is c.emit.ensures
