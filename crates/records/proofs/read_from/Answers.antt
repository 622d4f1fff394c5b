-- `records::read_from` meets its contract, exit by exit.
use borrow.Author.Rules.{rules}
use Rattle.records.proofs.Bases.{kind_base_lem}
use Rattle.records.proofs.Reading.{read_short, read_cut, read-unknown, read_faulty, read_right}
use Rattle.records.proofs.read_from.Goals as goal

pub returns-then-s-lt3 : goal.returns-then-s-lt3
returns-then-s-lt3 c = read_short _ _ c.if-s-lt3.true

pub returns-then-s-len : goal.returns-then-s-len
returns-then-s-len c = read_cut _ _ _ c.get16-len.ensures.0 c.if-s-lt3.false c.if-s-len.true

pub returns-then-base-eq-ROW_COUNT : goal.returns-then-base-eq-ROW_COUNT
returns-then-base-eq-ROW_COUNT c =
    read-unknown _ _ _ c.get16-len.ensures.0 c.if-s-lt3.false c.if-s-len.false c.base_from-base.ensures c.if-base-eq-ROW_COUNT.true

pub record_faults-f-requires : goal.record_faults-f-requires
record_faults-f-requires c =
    (c.requires, kind_base_lem _ _ c.base_from-base.ensures c.if-base-eq-ROW_COUNT.false, search rules)

pub returns-then-f-ne0 : goal.returns-then-f-ne0
returns-then-f-ne0 c =
    read_faulty _ _ _ c.get16-len.ensures.0 c.if-s-lt3.false c.if-s-len.false c.base_from-base.ensures c.if-base-eq-ROW_COUNT.false c.record_faults-f.ensures
    c.if-f-ne0.true

pub returns : goal.returns
returns c =
    read_right _ _ _ c.get16-len.ensures.0 c.if-s-lt3.false c.if-s-len.false c.base_from-base.ensures c.if-base-eq-ROW_COUNT.false c.record_faults-f.ensures
    c.if-f-ne0.false
