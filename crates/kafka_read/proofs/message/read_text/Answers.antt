-- `kafka_read::message::read_text` meets its contract, an exit after the other.
use mathlib.Core.Path.{subst}
use Rattle.kafka_frame.specs.Parts.{Behind}
use Rattle.kafka_read.proofs.Texts.{text_cut, text_wrong, text_right}
use Rattle.kafka_read.proofs.message.read_text.Goals as goal

pub slice_bounds-text_fault-count : goal.slice_bounds-text_fault-count
slice_bounds-text_fault-count c =
    let a = c.args in
    (subst (Behind a.s.now a.at) c.in-To.is c.pass_bytes.ensures.1).0

pub slice_bounds-text_fault-start : goal.slice_bounds-text_fault-start
slice_bounds-text_fault-start c =
    let a = c.args in
    (subst (Behind a.s.now a.at) c.in-To.is c.pass_bytes.ensures.1).0

pub slice_bounds-text_fault-end : goal.slice_bounds-text_fault-end
slice_bounds-text_fault-end c =
    let a = c.args in
    (subst (Behind a.s.now a.at) c.in-To.is c.pass_bytes.ensures.1).1

pub returns-then-fault-ne0 : goal.returns-then-fault-ne0
returns-then-fault-ne0 c =
    let a = c.args in
    text_wrong a.s.now a.at a.n c.requires c.if-n-eq0.false c.pass_bytes.result c.pass_bytes.ensures c.in-To.is
    c.text_fault-fault.ensures c.if-fault-ne0.true

pub returns-in-Refused : goal.returns-in-Refused
returns-in-Refused c =
    let a = c.args in
    text_cut a.s.now a.at a.n c.requires c.if-n-eq0.false c.pass_bytes.result c.pass_bytes.ensures c.in-Refused.is

pub returns-else-fault-ne0 : goal.returns-else-fault-ne0
returns-else-fault-ne0 c =
    let a = c.args in
    text_right a.s.now a.at a.n c.requires c.if-n-eq0.false c.pass_bytes.result c.pass_bytes.ensures c.in-To.is
    c.text_fault-fault.ensures c.if-fault-ne0.false
