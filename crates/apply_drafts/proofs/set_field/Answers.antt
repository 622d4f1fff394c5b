-- `apply_drafts::set_field` meets its contract: a gap is made where the field goes, the field is laid in it, and then the head is written anew.
use mathlib.Core.Path.{sym}
use native.Mathlib.Omega.{arith}
use lib.Seq.{length-take-le}
use Rattle.apply_drafts.proofs.Fronts.{Gap, gap, field-set}
use Rattle.apply_drafts.proofs.set_field.Goals as goal

pub slice_bounds-place_of-end-2 : goal.slice_bounds-place_of-end-2
slice_bounds-place_of-end-2 c = let a = c.args in sym (length-take-le a.n a.b.now (omega arith))

pub overflow_add-to : goal.overflow_add-to
overflow_add-to c =
    let here : (let a = c.args in Gap a.b.now a.v.now a.n a.tag c.place_of-p.result.start c.place_of-p.result.end) = gap _ _ _ _ _ _ c.requires.0 c.size.ensures.0 c.place_of-p.ensures in
    omega (arith, here.most)

pub overflow_add-to-2 : goal.overflow_add-to-2
overflow_add-to-2 c =
    let here : (let a = c.args in Gap a.b.now a.v.now a.n a.tag c.place_of-p.result.start c.place_of-p.result.end) = gap _ _ _ _ _ _ c.requires.0 c.size.ensures.0 c.place_of-p.ensures in
    omega (arith, here.most)

pub overflow_sub-left : goal.overflow_sub-left
overflow_sub-left c =
    let here : (let a = c.args in Gap a.b.now a.v.now a.n a.tag c.place_of-p.result.start c.place_of-p.result.end) = gap _ _ _ _ _ _ c.requires.0 c.size.ensures.0 c.place_of-p.ensures in
    here.within

pub shift-requires : goal.shift-requires
shift-requires c =
    let here : (let a = c.args in Gap a.b.now a.v.now a.n a.tag c.place_of-p.result.start c.place_of-p.result.end) = gap _ _ _ _ _ _ c.requires.0 c.size.ensures.0 c.place_of-p.ensures in
    let g = here in (omega (arith, g.within), omega (arith, g.most))

pub put_field-requires : goal.put_field-requires
put_field-requires c =
    let here : (let a = c.args in Gap a.b.now a.v.now a.n a.tag c.place_of-p.result.start c.place_of-p.result.end) = gap _ _ _ _ _ _ c.requires.0 c.size.ensures.0 c.place_of-p.ensures in
    omega (arith, here.most, c.shift.auto.w)

pub overflow_add-size : goal.overflow_add-size
overflow_add-size c =
    let here : (let a = c.args in Gap a.b.now a.v.now a.n a.tag c.place_of-p.result.start c.place_of-p.result.end) = gap _ _ _ _ _ _ c.requires.0 c.size.ensures.0 c.place_of-p.ensures in
    omega (arith, here.most)

pub returns : goal.returns
returns c =
    let here : (let a = c.args in Gap a.b.now a.v.now a.n a.tag c.place_of-p.result.start c.place_of-p.result.end) = gap _ _ _ _ _ _ c.requires.0 c.size.ensures.0 c.place_of-p.ensures in
    let g = here in
    let m = c.shift in
    let f = c.put_field in
    (field-set g m.ensures f.ensures _ (omega (arith, f.auto.out, m.auto.w)) c.put_head.ensures, g.most)
