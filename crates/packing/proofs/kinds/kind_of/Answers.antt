-- `packing::kinds::kind_of` meets its contract: each number's kind computes, and the refused range is past the last kind.
use mathlib.Core.Path.{sym}
use Rattle.model.specs.Kind.{kind_of, kinds}
use Rattle.shapes.proofs.Bases.{kind_past}
use Rattle.laws.specs.Refused.{past_arms}
use Rattle.packing.proofs.kinds.kind_of.Goals as goal

pub returns-in-1 : goal.returns-in-1
unfolding kind_of kinds
returns-in-1 c = rw c.in-1.is

pub returns-in-2 : goal.returns-in-2
unfolding kind_of kinds
returns-in-2 c = rw c.in-2.is

pub returns-in-3 : goal.returns-in-3
unfolding kind_of kinds
returns-in-3 c = rw c.in-3.is

pub returns-in-4 : goal.returns-in-4
unfolding kind_of kinds
returns-in-4 c = rw c.in-4.is

pub returns-in-5 : goal.returns-in-5
unfolding kind_of kinds
returns-in-5 c = rw c.in-5.is

pub returns-in-6 : goal.returns-in-6
unfolding kind_of kinds
returns-in-6 c = rw c.in-6.is

pub returns-in-7 : goal.returns-in-7
unfolding kind_of kinds
returns-in-7 c = rw c.in-7.is

pub returns-in-8 : goal.returns-in-8
unfolding kind_of kinds
returns-in-8 c = rw c.in-8.is

pub returns-in-9 : goal.returns-in-9
unfolding kind_of kinds
returns-in-9 c = rw c.in-9.is

pub returns-in-10 : goal.returns-in-10
unfolding kind_of kinds
returns-in-10 c = rw c.in-10.is

pub returns-in-11 : goal.returns-in-11
unfolding kind_of kinds
returns-in-11 c = rw c.in-11.is

pub returns-in-12 : goal.returns-in-12
unfolding kind_of kinds
returns-in-12 c = rw c.in-12.is

pub returns-in-13 : goal.returns-in-13
unfolding kind_of kinds
returns-in-13 c = rw c.in-13.is

pub returns-in-14 : goal.returns-in-14
unfolding kind_of kinds
returns-in-14 c = rw c.in-14.is

pub returns-in-15 : goal.returns-in-15
unfolding kind_of kinds
returns-in-15 c = rw c.in-15.is

pub returns-in-16 : goal.returns-in-16
unfolding kind_of kinds
returns-in-16 c = rw c.in-16.is

pub returns-in-17 : goal.returns-in-17
unfolding kind_of kinds
returns-in-17 c = rw c.in-17.is

pub returns-in-18 : goal.returns-in-18
unfolding kind_of kinds
returns-in-18 c = rw c.in-18.is

pub returns-in-19 : goal.returns-in-19
unfolding kind_of kinds
returns-in-19 c = rw c.in-19.is

pub returns-in-20 : goal.returns-in-20
unfolding kind_of kinds
returns-in-20 c = rw c.in-20.is

pub returns-in-21 : goal.returns-in-21
unfolding kind_of kinds
returns-in-21 c = rw c.in-21.is

pub returns-in-22 : goal.returns-in-22
unfolding kind_of kinds
returns-in-22 c = rw c.in-22.is

pub returns-in-23 : goal.returns-in-23
unfolding kind_of kinds
returns-in-23 c = rw c.in-23.is

pub returns-in-24 : goal.returns-in-24
unfolding kind_of kinds
returns-in-24 c = rw c.in-24.is

pub returns-in-25 : goal.returns-in-25
unfolding kind_of kinds
returns-in-25 c = rw c.in-25.is

pub returns-in-26 : goal.returns-in-26
unfolding kind_of kinds
returns-in-26 c = rw c.in-26.is

pub returns-in-0 : goal.returns-in-0
unfolding kind_of kinds
returns-in-0 c = rw c.in-0.in-0-own.keys27

pub returns-in-0-2 : goal.returns-in-0-2
returns-in-0-2 c = sym (kind_past _ (past_arms _ 26 _ c.in-0.in-0-own.rest))
