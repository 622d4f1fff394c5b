-- `lookup::throttle` meets its contract.
use native.Mathlib.Omega.{arith}
use Rattle.lookup.proofs.Answers.{throttle_no_image, image_is, leader_said, follower_said, dirs_said, no_such_rate}
use Rattle.lookup.proofs.throttle.Goals as goal

pub returns-then-not-is_image : goal.returns-then-not-is_image
returns-then-not-is_image c =
    throttle_no_image c.args.image.now c.args.image.now c.is_image.ensures c.if-not-is_image.true-raw _ _

pub rate-requires : goal.rate-requires
rate-requires c =
    (image_is c.args.image.now c.args.image.now c.is_image.ensures c.if-not-is_image.false-raw, omega arith)

pub rate-requires-in-1 : goal.rate-requires-in-1
rate-requires-in-1 c =
    (image_is c.args.image.now c.args.image.now c.is_image.ensures c.if-not-is_image.false-raw, omega arith)

pub rate-requires-in-2 : goal.rate-requires-in-2
rate-requires-in-2 c =
    (image_is c.args.image.now c.args.image.now c.is_image.ensures c.if-not-is_image.false-raw, omega arith)

pub returns-in-0 : goal.returns-in-0
returns-in-0 c =
    leader_said c.args.image.now c.args.image.now c.is_image.ensures c.if-not-is_image.false-raw _ _ c.in-0.is c.rate.ensures

pub returns-in-1 : goal.returns-in-1
returns-in-1 c =
    follower_said c.args.image.now c.args.image.now c.is_image.ensures c.if-not-is_image.false-raw _ _ c.in-1.is c.rate-in-1.ensures

pub returns-in-2 : goal.returns-in-2
returns-in-2 c =
    dirs_said c.args.image.now c.args.image.now c.is_image.ensures c.if-not-is_image.false-raw _ _ c.in-2.is c.rate-in-2.ensures

pub returns-in-3-to-255 : goal.returns-in-3-to-255
returns-in-3-to-255 c =
    no_such_rate c.args.image.now c.args.image.now c.is_image.ensures c.if-not-is_image.false-raw _ _ c.in-3-to-255.in-3-to-255-own.rest.0.0.1
    c.in-3-to-255.in-3-to-255-own.rest.0.1 c.in-3-to-255.in-3-to-255-own.rest.1
