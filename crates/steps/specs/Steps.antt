-- What the code says of a step, as the theorem's answer.
use Rattle.std.specs.Prelude.{cond, eqb}
use Rattle.std.proofs.Math.Option.{none, some}
use Rattle.model.specs.History.{Answer, verdict}
use Rattle.model.specs.Answers.{number_reply}
use Rattle.steps.specs.declared.Said.{Said}

abbrev pub verdict_of : Said → Answer
verdict_of s = verdict (number_reply s.validate) (cond (eqb s.validate 0) (some (number_reply s.apply)) none)
