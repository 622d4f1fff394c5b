-- `tool_words::magnitude` stays in its types, by the sign.
use Rattle.tool_words.proofs.Signs.{cast_fits, less_fits, less_cast, less_add}
use Rattle.tool_words.proofs.magnitude.Goals as goal

pub overflow_cast-result : goal.overflow_cast-result
overflow_cast-result c = cast_fits _ c.ranges.n c.if-n-ge0.true

pub overflow_sub-result : goal.overflow_sub-result
overflow_sub-result c = less_fits _ c.ranges.n c.if-n-ge0.false

pub overflow_cast-result-2 : goal.overflow_cast-result-2
overflow_cast-result-2 c = less_cast _ c.ranges.n c.if-n-ge0.false

pub overflow_add-result : goal.overflow_add-result
overflow_add-result c = less_add _ c.ranges.n c.if-n-ge0.false
