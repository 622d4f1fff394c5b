-- What operations answer: 01's number, and the values that come with it. "0 means accepted."
use Rattle.std.specs.Prelude.{ℕ, cond, List, [], ◌∷◌, ◌++◌, leb, eqb, length, drop}
use Rattle.model.specs.Number.{Bytes}

pub record Reply : Type 0 where
  pub number : ℕ
  pub values : List ℕ

abbrev pub accepted : List ℕ → Reply
accepted vs = record { number = 0; values = vs }

abbrev pub refused : ℕ → Reply
refused n = record { number = n; values = [] }

-- a reply, and what a lent buffer holds at the end
pub record Ended : Type 0 where
  pub reply : Reply
  pub buffer : Bytes

-- "Unless said, a refusal returns its number alone and changes no buffer"
abbrev pub unchanged : ℕ → Bytes → Ended
unchanged n b = record { reply = refused n; buffer = b }

-- "success writes a prefix of the output and leaves the rest"; it says how many bytes it wrote. "19, output too short"
unfoldable pub emit_bytes : Bytes → Bytes → Ended
emit_bytes s out = cond (leb (length s) (length out)) (record { reply = accepted (length s ∷ []); buffer = s ++ drop (length s) out }) (unchanged 19 out)

-- further values, where the operation is accepted
abbrev pub also_says : List ℕ → Ended → Ended
also_says vs e = record { reply = cond (eqb e.reply.number 0) (accepted (e.reply.values ++ vs)) e.reply; buffer = e.buffer }
