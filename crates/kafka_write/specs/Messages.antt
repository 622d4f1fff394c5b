-- What the code says of a message, by the fields of a record.
use Rattle.std.specs.Prelude.{◌≡◌, cond, [], ◌∷◌, ◌++◌, ℕ, suc, ◌≤◌, ltb, eqb, length}
use Rattle.model.specs.Number.{Bytes, number, bytes, half}
use Rattle.model.specs.Run.{Run, value}
use Rattle.model.specs.Reply.{Reply, Ended, unchanged, emit_bytes}
use Rattle.model.specs.Kafka.{varint}
use Rattle.keys.specs.Keys.{kind_in, run_in}

-- a reply and a buffer, as an operation ends
abbrev pub EndsAs : Reply → Bytes → Ended → Type 0
EndsAs r v e = (r ≡ e.reply) × (v ≡ e.buffer)

-- 1. Messages: versions and key, three parts, no tagged fields

abbrev pub message_bytes : ℕ → Bytes → Bytes → Bytes → Bytes
message_bytes key first second third = (1 ∷ key ∷ 0 ∷ []) ++ (first ++ (second ++ (third ++ (0 ∷ []))))

abbrev pub named_bytes : ℕ → Run → Bytes
named_bytes key run = message_bytes key (varint (suc (length (value 1 run)))) (value 1 run) (value 2 run)

abbrev pub broker_ends : ℕ → Run → Bytes → Ended
broker_ends key run out =
    cond (ltb (number (value 1 run)) (half 4)) (emit_bytes (message_bytes key (bytes 4 (number (value 1 run))) (value 2 run) (value 3 run)) out)
    (unchanged 27 out)

-- 2. By a kind's number: 3 for one beyond these

abbrev pub sent_by : ℕ → Run → Bytes → Ended
sent_by kind run out =
    cond (eqb kind 1) (emit_bytes (named_bytes 2 run) out)
    (cond (eqb kind 11) (emit_bytes (named_bytes 12 run) out)
    (cond (eqb kind 8) (broker_ends 15 run out)
    (cond (eqb kind 9) (broker_ends 1 run out)
    (unchanged 3 out))))

-- 3. What a record that was read has: fields of these lengths

abbrev pub NamedFits : Run → Type 0
NamedFits run = (length (value 1 run) ≤ 255) × (length (value 2 run) ≤ 255)

abbrev pub BrokerFits : Run → Type 0
BrokerFits run = (length (value 1 run) ≡ 8) × (length (value 2 run) ≤ 255) × (length (value 3 run) ≤ 255)

pub record Sendable (s : Bytes) : Type 0 where
  pub headed : 3 ≤ length s
  pub topic : kind_in s ≡ 1 → NamedFits (run_in s)
  pub level : kind_in s ≡ 11 → NamedFits (run_in s)
  pub producers : kind_in s ≡ 8 → BrokerFits (run_in s)
  pub unregistration : kind_in s ≡ 9 → BrokerFits (run_in s)
