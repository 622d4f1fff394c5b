-- `jeghatuf::jeghatuf_write` meets its contract: Write's answer and output, by the number's kind; a number of no kind is refused.
use mathlib.Core.Path.{sym, ap, ◌∙◌}
use Rattle.packing.specs.Packed.{packed}
use Rattle.packing.specs.Numbered.{named}
use Rattle.jeghatuf.proofs.Numbers.{by_kind_lem, by_none}
use Rattle.jeghatuf.proofs.jeghatuf_write.Goals as goal

pub returns-in-Kind : goal.returns-in-Kind
returns-in-Kind c =
    let known = sym c.kind_of.ensures ∙ ap named c.in-Kind.is in
    let e = sym (by_kind_lem _ _ _ _ _ _ known) in
    let w = c.write.ensures in
    record { value = c.pack.ensures ∙ ap packed (w.result_value ∙ ap (λ x. x.reply) e); out_after = w.out_after ∙ ap (λ x. x.buffer) e }

pub returns-in-Unknown : goal.returns-in-Unknown
returns-in-Unknown c =
    let unknown = sym c.kind_of.ensures ∙ ap named c.in-Unknown.is in
    let e = sym (by_none _ _ _ _ _ unknown) in
    record { value = c.pack-in-Unknown.ensures ∙ ap packed (ap (λ x. x.reply) e); out_after = ap (λ x. x.buffer) e }
