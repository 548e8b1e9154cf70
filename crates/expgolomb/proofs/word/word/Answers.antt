use Rattle.std.proofs.Common.{arith, replicate, sym, ◌∙◌}
use Rattle.expgolomb.proofs.Numbers.{number-eight}
use Rattle.expgolomb.proofs.word.word.Goals as goal

pub returns-in-len8-up : goal.returns-in-len8-up
returns-in-len8-up c =
    c.from_be_bytes.ensures ∙ sym (number-eight c.args.bytes.now (replicate 8 0) c.in-len8-up.len_at_least (λ i. omega (arith, c.type_inv.bytes i)))
