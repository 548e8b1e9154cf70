use Rattle.std.proofs.Common.{refl, arith, ap, ◌∙◌, eqb, not}
use Rattle.std.proofs.lemmas.Bool.{ne_eqb}
use Rattle.std.proofs.lemmas.List.{take_rest}
use Rattle.std.specs.List.{list_any}
use Rattle.expgolomb.proofs.MoreData.{low_one, more_one}
use Rattle.expgolomb.proofs.bits.has_one_past.Goals as goal

pub returns-then-low_bits-ne0 : goal.returns-then-low_bits-ne0
returns-then-low_bits-ne0 c = (
  λ is. low_one c.args.bytes.now c.args.bit c.low_bits.result (λ i. omega (arith, c.type_inv.bytes i)) c.in-len1-up.len_at_least c.requires c.low_bits.ensures c.if-low_bits-ne0.true,
  λ one. rw (ne_eqb c.low_bits.result 0 c.if-low_bits-ne0.true) refl,
)

pub returns-else-low_bits-ne0 : goal.returns-else-low_bits-ne0
returns-else-low_bits-ne0 c =
    more_one c.args.bytes.now c.args.bit c.low_bits.result c.has_one.result (λ i. omega (arith, c.type_inv.bytes i)) c.in-len1-up.len_at_least c.requires c.low_bits.ensures c.if-low_bits-ne0.false (c.has_one.ensures ∙ ap (list_any (λ byte. not (eqb byte 0))) (take_rest c.args.bytes.now 1))
