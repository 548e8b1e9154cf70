use Rattle.std.proofs.Common.{◌/◌, pos, neg_ℤ, ◌-ℤ◌, ◌≤ℤ◌, ◌<ℤ◌, arith}
use Rattle.std.proofs.lemmas.Int.{ints, to_z-of_z}
use Rattle.slice_decoding.proofs.Near.{next_round, last_round, same_round}
use Rattle.slice_decoding.proofs.order_count.type_zero.msb_near.Goals as goal

pub returns-then-difference-half-clause-value : goal.returns-then-difference-half-clause-value
returns-then-difference-half-clause-value c =
    let far : (pos c.args.lsb -ℤ c.args.prev_lsb) ≤ℤ neg_ℤ (pos (c.args.max / 2)) = grind (arith, ints) in
    rw (next_round c.args.prev_msb c.args.prev_lsb (pos c.args.lsb) c.args.max c.requires far) (omega (arith, ints))

pub returns-then-difference-half-2-clause-value : goal.returns-then-difference-half-2-clause-value
returns-then-difference-half-2-clause-value c =
    let far : pos (c.args.max / 2) <ℤ (pos c.args.lsb -ℤ c.args.prev_lsb) = grind (arith, ints) in
    rw (last_round c.args.prev_msb c.args.prev_lsb (pos c.args.lsb) c.args.max far) (grind (arith, ints, to_z-of_z))

pub returns-else-difference-half-2-clause-value : goal.returns-else-difference-half-2-clause-value
returns-else-difference-half-2-clause-value c =
    let near : neg_ℤ (pos (c.args.max / 2)) <ℤ (pos c.args.lsb -ℤ c.args.prev_lsb) = grind (arith, ints) in
    let near' : (pos c.args.lsb -ℤ c.args.prev_lsb) ≤ℤ pos (c.args.max / 2) = grind (arith, ints) in
    rw (same_round c.args.prev_msb c.args.prev_lsb (pos c.args.lsb) c.args.max near near') (omega (arith, ints))
