use Rattle.std.proofs.Common.{◌≡◌, ◌+◌, ◌*◌, ◌^◌, ◌≤◌, ◌%◌, ℕ, arith, ap, ◌∙◌}
use Rattle.std.proofs.Math.Nat.{mod-eq_of_lt}
use Rattle.std.proofs.Math.Pow.{pow_mono}
use Rattle.h264_types.proofs.param_sets.sps.Sps.max_frame_num.Goals as goal

-- a power up to 2^16 fits
kept : (k : ℕ) → k ≤ 16 → 1 * 2 ^ k % 4294967296 ≡ 2 ^ k
kept k small =
    let below : 2 ^ k ≤ 65536 = pow_mono {i = k} {j = 16} small in
    let one : 1 * 2 ^ k ≡ 2 ^ k = omega arith in
    rw one (mod-eq_of_lt {n = 2 ^ k} {m = 4294967296} (omega arith))

pub returns-clause-value : goal.returns-clause-value
returns-clause-value c =
    let few : c.get.result + 4 ≤ 16 = omega (arith, c.get.ensures.bound) in
    kept (c.get.result + 4) few ∙ ap (λ k. 2 ^ (k + 4)) c.get.ensures.value

pub returns-clause-most : goal.returns-clause-most
returns-clause-most c =
    let few : c.get.result + 4 ≤ 16 = omega (arith, c.get.ensures.bound) in
    rw (kept (c.get.result + 4) few) (pow_mono {i = c.get.result + 4} {j = 16} few)

pub returns-clause-least : goal.returns-clause-least
returns-clause-least c =
    let few : c.get.result + 4 ≤ 16 = omega (arith, c.get.ensures.bound) in
    rw (kept (c.get.result + 4) few) (pow_mono {i = 4} {j = c.get.result + 4} (omega arith))
