use Rattle.std.proofs.Common.{◌+◌, ◌^◌, ◌≤◌, arith, lit<}
use Rattle.std.proofs.Math.Nat.{pow-le-pow_right}
use Rattle.slice_decoding.proofs.order_count.type_zero.max_pic_order_cnt_lsb.Goals as goal

pub returns-clause-bound : goal.returns-clause-bound
returns-clause-bound c =
    let high : c.get.result + 4 ≤ 16 = omega (arith, c.get.ensures.bound) in
    let low : 1 ≤ c.get.result + 4 = omega arith in
    let most : 2 ^ (c.get.result + 4) ≤ 2 ^ 16 = pow-le-pow_right (lit< tt) high in
    let least : 2 ^ 1 ≤ 2 ^ (c.get.result + 4) = pow-le-pow_right (lit< tt) low in
    omega arith
