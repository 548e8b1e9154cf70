-- Products of places and the pitch of a row.
use Rattle.std.proofs.Common.{ℕ, ◌+◌, ◌*◌, ◌/◌, ◌<◌, ◌≤◌, arith}
use Rattle.std.proofs.Math.Nat.{div-mul-le_self, mul-le-mul_left}

-- a row of at most 1,000 boxes is at most 56,000 pixels wide
pub row_bound : (place pitch : ℕ) → place ≤ 1000 → pitch ≤ 56 → place * pitch ≤ 56000
row_bound place pitch few narrow = omega (arith, mul-le-mul_left pitch few, narrow)

-- the next box begins a pitch farther on
pub row_step : (one other pitch : ℕ) → one < other → one * pitch + pitch ≤ other * pitch
row_step one other pitch before = let next : one + 1 ≤ other = omega arith in omega (arith, mul-le-mul_left pitch next)

-- the parts of a box lie within it
pub part_within : (width parts place : ℕ) → place < parts → width / parts * place ≤ width
part_within width parts place before =
    let few : place ≤ parts = omega arith in
    let most : width / parts * place ≤ width / parts * parts = mul-le-mul_left (width / parts) few in
    omega (arith, most, div-mul-le_self width parts)
