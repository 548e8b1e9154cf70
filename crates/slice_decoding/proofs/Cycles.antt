-- The offsets of whole cycles have a bound.
use Rattle.std.proofs.Common.{ℕ, ◌*◌, ◌^◌, ◌<◌, ◌≤◌, ℤ, pos, ◌*ℤ◌, unsigned_abs, arith}
use Rattle.std.proofs.lemmas.Int.{unsigned_abs-mul}
use Rattle.std.proofs.lemmas.Nat.{mul-le}

-- cycles of at most 255 offsets, below 2^33 of them
pub cycles-small : (cycles : ℕ) (offsets : ℤ) (n : ℕ) → cycles < 2 ^ 33 → n ≤ 255 → unsigned_abs offsets ≤ n * 2 ^ 31 → unsigned_abs (pos cycles *ℤ offsets) < 2 ^ 98
cycles-small cycles offsets n few short small =
    let most : unsigned_abs offsets ≤ 255 * 2 ^ 31 = omega arith in
    let le : cycles ≤ 2 ^ 33 = omega arith in
    let product : cycles * unsigned_abs offsets ≤ 2 ^ 33 * (255 * 2 ^ 31) = mul-le cycles (unsigned_abs offsets) (2 ^ 33) (255 * 2 ^ 31) le most in
    rw (unsigned_abs-mul (pos cycles) offsets) (omega arith)
