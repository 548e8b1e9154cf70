-- The three cases of PicOrderCntMsb.
use Rattle.std.proofs.Common.{◌≡◌, ℕ, ◌/◌, ◌≤◌, true, false, ℤ, pos, ◌+ℤ◌, ◌-ℤ◌, ◌≤ℤ◌, ◌<ℤ◌, neg_ℤ, int_lt, int_le, refl, arith}
use Rattle.std.proofs.lemmas.Int.{ints}
use Rattle.slice_decoding.specs.TypeZero.{msb_near}

-- the count goes on in the next round
pub next_round : (prev_msb prev_lsb lsb : ℤ) (max : ℕ) → 2 ≤ max → (lsb -ℤ prev_lsb) ≤ℤ neg_ℤ (pos (max / 2)) → msb_near prev_msb prev_lsb lsb max ≡ prev_msb +ℤ pos max
next_round prev_msb prev_lsb lsb max some far =
    let below : lsb <ℤ prev_lsb = omega (arith, ints) in
    let apart : pos (max / 2) ≤ℤ (prev_lsb -ℤ lsb) = omega (arith, ints) in
    let a : int_lt lsb prev_lsb ≡ true = grind (arith, ints) in
    let b : int_le (pos (max / 2)) (prev_lsb -ℤ lsb) ≡ true = grind (arith, ints) in
    rw (a, b) refl

-- the count falls back into the round before
pub last_round : (prev_msb prev_lsb lsb : ℤ) (max : ℕ) → pos (max / 2) <ℤ (lsb -ℤ prev_lsb) → msb_near prev_msb prev_lsb lsb max ≡ prev_msb -ℤ pos max
last_round prev_msb prev_lsb lsb max far =
    let a : int_lt lsb prev_lsb ≡ false = grind (arith, ints) in
    let b : int_lt prev_lsb lsb ≡ true = grind (arith, ints) in
    let d : int_lt (pos (max / 2)) (lsb -ℤ prev_lsb) ≡ true = grind (arith, ints) in
    rw (a, b, d) refl

-- the count stays in its round
pub same_round : (prev_msb prev_lsb lsb : ℤ) (max : ℕ) → neg_ℤ (pos (max / 2)) <ℤ (lsb -ℤ prev_lsb) → (lsb -ℤ prev_lsb) ≤ℤ pos (max / 2) → msb_near prev_msb prev_lsb lsb max ≡ prev_msb
same_round prev_msb prev_lsb lsb max near near' =
    let b : int_le (pos (max / 2)) (prev_lsb -ℤ lsb) ≡ false = grind (arith, ints) in
    let d : int_lt (pos (max / 2)) (lsb -ℤ prev_lsb) ≡ false = grind (arith, ints) in
    rw (b, d) grind arith
