-- A search by halves makes as many comparisons as the logarithm of what it searches.
use Rattle.std.proofs.Common.{◌≡◌, ℕ, zero, suc, ◌+◌, ◌<◌, ◌≤◌, ◌^◌, arith}
use Rattle.std.proofs.Math.Nat.{pow-succ'}
use Rattle.std.proofs.lemmas.Nat.{pow_pos}
use Rattle.output_order.specs.Bounds.{IsSearched}

-- among so many more a search goes on: what it has made and what it has still to make are the least
-- and the most of all
pub record IsOnWay (all size begun made : ℕ) : Type 0 where
  pub least : (steps : ℕ) → 2 ^ steps ≤ all + 1 → (left : ℕ) × (2 ^ left ≤ size + 1) × (begun + steps ≤ made + left)
  pub most : (steps : ℕ) → all < 2 ^ steps → (left : ℕ) × (size < 2 ^ left) × (made + left ≤ begun + steps)

pub way_begins : (all size made : ℕ) → size ≡ all → IsOnWay all size made made
way_begins all size made is = record {
  least = λ steps le. (steps, omega (arith, le, is), omega arith);
  most = λ steps below. (steps, omega (arith, below, is), omega arith);
}

-- half of what is at least so much
halved_least : (size half left : ℕ) → size ≤ half + half + 2 → 2 ^ left ≤ size + 1 → (less : ℕ) × (2 ^ less ≤ half + 1) × (left ≤ less + 1)
halved_least size half zero more le = (0, omega arith, omega arith)
halved_least size half (suc less) more le = (less, omega (arith, more, le, pow-succ' 2 less), omega arith)

-- and of what is below so much
halved_most : (size half left : ℕ) → 0 < size → half + half ≤ size → size < 2 ^ left → (less : ℕ) × (half < 2 ^ less) × (less + 1 ≤ left)
halved_most size half zero some more below = absurd (omega (arith, some, below))
halved_most size half (suc less) some more below = (less, omega (arith, more, below, pow-succ' 2 less), omega arith)

-- a comparison leaves half of it
pub way_halved : (all size half begun made : ℕ) → IsOnWay all size begun made → 0 < size → half + half ≤ size → size ≤ half + half + 2
    → IsOnWay all half begun (made + 1)
way_halved all size half begun made way some upper lower = record {
  least = λ steps le.
      let before = way.least steps le in
      let next = halved_least size half before.0 lower before.1 in
      (next.0, next.1, omega (arith, before.2, next.2));
  most = λ steps below.
      let before = way.most steps below in
      let next = halved_most size half before.0 some upper before.1 in
      (next.0, next.1, omega (arith, before.2, next.2));
}

none_left : (left : ℕ) → 2 ^ left ≤ 1 → left ≡ 0
none_left zero le = omega arith
none_left (suc less) le = absurd (omega (arith, le, pow-succ' 2 less, pow_pos less))

-- with nothing left it is made
pub way_ends : (all size begun made : ℕ) → IsOnWay all size begun made → size ≡ 0 → IsSearched all begun made
way_ends all size begun made way is = record {
  least = λ steps le.
      let last = way.least steps le in
      omega (arith, last.2, none_left last.0 (omega (arith, last.1, is)));
  most = λ steps below.
      let last = way.most steps below in
      omega (arith, last.2);
}
