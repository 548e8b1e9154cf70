-- Units numbered one after the other.
use Rattle.std.proofs.Common.{◌≡◌, ℕ, ◌+◌, List, [], ◌∷◌, ◌++◌, length, refl, ap, arith, suc}
use Rattle.plan_stream.specs.Streams.{numbered_from}

-- as many as there were
pub length-numbered_from : (id : ℕ) (units : List (List (List ℕ))) → length (numbered_from id units) ≡ length units
length-numbered_from id [] = refl
length-numbered_from id (unit ∷ units) = ap (λ n. suc n) (length-numbered_from (id + 1) units)

-- one more unit has the next number
pub numbered_from-push : (id : ℕ) (units : List (List (List ℕ))) (unit : List (List ℕ))
    → numbered_from id (units ++ unit ∷ []) ≡ numbered_from id units ++ (id + length units, unit) ∷ []
numbered_from-push id [] unit = ap (λ (n : ℕ). (n, unit) ∷ []) (omega arith)
numbered_from-push id (first ∷ units) unit =
    let rest = numbered_from-push (id + 1) units unit in
    let next : (id + 1) + length units ≡ id + length (first ∷ units) = omega arith in
    ap (λ l. (id, first) ∷ l) (rw next at rest)
