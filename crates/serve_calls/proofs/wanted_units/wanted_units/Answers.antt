use Rattle.std.proofs.Common.{◌≡◌, ℕ, ◌+◌, List, [], ◌∷◌, ◌++◌, sym, subst, take, slice_index_or}
use Rattle.std.proofs.Math.Seq.{take-suc}
use native.Mathlib.Numerals.{unary_clauses}
use Rattle.serve_calls.specs.WantedUnits.{AreWanted}
use Rattle.serve_calls.proofs.wanted_units.wanted_units.Goals as goal

pub loop-number-preserved : goal.loop-number-preserved
loop-number-preserved c =
    let numbers : List ℕ = c.args.numbers.now in
    let at : ℕ = c.loop-number.number-index in
    let grows : take (at + 1) numbers ≡ take at numbers ++ slice_index_or numbers at 0 ∷ [] =
    simp unary_clauses (take-suc numbers at 0 c.loop-number-test.true) in
    subst (λ (some : List ℕ). AreWanted some c.add.new.units.items) (sym grows)
    (c.in_ok-add.ensures (take at numbers) c.loop-number.invariant)
