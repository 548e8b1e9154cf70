use Rattle.std.proofs.Common.{◌≡◌, ◌∙◌, List, ℕ, [], ap, arith, sym, take}
use Rattle.std.proofs.lemmas.List.{append-nil, take_all}
use Rattle.serve_calls.specs.Journaled.{insertions_from}
use Rattle.serve_calls.proofs.journaled.insertions.Goals as goal

pub returns : goal.returns
returns c =
    let units : List (List (List ℕ)) = c.args.units.now in
    let at : ℕ = c.loop-unit.unit-index in
    let all : take at units ≡ units = take_all at units (omega (arith, c.loop-unit-test.false)) in
    sym (append-nil c.loop-unit.edits.items) ∙ sym (c.loop-unit.invariant [])
    ∙ ap (λ (some : List (List (List ℕ))). insertions_from c.args.place c.args.given some) (append-nil (take at units) ∙ all)
