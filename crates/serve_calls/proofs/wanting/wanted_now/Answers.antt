use Rattle.std.proofs.Common.{ℕ, List, None, slice_index_or, subst, sym, take}
use Rattle.stand_in_session.specs.Showing.{Shows}
use Rattle.serve_calls.specs.declared.wanted_units.WantedUnit.{WantedUnit}
use Rattle.serve_calls.specs.Wanting.{TellsOf}
use Rattle.serve_calls.proofs.Listing.{take-next}
use Rattle.serve_calls.proofs.UnitFlags.{tells_more, tells_none}
use Rattle.serve_calls.proofs.wanting.wanted_now.Goals as goal

pub loop-unit-preserved : goal.loop-unit-preserved
loop-unit-preserved c =
    let session = c.args.session.now in
    let units : List WantedUnit = c.args.units.now in
    let at : ℕ = c.loop-unit.unit-index in
    let none : WantedUnit = record { number = 0; told = None; seen = None } in
    subst (λ (some : List WantedUnit). TellsOf session some c.add.new.self) (sym (take-next units at none c.loop-unit-test.true))
    (tells_more session (take at units) (slice_index_or units at none) c.show-shown.result c.loop-unit.told c.add.new.self
    c.loop-unit.invariant (subst (λ (id : ℕ). Shows session id c.show-shown.result) c.id_of_number.ensures c.show-shown.ensures)
    c.in_ok-add.ensures)

pub loop-unit-init : goal.loop-unit-init
loop-unit-init c = tells_none c.args.session.now c.nothing-told.result c.nothing-told.ensures
