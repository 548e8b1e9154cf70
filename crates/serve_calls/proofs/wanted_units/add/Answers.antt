use Rattle.std.proofs.Common.{◌≢◌, List, [], ◌∷◌, ◌++◌, None, All, refl, subst, sym}
use Rattle.serve_calls.specs.declared.wanted_units.WantedUnit.{WantedUnit}
use Rattle.serve_calls.specs.WantedUnits.{AreWanted, IsAmong}
use Rattle.serve_calls.proofs.Numbered.{again, more}
use Rattle.serve_calls.proofs.wanted_units.add.Goals as goal

pub returns-then-has_number : goal.returns-then-has_number
returns-then-has_number c = λ numbers are.
    again numbers c.args.units.now.items c.args.number are
    (subst (λ (units : List WantedUnit). IsAmong units c.args.number) c.deref.ensures.value c.if-has_number.ensures)

pub returns : goal.returns
returns c = λ numbers are.
    subst (λ (units : List WantedUnit). AreWanted (numbers ++ c.args.number ∷ []) units) (sym c.in_ok-push.ensures.items)
    (more numbers c.args.units.now.items (record { number = c.args.number; told = None; seen = None }) are
    (subst (λ (units : List WantedUnit). All (λ unit. unit.number ≢ c.args.number) units) c.deref.ensures.value c.if-has_number.ensures)
    (refl, refl))
