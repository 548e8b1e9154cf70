-- A fold goes on from the state that it has reached.
use Rattle.std.proofs.Common.{◌≡◌, refl, ap, sym, ◌∙◌, List, [], ◌∷◌, ◌++◌}
use Rattle.unit_outcomes.specs.declared.outcome.Outcome.{Outcome}
use Rattle.request_core.specs.States.{FoldState, no_units}
use Rattle.request_core.specs.Fold.{fold_step, outcomes_from, outcomes_of}
use Rattle.request_core.specs.Agreement.{GoOnAlike, Stream, state_from}

pub outcomes_from-append : (state : FoldState) (units others : Stream)
    → outcomes_from state (units ++ others) ≡ outcomes_from state units ++ outcomes_from (state_from state units) others
outcomes_from-append state [] others = refl
outcomes_from-append state (unit ∷ units) others =
    ap (λ (rest : List Outcome). (fold_step state unit.0 unit.1).1 ∷ rest) (outcomes_from-append (fold_step state unit.0 unit.1).0 units others)

pub state_from-append : (state : FoldState) (units others : Stream)
    → state_from state (units ++ others) ≡ state_from (state_from state units) others
state_from-append state [] others = refl
state_from-append state (unit ∷ units) others = state_from-append (fold_step state unit.0 unit.1).0 units others

pub go-on-alike : (first second : Stream) → state_from no_units first ≡ state_from no_units second
    → (further : Stream) → GoOnAlike first second further
go-on-alike first second agree further = (
  outcomes_from (state_from no_units first) further,
  outcomes_from-append no_units first further,
  outcomes_from-append no_units second further ∙ ap (λ state. outcomes_of second ++ outcomes_from state further) (sym agree),
  state_from-append no_units first further ∙ (ap (λ state. state_from state further) agree ∙ sym (state_from-append no_units second further)),
)
