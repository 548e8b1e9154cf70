use Rattle.std.proofs.Common.{◌≤◌, List, ℕ, Result, inl, length, refl, subst, sym}
use Rattle.access_unit.specs.StreamUnits.{IsStream}
use Rattle.serve_requests.specs.declared.failure.Failure.{Failure}
use Rattle.serve_answers.specs.declared.answer.Answer.{Answer}
use Rattle.serve_calls.specs.Recording.{RecordsStream}
use Rattle.serve_calls.proofs.Recorded.{stream-recorded}
use Rattle.serve_calls.proofs.server.Server.load_stream.Goals as goal

pub returns-in-Ok-hash_units-clause-loads : goal.returns-in-Ok-hash_units-clause-loads
returns-in-Ok-hash_units-clause-loads g c =
    let units : List (List (List ℕ)) = c.in-Ok-hash_units.units.items in
    inl (
      c.last-from.result.units,
      c.saturating_sub.result,
      units,
      c.insert_step.result,
      (c.last-from.result, c.last-from.ensures, refl, c.saturating_sub.ensures),
      subst (λ (them : List (List (List ℕ))). IsStream c.args.stream.text them) (sym c.in-Ok-hash_units.ensures) c.in-Ok.ensures.read.0,
      subst (λ (them : List (List (List ℕ))). length them ≤ c.saturating_sub.result) (sym c.in-Ok-hash_units.ensures) c.in-Ok.ensures.read.1,
      c.insert_step.ensures.inserts,
      c.of_load.ensures,
    )

pub returns-in-Ok-hash_units-clause-recorded : goal.returns-in-Ok-hash_units-clause-recorded
returns-in-Ok-hash_units-clause-recorded g c =
    let is = g.B.LendsSession.is_session c.args.self.now.backend in
    let before = g.B.Backend.records c.args.self.now.backend in
    let after = g.B.Backend.records c.insert_step.new.self.backend in
    let units : List (List (List ℕ)) = c.in-Ok-hash_units.units.items in
    subst (λ (result : Result Answer Failure). RecordsStream is before c.args.stream.text result after) (sym c.of_load.ensures)
    (stream-recorded is before after c.args.stream.text units c.args.stream.left_out c.insert_step.result
    (subst (λ (them : List (List (List ℕ))). IsStream c.args.stream.text them) (sym c.in-Ok-hash_units.ensures) c.in-Ok.ensures.read.0)
    c.insert_step.ensures.recorded)
