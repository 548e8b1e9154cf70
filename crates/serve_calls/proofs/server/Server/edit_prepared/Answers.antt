use Rattle.std.proofs.Common.{ℕ, ap, refl, ◌∙◌}
use Rattle.serve_calls.specs.Sums.{bytes_of_edit, with_edit}
use Rattle.serve_calls.proofs.Remembered.{accepted-in}
use Rattle.serve_calls.proofs.server.Server.edit_prepared.Goals as goal

pub returns-clause-makes : goal.returns-clause-makes
returns-clause-makes g c =
    let old = c.args.self.now in
    let receipt = c.in_ok-receipt.receipt in
    let new = record old { backend = c.edit-2.new.self; history = c.take_in.new.history; sums = c.with_edit-self.result } in
    accepted-in g.B.LendsSession.is_session old new c.args.step.now c.take_in.new.step c.args.read receipt c.in_ok-receipt.ensures.steps
    (c.with_edit-self.ensures
    ∙ ap (λ (bytes : ℕ). with_edit old.sums receipt.steps bytes) (c.bytes_of_edit-bytes.ensures ∙ ap bytes_of_edit c.edit.ensures))
    refl
    (λ before id after makes states first way.
    c.take_in.ensures.goes c.args.read before id after c.requires.follows c.requires.none makes states first way)
