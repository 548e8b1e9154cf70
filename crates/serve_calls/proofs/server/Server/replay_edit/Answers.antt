use Rattle.std.proofs.Common.{◌≡◌, ◌∙◌, inl, inr, refl, subst}
use Rattle.stream_edits.specs.declared.edits.Edit.{Edit}
use Rattle.stream_edits.specs.Refusals.{IsRefused}
use Rattle.serve_calls.specs.declared.replaying.Unreplayed.TheVariants as unreplayed
use Rattle.serve_calls.specs.Editing.{MakesEdit}
use Rattle.serve_calls.specs.Unreplayed.{unreplayed_edit}
use Rattle.serve_calls.proofs.Replayed.{edit-refusal, edit-refused}
use Rattle.serve_calls.proofs.server.Server.replay_edit.Goals as goal

pub returns-in-Ok-clause-refused : goal.returns-in-Ok-clause-refused
returns-in-Ok-clause-refused g c = λ so.
    let is = g.B.LendsSession.is_session in
    let makes = subst (λ (edit : Edit). MakesEdit is c.args.self.now edit c.edit_read.result c.edit_read.new.self)
    (c.in-Ok.ensures.ok ∙ c.in_ok-copy.ensures) c.edit_read.ensures.makes in
    inl (
      c.args.edit.now,
      refl,
      edit-refused is c.args.self.now c.edit_read.new.self c.args.edit.now c.edit_read.result c.why_unmade.result
          c.why_unmade.ensures.value makes so,
    )

pub returns-in-Err-clause-refused : goal.returns-in-Err-clause-refused
returns-in-Err-clause-refused g c = λ so.
    let told = c.why_refused.ensures in
    let refused : unreplayed_edit c.in-Err.refused ≡ unreplayed.Refused = cc in
    inl (
      c.args.edit.now,
      refl,
      (
        c.in-Err.refused,
        edit-refusal c.in-Err.refused refused,
        inr (
          (λ register. subst (λ (edit : Edit). IsRefused register edit c.in-Err.refused) c.in_ok-copy.ensures (c.in-Err.ensures.err register)),
          refl,
        ),
      ),
    )
