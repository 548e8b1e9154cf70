use Rattle.std.proofs.Common.{◌∙◌, refl, inl, inr}
use Rattle.script_run.proofs.Numbered.{run-keeps}
use Rattle.script_run.proofs.shared.run.run_text.Goals as goal

pub returns-in-Ok-clause-ok : goal.returns-in-Ok-clause-ok
returns-in-Ok-clause-ok g c = (
  record {
    commands = c.in_ok-commands.commands.items;
    first = c.in_ok-desk.seat;
    last = c.run_beside-ran.result.seat;
    read = c.in_ok-commands.ensures;
    begins = c.in_ok-desk.ensures.new;
    answered = rw c.in-Ok.is at c.run_beside-ran.ensures.ok;
  },
  refl,
)

pub returns-in-Ok-clause-seats : goal.returns-in-Ok-clause-seats
returns-in-Ok-clause-seats g c =
    let ran = rw c.in-Ok.is at c.run_beside-ran.ensures.ok in (
      c.run_beside-ran.ensures.seats ∙ c.in_ok-desk.ensures.seats,
      run-keeps (g.S.Source.file c.args.script.files) c.args.options.hex c.in_ok-desk.seat c.in_ok-commands.commands.items ran.0
          c.run_beside-ran.result.seat ran.1 ∙ c.in_ok-desk.ensures.new.0,
    )

pub returns-clause-stops : goal.returns-clause-stops
returns-clause-stops g c =
    let stopped = rw c.in-Err.is at c.run_beside-ran.ensures.stops in
    elim stopped [
      | inl no_thread ↦ inl no_thread
      | inr at ↦ inr (inr (c.in_ok-commands.commands.items, c.in_ok-desk.seat, c.in_ok-commands.ensures, c.in_ok-desk.ensures.new, at))
    ]
