use Rattle.std.proofs.Common.{Err, false, [], ◌∷◌, inl, inr, refl}
use Rattle.serve_calls.specs.declared.requests.Served.{Served}
use Rattle.serve_run.specs.Serving.{IsNoValue}
use Rattle.serve_run.proofs.serving.serve_text.Goals as goal

pub returns-in-Err : goal.returns-in-Err
returns-in-Err g c =
    let failure = c.why_no_value.result in
    let none : IsNoValue c.args.text.now failure =
    elim c.why_no_value.ensures [
      | inl memory ↦ inr memory.1
      | inr text ↦ inl (text.1, c.in-Err.ensures.err text.0)
    ] in
    let refused : Served = record { answer = Err failure; is_last = false } in
    (refused ∷ [], c.args.writer.now.wanted.items, inr (failure, refused, none, (refl, refl, refl, refl), refl), c.refuse.ensures)
