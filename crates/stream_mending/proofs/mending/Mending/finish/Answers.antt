use Rattle.std.proofs.Common.{ap, ◌∙◌, ◌++◌}
use Rattle.stream_mending.proofs.Steps.{mended_cases, told_all}
use Rattle.stream_mending.proofs.mending.Mending.finish.Goals as goal

pub returns-clause-bytes : goal.returns-clause-bytes
returns-clause-bytes c = λ text written said h.
    let ended = c.in_ok-end.ensures text written said h.done h.portion h.so_far in
    ap (λ l. written ++ l) c.clear_unless_some_stay.ensures.bytes ∙ mended_cases text written said _ h.whole _ ended

pub returns-clause-told : goal.returns-clause-told
returns-clause-told c = λ text written said h.
    let ended = c.in_ok-end.ensures text written said h.done h.portion h.so_far in
    ap (λ v. said ++ v.items) c.clear_unless_some_stay.ensures.told ∙ told_all text written said _ h.whole _ ended
