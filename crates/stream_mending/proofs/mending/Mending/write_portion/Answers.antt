use Rattle.std.proofs.Common.{ap, ◌∙◌, refl, ◌++◌, ◌||◌}
use Rattle.stream_mending.proofs.Steps.{ended_fits}
use Rattle.stream_mending.proofs.mending.Mending.write_portion.Goals as goal

pub returns : goal.returns
returns c = λ text written said done portion so_far fit.
    let old = c.args.self.now in
    ended_fits text written said done portion old _ so_far fit
    (c.in_ok-extend_from_slice.ensures.items ∙ ap (λ l. old.bytes.items ++ l) c.deref.ensures.value) refl
    (ap (λ b. old.stays || b) (c.has_units.ensures portion so_far.open_is))
