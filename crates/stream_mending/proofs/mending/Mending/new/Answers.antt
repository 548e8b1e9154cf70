use Rattle.std.proofs.Common.{◌∙◌, ◌++◌, ◌-◌, ap, refl, length, replicate}
use Rattle.stream_mending.specs.Mended.{told_bytes}
use Rattle.stream_mending.specs.declared.why.Why.TheVariants.{NotNalUnit}
use Rattle.stream_mending.proofs.Steps.{first_mended, foreign_len}
use Rattle.stream_mending.proofs.mending.Mending.new.Goals as goal

pub returns : goal.returns
returns c = λ text bytes rest cut.
    let front = c.args.front.now in
    let place = c.zero_run-place.result in
    let count = c.trimmed_len-foreign.result in
    let within = rw c.split_at.ensures.back at c.trimmed_len-foreign.ensures.within in
    let trims = rw c.split_at.ensures.back at c.trimmed_len-foreign.ensures.value in
    first_mended text bytes rest front place count _ cut c.zero_run-place.ensures.value
    (foreign_len front place count c.zero_run-place.ensures.value within trims) c.new-3.ensures
    (c.in_ok-push_zeros.ensures ∙ ap (λ l. l ++ replicate (length front - count) 0) c.new.ensures.items)
    (c.in_ok-tell.ensures ∙ ap (λ l. l ++ told_bytes place count NotNalUnit) c.new-2.ensures.items) refl
