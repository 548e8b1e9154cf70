use Rattle.std.proofs.Common.{◌∙◌, ap, ◌++◌, ◌+◌, replicate, sym}
use Rattle.stream_mending.proofs.Open.{IsOpen-left_out}
use Rattle.stream_mending.proofs.open_portion.OpenPortion.leave_out.Goals as goal

pub returns : goal.returns
returns c = λ portion segment unsound zeros is_open.
    let old = c.args.self.now in
    let new = c.add_zeros.new.self in
    IsOpen-left_out portion segment old new unsound is_open
    (c.in_ok-add_zeros.ensures.text ∙ ap (λ n. old.text.items ++ replicate n 0) (sym zeros))
    (c.in_ok-add_zeros.ensures.zeros ∙ ap (λ n. old.zeros + n) (sym zeros))
    (ap (λ o. o.bytes) c.in_ok-add_zeros.ensures.rest) (ap (λ o. o.place) c.in_ok-add_zeros.ensures.rest)
    (ap (λ o. o.slices) c.in_ok-add_zeros.ensures.rest) (ap (λ o. o.first) c.in_ok-add_zeros.ensures.rest)
    (ap (λ o. o.is_delimited) c.in_ok-add_zeros.ensures.rest)
