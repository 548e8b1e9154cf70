use Rattle.std.proofs.Common.{sym, ◌∙◌}
use Rattle.stream_mending.proofs.mending.Mending.end.Goals as goal

pub returns-then-fits : goal.returns-then-fits
returns-then-fits c = λ text written said done portion so_far.
    c.write_portion.ensures text written said done portion so_far (sym (c.fits.ensures portion so_far.open_is) ∙ c.if-fits.true)

pub returns-else-fits : goal.returns-else-fits
returns-else-fits c = λ text written said done portion so_far.
    c.drop_portion.ensures text written said done portion so_far (sym (c.fits.ensures portion so_far.open_is) ∙ c.if-fits.false)
