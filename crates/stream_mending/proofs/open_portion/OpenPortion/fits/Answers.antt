use Rattle.stream_mending.proofs.Open.{fits_then, fits_else}
use Rattle.stream_mending.proofs.open_portion.OpenPortion.fits.Goals as goal

pub returns-then-self-most_bytes : goal.returns-then-self-most_bytes
returns-then-self-most_bytes c = λ portion is_open.
    fits_then portion c.args.self.now is_open c.most_bytes.result c.most_bytes.ensures c.if-self-most_bytes.true

pub returns-else-self-most_bytes : goal.returns-else-self-most_bytes
returns-else-self-most_bytes c = λ portion is_open.
    fits_else portion c.args.self.now is_open c.most_bytes.result c.most_bytes.ensures c.if-self-most_bytes.false
