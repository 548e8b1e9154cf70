-- Each range of bytes has its type.
use Rattle.slice_header.proofs.ToldFronts.{front_p0, front_i2, front_b1, front_b6, front_p5}
use Rattle.slice_header.proofs.front.type_between_zeros.Goals as goal

pub returns-then-byte-ge224 : goal.returns-then-byte-ge224
returns-then-byte-ge224 c = front_p0 c.args.byte c.if-byte-ge224.true c.ranges.byte.fits

pub returns-then-byte-eq23 : goal.returns-then-byte-eq23
returns-then-byte-eq23 c = front_i2 c.args.byte c.if-byte-eq23.true

pub returns-then-byte-eq21 : goal.returns-then-byte-eq21
returns-then-byte-eq21 c = front_b1 c.args.byte c.if-byte-eq21.true

pub returns-then-byte-eq79 : goal.returns-then-byte-eq79
returns-then-byte-eq79 c = front_b6 c.args.byte c.if-byte-eq79.true

pub returns-then-byte-eq77 : goal.returns-then-byte-eq77
returns-then-byte-eq77 c = front_p5 c.args.byte c.if-byte-eq77.true
