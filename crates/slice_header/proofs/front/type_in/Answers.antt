-- Each range of bytes has its type.
use Rattle.std.proofs.Common.{arith}
use Rattle.slice_header.proofs.Told.{told_p0, told_i2, told_b, told_p5, told_i7}
use Rattle.slice_header.proofs.front.type_in.Goals as goal

pub returns-then-byte-ge192 : goal.returns-then-byte-ge192
returns-then-byte-ge192 c = told_p0 c.args.byte c.if-byte-ge192.true c.ranges.byte.fits

pub returns-then-byte-ge176 : goal.returns-then-byte-ge176
returns-then-byte-ge176 c = told_i2 c.args.byte c.if-byte-ge176.true (omega (arith, c.if-byte-ge192.false))

pub returns-then-byte-ge156 : goal.returns-then-byte-ge156
returns-then-byte-ge156 c = told_b c.args.byte c.if-byte-ge156.true (omega (arith, c.if-byte-ge176.false))

pub returns-then-byte-ge152 : goal.returns-then-byte-ge152
returns-then-byte-ge152 c = told_p5 c.args.byte c.if-byte-ge152.true (omega (arith, c.if-byte-ge156.false))

pub returns-then-byte-eq136 : goal.returns-then-byte-eq136
returns-then-byte-eq136 c = told_i7 c.args.byte c.if-byte-eq136.true
