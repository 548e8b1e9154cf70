use Rattle.std.proofs.Common.{arith, codes, ◌∙◌}
use Rattle.std.specs.Str.Parse.{ParsesUnsigned, ExplainsUnsignedError, HasUnsignedDigitsIfOk}
use Rattle.clap.specs.Words.{found_of}
use Rattle.cli.specs.Bounds.{most_drawn}
use Rattle.cli.proofs.Matches.{number-none, number-out, number-read}
use Rattle.cli.proofs.parsing.read_units.Goals as goal

pub returns-in_err-get_one-clause-number : goal.returns-in_err-get_one-clause-number
returns-in_err-get_one-clause-number c =
    c.from_residual.ensures ∙ number-none 16 _ (λ bs r. ParsesUnsigned 16 10 bs r × ExplainsUnsignedError 10 bs r × HasUnsignedDigitsIfOk bs r) (λ u x g. g.0)
    (codes "units") 1 most_drawn (omega (arith)) (omega (arith)) (found_of c.args.matches.now) c.in_err-get_one.ensures.value

pub returns-then-units-eq0-clause-number : goal.returns-then-units-eq0-clause-number
returns-then-units-eq0-clause-number c =
    let out = c.then-units-eq0.either in
    let same = c.from-units.ensures in
    number-out 16 _ (λ bs r. ParsesUnsigned 16 10 bs r × ExplainsUnsignedError 10 bs r × HasUnsignedDigitsIfOk bs r) (λ u x g. g.0)
    (codes "units") 1 most_drawn (omega (arith)) (omega (arith)) (found_of c.args.matches.now) c.in_ok-get_one.field-0
    c.in_ok-get_one.ensures.none c.in_ok-get_one.ensures.value (λ low high. omega (arith, out, same))

pub returns-clause-number : goal.returns-clause-number
returns-clause-number c =
    let low = c.if-units-eq0.false in
    let high = c.if-units-gt-MOST_UNITS.false in
    let same = c.from-units.ensures in
    rw same
    (number-read 16 _ (λ bs r. ParsesUnsigned 16 10 bs r × ExplainsUnsignedError 10 bs r × HasUnsignedDigitsIfOk bs r) (λ u x g. g.0)
    (codes "units") 1 most_drawn (omega (arith)) (omega (arith)) (found_of c.args.matches.now) c.in_ok-get_one.field-0
    c.in_ok-get_one.ensures.none c.in_ok-get_one.ensures.value (omega (arith, low, same)) (omega (arith, high, same)))
