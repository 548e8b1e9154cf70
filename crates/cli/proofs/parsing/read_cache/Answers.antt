use Rattle.std.proofs.Common.{arith, codes, ◌∙◌}
use Rattle.std.specs.Str.Parse.{ParsesUnsigned, ExplainsUnsignedError, HasUnsignedDigitsIfOk}
use Rattle.clap.specs.Words.{found_of}
use Rattle.held_pictures.specs.Bounded.{most_capacity}
use Rattle.cli.proofs.Matches.{number-none, number-out, number-read}
use Rattle.cli.proofs.parsing.read_cache.Goals as goal

pub returns-in_err-cache-clause-number : goal.returns-in_err-cache-clause-number
returns-in_err-cache-clause-number c =
    c.from_residual.ensures ∙ number-none 16 _ (λ bs r. ParsesUnsigned 16 10 bs r × ExplainsUnsignedError 10 bs r × HasUnsignedDigitsIfOk bs r) (λ u x g. g.0)
    (codes "cache") 1 most_capacity (omega (arith)) (omega (arith)) (found_of c.args.matches.now) c.in_err-cache.ensures.value

pub returns-then-cache-eq0-clause-number : goal.returns-then-cache-eq0-clause-number
returns-then-cache-eq0-clause-number c =
    let out = c.then-cache-eq0.either in
    number-out 16 _ (λ bs r. ParsesUnsigned 16 10 bs r × ExplainsUnsignedError 10 bs r × HasUnsignedDigitsIfOk bs r) (λ u x g. g.0)
    (codes "cache") 1 most_capacity (omega (arith)) (omega (arith)) (found_of c.args.matches.now) c.in_ok-cache.cache
    c.in_ok-cache.ensures.none c.in_ok-cache.ensures.value (λ low high. omega (arith, out))

pub returns-clause-number : goal.returns-clause-number
returns-clause-number c =
    let low = c.if-cache-eq0.false in
    number-read 16 _ (λ bs r. ParsesUnsigned 16 10 bs r × ExplainsUnsignedError 10 bs r × HasUnsignedDigitsIfOk bs r) (λ u x g. g.0)
    (codes "cache") 1 most_capacity (omega (arith)) (omega (arith)) (found_of c.args.matches.now) c.in_ok-cache.cache
    c.in_ok-cache.ensures.none c.in_ok-cache.ensures.value (omega (arith, low)) c.if-cache-gt-MOST_CAPACITY.false
