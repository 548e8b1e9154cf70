use Rattle.std.proofs.Common.{arith, codes, ◌∙◌}
use Rattle.std.specs.Str.Parse.{ParsesUnsigned, ExplainsUnsignedError, HasUnsignedDigitsIfOk}
use Rattle.clap.specs.Words.{found_of}
use Rattle.cli.specs.Bounds.{most_id}
use Rattle.cli.proofs.Matches.{number-none, number-out, number-read}
use Rattle.cli.proofs.parsing.read_id.Goals as goal

pub returns-in_err-id : goal.returns-in_err-id
returns-in_err-id c =
    c.from_residual.ensures ∙ number-none 32 _ (λ bs r. ParsesUnsigned 32 10 bs r × ExplainsUnsignedError 10 bs r × HasUnsignedDigitsIfOk bs r) (λ u x g. g.0)
    (codes "from") 0 most_id (omega (arith)) (omega (arith)) (found_of c.args.matches.now) c.in_err-id.ensures.value

pub returns : goal.returns
returns c =
    number-read 32 _ (λ bs r. ParsesUnsigned 32 10 bs r × ExplainsUnsignedError 10 bs r × HasUnsignedDigitsIfOk bs r) (λ u x g. g.0)
    (codes "from") 0 most_id (omega (arith)) (omega (arith)) (found_of c.args.matches.now) c.in_ok-id.id
    c.in_ok-id.ensures.none c.in_ok-id.ensures.value (omega arith) (omega arith)
