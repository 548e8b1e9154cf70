use Rattle.std.proofs.Common.{None, ◌∙◌}
use Rattle.clap.specs.Words.{found_of}
use Rattle.cli.proofs.Matches.{from-none, from-some}
use Rattle.cli.proofs.parsing.read_from.Goals as goal

pub returns-in_err-read_id-in-Some : goal.returns-in_err-read_id-in-Some
returns-in_err-read_id-in-Some c =
    c.from_residual.ensures ∙ from-some (found_of c.args.matches.now) _ c.in-Some.ensures None c.in_err-read_id-in-Some.ensures

pub returns-in-None : goal.returns-in-None
returns-in-None c = from-none (found_of c.args.matches.now) c.in-None.ensures
