use Rattle.std.proofs.Common.{ap, option_map, ◌∙◌}
use Rattle.clap.specs.Words.{found_of}
use Rattle.cli.specs.CommandLine.{wanted_of}
use Rattle.cli.proofs.Matches.{check-read, no-check}
use Rattle.cli.proofs.planning_args.read_check.Goals as goal

pub returns-in_err-file : goal.returns-in_err-file
returns-in_err-file c = ap (option_map wanted_of) c.from_residual.ensures ∙ no-check (found_of c.args.check.now) c.in_err-file.ensures

pub returns : goal.returns
returns c = check-read (found_of c.args.check.now) _ _ c.in_ok-file.ensures c.has_flag-json.ensures
