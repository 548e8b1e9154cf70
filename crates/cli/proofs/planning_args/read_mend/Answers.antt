use Rattle.std.proofs.Common.{ap, option_map, ◌∙◌}
use Rattle.clap.specs.Words.{found_of}
use Rattle.cli.specs.CommandLine.{wanted_of}
use Rattle.cli.proofs.Matches.{mend-read}
use Rattle.cli.proofs.planning_args.read_mend.Goals as goal

pub returns-in_err-file : goal.returns-in_err-file
returns-in_err-file c = ap (option_map wanted_of) c.from_residual.ensures ∙ mend-read (found_of c.args.mend.now) _ c.in_err-file.ensures

pub returns : goal.returns
returns c = mend-read (found_of c.args.mend.now) _ c.in_ok-file.ensures
