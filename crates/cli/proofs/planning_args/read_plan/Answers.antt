use Rattle.std.proofs.Common.{ap, option_map, sym, Some, ◌∙◌}
use Rattle.clap.specs.Words.{found_of}
use Rattle.cli.specs.CommandLine.{wanted_of}
use Rattle.cli.proofs.Matches.{no-file, plan-read}
use Rattle.cli.proofs.planning_args.read_plan.Goals as goal

pub returns-in_err-file : goal.returns-in_err-file
returns-in_err-file c = ap (option_map wanted_of) c.from_residual.ensures ∙ no-file (found_of c.args.plan.now) c.in_err-file.ensures

pub returns : goal.returns
returns c = plan-read (found_of c.args.plan.now) _ (Some c.in_ok-json.json) c.in_ok-file.ensures (sym c.in_ok-json.ensures)
