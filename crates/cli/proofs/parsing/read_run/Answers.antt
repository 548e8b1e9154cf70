use Rattle.std.proofs.Common.{ap, option_map, sym, Some, None, ◌∙◌}
use Rattle.clap.specs.Words.{found_of}
use Rattle.cli.specs.CommandLine.{run, wanted_of}
use Rattle.cli.proofs.Matches.{no-script, script-read}
use Rattle.cli.proofs.parsing.read_run.Goals as goal

pub returns-in_err-name : goal.returns-in_err-name
returns-in_err-name c = ap (option_map wanted_of) c.from_residual.ensures ∙ no-script (found_of c.args.run.now) c.in_err-name.ensures

pub returns : goal.returns
returns c =
    rw c.several.ensures
    (script-read (found_of c.args.run.now) _ (Some c.in_ok-count.count) (Some c.in_ok-cache.cache) c.has_flag-hex.result
    c.in_ok-name.ensures (sym c.in_ok-count.ensures.number) (sym c.in_ok-cache.ensures.number) c.has_flag-hex.ensures)
