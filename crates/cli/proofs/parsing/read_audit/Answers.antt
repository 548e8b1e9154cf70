use Rattle.std.proofs.Common.{ap, option_map, sym, Some, None, ◌∙◌}
use Rattle.clap.specs.Words.{found_of}
use Rattle.cli.specs.CommandLine.{wanted_of}
use Rattle.cli.proofs.Matches.{audit-read, no-audit}
use Rattle.cli.proofs.parsing.read_audit.Goals as goal

pub returns-in_err-name : goal.returns-in_err-name
returns-in_err-name c = ap (option_map wanted_of) c.from_residual.ensures ∙ no-audit (found_of c.args.audit.now) c.in_err-name.ensures

pub returns : goal.returns
returns c =
    audit-read (found_of c.args.audit.now) _ (Some c.in_ok-count.count) (Some c.in_ok-cache.cache) c.in_ok-name.ensures
    (sym c.in_ok-count.ensures.number) (sym c.in_ok-cache.ensures.number)
