use Rattle.std.proofs.Common.{◌∙◌}
use Rattle.clap.specs.Words.{found_of}
use Rattle.cli.proofs.Matches.{flag-read}
use Rattle.cli.proofs.parsing.has_flag.Goals as goal

pub returns-in-Some : goal.returns-in-Some
returns-in-Some c =
    c.eq.ensures ∙ flag-read (found_of c.args.matches.now) c.args.name.now _ c.in-Some.ensures

pub returns-in-None : goal.returns-in-None
returns-in-None c = flag-read (found_of c.args.matches.now) c.args.name.now _ c.in-None.ensures
