use Rattle.std.proofs.Common.{ap, sym, Some, ◌∙◌}
use Rattle.clap.specs.Words.{found_of}
use Rattle.cli.specs.CommandLine.{Wanted}
use Rattle.cli.proofs.Matches.{serve-read}
use Rattle.cli.proofs.serving_args.read_serve.Goals as goal

pub returns : goal.returns
returns c =
    ap (λ (wanted : Wanted). Some wanted) (rw c.several.ensures at c.serving.ensures)
    ∙ serve-read (found_of c.args.serve.now) (Some c.in_ok-count.count) (Some c.in_ok-cache.cache) _ (sym c.in_ok-count.ensures.number)
    (sym c.in_ok-cache.ensures.number) c.get_str.ensures
