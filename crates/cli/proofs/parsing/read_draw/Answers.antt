use Rattle.std.proofs.Common.{ap, option_map, sym, Some, None, ◌∙◌}
use Rattle.clap.specs.Words.{found_of}
use Rattle.cli.specs.CommandLine.{Wanted, wanted_of}
use Rattle.cli.proofs.Matches.{draw-read, no-draw}
use Rattle.cli.proofs.parsing.read_draw.Goals as goal

pub returns-in_err-file : goal.returns-in_err-file
returns-in_err-file c = ap (option_map wanted_of) c.from_residual.ensures ∙ no-draw (found_of c.args.draw.now) c.in_err-file.ensures

pub returns : goal.returns
returns c =
    ap (λ (wanted : Wanted). Some wanted) c.drawing.ensures
    ∙ draw-read (found_of c.args.draw.now) _ _ (Some c.in_ok-from.from) (Some c.in_ok-units.units) c.in_ok-file.ensures
    c.get_str-2.ensures (sym c.in_ok-from.ensures) (sym c.in_ok-units.ensures.number)
