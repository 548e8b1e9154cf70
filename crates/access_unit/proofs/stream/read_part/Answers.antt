-- The length comes first, then the NAL units.
use Rattle.std.proofs.Common.{arith}
use Rattle.std.proofs.lemmas.Grind.{common_steps}
use Rattle.access_unit.proofs.Texts.{IsReadAs-units}
use Rattle.access_unit.proofs.stream.read_part.Goals as goal

pub returns-in_ok-text : goal.returns-in_ok-text
returns-in_ok-text c =
    IsReadAs-units _ _ c.requires (grind (arith, common_steps)) _ c.unit_with.ensures.ok c.unit_with.ensures.err
