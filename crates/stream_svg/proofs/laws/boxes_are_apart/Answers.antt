use Rattle.std.proofs.Common.{arith}
use Rattle.stream_svg.proofs.Products.{row_step}
use Rattle.stream_svg.proofs.laws.boxes_are_apart.Goals as goal

pub returns-clause-stream : goal.returns-clause-stream
returns-clause-stream c = λ grid one other before x y here there.
    let step = row_step one other grid.pitch before in omega (arith, step, here.1, there.0)

pub returns-clause-output : goal.returns-clause-output
returns-clause-output c = λ grid one other before x y here there.
    let step = row_step one other grid.pitch before in omega (arith, step, here.1, there.0)

pub returns-clause-rows : goal.returns-clause-rows
returns-clause-rows c = λ grid one other x y here there. omega (arith, here.3, there.2)
