use Rattle.std.proofs.Common.{List, ℕ, string_bytes, inr}
use Rattle.draw_run.proofs.edited.write_edited.Goals as goal

pub returns-in-Err-clause-ends : goal.returns-in-Err-clause-ends
returns-in-Err-clause-ends g c = λ text script held read.
    let drawn = c.in_ok-drawing.ensures in
    let drawing = c.in_ok-drawing.drawing in (
      c.in-Err.ensures.refused,
      inr (inr (
        drawing.document.items,
        string_bytes drawing.told,
        record {
          before = c.args.session;
          held = held;
          commands = c.args.commands.items;
          read = read;
          after = drawn.0;
          made = drawn.1;
          drawn = drawn.2;
        },
        rw c.as_slice.ensures.value at c.in-Err.ensures.unwritten,
      )),
    )
