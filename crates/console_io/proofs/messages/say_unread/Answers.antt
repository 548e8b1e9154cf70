use Rattle.console_io.proofs.messages.say_unread.Goals as goal

pub returns : goal.returns
returns g c = rw c.as_bytes.ensures.value at c.say_line.ensures
