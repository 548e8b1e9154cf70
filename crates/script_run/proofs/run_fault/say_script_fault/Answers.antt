use Rattle.std.proofs.Common.{◌∙◌}
use Rattle.script_run.proofs.run_fault.say_script_fault.Goals as goal

pub returns : goal.returns
returns g c = rw (c.as_bytes.ensures.value ∙ c.format.ensures.text) at c.say_line.ensures
