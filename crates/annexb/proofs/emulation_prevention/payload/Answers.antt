use Rattle.std.proofs.Common.{◌≡◌, arith, ap, ◌∙◌}
use Rattle.std.proofs.lemmas.Grind.{common_steps}
use Rattle.annexb.specs.EmulationPrevention.{escape, payload_of}
use Rattle.annexb.proofs.Escapes.{escape-payload_of, payload_of-only}
use Rattle.annexb.proofs.emulation_prevention.payload.Goals as goal

-- the whole payload is there
value : (c : goal.Then-len-rest) → c.extend_from_slice.new.self.items ≡ payload_of c.args.nal.now
value c = grind (arith, common_steps)

pub returns-then-len-rest-clause-escaped : goal.returns-then-len-rest-clause-escaped
returns-then-len-rest-clause-escaped c = ap escape (value c) ∙ escape-payload_of c.args.nal.now c.bytes-rest.ensures.unit

pub returns-then-len-rest-clause-only : goal.returns-then-len-rest-clause-only
returns-then-len-rest-clause-only c = λ payload e. value c ∙ payload_of-only c.args.nal.now payload e
