use Rattle.request_core.proofs.Agreement.{go-on-alike}
use Rattle.request_core.proofs.state.agreement.Goals as goal

pub returns : goal.returns
returns c = go-on-alike
