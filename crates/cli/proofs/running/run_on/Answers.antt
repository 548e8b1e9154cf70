use Rattle.std.proofs.Common.{inl, inr, map, refl}
use Rattle.cli.specs.CommandLine.{IsMistake, IsRequest, faults_of}
use Rattle.cli.proofs.CommandFaults.{kind-among, request-among}
use Rattle.cli.proofs.running.run_on.Goals as goal

pub returns-in-Err-clause-wrong : goal.returns-in-Err-clause-wrong
returns-in-Err-clause-wrong g c usage =
    kind-among IsMistake (faults_of (map g.T.AsStr.text c.args.words.now)) c.in-Err.error c.in-Err.ensures.faults (λ bad. bad.0 refl) (c.answer.ensures.wrong usage).0

pub returns-in-Err-clause-right : goal.returns-in-Err-clause-right
returns-in-Err-clause-right g c success =
    let done = c.answer.ensures.done success in
    inr (request-among (faults_of (map g.T.AsStr.text c.args.words.now)) c.in-Err.error c.in-Err.ensures.faults done.0, done.2, done.1)

pub returns-in-Err-clause-fails : goal.returns-in-Err-clause-fails
returns-in-Err-clause-fails g c failure =
    elim (c.answer.ensures.fails failure) [
      | inl memory ↦ inr (inl memory)
      | inr part ↦ inr (inr (request-among (faults_of (map g.T.AsStr.text c.args.words.now)) c.in-Err.error c.in-Err.ensures.faults part.0, part.1))
    ]
