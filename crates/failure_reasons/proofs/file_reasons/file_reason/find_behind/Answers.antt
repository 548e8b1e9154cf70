use Rattle.std.proofs.Common.{◌≡◌, [], length}
use Rattle.plan_stream.specs.Gathering.{IsGathered}
use Rattle.failure_reasons.proofs.Found.{found-refused, found-stream}
use Rattle.failure_reasons.proofs.file_reasons.file_reason.find_behind.Goals as goal

pub returns-in-Ok : goal.returns-in-Ok
returns-in-Ok g c = λ old is.
    found-stream old (g.R.Read.remaining c.args.reader.now) _ c.args.front.now
    (λ text. IsGathered (λ done counted. counted.count ≡ length done) text [] c.in_ok-gathering.gathering)
    c.chain-whole.ensures.bytes c.in_ok-gathering.ensures
    (λ text gathered. let all = c.in-Ok.ensures.ok c.new.result text gathered in (all.parts, all.stream)) is

pub returns-in-Err : goal.returns-in-Err
returns-in-Err g c = λ old is.
    found-refused old (g.R.Read.remaining c.args.reader.now) _ c.args.front.now
    (λ text. IsGathered (λ done counted. counted.count ≡ length done) text [] c.in_ok-gathering.gathering)
    c.kind_of-kind.result c.in-Err.refusal
    c.chain-whole.ensures.bytes c.kind_of-kind.ensures c.in_ok-gathering.ensures
    (λ text gathered. c.in-Err.ensures.err c.new.result text gathered) is
