use Rattle.std.proofs.Common.{◌++◌, append_assoc, codes}
use Rattle.std.proofs.KnownBytes.{Appends-trans}
use Rattle.console_io.proofs.Chunked.{front-after, front-wider}
use Rattle.console_io.proofs.Telling.{tells-after, tells-cut}
use Rattle.console_io.proofs.messages.say_line.Goals as goal

pub returns-in_err-write_bytes : goal.returns-in_err-write_bytes
returns-in_err-write_bytes g c =
    let front = front-wider _ _ c.args.front.now (c.args.word.now ++ codes "\n") c.in_err-write_bytes.ensures.unwritten in
    tells-cut c.from_residual.result c.in_err-write_bytes.field-0.0 _ _ _ _ c.from_residual.ensures.1
    c.in_err-write_bytes.ensures.fault c.in_err-write_bytes.ensures.refused front

pub returns-in_err-write_bytes-2 : goal.returns-in_err-write_bytes-2
returns-in_err-write_bytes-2 g c =
    let rest = front-wider _ _ c.args.word.now (codes "\n") c.in_err-write_bytes-2.ensures.unwritten in
    let front = front-after _ _ _ c.args.front.now (c.args.word.now ++ codes "\n") c.in_ok-write_bytes.ensures.ok rest in
    tells-cut c.from_residual-in_err-write_bytes-2.result c.in_err-write_bytes-2.field-0.0 _ _ _ _
    c.from_residual-in_err-write_bytes-2.ensures.1 c.in_err-write_bytes-2.ensures.fault
    c.in_err-write_bytes-2.ensures.refused front

pub returns : goal.returns
returns g c =
    let before = Appends-trans _ _ _ c.args.front.now c.args.word.now c.in_ok-write_bytes.ensures.ok c.in_ok-write_bytes-2.ensures.ok in
    let all = tells-after c.write_bytes-3.result _ _ _ _ (c.args.front.now ++ c.args.word.now) (codes "\n") before
    c.write_bytes-3.ensures.ok c.write_bytes-3.ensures.unwritten c.write_bytes-3.ensures.refused c.write_bytes-3.ensures.fault in
    rw (append_assoc c.args.front.now c.args.word.now (codes "\n")) at all
