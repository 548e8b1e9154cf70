use Rattle.std.proofs.Common.{sym, ◌∙◌, arith}
use Rattle.stream_mending.proofs.Portions.{place-first, place-later}
use Rattle.stream_mending.proofs.open_portion.OpenPortion.place_with.Goals as goal

pub returns-then-self-eq0 : goal.returns-then-self-eq0
returns-then-self-eq0 c = λ portion segment is_open sound at.
    sym at ∙ sym (place-first portion.segments segment sound (sym is_open.bytes_are ∙ c.if-self-eq0.true))

pub returns : goal.returns
returns c = λ portion segment is_open sound at.
    is_open.place_is ∙ sym (place-later portion.segments segment (omega (arith, is_open.bytes_are, c.if-self-eq0.false)))
