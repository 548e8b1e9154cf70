use Rattle.std.proofs.Common.{◌≡◌, ◌+◌, ◌-◌, Some, ap, sym, ◌∙◌, arith}
use Rattle.std.specs.Prelude.{option_map}
use Rattle.stream_edits.specs.Streams.{place_among}
use Rattle.stream_edits.proofs.LastId.{found_at}
use Rattle.edit_history.proofs.draft.place_at.Goals as goal

pub returns-else-at-eq0 : goal.returns-else-at-eq0
returns-else-at-eq0 c = λ different.
    let ids = c.args.ids.now in
    let item = c.index-ids-at.result in
    let within = c.requires in
    let some = c.if-at-eq0.false in
    let found = found_at ids (c.args.at - 1) item (omega (arith, within, some)) different in
    let here : Some (c.args.at - 1) ≡ place_among ids item = found ∙ ap (place_among ids) (sym c.index-ids-at.is) in
    let whole : c.args.at - 1 + 1 ≡ c.args.at = omega (arith, some) in
    ap (option_map (λ place. place + 1)) (sym here) ∙ ap Some whole
