use Rattle.std.proofs.Common.{◌≡◌, ◌∙◌, ◌+◌, ◌∷◌, [], ◌++◌, ap, suc, sym, arith}
use Rattle.unit_printing.specs.Seen.{ids_from}
use Rattle.unit_printing.proofs.SeenIds.{ids_more}
use Rattle.unit_printing.proofs.json.doubts.ids.Goals as goal

pub loop-place-preserved : goal.loop-place-preserved
loop-place-preserved c =
    let place = c.loop-place.place in
    let is = c.new.ensures in
    let id_is : c.new.result ≡ 1 + place = omega (arith, is) in
    let count : suc place ≡ place + 1 = omega arith in
    c.in_ok-push.ensures.items
    ∙ (ap (λ l. l ++ c.new.result ∷ []) c.loop-place.invariant
    ∙ (ap (λ id. ids_from 1 place ++ id ∷ []) id_is ∙ (sym (ids_more 1 place) ∙ ap (ids_from 1) count)))
