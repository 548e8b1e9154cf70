-- No unit from the place on has the position, and none before it.
use Rattle.std.proofs.Common.{ℕ, List, All, take, drop, refl, subst}
use Rattle.std.proofs.lemmas.List.{take-append-drop}
use Rattle.std.proofs.lemmas.List.Elements.{All-append}
use Rattle.c_calls.specs.Finding.{HasPosition}
use Rattle.c_calls.proofs.finding.id_at_position.Goals as goal

pub returns-in-None-find_among : goal.returns-in-None-find_among
returns-in-None-find_among c =
    let P : ℕ → Type 0 = λ id. HasPosition c.args.session.now.register.stream c.args.position id → ⊥ in
    let ids : List ℕ = c.ids-ids.result.now in
    let near : ℕ = c.min-near.result in
    let whole : All P ids = subst (λ (xs : List ℕ). All P xs) (take-append-drop near ids)
    (All-append P (take near ids) (drop near ids) (rw c.split_at.ensures.front at c.in-None-find_among.ensures) (rw c.split_at.ensures.back at c.in-None.ensures)) in
    (refl, rw c.ids-ids.ensures at whole)
