use Rattle.std.proofs.Common.{◌≡◌, rules, ◌==◌, ℕ, not, sym, subst, Contains, ◌↔◌}
use Rattle.std.proofs.lemmas.Fn.{filter_same}
use Rattle.held_pictures.proofs.Entered.{left_without}
use Rattle.held_pictures.proofs.key_slots.scan.forget.Goals as goal

pub returns : goal.returns
returns c = λ other.
    let left = filter_same _ (λ (one : ℕ). not (one == c.args.id)) _ (λ x b f' k. search rules) _ _ c.retain.ensures.filtered in
    subst (λ ids. Contains ids other ↔ (Contains c.args.wanted.now.items other × (other ≡ c.args.id → ⊥))) (sym left)
    (left_without c.args.id c.args.wanted.now.items other)
