use Rattle.std.proofs.Common.{◌≡◌, ◌+◌, ◌-◌, ◌++◌, ℕ, refl, ap, sym, subst, ◌∙◌, Some, inl, inr, arith}
use Rattle.std.specs.Prelude.{IsPermutation}
use Rattle.std.specs.Option.{option_to_list}
use Rattle.std.specs.Map.{values_of}
use Rattle.std.proofs.lemmas.Option.{same_Some}
use Rattle.held_pictures.specs.KeySlots.{pictures_held, slot_at, uses_at}
use Rattle.held_pictures.proofs.Bags.{account_none, account_put, gone_held}
use Rattle.held_pictures.proofs.Slots.{place_used, uses_left, uses_less, places_stay, gone_from, not_gone}
use Rattle.held_pictures.proofs.key_slots.using.let_go.Goals as goal

pub returns-in-Some-clause-goes : goal.returns-in-Some-clause-goes
returns-in-Some-clause-goes g c =
    let old = c.args.key_slots.now in
    let key = c.args.key in
    let uses : ℕ = uses_at old key - 1 in
    let more : uses_at old key ≡ uses + 1 = omega (arith, c.requires.used) in
    let new_is = c.let_go.ensures.slots uses more in
    let gone = gone_from (uses_at old key) (slot_at old key).picture c.in-Some.picture (sym c.let_go.ensures.picture ∙ c.in-Some.is) in
    record {
      uses = uses_less old c.let_go.new.self key uses more new_is;
      stay = places_stay old c.let_go.new.self key uses more new_is;
      cache =
          inl (
            c.in-Some.picture,
            place_used (slot_at old key) c.requires.used ∙ ap Some gone.1,
            omega (arith, uses_left old c.let_go.new.self key uses more new_is, more, gone.0),
            c.put_in.ensures.puts,
          );
    }

pub returns-in-Some-clause-those : goal.returns-in-Some-clause-those
returns-in-Some-clause-those g c = λ number other is.
    let old = c.args.key_slots.now in
    let key = c.args.key in
    let uses : ℕ = uses_at old key - 1 in
    let more : uses_at old key ≡ uses + 1 = omega (arith, c.requires.used) in
    let new_is = c.let_go.ensures.slots uses more in
    let gone = gone_from (uses_at old key) (slot_at old key).picture c.in-Some.picture (sym c.let_go.ensures.picture ∙ c.in-Some.is) in
    elim (c.put_in.ensures.those number other is) [
      | inl before ↦ inl before
      | inr same ↦ inr (
        same.0,
        place_used (slot_at old key) c.requires.used ∙ (ap Some gone.1 ∙ ap (λ picture. Some (Some picture)) (sym same.1)),
        omega (arith, uses_left old c.let_go.new.self key uses more new_is, more, gone.0),
      )
    ]

pub returns-in-None-clause-goes : goal.returns-in-None-clause-goes
returns-in-None-clause-goes g c =
    let old = c.args.key_slots.now in
    let key = c.args.key in
    let uses : ℕ = uses_at old key - 1 in
    let more : uses_at old key ≡ uses + 1 = omega (arith, c.requires.used) in
    let new_is = c.let_go.ensures.slots uses more in
    record {
      uses = uses_less old c.let_go.new.self key uses more new_is;
      stay = places_stay old c.let_go.new.self key uses more new_is;
      cache =
          inr (
            λ picture place.
                let not = not_gone (uses_at old key) (slot_at old key).picture c.let_go.result picture c.let_go.ensures.picture
                c.in-None.is
                (same_Some (slot_at old key).picture (Some picture) (sym (place_used (slot_at old key) c.requires.used) ∙ place)) in
                omega (arith, uses_left old c.let_go.new.self key uses more new_is, more, c.requires.used, not),
            refl,
            refl,
          );
    }

pub returns-in-Some-clause-accounts : goal.returns-in-Some-clause-accounts
returns-in-Some-clause-accounts g c =
    let old = c.args.key_slots.now in
    let new = c.let_go.new.self in
    let key = c.args.key in
    let uses : ℕ = uses_at old key - 1 in
    let more : uses_at old key ≡ uses + 1 = omega (arith, c.requires.used) in
    let gone = gone_held old new key uses c.let_go.result more (c.let_go.ensures.slots uses more) c.let_go.ensures.picture in
    account_put c.in-Some.picture (pictures_held old) (pictures_held new) (values_of c.args.cache.now.pairs)
    c.args.released.now.items (values_of c.put_in.new.cache.pairs) c.put_in.new.released.items
    (subst (λ result. IsPermutation (option_to_list result ++ pictures_held new) (pictures_held old)) c.in-Some.is gone)
    c.put_in.ensures.accounts

pub returns-in-None-clause-accounts : goal.returns-in-None-clause-accounts
returns-in-None-clause-accounts g c =
    let old = c.args.key_slots.now in
    let new = c.let_go.new.self in
    let key = c.args.key in
    let uses : ℕ = uses_at old key - 1 in
    let more : uses_at old key ≡ uses + 1 = omega (arith, c.requires.used) in
    let gone = gone_held old new key uses c.let_go.result more (c.let_go.ensures.slots uses more) c.let_go.ensures.picture in
    account_none (pictures_held old) (pictures_held new) (values_of c.args.cache.now.pairs) c.args.released.now.items
    (subst (λ result. IsPermutation (option_to_list result ++ pictures_held new) (pictures_held old)) c.in-None.is gone)
