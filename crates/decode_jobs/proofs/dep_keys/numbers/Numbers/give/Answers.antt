use Rattle.std.proofs.Common.{◌≡◌, [], ◌∷◌, ◌++◌, length, slice_set, ap, sym, ◌∙◌, arith}
use Rattle.decode_jobs.proofs.Unused.{IsTaken, nil_of, taken, least_fresh, numbered_taken, numbered_fresh}
use Rattle.decode_jobs.proofs.dep_keys.numbers.Numbers.give.Goals as goal

pub index_mut-requires : goal.index_mut-requires
index_mut-requires c =
    let took : IsTaken c.self.inside.live.items c.pop.new.self.items c.in-Some.number (length c.self.inside.places.items) =
    taken _ _ _ _ (sym c.self.invariant.spared ∙ c.in-Some.ensures.items) in
    omega (arith, took.below, c.in_ok-reserve-2.ensures.len, c.self.inside.places.ok.0)

pub invariant_of-self-in-Some : goal.invariant_of-self-in-Some
invariant_of-self-in-Some c =
    let long : c.len-place.result ≡ length c.self.inside.live.items =
    omega (arith, c.len-place.ensures, c.in_ok-reserve.ensures.len, c.self.inside.live.ok.0) in
    numbered_taken c.self.inside.live.items c.self.inside.places.items c.self.inside.spare.items c.pop.new.self.items _ _ c.in-Some.number
    c.len-place.result c.self.invariant c.in-Some.ensures.items long
    (c.push_reserved.ensures.items ∙ ap (λ live. live ++ c.in-Some.number ∷ []) c.in_ok-reserve.ensures.items)
    (ap (λ places. slice_set places c.in-Some.number c.len-place.result) c.in_ok-reserve-2.ensures.items)

pub returns-in-Some-clause-least : goal.returns-in-Some-clause-least
returns-in-Some-clause-least c =
    let took : IsTaken c.self.inside.live.items c.pop.new.self.items c.in-Some.number (length c.self.inside.places.items) =
    taken _ _ _ _ (sym c.self.invariant.spared ∙ c.in-Some.ensures.items) in
    rw (← c.self.view_is) took.least

pub invariant_of-self-in-None : goal.invariant_of-self-in-None
invariant_of-self-in-None c =
    let none : c.self.inside.spare.items ≡ [] = nil_of _ (omega (arith, c.in-None.ensures.cases, c.self.inside.spare.ok.0)) in
    let left : c.pop.new.self.items ≡ [] = nil_of _ (omega (arith, c.in-None.ensures.cases, c.pop.new.self.ok.0)) in
    let anew : c.len-number.result ≡ length c.self.inside.places.items =
    omega (arith, c.len-number.ensures, c.in_ok-reserve-2.ensures.len, c.self.inside.places.ok.0) in
    let long : c.len-place.result ≡ length c.self.inside.live.items =
    omega (arith, c.len-place.ensures, c.in_ok-reserve.ensures.len, c.self.inside.live.ok.0) in
    numbered_fresh c.self.inside.live.items c.self.inside.places.items c.self.inside.spare.items _ _ _ c.len-number.result c.len-place.result
    c.self.invariant none left anew long
    (c.push_reserved-in-None-2.ensures.items ∙ ap (λ live. live ++ c.len-number.result ∷ []) c.in_ok-reserve.ensures.items)
    (c.push_reserved-in-None.ensures.items ∙ ap (λ places. places ++ c.len-place.result ∷ []) c.in_ok-reserve-2.ensures.items)

pub returns-in-None-clause-least : goal.returns-in-None-clause-least
returns-in-None-clause-least c =
    let none : c.self.inside.spare.items ≡ [] = nil_of _ (omega (arith, c.in-None.ensures.cases, c.self.inside.spare.ok.0)) in
    let anew : c.len-number.result ≡ length c.self.inside.places.items =
    omega (arith, c.len-number.ensures, c.in_ok-reserve-2.ensures.len, c.self.inside.places.ok.0) in
    rw (anew, ← c.self.view_is) (least_fresh c.self.inside.live.items c.self.inside.places.items c.self.inside.spare.items c.self.invariant none)
