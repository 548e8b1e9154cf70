use Rattle.std.proofs.Common.{◌≡◌, ◌+◌, ◌<◌, refl, sym, subst, ◌∙◌, Some, inl, inr, arith}
use Rattle.std.specs.Map.{keys_of}
use Rattle.std.proofs.lemmas.List.Sorted.{IsPermutation-refl, IsPermutation-trans}
use Rattle.held_pictures.specs.Accounts.{pictures_of}
use Rattle.std.proofs.lemmas.List.{take_all}
use Rattle.held_pictures.specs.Counting.{times_in}
use Rattle.held_pictures.specs.KeySlots.{uses_at, place_at}
use Rattle.held_pictures.proofs.Going.{none_gone, gone_more, times_in_more, in_use_yet, lost_at_most_one}
use Rattle.held_pictures.proofs.key_slots.using.let_go_all.Goals as goal

pub loop-key-init : goal.loop-key-init
loop-key-init g c = record {
  uses = λ number. omega arith;
  stay = λ number used. refl;
  gone = λ held before. none_gone held c.args.leaving.now c.args.key_slots.now before c.args.cache.now.capacity (keys_of c.args.cache.now.pairs);
  few = omega arith;
  capacity = refl;
  those = λ number picture is. inl is;
  accounts = IsPermutation-refl (pictures_of c.args.key_slots.now c.args.cache.now.pairs c.args.released.now.items);
  most = omega arith;
  spare = refl;
}

pub let_go-lost-requires-clause-used : goal.let_go-lost-requires-clause-used
let_go-lost-requires-clause-used g c =
    in_use_yet c.args.leaving.now c.loop-key.key-index c.key-item.result (uses_at c.loop-key.key_slots c.key-item.result)
    (uses_at c.args.key_slots.now c.key-item.result) c.loop-key-test.true c.key-item.is (c.loop-key.invariant.uses c.key-item.result)
    (c.requires.enough c.key-item.result)

pub loop-key-preserved : goal.loop-key-preserved
loop-key-preserved g c =
    let leaving = c.args.leaving.now in
    let i = c.loop-key.key-index in
    let key = c.key-item.result in
    let old = c.args.key_slots.now in
    let mid = c.loop-key.key_slots in
    let new = c.let_go-lost.new.key_slots in
    let used : 0 < uses_at mid key =
    in_use_yet leaving i key (uses_at mid key) (uses_at old key) c.loop-key-test.true c.key-item.is (c.loop-key.invariant.uses key)
    (c.requires.enough key) in
    let goes = rw (c.loop-key.invariant.capacity) at c.let_go-lost.ensures.goes in
    record {
      uses = λ number.
          omega (
            arith,
            goes.uses number,
            c.loop-key.invariant.uses number,
            times_in_more leaving i number key c.loop-key-test.true c.key-item.is,
          );
      stay = λ number some.
          goes.stay number some
          ∙ c.loop-key.invariant.stay number (omega (arith, some, goes.uses number));
      gone = λ held before.
          gone_more held leaving old before i key c.loop-key-test.true c.key-item.is c.requires.rising mid new
          c.loop-key.invariant.stay used c.args.cache.now.capacity (keys_of c.args.cache.now.pairs) (keys_of c.loop-key.cache.pairs)
          (keys_of c.let_go-lost.new.cache.pairs) c.loop-key.lost c.let_go-lost.result goes (c.loop-key.invariant.gone held before);
      few =
          omega (
            arith,
            c.loop-key.invariant.few,
            lost_at_most_one mid key (keys_of c.loop-key.cache.pairs) c.args.cache.now.capacity new (keys_of c.let_go-lost.new.cache.pairs)
                c.let_go-lost.result goes,
          );
      capacity = c.let_go-lost.ensures.capacity ∙ c.loop-key.invariant.capacity;
      those = λ number picture is.
          elim (c.let_go-lost.ensures.those number picture is) [
            | inl between ↦
                elim (c.loop-key.invariant.those number picture between) [
                  | inl before ↦ inl before
                  | inr gone ↦ inr (gone.0, omega (arith, gone.1, goes.uses number))
                ]
            | inr gone ↦ inr (
              subst (λ n. place_at old n ≡ Some (Some picture)) (sym gone.0) (sym (c.loop-key.invariant.stay key used) ∙ gone.1),
              subst (λ n. uses_at new n ≡ 0) (sym gone.0) gone.2,
            )
          ];
      accounts =
          IsPermutation-trans (pictures_of old c.args.cache.now.pairs c.args.released.now.items)
          (pictures_of mid c.loop-key.cache.pairs c.loop-key.released.items)
          (pictures_of new c.let_go-lost.new.cache.pairs c.let_go-lost.new.released.items)
          c.loop-key.invariant.accounts c.let_go-lost.ensures.accounts;
      most = omega (arith, c.loop-key.invariant.most, c.let_go-lost.ensures.few);
      spare = c.let_go-lost.ensures.spare ∙ c.loop-key.invariant.spare;
    }

pub returns-clause-uses : goal.returns-clause-uses
returns-clause-uses g c = λ number.
    subst (λ keys. uses_at c.loop-key.key_slots number + times_in number keys ≡ uses_at c.args.key_slots.now number)
    (take_all c.loop-key.key-index c.args.leaving.now c.loop-key-test.false) (c.loop-key.invariant.uses number)

pub returns-clause-gone : goal.returns-clause-gone
returns-clause-gone g c = λ held before.
    let gone = c.loop-key.invariant.gone held before in
    (gone.gone, gone.left, gone.put)
