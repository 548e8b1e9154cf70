use Rattle.std.proofs.Common.{refl, sym, subst, ◌∙◌, Some, take, arith}
use Rattle.std.specs.Prelude.{Contains}
use Rattle.std.specs.Map.{keys_of}
use Rattle.std.proofs.lemmas.List.{take_all, length-take-le}
use Rattle.std.proofs.lemmas.List.Sorted.{IsPermutation-refl, IsPermutation-trans}
use Rattle.held_pictures.specs.Accounts.{pictures_kept}
use Rattle.held_pictures.specs.Counting.{times, once_at}
use Rattle.held_pictures.specs.Left.{IsLeft}
use Rattle.held_pictures.specs.KeySlots.{IsTakenUp}
use Rattle.held_pictures.proofs.Apart.{apart_after}
use Rattle.held_pictures.proofs.Counts.{once_named}
use Rattle.held_pictures.proofs.Members.{nowhere}
use Rattle.held_pictures.proofs.Taking.{none_up, up_twice, times_more, times_at_most, item_in}
use Rattle.held_pictures.proofs.Turns.{none_goes, left_more}
use Rattle.held_pictures.proofs.key_slots.using.take_up_all.Goals as goal

pub loop-key-init : goal.loop-key-init
loop-key-init g c = record {
  up = λ number. none_up c.args.key_slots.now c.args.cache.now.pairs number;
  long = refl;
  left = none_goes _ (keys_of c.args.cache.now.pairs) (λ n is. nowhere (Some n) is);
  capacity = refl;
  those = λ number picture is. is;
  found = λ number none. refl;
  accounts = λ apart. IsPermutation-refl (pictures_kept c.args.key_slots.now c.args.cache.now.pairs);
}

pub take_up-requires-clause-capacity : goal.take_up-requires-clause-capacity
take_up-requires-clause-capacity g c = λ number named.
    omega (
      arith,
      c.loop-key.invariant.long,
      c.requires.capacity number
          (item_in c.args.keys.now c.loop-key.key-index c.key-item.result (Some number) c.loop-key-test.true c.key-item.is named),
    )

pub take_up-requires-clause-fits : goal.take_up-requires-clause-fits
take_up-requires-clause-fits g c = λ number.
    omega (
      arith,
      c.requires.fits number,
      (c.loop-key.invariant.up number).uses,
      times_at_most number (take c.loop-key.key-index c.args.keys.now),
      length-take-le c.loop-key.key-index c.args.keys.now (omega (arith, c.loop-key-test.true)),
      c.loop-key-test.true,
    )

pub loop-key-preserved : goal.loop-key-preserved
loop-key-preserved g c =
    let old = c.args.key_slots.now in
    let cached = c.args.cache.now.pairs in
    let keys = c.args.keys.now in
    let i = c.loop-key.key-index in
    let key = c.key-item.result in
    let mid = c.loop-key.key_slots in
    let left = c.loop-key.cache.pairs in
    let was = c.loop-key.invariant in
    record {
      up = λ number.
          subst (λ n. IsTakenUp old cached n c.take_up.new.key_slots number)
          (sym (times_more keys i number key c.loop-key-test.true c.key-item.is))
          (up_twice old mid c.take_up.new.key_slots cached left (times number (take i keys)) (once_at number key) number
          (was.up number) (c.take_up.ensures.up number) (was.found number));
      long = c.take_up.ensures.long ∙ was.long;
      left =
          left_more keys i key (keys_of cached) (keys_of left) (keys_of c.take_up.new.cache.pairs) c.loop-key-test.true
          c.key-item.is was.left c.take_up.ensures.left;
      capacity = c.take_up.ensures.capacity ∙ was.capacity;
      those = λ number picture is. was.those number picture (c.take_up.ensures.those number picture is);
      found = λ number none.
          let more = times_more keys i number key c.loop-key-test.true c.key-item.is in
          c.take_up.ensures.others number (λ named. absurd (omega (arith, none, more, once_named number key named)))
          ∙ was.found number (omega (arith, none, more));
      accounts = λ apart.
          IsPermutation-trans (pictures_kept old cached) (pictures_kept mid left)
          (pictures_kept c.take_up.new.key_slots c.take_up.new.cache.pairs) (was.accounts apart)
          (c.take_up.ensures.accounts (apart_after old mid cached left (take i keys) apart was.up was.left));
    }

pub returns-clause-up : goal.returns-clause-up
returns-clause-up g c = λ number.
    subst (λ keys. IsTakenUp c.args.key_slots.now c.args.cache.now.pairs (times number keys) c.loop-key.key_slots number)
    (take_all c.loop-key.key-index c.args.keys.now c.loop-key-test.false) (c.loop-key.invariant.up number)

pub returns-clause-left : goal.returns-clause-left
returns-clause-left g c =
    subst (λ keys. IsLeft (λ n. Contains keys (Some n)) (keys_of c.args.cache.now.pairs) (keys_of c.loop-key.cache.pairs))
    (take_all c.loop-key.key-index c.args.keys.now c.loop-key-test.false) c.loop-key.invariant.left
