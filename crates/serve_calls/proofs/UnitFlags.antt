-- What is told of a unit more.
use Rattle.std.proofs.Common.{◌≡◌, ◌∙◌, List, [], ◌∷◌, ◌++◌, ℕ, Option, ap, ap₂, refl, rules, sym, Some}
use Rattle.std.proofs.lemmas.List.{map-append}
use Rattle.std.proofs.lemmas.List.Elements.{All-push, filter_map-append}
use Rattle.stand_in_device.specs.declared.picture.Picture.{Picture}
use Rattle.edit_script.specs.Words.{id_of}
use Rattle.stand_in_session.specs.Showing.{Shown}
use Rattle.stand_in_session.specs.Machines.{Machine}
use Rattle.stand_in_session.specs.Showing.{Shows}
use Rattle.serve_calls.specs.declared.wanted_units.WantedUnit.{WantedUnit}
use Rattle.serve_answers.specs.declared.answer.Picked.{Picked}
use Rattle.serve_calls.specs.declared.wanting.WantedNow.{WantedNow}
use Rattle.serve_calls.specs.Lists.{listed}
use Rattle.serve_calls.specs.Wanting.{IsTold, Seen, TellsOf, TellsOne, not_now_of, picture_of, ready_of, told_of}

-- each list grows by what is told of it
pub tells_one : (old new : WantedNow) (it : Seen) (ready : Option Picked) (not_now : Option ℕ) (told : Option Picture)
    → ready ≡ ready_of it → not_now ≡ not_now_of it → told ≡ picture_of it.1
    → new.ready.items ≡ old.ready.items ++ listed ready → new.not_now.items ≡ old.not_now.items ++ listed not_now
    → new.units.items ≡ old.units.items ++ record { number = it.0; told = told; seen = Some it.1 } ∷ [] → TellsOne old it new
tells_one old new it ready not_now told is_ready is_not_now is_told adds_ready adds_not_now adds_unit = λ seen before. record {
  ready = adds_ready ∙ ap₂ (λ items more. items ++ listed more) before.ready is_ready
      ∙ sym (filter_map-append ready_of seen (it ∷ []));
  not_now = adds_not_now ∙ ap₂ (λ items more. items ++ listed more) before.not_now is_not_now
      ∙ sym (filter_map-append not_now_of seen (it ∷ []));
  units = adds_unit ∙ ap₂ (λ items more. items ++ record { number = it.0; told = more; seen = Some it.1 } ∷ []) before.units is_told
      ∙ sym (map-append told_of seen (it ∷ []));
}

-- a unit more that is seen and told of
pub tells_more : (machine : Machine) (units : List WantedUnit) (unit : WantedUnit) (it : Shown) (old new : WantedNow)
    → TellsOf machine units old → Shows machine (id_of unit.number) it → TellsOne old (unit.number, it) new
    → TellsOf machine (units ++ unit ∷ []) new
tells_more machine units unit it old new of shows one = record {
  seen = of.seen ++ (unit.number, it) ∷ [];
  are = (
    map-append (λ (seen : Seen). seen.0) of.seen ((unit.number, it) ∷ []) ∙ ap (λ numbers. numbers ++ unit.number ∷ []) of.are.0
        ∙ sym (map-append (λ (wanted : WantedUnit). wanted.number) units (unit ∷ [])),
    All-push (λ (seen : Seen). Shows machine (id_of seen.0) seen.1) of.seen (unit.number, it) of.are.1 shows,
  );
  is_told = one of.seen of.is_told;
}

-- before the first unit nothing is seen
pub tells_none : (machine : Machine) (told : WantedNow) → IsTold [] told → TellsOf machine [] told
tells_none machine told is = record { seen = []; are = (refl, search rules); is_told = is }
