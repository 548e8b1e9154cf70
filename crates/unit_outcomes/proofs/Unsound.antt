-- Entries of lists that aren't all sound.
use Rattle.std.proofs.Common.{◌≡◌, sym, ◌∙◌, ap, ℕ, Bool, true, false, List, [], ◌∷◌, Option, Contains, inl, inr, arith}
use Rattle.std.specs.List.{list_all}
use Rattle.std.proofs.lemmas.Bool.{and_cases, and_parts, true≢false}
use Rattle.std.proofs.lemmas.List.Elements.{Contains-append_cases, Contains-append_left, Contains-append_right, Contains-push, Contains-push_cases}
use Rattle.h264_controls.specs.declared.request.Request.{Request}
use Rattle.unit_outcomes.specs.declared.outcome.Outcome.{Outcome}
use Rattle.unit_outcomes.specs.declared.outcome.Outcome.TheVariants as outcomes
use Rattle.unit_outcomes.specs.declared.outcome.Plan.{Plan}
use Rattle.unit_outcomes.specs.Entries.{HasEntry, named_unit}
use Rattle.unit_outcomes.specs.Walks.{is_sound, list_is_sound, names_sound, slice_is_sound}

-- an empty list has no element
nowhere : {X : Type 0} (x : X) → Contains [] x → ⊥
nowhere x is = omega (arith, is.1)

-- where a test fails for a list, it fails at an element
pub not_all : {X : Type 0} (test : X → Bool) (xs : List X) → list_all test xs ≡ false → (x : X) × Contains xs x × (test x ≡ false)
not_all test [] fails = absurd (true≢false fails)
not_all test (x ∷ xs) fails = elim (and_cases (test x) (list_all test xs) fails) [
  | inl here ↦ (x, Contains-append_left (x ∷ []) xs x (Contains-push [] x), here)
  | inr later ↦
      let found = not_all test xs later in
      (found.0, Contains-append_right (x ∷ []) xs found.0 found.1, found.2)
]

-- where a test passes for a list, it passes at each element
pub all_pass : {X : Type 0} (test : X → Bool) (xs : List X) (x : X) → list_all test xs ≡ true → Contains xs x → test x ≡ true
all_pass test [] x holds among = absurd (nowhere x among)
all_pass test (y ∷ ys) x holds among =
    let parts = and_parts (test y) (list_all test ys) holds in
    elim (Contains-append_cases (y ∷ []) ys x among) [
      | inl first ↦ elim (Contains-push_cases [] y x first) [
        | inl there ↦ absurd (nowhere x there)
        | inr same ↦ ap test (sym same) ∙ parts.0
      ]
      | inr later ↦ all_pass test ys x parts.1 later
    ]

module _ (sound : ℕ → Bool) where
  -- an entry of a slice that isn't sound
  pub record Unsound (request : Request) : Type 0 where
    pub named : Option ℕ
    pub entry : HasEntry request named
    pub unsound : is_sound sound named ≡ false

  slice_unsound : (request : Request) → slice_is_sound sound request ≡ false → Unsound request
  slice_unsound request fails =
      let units = request.references in
      let zero = request.body.controls.slice_params.ref_pic_list0 in
      let one = request.body.controls.slice_params.ref_pic_list1 in
      let test = λ (entry : Option ℕ). is_sound sound (named_unit units entry) in
      elim (and_cases (list_is_sound sound units zero) (list_is_sound sound units one) fails) [
        | inl first ↦
            let found = not_all test zero first in
            record {
              named = named_unit units found.0;
              entry = record { entry = found.0; listed = inl found.1; names = refl_at (named_unit units found.0) };
              unsound = found.2;
            }
        | inr second ↦
            let found = not_all test one second in
            record {
              named = named_unit units found.0;
              entry = record { entry = found.0; listed = inr found.1; names = refl_at (named_unit units found.0) };
              unsound = found.2;
            }
      ]
    where
      refl_at : (named : Option ℕ) → named ≡ named
      refl_at named = cc

  -- a unit whose entries aren't all sound is valid, and an entry of a slice of it isn't sound
  pub unsound_entry : (outcome : Outcome) → names_sound sound outcome ≡ false
      → (plan : Plan) × (outcome ≡ outcomes.Plan plan) × ((request : Request) × Contains plan.requests request × Unsound request)
  unsound_entry (outcomes.Plan plan) fails =
      let found = not_all (slice_is_sound sound) plan.requests fails in
      (plan, same (outcomes.Plan plan), (found.0, found.1, slice_unsound found.0 found.2))
    where
      same : (outcome : Outcome) → outcome ≡ outcome
      same outcome = cc
  unsound_entry (outcomes.Fault fault) fails = absurd (true≢false fails)
  unsound_entry outcomes.Empty fails = absurd (true≢false fails)

  -- where all entries of a unit are sound, what an entry names is sound
  pub sound_entry : (plan : Plan) (request : Request) (named : Option ℕ) → names_sound sound (outcomes.Plan plan) ≡ true
      → Contains plan.requests request → HasEntry request named → is_sound sound named ≡ true
  sound_entry plan request named holds among has =
      let units = request.references in
      let zero = request.body.controls.slice_params.ref_pic_list0 in
      let one = request.body.controls.slice_params.ref_pic_list1 in
      let test = λ (entry : Option ℕ). is_sound sound (named_unit units entry) in
      let slice = all_pass (slice_is_sound sound) plan.requests request holds among in
      let parts = and_parts (list_is_sound sound units zero) (list_is_sound sound units one) slice in
      ap (is_sound sound) (sym has.names) ∙ elim has.listed [
        | inl first ↦ all_pass test zero has.entry parts.0 first
        | inr second ↦ all_pass test one has.entry parts.1 second
      ]
