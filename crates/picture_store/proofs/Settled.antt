-- Units that need no job.
use Rattle.std.proofs.Common.{◌≡◌, refl, ap, ℕ, zero, suc, ◌≤◌, List, [], ◌∷◌, ◌++◌, length, take, drop, Bool, true, false, ◌==◌, Option, None, Some, IsSome, if◌then◌else◌, inl, inr, ◌⊎◌, subst, sym, ◌∙◌, take-append-drop, arith, rules}
use Rattle.std.specs.Prelude.{All, Contains, remove, slice_index_or}
use Rattle.std.proofs.lemmas.Bool.{eqb-true, eq-eqb}
use Rattle.std.specs.Map.{lookup}
use Rattle.std.proofs.lemmas.List.{map-append, append-nil, length-append, length-take-le}
use Rattle.std.proofs.lemmas.List.Elements.{All-take, Contains-append_left, Contains-get_or}
use Rattle.unit_outcomes.specs.declared.outcome.Outcome.{Outcome}
use Rattle.picture_store.specs.declared.answers.Landing.{Landing}
use Rattle.picture_store.specs.declared.answers.Landing.TheVariants.{Taken, Stale, Foreign}
use Rattle.picture_store.specs.declared.job_out.JobOut.{JobOut}
use Rattle.held_pictures.specs.KeySlots.{place_at}
use Rattle.picture_store.specs.KeySlots.{KeySlotsValue, ArePlaced, held_or}
use Rattle.picture_store.specs.Filling.{IsFilled}
use Rattle.picture_store.specs.Stored.{Trees, numbers_out, IsSound}
use Rattle.picture_store.specs.Due.{IsHeld, IsNotDue}
use Rattle.picture_store.specs.Settled.{NeedsNone, AreSettled}
use Rattle.held_pictures.proofs.Members.{here, there, nowhere, first_or_among}
use Rattle.decode_jobs.specs.Inputs.{InputValue}
use Rattle.decode_jobs.specs.Keys.{Key}

two_places : {P : Type 0} (o : Option (Option P)) (picture : P) → o ≡ Some (Some picture) → o ≡ Some None → ⊥
two_places o picture held awaited = cc

-- what needs no job isn't due
pub not_due : {P : Type 0} (keys : Trees) (key_slots : KeySlotsValue P) (out : List (JobOut P)) (number : Option ℕ) → NeedsNone key_slots out number
    → IsNotDue keys key_slots out number
not_due keys key_slots out None needs = search rules
not_due keys key_slots out (Some number) needs = λ due. elim needs [
  | inl held ↦ two_places (place_at key_slots number) held.0 held.1 due.awaited
  | inr is ↦ due.free is
]

-- so none of those that are settled is
pub none_due_before : {P : Type 0} (keys : Trees) (key_slots : KeySlotsValue P) (out : List (JobOut P)) (numbers : List (Option ℕ)) (count : ℕ)
    → AreSettled key_slots out numbers count → All (IsNotDue keys key_slots out) (take count numbers)
none_due_before keys key_slots out numbers count are = λ k d within. not_due keys key_slots out _ (are.1 k d within)

-- none is settled before the first unit
pub none_settled : {P : Type 0} (key_slots : KeySlotsValue P) (out : List (JobOut P)) (numbers : List (Option ℕ)) → AreSettled key_slots out numbers 0
none_settled key_slots out numbers = (omega arith, λ k d within. absurd (omega (arith, within)))

-- what needs no job needs none where it stays so for each unit
pub settled_stay : {P : Type 0} (key_slots more : KeySlotsValue P) (out left : List (JobOut P)) (numbers : List (Option ℕ)) (count : ℕ)
    → ((number : Option ℕ) → Contains numbers number → NeedsNone key_slots out number → NeedsNone more left number)
    → AreSettled key_slots out numbers count → AreSettled more left numbers count
settled_stay key_slots more out left numbers count stays are = (
  are.0,
  λ k d within.
      stays _ (Contains-take numbers count _ (Contains-get_or (take count numbers) k d within)) (are.1 k d within),
)
  where
    Contains-take : (xs : List (Option ℕ)) (n : ℕ) (x : Option ℕ) → Contains (take n xs) x → Contains xs x
    Contains-take xs n x is =
        subst (λ ys. Contains ys x) (take-append-drop n xs) (Contains-append_left (take n xs) (drop n xs) x is)

held_still : {P : Type 0} (b : Bool) (place : Option (Option P)) (new held : P) → place ≡ Some (Some held)
    → (picture : P) × ((if b then Some (Some new) else place) ≡ Some (Some picture))
held_still true place new held is = (new, refl)
held_still false place new held is = (held, is)

held_place : {P : Type 0} (place : Option (Option P)) → IsSome place → (place ≡ Some None → ⊥)
    → (picture : P) × (place ≡ Some (Some picture))
held_place None some not = cc
held_place (Some None) some not = absurd (not refl)
held_place (Some (Some picture)) some not = (picture, refl)

-- a job of another key is out still
pub out_still : {P : Type 0} (out : List (JobOut P)) (at number : ℕ) (other : JobOut P) → other ≡ slice_index_or out at other
    → (other.key ≡ number → ⊥) → Contains (numbers_out out) number → Contains (numbers_out (remove out at)) number
out_still [] at number other stands not is = absurd (nowhere number is)
out_still {P = P} (first ∷ out) zero number other stands not is =
    elim (first_or_among first.key number (numbers_out out) is) [
      | inl same ↦ absurd (not (ap (λ (job : JobOut P). job.key) stands ∙ same))
      | inr later ↦ later
    ]
out_still (first ∷ out) (suc at) number other stands not is =
    elim (first_or_among first.key number (numbers_out out) is) [
      | inl same ↦
          subst (λ n. Contains (first.key ∷ numbers_out (remove out at)) n) same (here first.key (numbers_out (remove out at)))
      | inr later ↦
          there first.key number (numbers_out (remove out at)) (out_still out at number other stands not later)
    ]

not_same : (a b : ℕ) → false ≡ (a == b) → a ≡ b → ⊥
not_same a b differ same =
    let yes : (a == b) ≡ true = eq-eqb a b same in
    cc

-- a job more
pub settled_more : {P : Type 0} (key_slots : KeySlotsValue P) (out : List (JobOut P)) (job : JobOut P) (more : List (JobOut P)) (numbers : List (Option ℕ)) (count : ℕ)
    → more ≡ out ++ job ∷ [] → AreSettled key_slots out numbers count → AreSettled key_slots more numbers count
settled_more {P = P} key_slots out job more numbers count is are =
    subst (λ jobs. AreSettled key_slots jobs numbers count) (sym is) (settled_stay key_slots key_slots out (out ++ job ∷ []) numbers count stays are)
  where
    stays : (number : Option ℕ) → Contains numbers number → NeedsNone key_slots out number → NeedsNone key_slots (out ++ job ∷ []) number
    stays None among needs = search rules
    stays (Some number) among needs = elim needs [
      | inl held ↦ inl held
      | inr one ↦
          inr (subst (λ keys. Contains keys number) (sym (map-append (λ (j : JobOut P). j.key) out (job ∷ [])))
          (Contains-append_left (numbers_out out) (numbers_out (job ∷ [])) number one))
    ]

module _ {P : Type 0} {IsDecoded : InputValue P → P → Type 0} {IsOf : Key → P → Type 0} (keys : Trees) (ids : List ℕ) (outcomes : List Outcome) (numbers : List (Option ℕ)) (key_slots : KeySlotsValue P)
    (cached : List (ℕ × P)) (out : List (JobOut P)) (kept : IsSound IsDecoded IsOf keys ids outcomes numbers key_slots cached out)
    (at : ℕ) (other : JobOut P) (stands : other ≡ slice_index_or out at other) where
  module _ (more : KeySlotsValue P) (holds : (number : ℕ) → IsHeld key_slots number → IsHeld more number)
      (new : Contains numbers (Some other.key) → IsHeld more other.key) where
    stays_there : (b : Bool) (number : ℕ) → b ≡ (other.key == number) → Contains numbers (Some number)
        → IsHeld key_slots number ⊎ Contains (numbers_out out) number
        → IsHeld more number ⊎ Contains (numbers_out (remove out at)) number
    stays_there true number same among needs =
        let one : other.key ≡ number = eqb-true other.key number (sym same) in
        inl (subst (IsHeld more) one (new (subst (λ n. Contains numbers (Some n)) (sym one) among)))
    stays_there false number same among needs = elim needs [
      | inl held ↦ inl (holds number held)
      | inr one ↦ inr (out_still out at number other stands (not_same other.key number same) one)
    ]

    stays : (number : Option ℕ) → Contains numbers number → NeedsNone key_slots out number → NeedsNone more (remove out at) number
    stays None among needs = search rules
    stays (Some number) among needs = stays_there (other.key == number) number refl among needs

  -- a job that lands
  pub settled_landed : (picture : P) (landing : Landing) (more : KeySlotsValue P) (left : List (JobOut P)) (count : ℕ)
      → left ≡ remove out at → IsFilled key_slots other.key picture landing more
      → AreSettled key_slots out numbers count → AreSettled more left numbers count
  settled_landed picture Foreign more left count gone filled are = absurd filled
  settled_landed picture Stale more left count gone filled are =
      subst (λ jobs. AreSettled more jobs numbers count) (sym gone)
      (subst (λ p. AreSettled p (remove out at) numbers count) (sym filled.1)
      (settled_stay key_slots key_slots out (remove out at) numbers count
      (stays key_slots (λ number held. held)
      (λ among. held_place (place_at key_slots other.key) ((kept.used other.key).1 among) filled.0)) are))
  settled_landed picture Taken more left count gone filled are =
      subst (λ jobs. AreSettled more jobs numbers count) (sym gone)
      (settled_stay key_slots more out (remove out at) numbers count
      (stays more
      (λ number held.
      let still : (p : P) × ((if other.key == number then Some (Some picture) else place_at key_slots number) ≡ Some (Some p)) =
      held_still (other.key == number) (place_at key_slots number) picture held.0 held.1 in
      (still.0, filled.1 number ∙ still.1))
      (λ among. (
        picture,
        filled.1 other.key
            ∙ ap (λ b. if b then Some (Some picture) else place_at key_slots other.key) (eq-eqb other.key other.key refl),
      ))) are)

-- the first units of a list, where what comes after some more of them changes
take_front : {A : Type 0} (m n : ℕ) (xs ys : List A) → m ≤ n → n ≤ length xs → take m (take n xs ++ ys) ≡ take m xs
take_front zero n xs ys below within = refl
take_front (suc m) zero xs ys below within = absurd (omega (arith, below))
take_front (suc m) (suc n) [] ys below within = absurd (omega (arith, within))
take_front (suc m) (suc n) (x ∷ xs) ys below within =
    ap (λ rest. x ∷ rest) (take_front m n xs ys (omega (arith, below)) (omega (arith, within)))

-- of the units in front of a place as many need none as before, where pictures that were held stay
-- held
pub settled_front : {P : Type 0} (key_slots more : KeySlotsValue P) (cached : List (ℕ × P)) (out : List (JobOut P)) (numbers later : List (Option ℕ))
    (count from least : ℕ) → least ≤ count → least ≤ from → from ≤ length numbers → AreSettled key_slots out numbers count
    → ArePlaced (take from numbers ++ later) key_slots cached more → AreSettled more out (take from numbers ++ later) least
settled_front {P = P} key_slots more cached out numbers later count from least in_count in_front within are placed =
    settled_stay key_slots more out out (take from numbers ++ later) least stays
    (omega (arith, in_front, within, length-append (take from numbers) later, length-take-le from numbers within), still)
  where
    fewer : All (NeedsNone key_slots out) (take least (take count numbers ++ []))
    fewer =
        All-take (NeedsNone key_slots out) least (take count numbers ++ [])
        (subst (All (NeedsNone key_slots out)) (sym (append-nil (take count numbers))) are.1)

    still : All (NeedsNone key_slots out) (take least (take from numbers ++ later))
    still =
        subst (All (NeedsNone key_slots out))
        (take_front least count numbers [] in_count are.0 ∙ sym (take_front least from numbers later in_front within)) fewer

    carries : (place other : Option (Option P)) (cached : Option P) (held : P) → place ≡ Some (Some held)
        → other ≡ Some (held_or place cached) → (picture : P) × (other ≡ Some (Some picture))
    carries None other cached held is carried = absurd cc
    carries (Some None) other cached held is carried = absurd cc
    carries (Some (Some picture)) other cached held is carried = (picture, carried)

    stays : (number : Option ℕ) → Contains (take from numbers ++ later) number → NeedsNone key_slots out number
        → NeedsNone more out number
    stays None among needs = search rules
    stays (Some number) among needs = elim needs [
      | inl held ↦
          inl (elim (placed number) [
            | inl used ↦
                carries (place_at key_slots number) (place_at more number) (lookup (λ other. number == other) cached) held.0 held.1 used.1
            | inr unused ↦ absurd (unused.0 among)
          ])
      | inr one ↦ inr one
    ]
