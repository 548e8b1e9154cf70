-- The key that is known of an id: that of the last valid unit that has it.
use Rattle.std.proofs.Common.{◌≡◌, refl, sym, ap, ◌∙◌, subst, ℕ, zero, suc, ◌<◌, ◌==◌, Bool, true, false, cond, List, [], ◌∷◌, take, Some, inl, inr, ◌⊎◌, slice_get, arith}
use Rattle.std.proofs.lemmas.Bool.{eqb-true, eq-eqb}
use Rattle.std.proofs.lemmas.Option.{none-some, same_Some}
use Rattle.unit_outcomes.specs.declared.outcome.Outcome.{Outcome}
use Rattle.unit_outcomes.specs.declared.outcome.Outcome.TheVariants.{Plan as Planned, Fault as Faulty, Empty}
use Rattle.unit_outcomes.specs.declared.outcome.Plan.{Plan}
use Rattle.decode_jobs.specs.Keys.{Key}
use Rattle.picture_keys.specs.Known.{Known, key_at, key_of, key_of_outcome, known_with, known_after, keys_after}
use Rattle.held_pictures.specs.Needed.{IsValid}

-- below a place, no valid unit from here on has the id
abbrev pub AreOthers : List (ℕ × Outcome) → ℕ → ℕ → ℕ → Type 0
AreOthers units from to id = (place : ℕ) → from < place → place < to → IsValid units place id → ⊥

-- the last of so many units that is valid and has the id has this key
pub record IsLastOf (known : Known) (units : List (ℕ × Outcome)) (count id : ℕ) (key : Key) : Type 0 where
  pub at : ℕ
  pub before : at < count
  pub valid : IsValid units at id
  pub key_is : slice_get (keys_after known units) at ≡ Some (Some key)
  pub last : AreOthers units at count id

-- of so many units none is valid and has the id
abbrev pub AreNone : List (ℕ × Outcome) → ℕ → ℕ → Type 0
AreNone units count id = (place : ℕ) → place < count → IsValid units place id → ⊥

-- a unit that isn't there isn't valid
pub nothing_valid : (place id : ℕ) → IsValid [] place id → ⊥
nothing_valid place id (plan, is) = none-some (id, Planned plan) is

-- a unit in front
later_valid : (unit : ℕ × Outcome) (units : List (ℕ × Outcome)) (place id : ℕ) → IsValid (unit ∷ units) (suc place) id
    → IsValid units place id
later_valid unit units place id (plan, is) = (plan, is)

none_more : (unit : ℕ × Outcome) (units : List (ℕ × Outcome)) (count id : ℕ)
    → (IsValid (unit ∷ units) zero id → ⊥) → AreNone units count id → AreNone (unit ∷ units) (suc count) id
none_more unit units count id not none zero below valid = not valid
none_more unit units count id not none (suc place) below valid = none place (omega (arith, below)) valid

-- the first unit is the one with the id, or it isn't
own_or : (b : Bool) (known : Known) (own : ℕ) (plan : Plan) (units : List (ℕ × Outcome)) (count id : ℕ) (key : Key)
    → b ≡ (own == id) → cond b (Some (key_of known plan.requests)) (key_at known id) ≡ Some key
    → AreNone units count id
    → IsLastOf known ((own, Planned plan) ∷ units) (suc count) id key
    ⊎ ((key_at known id ≡ Some key) × AreNone ((own, Planned plan) ∷ units) (suc count) id)
own_or true known own plan units count id key is there none =
    let same : own ≡ id = eqb-true own id (sym is) in
    inl (record {
      at = zero;
      before = omega arith;
      valid = (plan, ap (λ n. Some (n, Planned plan)) same);
      key_is = ap Some there;
      last = λ place above below valid. last_place place above below valid;
    })
  where
    last_place : AreOthers ((own, Planned plan) ∷ units) zero (suc count) id
    last_place zero above below valid = absurd (omega (arith, above))
    last_place (suc place) above below valid = none place (omega (arith, below)) valid
own_or false known own plan units count id key is there none =
    inr (there, none_more (own, Planned plan) units count id not_own none)
  where
    not_own : IsValid ((own, Planned plan) ∷ units) zero id → ⊥
    not_own (other, valid) =
        let same : own ≡ id = ap (λ (unit : ℕ × Outcome). unit.0) (same_Some (own, Planned plan) (id, Planned other) valid) in
        let yes : (own == id) ≡ true = eq-eqb own id same in
        cc

not_faulty : (own id : ℕ) (plan : Plan) (outcome : Outcome) (units : List (ℕ × Outcome)) → (outcome ≡ Planned plan → ⊥)
    → slice_get ((own, outcome) ∷ units) zero ≡ Some (id, Planned plan) → ⊥
not_faulty own id plan outcome units not is =
    not (ap (λ (unit : ℕ × Outcome). unit.1) (same_Some (own, outcome) (id, Planned plan) is))

later_last : (known : Known) (own : ℕ) (outcome : Outcome) (units : List (ℕ × Outcome)) (count id : ℕ) (key : Key)
    → IsLastOf (known_with known own (key_of_outcome known outcome)) units count id key
    → IsLastOf known ((own, outcome) ∷ units) (suc count) id key
later_last known own outcome units count id key is = record {
  at = suc is.at;
  before = omega (arith, is.before);
  valid = is.valid;
  key_is = is.key_is;
  last = last_place;
}
  where
    last_place : AreOthers ((own, outcome) ∷ units) (suc is.at) (suc count) id
    last_place zero above below valid = absurd (omega (arith, above))
    last_place (suc place) above below valid = is.last place (omega (arith, above)) (omega (arith, below)) valid

-- a key that is known after so many units is that of the last valid one of them that has the id, or
-- was known before
pub known_of : (known : Known) (units : List (ℕ × Outcome)) (count id : ℕ) (key : Key)
    → key_at (known_after known (take count units)) id ≡ Some key
    → IsLastOf known units count id key ⊎ ((key_at known id ≡ Some key) × AreNone units count id)
known_of known units zero id key there = inr (there, λ place below valid. absurd (omega (arith, below)))
known_of known [] (suc count) id key there = inr (there, λ place below valid. nothing_valid place id valid)
known_of known ((own, Planned plan) ∷ units) (suc count) id key there =
    elim (known_of (known_with known own (key_of_outcome known (Planned plan))) units count id key there) [
      | inl is ↦ inl (later_last known own (Planned plan) units count id key is)
      | inr before ↦ own_or (own == id) known own plan units count id key refl before.0 before.1
    ]
known_of known ((own, Faulty fault) ∷ units) (suc count) id key there =
    elim (known_of known units count id key there) [
      | inl is ↦ inl (later_last known own (Faulty fault) units count id key is)
      | inr before ↦ inr (
        before.0,
        none_more (own, Faulty fault) units count id
            (λ valid. not_faulty own id valid.0 (Faulty fault) units (λ same. cc) valid.1) before.1,
      )
    ]
known_of known ((own, Empty) ∷ units) (suc count) id key there =
    elim (known_of known units count id key there) [
      | inl is ↦ inl (later_last known own Empty units count id key is)
      | inr before ↦ inr (
        before.0,
        none_more (own, Empty) units count id (λ valid. not_faulty own id valid.0 Empty units (λ same. cc) valid.1) before.1,
      )
    ]

-- what is known of an id stays over units of which none is valid and has it
other_stays : (b : Bool) (known : Known) (own : ℕ) (plan : Plan) (units : List (ℕ × Outcome)) (id : ℕ) → b ≡ (own == id)
    → (IsValid ((own, Planned plan) ∷ units) zero id → ⊥)
    → cond b (Some (key_of known plan.requests)) (key_at known id) ≡ key_at known id
other_stays true known own plan units id is not =
    absurd (not (plan, ap (λ n. Some (n, Planned plan)) (eqb-true own id (sym is))))
other_stays false known own plan units id is not = refl

none_later : (unit : ℕ × Outcome) (units : List (ℕ × Outcome)) (count id : ℕ) → AreNone (unit ∷ units) (suc count) id
    → AreNone units count id
none_later unit units count id none place below valid = none (suc place) (omega (arith, below)) valid

pub known_stays : (known : Known) (units : List (ℕ × Outcome)) (count id : ℕ) → AreNone units count id
    → key_at (known_after known (take count units)) id ≡ key_at known id
known_stays known units zero id none = refl
known_stays known [] (suc count) id none = refl
known_stays known ((own, Planned plan) ∷ units) (suc count) id none =
    known_stays (known_with known own (key_of_outcome known (Planned plan))) units count id
    (none_later (own, Planned plan) units count id none)
    ∙ other_stays (own == id) known own plan units id refl (none zero (omega arith))
known_stays known ((own, Faulty fault) ∷ units) (suc count) id none =
    known_stays known units count id (none_later (own, Faulty fault) units count id none)
known_stays known ((own, Empty) ∷ units) (suc count) id none =
    known_stays known units count id (none_later (own, Empty) units count id none)

own_known : (known : Known) (own id : ℕ) (plan : Plan) → own ≡ id
    → cond (own == id) (Some (key_of known plan.requests)) (key_at known id) ≡ Some (key_of known plan.requests)
own_known known own id plan same =
    ap (λ b. cond b (Some (key_of known plan.requests)) (key_at known id)) (eq-eqb own id same)

-- the last valid unit before a place that has an id has the key that is known of it there
pub last_known : (known : Known) (units : List (ℕ × Outcome)) (count at id : ℕ) → at < count → IsValid units at id
    → AreOthers units at count id
    → slice_get (keys_after known units) at ≡ Some (key_at (known_after known (take count units)) id)
last_known known units zero at id before valid last = absurd (omega (arith, before))
last_known known [] (suc count) at id before valid last = absurd (nothing_valid at id valid)
last_known known ((own, outcome) ∷ units) (suc count) zero id before (plan, is) last =
    first_known outcome (ap (λ (unit : ℕ × Outcome). unit.1) (same_Some (own, outcome) (id, Planned plan) is))
    (ap (λ (unit : ℕ × Outcome). unit.0) (same_Some (own, outcome) (id, Planned plan) is))
  where
    others : AreNone units count id
    others place below valid = last (suc place) (omega arith) (omega (arith, below)) valid

    first_known : (became : Outcome) → became ≡ Planned plan → own ≡ id
        → Some (key_of_outcome known became)
        ≡ Some (key_at (known_after (known_with known own (key_of_outcome known became)) (take count units)) id)
    first_known became became_is own_is =
        subst (λ (b : Outcome). Some (key_of_outcome known b)
        ≡ Some (key_at (known_after (known_with known own (key_of_outcome known b)) (take count units)) id)) (sym became_is)
        (ap Some (sym (known_stays (known_with known own (Some (key_of known plan.requests))) units count id others
        ∙ own_known known own id plan own_is)))
last_known known ((own, outcome) ∷ units) (suc count) (suc at) id before valid last =
    last_known (known_with known own (key_of_outcome known outcome)) units count at id (omega (arith, before)) valid
    (λ place above below is. last (suc place) (omega (arith, above)) (omega (arith, below)) is)
