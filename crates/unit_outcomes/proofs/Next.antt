-- What a walk keeps after a unit.
use Rattle.std.proofs.Common.{◌≡◌, sym, ◌∙◌, ap, subst, ℕ, ◌+◌, ◌<◌, ◌↔◌, ◌==◌, Bool, true, false, not, ◌&&◌, ◌||◌, List, Option, None, Some, IsTrue, is_some, MatchBool, slice_get, if◌then◌else◌, ◌⊎◌, inl, inr, arith}
use Rattle.std.specs.Option.{option_map}
use Rattle.std.proofs.lemmas.Bool.{and_from, and_parts, and_right, both_ways, cases_Bool, cases_lt, eq-eqb, eqb-true, false_from_ne_true, false≢true, ne_eqb, not-true, not_from_false, not_from_true, or_cases, or_left}
use Rattle.std.proofs.lemmas.Option.{same_Some}
use Rattle.unit_outcomes.specs.SeenUnits.{BreaksAt, HasId, IsIdrAt, SeenUnit, is_break, seen_break}
use Rattle.unit_outcomes.specs.Breaks.{Lasts}
use Rattle.unit_outcomes.specs.InDoubt.{IdsDiffer, InDoubt, IsDoubt, IsFollowed}
use Rattle.unit_outcomes.specs.Walks.{HasBreakBehind, HasFirst, HasNoIdrBehind, IsSeen, IsSound, Keeps, LastsBefore, TellsSound, doubt_of, first_after, sound_after}
use Rattle.unit_outcomes.specs.declared.doubts.walk.Doubt.{Doubt}
use Rattle.unit_outcomes.proofs.Doubted.{follows_is, idr_follows, only_seen, told_is, tells_sound}

-- the left side of an or that fails is dropped
or_drop : (a b r : Bool) → b ≡ false → ((a && b) || r) ≡ r
or_drop true b r fails = ap (λ (x : Bool). x || r) fails
or_drop false b r fails = cc

-- a place below the next one is below this one, or is it
below_or : (a b : ℕ) → a < b + 1 → (a < b) ⊎ (a ≡ b)
below_or a b below = elim (cases_lt a b) [
  | inl less ↦ inl less
  | inr not ↦ let same : a ≡ b = omega (arith, not, below) in inr same
]

module _ (units : List SeenUnit) (differ : IdsDiffer units) (at : ℕ) (unit : SeenUnit) (there : slice_get units at ≡ Some unit) where
  id_here : HasId units at unit.id
  id_here = ap (option_map (λ u. u.id)) there

  breaks_here : is_break unit.is_reference unit.outcome ≡ true → BreaksAt units at
  breaks_here holds = ap seen_break there ∙ holds

  no_break_here : is_break unit.is_reference unit.outcome ≡ false → BreaksAt units at → ⊥
  no_break_here fails holds = both_ways (is_break unit.is_reference unit.outcome) fails (sym (ap seen_break there) ∙ holds)

  -- a break that lasts up to the unit lasts before the next one, and the other way round
  lasts_down : (broken : ℕ) → Lasts units broken at → LastsBefore units broken (at + 1)
  lasts_down broken lasts = record {
    before = omega (arith, lasts.before);
    breaks = lasts.breaks;
    no_idr = λ place behind below idr. lasts.no_idr place behind (omega (arith, below)) idr;
  }

  lasts_here : (broken : ℕ) → broken < at → LastsBefore units broken (at + 1) → Lasts units broken at
  lasts_here broken before lasts = record {
    before = before;
    breaks = lasts.breaks;
    no_idr = λ place behind within idr. lasts.no_idr place behind (omega (arith, within)) idr;
  }

  -- the first break before the next unit
  pub first_next : (follows : Option ℕ) → IsFollowed units at follows
      → HasFirst units (at + 1) (first_after unit.id (is_break unit.is_reference unit.outcome) follows)
  first_next (Some id) is =
      let follows = is.1 in (
        is.0,
        record {
          lasts = lasts_down is.0 follows.lasts;
          first = λ other lasts. elim (below_or other at lasts.before) [
            | inl before ↦ follows.first other (lasts_here other before lasts)
            | inr same ↦ omega (arith, same, follows.lasts.before)
          ];
        },
        is.2,
      )
  first_next None is = elim (cases_Bool (is_break unit.is_reference unit.outcome)) [
    | inl holds ↦ rw holds (
      at,
      record {
        lasts = record {
          before = omega arith;
          breaks = breaks_here holds;
          no_idr = λ place behind below idr. absurd (omega (arith, behind, below));
        };
        first = λ other lasts. elim (below_or other at lasts.before) [
          | inl before ↦ absurd (is other (lasts_here other before lasts))
          | inr same ↦ omega (arith, same)
        ];
      },
      id_here,
    )
    | inr fails ↦ rw fails (λ broken lasts. elim (below_or broken at lasts.before) [
      | inl before ↦ is broken (lasts_here broken before lasts)
      | inr same ↦ no_break_here fails (subst (BreaksAt units) same lasts.breaks)
    ])
  ]

  -- what is sound seen from a unit is so seen from the next one, where it is no break
  sound_next : (other : ℕ) → (BreaksAt units at → ⊥) → IsSound units at other → IsSound units (at + 1) other
  sound_next other none is = record {
    no_doubt = is.no_doubt;
    no_break = λ broken behind before breaks. elim (below_or broken at before) [
      | inl less ↦ is.no_break broken behind less breaks
      | inr same ↦ none (subst (BreaksAt units) same breaks)
    ];
  }

  shaken_next : (other : ℕ) → InDoubt units other ⊎ HasBreakBehind units at other
      → InDoubt units other ⊎ HasBreakBehind units (at + 1) other
  shaken_next other (inl doubt) = inl doubt
  shaken_next other (inr is) = inr (record {
    broken = is.broken;
    behind = is.behind;
    before = omega (arith, is.before);
    breaks = is.breaks;
  })

  told_next : (other : ℕ) (sound : Bool) → (BreaksAt units at → ⊥)
      → MatchBool sound (IsSound units at other) (InDoubt units other ⊎ HasBreakBehind units at other)
      → MatchBool sound (IsSound units (at + 1) other) (InDoubt units other ⊎ HasBreakBehind units (at + 1) other)
  told_next other true none is = sound_next other none is
  told_next other false none is = shaken_next other is

  module _ (doubt : Doubt) (in_doubt : IsTrue doubt.in_doubt ↔ InDoubt units at)
      (sound : ℕ → Bool) (only : is_some doubt.follows ≡ true → (id : ℕ) → sound id ≡ true → IsSeen units at id) where
    abbrev breaks : Bool
    breaks = is_break unit.is_reference unit.outcome

    abbrev adds : Bool
    adds = is_some (first_after unit.id breaks doubt.follows) && not doubt.in_doubt

    abbrev next : ℕ → Bool
    next = sound_after unit.id breaks doubt sound

    -- after a unit that is no break, a break is followed where it was before
    follows_some : (follows : Option ℕ) → breaks ≡ false → is_some (first_after unit.id breaks follows) ≡ true → is_some follows ≡ true
    follows_some None fails some =
        absurd (false≢true (sym (ap (λ (b : Bool). is_some (if b then Some unit.id else None)) fails) ∙ some))
    follows_some (Some first) fails some = some

    -- what was seen from the unit, where it is no break
    seen_before : is_some (first_after unit.id breaks doubt.follows) ≡ true → (id : ℕ) → (not breaks && sound id) ≡ true → IsSeen units at id
    seen_before some id kept =
        let parts = and_parts (not breaks) (sound id) kept in
        only (follows_some doubt.follows (not-true breaks parts.0) some) id parts.1

    -- only ids of units that were gone over are sound
    pub only_next : (IsIdrAt units at → is_some doubt.follows ≡ false) → is_some (first_after unit.id breaks doubt.follows) ≡ true
        → (id : ℕ) → next id ≡ true → IsSeen units (at + 1) id
    only_next idr some id holds = elim (or_cases (adds && (unit.id == id)) (not breaks && sound id) holds) [
      | inl added ↦
          let same = eqb-true unit.id id (and_parts adds (unit.id == id) added).1 in
          record {
            other = at;
            before = omega arith;
            has_id = subst (HasId units at) same id_here;
            no_idr = λ place after below is. absurd (omega (arith, after, below));
          }
      | inr kept ↦
          let was = seen_before some id kept in
          let parts = and_parts (not breaks) (sound id) kept in
          let follows = follows_some doubt.follows (not-true breaks parts.0) some in
          record {
            other = was.other;
            before = omega (arith, was.before);
            has_id = was.has_id;
            no_idr = λ place after below is. elim (below_or place at below) [
              | inl less ↦ was.no_idr place after less is
              | inr same ↦ both_ways (is_some doubt.follows) (idr (subst (IsIdrAt units) same is)) follows
            ];
          }
    ]

    -- the unit's id is no earlier unit's
    other_id : (other id : ℕ) → HasId units other id → other < at → (unit.id == id) ≡ false
    other_id other id has before = ne_eqb unit.id id (λ same.
        let twice = differ other at id has (subst (HasId units at) same id_here) in
        omega (arith, twice, before))

    abbrev Told : ℕ → Bool → Type 0
    Told other sound = MatchBool sound (IsSound units (at + 1) other) (InDoubt units other ⊎ HasBreakBehind units (at + 1) other)

    earlier_told : (is_some doubt.follows ≡ true → TellsSound units at sound) → is_some (first_after unit.id breaks doubt.follows) ≡ true
        → (other id : ℕ) → HasId units other id → other < at → HasNoIdrBehind units (at + 1) other → Told other (next id)
    earlier_told kept some other id has before none =
        let dropped = or_drop adds (unit.id == id) (not breaks && sound id) (other_id other id has before) in
        elim (cases_Bool breaks) [
          | inl holds ↦
              let gone : next id ≡ false = dropped ∙ ap (λ (b : Bool). not b && sound id) holds in
              let behind : HasBreakBehind units (at + 1) other =
              record { broken = at; behind = before; before = omega arith; breaks = breaks_here holds } in
              subst (Told other) (sym gone) (inr behind)
          | inr fails ↦
              let stays : next id ≡ sound id = dropped ∙ ap (λ (b : Bool). not b && sound id) fails in
              let told = kept (follows_some doubt.follows fails some) other id has before
              (λ place after below idr. none place after (omega (arith, below)) idr) in
              subst (Told other) (sym stays) (told_next other (sound id) (no_break_here fails) told)
        ]

    own_told : is_some (first_after unit.id breaks doubt.follows) ≡ true → (id : ℕ) → HasId units at id → Told at (next id)
    own_told some id has =
        let same = same_Some unit.id id (sym id_here ∙ has) in
        elim (cases_Bool doubt.in_doubt) [
          | inl holds ↦
              let out = and_right (is_some (first_after unit.id breaks doubt.follows)) (not doubt.in_doubt) (not_from_true doubt.in_doubt holds) in
              let gone = false_from_ne_true (next id) (λ is. elim (or_cases (adds && (unit.id == id)) (not breaks && sound id) is) [
                | inl added ↦ both_ways adds out (and_parts adds (unit.id == id) added).0
                | inr kept ↦
                    let was = seen_before some id kept in
                    let twice = differ was.other at id was.has_id has in
                    omega (arith, twice, was.before)
              ]) in
              subst (Told at) (sym gone) (inl (in_doubt.0 holds))
          | inr fails ↦
              let added = and_from adds (unit.id == id)
              (and_from (is_some (first_after unit.id breaks doubt.follows)) (not doubt.in_doubt) some (not_from_false doubt.in_doubt fails))
              (eq-eqb unit.id id same) in
              let there : next id ≡ true = or_left (adds && (unit.id == id)) (not breaks && sound id) added in
              let is : IsSound units (at + 1) at = record {
                no_doubt = λ doubted. both_ways doubt.in_doubt fails (in_doubt.1 doubted);
                no_break = λ broken behind before breaks. absurd (omega (arith, behind, before));
              } in
              subst (Told at) (sym there) is
        ]

    -- the ids of sound units, seen from the next one
    pub tells_next : (is_some doubt.follows ≡ true → TellsSound units at sound) → is_some (first_after unit.id breaks doubt.follows) ≡ true
        → TellsSound units (at + 1) next
    tells_next kept some other id has below none = elim (below_or other at below) [
      | inl before ↦ earlier_told kept some other id has before none
      | inr same ↦ subst (λ place. Told place (next id)) (sym same)
          (own_told some id (subst (λ place. HasId units place id) same has))
    ]

    -- what is kept before the next unit
    pub keeps_next : (IsIdrAt units at → is_some doubt.follows ≡ false) → IsFollowed units at doubt.follows → (is_some doubt.follows ≡ true → TellsSound units at sound)
        → Keeps units (at + 1) (first_after unit.id breaks doubt.follows) next
    keeps_next idr follows kept = record {
      first_is = λ none. first_next doubt.follows follows;
      sound_are = λ none some. tells_next kept some;
      only = λ none some. only_next idr some;
    }

-- what is kept by one test is kept by another one that answers the same
keeps_same : (units : List SeenUnit) (at : ℕ) (first : Option ℕ) (sound other : ℕ → Bool) → ((id : ℕ) → other id ≡ sound id)
    → Keeps units at first sound → Keeps units at first other
keeps_same units at first sound other same keeps = record {
  first_is = keeps.first_is;
  sound_are = λ none some place id has before behind.
      subst (λ b. MatchBool b (IsSound units at place) (InDoubt units place ⊎ HasBreakBehind units at place)) (sym (same id))
      (keeps.sound_are none some place id has before behind);
  only = λ none some id holds. keeps.only none some id (sym (same id) ∙ holds);
}

-- a walk goes over a unit
pub passed : (units : List SeenUnit) (at : ℕ) (unit : SeenUnit) (first : Option ℕ) (sound : ℕ → Bool)
    (doubt : Doubt) (after : Option ℕ) (left : ℕ → Bool)
    → doubt ≡ doubt_of first sound unit.outcome
    → after ≡ first_after unit.id (is_break unit.is_reference unit.outcome) doubt.follows
    → ((id : ℕ) → left id ≡ sound_after unit.id (is_break unit.is_reference unit.outcome) doubt sound id)
    → IdsDiffer units → slice_get units at ≡ Some unit → Keeps units at first sound
    → IsDoubt units at doubt × Keeps units (at + 1) after left
passed units at unit first sound doubt after left doubt_is after_is left_is differ there keeps =
    let told = doubt_of first sound unit.outcome in
    let follows = follows_is units at unit there first sound keeps in
    let in_doubt = told_is units at unit there first sound keeps in
    let is : IsDoubt units at told = record { follows = follows; in_doubt = in_doubt } in
    let next = keeps_next units differ at unit there told in_doubt sound (only_seen units at unit there first sound keeps)
    (idr_follows units at unit there first sound keeps) follows
    (tells_sound units at unit there first sound keeps) in (
      subst (IsDoubt units at) (sym doubt_is) is,
      keeps_same units (at + 1) after (sound_after unit.id (is_break unit.is_reference unit.outcome) doubt sound) left left_is
          (subst (λ o. Keeps units (at + 1) o (sound_after unit.id (is_break unit.is_reference unit.outcome) doubt sound)) (sym after_is)
          (subst (λ d. Keeps units (at + 1) (first_after unit.id (is_break unit.is_reference unit.outcome) d.follows)
          (sound_after unit.id (is_break unit.is_reference unit.outcome) d sound)) (sym doubt_is) next)),
    )
