-- What a walk tells of the next unit.
use Rattle.std.proofs.Common.{◌≡◌, sym, ◌∙◌, ap, subst, ℕ, ◌↔◌, Bool, true, false, not, List, Option, None, Some, Contains, IsTrue, MatchBool, is_some, slice_get, ◌⊎◌, inl, inr, arith}
use Rattle.std.proofs.lemmas.Bool.{MatchBool-at_false, MatchBool-at_true, and_from, and_parts, both_ways, cases_Bool, cases_lt, false≢true, not-true, not_from_false}
use Rattle.std.proofs.lemmas.Option.{same_Some}
use Rattle.unit_outcomes.specs.declared.outcome.Outcome.TheVariants as outcomes
use Rattle.unit_outcomes.specs.declared.outcome.Plan.{Plan}
use Rattle.unit_outcomes.specs.SeenUnits.{IsIdrAt, SeenUnit, is_idr_picture, seen_idr}
use Rattle.unit_outcomes.specs.Entries.{Lists}
use Rattle.unit_outcomes.specs.Breaks.{Follows, Lasts}
use Rattle.unit_outcomes.specs.InDoubt.{InDoubt, IsFollowed, Names}
use Rattle.unit_outcomes.specs.InDoubt.InDoubt.{misses, names_before_break, names_doubt}
use Rattle.unit_outcomes.specs.Walks.{HasBreakBehind, HasFirst, HasNoIdrBehind, IsSeen, IsSound, Keeps, LastsBefore, TellsSound, doubt_of, followed, is_sound, names_sound}
use Rattle.unit_outcomes.proofs.Named.{names_or_not}
use Rattle.unit_outcomes.proofs.Unsound.{Unsound, sound_entry, unsound_entry}

module _ (units : List SeenUnit) where
  -- a unit in doubt has a break before it that lasts up to it
  pub break_before : (at : ℕ) → InDoubt units at → (broken : ℕ) × Lasts units broken at
  break_before at (names_doubt from other id named doubt) =
      let found = break_before other doubt in
      let lasts = found.1 in (
        found.0,
        record {
          before = omega (arith, lasts.before, named.before);
          breaks = lasts.breaks;
          no_idr = λ place behind within idr. elim (cases_lt other place) [
            | inl after ↦ named.no_idr place after within idr
            | inr until ↦ lasts.no_idr place behind until idr
          ];
        },
      )
  break_before at (names_before_break from other broken id named behind before breaks) = (
    broken,
    record {
      before = before;
      breaks = breaks;
      no_idr = λ place after within idr. named.no_idr place (omega (arith, behind, after)) within idr;
    },
  )
  break_before at (misses from broken named lists missing follows) = (broken, follows.lasts)

  -- no valid IDR picture stands between a unit that is named and that which names it
  named_behind : (at other id : ℕ) → Names units at other id → HasNoIdrBehind units at other
  named_behind at other id named = λ place after below idr. named.no_idr place after (omega (arith, below)) idr

  -- what is told of a unit that is named
  told_named : (sound : ℕ → Bool) (at other id : ℕ) → TellsSound units at sound → Names units at other id
      → MatchBool (sound id) (IsSound units at other) (InDoubt units other ⊎ HasBreakBehind units at other)
  told_named sound at other id tells named = tells other id named.has_id named.before (named_behind at other id named)

  named_sound : (sound : ℕ → Bool) (at other id : ℕ) → TellsSound units at sound → Names units at other id → sound id ≡ true
      → IsSound units at other
  named_sound sound at other id tells named holds =
      MatchBool-at_true (IsSound units at other) (InDoubt units other ⊎ HasBreakBehind units at other) holds
      (told_named sound at other id tells named)

  -- an id that is sound is that of a unit that is named, where it is listed
  seen_named : (at id : ℕ) → (IsIdrAt units at → ⊥) → Lists units at (Some id) → (seen : IsSeen units at id) → Names units at seen.other id
  seen_named at id none lists seen = record {
    listed = lists;
    has_id = seen.has_id;
    before = seen.before;
    no_idr = λ place after within idr. elim (cases_lt place at) [
      | inl below ↦ seen.no_idr place after below idr
      | inr not ↦
          let same : place ≡ at = omega (arith, within, not) in
          none (subst (IsIdrAt units) same idr)
    ];
  }

  -- a unit that names sound units alone isn't in doubt
  pub sound_no_doubt : (sound : ℕ → Bool) (at : ℕ) → (IsIdrAt units at → ⊥) → TellsSound units at sound
      → ((id : ℕ) → sound id ≡ true → IsSeen units at id)
      → ((named : Option ℕ) → Lists units at named → is_sound sound named ≡ true) → InDoubt units at → ⊥
  sound_no_doubt sound at none tells only all (names_doubt from other id named doubt) =
      (named_sound sound from other id tells named (all (Some id) named.listed)).no_doubt doubt
  sound_no_doubt sound at none tells only all (names_before_break from other broken id named behind before breaks) =
      (named_sound sound from other id tells named (all (Some id) named.listed)).no_break broken behind before breaks
  sound_no_doubt sound at none tells only all (misses from broken None lists missing follows) = false≢true (all None lists)
  sound_no_doubt sound at none tells only all (misses from broken (Some id) lists missing follows) =
      let seen = only id (all (Some id) lists) in
      missing seen.other (seen_named from id none lists seen)

  -- a unit with an entry that isn't sound is in doubt, where it follows a break
  pub unsound_doubt : (sound : ℕ → Bool) (at broken : ℕ) → TellsSound units at sound → Follows units at broken
      → (named : Option ℕ) → Lists units at named → is_sound sound named ≡ false → InDoubt units at
  unsound_doubt sound at broken tells follows None lists fails = misses at broken None lists tt follows
  unsound_doubt sound at broken tells follows (Some id) lists fails = elim (names_or_not units at id lists) [
    | inl found ↦
        let named = found.1 in
        elim (MatchBool-at_false (IsSound units at found.0) (InDoubt units found.0 ⊎ HasBreakBehind units at found.0) fails
        (told_named sound at found.0 id tells named)) [
          | inl doubt ↦ names_doubt at found.0 id named doubt
          | inr broken ↦ names_before_break at found.0 broken.broken id named broken.behind broken.before broken.breaks
        ]
    | inr none ↦ misses at broken (Some id) lists none follows
  ]

  module _ (at : ℕ) (unit : SeenUnit) (there : slice_get units at ≡ Some unit) (first : Option ℕ) (sound : ℕ → Bool)
      (keeps : Keeps units at first sound) where
    pub idr_here : is_idr_picture unit.outcome ≡ true → IsIdrAt units at
    idr_here holds = ap seen_idr there ∙ holds

    pub no_idr_here : is_idr_picture unit.outcome ≡ false → IsIdrAt units at → ⊥
    no_idr_here fails holds = both_ways (is_idr_picture unit.outcome) fails (sym (ap seen_idr there) ∙ holds)

    -- a break that lasts up to the unit lasts before it, and the other way round
    pub lasts_before : (broken : ℕ) → Lasts units broken at → LastsBefore units broken at
    lasts_before broken lasts = record {
      before = lasts.before;
      breaks = lasts.breaks;
      no_idr = λ place behind below idr. lasts.no_idr place behind (omega (arith, below)) idr;
    }

    pub lasts_up : (IsIdrAt units at → ⊥) → (broken : ℕ) → LastsBefore units broken at → Lasts units broken at
    lasts_up none broken lasts = record {
      before = lasts.before;
      breaks = lasts.breaks;
      no_idr = λ place behind within idr. elim (cases_lt place at) [
        | inl below ↦ lasts.no_idr place behind below idr
        | inr not ↦
            let same : place ≡ at = omega (arith, within, not) in
            none (subst (IsIdrAt units) same idr)
      ];
    }

    followed_first : (IsIdrAt units at → ⊥) → (first : Option ℕ) → HasFirst units at first → IsFollowed units at first
    followed_first none None has = λ broken lasts. has broken (lasts_before broken lasts)
    followed_first none (Some id) has =
        let is = has.1 in (
          has.0,
          record {
            lasts = lasts_up none has.0 is.lasts;
            first = λ other lasts. is.first other (lasts_before other lasts);
          },
          has.2,
        )

    -- what is followed at an IDR picture, and at another one
    pub followed_idr : is_idr_picture unit.outcome ≡ true → followed first unit.outcome ≡ None
    followed_idr holds = rw holds

    pub followed_other : is_idr_picture unit.outcome ≡ false → followed first unit.outcome ≡ first
    followed_other fails = rw fails

    -- the break that the unit follows
    pub follows_is : IsFollowed units at (followed first unit.outcome)
    follows_is = elim (cases_Bool (is_idr_picture unit.outcome)) [
      | inl holds ↦ subst (IsFollowed units at) (sym (followed_idr holds))
          (λ broken lasts. lasts.no_idr at lasts.before (omega arith) (idr_here holds))
      | inr fails ↦ subst (IsFollowed units at) (sym (followed_other fails))
          (followed_first (no_idr_here fails) first (keeps.first_is (no_idr_here fails)))
    ]

    -- a unit that follows a break is no IDR picture, and the break was kept
    pub follows_kept : is_some (followed first unit.outcome) ≡ true
        → (is_idr_picture unit.outcome ≡ false) × (is_some first ≡ true)
    follows_kept some = elim (cases_Bool (is_idr_picture unit.outcome)) [
      | inl holds ↦ absurd (false≢true (sym (ap (λ o. is_some o) (followed_idr holds)) ∙ some))
      | inr fails ↦ (fails, sym (ap (λ o. is_some o) (followed_other fails)) ∙ some)
    ]

    -- an IDR picture follows none
    pub idr_follows : IsIdrAt units at → is_some (followed first unit.outcome) ≡ false
    idr_follows is =
        let here = sym (ap seen_idr there) ∙ is in
        ap (λ o. is_some o) (followed_idr here)

    pub tells_sound : is_some (followed first unit.outcome) ≡ true → TellsSound units at sound
    tells_sound some =
        let kept = follows_kept some in
        keeps.sound_are (no_idr_here kept.0) kept.1

    pub only_seen : is_some (followed first unit.outcome) ≡ true → (id : ℕ) → sound id ≡ true → IsSeen units at id
    only_seen some =
        let kept = follows_kept some in
        keeps.only (no_idr_here kept.0) kept.1

    -- what an entry of the unit's plan names is listed
    lists_of : (plan : Plan) → unit.outcome ≡ outcomes.Plan plan → (found : (request : _) × Contains plan.requests request × Unsound sound request)
        → Lists units at found.2.named
    lists_of plan valid found = record {
      unit = unit;
      there = there;
      plan = plan;
      valid = valid;
      request = found.0;
      among = found.1;
      entry = found.2.entry;
    }

    some_broken : (follows : Option ℕ) → IsFollowed units at follows → is_some follows ≡ true → (broken : ℕ) × Follows units at broken
    some_broken None is some = absurd (false≢true some)
    some_broken (Some id) is some = (is.0, is.1)

    none_broken : (follows : Option ℕ) → IsFollowed units at follows → (broken : ℕ) → Lasts units broken at → is_some follows ≡ true
    none_broken None is broken lasts = absurd (is broken lasts)
    none_broken (Some id) is broken lasts = refl_true
      where
        refl_true : true ≡ true
        refl_true = cc

    doubted : (doubt_of first sound unit.outcome).in_doubt ≡ true → InDoubt units at
    doubted holds =
        let parts = and_parts (is_some (followed first unit.outcome)) (not (names_sound sound unit.outcome)) holds in
        let found = unsound_entry sound unit.outcome (not-true (names_sound sound unit.outcome) parts.1) in
        let broken = some_broken (followed first unit.outcome) follows_is parts.0 in
        unsound_doubt sound at broken.0 (tells_sound parts.0) broken.1 found.2.2.named (lists_of found.0 found.1 found.2) found.2.2.unsound

    all_sound : names_sound sound unit.outcome ≡ true → (named : Option ℕ) → Lists units at named → is_sound sound named ≡ true
    all_sound holds named lists =
        let same = same_Some unit lists.unit (sym there ∙ lists.there) in
        let valid : unit.outcome ≡ outcomes.Plan lists.plan = ap (λ u. u.outcome) same ∙ lists.valid in
        sound_entry sound lists.plan lists.request named (sym (ap (names_sound sound) valid) ∙ holds) lists.among lists.entry

    not_doubted : InDoubt units at → (doubt_of first sound unit.outcome).in_doubt ≡ true
    not_doubted doubt =
        let found = break_before at doubt in
        let some = none_broken (followed first unit.outcome) follows_is found.0 found.1 in
        and_from (is_some (followed first unit.outcome)) (not (names_sound sound unit.outcome)) some
        (not_from_false (names_sound sound unit.outcome)
        (false_sound (cases_Bool (names_sound sound unit.outcome)) some doubt))
      where
        false_sound : (names_sound sound unit.outcome ≡ true) ⊎ (names_sound sound unit.outcome ≡ false)
            → is_some (followed first unit.outcome) ≡ true → InDoubt units at → names_sound sound unit.outcome ≡ false
        false_sound (inl holds) some doubt = absurd (sound_no_doubt sound at (no_idr_here (follows_kept some).0) (tells_sound some) (only_seen some) (all_sound holds) doubt)
        false_sound (inr fails) some doubt = fails

    -- whether the unit is in doubt
    pub told_is : IsTrue (doubt_of first sound unit.outcome).in_doubt ↔ InDoubt units at
    told_is = (doubted, not_doubted)
