-- Stored states stay few: of three in a row the last is more than the spacing past the first.
use Rattle.std.proofs.Common.{◌≡◌, ◌⊎◌, ℕ, suc, ◌+◌, ◌-◌, ◌<◌, ◌≤◌, List, [], ◌∷◌, All, Contains, ap, subst, arith, inl, inr}
use Rattle.std.specs.Map.{keys_of}
use Rattle.std.proofs.lemmas.Bool.{cases_eq, cases_lt}
use Rattle.std.proofs.lemmas.List.Elements.{All-head, All-tail, All-contains_itself, All-weaker}
use Rattle.request_core.specs.States.{FoldState}
use Rattle.checkpoints.specs.Stored.{IsBefore, IsAfter}
use Rattle.checkpoints.specs.Changes.{cut}
use Rattle.checkpoints.specs.Spacing.{HasNear}
use Rattle.checkpoints.proofs.Members.{Contains_cases, Contains_cut, kept_from_cut}
use Rattle.stream_fold.specs.StoredStates.{AreSparse, spacing}
use Rattle.stream_fold.specs.Storing.{IsThinned}
use Rattle.stream_fold.specs.Refolding.{AreApart}
use Rattle.stream_fold.proofs.Storage.{States, from_cut}
use Rattle.stream_fold.proofs.Anew.{place_of_stored, stored_of}

-- what holds of each stored place
of_keys : (Q : ℕ → Type 0) (states : States) → All (λ (e : ℕ × FoldState). Q e.0) states → (place : ℕ) → Contains (keys_of states) place → Q place
of_keys Q [] all place there = absurd (omega (arith, there.1))
of_keys Q (e ∷ es) all place there = elim (Contains_cases e.0 (keys_of es) place there) [
  | inl same ↦ subst Q same (All-head (λ (f : ℕ × FoldState). Q f.0) e es all)
  | inr rest ↦ of_keys Q es (All-tail (λ (f : ℕ × FoldState). Q f.0) e es all) place rest
]

key_of : (made : States) (e : ℕ × FoldState) → Contains made e → Contains (keys_of made) e.0
key_of [] e there = absurd (omega (arith, there.1))
key_of (f ∷ made) e there = elim (Contains_cases f made e there) [
  | inl same ↦ (0, omega arith, ap (λ (g : ℕ × FoldState). g.0) same)
  | inr rest ↦ let found = key_of made e rest in (suc found.0, omega (arith, found.1), found.2)
]

-- each of the states has its place among the places
pub keys_there : (made : States) → All (λ (e : ℕ × FoldState). Contains (keys_of made) e.0) made
keys_there made = All-weaker (Contains made) (λ (e : ℕ × FoldState). Contains (keys_of made) e.0) (key_of made) made (All-contains_itself made)

-- a place whose neighbours are far from each other is left
thin_none : (place : ℕ) (states : States)
    → ((before past : ℕ) → Contains (keys_of states) before → Contains (keys_of states) past → before < place → place < past → before + spacing < past)
    → IsThinned place states states
thin_none place states far = record {
  only = λ other state is. is;
  near = λ k is. is;
  sparse = λ before past at-before at-place at-past. far before past at-before at-past;
}

pub thin_first : (place : ℕ) (states : States) → place ≡ 0 → IsThinned place states states
thin_first place states first = thin_none place states (λ before past at-before at-past less more. absurd (omega (arith, less, first)))

pub thin_last : (place : ℕ) (states : States) → All (λ (e : ℕ × FoldState). e.0 ≤ place) states → IsThinned place states states
thin_last place states last =
    thin_none place states (λ before past at-before at-past less more.
    absurd (omega (arith, more, of_keys (λ other. other ≤ place) states last past at-past)))

module _ (place before past : ℕ) (states : States) (low high : FoldState) (is-before : IsBefore states (place - 1) before low)
    (is-past : IsAfter states place past high) where
  low_of : (other : ℕ) → Contains (keys_of states) other → other < place → other ≤ before
  low_of other there less =
      of_keys (λ (o : ℕ). o ≤ place - 1 → o ≤ before) states is-before.greatest other there (omega (arith, less))

  high_of : (other : ℕ) → Contains (keys_of states) other → place < other → past ≤ other
  high_of other there more = of_keys (λ (o : ℕ). place < o → past ≤ o) states is-past.least other there more

  pub thin_far : before + spacing < past → IsThinned place states states
  thin_far far = thin_none place states (λ first last at-first at-last less more.
      omega (arith, far, low_of first at-first less, high_of last at-last more))

  near_still : past ≤ before + spacing → (k : ℕ) → HasNear spacing (keys_of states) k → HasNear spacing (keys_of (cut before past states)) k
  near_still close k is = elim (cases_lt before is.0) [
    | inr le ↦ (is.0, Contains_cut states before past is.0 (inl le) is.1, is.2, is.3)
    | inl above ↦ elim (cases_lt k past) [
      | inl below ↦ (
        before,
        Contains_cut states before past before (inl (omega arith)) (place_of_stored states before low is-before.stored),
        omega (arith, above, is.2),
        omega (arith, below, close),
      )
      | inr ge ↦ elim (cases_lt is.0 past) [
        | inl less ↦ (
          past,
          Contains_cut states before past past (inr (omega arith)) (place_of_stored states past high is-past.stored),
          ge,
          omega (arith, is.3, less),
        )
        | inr more ↦ (is.0, Contains_cut states before past is.0 (inr more) is.1, is.2, is.3)
      ]
    ]
  ]

  -- one whose neighbours are near each other isn't needed
  pub thin_near : 0 < place → past ≤ before + spacing → IsThinned place states (cut before past states)
  thin_near positive close = record {
    only = λ other state is. (from_cut states before past other state is).0;
    near = near_still close;
    sparse = λ first last at-first at-place at-last less more. elim (kept_from_cut states before past place at-place) [
      | inl le ↦ absurd (omega (arith, le, is-before.not_above, positive))
      | inr ge ↦ absurd (omega (arith, ge, is-past.above))
    ];
  }

-- of three places in a row that are near each other, the middle one is one of these two
abbrev pub IsSparseBut : ℕ → ℕ → States → Type 0
IsSparseBut one other states =
    (first between last : ℕ) → Contains (keys_of states) first → Contains (keys_of states) between → Contains (keys_of states) last
    → first < between → between < last → last ≤ first + spacing → (between ≡ one) ⊎ (between ≡ other)

was_there : (at : ℕ) (old new : States) → IsThinned at old new → (place : ℕ) → Contains (keys_of new) place → Contains (keys_of old) place
was_there at old new thinned place there =
    let state = stored_of new place there in
    place_of_stored old place state.0 (thinned.only place state.0 state.1)

pub sparse_after : (one other : ℕ) (states mid final : States) → IsSparseBut one other states → IsThinned one states mid → IsThinned other mid final
    → AreSparse final
sparse_after one other states mid final but thinned again first between last at-first at-between at-last less more =
    elim (cases_lt (first + spacing) last) [
      | inl far ↦ far
      | inr close ↦
          let in-mid = was_there other mid final again in
          let in-states = was_there one states mid thinned in
          elim (but first between last (in-states first (in-mid first at-first)) (in-states between (in-mid between at-between))
          (in-states last (in-mid last at-last)) less more close) [
            | inl same ↦
                thinned.sparse first last (in-mid first at-first) (subst (λ (p : ℕ). Contains (keys_of mid) p) same (in-mid between at-between))
                (in-mid last at-last) (omega (arith, less, same)) (omega (arith, more, same))
            | inr same ↦
                again.sparse first last at-first (subst (λ (p : ℕ). Contains (keys_of final) p) same at-between) at-last
                (omega (arith, less, same)) (omega (arith, more, same))
          ]
    ]

-- places that rise by the spacing
apart_end : (from : ℕ) (places : List ℕ) (end : ℕ) → AreApart from places end → from ≤ end
apart_end from [] end apart = apart
apart_end from (place ∷ places) end apart = omega (arith, apart.0, apart_end place places end apart.1)

apart_above : (from : ℕ) (places : List ℕ) (end : ℕ) → AreApart from places end → (place : ℕ) → Contains places place
    → (from + spacing ≤ place) × (place ≤ end)
apart_above from [] end apart place there = absurd (omega (arith, there.1))
apart_above from (next ∷ places) end apart place there = elim (Contains_cases next places place there) [
  | inl same ↦ (omega (arith, apart.0, same), omega (arith, apart_end next places end apart.1, same))
  | inr rest ↦ let past = apart_above next places end apart.1 place rest in (omega (arith, apart.0, past.0), past.1)
]

apart_gap : (from : ℕ) (places : List ℕ) (end : ℕ) → AreApart from places end → (place other : ℕ) → Contains places place → Contains places other
    → place < other → place + spacing ≤ other
apart_gap from [] end apart place other there at-other less = absurd (omega (arith, there.1))
apart_gap from (next ∷ places) end apart place other there at-other less = elim (Contains_cases next places place there) [
  | inl same ↦ elim (Contains_cases next places other at-other) [
    | inl same_too ↦ absurd (omega (arith, same, same_too, less))
    | inr rest ↦ omega (arith, same, (apart_above next places end apart.1 other rest).0)
  ]
  | inr rest ↦ elim (Contains_cases next places other at-other) [
    | inl same_too ↦ absurd (omega (arith, same_too, less, (apart_above next places end apart.1 place rest).0))
    | inr rest_too ↦ apart_gap next places end apart.1 place other rest rest_too less
  ]
]

-- places that were sparse: those up to one are kept, those from another on are moved, and new ones
-- stand between
module _ (olds made : List ℕ) (kept to new_to end : ℕ)
    (sparse : (first between last : ℕ) → Contains olds first → Contains olds between → Contains olds last
    → first < between → between < last → first + spacing < last)
    (kept_there : Contains olds kept) (apart : AreApart kept made end) (end_le : end ≤ new_to) where
  abbrev pub IsMoved : ℕ → Type 0
  IsMoved place = (was : ℕ) × Contains olds was × (to ≤ was) × Contains olds to × (place ≡ new_to + (was - to))

  abbrev pub HasOrigin : ℕ → Type 0
  HasOrigin place = ((place ≤ kept) × Contains olds place) ⊎ (Contains made place ⊎ IsMoved place)

  kept_le : kept ≤ new_to
  kept_le = omega (arith, apart_end kept made end apart, end_le)

  made_above : (place : ℕ) → Contains made place → kept + spacing ≤ place
  made_above place there = (apart_above kept made end apart place there).0

  made_below : (place : ℕ) → Contains made place → place ≤ new_to
  made_below place there = omega (arith, (apart_above kept made end apart place there).1, end_le)

  low_between : (first between last : ℕ) → HasOrigin first → Contains olds between → HasOrigin last → between < kept
      → first < between → between < last → last ≤ first + spacing → ⊥
  low_between first between last (inl low) there origin below less more close =
      let far = sparse first between kept low.1 there kept_there less below in
      elim origin [
        | inl low_too ↦ omega (arith, close, sparse first between last low.1 there low_too.1 less more)
        | inr high ↦ elim high [
          | inl new ↦ omega (arith, close, far, made_above last new)
          | inr moved ↦ omega (arith, close, far, moved.4, kept_le)
        ]
      ]
  low_between first between last (inr (inl new)) there origin below less more close = omega (arith, below, less, made_above first new)
  low_between first between last (inr (inr moved)) there origin below less more close = omega (arith, below, less, moved.4, kept_le)

  made_between : (first between : ℕ) → HasOrigin first → Contains made between → first < between → first + spacing ≤ between
  made_between first between (inl low) there less = omega (arith, low.0, made_above between there)
  made_between first between (inr (inl new)) there less = apart_gap kept made end apart first between new there less
  made_between first between (inr (inr moved)) there less = absurd (omega (arith, less, moved.4, made_below between there))

  moved_far : (first between last : ℕ) → HasOrigin first → IsMoved between → IsMoved last → new_to < between
      → first < between → between < last → first + spacing < last
  moved_far first between last (inl low) is is_too past less more =
      omega (arith, low.0, kept_le, is_too.4, sparse to is.0 is_too.0 is.3 is.1 is_too.1 (omega (arith, past, is.4)) (omega (arith, more, is.4, is_too.4)))
  moved_far first between last (inr (inl new)) is is_too past less more =
      omega (
        arith,
        made_below first new,
        is_too.4,
        sparse to is.0 is_too.0 is.3 is.1 is_too.1 (omega (arith, past, is.4)) (omega (arith, more, is.4, is_too.4)),
      )
  moved_far first between last (inr (inr moved)) is is_too past less more =
      omega (
        arith,
        moved.4,
        moved.2,
        is_too.4,
        sparse moved.0 is.0 is_too.0 moved.1 is.1 is_too.1 (omega (arith, less, is.4, moved.4)) (omega (arith, more, is.4, is_too.4)),
      )

  moved_between : (first between last : ℕ) → HasOrigin first → IsMoved between → HasOrigin last → new_to < between
      → first < between → between < last → last ≤ first + spacing → ⊥
  moved_between first between last origin is (inl low) past less more close = omega (arith, low.0, kept_le, past, more)
  moved_between first between last origin is (inr (inl new)) past less more close = omega (arith, made_below last new, past, more)
  moved_between first between last origin is (inr (inr moved)) past less more close =
      omega (arith, close, moved_far first between last origin is moved past less more)

  -- three are near each other only about the place that is kept, or that from which on they are
  -- moved
  pub crowded : (first between last : ℕ) → HasOrigin first → HasOrigin between → HasOrigin last → first < between → between < last
      → last ≤ first + spacing → (between ≡ kept) ⊎ (between ≡ new_to)
  crowded first between last origin (inl low) origin_too less more close = elim (cases_eq between kept) [
    | inl same ↦ inl same
    | inr other ↦ absurd (low_between first between last origin low.1 origin_too (omega (arith, low.0, other)) less more close)
  ]
  crowded first between last origin (inr (inl new)) origin_too less more close =
      absurd (omega (arith, close, more, made_between first between origin new less))
  crowded first between last origin (inr (inr moved)) origin_too less more close = elim (cases_eq between new_to) [
    | inl same ↦ inr same
    | inr other ↦
        absurd (moved_between first between last origin moved origin_too (omega (arith, moved.4, other)) less more close)
  ]
