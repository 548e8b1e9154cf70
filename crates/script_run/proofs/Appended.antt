-- Units that a seat appends a handful at a time are inserted one after the other.
use Rattle.std.proofs.Common.{◌≡◌, ℕ, ◌+◌, List, [], ◌∷◌, ◌++◌, Some, None, Result, Ok, Err, refl, sym, ◌∙◌, ap, subst, inl, inr, append_assoc}
use Rattle.std.proofs.lemmas.Option.{none-some, same_Some}
use Rattle.stream_edits.specs.Streams.{last_of}
use Rattle.stream_edits.specs.declared.receipts.Receipt.{Receipt}
use Rattle.stream_edits.specs.declared.refusals.EditRefused.{EditRefused}
use Rattle.stand_in_session.specs.Machines.{Machine}
use Rattle.decode_pool.specs.declared.appending.Appended.{Appended}
use Rattle.decode_pool.specs.declared.seat.Seat.{Seat}
use Rattle.decode_pool.specs.Appends as appends
use Rattle.decode_pool.specs.Seats.{IsReached}
use Rattle.script_run.specs.Answers.{refused_line}
use Rattle.script_run.specs.SharedRunning.{InsertsAll, InsertsLast}

-- a unit that is put behind a handful stands there, and before the units that follow
pub moved : (handful more : List (List (List ℕ))) (unit : List (List ℕ)) (filled left : List (List (List ℕ)))
    → filled ≡ handful ++ unit ∷ [] → left ≡ unit ∷ more → filled ++ more ≡ handful ++ left
moved handful more unit filled left put first =
    ap (λ (units : List (List (List ℕ))). units ++ more) put ∙ append_assoc handful (unit ∷ []) more
    ∙ ap (λ (units : List (List (List ℕ))). handful ++ units) (sym first)

-- a handful is all that is left where none follow
pub alone : (handful left : List (List (List ℕ))) → left ≡ [] → handful ++ left ≡ handful ++ []
alone handful left none = ap (λ (units : List (List (List ℕ))). handful ++ units) none

-- a unit that is appended to a session is inserted after the last one of one
pub inserts_last : (from : Machine) (old : Seat) (part : List (List ℕ)) (answer : Result Receipt EditRefused)
    (to : Machine) (new : Seat) → IsReached from → appends.AppendsOne from old part answer to new
    → InsertsLast old part answer new
inserts_last from old part answer to new reached one = elim one [
  | inl edits ↦ inl (
    last_of from.register.stream,
    (from, reached, refl),
    (from, to, reached, edits.0, edits.1),
  )
  | inr none ↦ inr (none.0, none.2)
]

module _ (count : ℕ) (lines : List ℕ) where
  -- where all units of a handful are appended and then others inserted, all are
  pub inserts_on : (n : ℕ) (from : Machine) (old : Seat) (parts : List (List (List ℕ))) (appended : Appended)
      (to : Machine) (next : Seat) → appends.AppendsOn n from old parts appended to next → appended.refused ≡ None
      → (more : List (List (List ℕ))) (new : Seat) → InsertsAll count next more lines new
      → InsertsAll count old (parts ++ more) lines new
  inserts_on n from old [] appended to next on none more new others =
      subst (λ (seat : Seat). InsertsAll count seat more lines new) on.2 others
  inserts_on n from old (part ∷ parts) appended to next on none more new others = elim on.1 [
    | inl one ↦ inl (
      one.0,
      one.2,
      inserts_last from old part (Ok one.0) one.1 one.2 on.0 one.3,
      inserts_on (n + 1) one.1 one.2 parts appended to next one.4 none more new others,
    )
    | inr end ↦ absurd (none-some end.0 (sym none ∙ ap (λ (it : Appended). it.refused) end.2))
  ]

  -- where one unit of a handful is refused, and its line is written, those before it are inserted
  pub inserts_up_to : (n : ℕ) (from : Machine) (old : Seat) (parts : List (List (List ℕ))) (appended : Appended)
      (to : Machine) (new : Seat) (refused : EditRefused) → appends.AppendsOn n from old parts appended to new
      → appended.refused ≡ Some refused → lines ≡ refused_line refused → (more : List (List (List ℕ)))
      → InsertsAll count old (parts ++ more) lines new
  inserts_up_to n from old [] appended to new refused on is line more =
      absurd (none-some refused (sym (ap (λ (it : Appended). it.refused) on.0) ∙ is))
  inserts_up_to n from old (part ∷ parts) appended to new refused on is line more = elim on.1 [
    | inl one ↦ inl (
      one.0,
      one.2,
      inserts_last from old part (Ok one.0) one.1 one.2 on.0 one.3,
      inserts_up_to (n + 1) one.1 one.2 parts appended to new refused one.4 is line more,
    )
    | inr end ↦ inr (
      refused,
      subst (λ (it : EditRefused). InsertsLast old part (Err it) new)
          (same_Some end.0 refused (sym (ap (λ (it : Appended). it.refused) end.2) ∙ is))
          (inserts_last from old part (Err end.0) to new on.0 end.1),
      line,
    )
  ]
