-- What a stream comes to with one access unit more, and at its end.
use Rattle.std.proofs.Common.{◌≡◌, ◌≢◌, ◌∙◌, ◌<◌, ◌≤◌, ℕ, ◌+◌, List, [], ◌∷◌, ◌++◌, length, Option, Some, None, Result, Ok, Err, OnOk, refl, sym, subst, arith, length-append}
use Rattle.std.specs.Bool.{⊤}
use Rattle.std.proofs.lemmas.List.{get_or_append_left, get_or_at, take-append-le, take_at}
use Rattle.std.proofs.lemmas.List.Elements.{All-nil, All-cons, All-append}
use Rattle.annexb.specs.ByteStream.{HasUnits, joined}
use Rattle.access_unit.specs.Answers.{IsAccepted, IsRefused}
use Rattle.access_unit.specs.StreamUnits.{IsStreamRefused, most_units}
use Rattle.access_unit.specs.Streams.{AreAccepted, IsFirstRefused}
use Rattle.access_unit.specs.declared.refused.Refused.{Refused}
use Rattle.access_unit.specs.declared.refused.Refused.TheVariants as refusals
use Rattle.access_unit.specs.declared.stream_units.Refusal.{Refusal}
use Rattle.access_unit.specs.declared.stream_units.Refusal.TheVariants.{Split, Unit, StreamFull}
use Rattle.plan_stream.specs.Fronts.{IsFront}
use Rattle.plan_stream.specs.Readings.{IsFrontRefused}
use Rattle.plan_stream.proofs.Texts.{no_units_in_front, read_all, read_more, read_nothing}
use Rattle.plan_stream.specs.Gathering.{AreTaken, ComesTo, IsFoldOfStream}
use Rattle.plan_stream.specs.RefusalWith.{refusal_with, refused_after}

abbrev Parts : Type 0
Parts = List (List (List ℕ))

length-push : (done : Parts) (part : List (List ℕ)) → length (done ++ part ∷ []) ≡ length done + 1
length-push done part = length-append done (part ∷ [])

-- the first that is refused stays the first
still_first : (done : Parts) (part : List (List ℕ)) (index : ℕ) (refused : Refused) → IsFirstRefused done index refused → IsFirstRefused (done ++ part ∷ []) index refused
still_first done part index refused first = record {
  in_range = omega (arith, first.in_range, length-push done part);
  is_refused = rw (get_or_append_left done (part ∷ []) [] index first.in_range) first.is_refused;
  before = rw (take-append-le index done (part ∷ []) (omega (arith, first.in_range))) first.before;
}

some_done : (done : Parts) (count : ℕ) → count ≡ length done → count ≢ 0 → 0 < length done
some_done done count counted some = omega (arith, counted)

no_done : (done : Parts) → length done ≡ 0 → done ≡ []
no_done [] e = refl
no_done (part ∷ done) e = absurd (omega arith)

-- what a fold is after the access units that it took
module _ {F : Type 0} (folds : Parts → F → Type 0) where
  module _ (text left front rest : List ℕ) (is : IsFront left front rest) where
    -- an access unit that is accepted
    module _ (unit : List (List ℕ)) (has : HasUnits front unit) (accepted : IsAccepted (joined unit) unit) where
      taken : (done : Parts) (count : ℕ) → AreTaken text done left count → AreTaken text (done ++ unit ∷ []) rest (count + 1)
      taken done count are = record {
        read = read_more text done left front rest are.read is unit has;
        accepted = All-append (λ part. IsAccepted (joined part) part) done (unit ∷ []) are.accepted (All-cons (λ part. IsAccepted (joined part) part) unit [] accepted (All-nil (λ part. IsAccepted (joined part) part)));
        counted = omega (arith, are.counted, length-push done unit);
      }

      -- it's folded
      pub comes-folded : (count : ℕ) (old new : F) → ((done : Parts) → folds done old → length done < most_units)
          → ((done : Parts) → folds done old → folds (done ++ unit ∷ []) new)
          → ComesTo folds text left None count old → ComesTo folds text rest None (count + 1) new
      comes-folded count old new room goes (done, are, few, folded) = (
        done ++ unit ∷ [],
        taken done count are,
        omega (arith, room done folded, length-push done unit),
        goes done folded,
      )

      -- there is no room for it
      pub comes-full : (count : ℕ) (fold : F) → ((done : Parts) → folds done fold → most_units ≤ length done)
          → ComesTo folds text left None count fold → ComesTo folds text rest (Some StreamFull) (count + 1) fold
      comes-full count fold full (done, are, few, folded) = (
        done ++ unit ∷ [],
        taken done count are,
        omega (arith, full done folded, length-push done unit),
      )

      -- the stream is refused already
      pub comes-more : (refusal : Refusal) (count : ℕ) (fold : F)
          → ComesTo folds text left (Some refusal) count fold → ComesTo folds text rest (Some refusal) (count + 1) fold
      comes-more StreamFull count fold (done, are, over) = (done ++ unit ∷ [], taken done count are, omega (arith, length-push done unit, over))
      comes-more (Unit index refused) count fold (done, read, first) =
          (done ++ unit ∷ [], read_more text done left front rest read is unit has, still_first done unit index refused first)
      comes-more Split count fold none = none

      -- in each state
      pub comes-some : {x : Refusal} (before : Option Refusal) (count : ℕ) (fold : F) → before ≡ Some x
          → ComesTo folds text left before count fold → ComesTo folds text rest before (count + 1) fold
      comes-some None count fold e comes = absurd (cc)
      comes-some (Some refusal) count fold e comes = comes-more refusal count fold comes

      pub comes-taken : {E : Type 0} (before : Option Refusal) (count : ℕ) (old new : F) (result : Result ⊤ E) → before ≡ None
          → ((done : Parts) → folds done old → length done < most_units)
          → ((done : Parts) → folds done old → OnOk result (folds (done ++ unit ∷ []) new))
          → ComesTo folds text left before count old → OnOk result (ComesTo folds text rest before (count + 1) new)
      comes-taken None count old new (Ok x) e room goes comes = comes-folded count old new room goes comes
      comes-taken None count old new (Err error) e room goes comes = tt
      comes-taken (Some refusal) count old new result e room goes comes = absurd (cc)

      pub comes-past : (before : Option Refusal) (count : ℕ) (fold : F) → before ≡ None
          → ((done : Parts) → folds done fold → most_units ≤ length done)
          → ComesTo folds text left before count fold → ComesTo folds text rest (Some StreamFull) (count + 1) fold
      comes-past None count fold e full comes = comes-full count fold full comes
      comes-past (Some refusal) count fold e full comes = absurd (cc)

    -- one that is refused
    module _ (some : 0 < length left) where
      none_in_text : ((units : List (List ℕ)) → HasUnits front units → ⊥) → (before : Option Refusal) (count : ℕ) (fold : F)
          → ComesTo folds text left before count fold → (units : List (List ℕ)) → HasUnits text units → ⊥
      none_in_text none None count fold (done, are, few, folded) = no_units_in_front text done left front rest are.read is some none
      none_in_text none (Some StreamFull) count fold (done, are, over) = no_units_in_front text done left front rest are.read is some none
      none_in_text none (Some (Unit index refused)) count fold (done, read, first) = no_units_in_front text done left front rest read is some none
      none_in_text none (Some Split) count fold unsplit = unsplit

      module _ (refused : Refused) (part : List (List ℕ)) (has : HasUnits front part) (is_refused : IsRefused (joined part) refused) where
        now_first : (done : Parts) (count : ℕ) → AreAccepted done → count ≡ length done → IsFirstRefused (done ++ part ∷ []) count refused
        now_first done count accepted counted = rw counted (record {
          in_range = omega (arith, length-push done part);
          is_refused = rw (get_or_at done part [] [] (length done) refl) is_refused;
          before = rw (take_at done (part ∷ []) (length done) refl) accepted;
        })

        refused_more : (before : Option Refusal) (count : ℕ) (fold : F) → ComesTo folds text left before count fold
            → ComesTo folds text rest (refused_after before count refused) (count + 1) fold
        refused_more None count fold (done, are, few, folded) =
            (done ++ part ∷ [], read_more text done left front rest are.read is part has, now_first done count are.accepted are.counted)
        refused_more (Some StreamFull) count fold (done, are, over) =
            (done ++ part ∷ [], read_more text done left front rest are.read is part has, now_first done count are.accepted are.counted)
        refused_more (Some (Unit index other)) count fold (done, read, first) =
            (done ++ part ∷ [], read_more text done left front rest read is part has, still_first done part index other first)
        refused_more (Some Split) count fold none = none

      pub comes-refused : (refused : Refused) → refused ≢ refusals.Memory → IsFrontRefused front refused
          → (before : Option Refusal) (count : ℕ) (fold : F) → ComesTo folds text left before count fold
          → ComesTo folds text rest (refusal_with before count refused) (count + 1) fold
      comes-refused refusals.Memory other h before count fold comes = absurd (other refl)
      comes-refused refusals.Split other h before count fold comes = none_in_text h before count fold comes
      comes-refused refused other h before count fold comes = refused_more refused h.0 h.1 h.2 before count fold comes

  -- at the end
  module _ (text : List ℕ) (fold : F) (count : ℕ) where
    folded_end : count ≢ 0 → ComesTo folds text [] None count fold → IsFoldOfStream folds text fold
    folded_end some (done, are, few, folded) = record {
      parts = done;
      stream = record { has = read_all text done are.read (some_done done count are.counted some); accepted = are.accepted };
      bounded = few;
      folded = folded;
    }

    none_end : count ≡ 0 → ComesTo folds text [] None count fold → IsStreamRefused text most_units Split
    none_end none (done, are, few, folded) = read_nothing text done are.read (no_done done (sym are.counted ∙ none))

    refused_end : (refusal : Refusal) → ComesTo folds text [] (Some refusal) count fold → IsStreamRefused text most_units refusal
    refused_end Split none = none
    refused_end (Unit index refused) (done, read, first) = (done, read_all text done read (omega (arith, first.in_range)), first)
    refused_end StreamFull (done, are, over) =
        (done, record { has = read_all text done are.read (omega (arith, over)); accepted = are.accepted }, over)

    pub ends-folded : (before : Option Refusal) → before ≡ None → count ≢ 0 → ComesTo folds text [] before count fold
        → IsFoldOfStream folds text fold
    ends-folded None e some comes = folded_end some comes
    ends-folded (Some refusal) e some comes = absurd (cc)

    pub ends-none : (before : Option Refusal) → before ≡ None → count ≡ 0 → ComesTo folds text [] before count fold
        → IsStreamRefused text most_units Split
    ends-none None e none comes = none_end none comes
    ends-none (Some refusal) e none comes = absurd (cc)

    pub ends-refused : (before : Option Refusal) (refusal : Refusal) → before ≡ Some refusal → ComesTo folds text [] before count fold
        → IsStreamRefused text most_units refusal
    ends-refused None refusal e comes = absurd (cc)
    ends-refused (Some own) refusal e comes =
        let same : own ≡ refusal = cc in
        subst (λ it. IsStreamRefused text most_units it) same (refused_end own comes)
