-- Where the keys that later units need are what they were, those units keep theirs.
use Rattle.std.proofs.Common.{◌≡◌, refl, ap, sym, ◌∙◌, subst, ℕ, zero, suc, ◌≤◌, List, [], ◌∷◌, ◌++◌, ◌⊎◌, All, length, map, take, drop, Option, None, Some, inl, inr, arith, append_assoc}
use Rattle.std.specs.List.{zip}
use Rattle.std.proofs.lemmas.List.{drop_all}
use Rattle.std.proofs.lemmas.List.Elements.{All-nil, All-cons, All-head, All-tail}
use Rattle.unit_outcomes.specs.declared.outcome.Outcome.{Outcome}
use Rattle.h264_types.specs.declared.pictures.frames.Frame.{Frame}
use Rattle.request_core.specs.States.{FoldState, marked_ids}
use Rattle.decode_jobs.specs.Keys.{Key}
use Rattle.picture_keys.specs.Known.{Known, key_at, known_after, keys_after, keys_of}
use Rattle.picture_keys.specs.Depending.{AreAlike, DependOn}
use Rattle.picture_keys.specs.Numbered.{Numbers, number_at, numbers_over, StandsFor, AreNumbered, AllStandFor}
use Rattle.picture_keys.specs.Following.{UnitNumbers, Follow}
use Rattle.picture_keys.proofs.Columns.{numbered_over}
use Rattle.picture_store.specs.Stored.{Trees}
use Rattle.picture_store.specs.Needs.{AgreeAt, TellNeeds, between}
use Rattle.picture_store.proofs.Fronts.{keys_append, stand_append, stand_front, stand_behind, stand_length, zip_behind, between_rest}

-- a number stands for one key
one_key : (keys : Trees) (number : Option ℕ) (first second : Option Key) → StandsFor keys number first
    → StandsFor keys number second → first ≡ second
one_key keys None first second is are = is ∙ sym are
one_key keys (Some number) None second is are = absurd is
one_key keys (Some number) (Some first) None is are = absurd are
one_key keys (Some number) (Some first) (Some second) is are = sym is ∙ are

-- numbers before a place that are the same one by one
pub agree_alike : (states : List (ℕ × FoldState)) (place : ℕ) (before was after : Numbers)
    → ((id : ℕ) → number_at before id ≡ number_at was id) → AgreeAt states place before after → AgreeAt states place was after
agree_alike states place before was after same agree =
    (agree.0, agree.1, λ k d within. sym (same _) ∙ agree.2 k d within)

module _ (keys : Trees) (before after : Numbers) (known other : Known) (first : AreNumbered keys before known)
    (second : AreNumbered keys after other) where
  frames_alike : (frames : List Frame) → All (λ frame. number_at before frame.id ≡ number_at after frame.id) frames
      → AreAlike known other (map (λ frame. frame.id) frames)
  frames_alike [] all = All-nil (λ (id : ℕ). key_at known id ≡ key_at other id)
  frames_alike (frame ∷ frames) all =
      let same = All-head (λ (frame : Frame). number_at before frame.id ≡ number_at after frame.id) frame frames all in
      let rest = All-tail (λ (frame : Frame). number_at before frame.id ≡ number_at after frame.id) frame frames all in
      All-cons (λ (id : ℕ). key_at known id ≡ key_at other id) frame.id (map (λ frame. frame.id) frames)
      (one_key keys (number_at after frame.id) (key_at known frame.id) (key_at other frame.id)
      (subst (λ number. StandsFor keys number (key_at known frame.id)) same (first frame.id)) (second frame.id))
      (frames_alike frames rest)

module _ (keys : Trees) (ids : List ℕ) (outcomes : List Outcome) (numbers : List (Option ℕ)) (same : length ids ≡ length outcomes)
    (stand : AllStandFor keys numbers (keys_of (zip ids outcomes))) (states : List (ℕ × FoldState))
    (told : TellNeeds states ids outcomes) (past : ℕ) where
  pub numbered_front : AreNumbered keys (numbers_over [] (take past ids) (take past numbers))
      (known_after [] (zip (take past ids) (take past outcomes)))
  numbered_front =
      numbered_over keys [] [] (take past ids) (take past numbers) (take past outcomes) (λ id. refl)
      (stand_front keys [] past numbers ids outcomes stand) (taken past ids outcomes same)
    where
      taken : {A B : Type 0} (n : ℕ) (xs : List A) (ys : List B) → length xs ≡ length ys → length (take n xs) ≡ length (take n ys)
      taken zero xs ys same = refl
      taken (suc n) [] [] same = refl
      taken (suc n) [] (y ∷ ys) same = absurd (omega (arith, same))
      taken (suc n) (x ∷ xs) [] same = absurd (omega (arith, same))
      taken (suc n) (x ∷ xs) (y ∷ ys) same = ap suc (taken n xs ys (omega (arith, same)))

  module _ (after : Numbers) (known : Known) (numbered : AreNumbered keys after known) where
    agreed : AgreeAt states past (numbers_over [] (take past ids) (take past numbers)) after
        → AllStandFor keys (drop past numbers) (keys_after known (zip (drop past ids) (drop past outcomes)))
    agreed agree =
        let was : Known = known_after [] (zip (take past ids) (take past outcomes)) in
        let needs : DependOn (marked_ids agree.0) (zip (drop past ids) (drop past outcomes)) =
        subst (DependOn (marked_ids agree.0)) (zip_behind past ids outcomes same) (told past agree.0 agree.1) in
        subst (AllStandFor keys (drop past numbers))
        (needs was known
        (frames_alike keys (numbers_over [] (take past ids) (take past numbers)) after was known numbered_front numbered
        agree.0.marks.frames agree.2))
        (stand_behind keys [] past numbers ids outcomes stand same)

    ended : past ≡ length ids
        → AllStandFor keys (drop past numbers) (keys_after known (zip (drop past ids) (drop past outcomes)))
    ended end =
        let long : length numbers ≡ length ids = stand_length keys [] numbers ids outcomes stand same in
        let no_found : drop past numbers ≡ [] = drop_all past numbers (omega (arith, end, long)) in
        let no_ids : drop past ids ≡ [] = drop_all past ids (omega (arith, end)) in
        rw (no_found, no_ids) tt

    -- the numbers of the units from there on stand for their keys
    pub behind_stand : (past ≡ length ids) ⊎ AgreeAt states past (numbers_over [] (take past ids) (take past numbers)) after
        → AllStandFor keys (drop past numbers) (keys_after known (zip (drop past ids) (drop past outcomes)))
    behind_stand (inl end) = ended end
    behind_stand (inr agree) = agreed agree

  -- and so those of all from a changed splice on
  pub anew_stand : (known : Known) (units : List (ℕ × Outcome)) (to : ℕ) (after : UnitNumbers) → to ≤ past
      → Follow keys known (units ++ between to past ids outcomes) after
      → (past ≡ length ids) ⊎ AgreeAt states past (numbers_over [] (take past ids) (take past numbers)) after.numbers
      → AllStandFor keys (after.found ++ drop past numbers) (keys_after known (units ++ zip (drop to ids) (drop to outcomes)))
  anew_stand known units to after below follow agree =
      let front : List (ℕ × Outcome) = units ++ between to past ids outcomes in
      let rest : List (ℕ × Outcome) = zip (drop past ids) (drop past outcomes) in
      let parts : front ++ rest ≡ units ++ zip (drop to ids) (drop to outcomes) =
      append_assoc units (between to past ids outcomes) rest
      ∙ ap (λ more. units ++ more) (sym (between_rest to past ids outcomes below same)) in
      subst (λ all. AllStandFor keys (after.found ++ drop past numbers) (keys_after known all)) parts
      (subst (AllStandFor keys (after.found ++ drop past numbers)) (sym (keys_append known front rest))
      (stand_append keys after.found (drop past numbers) (keys_after known front) (keys_after (known_after known front) rest)
      follow.stand (behind_stand after.numbers (known_after known front) follow.numbered agree)))
