-- Surfaces that go back one after the other, each told behind those before it.
use Rattle.std.proofs.Common.{◌≡◌, ◌∙◌, ℕ, ◌<◌, List, [], ◌∷◌, ◌++◌, length, map, set, Some, refl, ap, sym, subst, arith}
use Rattle.std.specs.Prelude.{IsPermutation}
use Rattle.std.proofs.lemmas.List.{append_assoc, length-map, map-append}
use Rattle.std.proofs.lemmas.List.Elements.{All-push}
use Rattle.std.proofs.lemmas.List.Sorted.{IsPermutation-append_right, IsPermutation-trans}
use Rattle.picture_store.specs.Released.{IsUnreferred}
use Rattle.picture_store.specs.Stores.{OutValue}
use Rattle.decode_jobs.specs.declared.surfaces.surface.Surface.{Surface}
use Rattle.stream_session.proofs.ByNumber.{same_machine}
use Rattle.stream_session.specs.Needing.{AnswersReleased}
use Rattle.c_calls.specs.Grouping.{filled}
use Rattle.c_calls.specs.Machines.{Machine}
use Rattle.c_calls.specs.Releasing.{Release, handle_of}

-- a session with these released
abbrev releasing : Machine → List Surface → Machine
releasing machine surfaces = record machine { pictures = record machine.pictures { released = surfaces } }

-- what goes back leaves the rest as it is
released_is : (old : Machine) (surface : Surface) (new : Machine) → AnswersReleased old (Some surface) new
    → new ≡ releasing old new.pictures.released
released_is old surface new answers =
    same_machine (releasing old new.pictures.released) new answers.0.2 answers.1

-- one more goes back
pub Release-more : (old : Machine) (gone : List Surface) (middle : Machine) (surface : Surface) (new : Machine)
    → Release old gone middle → AnswersReleased middle (Some surface) new → Release old (gone ++ surface ∷ []) new
Release-more old gone middle surface new before answers = record {
  back = subst (λ (all : List Surface). IsPermutation old.pictures.released all)
      (sym (append_assoc gone (surface ∷ []) new.pictures.released))
      (IsPermutation-trans old.pictures.released (gone ++ middle.pictures.released) (gone ++ (surface ∷ new.pictures.released))
      before.back (IsPermutation-append_right gone middle.pictures.released (surface ∷ new.pictures.released) answers.0.1));
  unreferred = All-push (IsUnreferred old.jobs_out) gone surface before.unreferred
      (subst (λ (jobs : List (OutValue Surface)). IsUnreferred jobs surface) (ap (λ (machine : Machine). machine.jobs_out) before.keeps) answers.0.0);
  keeps = released_is middle surface new answers
      ∙ ap (λ (machine : Machine). releasing machine new.pictures.released) before.keeps;
}

-- what is written behind what stands in front
written : (front was : List ℕ) (value : ℕ) → length front < length was
    → set (filled front was) (length front) value ≡ filled (front ++ value ∷ []) was
written [] [] value short = absurd (omega (arith, short))
written [] (other ∷ was) value short = refl
written (first ∷ front) [] value short = absurd (omega (arith, short))
written (first ∷ front) (other ∷ was) value short =
    ap (λ (rest : List ℕ). first ∷ rest) (written front was value (omega (arith, short)))

-- the handles that are told, with one more
pub filled-more : (gone : List Surface) (surface : Surface) (was : List ℕ) (index : ℕ) → length gone ≡ index → index < length was
    → set (filled (map handle_of gone) was) index (surface.handle) ≡ filled (map handle_of (gone ++ surface ∷ [])) was
filled-more gone surface was index many short =
    let front : List ℕ = map handle_of gone in
    let long : length front ≡ index = length-map gone handle_of ∙ many in
    subst (λ (at : ℕ). set (filled front was) at (surface.handle) ≡ filled (map handle_of (gone ++ surface ∷ [])) was) long
    (written front was (surface.handle) (omega (arith, long, short))
    ∙ ap (λ (told : List ℕ). filled told was) (sym (map-append handle_of gone (surface ∷ []))))
