-- A stream with one unit more, one fewer, and another one in its place.
use Rattle.std.proofs.Common.{◌≡◌, ℕ, ◌+◌, ◌<◌, List, [], ◌∷◌, ◌++◌, length, take, drop, set, ◌∙◌, refl, add-one, append_assoc}
use Rattle.std.specs.Prelude.{insert, remove}
use Rattle.std.proofs.lemmas.List.{set_split}
use Rattle.stream_edits.specs.Streams.{Stream}

pub inserted : (stream : Stream) (at : ℕ) (unit : ℕ × List (List ℕ)) → take at stream ++ unit ∷ [] ++ drop at stream ≡ insert stream at unit
inserted stream at unit = append_assoc (take at stream) (unit ∷ []) (drop at stream)

pub deleted : (stream : Stream) (at : ℕ) → take at stream ++ [] ++ drop (at + 1) stream ≡ remove stream at
deleted stream at = append_assoc (take at stream) [] (drop (at + 1) stream) ∙ (rw add-one refl)

pub replaced : (stream : Stream) (at : ℕ) (unit : ℕ × List (List ℕ)) → at < length stream
    → take at stream ++ unit ∷ [] ++ drop (at + 1) stream ≡ set stream at unit
replaced stream at unit inside =
    append_assoc (take at stream) (unit ∷ []) (drop (at + 1) stream) ∙ (rw (set_split stream at unit inside, add-one) refl)
