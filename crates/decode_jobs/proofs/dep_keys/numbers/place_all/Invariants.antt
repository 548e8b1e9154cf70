use Rattle.std.proofs.Common.{◌≡◌, ◌<◌, ℕ, length}
use Rattle.std.specs.Prelude.{slice_index}
use Rattle.decode_jobs.proofs.dep_keys.numbers.place_all.Given as goal

abbrev pub invariant-loop-place : goal.invariant-loop-place
invariant-loop-place l = (length l.places ≡ length l.initial.places)
    × ((i : ℕ) → i < l.place → slice_index l.places (slice_index l.live i) ≡ i)
