-- A list that is filled place by place.
use Rattle.std.proofs.Common.{◌≡◌, ◌∙◌, ℕ, ◌+◌, ◌<◌, List, length, length-set, get_or, set, map, arith}
use Rattle.std.proofs.lemmas.List.Edits.{fill_by_more}
use Rattle.std.proofs.lemmas.List.FromFn.{fill_by_all}
use Rattle.std.specs.List.{range_with_len}

module _ {T : Type 0} (none : T) (f : ℕ → T) (size : ℕ) where
  -- the places so far have their values
  pub record IsFilled (count : ℕ) (xs : List T) : Type 0 where
    pub long : length xs ≡ size
    pub written : (k : ℕ) → k < count → get_or xs k none ≡ f k

  -- none yet
  pub filled-none : (xs : List T) → length xs ≡ size → IsFilled 0 xs
  filled-none xs long = record { long = long; written = λ k below. absurd (omega (arith, below)) }

  -- one place more
  pub filled-more : (count : ℕ) (xs : List T) (x : T) → IsFilled count xs → count < size → x ≡ f count
      → IsFilled (count + 1) (set xs count x)
  filled-more count xs x filled below is = record {
    long = length-set xs count x ∙ filled.long;
    written = rw is (fill_by_more f xs count none (omega (arith, below, filled.long)) filled.written);
  }

  -- all of them
  pub filled-all : (xs : List T) → IsFilled size xs → xs ≡ map f (range_with_len 0 size)
  filled-all xs filled = fill_by_all f xs size none filled.long filled.written
