-- The commands of a script, read one after the other.
use Rattle.std.proofs.Common.{◌≡◌, ◌+◌, ◌-◌, ◌≤◌, ℕ, List, ◌∷◌, [], ◌++◌, length, take, drop, Bor, append-nil, append_assoc, sym, ◌∙◌, ap}
use Rattle.std.specs.Prelude.{Option}
use Rattle.std.proofs.lemmas.List.{drop-drop, drop-map, drop_all, length-drop, length-map, take-append-drop, take_rest}
use Rattle.edit_script.specs.declared.commands.Command.{Command}
use Rattle.edit_script.specs.Lines.{numbered_of}
use Rattle.edit_script.specs.Scripts.{AreCommand, AreRead}

-- whatever is read of the lines that are left, all lines are read so, behind what is done
abbrev pub IsDone : List (ℕ × List ℕ) → List (ℕ × List ℕ) → List (ℕ × Command) → Type 0
IsDone lines left done =
    (more : List (ℕ × Command)) (wrong : Option ℕ) → AreRead left more wrong → AreRead lines (done ++ more) wrong

-- a command more
pub more-done : (lines whole : List (ℕ × List ℕ)) (at : ℕ) (done : List (ℕ × Command)) (number : ℕ) (command : Command)
    (count : ℕ) → AreCommand (take count (drop at whole)) number command → IsDone lines (drop at whole) done
    → IsDone lines (drop (at + count) whole) (done ++ (number, command) ∷ [])
more-done lines whole at done number command count it so_far = λ more wrong rest.
    let parts : drop at whole ≡ take count (drop at whole) ++ drop (at + count) whole =
    sym (take-append-drop count (drop at whole)) ∙ ap (λ rest. take count (drop at whole) ++ rest) (drop-drop count at whole) in
    rw (append_assoc done ((number, command) ∷ []) more)
    (so_far ((number, command) ∷ more) wrong (take count (drop at whole), drop (at + count) whole, parts, it, rest))

-- all is done
pub all-done : (lines left : List (ℕ × List ℕ)) (done : List (ℕ × Command)) (wrong : Option ℕ)
    → IsDone lines left done → AreRead left [] wrong → AreRead lines done wrong
all-done lines left done wrong so_far ended = rw append-nil at (so_far [] wrong ended)

module _ (lines : List (ℕ × Bor (List ℕ))) (at : ℕ) where
  -- the lines that are left
  pub left-is : numbered_of (take (length lines - at) (drop at lines)) ≡ drop at (numbered_of lines)
  left-is =
      let numbered : ℕ × Bor (List ℕ) → ℕ × List ℕ = λ it. (it.0, it.1.now) in
      ap numbered_of (take_rest lines at) ∙ sym (drop-map numbered at lines)

  -- there are so many
  pub left-length : length (drop at (numbered_of lines)) ≡ length lines - at
  left-length =
      let numbered : ℕ × Bor (List ℕ) → ℕ × List ℕ = λ it. (it.0, it.1.now) in
      length-drop at (numbered_of lines) ∙ ap (λ n. n - at) (length-map lines numbered)

  -- none is left
  pub none-left : length lines ≤ at → drop at (numbered_of lines) ≡ []
  none-left past =
      let numbered : ℕ × Bor (List ℕ) → ℕ × List ℕ = λ it. (it.0, it.1.now) in
      let long : length (numbered_of lines) ≤ at = rw (length-map lines numbered) past in
      drop_all at (numbered_of lines) long
