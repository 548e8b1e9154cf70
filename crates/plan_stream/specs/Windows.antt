-- What a window shows, and what it and its reader have left.
use Rattle.std.specs.Prelude.{◌≡◌, ℕ, nat_lt, Bool, true, List, length, slice_range, Option, Some}
use Rattle.std.specs.Io.KnownBytes.{IsAtEnd, prepend_known}
use Rattle.plan_stream.specs.declared.window.Window.{Window}
use Rattle.plan_stream.specs.Fronts.{IsFront}
use Rattle.plan_stream.specs.Walks.{IsWalked}

-- the text of the access unit that the window shows
abbrev pub front_of : Window → List ℕ
front_of window = slice_range window.buffer.items window.start window.cut

-- the bytes after it that were read
abbrev pub held_by : Window → List ℕ
held_by window = slice_range window.buffer.items window.cut window.end

-- the window's walk has come so far along the bytes after it
abbrev pub IsWalkedAlong : Window → Type 0
IsWalkedAlong window = IsWalked (held_by window) window.walk

-- after what the window shows these bytes are left, in it and then in its reader, whose bytes are known
pub record HasLeft (window : Window) (known : Option (List ℕ)) (left : List ℕ) : Type 0 where
  pub left_is : prepend_known (held_by window) known ≡ Some left
  pub over : window.is_over ≡ true → IsAtEnd known

-- of these bytes, if there are any, the window shows the text of the first access unit, and the rest is left
pub record Shows (left : List ℕ) (is_some : Bool) (window : Window) (known : Option (List ℕ)) : Type 0 where
  pub rest : List ℕ
  pub has : HasLeft window known rest
  pub front : IsFront left (front_of window) rest
  pub some : is_some ≡ nat_lt 0 (length left)
