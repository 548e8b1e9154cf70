-- How often a loop reads again.
use Rattle.std.proofs.Common.{◌≡◌, ℕ, ◌-◌, ◌<◌, ◌≤◌, Bool, true, false, length, drop, refl, sym, arith}
use Rattle.std.proofs.lemmas.Bool.{false≢true}
use Rattle.std.proofs.lemmas.List.{length-drop, length-take-le}
use Rattle.plan_stream.specs.declared.window.Window.{Window}
use Rattle.plan_stream.specs.Windows.{held_by}

-- not where the reader is over, else at most so often
abbrev pub reads_left : Bool → ℕ → ℕ
reads_left true most = 0
reads_left false most = most

pub fewer-left : (was is : Bool) (most less : ℕ) → was ≡ false → 0 < most → (is ≡ false → less < most)
    → reads_left is less < reads_left was most
fewer-left true is most less over some fewer = absurd (false≢true (sym over))
fewer-left false true most less over some fewer = some
fewer-left false false most less over some fewer = fewer refl

-- how many bytes a window holds
pub held-len : (window : Window) → window.cut ≤ window.end → window.end ≤ length window.buffer.items
    → length (held_by window) ≡ window.end - window.cut
held-len window held within =
    let xs = window.buffer.items in
    length-take-le (window.end - window.cut) (drop window.cut xs) (omega (arith, within, length-drop window.cut xs))
