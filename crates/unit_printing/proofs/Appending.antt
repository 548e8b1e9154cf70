-- Texts that grow piece by piece.
use Rattle.std.proofs.Common.{◌≡◌, ◌∙◌, ℕ, List, ◌++◌, ap, append_assoc}
use Rattle.unit_printing.specs.Growing.{Grows}

-- by a piece, and by what comes after it
pub more : {a b c x y : List ℕ} → Grows a b x → Grows b c y → Grows a c (x ++ y)
more {a} {b} {c} {x} {y} first next = record { by = next.by ∙ ap (λ l. l ++ y) first.by ∙ append_assoc a x y }

-- by the same piece
pub as_well : {a b x y : List ℕ} → x ≡ y → Grows a b x → Grows a b y
as_well e grows = rw e at grows
