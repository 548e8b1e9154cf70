-- Lists of entries that a comparison finds equal.
use Rattle.std.proofs.Common.{◌≡◌, refl, ap, ℕ, List, Option, None, Some, nat_eq, Decides, rules}
use Rattle.std.specs.Option.{option_eq}
use Rattle.std.proofs.lemmas.Bool.Decides.{Decides-eqb, Decides-like}
use Rattle.std.proofs.lemmas.Slice.Eq.{slice_eq-Decides}
use lib.Pointwise.{pointwise}

entry_same : (a b : Option ℕ) → Decides (option_eq nat_eq a b) (a ≡ b)
entry_same None None = search rules
entry_same None (Some y) = search rules
entry_same (Some x) None = search rules
entry_same (Some x) (Some y) = Decides-like (nat_eq x y) (ap Some) (λ e. cc) (Decides-eqb x y)

pub entries_same : (a b : List (Option ℕ)) → Decides (pointwise (option_eq nat_eq) a b) (a ≡ b)
entries_same a b = slice_eq-Decides entry_same a b _ refl
