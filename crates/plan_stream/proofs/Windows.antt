-- What a stream comes to, with what its window and its reader have left.
use Rattle.std.proofs.Common.{◌≡◌, ◌<◌, ℕ, Bool, true, false, ltb, List, [], ◌∷◌, length, Option, Some, None, IfSome, refl, sym, ◌∙◌, arith}
use Rattle.std.proofs.lemmas.Bool.{false≢true, ltb-true, ltb-false}
use Rattle.plan_stream.specs.declared.window.Window.{Window}
use Rattle.plan_stream.specs.Fronts.{IsFront}
use Rattle.plan_stream.specs.Windows.{HasLeft, Shows, front_of, held_by}
use Rattle.plan_stream.specs.declared.gathering.StreamGathering.{StreamGathering}
use Rattle.plan_stream.specs.Gathering.{IsGathered}

no_bytes : (left : List ℕ) → ltb 0 (length left) ≡ false → left ≡ []
no_bytes [] e = refl
no_bytes (byte ∷ left) e = absurd (omega (arith, ltb-false 0 (length (byte ∷ left)) e))

-- what a fold is after the access units that it took
module _ {F : Type 0} (folds : List (List (List ℕ)) → F → Type 0) where
  -- of a text that is known, what isn't left is gathered
  abbrev pub Goes : Option (List ℕ) → Window → Option (List ℕ) → StreamGathering F → Type 0
  Goes known window now gathering =
      IfSome known (λ text. (left : List ℕ) × HasLeft window now left × IsGathered folds text left gathering)

  -- at first all is left
  pub goes-first : (known : Option (List ℕ)) (window : Window) (gathering : StreamGathering F) → held_by window ≡ []
      → window.is_over ≡ false → ((text : List ℕ) → IsGathered folds text text gathering) → Goes known window known gathering
  goes-first None window gathering held over all = tt
  goes-first (Some text) window gathering held over all =
      (text, record { left_is = rw held refl; over = λ is. absurd (false≢true (sym over ∙ is)) }, all text)

  -- at the end nothing is
  pub goes-last : (known now after : Option (List ℕ)) (window next : Window) (gathering : StreamGathering F) (is_some : Bool)
      → is_some ≡ false → ((left : List ℕ) → HasLeft window now left → Shows left is_some next after)
      → Goes known window now gathering → IfSome known (λ text. IsGathered folds text [] gathering)
  goes-last None now after window next gathering is_some none shows goes = tt
  goes-last (Some text) now after window next gathering is_some none shows (left, has, is) =
      let nothing = no_bytes left (sym (shows left has).some ∙ none) in
      rw nothing at is

  -- an access unit more is gathered
  pub goes-more : (known now after : Option (List ℕ)) (window next : Window) (old new : StreamGathering F) (is_some : Bool)
      → is_some ≡ true → ((left : List ℕ) → HasLeft window now left → Shows left is_some next after)
      → ((text left rest : List ℕ) → 0 < length left → IsFront left (front_of next) rest
      → IsGathered folds text left old → IsGathered folds text rest new)
      → Goes known window now old → Goes known next after new
  goes-more None now after window next old new is_some any shows adds goes = tt
  goes-more (Some text) now after window next old new is_some any shows adds (left, has, is) =
      let shown = shows left has in
      (shown.rest, shown.has, adds text left shown.rest (ltb-true 0 (length left) (sym shown.some ∙ any)) shown.front is)
