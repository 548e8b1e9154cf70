-- The walk along bytes to the first start code that tells a kind, and the first bytes of a file.
use Rattle.std.proofs.Common.{◌≡◌, ℕ, ◌+◌, ◌<◌, ◌≤◌, List, length, drop, take, ap, sym, ◌∙◌}
use Rattle.std.proofs.lemmas.List.{drop_more, take_all}
use Rattle.stream_reasons.specs.Headers.{first_of, header_kind, kind_at}

-- how it goes on at a place
pub header_kind-drop : (bytes : List ℕ) (at : ℕ) → at < length bytes
    → header_kind (drop at bytes) ≡ first_of (kind_at (drop at bytes)) (header_kind (drop (at + 1) bytes))
header_kind-drop bytes at here =
    let more = drop_more bytes at 0 here in
    ap header_kind more ∙ ap (λ l. first_of (kind_at l) (header_kind (drop (at + 1) bytes))) (sym more)

-- for the tactics
pub ruleset header_kind_steps = (header_kind-drop)

-- the first bytes of a file that has no more are all
pub all_are_first : (text : List ℕ) → length text ≤ 65536 → take 65536 text ≡ text
all_are_first text few = take_all 65536 text few

-- for the tactics
pub ruleset whole_steps = (all_are_first)
