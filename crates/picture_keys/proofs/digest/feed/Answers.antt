use Rattle.std.proofs.Common.{◌≡◌, ◌∙◌, ◌++◌, ◌+◌, ◌∷◌, [], ℕ, List, ap, length, subst, append_assoc, length-append, arith}
use Rattle.std.specs.Int.{w64, to_le_bytes}
use Rattle.sha2.specs.Hashers.{Holds256}
use Rattle.annexb.specs.ByteStream.{start_code}
use Rattle.picture_keys.specs.SliceBytes.{coded, sized}
use Rattle.picture_keys.proofs.digest.feed.Goals as goal

-- the pieces that are fed are the bytes after their number
pieces : (message nal size : List ℕ) → size ≡ to_le_bytes w64 (length nal + 3)
    → ((message ++ size) ++ (0 ∷ 0 ∷ 1 ∷ [])) ++ nal ≡ message ++ sized (coded nal)
unfolding sized
pieces message nal size is =
    let long : length nal + 3 ≡ length (start_code ++ nal) = omega (arith, length-append start_code nal) in
    let sized_is : size ++ (start_code ++ nal) ≡ to_le_bytes w64 (length (start_code ++ nal)) ++ (start_code ++ nal) =
    ap (λ (size : List ℕ). size ++ (start_code ++ nal)) (is ∙ ap (to_le_bytes w64) long) in
    append_assoc (message ++ size) (0 ∷ 0 ∷ 1 ∷ []) nal
    ∙ (append_assoc message size (start_code ++ nal) ∙ ap (λ (bytes : List ℕ). message ++ bytes) sized_is)

pub returns-clause-fed : goal.returns-clause-fed
returns-clause-fed c = λ message holds.
    let nal : c.bytes-bytes.result.now ≡ c.args.slice.now = c.bytes-bytes.ensures.value ∙ c.nal-nal.ensures in
    subst (λ (nal : List ℕ). Holds256 c.update-3.new.self (message ++ sized (coded nal))) nal
    (subst (Holds256 c.update-3.new.self) (pieces message c.bytes-bytes.result.now c.to_le_bytes.result c.to_le_bytes.ensures)
    (c.update-3.ensures _ (c.update-2.ensures _ (c.update.ensures message holds))))
