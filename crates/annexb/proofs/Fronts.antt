-- The front of a payload, by the prefix of its unit.
use Rattle.std.proofs.Common.{◌⊎◌, ⊎_elim, ◌≡◌, ℕ, zero, suc, ◌+◌, ◌-◌, ◌≤◌, min, List, [], ◌∷◌, ◌++◌, length, take, drop, arith, refl, ap, sym, ◌∙◌, length-append}
use Rattle.std.proofs.lemmas.List.{append_assoc, take-append-drop, take_all, take_at, length-take-le, drop-drop, drop-take, drop-append-le}
use Rattle.std.proofs.lemmas.Slice.{take-put_mid, drop-put_mid}
use borrow.Rule.Slice.PartMut.{put_mid}
use Rattle.memchr.specs.Find.{OccursAt, Nowhere, NoneBefore}
use Rattle.annexb.specs.EmulationPrevention.{payload_of, IsPlainFront}
use Rattle.annexb.proofs.Needles.{drop-occurs, OccursAt-from_drop}
use Rattle.annexb.proofs.Escapes.{BeginsEscaped, payload_of-plain, payload_of-escaped}

-- a payload begins as its bytes do
pub payload_of-first : (byte : ℕ) (bytes : List ℕ) → payload_of (byte ∷ bytes) ≡ byte ∷ drop 1 (payload_of (byte ∷ bytes))
payload_of-first zero [] = refl
payload_of-first zero (zero ∷ []) = refl
payload_of-first zero (zero ∷ zero ∷ bytes) = refl
payload_of-first zero (zero ∷ suc zero ∷ bytes) = refl
payload_of-first zero (zero ∷ suc (suc zero) ∷ bytes) = refl
payload_of-first zero (zero ∷ suc (suc (suc zero)) ∷ bytes) = refl
payload_of-first zero (zero ∷ suc (suc (suc (suc n))) ∷ bytes) = refl
payload_of-first zero (suc n ∷ bytes) = refl
payload_of-first (suc n) bytes = refl

payload_of-second : (bytes : List ℕ) → drop 1 (payload_of (0 ∷ 0 ∷ bytes)) ≡ 0 ∷ drop 2 (payload_of (0 ∷ 0 ∷ bytes))
payload_of-second [] = refl
payload_of-second (zero ∷ bytes) = payload_of-first 0 (0 ∷ bytes)
payload_of-second (suc zero ∷ bytes) = refl
payload_of-second (suc (suc zero) ∷ bytes) = refl
payload_of-second (suc (suc (suc zero)) ∷ bytes) = refl
payload_of-second (suc (suc (suc (suc n))) ∷ bytes) = refl

-- and with the payload of its front
pub payload_of-append : (front bytes : List ℕ) → (more : List ℕ) × (payload_of (front ++ bytes) ≡ payload_of front ++ more)
payload_of-append [] bytes = (payload_of bytes, refl)
payload_of-append (zero ∷ []) bytes = (drop 1 (payload_of (0 ∷ bytes)), payload_of-first 0 bytes)
payload_of-append (zero ∷ zero ∷ []) bytes =
    (drop 2 (payload_of (0 ∷ 0 ∷ bytes)), payload_of-first 0 (0 ∷ bytes) ∙ ap (λ l. 0 ∷ l) (payload_of-second bytes))
payload_of-append (zero ∷ zero ∷ zero ∷ front) bytes =
    let rest = payload_of-append (zero ∷ zero ∷ front) bytes in (rest.0, ap (λ l. 0 ∷ l) rest.1)
payload_of-append (zero ∷ zero ∷ suc zero ∷ front) bytes =
    let rest = payload_of-append front bytes in (rest.0, ap (λ l. 0 ∷ 0 ∷ 1 ∷ l) rest.1)
payload_of-append (zero ∷ zero ∷ suc (suc zero) ∷ front) bytes =
    let rest = payload_of-append front bytes in (rest.0, ap (λ l. 0 ∷ 0 ∷ 2 ∷ l) rest.1)
payload_of-append (zero ∷ zero ∷ suc (suc (suc zero)) ∷ front) bytes =
    let rest = payload_of-append front bytes in (rest.0, ap (λ l. 0 ∷ 0 ∷ l) rest.1)
payload_of-append (zero ∷ zero ∷ suc (suc (suc (suc n))) ∷ front) bytes =
    let rest = payload_of-append front bytes in (rest.0, ap (λ l. 0 ∷ 0 ∷ suc (suc (suc (suc n))) ∷ l) rest.1)
payload_of-append (zero ∷ suc n ∷ front) bytes =
    let rest = payload_of-append front bytes in (rest.0, ap (λ l. 0 ∷ suc n ∷ l) rest.1)
payload_of-append (suc n ∷ front) bytes =
    let rest = payload_of-append front bytes in (rest.0, ap (λ l. suc n ∷ l) rest.1)

-- what a search in a prefix of the bytes tells
module _ (bytes : List ℕ) (limit : ℕ) where
  abbrev size : ℕ
  size = min (length bytes) limit

  abbrev front : List ℕ
  front = take size bytes

  length-front : length front ≡ size
  length-front = length-take-le size bytes (omega arith)

  -- 00 00 03 in the front stands in the bytes, and the other way round
  in_bytes : (at : ℕ) → OccursAt front (0 ∷ 0 ∷ 3 ∷ []) at → drop at bytes ≡ 0 ∷ 0 ∷ 3 ∷ (drop (at + 3) front ++ drop size bytes)
  in_bytes at occurs =
      ap (drop at) (sym (take-append-drop size bytes)) ∙ drop-append-le at front (drop size bytes) (omega (arith, occurs.fits)) ∙ ap (λ l. l ++ drop size bytes) (drop-occurs front (0 ∷ 0 ∷ 3 ∷ []) at occurs)

  in_front : (at : ℕ) → at + 3 ≤ size → BeginsEscaped (drop at bytes) → BeginsEscaped (drop at front)
  in_front at fits (rest, e) =
      let more = size - at - 3 in
      let whole : size ≡ at + suc (suc (suc more)) = omega arith in
      (take more rest, ap (λ n. drop at (take n bytes)) whole ∙ drop-take at (suc (suc (suc more))) bytes ∙ ap (take (suc (suc (suc more)))) e)

  pub IsPlainFront-some : (at : ℕ)
      → NoneBefore (OccursAt front (0 ∷ 0 ∷ 3 ∷ [])) 0 (length front + 1) at × OccursAt front (0 ∷ 0 ∷ 3 ∷ []) at
      → IsPlainFront bytes limit (at + 2)
  IsPlainFront-some at (first, occurs) =
      let fits : at + 3 ≤ size = omega (arith, occurs.fits, length-front) in
      let rest = drop (at + 3) front ++ drop size bytes in
      let e = in_bytes at occurs in
      let whole = payload_of-escaped at bytes rest
      (λ k below escaped. let there = in_front k (omega arith) escaped in
      first.before k (omega arith) below (OccursAt-from_drop front (0 ∷ 0 ∷ 3 ∷ []) there.0 k (omega arith) there.1)) e in
      let past : at + 2 + 1 ≡ at + 3 = omega arith in
      let after : drop (at + 3) bytes ≡ rest = sym (drop-drop 3 at bytes) ∙ ap (drop 3) e in
      record {
        below = omega arith;
        in_range = omega arith;
        begins = (payload_of rest, whole);
        left_out = λ _ _. rw (past, after) whole;
        ends = λ end. absurd (omega arith);
      }

  pub IsPlainFront-none : Nowhere (OccursAt front (0 ∷ 0 ∷ 3 ∷ [])) 0 (length front + 1) → IsPlainFront bytes limit (length front)
  IsPlainFront-none nowhere =
      let plain = payload_of-plain front (λ at (rest, e).
      let occurs = OccursAt-from_drop front (0 ∷ 0 ∷ 3 ∷ []) rest at (omega arith) e in
      nowhere at (omega arith) (omega (arith, occurs.fits)) occurs) in
      let append = payload_of-append front (drop size bytes) in
      let size_is = length-front in
      record {
        below = omega arith;
        in_range = omega arith;
        begins = (append.0, ap payload_of (sym (take-append-drop size bytes)) ∙ append.1 ∙ ap (λ l. l ++ append.0) (plain ∙ ap (λ n. take n bytes) (sym size_is)));
        left_out = λ below inside. absurd (omega arith);
        ends = λ end. let same : front ≡ bytes = take_all size bytes (omega arith) in ap payload_of (sym same) ∙ plain ∙ same;
      }

-- one piece more of a payload's front
pub front_more : (front bytes written : List ℕ) (at len k : ℕ) → at + len ≤ length front → len ≤ length bytes
    → written ≡ take len bytes → take (at + len) (put_mid at k front written) ≡ take at front ++ take len bytes
front_more front bytes written at len k room inside written_is =
    let size = length-take-le len bytes inside in
    take-put_mid at k front written (at + len) (rw (written_is, size) refl) (omega arith) ∙ ap (λ l. take at front ++ l) written_is

-- and what stands after it stays
pub front_kept : (front initial bytes written : List ℕ) (at len k : ℕ) → k ≡ len → at + len ≤ length front → len ≤ length bytes
    → written ≡ take len bytes → drop at front ≡ drop at initial → drop (at + len) (put_mid at k front written) ≡ drop (at + len) initial
front_kept front initial bytes written at len k same room inside written_is kept =
    let size = length-take-le len bytes inside in
    drop-put_mid at k front written (at + len) (omega arith) (omega arith) (rw (written_is, size) (sym same))
    ∙ sym (drop-drop len at front) ∙ ap (drop len) kept ∙ drop-drop len at initial

-- and the last one
pub front_whole : (front rest payload : List ℕ) (at len limit : ℕ) → IsPlainFront rest (limit - at) len
    → limit ≡ length front → at ≤ length front → take at front ++ payload_of rest ≡ payload
    → (at + len ≡ limit) ⊎ (len ≡ length rest) → take at front ++ take len rest ≡ take limit payload
front_whole front rest payload at len limit piece size room so_far ends =
    let written = take at front ++ take len rest in
    let sizes : length written ≡ at + len = omega (arith, length-append (take at front) (take len rest), length-take-le at front room, length-take-le len rest piece.in_range) in
    let begins = piece.begins in
    ⊎_elim
    (λ full. sym (ap (take limit) (sym so_far ∙ ap (λ l. take at front ++ l) begins.1 ∙ sym (append_assoc (take at front) (take len rest) begins.0)) ∙ take_at written begins.0 limit (sizes ∙ full)))
    (λ all. let whole : take len rest ≡ rest = take_all len rest (omega arith) in
    let payload_is : payload ≡ written = sym so_far ∙ ap (λ l. take at front ++ l) (piece.ends all ∙ sym whole) in
    rw payload_is (sym (take_all limit written (omega (arith, piece.below)))))
    ends
