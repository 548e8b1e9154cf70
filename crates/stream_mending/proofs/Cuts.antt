-- The cut of bytes at start codes, as a search finds them.
use Rattle.std.proofs.Common.{◌≡◌, ℕ, zero, suc, ◌+◌, ◌<◌, ⊎_elim, List, [], ◌∷◌, ◌++◌, length, take, drop, arith, refl, ap, sym, ◌∙◌, append_assoc, length-drop}
use Rattle.std.proofs.lemmas.Bool.{cases_lt}
use Rattle.std.proofs.lemmas.List.{drop-append-le, take-append-drop, length-take-le}
use Rattle.memchr.specs.Find.{OccursAt, Nowhere, NoneBefore}
use Rattle.annexb.specs.ByteStream.{start_code}
use Rattle.annexb.proofs.Needles.{drop-occurs, OccursAt-from_drop}
use Rattle.stream_mending.specs.Segments.{after_byte, cut_of, segment_at, segments_at}
use Rattle.stream_mending.specs.Mending.{segments_from}

-- no start code begins the bytes
abbrev pub NoCode : List ℕ → Type 0
NoCode bytes = (rest : List ℕ) → bytes ≡ start_code ++ rest → ⊥

-- one byte more, where none does
past : (byte : ℕ) (bytes : List ℕ) → NoCode (byte ∷ bytes) → cut_of (byte ∷ bytes) ≡ after_byte byte (cut_of bytes)
past zero [] none = refl
past zero (zero ∷ []) none = refl
past zero (zero ∷ zero ∷ bytes) none = refl
past zero (zero ∷ suc zero ∷ bytes) none = absurd (none bytes refl)
past zero (zero ∷ suc (suc n) ∷ bytes) none = refl
past zero (suc n ∷ bytes) none = refl
past (suc n) bytes none = refl

-- the cut at the first start code
pub cut_at : (front rest : List ℕ) → ((k : ℕ) → k < length front → NoCode (drop k (front ++ (start_code ++ rest))))
    → cut_of (front ++ (start_code ++ rest)) ≡ record { front = front; rest = (cut_of rest).front ∷ (cut_of rest).rest }
cut_at [] rest none = refl
cut_at (byte ∷ front) rest none =
    past byte (front ++ (start_code ++ rest)) (none 0 (omega arith))
    ∙ ap (after_byte byte) (cut_at front rest (λ k below. none (suc k) (omega arith)))

-- the cut where there is none
pub cut_none : (bytes : List ℕ) → ((k : ℕ) → NoCode (drop k bytes)) → cut_of bytes ≡ record { front = bytes; rest = [] }
cut_none [] none = refl
cut_none (byte ∷ bytes) none = past byte bytes (none 0) ∙ ap (after_byte byte) (cut_none bytes (λ k. none (suc k)))

-- the bytes of a start code, as they are searched for
abbrev pub needle : List ℕ
needle = 0 ∷ 0 ∷ 1 ∷ []

no_code : (bytes : List ℕ) (bound : ℕ) → Nowhere (OccursAt bytes needle) 0 bound → (k : ℕ) → k < bound → NoCode (drop k bytes)
no_code bytes bound nowhere k below rest e =
    nowhere k (omega arith) below (OccursAt-from_drop bytes needle rest k (omega arith) e)

-- where the search finds one
pub found_whole : (bytes : List ℕ) (ahead : ℕ) → OccursAt bytes needle ahead
    → bytes ≡ take ahead bytes ++ (start_code ++ drop (ahead + 3) bytes)
found_whole bytes ahead occurs =
    sym (take-append-drop ahead bytes) ∙ ap (λ l. take ahead bytes ++ l) (drop-occurs bytes needle ahead occurs)

pub found_cut : (bytes : List ℕ) (ahead : ℕ)
    → NoneBefore (OccursAt bytes needle) 0 (length bytes + 1) ahead × OccursAt bytes needle ahead
    → cut_of bytes
    ≡ record { front = take ahead bytes; rest = (cut_of (drop (ahead + 3) bytes)).front ∷ (cut_of (drop (ahead + 3) bytes)).rest }
found_cut bytes ahead (none, occurs) =
    let whole = found_whole bytes ahead occurs in
    let size : length (take ahead bytes) ≡ ahead = length-take-le ahead bytes (omega (arith, occurs.fits)) in
    ap cut_of whole
    ∙ cut_at (take ahead bytes) (drop (ahead + 3) bytes) (λ k below.
    subst_drop k (sym whole) (no_code bytes ahead none.before k (omega arith)))
  where
    subst_drop : {one other : List ℕ} (k : ℕ) → other ≡ one → NoCode (drop k one) → NoCode (drop k other)
    subst_drop k e h rest there = h rest (ap (drop k) (sym e) ∙ there)

-- three bytes in front are those of what they are in front of
front_code : (bytes more rest : List ℕ) → 3 < length bytes → bytes ++ more ≡ start_code ++ rest
    → (own : List ℕ) × (bytes ≡ start_code ++ own)
front_code [] more rest long e = absurd (omega (arith, long))
front_code (a ∷ []) more rest long e = absurd (omega (arith, long))
front_code (a ∷ b ∷ []) more rest long e = absurd (omega (arith, long))
front_code (a ∷ b ∷ c ∷ own) more rest long e = (own, cc)

-- bytes behind it change nothing of what stands before it
pub found_cut_more : (bytes : List ℕ) (ahead : ℕ) (more : List ℕ)
    → NoneBefore (OccursAt bytes needle) 0 (length bytes + 1) ahead × OccursAt bytes needle ahead
    → cut_of (bytes ++ more)
    ≡ record {
      front = take ahead bytes;
      rest = (cut_of (drop (ahead + 3) bytes ++ more)).front ∷ (cut_of (drop (ahead + 3) bytes ++ more)).rest;
    }
found_cut_more bytes ahead more (none, occurs) =
    ap cut_of whole ∙ cut_at (take ahead bytes) (drop (ahead + 3) bytes ++ more) (λ k below rest e.
    none_there k (omega (arith, below, size)) rest (ap (drop k) whole ∙ e))
  where
    size : length (take ahead bytes) ≡ ahead
    size = length-take-le ahead bytes (omega (arith, occurs.fits))

    whole : bytes ++ more ≡ take ahead bytes ++ (start_code ++ (drop (ahead + 3) bytes ++ more))
    whole =
        ap (λ l. l ++ more) (found_whole bytes ahead occurs)
        ∙ append_assoc (take ahead bytes) (start_code ++ drop (ahead + 3) bytes) more

    none_there : (k : ℕ) → k < ahead → NoCode (drop k (bytes ++ more))
    none_there k below rest e =
        let own = front_code (drop k bytes) more rest (omega (arith, below, length-drop k bytes, occurs.fits))
        (sym (drop-append-le k bytes more (omega (arith, below, occurs.fits))) ∙ e) in
        no_code bytes ahead none.before k below own.0 own.1

-- where it finds none
pub none_cut : (bytes : List ℕ) → Nowhere (OccursAt bytes needle) 0 (length bytes + 1) → cut_of bytes ≡ record { front = bytes; rest = [] }
none_cut bytes nowhere =
    cut_none bytes (λ k. ⊎_elim
    (λ inside. no_code bytes (length bytes + 1) nowhere k (omega arith))
    (λ past rest e. omega (arith, ap length e, length-drop k bytes))
    (cases_lt k (length bytes)))

-- the length of what is found
pub found_len : (bytes : List ℕ) (ahead : ℕ) → OccursAt bytes needle ahead
    → length bytes ≡ length (take ahead bytes) + (3 + length (drop (ahead + 3) bytes))
found_len bytes ahead occurs =
    omega (arith, length-take-le ahead bytes (omega (arith, occurs.fits)), length-drop (ahead + 3) bytes, occurs.fits)

-- the segments from a start code on, of which the first ends at the next one
pub next_segments : (bytes front rest : List ℕ) (place next : ℕ)
    → cut_of bytes ≡ record { front = front; rest = (cut_of rest).front ∷ (cut_of rest).rest }
    → next ≡ place + (length front + 3)
    → segments_from place bytes ≡ segment_at place front ∷ segments_from next rest
next_segments bytes front rest place next cut e =
    let there : place + (3 + length front) ≡ next = omega arith in
    ap (λ c. segments_at place (c.front ∷ c.rest)) cut
    ∙ ap (λ n. segment_at place front ∷ segments_at n ((cut_of rest).front ∷ (cut_of rest).rest)) there

-- the last one
pub last_segment : (bytes : List ℕ) (place : ℕ) → cut_of bytes ≡ record { front = bytes; rest = [] }
    → segments_from place bytes ≡ segment_at place bytes ∷ []
last_segment bytes place cut = ap (λ c. segments_at place (c.front ∷ c.rest)) cut
