-- A stream that isn't refused is written as it is: its NAL units are those of its segments.
use Rattle.std.proofs.Common.{◌≡◌, ℕ, zero, suc, ◌-◌, ◌<◌, ◌≤◌, List, [], ◌∷◌, ◌++◌, length, map, drop, replicate, arith, refl, ap, sym, ◌∙◌, append_assoc}
use Rattle.std.proofs.lemmas.Bool.{false≢true}
use Rattle.std.proofs.lemmas.List.{append-nil, length-replicate, drop-replicate}
use Rattle.std.specs.List.{flat_map}
use Rattle.annexb.specs.ByteStream.{start_code, AreUnits, BeginsWithUnit}
use Rattle.annexb.proofs.Tails.{IsTail, IsTail-from_unit, IsTail-drop}
use Rattle.stream_mending.specs.Segments.{Cut, after_code, cut_of, before_others, trimmed}
use Rattle.stream_mending.proofs.Cuts.{NoCode, cut_at, cut_none}

-- the text that a cut came from
abbrev pub uncut : Cut → List ℕ
uncut cut = cut.front ++ flat_map (λ bytes. start_code ++ bytes) cut.rest

pub uncut-cut_of : (bytes : List ℕ) → uncut (cut_of bytes) ≡ bytes
uncut-cut_of [] = refl
uncut-cut_of (zero ∷ []) = refl
uncut-cut_of (zero ∷ zero ∷ []) = refl
uncut-cut_of (zero ∷ zero ∷ zero ∷ bytes) = ap (λ l. 0 ∷ l) (uncut-cut_of (zero ∷ zero ∷ bytes))
uncut-cut_of (zero ∷ zero ∷ suc zero ∷ bytes) = ap (λ l. start_code ++ l) (uncut-cut_of bytes)
uncut-cut_of (zero ∷ zero ∷ suc (suc n) ∷ bytes) = ap (λ l. 0 ∷ l) (uncut-cut_of (zero ∷ suc (suc n) ∷ bytes))
uncut-cut_of (zero ∷ suc n ∷ bytes) = ap (λ l. 0 ∷ l) (uncut-cut_of (suc n ∷ bytes))
uncut-cut_of (suc n ∷ bytes) = ap (λ l. suc n ∷ l) (uncut-cut_of bytes)

-- no start code begins in a NAL unit, whatever may follow it
no_code_front : (unit gap : List ℕ) → 0 < length unit → IsTail unit → ((rest : List ℕ) → gap ≡ 1 ∷ rest → ⊥) → NoCode (unit ++ gap)
no_code_front [] gap some h follows rest e = omega arith
no_code_front (zero ∷ []) gap some h follows rest e = h.ends 0 refl refl
no_code_front (zero ∷ zero ∷ []) gap some h follows rest e = h.ends 1 refl refl
no_code_front (zero ∷ zero ∷ zero ∷ unit) gap some h follows rest e = cc
no_code_front (zero ∷ zero ∷ suc zero ∷ unit) gap some h follows rest e = false≢true (sym (h.allowed 0))
no_code_front (zero ∷ zero ∷ suc (suc n) ∷ unit) gap some h follows rest e = cc
no_code_front (zero ∷ suc n ∷ unit) gap some h follows rest e = cc
no_code_front (suc n ∷ unit) gap some h follows rest e = cc

-- nor in zeros, before a start code or the end
pub no_code_zeros : (count : ℕ) (rest : List ℕ) → 0 < count → NoCode (replicate count 0 ++ (start_code ++ rest))
no_code_zeros zero rest some more e = omega arith
no_code_zeros (suc zero) rest some more e = cc
no_code_zeros (suc (suc zero)) rest some more e = cc
no_code_zeros (suc (suc (suc count))) rest some more e = cc

no_code_end : (count : ℕ) → NoCode (replicate count 0)
no_code_end zero more e = cc
no_code_end (suc zero) more e = cc
no_code_end (suc (suc zero)) more e = cc
no_code_end (suc (suc (suc count))) more e = cc

pub drop_zeros_on : (count place : ℕ) (rest : List ℕ) → place ≤ count
    → drop place (replicate count 0 ++ rest) ≡ replicate (count - place) 0 ++ rest
drop_zeros_on zero zero rest below = refl
drop_zeros_on zero (suc place) rest below = absurd (omega arith)
drop_zeros_on (suc count) zero rest below = let e : suc count - 0 ≡ suc count = omega arith in rw e refl
drop_zeros_on (suc count) (suc place) rest below =
    let e : suc count - suc place ≡ count - place = omega arith in rw e (drop_zeros_on count place rest (omega arith))

not_one : (count : ℕ) (rest more : List ℕ) → replicate count 0 ++ (start_code ++ rest) ≡ 1 ∷ more → ⊥
not_one zero rest more e = cc
not_one (suc count) rest more e = cc

not_one_end : (count : ℕ) (more : List ℕ) → replicate count 0 ≡ 1 ∷ more → ⊥
not_one_end zero more e = cc
not_one_end (suc count) more e = cc

-- the cut behind a start code, before the next one
unit_cut : (unit rest : List ℕ) (count : ℕ) → IsTail unit
    → cut_of ((unit ++ replicate count 0) ++ (start_code ++ rest))
    ≡ record { front = unit ++ replicate count 0; rest = (cut_of rest).front ∷ (cut_of rest).rest }
unit_cut unit rest count h = cut_at (unit ++ replicate count 0) rest (no_code unit h)
  where
    no_code : (unit : List ℕ) → IsTail unit → (k : ℕ) → k < length (unit ++ replicate count 0)
        → NoCode (drop k ((unit ++ replicate count 0) ++ (start_code ++ rest)))
    no_code [] h k below more e =
        let size = length-replicate {A = ℕ} count 0 in
        no_code_zeros (count - k) rest (omega arith) more (sym (drop_zeros_on count k (start_code ++ rest) (omega arith)) ∙ e)
    no_code (byte ∷ unit) h zero below more e =
        no_code_front (byte ∷ unit) (replicate count 0 ++ (start_code ++ rest)) (omega arith) h (not_one count rest) more
        (sym (append_assoc (byte ∷ unit) (replicate count 0) (start_code ++ rest)) ∙ e)
    no_code (byte ∷ unit) h (suc k) below more e = no_code unit (IsTail-drop 1 (byte ∷ unit) h) k (omega arith) more e

-- and before the end
last_cut : (unit : List ℕ) (count : ℕ) → IsTail unit → cut_of (unit ++ replicate count 0) ≡ record { front = unit ++ replicate count 0; rest = [] }
last_cut unit count h = cut_none (unit ++ replicate count 0) (no_code unit h)
  where
    no_code : (unit : List ℕ) → IsTail unit → (k : ℕ) → NoCode (drop k (unit ++ replicate count 0))
    no_code [] h k more e = no_code_end (count - k) more (sym (drop-replicate k count 0) ∙ e)
    no_code (byte ∷ unit) h zero more e =
        no_code_front (byte ∷ unit) (replicate count 0) (omega arith) h (not_one_end count) more e
    no_code (byte ∷ unit) h (suc k) more e = no_code unit (IsTail-drop 1 (byte ∷ unit) h) k more e

-- a NAL unit and zeros, trimmed
trimmed-unit : (unit : List ℕ) (count : ℕ) → IsTail unit → trimmed (unit ++ replicate count 0) ≡ unit
trimmed-unit [] count h = none count
  where
    none : (count : ℕ) → trimmed (replicate count 0) ≡ []
    none zero = refl
    none (suc count) = ap (before_others 0) (none count)
trimmed-unit (byte ∷ unit) count h =
    ap (before_others byte) (trimmed-unit unit count (IsTail-drop 1 (byte ∷ unit) h)) ∙ last byte unit h
  where
    last : (byte : ℕ) (unit : List ℕ) → IsTail (byte ∷ unit) → before_others byte unit ≡ byte ∷ unit
    last zero [] h = absurd (h.ends 0 refl refl)
    last zero (next ∷ unit) h = refl
    last (suc n) unit h = refl

-- the NAL units behind start codes
abbrev pub trimmed_all : List (List ℕ) → List (List ℕ)
trimmed_all pieces = map trimmed pieces

pub units_cut : (bytes : List ℕ) (units : List (List ℕ)) → AreUnits bytes units
    → ((cut_of bytes).front ≡ []) × (trimmed_all (cut_of bytes).rest ≡ units)
units_cut bytes [] none = (ap (λ b. (cut_of b).front) none, ap (λ b. trimmed_all (cut_of b).rest) none)
units_cut bytes (unit ∷ []) (rest, begins, none) =
    let tail = IsTail-from_unit unit begins.unit_is in
    let text : bytes ≡ start_code ++ (unit ++ replicate begins.zeros 0) =
    begins.bytes_are ∙ ap (λ l. start_code ++ (unit ++ l)) (ap (λ l. replicate begins.zeros 0 ++ l) none ∙ append-nil (replicate begins.zeros 0)) in
    let cut = ap cut_of text ∙ ap after_code (last_cut unit begins.zeros tail) in
    (ap (λ c. c.front) cut, ap (λ c. trimmed_all c.rest) cut ∙ ap (λ u. u ∷ []) (trimmed-unit unit begins.zeros tail))
units_cut bytes (unit ∷ next ∷ units) (rest, begins, more) =
    let tail = IsTail-from_unit unit begins.unit_is in
    let begins_next = more.1 in
    let after = unit_of next begins_next in
    let text : bytes ≡ start_code ++ ((unit ++ replicate begins.zeros 0) ++ (start_code ++ after)) =
    begins.bytes_are ∙ ap (λ l. start_code ++ (unit ++ (replicate begins.zeros 0 ++ l))) begins_next.bytes_are
    ∙ ap (λ l. start_code ++ l) (sym (append_assoc unit (replicate begins.zeros 0) (start_code ++ after))) in
    let later = units_cut rest (next ∷ units) more in
    let rest_cut : cut_of rest ≡ after_code (cut_of after) = ap cut_of begins_next.bytes_are in
    let cut = ap cut_of text ∙ ap after_code (unit_cut unit after begins.zeros tail) in (
      ap (λ c. c.front) cut,
      ap (λ c. trimmed_all c.rest) cut
          ∙ ap (λ u. u ∷ trimmed_all ((cut_of after).front ∷ (cut_of after).rest)) (trimmed-unit unit begins.zeros tail)
          ∙ ap (λ l. unit ∷ l) (sym (ap (λ c. trimmed_all c.rest) rest_cut) ∙ later.1),
    )
  where
    unit_of : (next : List ℕ) {text rest : List ℕ} → BeginsWithUnit text next rest → List ℕ
    unit_of next {rest = rest} begins = next ++ (replicate begins.zeros 0 ++ rest)
