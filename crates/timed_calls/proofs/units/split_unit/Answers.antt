use Rattle.std.proofs.Common.{rules, arith, ◌≡◌, ◌<◌, ℕ, List, ◌++◌, length, get_or, take, drop, ap, sym, ◌∙◌, ⊎_elim, length-take}
use Rattle.std.proofs.lemmas.Bool.{cases_lt}
use Rattle.std.proofs.lemmas.Grind.{common_steps}
use Rattle.std.proofs.lemmas.List.{get_or-take, get_or_past, take-append-drop}
use Rattle.std.proofs.lemmas.Nat.{le_bytes_4}
use Rattle.std.specs.Int.{w32, from_le_bytes, to_le_bytes}
use Rattle.timed_calls.specs.Units.{framed}
use Rattle.timed_calls.proofs.units.split_unit.Goals as goal

-- what is taken of bytes is bytes
are_bytes : (file : List ℕ) → ((i : ℕ) → get_or file i 0 < 256) → (i : ℕ) → get_or (take 4 file) i 0 < 256
are_bytes file fit i = ⊎_elim
    (λ less. omega (arith, get_or-take 4 file i 0 less, fit i))
    (λ most. omega (arith, get_or_past (take 4 file) i 0 (omega (arith, most, length-take 4 file))))
    (cases_lt i 4)

framed_front : (file digits rest unit after : List ℕ) → digits ≡ take 4 file → rest ≡ drop 4 file
    → to_le_bytes w32 (length unit) ≡ digits → rest ≡ unit ++ after → file ≡ framed unit ++ after
framed_front file digits rest unit after front back is split =
    grind (arith, common_steps, front, back, is, split, take-append-drop 4 file)

pub returns : goal.returns
returns c =
    let digits : c.in-Some.length.now ≡ take 4 c.args.file.now = search rules in
    let rest : c.in-Some.rest.now ≡ drop 4 c.args.file.now = search rules in
    let number : c.from_le_bytes.result ≡ from_le_bytes w32 (take 4 c.args.file.now) =
    c.from_le_bytes.ensures ∙ ap (λ (bytes : List ℕ). from_le_bytes w32 bytes) digits in
    let long : length c.in-Some-split_at_checked.parts.0.now ≡ c.from_le_bytes.result = search rules in
    let written : to_le_bytes w32 c.from_le_bytes.result ≡ take 4 c.args.file.now = le_bytes_4 (take 4 c.args.file.now) _
    (search rules) (are_bytes c.args.file.now (λ i. search (rules, c.type_inv.file i))) number in
    let parts : c.in-Some.rest.now ≡ c.in-Some-split_at_checked.parts.0.now ++ c.in-Some-split_at_checked.parts.1.now =
    grind (arith, common_steps, take-append-drop c.from_le_bytes.result c.in-Some.rest.now) in
    framed_front c.args.file.now _ _ _ _ digits rest
    (ap (λ (n : ℕ). to_le_bytes w32 n) long ∙ (written ∙ sym digits)) parts
