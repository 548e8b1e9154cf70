use Rattle.std.proofs.Common.{◌≡◌, ◌<◌, ◌≤◌, ◌+◌, ◌++◌, ◌*◌, ◌^◌, ℕ, List, length, take, replicate, get_or, ◌∙◌, ap, arith}
use Rattle.std.proofs.lemmas.List.{take_more, length-take-le, length-append}
use Rattle.std.proofs.Math.Nat.{pow-le-pow_right}
use Rattle.std.specs.Option.{unwrap_or}
use Rattle.expgolomb.specs.Bits.{number, bits_of}
use Rattle.expgolomb.proofs.Numbers.{AreBytes, number-push, number-bits_of-lt, get_or-zeros}
use Rattle.expgolomb.proofs.word.last_word.Goals as goal

-- the number of fewer than eight bytes has room for one more
room : (bytes : List ℕ) (i : ℕ) → i < 8 → number (bits_of (take i (bytes ++ replicate 8 0))) < 2 ^ 56
room bytes i h =
    let long : length (take i (bytes ++ replicate 8 0)) ≡ i = length-take-le i (bytes ++ replicate 8 0) (rw length-append (omega arith)) in
    let within : 2 ^ (8 * length (take i (bytes ++ replicate 8 0))) ≤ 2 ^ 56 = pow-le-pow_right {n = 2} (omega arith) {i = 8 * length (take i (bytes ++ replicate 8 0))} {j = 56} (omega arith) in
    omega (arith, number-bits_of-lt (take i (bytes ++ replicate 8 0)))

next : (bytes : List ℕ) (i byte word : ℕ) → AreBytes bytes → i < 8 → byte ≡ get_or bytes i 0 → word ≡ number (bits_of (take i (bytes ++ replicate 8 0))) → 256 * word + byte ≡ number (bits_of (take (i + 1) (bytes ++ replicate 8 0)))
next bytes i byte word are h b w =
    let within : i < length (bytes ++ replicate 8 0) = rw length-append (omega arith) in
    let more = take_more (bytes ++ replicate 8 0) i 0 within in
    let here = get_or-zeros bytes 8 i in
    let push = number-push (take i (bytes ++ replicate 8 0)) (get_or bytes i 0) (are i) in
    rw (more, here, push) (omega arith)

pub overflow_mul-word : goal.overflow_mul-word
overflow_mul-word c = omega (arith, room c.args.bytes.now c.loop-i.i c.loop-i-test.true)

pub overflow_add-word : goal.overflow_add-word
overflow_add-word c =
    let is : c.from.result ≡ get_or c.args.bytes.now c.loop-i.i 0 = c.from.ensures ∙ (c.unwrap_or.ensures ∙ (ap (λ o. unwrap_or o 0) c.copied.ensures ∙ c.get.ensures.lookup.4 (omega arith) 0)) in
    omega (arith, room c.args.bytes.now c.loop-i.i c.loop-i-test.true, c.type_inv.bytes c.loop-i.i)

pub loop-i-preserved : goal.loop-i-preserved
loop-i-preserved c =
    next c.args.bytes.now c.loop-i.i c.from.result c.loop-i.word (λ i. omega (arith, c.type_inv.bytes i)) c.loop-i-test.true (c.from.ensures ∙ (c.unwrap_or.ensures ∙ (ap (λ o. unwrap_or o 0) c.copied.ensures ∙ c.get.ensures.lookup.4 (omega arith) 0))) c.loop-i.invariant
