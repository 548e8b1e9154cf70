-- The function that reads ue(v) codes, and what such a code is.
use Rattle.std.proofs.Common.{◌≡◌, ℕ, zero, suc, ◌+◌, ◌-◌, ◌^◌, ◌<◌, ◌≤◌, ◌↔◌, Bool, true, false, not, List, [], ◌∷◌, ◌++◌, length, take, drop, replicate, refl, sym, ◌∙◌, ap, subst, add_comm, add-one, sub-one, arith, inl, inr, ◌⊎◌, Result, Ok, Err, IfOk, IsErrOf}
use Rattle.std.specs.List.{prefix_len}
use Rattle.std.proofs.lemmas.Bool.{cases_lt, le-leb, lt-leb}
use Rattle.std.proofs.lemmas.List.{length-append, length-drop, length-replicate, append_assoc, take-append-drop, take_at, drop_at, length-take-le}
use Rattle.std.proofs.Math.Nat.{pow-le-pow_right}
use Rattle.std.proofs.lemmas.Nat.{pow_pos}
use Rattle.expgolomb.specs.declared.fault.CodeFault.{CodeFault}
use Rattle.expgolomb.specs.declared.fault.CodeFault.TheVariants.{Cut, TooLong}
use Rattle.expgolomb.specs.Bits.{number, Place, skip}
use Rattle.expgolomb.specs.Codes.{IsZeros, Follows, IsUe, IsCut, IsTooLong}
use Rattle.expgolomb.specs.Reading.{fixed_at, before, ue_at, Gives}
use Rattle.expgolomb.proofs.Windows.{front-lt}

-- equal answers have equal values
pub ok_is : {T E : Type 0} (x y : T) → ◌≡◌ {A = Result T E} (Ok x) (Ok y) → x ≡ y
ok_is x y e = cc

-- zeros alone, or zeros and then a 1
ZerosThen : List Bool → ℕ → Type 0
ZerosThen bits n = (bits ≡ replicate n false) ⊎ ((tail : List Bool) × (bits ≡ replicate n false ++ true ∷ tail))

-- one more zero at the front
zero_before : (bits : List Bool) (n : ℕ) → ZerosThen bits n → ZerosThen (false ∷ bits) (suc n)
unfolding ZerosThen
zero_before bits n (inl zeros) = inl (ap (λ xs. false ∷ xs) zeros)
zero_before bits n (inr one) = inr (one.0, ap (λ xs. false ∷ xs) one.1)

zeros_then : (bits : List Bool) → ZerosThen bits (prefix_len not bits)
unfolding ZerosThen
zeros_then [] = inl refl
zeros_then (true ∷ bits) = inr (bits, refl)
zeros_then (false ∷ bits) = rw (add_comm 1 (prefix_len not bits), add-one) (zero_before bits (prefix_len not bits) (zeros_then bits))

prefix_len-code : (n : ℕ) (tail : List Bool) → prefix_len not (replicate n false ++ true ∷ tail) ≡ n
prefix_len-code zero tail = refl
prefix_len-code (suc n) tail = omega (arith, prefix_len-code n tail)

prefix_len-zeros : (n : ℕ) (more : List Bool) → n ≤ prefix_len not (replicate n false ++ more)
prefix_len-zeros zero more = omega arith
prefix_len-zeros (suc n) more = omega (arith, prefix_len-zeros n more)

-- too many zeros
pub many_zeros : (p : Place) → 32 ≤ prefix_len not p.rest → ue_at p ≡ Err TooLong
unfolding ue_at
many_zeros p h = rw (le-leb 32 (prefix_len not p.rest) h) refl

-- n zeros, and what is read after them
few_zeros : (p : Place) (n : ℕ) → prefix_len not p.rest ≡ n → n < 32 → ue_at p ≡ before (fixed_at (n + 1) (skip n p))
unfolding ue_at
few_zeros p n is h = rw (is, lt-leb 32 n h) refl

-- the bits at a place begin with too many zeros
pub record IsLongAt (p : Place) : Type 0 where
  pub zeros : 32 ≤ prefix_len not p.rest
  pub read : ue_at p ≡ Err TooLong

-- they end within n zeros
pub record EndsInZeros (p : Place) : Type 0 where
  pub n : ℕ
  pub few : n < 32
  pub bits : p.rest ≡ replicate n false
  pub read : ue_at p ≡ Err Cut

-- they end after n zeros, a 1 and fewer than n bits
pub record EndsInText (p : Place) : Type 0 where
  pub n : ℕ
  pub few : n < 32
  pub tail : List Bool
  pub bits : p.rest ≡ replicate n false ++ true ∷ tail
  pub short : length tail < n
  pub read : ue_at p ≡ Err Cut

-- they are n zeros, a 1, n bits and more
pub record BeginsWithCode (p : Place) : Type 0 where
  pub n : ℕ
  pub few : n < 32
  pub tail : List Bool
  pub bits : p.rest ≡ replicate n false ++ true ∷ tail
  pub whole : n ≤ length tail
  pub read : ue_at p ≡ Ok (number (true ∷ take n tail) - 1, record { before = p.before + n + (n + 1); rest = drop n tail })

pub fixed_short : (n : ℕ) (p : Place) → length p.rest < n → fixed_at n p ≡ Err Cut
fixed_short n p h = rw (lt-leb n (length p.rest) h) refl

pub fixed_long : (n : ℕ) (p : Place) → n ≤ length p.rest → fixed_at n p ≡ Ok (number (take n p.rest), skip n p)
fixed_long n p h = rw (le-leb n (length p.rest) h) refl

-- n bits stand for less than 2^n
pub fixed-lt : (n : ℕ) (r : Result ℕ CodeFault) (old new : Place) → Gives (λ v. v) r old new (fixed_at n old) → IfOk r (λ v. v < 2 ^ n)
fixed-lt n (Ok v) old new gives =
    elim (cases_lt (length old.rest) n) [
      | inl short ↦ let no = fixed_short n old short in cc
      | inr left ↦ let same : number (take n old.rest) ≡ v = ap (λ (x : ℕ × Place). x.0) (ok_is _ (v, new) (sym (fixed_long n old left) ∙ gives)) in subst (λ (x : ℕ). x < 2 ^ n) same (front-lt old.rest n left)
    ]
fixed-lt n (Err e) old new gives = tt

-- zeros alone are cut
pub all_zeros : (p : Place) → prefix_len not p.rest ≡ length p.rest → length p.rest < 32 → ue_at p ≡ Err Cut
all_zeros p all few =
    let n = length p.rest in
    let left : length (drop n p.rest) < n + 1 = rw length-drop (omega arith) in
    few_zeros p n all few ∙ ap before (fixed_short (n + 1) (skip n p) left)

-- after zeros and a 1: what stands there is the value's successor
pub read_after : (p : Place) (n : ℕ) → IsZeros p.rest n → ue_at p ≡ before (fixed_at (n + 1) (skip n p))
read_after p n z = few_zeros p n (sym z.zeros) z.few

ends_in_zeros : (p : Place) → prefix_len not p.rest < 32 → p.rest ≡ replicate (prefix_len not p.rest) false → EndsInZeros p
ends_in_zeros p few zeros =
    let n = prefix_len not p.rest in
    let left : length (drop n p.rest) < n + 1 = rw length-drop (omega (arith, ap length zeros, length-replicate {A = Bool} n false)) in
    record { n = n; few = few; bits = zeros; read = few_zeros p n refl few ∙ ap before (fixed_short (n + 1) (skip n p) left) }

-- what stands after n zeros
after_zeros : (n : ℕ) (bits tail : List Bool) → bits ≡ replicate n false ++ true ∷ tail → drop n bits ≡ true ∷ tail
after_zeros n bits tail is = ap (drop n) is ∙ drop_at (replicate n false) (true ∷ tail) n (length-replicate n false)

ends_in_text : (p : Place) (tail : List Bool) → prefix_len not p.rest < 32 → p.rest ≡ replicate (prefix_len not p.rest) false ++ true ∷ tail → length tail < prefix_len not p.rest → EndsInText p
ends_in_text p tail few is short =
    let n = prefix_len not p.rest in
    let left : length (drop n p.rest) < n + 1 = rw (after_zeros n p.rest tail is) (omega arith) in
    record { n = n; few = few; tail = tail; bits = is; short = short; read = few_zeros p n refl few ∙ ap before (fixed_short (n + 1) (skip n p) left) }

begins_with_code : (p : Place) (tail : List Bool) → prefix_len not p.rest < 32 → p.rest ≡ replicate (prefix_len not p.rest) false ++ true ∷ tail → prefix_len not p.rest ≤ length tail → BeginsWithCode p
begins_with_code p tail few is whole =
    let n = prefix_len not p.rest in
    let after = after_zeros n p.rest tail is in
    let left : n + 1 ≤ length (drop n p.rest) = rw after (omega arith) in
    let text : take (n + 1) (drop n p.rest) ≡ true ∷ take n tail = rw (after, add-one) refl in
    let rest : drop (n + 1) (drop n p.rest) ≡ drop n tail = rw (after, add-one) refl in
    record {
      n = n;
      few = few;
      tail = tail;
      bits = is;
      whole = whole;
      read =
          few_zeros p n refl few
          ∙ (ap before (fixed_long (n + 1) (skip n p) left)
          ∙ rw (text, rest) refl);
    }

-- the successor is there, and fits
pub successor_is : (p : Place) (n : ℕ) (x : ℕ × Place) → IsZeros p.rest n → fixed_at (n + 1) (skip n p) ≡ Ok x → (1 ≤ x.0) × (x.0 < 2 ^ 32)
unfolding ZerosThen
successor_is p n x z is =
    elim (zeros_then p.rest) [
      | inl zeros ↦ absurd (omega (arith, z.zeros, z.one, ap length zeros, length-replicate {A = Bool} (prefix_len not p.rest) false))
      | inr one ↦
          let bits : p.rest ≡ replicate n false ++ true ∷ one.0 = rw z.zeros one.1 in
          let after = after_zeros n p.rest one.0 bits in
          elim (cases_lt (length (drop n p.rest)) (n + 1)) [
            | inl short ↦ let no = fixed_short (n + 1) (skip n p) short in cc
            | inr left ↦
                let value : number (take (n + 1) (drop n p.rest)) ≡ x.0 = ap (λ (y : ℕ × Place). y.0) (ok_is _ x (sym (fixed_long (n + 1) (skip n p) left) ∙ is)) in
                let text : take (n + 1) (drop n p.rest) ≡ true ∷ take n one.0 = rw (after, add-one) refl in (
                  omega (arith, ap number text, pow_pos (length (take n one.0))),
                  omega (arith, front-lt (drop n p.rest) (n + 1) left, pow-le-pow_right {n = 2} (omega arith) {i = n + 1} {j = 32} (omega (arith, z.few))),
                )
          ]
    ]

-- what is read at a place, by how its bits begin
pub shape : (p : Place) → IsLongAt p ⊎ (EndsInZeros p ⊎ (EndsInText p ⊎ BeginsWithCode p))
unfolding ZerosThen
shape p =
    elim (cases_lt (prefix_len not p.rest) 32) [
      | inr long ↦ inl (record { zeros = long; read = many_zeros p long })
      | inl few ↦ elim (zeros_then p.rest) [
        | inl zeros ↦ inr (inl (ends_in_zeros p few zeros))
        | inr one ↦ elim (cases_lt (length one.0) (prefix_len not p.rest)) [
          | inl short ↦ inr (inr (inl (ends_in_text p one.0 few one.1 short)))
          | inr whole ↦ inr (inr (inr (begins_with_code p one.0 few one.1 whole)))
        ]
      ]
    ]

-- n zeros, a 1 and n bits are a code
code_is : (n : ℕ) (tail : List Bool) → n < 32 → length tail ≡ n → IsUe (replicate n false ++ true ∷ tail) (number (true ∷ tail) - 1)
code_is n tail few long =
    record {
      text = true ∷ tail;
      binary = record { tail = tail; one = refl; value = omega (arith, pow_pos (length tail)) };
      padded = rw (long, sub-one) refl;
      short = omega arith;
    }

-- what was read is a code, and the place is past it
pub ue_ok : (p : Place) (x : ℕ × Place) → ue_at p ≡ Ok x → (word : List Bool) × IsUe word x.0 × Follows word p x.1
ue_ok p x is =
    elim (shape p) [
      | inl long ↦ cc
      | inr (inl zeros) ↦ cc
      | inr (inr (inl text)) ↦ cc
      | inr (inr (inr code)) ↦
          let same = ok_is _ x (sym code.read ∙ is) in
          let long : length (take code.n code.tail) ≡ code.n = length-take-le code.n code.tail code.whole in
          subst (λ (y : ℕ × Place). (word : List Bool) × IsUe word y.0 × Follows word p y.1) same (
            replicate code.n false ++ true ∷ take code.n code.tail,
            code_is code.n (take code.n code.tail) code.few long,
            record {
              bits = code.bits ∙ (ap (λ xs. replicate code.n false ++ true ∷ xs) (sym (take-append-drop code.n code.tail)) ∙ sym (append_assoc (replicate code.n false) (true ∷ take code.n code.tail) (drop code.n code.tail)));
              before = rw (length-append, length-replicate {A = Bool} code.n false) (omega (arith, long));
            },
          )
    ]

-- zeros that the bits end in can be made a code
zeros_cut : (n : ℕ) → n < 32 → IsCut (replicate n false)
zeros_cut n few =
    record {
      v = number (true ∷ replicate n false) - 1;
      word = replicate n false ++ true ∷ replicate n false;
      missing = true ∷ replicate n false;
      code = code_is n (replicate n false) few (length-replicate n false);
      front = refl;
      ends = omega arith;
    }

-- and so can zeros, a 1 and too few bits
text_cut : (n : ℕ) (tail : List Bool) → n < 32 → length tail < n → IsCut (replicate n false ++ true ∷ tail)
text_cut n tail few short =
    let more = replicate (n - length tail) false in
    let long : length more ≡ n - length tail = length-replicate (n - length tail) false in
    record {
      v = number (true ∷ (tail ++ more)) - 1;
      word = replicate n false ++ true ∷ (tail ++ more);
      missing = more;
      code = code_is n (tail ++ more) few (rw length-append (omega arith));
      front = sym (append_assoc (replicate n false) (true ∷ tail) more);
      ends = omega arith;
    }

pub cut_is : (p : Place) → ue_at p ≡ Err Cut → IsCut p.rest
cut_is p is =
    elim (shape p) [
      | inl long ↦ cc
      | inr (inl zeros) ↦ rw zeros.bits (zeros_cut zeros.n zeros.few)
      | inr (inr (inl text)) ↦ rw text.bits (text_cut text.n text.tail text.few text.short)
      | inr (inr (inr code)) ↦ cc
    ]

zeros_front : (n : ℕ) (bits : List Bool) → n ≤ prefix_len not bits → bits ≡ replicate n false ++ drop n bits
zeros_front zero bits h = refl
zeros_front (suc n) [] h = absurd (omega arith)
zeros_front (suc n) (true ∷ bits) h = absurd (omega arith)
zeros_front (suc n) (false ∷ bits) h = ap (λ xs. false ∷ xs) (zeros_front n bits (omega arith))

pub long_is : (p : Place) → ue_at p ≡ Err TooLong → IsTooLong p.rest
long_is p is =
    elim (shape p) [
      | inl long ↦ record { more = drop 32 p.rest; zeros = zeros_front 32 p.rest long.zeros }
      | inr (inl zeros) ↦ cc
      | inr (inr (inl text)) ↦ cc
      | inr (inr (inr code)) ↦ cc
    ]

pub is_long : (p : Place) → IsTooLong p.rest → ue_at p ≡ Err TooLong
is_long p long = many_zeros p (rw long.zeros (prefix_len-zeros 32 long.more))

-- a code is n zeros, a 1 and n bits
pub record CodeParts (word : List Bool) (v : ℕ) : Type 0 where
  pub n : ℕ
  pub few : n < 32
  pub tail : List Bool
  pub long : length tail ≡ n
  pub bits : word ≡ replicate n false ++ true ∷ tail
  pub value : number (true ∷ tail) ≡ v + 1

parts_of : (word : List Bool) (v : ℕ) → IsUe word v → CodeParts word v
parts_of word v code =
    let b = code.binary in
    let long : length code.text ≡ suc (length b.tail) = ap length b.one in
    record {
      n = length b.tail;
      few = omega (arith, code.short);
      tail = b.tail;
      long = refl;
      bits = code.padded ∙ rw (long, b.one, sub-one) refl;
      value = subst (λ (xs : List Bool). number xs ≡ v + 1) b.one b.value;
    }

pub same_place : (p q : Place) → p.before ≡ q.before → p.rest ≡ q.rest → p ≡ q
same_place p q b r =
    ap (λ (n : ℕ). let x : Place = record { before = n; rest = p.rest } in x) b ∙ ap (λ (xs : List Bool). let x : Place = record { before = q.before; rest = xs } in x) r

-- whatever code the bits begin with is what is read
pub ue_only : (word : List Bool) (v : ℕ) (p new : Place) → IsUe word v → Follows word p new → ue_at p ≡ Ok (v, new)
ue_only word v p new code follows =
    let c = parts_of word v code in
    let bits : p.rest ≡ replicate c.n false ++ true ∷ (c.tail ++ new.rest) = follows.bits ∙ (ap (λ xs. xs ++ new.rest) c.bits ∙ append_assoc (replicate c.n false) (true ∷ c.tail) new.rest) in
    let zeros : prefix_len not p.rest ≡ c.n = rw bits (prefix_len-code c.n (c.tail ++ new.rest)) in
    let after = after_zeros c.n p.rest (c.tail ++ new.rest) bits in
    let left : c.n + 1 ≤ length (drop c.n p.rest) = rw (after, length-append) (omega (arith, c.long)) in
    let text : take (c.n + 1) (drop c.n p.rest) ≡ true ∷ c.tail =
    rw (after, add-one) (ap (λ xs. true ∷ xs) (take_at c.tail new.rest c.n c.long)) in
    let rest : drop (c.n + 1) (drop c.n p.rest) ≡ new.rest = rw (after, add-one) (drop_at c.tail new.rest c.n c.long) in
    let long : length word ≡ c.n + (c.n + 1) =
    ap length c.bits ∙ rw (length-append, length-replicate {A = Bool} c.n false) (omega (arith, c.long)) in
    let value : number (take (c.n + 1) (drop c.n p.rest)) - 1 ≡ v = rw text (omega (arith, c.value)) in
    let place : skip (c.n + 1) (skip c.n p) ≡ new = same_place _ new (omega (arith, follows.before)) rest in
    few_zeros p c.n zeros c.few
    ∙ (ap before (fixed_long (c.n + 1) (skip c.n p) left)
    ∙ (ap (λ n. Ok (n, skip (c.n + 1) (skip c.n p))) value ∙ ap (λ q. Ok (v, q)) place))

-- bits that end within a code don't begin with too many zeros
not_long : (bits : List Bool) → IsCut bits → 32 ≤ prefix_len not bits → ⊥
not_long bits cut many =
    let c = parts_of cut.word cut.v cut.code in
    let word : cut.word ≡ replicate 32 false ++ (drop 32 bits ++ cut.missing) =
    cut.front ∙ (ap (λ xs. xs ++ cut.missing) (zeros_front 32 bits many) ∙ append_assoc (replicate 32 false) (drop 32 bits) cut.missing) in
    let zeros : prefix_len not cut.word ≡ c.n = ap (prefix_len not) c.bits ∙ prefix_len-code c.n c.tail in
    omega (arith, ap (prefix_len not) word, prefix_len-zeros 32 (drop 32 bits ++ cut.missing), c.few)

-- and with no whole code
not_whole : (bits tail : List Bool) (n : ℕ) → IsCut bits → bits ≡ replicate n false ++ true ∷ tail → n ≤ length tail → ⊥
not_whole bits tail n cut is whole =
    let c = parts_of cut.word cut.v cut.code in
    let word : cut.word ≡ replicate n false ++ true ∷ (tail ++ cut.missing) =
    cut.front ∙ (ap (λ xs. xs ++ cut.missing) is ∙ append_assoc (replicate n false) (true ∷ tail) cut.missing) in
    let zeros : n ≡ c.n =
    sym (ap (prefix_len not) word ∙ prefix_len-code n (tail ++ cut.missing)) ∙ (ap (prefix_len not) c.bits ∙ prefix_len-code c.n c.tail) in
    let long : length cut.word ≡ n + (1 + (length tail + length cut.missing)) = ap length word ∙ rw (length-append, length-replicate {A = Bool} n false) (omega (arith, length-append tail cut.missing)) in
    let whole_word : length cut.word ≡ c.n + (1 + c.n) = ap length c.bits ∙ rw (length-append, length-replicate {A = Bool} c.n false) (omega (arith, c.long)) in
    omega (arith, cut.ends)

pub is_cut : (p : Place) → IsCut p.rest → ue_at p ≡ Err Cut
is_cut p cut =
    elim (shape p) [
      | inl long ↦ absurd (not_long p.rest cut long.zeros)
      | inr (inl zeros) ↦ zeros.read
      | inr (inr (inl text)) ↦ text.read
      | inr (inr (inr code)) ↦ absurd (not_whole p.rest code.tail code.n cut code.bits code.whole)
    ]

-- The clauses of the public calls, from what they answer.
pub ue_found : (r : Result ℕ CodeFault) (old new : Place) → Gives (λ v. v) r old new (ue_at old) → IfOk r (λ v. (word : List Bool) × IsUe word v × Follows word old new)
ue_found (Ok v) old new gives = ue_ok old (v, new) gives
ue_found (Err e) old new gives = tt

pub ue_cut : (r : Result ℕ CodeFault) (old new : Place) → Gives (λ v. v) r old new (ue_at old) → IsErrOf r Cut ↔ IsCut old.rest
ue_cut (Ok v) old new gives = (λ is. cc, λ cut. let no = is_cut old cut in cc)
ue_cut (Err e) old new gives = (λ is. cut_is old cc, λ cut. let yes = is_cut old cut in cc)

pub ue_long : (r : Result ℕ CodeFault) (old new : Place) → Gives (λ v. v) r old new (ue_at old) → IsErrOf r TooLong ↔ IsTooLong old.rest
ue_long (Ok v) old new gives = (λ is. cc, λ long. let no = is_long old long in cc)
ue_long (Err e) old new gives = (λ is. long_is old cc, λ long. let yes = is_long old long in cc)

pub ue_answer : (r : Result ℕ CodeFault) (old new : Place) → Gives (λ v. v) r old new (ue_at old) → (word : List Bool) (v : ℕ) (after : Place) → IsUe word v → Follows word old after → (r ≡ Ok v) × (new ≡ after)
ue_answer (Ok w) old new gives word v after code follows =
    let same = ok_is (w, new) (v, after) (sym gives ∙ ue_only word v old after code follows) in
    (ap (λ (x : ℕ × Place). Ok x.0) same, ap (λ (x : ℕ × Place). x.1) same)
ue_answer (Err e) old new gives word v after code follows = let read = ue_only word v old after code follows in cc

-- a code has at most 63 bits
pub ue_near : (p : Place) (x : ℕ × Place) → ue_at p ≡ Ok x → x.1.before ≤ p.before + 63
ue_near p x is =
    let read = ue_ok p x is in
    let c = parts_of read.0 x.0 read.1 in
    let long : length read.0 ≡ c.n + (1 + c.n) = ap length c.bits ∙ rw (length-append, length-replicate {A = Bool} c.n false) (omega (arith, c.long)) in
    omega (arith, read.2.before, c.few)

pub ue_advance : (r : Result ℕ CodeFault) (old new : Place) → Gives (λ v. v) r old new (ue_at old) → new.before ≤ old.before + 63
ue_advance (Ok v) old new gives = ue_near old (v, new) gives
ue_advance (Err e) old new gives = omega (arith, ap (λ (p : Place). p.before) gives.1)
